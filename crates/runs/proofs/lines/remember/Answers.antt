use Rattle.std.proofs.Common.{◌∙◌, List, Contains, Ok, ap, map, subst, sym}
use Rattle.std.specs.List.Sorted.{IsPermutation}
use Rattle.textio.specs.Lines.{lines_of}
use Rattle.memory.specs.Lists.{HasNoRepeat}
use Rattle.memory.specs.Memories.{name_of, Memory}
use Rattle.memory.specs.Texts.{Spells}
use Rattle.rootchain.specs.Promises.{IsSignedPromise}
use Rattle.rootchain.specs.declared.signed_promise.SignedPromise.{SignedPromise}
use Rattle.runs.specs.Remembering.{AreWithin}
use Rattle.runs.proofs.Marks.{spelled_once}
use Rattle.runs.proofs.Remembered.{formed_on, remembered_own, sorted-all}
use Rattle.runs.proofs.lines.remember.Goals as goal

pub returns-clause-spells : goal.returns-clause-spells
returns-clause-spells g c = (c.in_ok-memory.ensures.spells, sym c.in_ok-asker-2.ensures)

pub returns-clause-marks : goal.returns-clause-marks
returns-clause-marks g c = c.in_ok-asker.ensures ∙ c.marks.ensures ∙ ap (λ (memory : Memory). memory.marks) (sym c.in_ok-asker-2.ensures)

pub returns-clause-formed : goal.returns-clause-formed
returns-clause-formed g c formed =
    sorted-all IsSignedPromise c.remember_lines.new.asker.earlier.items c.sort_promises.new.promises.items c.sort_promises.ensures.permutation
    (formed_on (lines_of c.args.text.now) c.args.asker.now.earlier.items c.remember_lines.new.asker.earlier.items c.in_ok-memory.ensures.earlier formed)

pub returns-clause-within : goal.returns-clause-within
returns-clause-within g c = subst (λ (memory : Memory). AreWithin c.args.asker.now.client.chain memory) (sym c.in_ok-asker-2.ensures) c.in_ok-memory.ensures.within

pub returns-clause-once : goal.returns-clause-once
returns-clause-once g c = subst (λ (memory : Memory). HasNoRepeat (map name_of memory.marks)) (sym c.in_ok-asker-2.ensures) (spelled_once c.args.text.now c.in_ok-memory.memory c.in_ok-memory.ensures.spells)

pub returns-clause-own : goal.returns-clause-own
returns-clause-own g c empty =
    remembered_own c.args.text.now c.in_ok-asker-2.field-0 c.args.asker.now.earlier.items c.remember_lines.new.asker.earlier.items c.sort_promises.new.promises.items
    (subst (λ (memory : Memory). Spells c.args.text.now (Ok memory)) (sym c.in_ok-asker-2.ensures) c.in_ok-memory.ensures.spells) c.in_ok-memory.ensures.earlier empty
    c.sort_promises.ensures.permutation c.in_ok-sort_promises.ensures.ascend

pub returns-clause-earlier : goal.returns-clause-earlier
returns-clause-earlier g c =
    let (own, are, grown) = c.in_ok-memory.ensures.earlier in
    (own, are, subst (λ (xs : List SignedPromise). IsPermutation xs c.sort_promises.new.promises.items) grown c.sort_promises.ensures.permutation)

pub returns-clause-kept : goal.returns-clause-kept
returns-clause-kept g c keeps =
    sorted-all (Contains c.remember_lines.new.asker.client.promises) c.remember_lines.new.asker.earlier.items c.sort_promises.new.promises.items c.sort_promises.ensures.permutation (c.in_ok-memory.ensures.kept keeps)
