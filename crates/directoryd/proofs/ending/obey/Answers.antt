use Rattle.std.proofs.Common.{◌≡◌, ℕ, List, Result}
use Rattle.std.proofs.KnownBytes.{Keeps-refl}
use Rattle.textio.specs.declared.program_fault.ProgramFault.{ProgramFault}
use Rattle.textio.specs.Digits.{hex32, hex32_or_zeros}
use Rattle.items.specs.Prove.{Proves}
use Rattle.items.specs.Root.{root_answer}
use Rattle.items.specs.TreeOptions.{tree_values}
use Rattle.directoryd.proofs.Outcomes.{ends_with_zero, is_zero, without_zero}
use Rattle.directoryd.proofs.ending.obey.Goals as goal

pub returns-in-Root : goal.returns-in-Root
returns-in-Root g c =
    let contents = g.W.Write.contents in
    let says : List ℕ → Result (List ℕ) ProgramFault → Type 0 = λ input said. root_answer (tree_values c.in-Root.order) input ≡ said in
    rw (c.in-Root.is, c.done.ensures) (ends_with_zero says _ (contents c.args.writer.now) (contents c.root.new.writer) c.root.result c.root.ensures.ends, Keeps-refl _)

pub returns-in-Prove : goal.returns-in-Prove
returns-in-Prove g c =
    let contents = g.W.Write.contents in
    let asked = tree_values c.in-Prove.order.root in
    let says = Proves asked.hash (hex32_or_zeros asked.nonce) (hex32 c.in-Prove.order.index.now) in
    rw (c.in-Prove.is, c.done-in-Prove.ensures) (ends_with_zero says _ (contents c.args.writer.now) (contents c.prove.new.writer) c.prove.result c.prove.ensures.ends, Keeps-refl _)

pub returns-in-Audit : goal.returns-in-Audit
returns-in-Audit g c = rw (c.in-Audit.is, c.done-in-Audit.ensures, without_zero c.audit.result) (is_zero c.audit.result, Keeps-refl _, g.R.Read.remaining c.audit.new.reader, c.audit.ensures.audits)

pub returns-in-Judge : goal.returns-in-Judge
returns-in-Judge g c =
    rw c.in-Judge.is c.judge.ensures

pub returns-in-Play : goal.returns-in-Play
returns-in-Play g c = rw (c.in-Play.is, c.done-in-Play.ensures, without_zero c.play.result) (is_zero c.play.result, Keeps-refl _, c.play.ensures)

pub returns-in-Serve : goal.returns-in-Serve
returns-in-Serve g c = rw (c.in-Serve.is, c.done-in-Serve.ensures, without_zero c.serve_keyed.result) (is_zero c.serve_keyed.result, c.serve_keyed.ensures)

pub returns-in-Listen : goal.returns-in-Listen
returns-in-Listen g c =
    rw (c.in-Listen.is, c.done-in-Listen.ensures, without_zero c.listen_keyed.result) (is_zero c.listen_keyed.result, Keeps-refl _, c.listen_keyed.ensures)

pub returns-in-Ask : goal.returns-in-Ask
returns-in-Ask g c = rw c.in-Ask.is c.ask_keyed.ensures
