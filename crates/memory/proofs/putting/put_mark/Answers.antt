use Rattle.std.proofs.Common.{◌≡◌, ◌∙◌, ◌<◌, ap, sym, length, rules}
use Rattle.std.specs.Prelude.{slice_index_or, All, ◌≢◌}
use Rattle.memory.specs.Memories.{name_of}
use Rattle.memory.specs.Taking.{later}
use Rattle.memory.specs.declared.mark.Mark.{Mark}
use Rattle.memory.proofs.Joined.{push-no_repeat, put_at, set-no_repeat}
use Rattle.memory.proofs.putting.put_mark.Goals as goal

pub returns-in-Some-clause-puts : goal.returns-in-Some-clause-puts
returns-in-Some-clause-puts c =
    let marks = c.args.marks.now.items in
    let place = c.in-Some.place in
    let kept = c.index.result.now in
    let within : place < length marks = search rules in
    let named : (d : Mark) → (slice_index_or marks place d).name ≡ c.args.new.name = search rules in
    put_at name_of later c.args.new marks place kept c.differs-is_new.result within (sym c.index.ensures) (ap name_of c.index.ensures ∙ named kept) c.differs-is_new.ensures

pub returns-in-Some-clause-once : goal.returns-in-Some-clause-once
returns-in-Some-clause-once c = λ once.
    let marks = c.args.marks.now.items in
    let place = c.in-Some.place in
    let kept = c.index.result.now in
    let within : place < length marks = search rules in
    let named : (d : Mark) → (slice_index_or marks place d).name ≡ c.args.new.name = search rules in
    set-no_repeat name_of marks place kept c.args.new within (sym c.index.ensures) (sym (ap name_of c.index.ensures ∙ named kept)) once

pub returns-in_ok-push-in-None-clause-once : goal.returns-in_ok-push-in-None-clause-once
returns-in_ok-push-in-None-clause-once c = λ once.
    let none : All (λ (kept : Mark). kept.name ≢ c.args.new.name) c.args.marks.now.items = search rules in
    rw c.in_ok-push-in-None.ensures.items (push-no_repeat name_of c.args.marks.now.items c.args.new none once)
