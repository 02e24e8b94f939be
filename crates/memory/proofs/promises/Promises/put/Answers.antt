use Rattle.std.proofs.Common.{◌≡◌, ◌≢◌, ◌∙◌, ◌<◌, ap, sym, subst, length}
use Rattle.std.specs.List.{AllByRecursion}
use Rattle.std.specs.Prelude.{slice_index_or, MatchBool}
use Rattle.memory.specs.Memories.{signed_of}
use Rattle.memory.specs.PromiseIndex.{IsIndexed}
use Rattle.memory.specs.Taking.{either}
use Rattle.memory.specs.declared.promised.Promised.{Promised}
use Rattle.memory.proofs.Joined.{push-no_repeat, put_at, set-keys, set-no_repeat}
use Rattle.memory.proofs.promises.Promises.put.Goals as goal

pub invariant_of-self : goal.invariant_of-self
invariant_of-self c =
    let promises = c.self.inside.list.items in
    let place = c.in-Some.place in
    let kept = c.index_mut.result.now in
    let within : place < length promises = rw c.self.view_is c.in-Some.ensures.0 in
    let keys = set-keys signed_of promises place kept c.join.new.kept within (sym c.index_mut.ensures.value) (ap signed_of c.join.ensures.joined) in
    subst (AllByRecursion (IsIndexed c.self.inside.index)) (sym keys) c.self.invariant

pub returns-in-Some-clause-puts : goal.returns-in-Some-clause-puts
returns-in-Some-clause-puts c =
    let promises = c.self.inside.list.items in
    let place = c.in-Some.place in
    let kept = c.index_mut.result.now in
    let within : place < length promises = rw c.self.view_is c.in-Some.ensures.0 in
    let signed : (d : Promised) → (slice_index_or promises place d).signed ≡ c.args.new.signed = rw c.self.view_is c.in-Some.ensures.1 in
    let joined : c.join.new.kept ≡ either kept c.args.new = c.join.ensures.joined in
    let told : MatchBool c.join.result (kept ≢ either kept c.args.new) (kept ≡ either kept c.args.new) = rw joined at c.join.ensures.told in
    let puts = put_at signed_of either c.args.new promises place kept c.join.result within (sym c.index_mut.ensures.value) (ap signed_of c.index_mut.ensures.value ∙ signed kept) told in
    rw (← c.self.view_is, joined) puts

pub returns-in-Some-clause-once : goal.returns-in-Some-clause-once
returns-in-Some-clause-once c = rw (← c.self.view_is) (λ once.
    let promises = c.self.inside.list.items in
    let place = c.in-Some.place in
    let kept = c.index_mut.result.now in
    let within : place < length promises = rw c.self.view_is c.in-Some.ensures.0 in
    set-no_repeat signed_of promises place kept c.join.new.kept within (sym c.index_mut.ensures.value) (ap signed_of c.join.ensures.joined) once)

pub returns-in_ok-push-in-None-clause-once : goal.returns-in_ok-push-in-None-clause-once
returns-in_ok-push-in-None-clause-once c = λ once.
    rw c.in_ok-push-in-None.ensures.ok (push-no_repeat signed_of c.args.self.now c.args.new c.in-None.ensures once)
