use Rattle.std.proofs.Common.{◌≡◌, ◌+◌, ◌∙◌, ◌++◌, ◌∷◌, [], ap, get_or, sym, take}
use Rattle.std.proofs.Transfers.{starts_with_trans}
use Rattle.std.proofs.lemmas.List.{take_more}
use Rattle.memory.specs.Learning.{LearnsFinal}
use Rattle.memory.specs.declared.final_seen.FinalSeen.{FinalSeen}
use Rattle.memory.proofs.Learned.{err_so, one_more, some_did}
use Rattle.memory.proofs.Taken.{taken_more, taken_some}
use Rattle.memory.proofs.memory.Memory.learn_finals.Goals as goal

pub returns-in_err-learn_final-clause-err : goal.returns-in_err-learn_final-clause-err
returns-in_err-learn_final-clause-err c = err_so c.from_residual.result
    (some_did LearnsFinal c.args.finals.now c.loop-seen.seen-index c.args.self.now c.loop-seen.self c.learn_final.new.self c.args.lines.now.items c.loop-seen.lines.items
    c.loop-seen.invariant.0 c.in_err-learn_final.ensures.err)

pub returns-in_err-learn_final-clause-some : goal.returns-in_err-learn_final-clause-some
returns-in_err-learn_final-clause-some c = err_so c.from_residual.result
    (taken_some c.args.self.now c.loop-seen.self c.learn_final.new.self c.args.lines.now.items c.loop-seen.lines.items c.loop-seen.invariant.2 c.in_err-learn_final.ensures.err)

pub loop-seen-preserved : goal.loop-seen-preserved
loop-seen-preserved c =
    let some = c.args.finals.now in
    let place = c.loop-seen.seen-index in
    let seen = c.seen-item.result in
    let front = take place some in
    let next : take (place + 1) some ≡ front ++ get_or some place seen ∷ [] = take_more some place seen c.loop-seen-test.true in
    let whole : take (place + 1) some ≡ front ++ seen ∷ [] = next ∙ ap (λ (s : FinalSeen). front ++ s ∷ []) (sym c.seen-item.is) in (
      rw whole (one_more LearnsFinal front seen c.args.self.now c.loop-seen.self c.learn_final.new.self c.args.lines.now.items c.loop-seen.lines.items c.learn_final.new.lines.items c.loop-seen.invariant.0 c.in_ok-learn_final.ensures.ok),
      starts_with_trans _ _ _ c.in_ok-learn_final.ensures.grows c.loop-seen.invariant.1,
      taken_more c.args.self.now c.loop-seen.self c.learn_final.new.self c.args.lines.now.items c.loop-seen.lines.items c.learn_final.new.lines.items c.loop-seen.invariant.2 c.in_ok-learn_final.ensures.takes,
    )
