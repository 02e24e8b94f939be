use Rattle.std.proofs.Common.{◌≡◌, ◌+◌, ◌∙◌, ◌++◌, ◌∷◌, [], ap, get_or, map, sym, take}
use Rattle.std.proofs.Transfers.{starts_with_trans}
use Rattle.std.proofs.lemmas.List.{map-append, take_more}
use Rattle.rootchain.specs.declared.signed_promise.SignedPromise.{SignedPromise}
use Rattle.memory.specs.Learning.{promised_item, LearnsOne}
use Rattle.memory.proofs.Learned.{err_so, one_more, some_mapped}
use Rattle.memory.proofs.Taken.{promises-taken, taken_some}
use Rattle.memory.proofs.memory.Memory.learn_promises.Goals as goal

pub returns-in_err-learn-clause-err : goal.returns-in_err-learn-clause-err
returns-in_err-learn-clause-err c = err_so c.from_residual.result
    (some_mapped LearnsOne (promised_item c.args.is_own) c.args.promises.now c.loop-signed.signed-index c.args.self.now c.loop-signed.self c.learn.new.self c.args.lines.now.items c.loop-signed.lines.items
    c.loop-signed.invariant.0 c.in_err-learn.ensures.err)

pub loop-signed-preserved : goal.loop-signed-preserved
loop-signed-preserved c =
    let item = promised_item c.args.is_own in
    let promises = c.args.promises.now in
    let place = c.loop-signed.signed-index in
    let signed = c.copied-signed.result in
    let front = take place promises in
    let read : c.signed-item.result ≡ signed = sym c.copied-signed.ensures in
    let next : take (place + 1) promises ≡ front ++ get_or promises place c.signed-item.result ∷ [] = take_more promises place c.signed-item.result c.loop-signed-test.true in
    let whole : take (place + 1) promises ≡ front ++ signed ∷ [] = next ∙ ap (λ (s : SignedPromise). front ++ s ∷ []) (sym c.signed-item.is ∙ read) in
    let mapped : map item (take (place + 1) promises) ≡ map item front ++ item signed ∷ [] = ap (map item) whole ∙ map-append item front (signed ∷ []) in (
      rw mapped (one_more LearnsOne (map item front) (item signed) c.args.self.now c.loop-signed.self c.learn.new.self c.args.lines.now.items c.loop-signed.lines.items c.learn.new.lines.items c.loop-signed.invariant.0 c.in_ok-learn.ensures.ok),
      starts_with_trans _ _ _ c.in_ok-learn.ensures.grows c.loop-signed.invariant.1,
    )

pub returns-clause-takes : goal.returns-clause-takes
returns-clause-takes c = λ sound.
    promises-taken c.args.is_own c.args.promises.now c.loop-signed.signed-index c.args.self.now c.loop-signed.self c.args.lines.now.items c.loop-signed.lines.items sound c.loop-signed.invariant.0

pub returns-in_err-learn-clause-some : goal.returns-in_err-learn-clause-some
returns-in_err-learn-clause-some c = λ sound.
    let taken = promises-taken c.args.is_own c.args.promises.now c.loop-signed.signed-index c.args.self.now c.loop-signed.self c.args.lines.now.items c.loop-signed.lines.items sound c.loop-signed.invariant.0 in
    err_so c.from_residual.result (taken_some c.args.self.now c.loop-signed.self c.learn.new.self c.args.lines.now.items c.loop-signed.lines.items taken c.in_err-learn.ensures.err)
