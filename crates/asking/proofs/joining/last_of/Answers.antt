use Rattle.std.proofs.Common.{List, option_map, refl}
use Rattle.rootchain.specs.declared.signed_promise.SignedPromise.{SignedPromise}
use Rattle.asking.specs.Joining.{IsLatest}
use Rattle.asking.proofs.Joined.{at_end}
use Rattle.asking.proofs.joining.last_of.Goals as goal

pub returns : goal.returns
returns c =
    let last = option_map (λ signed. signed.now) c.loop-signed.last in
    c.loop-signed.invariant last
    (at_end (λ (all : List SignedPromise). IsLatest c.args.marks.now c.args.name.now c.args.epoch last all last) c.args.promises.now c.loop-signed.signed-index c.loop-signed-test.false refl)
