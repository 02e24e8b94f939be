use Rattle.std.proofs.Common.{List, refl}
use Rattle.rootchain.specs.declared.signed_promise.SignedPromise.{SignedPromise}
use Rattle.asking.specs.Joining.{AllHand}
use Rattle.asking.proofs.Joined.{at_end}
use Rattle.asking.proofs.joining.hand_all.Goals as goal

pub returns : goal.returns
returns g c =
    c.loop-signed.invariant c.loop-signed.monitor
    (at_end (λ (all : List SignedPromise). AllHand g.H.NodeHash.digest_of g.V.VufCheck.accepted g.S.Verifier.verified all c.loop-signed.monitor c.loop-signed.monitor) c.args.promises.now c.loop-signed.signed-index
    c.loop-signed-test.false refl)
