use Rattle.std.proofs.Common.{◌∙◌}
use Rattle.rootchain.specs.Promises.{PromiseVerifies}
use Rattle.rootchain.proofs.Chains.{same-signature}
use Rattle.rootchain.proofs.signed_promise.SignedPromise.verifies.Goals as goal

pub returns : goal.returns
unfolding PromiseVerifies
returns g c = same-signature g.S.Verifier.verified c.args.key.now _ _ _ _ _ c.verify.ensures (c.bytes.ensures.value ∙ c.write.ensures.value) c.bytes-2.ensures.value
