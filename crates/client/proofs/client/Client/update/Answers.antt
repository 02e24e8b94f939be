use Rattle.std.proofs.Common.{◌≡◌, refl}
use Rattle.rootchain.specs.TakingLists.{with_roots}
use Rattle.rootchain.proofs.TakingLists.{takes-chain}
use Rattle.client.proofs.Growing.{grown}
use Rattle.client.proofs.InBytes.{bytes-refused}
use Rattle.client.proofs.client.Client.update.Goals.{in-Ok, in-Err}
use Rattle.client.proofs.client.Client.update.Goals as goal

pub invariant_of-self : goal.invariant_of-self
invariant_of-self g c =
    let more = c.take_bytes.ensures.grows.0 in
    let is : c.take_bytes.new.self ≡ with_roots c.self.inside.chain more = c.take_bytes.ensures.grows.1 in
    rw is (grown g.H.NodeHash.digest_of g.V.VufCheck.accepted g.S.Verifier.verified _ c.self.invariant more (rw is at (c.take_bytes.ensures.form c.self.invariant.roots)))

pub returns-clause-updates : goal.returns-clause-updates
returns-clause-updates g c = elim c.match-take_bytes.branch [
  | in-Ok w ↦ rw (w.result-is, ← c.self.view_is) (w.in-Ok.ensures.takes.0, c.take_bytes.new.self, w.in-Ok.ensures.takes.1, w.in-Ok.ensures.takes.2, refl)
  | in-Err w ↦ rw (w.result-is, ← c.self.view_is) (bytes-refused g.H.NodeHash.digest_of g.S.Verifier.verified _ c.args.bytes.now w.in-Err.why c.take_bytes.new.self w.tell.result w.in-Err.ensures.takes w.tell.ensures)
]

pub returns-clause-chain : goal.returns-clause-chain
returns-clause-chain g c = elim c.match-take_bytes.branch [
  | in-Ok w ↦ rw w.result-is (takes-chain g.H.NodeHash.digest_of g.S.Verifier.verified _ c.self.inside.chain c.take_bytes.new.self c.take_bytes.ensures.chain w.in-Ok.ensures.takes.2)
  | in-Err w ↦ rw w.result-is tt
]
