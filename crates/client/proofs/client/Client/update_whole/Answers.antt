use Rattle.std.proofs.Common.{◌≡◌, Err, refl, ap, subst}
use Rattle.rootchain.specs.TakingLists.{with_roots}
use Rattle.rootchain.proofs.TakingPieces.{piece-chain}
use Rattle.rootchain.specs.TakingPieces.{TakesPiece}
use Rattle.client.specs.Clients.{Client}
use Rattle.client.specs.UpdatingFrom.{with_chain}
use Rattle.client.proofs.Growing.{grown}
use Rattle.client.proofs.client.Client.update_whole.Goals.{in-Ok, in-Err}
use Rattle.client.proofs.client.Client.update_whole.Goals as goal

pub invariant_of-self : goal.invariant_of-self
invariant_of-self g c =
    let more = c.take_piece.ensures.grows.0 in
    let is : c.take_piece.new.self ≡ with_roots c.self.inside.chain more = c.take_piece.ensures.grows.1 in
    rw is (grown g.H.NodeHash.digest_of g.V.VufCheck.accepted g.S.Verifier.verified _ c.self.invariant more (rw is at (c.take_piece.ensures.form c.self.invariant.roots)))

pub returns-clause-updates : goal.returns-clause-updates
returns-clause-updates g c = elim c.match-take_piece.branch [
  | in-Ok w ↦ rw (w.result-is, ← c.self.view_is) (c.take_piece.new.self, w.in-Ok.ensures.takes, refl)
  | in-Err w ↦ rw w.result-is (
    c.take_piece.new.self,
    w.in-Err.why,
    subst (λ (before : Client). TakesPiece g.H.NodeHash.digest_of g.S.Verifier.verified {A = Unit} before.chain c.args.feed.now c.args.piece.now (Err w.in-Err.why) c.take_piece.new.self c.take_piece.new.feed) c.self.view_is w.in-Err.ensures.takes,
    ap (λ (before : Client). with_chain before c.take_piece.new.self) c.self.view_is,
    w.tell.ensures,
  )
]

pub returns-clause-chain : goal.returns-clause-chain
returns-clause-chain g c =
    piece-chain g.H.NodeHash.digest_of g.S.Verifier.verified c.self.inside.chain c.args.feed.now c.args.piece.now c.take_piece.result c.take_piece.new.self c.take_piece.new.feed c.take_piece.ensures.chain c.take_piece.ensures.takes
