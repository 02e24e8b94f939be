use Rattle.std.proofs.Common.{◌≡◌}
use Rattle.book.specs.Shows.{index_of}
use Rattle.epochs.specs.DirectoryStates.{provider, HasKeysOf}
use Rattle.play.specs.Parties.{AreBehind}
use Rattle.play.specs.Played.{Stand}
use Rattle.play.proofs.Followed.{HaveWatched}
use Rattle.play.proofs.engine.Engine.follow.Given as goal

-- the monitors before this place have watched
abbrev pub invariant-loop-place : goal.invariant-loop-place
invariant-loop-place g l = HasKeysOf l.fn.self.hub.service.directory l.self.hub.service.directory
    × ((stand : Stand) → AreBehind g.H.NodeHash.digest_of g.V.Vuf.value_of g.S.Signer.signature_of g.R.Rng.stream g.V.VufCheck.accepted g.S.Verifier.verified l.fn.self stand
    → HaveWatched g.H.NodeHash.digest_of g.V.Vuf.value_of g.S.Signer.signature_of g.R.Rng.stream g.V.VufCheck.accepted g.S.Verifier.verified
    (index_of (provider g.H.NodeHash.digest_of g.V.Vuf.value_of g.S.Signer.signature_of l.fn.self.hub.service.directory)) l.fn.text.items stand l.place-end l.place l.text.items l.self)
    × (l.self.client.looks ≡ l.fn.self.client.looks)
