use Rattle.std.proofs.Common.{◌≡◌}
use Rattle.epochs.specs.DirectoryStates.{HasKeysOf}
use Rattle.play.specs.Parties.{AreBehind}
use Rattle.play.specs.Played.{Stand}
use Rattle.play.proofs.engine.Engine.take_roots.Given as goal

-- whoever was behind still is, by whatever is left
abbrev pub invariant-loop : goal.invariant-loop
invariant-loop g l = HasKeysOf l.fn.self.hub.service.directory l.self.hub.service.directory
    × ((stand : Stand) → AreBehind g.H.NodeHash.digest_of g.V.Vuf.value_of g.S.Signer.signature_of g.R.Rng.stream g.V.VufCheck.accepted g.S.Verifier.verified l.fn.self stand
    → AreBehind g.H.NodeHash.digest_of g.V.Vuf.value_of g.S.Signer.signature_of g.R.Rng.stream g.V.VufCheck.accepted g.S.Verifier.verified l.self stand)
    × (l.self.client.looks ≡ l.fn.self.client.looks)
