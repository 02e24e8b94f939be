use Rattle.std.proofs.Common.{◌≡◌, Some, slice_get}
use Rattle.play.specs.Parties.{AreAt}
use Rattle.play.specs.Played.{Stand}
use Rattle.play.specs.Watchers.{Watcher}
use Rattle.play.proofs.Through.{HasGone}
use Rattle.play.proofs.engine.Engine.step_through.Given as goal

-- the lines so far are appended, and those that are left are those of the watcher as it is now
abbrev pub invariant-loop : goal.invariant-loop
invariant-loop g l =
    (stand : Stand) (watcher : Watcher) → AreAt g.H.NodeHash.digest_of g.V.Vuf.value_of g.S.Signer.signature_of g.R.Rng.stream g.V.VufCheck.accepted g.S.Verifier.verified l.fn.self stand → slice_get stand.watchers l.place ≡ Some watcher
    → HasGone g.H.NodeHash.digest_of g.V.Vuf.value_of g.S.Signer.signature_of g.R.Rng.stream g.V.VufCheck.accepted g.S.Verifier.verified l.fn.self l.fn.text.items stand l.place watcher l.text.items l.self
