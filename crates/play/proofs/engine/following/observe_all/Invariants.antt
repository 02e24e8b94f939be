use Rattle.std.proofs.Common.{◌≡◌, ◌+◌, length}
use Rattle.std.specs.List.{AllByRecursion}
use Rattle.rootchain.specs.Chains.{Verifies}
use Rattle.play.proofs.Taken.{IsObserving}
use Rattle.play.proofs.engine.following.observe_all.Given as goal

abbrev pub invariant-loop : goal.invariant-loop
invariant-loop g l = (l.counter + length l.roots ≡ l.end)
    × IsObserving g.H.NodeHash.digest_of g.S.Verifier.verified l.key l.fn.auditor l.initial.roots l.auditor l.roots
    × AllByRecursion (Verifies g.S.Verifier.verified l.key) l.roots
