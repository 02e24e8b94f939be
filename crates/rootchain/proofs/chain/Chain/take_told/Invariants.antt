use Rattle.std.proofs.Common.{◌≡◌, ◌+◌, ◌≤◌, length}
use Rattle.std.specs.List.{AllByRecursion}
use Rattle.rootchain.specs.RootFeeds.{told_from}
use Rattle.rootchain.specs.SignedRoots.{IsSignedRoot}
use Rattle.rootchain.proofs.TakingLists.{Leads}
use Rattle.rootchain.proofs.chain.Chain.take_told.Given as goal

abbrev pub invariant-loop-root : goal.invariant-loop-root
invariant-loop-root g l =
    Leads g.H.NodeHash.digest_of g.S.Verifier.verified l.fn.self (told_from l.fn.feed l.fn.piece).0 l.self (told_from l.feed l.rest).0
    × ((told_from l.feed l.rest).1 ≡ (told_from l.fn.feed l.fn.piece).1)
    × (g.H.NodeHash.digests l.hash + length (told_from l.feed l.rest).0 ≤ g.H.NodeHash.digests l.fn.hash + length (told_from l.fn.feed l.fn.piece).0)
    × (AllByRecursion IsSignedRoot l.fn.self.roots → AllByRecursion IsSignedRoot l.self.roots)

abbrev pub decreases-loop-root : goal.decreases-loop-root
decreases-loop-root g l = length (told_from l.feed l.rest).0
