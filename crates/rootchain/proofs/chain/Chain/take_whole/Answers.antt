use Rattle.std.proofs.Common.{rules, arith, ◌≡◌, ◌≢◌, length, ap}
use Rattle.rootchain.specs.declared.list_refusal.ListRefusal.TheVariants.{Memory}
use Rattle.rootchain.specs.Chains.{KeyedRoots}
use Rattle.rootchain.specs.RootFeeds.{told_from}
use Rattle.rootchain.specs.TakingLists.{StopsAt}
use Rattle.rootchain.proofs.TakingLists.{taken-off, takes-grows}
use Rattle.rootchain.proofs.TakingPieces.{done-never-stops, told-refused}
use Rattle.rootchain.proofs.chain.Chain.take_whole.Goals as goal

-- memory ran out: the roots that were taken are taken off again
pub returns-then-is_memory-clause-takes : goal.returns-then-is_memory-clause-takes
returns-then-is_memory-clause-takes g c =
    let none : c.take_told.new.why ≡ Memory = search rules in
    let stops : StopsAt g.H.NodeHash.digest_of g.S.Verifier.verified c.args.self.now (told_from c.args.feed.now c.args.piece.now).0 Memory c.take_told.new.self =
    rw (none) at c.in-Refused.ensures.told in
    let grown = takes-grows g.H.NodeHash.digest_of g.S.Verifier.verified stops.0 c.args.self.now c.take_told.new.self stops.4 in
    let had : c.len-before.result ≡ length c.args.self.now.roots =
    omega (arith, c.len-before.ensures, c.self.inside.roots.ok.0, ap (λ (chain : KeyedRoots). length chain.roots) c.self.view_is) in
    rw none (
      search rules,
      (λ done. done-never-stops g.H.NodeHash.digest_of g.S.Verifier.verified c.args.self.now c.take_told.new.self c.args.feed.now c.args.piece.now Memory done stops),
      rw (c.truncate.ensures.items) (taken-off c.args.self.now c.take_told.new.self c.self-2.inside.key c.self-2.inside.roots.items grown.0 c.len-before.result c.self-2.view_is grown.1 had),
      c.copied-held.ensures,
    )

pub returns-else-is_memory-clause-takes : goal.returns-else-is_memory-clause-takes
returns-else-is_memory-clause-takes g c =
    let other : c.take_told.new.why ≢ Memory = search rules in
    rw c.fail.ensures (told-refused g.H.NodeHash.digest_of g.S.Verifier.verified c.args.self.now c.args.feed.now c.args.piece.now c.take_told.new.why c.take_told.new.self c.take_told.new.feed c.in-Refused.ensures.told other)
