use Rattle.std.proofs.Common.{ℕ}
use Rattle.asking.specs.Exchanges.{ExchangesFrames}
use Rattle.asking.specs.Scenes.{scene, Scene, StaysWhole}
use Rattle.asking.specs.Visiting.{FindsKept, KeptOn}
use Rattle.asking.proofs.asker.Asker.test_each.Given as goal

-- whatever is tested from here on completes what was tested before
abbrev pub invariant-loop : goal.invariant-loop
invariant-loop g l = record {
  tests : (count : ℕ) (after : Scene g.row.T.Denot)
      → FindsKept g.H.NodeHash.digest_of g.V.VufCheck.accepted (ExchangesFrames g.T.Write.contents g.T.Read.remaining) count (scene l.self l.said l.stream) l.name after
      → (whole : ℕ) × FindsKept g.H.NodeHash.digest_of g.V.VufCheck.accepted (ExchangesFrames g.T.Write.contents g.T.Read.remaining) whole (scene l.fn.self l.fn.said l.fn.stream) l.name after;
  some : (count : ℕ) (reached : Scene g.row.T.Denot)
      → KeptOn g.H.NodeHash.digest_of g.V.VufCheck.accepted (ExchangesFrames g.T.Write.contents g.T.Read.remaining) count (scene l.self l.said l.stream) l.name reached
      → (whole : ℕ) × KeptOn g.H.NodeHash.digest_of g.V.VufCheck.accepted (ExchangesFrames g.T.Write.contents g.T.Read.remaining) whole (scene l.fn.self l.fn.said l.fn.stream) l.name reached;
  stays : StaysWhole l.fn.self l.self;
}
