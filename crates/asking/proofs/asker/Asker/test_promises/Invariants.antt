use Rattle.std.proofs.Common.{ℕ}
use Rattle.asking.specs.Exchanges.{ExchangesFrames}
use Rattle.asking.specs.Scenes.{scene, Scene, StaysWhole}
use Rattle.asking.specs.Visiting.{TestsFrom, VisitsOn}
use Rattle.asking.proofs.asker.Asker.test_promises.Given as goal

-- whatever is tested from this place on completes what was tested from the first
abbrev pub invariant-loop : goal.invariant-loop
invariant-loop g l = record {
  tests : (count : ℕ) (after : Scene g.row.T.Denot)
      → TestsFrom g.H.NodeHash.digest_of g.V.VufCheck.accepted (ExchangesFrames g.T.Write.contents g.T.Read.remaining) l.fn.self.marks.items count (scene l.self l.said l.stream) l.place after
      → (whole : ℕ) × TestsFrom g.H.NodeHash.digest_of g.V.VufCheck.accepted (ExchangesFrames g.T.Write.contents g.T.Read.remaining) l.fn.self.marks.items whole (scene l.fn.self l.fn.said l.fn.stream) 0 after;
  some : (count : ℕ) (reached : Scene g.row.T.Denot)
      → VisitsOn g.H.NodeHash.digest_of g.V.VufCheck.accepted (ExchangesFrames g.T.Write.contents g.T.Read.remaining) l.fn.self.marks.items count (scene l.self l.said l.stream) l.place reached
      → (whole : ℕ) × VisitsOn g.H.NodeHash.digest_of g.V.VufCheck.accepted (ExchangesFrames g.T.Write.contents g.T.Read.remaining) l.fn.self.marks.items whole (scene l.fn.self l.fn.said l.fn.stream) 0 reached;
  stays : StaysWhole l.fn.self l.self;
}
