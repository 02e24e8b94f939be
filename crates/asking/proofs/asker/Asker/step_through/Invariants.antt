use Rattle.std.proofs.Common.{ℕ}
use Rattle.asking.specs.Exchanges.{ExchangesFrames}
use Rattle.asking.specs.Scenes.{scene, Scene, StaysWhole}
use Rattle.asking.specs.Watching.{StepsOn, StepsThrough}
use Rattle.asking.proofs.asker.Asker.step_through.Given as goal

-- whatever steps follow complete those from the first on
abbrev pub invariant-loop : goal.invariant-loop
invariant-loop g l = record {
  steps : (count : ℕ) (after : Scene g.row.T.Denot)
      → StepsThrough g.H.NodeHash.digest_of g.V.VufCheck.accepted (ExchangesFrames g.T.Write.contents g.T.Read.remaining) count (scene l.self l.said l.stream) l.place after
      → (whole : ℕ) × StepsThrough g.H.NodeHash.digest_of g.V.VufCheck.accepted (ExchangesFrames g.T.Write.contents g.T.Read.remaining) whole (scene l.fn.self l.fn.said l.fn.stream) l.place after;
  some : (count : ℕ) (reached : Scene g.row.T.Denot)
      → StepsOn g.H.NodeHash.digest_of g.V.VufCheck.accepted (ExchangesFrames g.T.Write.contents g.T.Read.remaining) count (scene l.self l.said l.stream) l.place reached
      → (whole : ℕ) × StepsOn g.H.NodeHash.digest_of g.V.VufCheck.accepted (ExchangesFrames g.T.Write.contents g.T.Read.remaining) whole (scene l.fn.self l.fn.said l.fn.stream) l.place reached;
  stays : StaysWhole l.fn.self l.self;
}
