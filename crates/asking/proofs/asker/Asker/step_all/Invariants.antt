use Rattle.std.proofs.Common.{◌≡◌, ◌-◌, length}
use Rattle.asking.specs.Exchanges.{ExchangesFrames}
use Rattle.asking.specs.Scenes.{scene, Scene, StaysWhole}
use Rattle.asking.specs.Watching.{AllStep, SomeStep}
use Rattle.asking.proofs.asker.Asker.step_all.Given as goal

-- whatever the monitors from this place on do completes what those before it did
abbrev pub invariant-loop-place : goal.invariant-loop-place
invariant-loop-place g l = record {
  goes : (after : Scene g.row.T.Denot)
      → AllStep g.H.NodeHash.digest_of g.V.VufCheck.accepted (ExchangesFrames g.T.Write.contents g.T.Read.remaining) (l.place-end - l.place) (scene l.self l.said l.stream) l.place after
      → AllStep g.H.NodeHash.digest_of g.V.VufCheck.accepted (ExchangesFrames g.T.Write.contents g.T.Read.remaining) l.place-end (scene l.fn.self l.fn.said l.fn.stream) 0 after;
  some : (reached : Scene g.row.T.Denot)
      → SomeStep g.H.NodeHash.digest_of g.V.VufCheck.accepted (ExchangesFrames g.T.Write.contents g.T.Read.remaining) (l.place-end - l.place) (scene l.self l.said l.stream) l.place reached
      → SomeStep g.H.NodeHash.digest_of g.V.VufCheck.accepted (ExchangesFrames g.T.Write.contents g.T.Read.remaining) l.place-end (scene l.fn.self l.fn.said l.fn.stream) 0 reached;
  stays : StaysWhole l.fn.self l.self;
  end : l.place-end ≡ length l.fn.self.monitors.items;
}
