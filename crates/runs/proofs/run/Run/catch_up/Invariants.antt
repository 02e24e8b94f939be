use Rattle.std.proofs.Common.{◌≡◌, ◌≤◌, ◌++◌, ℕ, List, None, Option}
use Rattle.asking.specs.Exchanges.{ExchangesFrames}
use Rattle.runs.specs.Lateness.{HasNoted, IsSameLimit}
use Rattle.runs.specs.Marking.{MarksOn}
use Rattle.runs.specs.Runs.{AdvancesLists, Grows, background_of}
use Rattle.runs.specs.Saves.{Act, Found}
use Rattle.asking.specs.Scenes.{scene}
use Rattle.runs.specs.Standing.{RunStands}
use Rattle.runs.proofs.run.Run.catch_up.Given as goal

abbrev pub invariant-loop-list : goal.invariant-loop-list
invariant-loop-list g l = record {
  lists : AdvancesLists g.H.NodeHash.digest_of g.V.VufCheck.accepted g.S.Verifier.verified (ExchangesFrames g.T.Write.contents g.T.Read.remaining) l.fn.epoch l._list
      (scene l.fn.asker l.fn.self.said l.fn.stream) (g.W.Write.contents l.fn.writer) (g.W.Write.contents l.writer) (scene l.asker l.self.said l.stream);
  same : background_of l.asker ≡ background_of l.fn.asker;
  changes : l.asker.changes ≡ l.fn.asker.changes;
  grows : Grows (g.W.Write.contents l.fn.writer) (g.W.Write.contents l.writer);
  stands : (lines : Option (List (List ℕ))) (start : Found) (old : List ℕ) (acts : List Act)
      → RunStands g.H.NodeHash.digest_of g.V.VufCheck.accepted g.S.Verifier.verified lines start old (λ done. g.K.Keeper.has l.fn.keeper (done ++ acts)) l.fn.asker l.fn.self.said.text.items l.fn.self.state (g.W.Write.contents l.fn.writer)
      → RunStands g.H.NodeHash.digest_of g.V.VufCheck.accepted g.S.Verifier.verified lines start old (λ done. g.K.Keeper.has l.keeper (done ++ acts)) l.asker l.self.said.text.items l.self.state (g.W.Write.contents l.writer);
  rises : l.fn.self.said.status ≤ l.self.said.status;
  marks : (lines : Option (List (List ℕ))) (start : Found) (old : List ℕ) (acts : List Act)
      → RunStands g.H.NodeHash.digest_of g.V.VufCheck.accepted g.S.Verifier.verified lines start old (λ done. g.K.Keeper.has l.fn.keeper (done ++ acts)) l.fn.asker l.fn.self.said.text.items l.fn.self.state (g.W.Write.contents l.fn.writer)
      → MarksOn l.fn.self.state l.fn.asker.monitors.items l.self.state l.asker.monitors.items;
  none : l.fn.self.state ≡ None → l.self.state ≡ None;
  limit : IsSameLimit l.fn.self.limit l.self.limit;
  noted : HasNoted l.fn.asker l.fn.self.limit → HasNoted l.asker l.self.limit;
}
