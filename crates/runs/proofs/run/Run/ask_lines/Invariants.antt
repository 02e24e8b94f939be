use Rattle.std.proofs.Common.{◌≡◌, ◌≤◌, ◌++◌, ℕ, List}
use Rattle.std.specs.Prelude.{option_map}
use Rattle.textio.specs.Lines.{lines_of}
use Rattle.asking.specs.Exchanges.{ExchangesFrames}
use Rattle.runs.specs.Marking.{MarksOn}
use Rattle.runs.specs.Lateness.{IsSameLimit}
use Rattle.runs.specs.Runs.{Grows, background_of}
use Rattle.runs.specs.Saves.{Act, Found}
use Rattle.asking.specs.Scenes.{scene}
use Rattle.runs.specs.Standing.{RunStands}
use Rattle.runs.proofs.Faulty.{CountsOn}
use Rattle.runs.proofs.Ran.{LeadsOn}
use Rattle.runs.proofs.run.Run.ask_lines.Given as goal

abbrev pub invariant-loop-number : goal.invariant-loop-number
invariant-loop-number g l = record {
  asks : LeadsOn g.H.NodeHash.digest_of g.V.VufCheck.accepted g.S.Verifier.verified (ExchangesFrames g.T.Write.contents g.T.Read.remaining) (background_of l.fn.asker)
      (scene l.fn.asker l.fn.self.said l.fn.stream) (g.R.Read.remaining l.fn.reader) (g.W.Write.contents l.fn.writer)
      (scene l.asker l.self.said l.stream) (g.R.Read.remaining l.reader) (g.W.Write.contents l.writer);
  same : background_of l.asker ≡ background_of l.fn.asker;
  counts : CountsOn (g.R.Read.remaining l.fn.reader) l.number (g.R.Read.remaining l.reader);
  grows : Grows (g.W.Write.contents l.fn.writer) (g.W.Write.contents l.writer);
  stands : (start : Found) (old : List ℕ) (acts : List Act)
      → RunStands g.H.NodeHash.digest_of g.V.VufCheck.accepted g.S.Verifier.verified (option_map lines_of (g.R.Read.remaining l.fn.reader)) start old (λ done. g.K.Keeper.has l.fn.keeper (done ++ acts)) l.fn.asker l.fn.self.said.text.items l.fn.self.state (g.W.Write.contents l.fn.writer)
      → RunStands g.H.NodeHash.digest_of g.V.VufCheck.accepted g.S.Verifier.verified (option_map lines_of (g.R.Read.remaining l.fn.reader)) start old (λ done. g.K.Keeper.has l.keeper (done ++ acts)) l.asker l.self.said.text.items l.self.state (g.W.Write.contents l.writer);
  marks : (start : Found) (old : List ℕ) (acts : List Act)
      → RunStands g.H.NodeHash.digest_of g.V.VufCheck.accepted g.S.Verifier.verified (option_map lines_of (g.R.Read.remaining l.fn.reader)) start old (λ done. g.K.Keeper.has l.fn.keeper (done ++ acts)) l.fn.asker l.fn.self.said.text.items l.fn.self.state (g.W.Write.contents l.fn.writer)
      → MarksOn l.fn.self.state l.fn.asker.monitors.items l.self.state l.asker.monitors.items;
  rises : l.fn.self.said.status ≤ l.self.said.status;
  limit : IsSameLimit l.fn.self.limit l.self.limit;
}
