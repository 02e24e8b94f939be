use Rattle.std.proofs.Common.{◌≡◌, ◌+◌, ◌≤◌, ℕ, Result, length}
use Rattle.textio.specs.Lines.{lines_of}
use Rattle.client.specs.Clients.{Client}
use Rattle.runs.specs.Loading.{TakesRoots}
use Rattle.runs.specs.Runs.{IsSameAsker}
use Rattle.runs.proofs.lines.take_lines.Given as goal

-- what comes of the lines that are left, comes of all
abbrev pub invariant-loop-rest : goal.invariant-loop-rest
invariant-loop-rest g l = record {
  same : IsSameAsker l.fn.asker l.asker;
  takes : (result : Result Client ℕ) → TakesRoots g.H.NodeHash.digest_of g.S.Verifier.verified (l.number + 1) (lines_of l.rest) l.asker.client result
      → TakesRoots g.H.NodeHash.digest_of g.S.Verifier.verified 2 (lines_of l.fn.behind) l.fn.asker.client result;
  few : l.number + length l.rest ≤ length l.fn.behind + 1;
  earlier : l.asker.earlier ≡ l.fn.asker.earlier;
  known : (l.asker.known ≡ l.fn.asker.known) × (l.asker.marks ≡ l.fn.asker.marks) × (l.asker.changes ≡ l.fn.asker.changes);
  finals : l.asker.finals ≡ l.fn.asker.finals;
}

abbrev pub decreases-loop-rest : goal.decreases-loop-rest
decreases-loop-rest g l = length l.rest
