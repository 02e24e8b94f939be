use Rattle.std.proofs.Common.{◌≡◌, ◌+◌, ◌≤◌, ℕ, Result, length}
use Rattle.textio.specs.Lines.{lines_of}
use Rattle.client.specs.Clients.{Client}
use Rattle.memory.specs.Memories.{Memory}
use Rattle.memory.specs.Texts.{Recalls, Spells}
use Rattle.memory.specs.declared.read_fault.ReadFault.{ReadFault}
use Rattle.runs.specs.Loading.{KeepsLines}
use Rattle.runs.specs.Remembering.{AreWithin}
use Rattle.runs.specs.Runs.{IsSameAsker, StillKeeps}
use Rattle.runs.proofs.Remembered.{OwnSoFar}
use Rattle.runs.proofs.lines.remember_lines.Given as goal

-- what comes of the lines that are left, comes of the text
abbrev pub invariant-loop-rest : goal.invariant-loop-rest
invariant-loop-rest g l = record {
  same : IsSameAsker l.fn.asker l.asker;
  kept : StillKeeps l.fn.asker l.asker;
  keeps : (result : Result Client ℕ) → KeepsLines g.H.NodeHash.digest_of g.V.VufCheck.accepted g.S.Verifier.verified (l.number + 1) (lines_of l.rest) l.asker.client result
      → KeepsLines g.H.NodeHash.digest_of g.V.VufCheck.accepted g.S.Verifier.verified 1 (lines_of l.fn.text) l.fn.asker.client result;
  spells : (result : Result Memory ReadFault) → Recalls (l.number + 1) (lines_of l.rest) l.memory result → Spells l.fn.text result;
  few : l.number + length l.rest ≤ length l.fn.text;
  own : OwnSoFar (lines_of l.fn.text) (lines_of l.rest) l.fn.asker.earlier.items l.asker.earlier.items;
  chain : l.asker.client.chain ≡ l.fn.asker.client.chain;
  changes : l.asker.changes ≡ l.fn.asker.changes;
  within : AreWithin l.fn.asker.client.chain l.memory;
}

abbrev pub decreases-loop-rest : goal.decreases-loop-rest
decreases-loop-rest g l = length l.rest
