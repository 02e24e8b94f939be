use Rattle.std.proofs.Common.{◌≡◌, List, ℕ}
use Rattle.std.specs.Prelude.{All, true}
use Rattle.std.proofs.lemmas.Iterator.{YieldsList}
use Rattle.std.specs.Str.Iter.{lines_steps}
use Rattle.directoryd.specs.KeyFiles.{is_key_line, HasKeyLines}
use Rattle.directoryd.proofs.keys.has_key_lines.Given as goal

abbrev pub invariant-loop-line : goal.invariant-loop-line
invariant-loop-line l =
    (goal.iterator-loop-line).can_next l.line-iterator ×
    (goal.iterator-loop-line).is_finite l.line-iterator ×
    ((left : List (List ℕ)) × YieldsList lines_steps (λ line. line.now) l.line-iterator left
    × (All (λ line. is_key_line line ≡ true) left → HasKeyLines l.text) × (HasKeyLines l.text → All (λ line. is_key_line line ≡ true) left))
