use Rattle.std.proofs.Common.{◌≡◌, List, ℕ}
use Rattle.std.proofs.lemmas.Iterator.{YieldsList}
use Rattle.std.specs.Str.Iter.{lines_steps}
use Rattle.directoryd.specs.KeyFiles.{key_among, key_in}
use Rattle.directoryd.proofs.keys.key_in.Given as goal

abbrev pub invariant-loop-line : goal.invariant-loop-line
invariant-loop-line l =
    (goal.iterator-loop-line).can_next l.line-iterator ×
    (goal.iterator-loop-line).is_finite l.line-iterator ×
    ((left : List (List ℕ)) × YieldsList lines_steps (λ line. line.now) l.line-iterator left × (key_in l.file l.option ≡ key_among l.option left))
