use Rattle.std.proofs.Common.{◌≡◌, ◌++◌, ◌+◌, length, codes, decimal}
use Rattle.std.specs.Io.{StartsWith}
use Rattle.std.specs.List.{flat_map}
use Rattle.play.proofs.telling.tell_roots.Given as goal

-- the epochs so far, and those of the roots that are left, are all the epochs
abbrev pub invariant-loop : goal.invariant-loop
invariant-loop l = (l.counter + length l.roots ≡ l.end)
    × (l.text.items ++ flat_map (λ root. codes " " ++ decimal root.body.epoch) l.roots ≡ l.initial.text.items ++ flat_map (λ root. codes " " ++ decimal root.body.epoch) l.initial.roots)
    × StartsWith l.text.items l.fn.text.items
