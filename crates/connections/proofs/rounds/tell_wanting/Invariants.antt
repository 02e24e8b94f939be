use Rattle.std.specs.Prelude.{ℕ, ◌+◌, Bool, Option, List}
use Rattle.connections.specs.Telling.{TellsLines}
use Rattle.connections.proofs.rounds.tell_wanting.Given as goal

abbrev pub invariant-loop-line : goal.invariant-loop-line
invariant-loop-line g l = (every : ℕ) (told : Bool) (count : ℕ) (start : Option (List ℕ)) → TellsLines every told count start (g.E.Write.contents l.fn.errors) → TellsLines every told (count + l._line) start (g.E.Write.contents l.errors)
