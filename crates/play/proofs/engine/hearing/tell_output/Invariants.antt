use Rattle.std.proofs.Common.{List, ◌+◌, ◌≤◌, length}
use Rattle.play.specs.Telling.{AreFramesOf, HeardFrame}
use Rattle.play.proofs.Heard.{IsMidway}
use Rattle.play.proofs.engine.hearing.tell_output.Given as goal

abbrev pub invariant-loop : goal.invariant-loop
invariant-loop l = (l.counter + length l.rest ≤ length l.output)
    × ((heard : List HeardFrame) → AreFramesOf l.output heard → IsMidway l.session l.initial.text.items heard l.rest l.text.items)
