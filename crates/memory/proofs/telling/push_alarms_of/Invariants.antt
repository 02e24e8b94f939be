use Rattle.std.proofs.Common.{◌≡◌, ◌≤◌, ◌++◌, ℕ, List, take}
use Rattle.std.specs.Io.{StartsWith}
use Rattle.memory.specs.Texts.{TellsAgain}
use Rattle.memory.proofs.telling.push_alarms_of.Given as goal

-- the lines of the alarms so far
abbrev pub invariant-loop-alarm : goal.invariant-loop-alarm
invariant-loop-alarm l = ((added : List ℕ) × (l.text.items ≡ l.initial.text.items ++ added) × TellsAgain l.name (take l.alarm-index l.alarms) added l.count)
    × StartsWith l.text.items l.initial.text.items × (l.count ≤ l.alarm-index)
