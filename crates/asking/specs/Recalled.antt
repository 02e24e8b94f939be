-- What earlier runs told that is told again.
use Rattle.std.specs.Prelude.{◌≡◌, ℕ, List, nat_lt, if◌then◌else◌, length, map}
use Rattle.memory.specs.Memories.{Memory}
use Rattle.memory.specs.Texts.{items_text, TellsAgain}
use Rattle.memory.specs.declared.item.Item.TheVariants.{Evidence}
use Rattle.asking.specs.Reports.{Report}
use Rattle.asking.specs.declared.said.TheConstants.{CAUGHT}

-- this status if there are any, or else 0
abbrev pub status_of : ℕ → ℕ → ℕ
status_of status count = if nat_lt 0 count then status else 0

-- the evidence against the provider, at the beginning of each run
abbrev pub evidence_again : Memory → Report
evidence_again known = record { lines = items_text (map Evidence known.evidence); status = status_of CAUGHT (length known.evidence) }

-- the alarms of a name, before it is watched
abbrev pub TellsAlarms : List ℕ → Memory → Report → Type 0
TellsAlarms name known told = (count : ℕ) × TellsAgain name known.alarms told.lines count × (told.status ≡ status_of CAUGHT count)
