-- What is told of connections that were closed for want of memory, of what cannot be kept, and of how a server stands.
use Rattle.std.specs.Prelude.{◌≡◌, ◌+◌, ◌++◌, ◌||◌, ℕ, Bool, true, false, List, [], ◌∷◌, Option, codes, if◌then◌else◌}
use Rattle.textio.specs.Output.{WritesSome}
use Rattle.connections.specs.declared.ending.Ending.{Ending}
use Rattle.connections.specs.declared.ending.Ending.TheVariants.{Done, Fault, Idle, Stopped, Unsynced, Memory, Refused}
use Rattle.connections.specs.Histories.{At, Ordered, GoesOn, Syncs, NoneWaits, On, Deed, Comes, Opens, Refuses, Reads, IsOver, IsSilent, Hears, Misses, Lacks, Takes, TakesNone, Fails, Ends, Closes, History}

-- a line of the errors
pub data Line : Type 0 where
  OutOfMemory : Line
  Unkept : Line
  -- a report in these words
  Report : List ℕ → Line

abbrev pub line_text : Line → List ℕ
line_text OutOfMemory = codes "out of memory\n"
line_text Unkept = codes "journal: cannot write, edits are refused until a restart\n"
line_text (Report words) = codes "report: " ++ words ++ 10 ∷ []

-- these lines are written, the latest first, each whole or less of it
abbrev pub Writes : List Line → Option (List ℕ) → Option (List ℕ) → Type 0
Writes [] old new = new ≡ old
Writes (line ∷ before) old new = (middle : Option (List ℕ)) × Writes before old middle × WritesSome middle new (line_text line)

-- how many of the lines are about memory
abbrev pub about_memory : List Line → ℕ
about_memory [] = 0
about_memory (OutOfMemory ∷ before) = about_memory before + 1
about_memory (Unkept ∷ before) = about_memory before
about_memory (Report words ∷ before) = about_memory before

-- how many are about what cannot be kept
abbrev pub about_unkept : List Line → ℕ
about_unkept [] = 0
about_unkept (OutOfMemory ∷ before) = about_unkept before
about_unkept (Unkept ∷ before) = about_unkept before + 1
about_unkept (Report words ∷ before) = about_unkept before

-- how many are reports
abbrev pub reports : List Line → ℕ
reports [] = 0
reports (OutOfMemory ∷ before) = reports before
reports (Unkept ∷ before) = reports before
reports (Report words ∷ before) = reports before + 1

-- so many lines about memory, one about what cannot be kept if that was told, and reports, of which there is none where
-- they are wanted every 0 milliseconds
abbrev pub TellsLines : ℕ → Bool → ℕ → Option (List ℕ) → Option (List ℕ) → Type 0
TellsLines every told count old new = (lines : List Line) × Writes lines old new × (about_memory lines ≡ count) × (about_unkept lines ≡ (if told then 1 else 0)) × (every ≡ 0 → reports lines ≡ 0)

-- some number of them
abbrev pub TellsSome : ℕ → Bool → Option (List ℕ) → Option (List ℕ) → Type 0
TellsSome every told old new = (count : ℕ) × TellsLines every told count old new

-- how many connections are closed for want of memory, by a reason and by a deed
abbrev pub lost_by : Ending → ℕ
lost_by Done = 0
lost_by Fault = 0
lost_by Idle = 0
lost_by Stopped = 0
lost_by Unsynced = 0
lost_by Memory = 1
lost_by Refused = 0

abbrev pub lost : Deed → ℕ
lost Comes = 0
lost Opens = 0
lost (Refuses why) = 0
lost (Reads bytes) = 0
lost IsOver = 0
lost IsSilent = 0
lost (Hears part reply) = 0
lost (Misses part why) = 0
lost Lacks = 0
lost (Takes bytes) = 0
lost TakesNone = 0
lost Fails = 0
lost Ends = 0
lost (Closes why) = lost_by why

-- how many were closed so
abbrev pub losses : History → ℕ
losses [] = 0
losses (At pause now ∷ before) = losses before
losses (Ordered ∷ before) = losses before
losses (Syncs kept ∷ before) = losses before
losses (GoesOn ∷ before) = losses before
losses (NoneWaits ∷ before) = losses before
losses (On place deed ∷ before) = losses before + lost deed

-- what was answered was not put on its disk
abbrev pub unsynced : History → Bool
unsynced [] = false
unsynced (At pause now ∷ before) = unsynced before
unsynced (Ordered ∷ before) = unsynced before
unsynced (Syncs kept ∷ before) = if kept then unsynced before else true
unsynced (GoesOn ∷ before) = unsynced before
unsynced (NoneWaits ∷ before) = unsynced before
unsynced (On place deed ∷ before) = unsynced before

-- by the test of a reply, whether it says that something could not be kept
module _ (is_unkept : List ℕ → Bool) where
  abbrev pub tells_unkept : Deed → Bool
  tells_unkept Comes = false
  tells_unkept Opens = false
  tells_unkept (Refuses why) = false
  tells_unkept (Reads bytes) = false
  tells_unkept IsOver = false
  tells_unkept IsSilent = false
  tells_unkept (Hears part reply) = is_unkept reply
  tells_unkept (Misses part why) = false
  tells_unkept Lacks = false
  tells_unkept (Takes bytes) = false
  tells_unkept TakesNone = false
  tells_unkept Fails = false
  tells_unkept Ends = false
  tells_unkept (Closes why) = false

  -- a session was answered so
  abbrev pub answered_unkept : History → Bool
  answered_unkept [] = false
  answered_unkept (At pause now ∷ before) = answered_unkept before
  answered_unkept (Ordered ∷ before) = answered_unkept before
  answered_unkept (Syncs kept ∷ before) = answered_unkept before
  answered_unkept (GoesOn ∷ before) = answered_unkept before
  answered_unkept (NoneWaits ∷ before) = answered_unkept before
  answered_unkept (On place deed ∷ before) = tells_unkept deed || answered_unkept before

  -- something could not be kept
  abbrev pub has_unkept : History → Bool
  has_unkept acts = unsynced acts || answered_unkept acts

  -- each connection that was closed for want of memory has its line, and there is one if something could not be kept, or
  -- could not before; reports are wanted every so many milliseconds, or never
  abbrev pub TellsAll : ℕ → Bool → History → Option (List ℕ) → Option (List ℕ) → Type 0
  TellsAll every before acts old new = TellsLines every (has_unkept acts || before) (losses acts) old new
