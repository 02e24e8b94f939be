-- How playing a script ends, and what it has then written.
use Rattle.std.specs.Prelude.{◌≡◌, ℕ, List, Option, Some, None, IfSome}
use Rattle.std.specs.Io.KnownBytes.{Appends}
use Rattle.textio.specs.Output.{WritesBeginning, WritesSome}
use Rattle.play.specs.Printing.{Printout, text}

pub data Ending : Type 0 where
  -- each line is a command, and was played
  Done : Ending
  -- the line of this number is no command; those before it were played
  NotACommand : ℕ → Ending
  CannotRead : Ending
  CannotWrite : Ending
  OutOfMemory : Ending

-- What a script prints is written whole, up to the first line that is no command. If a write failed, less
-- of it was written; if a read failed or memory ran out, a beginning.
abbrev pub EndsSo : Printout → Option (List ℕ) → Option (List ℕ) → Ending → Type 0
EndsSo it old new Done = (it.stopped ≡ None) × Appends old new (text it)
EndsSo it old new (NotACommand place) = (it.stopped ≡ Some place) × Appends old new (text it)
EndsSo it old new CannotWrite = WritesBeginning old new (text it)
EndsSo it old new CannotRead = WritesSome old new (text it)
EndsSo it old new OutOfMemory = WritesSome old new (text it)

-- where the bytes that the reader had are known, they are the script that is played
abbrev pub Plays : (List ℕ → Printout) → Option (List ℕ) → Option (List ℕ) → Option (List ℕ) → Ending → Type 0
Plays printed input old new ending = IfSome input (λ script. EndsSo (printed script) old new ending)
