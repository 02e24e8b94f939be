-- The faults that end a run.
use Rattle.std.specs.Prelude.{◌≡◌, ◌⊎◌, ℕ, ◌+◌, List, [], ◌∷◌, Option, Some, None, IfSome, ⊤}
use Rattle.textio.specs.declared.program_fault.ProgramFault.{ProgramFault}
use Rattle.textio.specs.declared.program_fault.ProgramFault.TheVariants.{BadHex, BadItem, IndexRepeated, NotACommand, NotEvidence, BadRecord, OtherKeys, CannotRead, CannotWrite, CannotListen, OutOfMemory}
use Rattle.files.specs.Faults.{IsSystemFault}
use Rattle.play.specs.Scripts.{ScriptLine, Pass, Ask, Watch, Piece, End, line_of}
use Rattle.runs.specs.AskOptions.{AskOptions}
use Rattle.runs.specs.Runs.{lines_asked}
use Rattle.runs.specs.declared.run_fault.RunFault.{RunFault}
use Rattle.runs.specs.declared.run_fault.RunFault.TheVariants as run

-- what is no command, or says something to a session
abbrev pub CannotBeAsked : Option ScriptLine → Type 0
CannotBeAsked None = ⊤
CannotBeAsked (Some Pass) = ⊥
CannotBeAsked (Some (Ask asked)) = ⊥
CannotBeAsked (Some (Watch name given)) = ⊥
CannotBeAsked (Some (Piece session piece)) = ⊤
CannotBeAsked (Some (End session)) = ⊤

-- the first of these lines that cannot be asked, by its number, where the first line has this one
abbrev pub IsFirstUnasked : ℕ → List (List ℕ) → ℕ → Type 0
IsFirstUnasked place [] number = ⊥
IsFirstUnasked place (line ∷ more) number =
    (CannotBeAsked (line_of line) × (number ≡ place)) ⊎ ((¬ CannotBeAsked (line_of line)) × IsFirstUnasked (place + 1) more number)

-- the order has no words, so that the lines of the input are asked
abbrev pub AsksInput : List (Option (List ℕ)) → Type 0
AsksInput (Some command ∷ more) = ⊥
AsksInput (None ∷ more) = ⊤
AsksInput [] = ⊤

-- a fault of a run that has a state, or none; that reads its input, or not; and of which this is the first line
-- that cannot be asked
abbrev pub IsFaultWith : Type 0 → Type 0 → (ℕ → Type 0) → ProgramFault → Type 0
IsFaultWith HasState ReadsInput IsUnasked BadHex = ⊥
IsFaultWith HasState ReadsInput IsUnasked (BadItem line) = HasState
IsFaultWith HasState ReadsInput IsUnasked (IndexRepeated line) = ⊥
IsFaultWith HasState ReadsInput IsUnasked (NotACommand line) = IsUnasked line
IsFaultWith HasState ReadsInput IsUnasked NotEvidence = ⊥
IsFaultWith HasState ReadsInput IsUnasked BadRecord = ⊥
IsFaultWith HasState ReadsInput IsUnasked OtherKeys = ⊥
IsFaultWith HasState ReadsInput IsUnasked CannotRead = HasState ⊎ ReadsInput
IsFaultWith HasState ReadsInput IsUnasked CannotWrite = ⊤
IsFaultWith HasState ReadsInput IsUnasked CannotListen = ⊥
IsFaultWith HasState ReadsInput IsUnasked OutOfMemory = ⊤

-- A fault of a run: of its state, if it has one; of the first line that cannot be asked, where the lines are
-- known; a read of its state or its input failed, if it has that; or a write or memory failed.
abbrev pub IsRunFault : AskOptions → Option (List ℕ) → ProgramFault → Type 0
IsRunFault options input = IsFaultWith (¬ (options.state ≡ None)) (AsksInput options.words) (λ number. IfSome (lines_asked options.words input) (λ lines. IsFirstUnasked 1 lines number))

-- a line of a state is not as a run wrote it, or a read, a write or memory failed
abbrev pub IsFaultOfState : ProgramFault → Type 0
IsFaultOfState fault = IsSystemFault fault ⊎ ((line : ℕ) × (fault ≡ BadItem line))

-- a write or memory failed
abbrev pub IsFaultOfSaving : ProgramFault → Type 0
IsFaultOfSaving fault = (fault ≡ CannotWrite) ⊎ (fault ≡ OutOfMemory)

-- a question stopped, or it is such a fault of the program
abbrev pub StopsOr : (ProgramFault → Type 0) → RunFault → Type 0
StopsOr Holds (run.Ask fault) = ⊤
StopsOr Holds (run.Program fault) = Holds fault
