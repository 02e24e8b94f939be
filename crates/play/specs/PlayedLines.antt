-- What a call that plays one line returned, and what it did.
use Rattle.std.specs.Prelude.{◌≡◌, ◌⊎◌, ℕ, Bool, true, false, List, [], ◌++◌, Option, None, Some, Result, Ok, Err, ⊤}
use Rattle.rand_core.specs.Stream.{Stream}
use Rattle.textio.specs.declared.program_fault.ProgramFault.{ProgramFault}
use Rattle.textio.specs.declared.program_fault.ProgramFault.TheVariants as fault
use Rattle.textio.specs.Faults.{IsDeviceFault}
use Rattle.book.specs.Shows.{index_of}
use Rattle.epochs.specs.DirectoryStates.{HasKeysOf}
use Rattle.play.specs.Parties.{provider_of, HaveDone, Parties}
use Rattle.play.specs.Played.{line_played, Stand}
use Rattle.play.specs.Reading.{TakesWholeLine}
use Rattle.play.specs.Scripts.{ScriptLine, line_of}

module _ {R : Type 0} (digest_of : List ℕ → List ℕ) (value_of signature_of : List ℕ → List ℕ → List ℕ) (stream : R → Stream) (accepted verified : List ℕ → List ℕ → List ℕ → Type 0) where
  -- the line of this number was played, or is no command, or memory ran out
  abbrev pub PlaysLine : Parties R → Stand → ℕ → List ℕ → List ℕ → Result (Unit {0}) ProgramFault → List ℕ → Parties R → Type 0
  PlaysLine before stand place line text (Ok done) grown after = (said : ScriptLine) × (line_of line ≡ Some said)
      × (let now = line_played (index_of (provider_of digest_of value_of signature_of stream accepted verified before)) stand said in
      HaveDone digest_of value_of signature_of stream accepted verified text now.0 now.1 grown after)
      × HasKeysOf before.hub.service.directory after.hub.service.directory
  PlaysLine before stand place line text (Err (fault.NotACommand other)) grown after = (other ≡ place) × (line_of line ≡ None)
  PlaysLine before stand place line text (Err fault.OutOfMemory) grown after = ⊤
  PlaysLine before stand place line text (Err fault.CannotRead) grown after = ⊥
  PlaysLine before stand place line text (Err fault.CannotWrite) grown after = ⊥
  PlaysLine before stand place line text (Err fault.BadHex) grown after = ⊥
  PlaysLine before stand place line text (Err (fault.BadItem other)) grown after = ⊥
  PlaysLine before stand place line text (Err (fault.IndexRepeated other)) grown after = ⊥
  PlaysLine before stand place line text (Err fault.NotEvidence) grown after = ⊥
  PlaysLine before stand place line text (Err fault.BadRecord) grown after = ⊥
  PlaysLine before stand place line text (Err fault.OtherKeys) grown after = ⊥
  PlaysLine before stand place line text (Err fault.CannotListen) grown after = ⊥

  -- the line of this number was taken and played, and its text appended; or no line was left; or it is told why it
  -- was not taken, or not played, and nothing was appended
  abbrev pub PlaysNext : Parties R → Stand → ℕ → Option (List ℕ) → Option (List ℕ) → List ℕ → Result Bool ProgramFault → List ℕ → Parties R → Type 0
  PlaysNext before stand place input left text (Ok true) grown after = (line : List ℕ) × (said : List ℕ) × TakesWholeLine input left true line
      × (grown ≡ text ++ said) × PlaysLine before stand place line [] (Ok tt) said after
  PlaysNext before stand place input left text (Ok false) grown after = (line : List ℕ) × TakesWholeLine input left false line × (grown ≡ text)
  PlaysNext before stand place input left text (Err why) grown after = (grown ≡ text)
      × (IsDeviceFault why ⊎ ((line : List ℕ) × (said : List ℕ) × (more : List ℕ) × TakesWholeLine input left true line × PlaysLine before stand place line said (Err why) more after))
