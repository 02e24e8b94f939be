-- How a run ends: whole, stopped, or with a fault.
use Rattle.std.specs.Prelude.{◌≡◌, ◌⊎◌, ◌↔◌, ◌<◌, ◌≤◌, ℕ, List, [], ◌∷◌, ◌++◌, nat_lt, if◌then◌else◌, Option, Some, None, Result, Ok, Err, IfSome, true}
use Rattle.std.specs.Io.KnownBytes.{Appends, Keeps}
use Rattle.nodehash.specs.Sha256.{sha256}
use Rattle.vrfiface.specs.StandIns.{KeyedAccepts}
use Rattle.sigiface.specs.StandIn.{KeyedVerifies}
use Rattle.client.specs.Clients.{Client}
use Rattle.rootchain.specs.declared.signed_promise.SignedPromise.{SignedPromise}
use Rattle.textio.specs.Faults.{fault_text}
use Rattle.textio.specs.Output.{WritesSome}
use Rattle.textio.specs.declared.program_fault.ProgramFault.{ProgramFault}
use Rattle.textio.specs.declared.program_fault.ProgramFault.TheVariants.{CannotWrite, OutOfMemory}
use Rattle.wire.specs.Frames.{Frame}
use Rattle.commands.specs.Operations.{Head}
use Rattle.wire.specs.Requests.{RequestContent, Query}
use Rattle.play.specs.Scripts.{ScriptLine, Pass, Ask, Watch, Piece, End, line_of}
use Rattle.runs.specs.AskOptions.{AskOptions, ask_keys_of}
use Rattle.asking.specs.declared.ask_fault.AskFault.{AskFault}
use Rattle.asking.specs.Asking.{AsksSome, FindsHead, FindsSome, HearsHead, StopsAsking}
use Rattle.asking.specs.Catching.{Advances, AdvancesSome}
use Rattle.asking.specs.Exchanges.{ExchangesFrames}
use Rattle.asking.specs.Following.{IsBelow, StopsList}
use Rattle.asking.specs.Joining.{own_for, BeginsSome}
use Rattle.runs.specs.Lateness.{stale_line, HasEpoch, HasNotedAs, IsLast, IsLimitOf, IsStale}
use Rattle.runs.specs.Marking.{IsUnlooked}
use Rattle.asking.specs.Reports.{Report, report_of}
use Rattle.runs.specs.RunFaults.{IsFaultOfState}
use Rattle.runs.specs.Runs.{AsksLines, StartsRun, DoesLine, DoesLineNoting, emptied, Background, IsSoundFor, lines_asked, Prepares, RunsWhole, words_line, Writes, written}
use Rattle.asking.specs.Scenes.{Scene, StopsAtHead}
use Rattle.runs.specs.Settling.{IsSettling, Settles, SettlesPart}
use Rattle.runs.specs.Standing.{IsFresh}
use Rattle.asking.specs.Visiting.{TestsSome, TestsAll}
use Rattle.runs.specs.declared.run_fault.RunFault.{RunFault}
use Rattle.runs.specs.declared.run_fault.RunFault.TheVariants.{Program}
use Rattle.runs.specs.declared.connecting.Connection.{Connection}
use Rattle.runs.specs.declared.lateness.Limit.{Limit}
use Rattle.runs.specs.declared.run.Run.{Run}
use Rattle.memory.specs.declared.mark.Mark.{Mark}
use Rattle.runs.specs.declared.run.RunEnd.{RunEnd}
use Rattle.runs.specs.declared.run.RunEnd.TheVariants.{Whole, Stopped, Unwritten, Stale}
use Rattle.asking.specs.declared.said.Said.{Said}
use Rattle.asking.specs.declared.said.TheConstants.{CAUGHT, REFUSED}

-- the status of the program
abbrev pub end_status : RunEnd → ℕ
end_status (Whole status) = status
end_status (Stopped status) = status
end_status Unwritten = CAUGHT
end_status (Stale epoch) = CAUGHT

-- a run of an order that begins
abbrev pub IsNewFor : AskOptions → Run → Type 0
IsNewFor options run = ((run.state ≡ None) ↔ (options.state ≡ None)) × IsFresh run.state × (report_of run.said ≡ emptied 0) × IsLimitOf options run.limit × (run.limit.last ≡ None) × IsUnlooked run.state

-- a fault where nothing may be known of the last epoch: memory ran out, or the state could not be read
abbrev pub IsUnknown : Type 0 → ProgramFault → Type 0
IsUnknown HasNoState fault = (fault ≡ OutOfMemory) ⊎ ((¬ HasNoState) × IsFaultOfState fault)

-- the state could not be read: nothing was noted, and no evidence or alarm told
abbrev pub LoadsNone : {A : Type 0} → Type 0 → Result A RunFault → Limit → Limit → ℕ → Type 0
LoadsNone HasNoState result before after status = (fault : ProgramFault) × (result ≡ Err (Program fault)) × (¬ HasNoState) × IsFaultOfState fault × (after.last ≡ before.last) × (status < CAUGHT)

-- the status of a run that was stopped: that of evidence or an alarm, if some was told, or else that of a refusal
abbrev pub stopped_status : ℕ → ℕ
stopped_status told = if nat_lt told CAUGHT then REFUSED else CAUGHT

-- of what was told a beginning is written, and what is behind it is still said, or a part of that where a write failed
abbrev pub HoldsBack : Type 0 → Option (List ℕ) → Said → Report → Option (List ℕ) → Type 0
HoldsBack Failed new said told old = (said.status ≡ told.status) × (text : List ℕ) × (rest : List ℕ) × (told.lines ≡ text ++ (said.text.items ++ rest)) × Appends old new text × ((rest ≡ []) ⊎ Failed)

-- a text is written, or a beginning of it where a write failed
abbrev pub WritesUnless : Type 0 → Option (List ℕ) → Option (List ℕ) → List ℕ → Type 0
WritesUnless Failed old new text = Appends old new text ⊎ (Failed × WritesSome old new text)

-- this is told where no client starts: what was told before, or also a frame with which none starts
abbrev pub BeginsNone : {T : Type 0} → (List ℕ → List ℕ → List ℕ → Type 0) → (T → RequestContent → Frame → T → Type 0) → List ℕ → T → Report → Report → Type 0
BeginsNone {T} verified exchanged key stream before told = (told ≡ before) ⊎ ((stream' : T) × StopsAtHead verified exchanged key stream before stream' told)

-- the end of a run stands so to what was still said before it, where a write may have failed before that
abbrev pub EndsWith : Type 0 → Said → Option (List ℕ) → Option (List ℕ) → RunEnd → Type 0
EndsWith Failed said old new (Whole status) = ⊥
EndsWith Failed said old new (Stopped status) = (status ≡ stopped_status said.status) × (¬ Failed) × Appends old new said.text.items
EndsWith Failed said old new Unwritten = (CAUGHT ≤ said.status) × WritesSome old new said.text.items
EndsWith Failed said old new (Stale epoch) = ⊥

-- and so does a fault at its end
abbrev pub FailsWith : Type 0 → Said → Option (List ℕ) → Option (List ℕ) → ProgramFault → Type 0
FailsWith Failed said old new fault = (said.status < CAUGHT) × (((¬ Failed) × Appends old new said.text.items) ⊎ ((fault ≡ CannotWrite) × WritesSome old new said.text.items))

-- behind this end the errors have the line of its fault, or a beginning of it; or it has no fault, and they have no more
abbrev pub TellsFault : Result RunEnd ProgramFault → Option (List ℕ) → Option (List ℕ) → Type 0
TellsFault (Ok end) old new = Keeps old new
TellsFault (Err fault) old new = WritesSome old new (fault_text fault)

-- where a run did not begin, 0 was noted; or the last epoch of a client with the chain of a state; or nothing, as it could not be read
abbrev pub NotesFirst : {A : Type 0} → (List ℕ → List ℕ) → (List ℕ → List ℕ → List ℕ → Type 0) → (List ℕ → List ℕ → List ℕ → Type 0) → List ℕ → Type 0 → Result A RunFault → Limit → Limit → ℕ → Type 0
NotesFirst hash accepted verified key HasNoState result before after status = (after.last ≡ Some 0)
    ⊎ (((¬ HasNoState) × ((marks : List Mark) × (client : Client) × IsSoundFor hash accepted verified key client × HasNotedAs (IsLast marks client []) after))
    ⊎ LoadsNone HasNoState result before after status)

module _ (hash : List ℕ → List ℕ) (accepted verified : List ℕ → List ℕ → List ℕ → Type 0) {T : Type 0} (exchanged : T → RequestContent → Frame → T → Type 0) where
  -- a list is taken on the way to an epoch, and what is done behind it; wholly, or up to some point, or up to a frame that stops it
  abbrev pub AdvancesPart : ℕ → Scene T → Scene T → Type 0
  AdvancesPart epoch before reached = IsBelow epoch before.client × (Advances hash accepted verified exchanged epoch before true reached
      ⊎ (StopsList hash verified exchanged before reached ⊎ AdvancesSome hash accepted verified exchanged epoch before reached))

  module _ (background : Background) where
    -- the latest root is heard, and then promises are tested; not yet, or wholly or up to some point
    abbrev pub LooksSome : ℕ → Frame → Scene T → Scene T → Type 0
    LooksSome held frame before reached = (reached ≡ before) ⊎ ((middle : Scene T) × HearsHead hash accepted verified exchanged held frame before middle
        × (TestsAll hash accepted exchanged background.marks middle reached ⊎ TestsSome hash accepted exchanged background.marks middle reached))

    -- what is new is taken and tested, wholly or up to some point, or up to where it stops
    abbrev pub PreparesSome : Type 0 → Scene T → Scene T → Type 0
    PreparesSome HasNoState before reached = Prepares hash accepted verified exchanged background HasNoState before reached
        ⊎ ((¬ HasNoState) × (FindsSome hash accepted verified exchanged background.token before reached
        ⊎ (StopsAsking hash accepted verified exchanged background.token (Query Head) before reached
        ⊎ ((middle : Scene T) × FindsHead hash accepted verified exchanged background.token before middle × TestsSome hash accepted exchanged background.marks middle reached))))

    -- what a line says is asked up to some point, or up to a frame that stops it
    abbrev pub DoesPart : ScriptLine → Scene T → Scene T → Type 0
    DoesPart Pass before reached = ⊥
    DoesPart (Ask asked) before reached = StopsAsking hash accepted verified exchanged background.token asked before reached
        ⊎ ((fault : AskFault) × (noted : List SignedPromise) × (noted' : List SignedPromise) × AsksSome hash accepted verified exchanged fault background.marks background.token asked noted noted' before reached)
    DoesPart (Watch name given) before reached = (noted : List SignedPromise)
        × BeginsSome hash accepted verified exchanged background.known background.marks background.key (own_for background.marks name background.earlier noted) name given before reached
    DoesPart (Piece session piece) before reached = ⊥
    DoesPart (End session) before reached = ⊥

    -- it is not asked, or wholly, or such a part of it
    abbrev pub DoesSome : ScriptLine → Scene T → Scene T → Type 0
    DoesSome said before reached = (reached ≡ before) ⊎ (DoesLine hash accepted verified exchanged background said before reached ⊎ DoesPart said before reached)

    -- the same two, where the first promises are noted before it, and the second behind it
    abbrev pub DoesPartNoting : AskFault → ScriptLine → List SignedPromise → List SignedPromise → Scene T → Scene T → Type 0
    DoesPartNoting fault Pass noted noted' before reached = ⊥
    DoesPartNoting fault (Ask asked) noted noted' before reached = (StopsAsking hash accepted verified exchanged background.token asked before reached × (noted' ≡ noted))
        ⊎ AsksSome hash accepted verified exchanged fault background.marks background.token asked noted noted' before reached
    DoesPartNoting fault (Watch name given) noted noted' before reached =
        BeginsSome hash accepted verified exchanged background.known background.marks background.key (own_for background.marks name background.earlier noted) name given before reached × (noted' ≡ noted)
    DoesPartNoting fault (Piece session piece) noted noted' before reached = ⊥
    DoesPartNoting fault (End session) noted noted' before reached = ⊥

    abbrev pub DoesSomeNoting : AskFault → ScriptLine → List SignedPromise → List SignedPromise → Scene T → Scene T → Type 0
    DoesSomeNoting fault said noted noted' before reached = ((reached ≡ before) × (noted' ≡ noted))
        ⊎ (DoesLineNoting hash accepted verified exchanged background said noted noted' before reached ⊎ DoesPartNoting fault said noted noted' before reached)

    abbrev pub AsksSomeLine : List ℕ → Scene T → Scene T → Type 0
    AsksSomeLine line before reached = (reached ≡ before) ⊎ ((said : ScriptLine) × (line_of line ≡ Some said) × DoesSome said before reached)

    -- the first of the lines that are left, if there is one
    abbrev pub AsksNext : List (List ℕ) → Scene T → Scene T → Type 0
    AsksNext [] before reached = reached ≡ before
    AsksNext (line ∷ more) before reached = AsksSomeLine line before reached

    -- the first of these lines are asked, and what is told of each is written; then this is told of some of the next
    pub record AsksPart (lines : List (List ℕ)) (before : Scene T) (told : Report) (old now : Option (List ℕ)) : Type 0 where
      pub done : List (List ℕ)
      pub left : List (List ℕ)
      pub parts : lines ≡ done ++ left
      pub here : Scene T
      pub asks : AsksLines hash accepted verified exchanged background done before old now here
      pub reached : Scene T
      pub next : AsksNext left here reached
      pub tells : told ≡ reached.told

    -- where a run ends: while what is new is followed; or behind that, at one of its lines
    abbrev pub RunEndsAt : AskOptions → Type 0 → Option (List ℕ) → Scene T → Option (List ℕ) → Report → Option (List ℕ) → Type 0
    RunEndsAt options HasNoState input start old told now =
        ((reached : Scene T) × PreparesSome HasNoState start reached × (told ≡ reached.told) × (now ≡ old))
        ⊎ ((ready : Scene T) × (next : Option (List ℕ)) × Writes (Prepares hash accepted verified exchanged background HasNoState) start old next ready
        × IfSome (lines_asked options.words input) (λ lines. AsksPart lines ready told next now))

    -- a scene of a run of words: it begins; what is new is followed, up to some point; or, behind that, the words are asked so
    abbrev pub Sees : AskOptions → Type 0 → Scene T → Scene T → Type 0
    Sees options HasNoState start seen = (seen ≡ start) ⊎ (PreparesSome HasNoState start seen
        ⊎ ((done : Scene T) × Prepares hash accepted verified exchanged background HasNoState start done × AsksSomeLine (words_line options.words) (written done) seen))

  -- the last epoch, where it is wanted, in a scene, and this holds of what it has to be above and of it
  abbrev pub HasLast : AskOptions → List Mark → Scene T → (ℕ → ℕ → Type 0) → Type 0
  HasLast options marks last Holds = HasEpoch options (IsLast marks last.client last.monitors) Holds

  -- where no run began, it is 0, or that of a client with the chain of a state
  abbrev pub HasFirst : List ℕ → AskOptions → Type 0 → (ℕ → ℕ → Type 0) → Type 0
  HasFirst key options HasNoState Holds = HasEpoch options (λ about epoch. epoch ≡ 0) Holds
      ⊎ ((¬ HasNoState) × ((marks : List Mark) × (client : Client) × IsSoundFor hash accepted verified key client × HasEpoch options (IsLast marks client []) Holds))

  -- A run that ends before all is asked: no client starts, or it ends at such a place. Then this holds of what
  -- was told and is not yet written, and of the output before that. The last epoch is that of a scene of the run, or not known.
  abbrev pub EndsEarly : List ℕ → List ℕ → AskOptions → Type 0 → T → Option (List ℕ) → Option (List ℕ) → (ℕ → ℕ → Type 0) → Type 0 → (Report → Option (List ℕ) → Type 0) → Type 0
  EndsEarly key token options HasNoState stream input old Holds Unknown Then = (told : Report) × (now : Option (List ℕ)) × Then told now
      × ((BeginsNone verified exchanged key stream (emptied 0) told × (now ≡ old) × (Unknown ⊎ HasFirst key options HasNoState Holds))
      ⊎ ((background : Background) × (start : Scene T) × StartsRun hash accepted verified exchanged key token HasNoState stream background start × RunEndsAt background options HasNoState input start old told now
      × ((seen : Scene T) × Sees background options HasNoState start seen × HasLast options background.marks seen Holds)))

  -- a whole run, with such a last epoch at its end
  abbrev pub RunsLate : List ℕ → List ℕ → AskOptions → Type 0 → T → T → Option (List ℕ) → (ℕ → ℕ → Type 0) → ℕ → Option (List ℕ) → Option (List ℕ) → Type 0
  RunsLate key token options HasNoState stream stream' input Holds status old new =
      (run : RunsWhole hash accepted verified exchanged key token options HasNoState stream stream' input status old new) × HasLast options run.background.marks run.last Holds

  -- All was asked, or this was stopped: all that was told is then written, and the status is that of evidence or an alarm
  -- exactly where some was told. Or a write failed, and some was told: a beginning is written. This holds of the last epoch.
  abbrev pub AsksAs : List ℕ → List ℕ → AskOptions → Type 0 → T → T → Option (List ℕ) → (ℕ → ℕ → Type 0) → RunEnd → Option (List ℕ) → Option (List ℕ) → Type 0
  AsksAs key token options HasNoState stream stream' input Holds (Whole status) old new = RunsLate key token options HasNoState stream stream' input Holds status old new
  AsksAs key token options HasNoState stream stream' input Holds (Stopped status) old new =
      EndsEarly key token options HasNoState stream input old Holds ⊥ (λ told now. (status ≡ stopped_status told.status) × Appends now new told.lines)
  AsksAs key token options HasNoState stream stream' input Holds Unwritten old new =
      EndsEarly key token options HasNoState stream input old Holds ⊥ (λ told now. (CAUGHT ≤ told.status) × WritesSome now new told.lines)
  AsksAs key token options HasNoState stream stream' input Holds (Stale epoch) old new = ⊥

  -- a run that ends with a fault: neither evidence nor an alarm was told, and all that was told is written unless a write failed
  abbrev pub FailsLate : List ℕ → List ℕ → AskOptions → Type 0 → T → Option (List ℕ) → (ℕ → ℕ → Type 0) → Type 0 → ProgramFault → Option (List ℕ) → Option (List ℕ) → Type 0
  FailsLate key token options HasNoState stream input Holds Unknown fault old new =
      EndsEarly key token options HasNoState stream input old Holds Unknown (λ told now. (told.status < CAUGHT) × WritesUnless (fault ≡ CannotWrite) now new told.lines)

  -- the same, where the last epoch is above what the order says, or may be unknown
  abbrev pub FailsAs : List ℕ → List ℕ → AskOptions → Type 0 → T → Option (List ℕ) → ProgramFault → Option (List ℕ) → Option (List ℕ) → Type 0
  FailsAs key token options HasNoState stream input fault old new = FailsLate key token options HasNoState stream input (λ after last. after < last) (IsUnknown HasNoState fault) fault old new

  -- it is asked in one of these ways, with a last epoch that the order does not want, and this holds of what is written then
  abbrev pub EndsStale : List ℕ → List ℕ → AskOptions → Type 0 → T → T → Option (List ℕ) → ℕ → Option (List ℕ) → (Option (List ℕ) → Type 0) → Type 0
  EndsStale key token options HasNoState stream stream' input epoch old Then = IsStale options epoch × ((now : Option (List ℕ)) × Then now
      × (((ended : RunEnd) × AsksAs key token options HasNoState stream stream' input (λ after last. last ≡ epoch) ended old now)
      ⊎ ((fault : ProgramFault) × FailsLate key token options HasNoState stream input (λ after last. last ≡ epoch) ⊥ fault old now)))

  -- A run that was asked so. Where the last epoch is wanted, it is above what the order says, or this is told behind all else,
  -- wholly, or in part where a write failed.
  abbrev pub RunsAs : List ℕ → List ℕ → AskOptions → Type 0 → T → T → Option (List ℕ) → RunEnd → Option (List ℕ) → Option (List ℕ) → Type 0
  RunsAs key token options HasNoState stream stream' input (Whole status) old new = AsksAs key token options HasNoState stream stream' input (λ after last. after < last) (Whole status) old new
  RunsAs key token options HasNoState stream stream' input (Stopped status) old new = AsksAs key token options HasNoState stream stream' input (λ after last. after < last) (Stopped status) old new
  RunsAs key token options HasNoState stream stream' input Unwritten old new =
      AsksAs key token options HasNoState stream stream' input (λ after last. after < last) Unwritten old new
      ⊎ ((epoch : ℕ) × EndsStale key token options HasNoState stream stream' input epoch old (λ now. WritesSome now new (stale_line epoch)))
  RunsAs key token options HasNoState stream stream' input (Stale epoch) old new = EndsStale key token options HasNoState stream stream' input epoch old (λ now. Appends now new (stale_line epoch))

-- A run over a connection, of which definitions know neither whether it came about, nor what it took or will give: a name is
-- settled, and nothing is asked; or the run is one for some frames that came. The connection is timed by a clock of this type.
abbrev pub AsksOverSocket : Type 0 → AskOptions → Option (List ℕ) → ℕ → Option (List ℕ) → Option (List ℕ) → Type 0
AsksOverSocket Clock options input status old new = ((name : List ℕ) × IsSettling options name × Settles name status old new)
    ⊎ ((key token : List ℕ) × (ask_keys_of options ≡ Some (key, token)) × (socket socket' : Connection Clock) × (ended : RunEnd) × (status ≡ end_status ended)
    × RunsAs sha256 KeyedAccepts KeyedVerifies (ExchangesFrames {T = Connection Clock} (λ _. None) (λ _. None)) key token options (options.state ≡ None) socket socket' input ended old new)

-- one that ends with a fault: nothing is written, or some of what settling a name tells, or the run is one for some
-- frames that came
abbrev pub FailsOverSocket : Type 0 → AskOptions → Option (List ℕ) → ProgramFault → Option (List ℕ) → Option (List ℕ) → Type 0
FailsOverSocket Clock options input fault old new = Keeps old new
    ⊎ (((name : List ℕ) × IsSettling options name × SettlesPart name old new)
    ⊎ ((key token : List ℕ) × (ask_keys_of options ≡ Some (key, token)) × (socket : Connection Clock)
    × FailsAs sha256 KeyedAccepts KeyedVerifies (ExchangesFrames {T = Connection Clock} (λ _. None) (λ _. None)) key token options (options.state ≡ None) socket input fault old new))
