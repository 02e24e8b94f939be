-- The faults of a run, as they are passed on, and what is written before them.
use Rattle.std.proofs.Common.{◌≡◌, ◌∙◌, ◌⊎◌, ◌↔◌, ◌++◌, ℕ, ◌+◌, true, List, [], Option, None, Some, Result, Ok, Err, Bor, inl, inr, refl, rules, subst, sym}
use Rattle.std.specs.Prelude.{◌∷◌, IfErr, IfSome, IsErrAnd, option_map, ⊤}
use Rattle.std.proofs.KnownBytes.{Appends-nil, Appends-trans}
use Rattle.textio.specs.declared.program_fault.ProgramFault.{ProgramFault}
use Rattle.textio.specs.declared.program_fault.ProgramFault.TheVariants.{BadHex, BadItem, IndexRepeated, NotACommand, NotEvidence, BadRecord, OtherKeys, CannotRead, CannotWrite, CannotListen, OutOfMemory}
use Rattle.files.specs.Faults.{IsSystemFault}
use Rattle.textio.specs.Lines.{lines_of}
use Rattle.wire.specs.Frames.{Frame}
use Rattle.wire.specs.Requests.{RequestContent}
use Rattle.play.specs.Reading.{TakesWholeLine}
use Rattle.play.specs.Scripts.{ScriptLine, Pass, Ask, Watch, Piece, End, line_of}
use Rattle.runs.specs.AskOptions.{AskOptions, ask_keys_of, ask_values}
use Rattle.runs.specs.Runs.{AsksLine, DoesLine, Grows, Background, lines_asked, words_line, Writes}
use Rattle.runs.specs.RunFaults.{AsksInput, CannotBeAsked, IsFaultOfSaving, IsFaultOfState, IsFaultWith, IsFirstUnasked, IsRunFault, StopsOr}
use Rattle.asking.specs.Scenes.{Scene}
use Rattle.runs.specs.declared.run_fault.RunFault.{RunFault}
use Rattle.runs.specs.declared.run_fault.RunFault.TheVariants as run
use Rattle.runs.specs.declared.order.AskOrder.{AskOrder}
use Rattle.runs.specs.declared.run.RunEnd.{RunEnd}
use Rattle.runs.specs.declared.state.State.{State}
use Rattle.runs.proofs.Ran.{asks_input, asks_words, none_before}

-- ---- which faults there are

system-with : (HasState ReadsInput : Type 0) (IsUnasked : ℕ → Type 0) (fault : ProgramFault) → HasState → IsSystemFault fault → IsFaultWith HasState ReadsInput IsUnasked fault
system-with HasState ReadsInput IsUnasked BadHex has system = system
system-with HasState ReadsInput IsUnasked (BadItem line) has system = absurd system
system-with HasState ReadsInput IsUnasked (IndexRepeated line) has system = system
system-with HasState ReadsInput IsUnasked (NotACommand line) has system = absurd system
system-with HasState ReadsInput IsUnasked NotEvidence has system = system
system-with HasState ReadsInput IsUnasked BadRecord has system = system
system-with HasState ReadsInput IsUnasked OtherKeys has system = system
system-with HasState ReadsInput IsUnasked CannotRead has system = inl has
system-with HasState ReadsInput IsUnasked CannotWrite has system = system
system-with HasState ReadsInput IsUnasked CannotListen has system = system
system-with HasState ReadsInput IsUnasked OutOfMemory has system = system

saving-state : (fault : ProgramFault) → IsFaultOfSaving fault → IsFaultOfState fault
saving-state fault (inl is) = inl (subst IsSystemFault (sym is) tt)
saving-state fault (inr is) = inl (subst IsSystemFault (sym is) tt)

-- such a fault that is passed on
pub passed_saving : {A : Type 0} (result : Result A ProgramFault) (fault : ProgramFault) → IsErrAnd result (λ given. given ≡ fault) → IsFaultOfSaving fault → IfErr result IsFaultOfState
passed_saving (Ok done) fault passed saving = tt
passed_saving (Err given) fault passed saving = saving-state given (subst IsFaultOfSaving (sym passed) saving)

pub saving_with : (HasState ReadsInput : Type 0) (IsUnasked : ℕ → Type 0) (fault : ProgramFault) → IsFaultOfSaving fault → IsFaultWith HasState ReadsInput IsUnasked fault
saving_with HasState ReadsInput IsUnasked fault (inl is) = subst (λ (f : ProgramFault). IsFaultWith HasState ReadsInput IsUnasked f) (sym is) tt
saving_with HasState ReadsInput IsUnasked fault (inr is) = subst (λ (f : ProgramFault). IsFaultWith HasState ReadsInput IsUnasked f) (sym is) tt

pub beginning_with : (HasState ReadsInput : Type 0) (IsUnasked : ℕ → Type 0) (fault : ProgramFault) → (HasState × IsFaultOfState fault) ⊎ (fault ≡ OutOfMemory) → IsFaultWith HasState ReadsInput IsUnasked fault
beginning_with HasState ReadsInput IsUnasked fault (inl (has, inl system)) = system-with HasState ReadsInput IsUnasked fault has system
beginning_with HasState ReadsInput IsUnasked fault (inl (has, inr (line, is))) = subst (λ (f : ProgramFault). IsFaultWith HasState ReadsInput IsUnasked f) (sym is) has
beginning_with HasState ReadsInput IsUnasked fault (inr is) = subst (λ (f : ProgramFault). IsFaultWith HasState ReadsInput IsUnasked f) (sym is) tt

either : {A B C D : Type 0} → (A → C) → (B → D) → A ⊎ B → C ⊎ D
either left right (inl a) = inl (left a)
either left right (inr b) = inr (right b)

other-with : (HasState HasOther ReadsInput ReadsOther : Type 0) (IsUnasked IsOther : ℕ → Type 0) (fault : ProgramFault) → (HasState → HasOther) → (ReadsInput → ReadsOther)
    → ((number : ℕ) → IsUnasked number → IsOther number) → IsFaultWith HasState ReadsInput IsUnasked fault → IsFaultWith HasOther ReadsOther IsOther fault
other-with HasState HasOther ReadsInput ReadsOther IsUnasked IsOther BadHex has reads unasked is = is
other-with HasState HasOther ReadsInput ReadsOther IsUnasked IsOther (BadItem line) has reads unasked is = has is
other-with HasState HasOther ReadsInput ReadsOther IsUnasked IsOther (IndexRepeated line) has reads unasked is = is
other-with HasState HasOther ReadsInput ReadsOther IsUnasked IsOther (NotACommand line) has reads unasked is = unasked line is
other-with HasState HasOther ReadsInput ReadsOther IsUnasked IsOther NotEvidence has reads unasked is = is
other-with HasState HasOther ReadsInput ReadsOther IsUnasked IsOther BadRecord has reads unasked is = is
other-with HasState HasOther ReadsInput ReadsOther IsUnasked IsOther OtherKeys has reads unasked is = is
other-with HasState HasOther ReadsInput ReadsOther IsUnasked IsOther CannotRead has reads unasked is = either has reads is
other-with HasState HasOther ReadsInput ReadsOther IsUnasked IsOther CannotWrite has reads unasked is = is
other-with HasState HasOther ReadsInput ReadsOther IsUnasked IsOther CannotListen has reads unasked is = is
other-with HasState HasOther ReadsInput ReadsOther IsUnasked IsOther OutOfMemory has reads unasked is = is

-- a question that stopped passes on as it is
pub stops_more : {A : Type 0} (Holds More : ProgramFault → Type 0) (result : Result A RunFault) → ((fault : ProgramFault) → Holds fault → More fault) → IfErr result (StopsOr Holds) → IfErr result (StopsOr More)
stops_more Holds More (Ok done) more holds = tt
stops_more Holds More (Err (run.Ask fault)) more holds = tt
stops_more Holds More (Err (run.Program fault)) more holds = more fault holds

-- ---- the first line that cannot be asked

-- what is the first among the lines that are left is so among all
abbrev pub CountsOn : Option (List ℕ) → ℕ → Option (List ℕ) → Type 0
CountsOn input place left = (all : List ℕ) → input ≡ Some all → (rest : List ℕ) × (left ≡ Some rest)
    × ((number : ℕ) → IsFirstUnasked place (lines_of rest) number → IsFirstUnasked 1 (lines_of all) number)

pub counts_first : (input : Option (List ℕ)) → CountsOn input 1 input
counts_first input = λ all is. (all, is, λ number first. first)

pub counts_next : (input left left' : Option (List ℕ)) (place : ℕ) (line : List ℕ) → CountsOn input place left → TakesWholeLine left left' true line → ¬ CannotBeAsked (line_of line) → CountsOn input (place + 1) left'
counts_next input left left' place line counts takes can = λ all is.
    let (rest, at, lead) = counts all is in
    by all rest lead left' (subst (λ (l : Option (List ℕ)). TakesWholeLine l left' true line) at takes)
  where
    by : (all rest : List ℕ) → ((number : ℕ) → IsFirstUnasked place (lines_of rest) number → IsFirstUnasked 1 (lines_of all) number) → (left' : Option (List ℕ)) → TakesWholeLine (Some rest) left' true line
        → (rest' : List ℕ) × (left' ≡ Some rest') × ((number : ℕ) → IsFirstUnasked (place + 1) (lines_of rest') number → IsFirstUnasked 1 (lines_of all) number)
    by all rest lead None bad = absurd bad
    by all rest lead (Some rest') is = (rest', refl, λ number first. lead number (subst (λ (lines : List (List ℕ)). IsFirstUnasked place lines number) (sym is) (inr (can, first))))

counts-here : (input left left' : Option (List ℕ)) (place : ℕ) (line : List ℕ) → CountsOn input place left → TakesWholeLine left left' true line → CannotBeAsked (line_of line)
    → IfSome input (λ all. IsFirstUnasked 1 (lines_of all) place)
counts-here None left left' place line counts takes cannot = tt
counts-here (Some all) left left' place line counts takes cannot =
    let (rest, at, lead) = counts all refl in
    by all rest lead left' (subst (λ (l : Option (List ℕ)). TakesWholeLine l left' true line) at takes)
  where
    by : (all rest : List ℕ) → ((number : ℕ) → IsFirstUnasked place (lines_of rest) number → IsFirstUnasked 1 (lines_of all) number) → (left' : Option (List ℕ)) → TakesWholeLine (Some rest) left' true line
        → IsFirstUnasked 1 (lines_of all) place
    by all rest lead None bad = absurd bad
    by all rest lead (Some rest') is = lead place (subst (λ (lines : List (List ℕ)). IsFirstUnasked place lines place) (sym is) (inl (cannot, refl)))

-- a fault at a line of the input
pub line_fault : (input left left' : Option (List ℕ)) (place : ℕ) (line : List ℕ) (why : RunFault) → CountsOn input place left → TakesWholeLine left left' true line
    → StopsOr (λ fault. IsFaultOfSaving fault ⊎ ((fault ≡ NotACommand place) × CannotBeAsked (line_of line))) why
    → StopsOr (IsFaultWith ⊥ ⊤ (λ number. IfSome input (λ all. IsFirstUnasked 1 (lines_of all) number))) why
line_fault input left left' place line (run.Ask fault) counts takes is = tt
line_fault input left left' place line (run.Program fault) counts takes (inl saving) = saving_with ⊥ ⊤ (λ number. IfSome input (λ all. IsFirstUnasked 1 (lines_of all) number)) fault saving
line_fault input left left' place line (run.Program fault) counts takes (inr (is, cannot)) =
    subst (λ (f : ProgramFault). IsFaultWith ⊥ ⊤ (λ number. IfSome input (λ all. IsFirstUnasked 1 (lines_of all) number)) f) (sym is) (counts-here input left left' place line counts takes cannot)

-- a line that was asked is one that can be
pub asked_can : (hash : List ℕ → List ℕ) (accepted verified : List ℕ → List ℕ → List ℕ → Type 0) {T : Type 0} (exchanged : T → RequestContent → Frame → T → Type 0) (background : Background) (before after : Scene T)
    (old new : Option (List ℕ)) (line : List ℕ) → Writes (AsksLine hash accepted verified exchanged background line) before old new after → ¬ CannotBeAsked (line_of line)
asked_can hash accepted verified {T} exchanged background before after old new line (done, (said, is, does), appends, same) = λ cannot. by done said does (subst (λ (s : Option ScriptLine). CannotBeAsked s) is cannot)
  where
    by : (done : Scene T) (said : ScriptLine) → DoesLine hash accepted verified exchanged background said before done → CannotBeAsked (Some said) → ⊥
    by done Pass does cannot = cannot
    by done (Ask asked) does cannot = cannot
    by done (Watch name given) does cannot = cannot
    by done (Piece session piece) does cannot = does
    by done (End session) does cannot = does

-- a fault at the line of the words, or at a line of the input
pub words_fault : (HasState : Type 0) (result : Result (Unit {0}) RunFault) (input : Option (List ℕ)) (order : AskOrder) (command : Bor (List ℕ)) → order.command ≡ Some command
    → IfErr result (StopsOr (λ fault. IsFaultOfSaving fault ⊎ ((fault ≡ NotACommand 1) × CannotBeAsked (line_of (words_line (ask_values order).words)))))
    → IfErr result (StopsOr (IsFaultWith HasState (AsksInput (ask_values order).words) (λ number. IfSome (lines_asked (ask_values order).words input) (λ lines. IsFirstUnasked 1 lines number))))
words_fault HasState result input order command some faults =
    stops_more (λ fault. IsFaultOfSaving fault ⊎ ((fault ≡ NotACommand 1) × CannotBeAsked (line_of (words_line (ask_values order).words))))
    (IsFaultWith HasState (AsksInput (ask_values order).words) (λ number. IfSome (lines_asked (ask_values order).words input) (λ lines. IsFirstUnasked 1 lines number))) result by faults
  where
    by : (fault : ProgramFault) → IsFaultOfSaving fault ⊎ ((fault ≡ NotACommand 1) × CannotBeAsked (line_of (words_line (ask_values order).words)))
        → IsFaultWith HasState (AsksInput (ask_values order).words) (λ number. IfSome (lines_asked (ask_values order).words input) (λ lines. IsFirstUnasked 1 lines number)) fault
    by fault (inl saving) = saving_with HasState (AsksInput (ask_values order).words) (λ number. IfSome (lines_asked (ask_values order).words input) (λ lines. IsFirstUnasked 1 lines number)) fault saving
    by fault (inr (is, cannot)) = subst (λ (f : ProgramFault). IsFaultWith HasState (AsksInput (ask_values order).words) (λ number. IfSome (lines_asked (ask_values order).words input) (λ lines. IsFirstUnasked 1 lines number)) f) (sym is)
        (asks_words {E = RunFault} (λ lines. IsFirstUnasked 1 lines 1) (Ok tt) input order command some (inl (cannot, refl)))

pub reads_input : (order : AskOrder) → order.command ≡ None → AsksInput (ask_values order).words
reads_input order none =
    subst (λ (command : Option (Bor (List ℕ))). AsksInput (option_map (λ text. text.now) command ∷ option_map (λ text. text.now) order.first ∷ option_map (λ text. text.now) order.second ∷ option_map (λ text. text.now) order.third ∷ [])) (sym none) tt

pub input_fault : (HasState : Type 0) (result : Result (Unit {0}) RunFault) (input : Option (List ℕ)) (order : AskOrder) → order.command ≡ None
    → IfErr result (StopsOr (IsFaultWith ⊥ ⊤ (λ number. IfSome input (λ all. IsFirstUnasked 1 (lines_of all) number))))
    → IfErr result (StopsOr (IsFaultWith HasState (AsksInput (ask_values order).words) (λ number. IfSome (lines_asked (ask_values order).words input) (λ lines. IsFirstUnasked 1 lines number))))
input_fault HasState result input order none faults =
    stops_more (IsFaultWith ⊥ ⊤ (λ number. IfSome input (λ all. IsFirstUnasked 1 (lines_of all) number)))
    (IsFaultWith HasState (AsksInput (ask_values order).words) (λ number. IfSome (lines_asked (ask_values order).words input) (λ lines. IsFirstUnasked 1 lines number))) result
    (λ fault is. other-with ⊥ HasState ⊤ (AsksInput (ask_values order).words) (λ number. IfSome input (λ all. IsFirstUnasked 1 (lines_of all) number))
    (λ number. IfSome (lines_asked (ask_values order).words input) (λ lines. IsFirstUnasked 1 lines number)) fault (λ never. absurd never) (λ reads. reads_input order none)
    (λ number first. asks_input {E = RunFault} (λ lines. IsFirstUnasked 1 lines number) (Ok tt) input order none first) is) faults

-- ---- the end

-- the fault that a run gives is the one that ended it, unless a write or memory failed then
pub given_so : (result : Result RunEnd ProgramFault) (outcome : Result (Unit {0}) RunFault) (order : AskOrder) (state : Option State) (input : Option (List ℕ)) → (order.state ≡ None → state ≡ None)
    → IfErr outcome (StopsOr (IsFaultWith (¬ (state ≡ None)) (AsksInput (ask_values order).words) (λ number. IfSome (lines_asked (ask_values order).words input) (λ lines. IsFirstUnasked 1 lines number))))
    → IfErr result (λ given. IsFaultOfSaving given ⊎ (outcome ≡ Err (run.Program given))) → IfErr result (IsRunFault (ask_values order) input)
given_so (Ok ended) outcome order state input without stops gives = tt
given_so (Err given) outcome order state input without stops (inl saving) =
    saving_with (¬ ((ask_values order).state ≡ None)) (AsksInput (ask_values order).words) (λ number. IfSome (lines_asked (ask_values order).words input) (λ lines. IsFirstUnasked 1 lines number)) given saving
given_so (Err given) outcome order state input without stops (inr is) =
    let found = subst (λ (o : Result (Unit {0}) RunFault). IfErr o (StopsOr (IsFaultWith (¬ (state ≡ None)) (AsksInput (ask_values order).words) (λ number. IfSome (lines_asked (ask_values order).words input) (λ lines. IsFirstUnasked 1 lines number))))) is stops in
    other-with (¬ (state ≡ None)) (¬ ((ask_values order).state ≡ None)) (AsksInput (ask_values order).words) (AsksInput (ask_values order).words) (λ number. IfSome (lines_asked (ask_values order).words input) (λ lines. IsFirstUnasked 1 lines number))
    (λ number. IfSome (lines_asked (ask_values order).words input) (λ lines. IsFirstUnasked 1 lines number)) given (λ has none. has (without (none_before (λ text. text.now) order.state none))) (λ reads. reads) (λ number first. first) found

some-none : (keys : List ℕ × List ℕ) (found : Option (List ℕ × List ℕ)) → found ≡ Some keys → found ≡ None → ⊥
some-none keys found some none = search (rules, sym some ∙ none)

module _ {A : Type 0} (result : Result A ProgramFault) (options : AskOptions) (input : Option (List ℕ)) where
  -- a run is not ended by a text that is no key
  pub not_hex : IfErr result (IsRunFault options input) → result ≡ Err BadHex → ⊥
  not_hex faults bad = subst (λ (r : Result A ProgramFault). IfErr r (IsRunFault options input)) bad faults

  pub hex_so : (keys : List ℕ × List ℕ) → ask_keys_of options ≡ Some keys → IfErr result (IsRunFault options input) → (result ≡ Err BadHex) ↔ (ask_keys_of options ≡ None)
  hex_so keys are faults = ((λ bad. absurd (not_hex faults bad)), λ none. absurd (some-none keys (ask_keys_of options) are none))

pub hex_or : {A : Type 0} (result : Result A ProgramFault) (options : AskOptions) (input : Option (List ℕ)) → IfErr result (IsRunFault options input) → IfErr result (λ fault. (fault ≡ BadHex) ⊎ IsRunFault options input fault)
hex_or (Ok done) options input faults = tt
hex_or (Err fault) options input faults = inr faults

-- nothing is read after such a text, nor where words are asked
pub unread_so : {Bad Words Unread : Type 0} → (Bad → ⊥) → (Words → Unread) → Bad ⊎ Words → Unread
unread_so good unread (inl bad) = absurd (good bad)
unread_so good unread (inr words) = unread words

-- ---- what is written

pub grows_not : (old : Option (List ℕ)) → Grows old old
grows_not old = ([], Appends-nil old)

pub grows_on : (old now new : Option (List ℕ)) → Grows old now → Grows now new → Grows old new
grows_on old now new (text, appends) (more, further) = (text ++ more, Appends-trans old now new text more appends further)
