-- Whether the last epoch of a run is as late as it is wanted.
use Rattle.std.proofs.Common.{◌≡◌, ◌≢◌, ◌⊎◌, ◌∙◌, ◌<◌, ◌≤◌, ℕ, List, [], ◌∷◌, ◌++◌, Bor, Option, None, Some, Result, Ok, Err, ap, append-nil, append_assoc, arith, inl, inr, option_map, refl, subst, sym}
use Rattle.std.specs.Prelude.{IfErr, IfOk, IfSome, OnErr, OnOk, ⊤}
use Rattle.std.specs.Io.KnownBytes.{Appends}
use Rattle.std.proofs.KnownBytes.{Appends-nil, Appends-trans, Keeps-refl}
use Rattle.textio.specs.Faults.{fault_text}
use Rattle.textio.specs.Output.{WritesBeginning, WritesSome}
use Rattle.play.specs.Scripts.{ScriptLine, Pass, Ask, Watch, Piece, End, line_of}
use Rattle.asking.specs.Reports.{report_of, Report}
use Rattle.runs.specs.RunFaults.{IsFaultOfState}
use Rattle.runs.specs.Runs.{emptied, words_line, Background, Grows, IsSoundFor, Prepares, Writes}
use Rattle.runs.specs.Saves.{Act, LeavesTold}
use Rattle.textio.specs.declared.program_fault.ProgramFault.{ProgramFault}
use Rattle.textio.specs.declared.program_fault.ProgramFault.TheVariants.{CannotWrite, OutOfMemory}
use Rattle.client.specs.Clients.{Client}
use Rattle.monitor.specs.Monitors.{Monitor}
use Rattle.rootchain.specs.declared.signed_promise.SignedPromise.{SignedPromise}
use Rattle.memory.specs.declared.mark.Mark.{Mark}
use Rattle.wire.specs.Frames.{Frame}
use Rattle.wire.specs.Requests.{RequestContent}
use Rattle.runs.specs.AskOptions.{AskOptions, ask_values}
use Rattle.runs.specs.Ending.{AsksAs, AsksSomeLine, DoesSome, DoesSomeNoting, EndsEarly, EndsStale, FailsAs, FailsLate, HasFirst, HasLast, IsNewFor, IsUnknown, LoadsNone, NotesFirst, PreparesSome, RunsAs, Sees, TellsFault}
use Rattle.runs.specs.Lateness.{stale_line, subject_in, subject_of, wanted_of, Finds, HasEpoch, HasNoted, HasNotedAs, IsLast, IsLimitOf, IsSameLimit, IsStale}
use Rattle.asking.specs.Scenes.{Scene, scene}
use Rattle.asking.specs.declared.ask_fault.AskFault.{AskFault}
use Rattle.asking.specs.declared.ask_fault.AskFault.TheVariants.{OutOfMemory as NoMemory}
use Rattle.runs.specs.declared.run_fault.RunFault.{RunFault}
use Rattle.runs.specs.declared.run_fault.RunFault.TheVariants.{Program}
use Rattle.asking.specs.declared.asker.Asker.{Asker}
use Rattle.runs.specs.declared.lateness.Limit.{Limit}
use Rattle.runs.specs.declared.lateness.Subject.{Subject}
use Rattle.runs.specs.declared.order.AskOrder.{AskOrder}
use Rattle.runs.specs.declared.run.Run.{Run}
use Rattle.runs.specs.declared.run.RunEnd.{RunEnd}
use Rattle.asking.specs.declared.said.Said.{Said}
use Rattle.runs.specs.declared.run.RunEnd.TheVariants.{Whole, Stopped, Unwritten, Stale}
use Rattle.runs.proofs.Ended.{early_held, err_so}
use Rattle.runs.proofs.Ran.{none_before}

pub err_more : {A E P Q : Type 0} (result : Result A E) → (P → Q) → OnErr result P → OnErr result Q
err_more (Ok done) leads holds = tt
err_more (Err why) leads holds = leads holds

-- a fault is the same in another result
pub err_again : {A B E : Type 0} (one other : E) → ◌≡◌ {A = Result A E} (Err one) (Err other) → ◌≡◌ {A = Result B E} (Err one) (Err other)
err_again one other same = ap Err (err-one one other same)
  where
    err-one : {A E : Type 0} (one other : E) → ◌≡◌ {A = Result A E} (Err one) (Err other) → one ≡ other
    err-one one other same = cc

-- nothing was told that has the status of evidence or an alarm
pub low_status : (said : Said) → report_of said ≡ emptied 0 → said.status < 3
low_status said empty = subst (λ (n : ℕ). n < 3) (sym (ap (λ (r : Report). r.status) empty)) (omega arith)

some-not : {A : Type 0} (a : A) (x : Option A) → x ≡ None → x ≡ Some a → ⊥
some-not a x none some = cc

same-some : (a b : ℕ) (x : Option ℕ) → x ≡ Some a → x ≡ Some b → b ≡ a
same-some a b x one other = cc

-- what an order wants the last epoch of
pub wanted-is : (options : AskOptions) (limit : Limit) (after : ℕ) (about : Subject) → IsLimitOf options limit → options.after ≡ Some after → subject_in options.words ≡ Some about → limit.subject ≡ Some about
wanted-is options limit after about is given words = is.0 ∙ ap (λ (a : Option ℕ). wanted_of a options.words) given ∙ words

noted-at : (Is : Subject → ℕ → Type 0) (limit : Limit) (about : Subject) → limit.subject ≡ Some about → HasNotedAs Is limit → (epoch : ℕ) × (limit.last ≡ Some epoch) × Is about epoch
noted-at Is limit about is noted = subst (λ (s : Option Subject). IfSome s (λ one. (epoch : ℕ) × (limit.last ≡ Some epoch) × Is one epoch)) is noted

-- what was noted is the last epoch
pub late_noted : (Is : Subject → ℕ → Type 0) (options : AskOptions) (limit : Limit) → IsLimitOf options limit → HasNotedAs Is limit → HasEpoch options Is (λ after last. limit.last ≡ Some last)
late_noted Is options limit is noted = λ after given about words.
    let (epoch, last, at) = noted-at Is limit about (wanted-is options limit after about is given words) noted in (epoch, at, last)

-- it was noted of the same marks, client and monitors
pub noted_same : (marks marks' : List Mark) (client client' : Client) (monitors monitors' : List Monitor) (limit : Limit) → marks ≡ marks' → client ≡ client' → monitors ≡ monitors'
    → HasNotedAs (IsLast marks client monitors) limit → HasNotedAs (IsLast marks' client' monitors') limit
noted_same marks marks' client client' monitors monitors' limit same one other noted =
    subst (λ (ms : List Mark). HasNotedAs (IsLast ms client' monitors') limit) same (
    subst (λ (c : Client). HasNotedAs (IsLast marks c monitors') limit) one (
    subst (λ (ms : List Monitor). HasNotedAs (IsLast marks client ms) limit) other noted))

-- in the same limit it was noted
pub noted_still : (Is : Subject → ℕ → Type 0) (before after : Limit) → after ≡ before → HasNotedAs Is before → HasNotedAs Is after
noted_still Is before after same noted = subst (λ (l : Limit). HasNotedAs Is l) (sym same) noted

-- It was noted where a question settled, or is as it was: so in a scene to which some step leads.
pub settled_noted : {H V S T A : Type 0} (Leads : Scene T → Type 0) (marks : List Mark) (asker : Asker H V S) (asked : Result A AskFault) (Settled : Type 0) (before after : Limit) → asker.marks.items ≡ marks
    → (asked ≢ Err NoMemory → (reached : Scene T) × Leads reached × (asker.client ≡ reached.client) × (asker.monitors.items ≡ reached.monitors))
    → (seen : Scene T) × Leads seen × HasNotedAs (IsLast marks seen.client seen.monitors) before
    → ((asked ≢ Err NoMemory) × HasNoted asker after) ⊎ ((¬ Settled) × (after ≡ before))
    → (seen : Scene T) × Leads seen × HasNotedAs (IsLast marks seen.client seen.monitors) after
settled_noted Leads marks asker asked Settled before after same stands had (inl (some, noted)) =
    let (reached, leads, client, monitors) = stands some in
    (reached, leads, noted_same asker.marks.items marks asker.client reached.client asker.monitors.items reached.monitors after same client monitors noted)
settled_noted Leads marks asker asked Settled before after same stands (seen, leads, noted) (inr (not, still)) = (seen, leads, noted_still (IsLast marks seen.client seen.monitors) before after still noted)

-- without words nothing has a last epoch
pub no_subject : (order : AskOrder) (about : Subject) → order.command ≡ None → subject_in (ask_values order).words ≡ Some about → ⊥
no_subject order about none is = some-not about (subject_in (ask_values order).words) (nothing order none) is
  where
    nothing : (order : AskOrder) → order.command ≡ None → subject_in (ask_values order).words ≡ None
    nothing order none = subst (λ (command : Option (Bor (List ℕ))). subject_in (option_map (λ text. text.now) command ∷ option_map (λ text. text.now) order.first ∷ option_map (λ text. text.now) order.second ∷ option_map (λ text. text.now) order.third ∷ []) ≡ None) (sym none) refl

-- the limit of an order stays its limit
pub same_limit : (options : AskOptions) (before after : Limit) → IsSameLimit before after → IsLimitOf options before → IsLimitOf options after
same_limit options before after same is = (same.0 ∙ is.0, λ epoch given. same.1 ∙ is.1 epoch given)

pub limit_trans : (one two three : Limit) → IsSameLimit one two → IsSameLimit two three → IsSameLimit one three
limit_trans one two three first second = (second.0 ∙ first.0, second.1 ∙ first.1)

module _ {T E : Type 0} (hash : List ℕ → List ℕ) (accepted verified : List ℕ → List ℕ → List ℕ → Type 0) (exchanged : T → RequestContent → Frame → T → Type 0) (order : AskOrder) (Limited : Type 0) where
  -- so the last epoch is known at the end of a run of words
  pub late_words : {H V S : Type 0} (result : Result (Unit {0}) E) (limit : Limit) (asker : Asker H V S) (said : Said) (stream : T) (marks : List Mark) → asker.marks.items ≡ marks → (Limited → IsLimitOf (ask_values order) limit) → OnOk result (HasNoted asker limit)
      → OnOk result (Limited → HasLast hash accepted verified exchanged (ask_values order) marks (scene asker said stream) (λ after last. limit.last ≡ Some last))
  late_words (Err why) limit asker said stream marks same is noted = tt
  late_words (Ok done) limit asker said stream marks same is noted = λ limited.
      late_noted (IsLast marks asker.client asker.monitors.items) (ask_values order) limit (is limited) (noted_same asker.marks.items marks asker.client asker.client asker.monitors.items asker.monitors.items limit same refl refl noted)

  -- and nothing has one at the end of a run of lines
  pub late_lines : (result : Result (Unit {0}) E) (marks : List Mark) (last : Scene T) (Holds : ℕ → ℕ → Type 0) → order.command ≡ None
      → OnOk result (Limited → HasLast hash accepted verified exchanged (ask_values order) marks last Holds)
  late_lines (Err why) marks last Holds none = tt
  late_lines (Ok done) marks last Holds none = λ limited after given about words. absurd (no_subject order about none words)

-- ---- a run that ends early

module _ {A : Type 0} (hash : List ℕ → List ℕ) (accepted verified : List ℕ → List ℕ → List ℕ → Type 0) (key : List ℕ) (HasNoState : Type 0) (result : Result A RunFault) (before after : Limit) (said : Said) (first : Report) where
  -- the state could not be read
  pub first_unread : (fault : ProgramFault) → result ≡ Err (Program fault) → ¬ HasNoState → IsFaultOfState fault → after.last ≡ before.last → report_of said ≡ first
      → OnErr result (first ≡ emptied 0 → NotesFirst hash accepted verified key HasNoState result before after said.status)
  first_unread fault is some state last same = err_so result first-so
    where
      first-so : first ≡ emptied 0 → NotesFirst hash accepted verified key HasNoState result before after said.status
      first-so empty = inr (inr (fault, is, some, state, last, low_status said (same ∙ empty)))

  -- it was, and what it has was noted
  pub first_state : (marks : List Mark) (client : Client) → ¬ HasNoState → IsSoundFor hash accepted verified key client → HasNotedAs (IsLast marks client []) after
      → OnErr result (first ≡ emptied 0 → NotesFirst hash accepted verified key HasNoState result before after said.status)
  first_state marks client some sound noted = err_so result first-so
    where
      first-so : first ≡ emptied 0 → NotesFirst hash accepted verified key HasNoState result before after said.status
      first-so empty = inr (inl (some, (marks, client, sound, noted)))

module _ (hash : List ℕ → List ℕ) (accepted verified : List ℕ → List ℕ → List ℕ → Type 0) (key : List ℕ) (options : AskOptions) (HasNoState : Type 0) (limit : Limit) (is : IsLimitOf options limit) where
  -- it did not begin
  pub late_first : {A B T : Type 0} (exchanged : T → RequestContent → Frame → T → Type 0) (result : Result A RunFault) (passed : Result B RunFault) (before : Limit) (status : ℕ) → ((fault : ProgramFault) → result ≡ Err (Program fault) → passed ≡ Err (Program fault))
      → NotesFirst hash accepted verified key HasNoState result before limit status → LoadsNone HasNoState passed before limit status ⊎ HasFirst hash accepted verified exchanged key options HasNoState (λ after last. limit.last ≡ Some last)
  late_first exchanged result passed before status leads (inl zero-noted) = inr (inl (λ after given about words. (0, refl, zero-noted)))
  late_first exchanged result passed before status leads (inr (inl (some, (marks, client, sound, noted)))) = inr (inr (some, (marks, client, sound, late_noted (IsLast marks client []) options limit is noted)))
  late_first exchanged result passed before status leads (inr (inr (fault, was, some, state, last, low))) = inl (fault, leads fault was, some, state, last, low)

module _ (hash : List ℕ → List ℕ) (accepted verified : List ℕ → List ℕ → List ℕ → Type 0) {T : Type 0} (exchanged : T → RequestContent → Frame → T → Type 0) (options : AskOptions) (HasNoState : Type 0) (background : Background) (start : Scene T) (limit : Limit) where
  -- what is new was followed up to some point
  pub late_preparing : IsLimitOf options limit → (seen : Scene T) × ((seen ≡ start) ⊎ PreparesSome hash accepted verified exchanged background HasNoState start seen) × HasNotedAs (IsLast background.marks seen.client seen.monitors) limit
      → (seen : Scene T) × Sees hash accepted verified exchanged background options HasNoState start seen × HasLast hash accepted verified exchanged options background.marks seen (λ after last. limit.last ≡ Some last)
  late_preparing is (seen, inl same, noted) = (seen, inl same, late_noted (IsLast background.marks seen.client seen.monitors) options limit is noted)
  late_preparing is (seen, inr some, noted) = (seen, inr (inl some), late_noted (IsLast background.marks seen.client seen.monitors) options limit is noted)

  -- the words were asked up to some point
  pub late_asking : (background' : Background) (ready : Scene T) (old now : Option (List ℕ)) → IsLimitOf options limit → background' ≡ background → Writes (Prepares hash accepted verified exchanged background HasNoState) start old now ready
      → (seen : Scene T) × AsksSomeLine hash accepted verified exchanged background' (words_line options.words) ready seen × HasNotedAs (IsLast background'.marks seen.client seen.monitors) limit
      → (seen : Scene T) × Sees hash accepted verified exchanged background options HasNoState start seen × HasLast hash accepted verified exchanged options background.marks seen (λ after last. limit.last ≡ Some last)
  late_asking background' ready old now is same (done, prepares, appends, left) (seen, asks, noted) = (
    seen,
    inr (inr (
      done,
      prepares,
      subst (λ (r : Scene T). AsksSomeLine hash accepted verified exchanged background (words_line options.words) r seen) left
          (subst (λ (k : Background). AsksSomeLine hash accepted verified exchanged k (words_line options.words) ready seen) same asks),
    )),
    late_noted (IsLast background.marks seen.client seen.monitors) options limit is (subst (λ (k : Background). HasNotedAs (IsLast k.marks seen.client seen.monitors) limit) same noted),
  )

-- what is asked and noted is asked
pub does_noting : {T : Type 0} (hash : List ℕ → List ℕ) (accepted verified : List ℕ → List ℕ → List ℕ → Type 0) (exchanged : T → RequestContent → Frame → T → Type 0) (background : Background) (fault : AskFault) (said : ScriptLine) (noted noted' : List SignedPromise) (before reached : Scene T)
    → DoesSomeNoting hash accepted verified exchanged background fault said noted noted' before reached → DoesSome hash accepted verified exchanged background said before reached
does_noting hash accepted verified exchanged background fault said noted noted' before reached (inl same) = inl same.0
does_noting hash accepted verified exchanged background fault Pass noted noted' before reached (inr (inl does)) = inr (inl does.0)
does_noting hash accepted verified exchanged background fault (Ask asked) noted noted' before reached (inr (inl does)) = inr (inl (noted, noted', does))
does_noting hash accepted verified exchanged background fault (Watch name given) noted noted' before reached (inr (inl does)) = inr (inl (noted, does.0))
does_noting hash accepted verified exchanged background fault (Piece session piece) noted noted' before reached (inr (inl does)) = absurd does
does_noting hash accepted verified exchanged background fault (End session) noted noted' before reached (inr (inl does)) = absurd does
does_noting hash accepted verified exchanged background fault Pass noted noted' before reached (inr (inr part)) = absurd part
does_noting hash accepted verified exchanged background fault (Ask asked) noted noted' before reached (inr (inr (inl stops))) = inr (inr (inl stops.0))
does_noting hash accepted verified exchanged background fault (Ask asked) noted noted' before reached (inr (inr (inr some))) = inr (inr (inr (fault, noted, noted', some)))
does_noting hash accepted verified exchanged background fault (Watch name given) noted noted' before reached (inr (inr part)) = inr (inr (noted, part.0))
does_noting hash accepted verified exchanged background fault (Piece session piece) noted noted' before reached (inr (inr part)) = absurd part
does_noting hash accepted verified exchanged background fault (End session) noted noted' before reached (inr (inr part)) = absurd part

-- without words nothing is wanted at the end of a run
pub late_none : {T : Type 0} (hash : List ℕ → List ℕ) (accepted verified : List ℕ → List ℕ → List ℕ → Type 0) (exchanged : T → RequestContent → Frame → T → Type 0) (order : AskOrder) (HasNoState : Type 0) (background : Background) (start : Scene T) (Holds : ℕ → ℕ → Type 0) → order.command ≡ None
    → (seen : Scene T) × Sees hash accepted verified exchanged background (ask_values order) HasNoState start seen × HasLast hash accepted verified exchanged (ask_values order) background.marks seen Holds
late_none hash accepted verified exchanged order HasNoState background start Holds none = (start, inl refl, λ after given about words. absurd (no_subject order about none words))

-- ---- the end

-- the order has a limit, and this is not above it
is-stale : (options : AskOptions) (limit : Limit) (epoch : ℕ) → IsLimitOf options limit → Finds limit (Some epoch) → IsStale options epoch
is-stale options limit epoch is (some, last, low) = by options.after refl
  where
    by : (given : Option ℕ) → options.after ≡ given → IsStale options epoch
    by None none = absurd (some (is.0 ∙ ap (λ (a : Option ℕ). wanted_of a options.words) none))
    by (Some after) given = (after, given, subst (λ (a : ℕ). epoch ≤ a) (is.1 after given) low, λ none. some (is.0 ∙ ap (λ (a : Option ℕ). wanted_of a options.words) given ∙ none))

-- it has one, and the last epoch is above it
is-late : (options : AskOptions) (limit : Limit) (after epoch : ℕ) (about : Subject) → IsLimitOf options limit → Finds limit None → options.after ≡ Some after → subject_in options.words ≡ Some about → limit.last ≡ Some epoch → after < epoch
is-late options limit after epoch about is (inl none) given words last = absurd (some-not about limit.subject none (wanted-is options limit after about is given words))
is-late options limit after epoch about is (inr (inl none)) given words last = absurd (some-not epoch limit.last none last)
is-late options limit after epoch about is (inr (inr (known, here, above))) given words last =
    subst (λ (e : ℕ). after < e) (same-some epoch known limit.last last here) (subst (λ (a : ℕ). a < known) (is.1 after given) above)

module _ {T : Type 0} (hash : List ℕ → List ℕ) (accepted verified : List ℕ → List ℕ → List ℕ → Type 0) (exchanged : T → RequestContent → Frame → T → Type 0) (key token : List ℕ) (options : AskOptions) (HasNoState : Type 0) (stream stream' : T) (input old : Option (List ℕ)) (limit : Limit) (is : IsLimitOf options limit) where
  held-late : (Unknown Unknown' : Type 0) (Then : Report → Option (List ℕ) → Type 0) → Finds limit None → (Unknown → Unknown') → EndsEarly hash accepted verified exchanged key token options HasNoState stream input old (λ after last. limit.last ≡ Some last) Unknown Then
      → EndsEarly hash accepted verified exchanged key token options HasNoState stream input old (λ after last. after < last) Unknown' Then
  held-late Unknown Unknown' Then finds leads run =
      early_held hash accepted verified exchanged key token options HasNoState stream input old (λ after last. limit.last ≡ Some last) (λ after last. after < last) Unknown Unknown' Then
      (λ after epoch about given words last. is-late options limit after epoch about is finds given words last) leads run

  held-stale : (Unknown : Type 0) (Then : Report → Option (List ℕ) → Type 0) (epoch : ℕ) → Finds limit (Some epoch) → (Unknown → ⊥) → EndsEarly hash accepted verified exchanged key token options HasNoState stream input old (λ after last. limit.last ≡ Some last) Unknown Then
      → EndsEarly hash accepted verified exchanged key token options HasNoState stream input old (λ after last. last ≡ epoch) ⊥ Then
  held-stale Unknown Then epoch (some, here, low) leads run =
      early_held hash accepted verified exchanged key token options HasNoState stream input old (λ after last. limit.last ≡ Some last) (λ after last. last ≡ epoch) Unknown ⊥ Then
      (λ after other about given words last. same-some epoch other limit.last here last) leads run

  asked-late : (ended : RunEnd) (new : Option (List ℕ)) → Finds limit None → AsksAs hash accepted verified exchanged key token options HasNoState stream stream' input (λ after last. limit.last ≡ Some last) ended old new
      → RunsAs hash accepted verified exchanged key token options HasNoState stream stream' input ended old new
  asked-late (Whole status) new finds (run, late) =
      (run, λ after given about words. let (epoch, at, last) = late after given about words in (epoch, at, is-late options limit after epoch about is finds given words last))
  asked-late (Stopped status) new finds run = held-late ⊥ ⊥ _ finds (λ no. no) run
  asked-late Unwritten new finds run = inl (held-late ⊥ ⊥ _ finds (λ no. no) run)
  asked-late (Stale epoch) new finds run = absurd run

  asked-stale : (epoch : ℕ) (ended : RunEnd) (new : Option (List ℕ)) → Finds limit (Some epoch) → AsksAs hash accepted verified exchanged key token options HasNoState stream stream' input (λ after last. limit.last ≡ Some last) ended old new
      → AsksAs hash accepted verified exchanged key token options HasNoState stream stream' input (λ after last. last ≡ epoch) ended old new
  asked-stale epoch (Whole status) new (some, here, low) (run, late) =
      (run, λ after given about words. let (last, at, is') = late after given about words in (last, at, same-some epoch last limit.last here is'))
  asked-stale epoch (Stopped status) new finds run = held-stale ⊥ _ epoch finds (λ no. no) run
  asked-stale epoch Unwritten new finds run = held-stale ⊥ _ epoch finds (λ no. no) run
  asked-stale epoch (Stale other) new finds run = absurd run

  ends-stale : (epoch : ℕ) (ended : Result RunEnd ProgramFault) (new : Option (List ℕ)) (Then : Option (List ℕ) → Type 0) → Finds limit (Some epoch) → Then new
      → IfOk ended (λ end. AsksAs hash accepted verified exchanged key token options HasNoState stream stream' input (λ after last. limit.last ≡ Some last) end old new)
      → IfErr ended (λ fault. FailsLate hash accepted verified exchanged key token options HasNoState stream input (λ after last. limit.last ≡ Some last) (IsUnknown HasNoState fault × (limit.last ≡ None)) fault old new)
      → EndsStale hash accepted verified exchanged key token options HasNoState stream stream' input epoch old Then
  ends-stale epoch (Ok one) new Then finds holds asks fails = (is-stale options limit epoch is finds, (new, holds, inl (one, asked-stale epoch one new finds asks)))
  ends-stale epoch (Err fault) new Then finds holds asks fails =
      (is-stale options limit epoch is finds, (new, holds, inr (fault, held-stale (IsUnknown HasNoState fault × (limit.last ≡ None)) _ epoch finds (λ (unknown, none). some-not epoch limit.last none finds.1) fails)))

  module _ (ended result : Result RunEnd ProgramFault) (new new' : Option (List ℕ)) where
    -- a run as it ends once this is told
    pub told_late : (stale : Option ℕ) → Finds limit stale
        → IfOk ended (λ end. AsksAs hash accepted verified exchanged key token options HasNoState stream stream' input (λ after last. limit.last ≡ Some last) end old new)
        → IfErr ended (λ fault. FailsLate hash accepted verified exchanged key token options HasNoState stream input (λ after last. limit.last ≡ Some last) (IsUnknown HasNoState fault × (limit.last ≡ None)) fault old new)
        → (stale ≡ None → (result ≡ ended) × (new' ≡ new))
        → IfSome stale (λ epoch. ((result ≡ Ok (Stale epoch)) × Appends new new' (stale_line epoch)) ⊎ ((result ≡ Ok Unwritten) × WritesSome new new' (stale_line epoch)))
        → IfOk result (λ end. RunsAs hash accepted verified exchanged key token options HasNoState stream stream' input end old new')
    told_late None finds asks fails same told =
        subst (λ (r : Result RunEnd ProgramFault). IfOk r (λ end. RunsAs hash accepted verified exchanged key token options HasNoState stream stream' input end old new')) (sym (same refl).0) (
        subst (λ (text : Option (List ℕ)). IfOk ended (λ end. RunsAs hash accepted verified exchanged key token options HasNoState stream stream' input end old text)) (sym (same refl).1) (by ended asks))
      where
        by : (one : Result RunEnd ProgramFault) → IfOk one (λ end. AsksAs hash accepted verified exchanged key token options HasNoState stream stream' input (λ after last. limit.last ≡ Some last) end old new)
            → IfOk one (λ end. RunsAs hash accepted verified exchanged key token options HasNoState stream stream' input end old new)
        by (Ok one) run = asked-late one new finds run
        by (Err fault) run = tt
    told_late (Some epoch) finds asks fails same (inl (is-stale', wrote)) =
        subst (λ (r : Result RunEnd ProgramFault). IfOk r (λ end. RunsAs hash accepted verified exchanged key token options HasNoState stream stream' input end old new')) (sym is-stale')
        (ends-stale epoch ended new (λ now. Appends now new' (stale_line epoch)) finds wrote asks fails)
    told_late (Some epoch) finds asks fails same (inr (is-part, wrote)) =
        subst (λ (r : Result RunEnd ProgramFault). IfOk r (λ end. RunsAs hash accepted verified exchanged key token options HasNoState stream stream' input end old new')) (sym is-part)
        (inr (epoch, ends-stale epoch ended new (λ now. WritesSome now new' (stale_line epoch)) finds wrote asks fails))

    -- and as it fails
    pub fails_late : (stale : Option ℕ) → Finds limit stale → IfErr ended (λ fault. FailsLate hash accepted verified exchanged key token options HasNoState stream input (λ after last. limit.last ≡ Some last) (IsUnknown HasNoState fault × (limit.last ≡ None)) fault old new)
        → (stale ≡ None → (result ≡ ended) × (new' ≡ new))
        → IfSome stale (λ epoch. ((result ≡ Ok (Stale epoch)) × Appends new new' (stale_line epoch)) ⊎ ((result ≡ Ok Unwritten) × WritesSome new new' (stale_line epoch)))
        → IfErr result (λ fault. FailsAs hash accepted verified exchanged key token options HasNoState stream input fault old new')
    fails_late None finds fails same told =
        subst (λ (r : Result RunEnd ProgramFault). IfErr r (λ fault. FailsAs hash accepted verified exchanged key token options HasNoState stream input fault old new')) (sym (same refl).0) (
        subst (λ (text : Option (List ℕ)). IfErr ended (λ fault. FailsAs hash accepted verified exchanged key token options HasNoState stream input fault old text)) (sym (same refl).1) (by ended fails))
      where
        by : (one : Result RunEnd ProgramFault) → IfErr one (λ fault. FailsLate hash accepted verified exchanged key token options HasNoState stream input (λ after last. limit.last ≡ Some last) (IsUnknown HasNoState fault × (limit.last ≡ None)) fault old new)
            → IfErr one (λ fault. FailsAs hash accepted verified exchanged key token options HasNoState stream input fault old new)
        by (Ok one) run = tt
        by (Err fault) run = held-late (IsUnknown HasNoState fault × (limit.last ≡ None)) (IsUnknown HasNoState fault) _ finds (λ unknown. unknown.0) run
    fails_late (Some epoch) finds fails same (inl (is-stale', wrote)) = subst (λ (r : Result RunEnd ProgramFault). IfErr r (λ fault. FailsAs hash accepted verified exchanged key token options HasNoState stream input fault old new')) (sym is-stale') tt
    fails_late (Some epoch) finds fails same (inr (is-part, wrote)) = subst (λ (r : Result RunEnd ProgramFault). IfErr r (λ fault. FailsAs hash accepted verified exchanged key token options HasNoState stream input fault old new')) (sym is-part) tt

-- the end of a whole run
abbrev IsWhole : RunEnd → Type 0
IsWhole (Whole status) = ⊤
IsWhole (Stopped status) = ⊥
IsWhole Unwritten = ⊥
IsWhole (Stale epoch) = ⊥

-- behind a whole run nothing is written
pub whole_late : (ended result : Result RunEnd ProgramFault) (new new' : Option (List ℕ)) (stale : Option ℕ) → (stale ≡ None → (result ≡ ended) × (new' ≡ new))
    → IfSome stale (λ epoch. ((result ≡ Ok (Stale epoch)) × Appends new new' (stale_line epoch)) ⊎ ((result ≡ Ok Unwritten) × WritesSome new new' (stale_line epoch)))
    → (status : ℕ) → result ≡ Ok (Whole status) → (ended ≡ Ok (Whole status)) × (new' ≡ new)
whole_late ended result new new' None same told status is = (sym (same refl).0 ∙ is, (same refl).1)
whole_late ended result new new' (Some epoch) same (inl (behind, wrote)) status is = absurd (subst (λ (r : Result RunEnd ProgramFault). IfOk r IsWhole) (sym is ∙ behind) tt)
whole_late ended result new new' (Some epoch) same (inr (part, wrote)) status is = absurd (subst (λ (r : Result RunEnd ProgramFault). IfOk r IsWhole) (sym is ∙ part) tt)

-- and a fault is the one that it ended with
pub fault_late : (Holds : ProgramFault → Type 0) (ended result : Result RunEnd ProgramFault) → IfErr result (λ fault. ended ≡ Err fault) → IfErr ended Holds → IfErr result Holds
fault_late Holds ended (Ok one) is holds = tt
fault_late Holds ended (Err fault) is holds = subst (λ (r : Result RunEnd ProgramFault). IfErr r Holds) is holds

-- a run that could not begin is not whole
pub not_whole : (result : Result RunEnd ProgramFault) (fault : ProgramFault) (status : ℕ) → result ≡ Err fault → result ≡ Ok (Whole status) → ⊥
not_whole result fault status failed is = cc

-- a run of an order has a state exactly where the order has
pub state_none : (order : AskOrder) (run : Run) → IsNewFor (ask_values order) run → order.state ≡ None → run.state ≡ None
state_none order run new none = new.0.1 (ap (λ (state : Option (Bor (List ℕ))). option_map (λ text. text.now) state) none)

pub state_some : (order : AskOrder) (run : Run) → IsNewFor (ask_values order) run → run.state ≡ None → order.state ≡ None
state_some order run new none = none_before (λ text. text.now) order.state (new.0.0 none)

-- and so of one that ends early
pub parts_limited : {E L : Type 0} (P Q : Type 0) (result : Result (Unit {0}) E) → L → OnErr result (P → L → Q) → OnErr result (P → Q)
parts_limited P Q (Ok done) is part = tt
parts_limited P Q (Err why) is part = λ first. part first is

-- what is so of a run with its limit is so of a run that has it
pub runs_limited : {E L : Type 0} (P Q : Type 0) (result : Result (Unit {0}) E) → L → OnOk result (P → L → Q) → OnOk result (P → Q)
runs_limited P Q (Err why) is runs = tt
runs_limited P Q (Ok done) is runs = λ first. runs first is

-- a text that is written in three parts, of which one may fail
pub part-grows : (old new : Option (List ℕ)) (text : List ℕ) → WritesSome old new text → Grows old new
part-grows old new text (rest, (front, parts, appends)) = (front, appends)

pub part-first : (old new : Option (List ℕ)) (one two : List ℕ) → WritesSome old new one → WritesSome old new (one ++ two)
part-first old new one two (rest, (front, parts, appends)) = (rest ++ two, (front, ap (λ (xs : List ℕ). xs ++ two) parts ∙ append_assoc front rest two, appends))

pub part-behind : (old now new : Option (List ℕ)) (one two : List ℕ) → Appends old now one → WritesSome now new two → WritesSome old new (one ++ two)
part-behind old now new one two first (rest, (front, parts, appends)) =
    (rest, (one ++ front, ap (λ (xs : List ℕ). one ++ xs) parts ∙ sym (append_assoc one front rest), Appends-trans old now new one front first appends))

pub part-all : (old new : Option (List ℕ)) (text : List ℕ) → Appends old new text → WritesSome old new text
part-all old new text appends = ([], (text, sym (append-nil text), appends))

pub part-cut : (old new : Option (List ℕ)) (text : List ℕ) → WritesBeginning old new text → WritesSome old new text
part-cut old new text (rest, some, but) = (rest, but)

-- the fault behind which a run ends, or that it has none
pub tells_fault : (ended : Result RunEnd ProgramFault) (fault : ProgramFault) (told : Result (Unit {0}) ProgramFault) (old new : Option (List ℕ)) → ended ≡ Err fault → OnOk told (Appends old new (fault_text fault))
    → IfErr told (λ why. (why ≡ CannotWrite) × WritesBeginning old new (fault_text fault)) → TellsFault ended old new
tells_fault ended fault told old new is whole part = subst (λ (r : Result RunEnd ProgramFault). TellsFault r old new) (sym is) (by told whole part)
  where
    by : (told : Result (Unit {0}) ProgramFault) → OnOk told (Appends old new (fault_text fault)) → IfErr told (λ why. (why ≡ CannotWrite) × WritesBeginning old new (fault_text fault)) → WritesSome old new (fault_text fault)
    by (Ok done) whole part = part-all old new (fault_text fault) whole
    by (Err why) whole part = part-cut old new (fault_text fault) part.1

pub tells_none : (ended : Result RunEnd ProgramFault) (old : Option (List ℕ)) → ((fault : ProgramFault) → ended ≡ Err fault → ⊥) → TellsFault ended old old
tells_none (Ok end) old none = Keeps-refl old
tells_none (Err fault) old none = absurd (none fault refl)

-- what the words are about, where there are some
pub words_subject : (order : AskOrder) → ¬ (order.command ≡ None) → subject_in (ask_values order).words ≡ subject_of (line_of (words_line (ask_values order).words))
words_subject order some = by order.command refl
  where
    by : (command : Option (Bor (List ℕ))) → order.command ≡ command → subject_in (ask_values order).words ≡ subject_of (line_of (words_line (ask_values order).words))
    by None none = absurd (some none)
    by (Some word) is = subst (λ (c : Option (Bor (List ℕ))). subject_in (option_map (λ text. text.now) c ∷ option_map (λ text. text.now) order.first ∷ option_map (λ text. text.now) order.second ∷ option_map (λ text. text.now) order.third ∷ [])
        ≡ subject_of (line_of (words_line (option_map (λ text. text.now) c ∷ option_map (λ text. text.now) order.first ∷ option_map (λ text. text.now) order.second ∷ option_map (λ text. text.now) order.third ∷ [])))) (sym is) refl

pub memory_only : {A : Type 0} (result : Result A ProgramFault) → result ≡ Err OutOfMemory → IfErr result (λ fault. fault ≡ OutOfMemory)
memory_only {A} result is = subst (λ (r : Result A ProgramFault). IfErr r (λ fault. fault ≡ OutOfMemory)) (sym is) refl

-- a run that could not begin: nothing was told or written
pub fails_unasked : {T A : Type 0} (hash : List ℕ → List ℕ) (accepted verified : List ℕ → List ℕ → List ℕ → Type 0) (exchanged : T → RequestContent → Frame → T → Type 0) (key token : List ℕ) (options : AskOptions) (HasNoState : Type 0) (stream : T) (input old : Option (List ℕ)) (result : Result A ProgramFault) → IfErr result (λ fault. fault ≡ OutOfMemory)
    → IfErr result (λ fault. FailsAs hash accepted verified exchanged key token options HasNoState stream input fault old old)
fails_unasked hash accepted verified exchanged key token options HasNoState stream input old (Ok done) is = tt
fails_unasked hash accepted verified exchanged key token options HasNoState stream input old (Err fault) is = (emptied 0, old, (omega arith, inl (Appends-nil old)), inl (inl refl, refl, inl (inl is)))

-- and nothing happened to what is kept
pub leaves_unasked : (hash : List ℕ → List ℕ) (accepted verified : List ℕ → List ℕ → List ℕ → Type 0) (lines : Option (List (List ℕ))) (settled : Option (List ℕ)) (key old : List ℕ) (Has : List Act → Type 0) (acts : List Act) → Has acts → LeavesTold hash accepted verified lines settled key old (λ done. Has (done ++ acts))
leaves_unasked hash accepted verified lines settled key old Has acts has = ([], has, inl refl)
