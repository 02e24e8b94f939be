-- How a run ends before all is asked.
use Rattle.std.proofs.Common.{◌≡◌, ◌≢◌, ◌⊎◌, ◌∙◌, ◌<◌, ◌≤◌, ℕ, Bool, true, false, List, [], ◌∷◌, ◌++◌, Bor, Option, None, Some, Result, Ok, Err, ap, option_map, append-nil, append_assoc, inl, inr, refl, rules, subst, sym}
use Rattle.std.specs.Prelude.{IfErr, IfOk, IfSome, OnErr, OnOk}
use Rattle.std.proofs.KnownBytes.{Appends-nil, Appends-trans, Keeps-refl}
use Rattle.nodehash.specs.Sha256.{sha256}
use Rattle.vrfiface.specs.StandIns.{KeyedAccepts}
use Rattle.sigiface.specs.StandIn.{KeyedVerifies}
use Rattle.rootchain.specs.declared.signed_promise.SignedPromise.{SignedPromise}
use Rattle.textio.specs.Lines.{lines_of}
use Rattle.textio.specs.Output.{WritesSome}
use Rattle.textio.specs.declared.program_fault.ProgramFault.{ProgramFault}
use Rattle.textio.specs.declared.program_fault.ProgramFault.TheVariants.{CannotWrite}
use Rattle.std.specs.Io.KnownBytes.{Appends}
use Rattle.runs.specs.declared.run_fault.RunFault.{RunFault}
use Rattle.runs.specs.declared.run_fault.RunFault.TheVariants.{Program}
use Rattle.encoding.specs.declared.bound_key.BoundKey.{BoundKey}
use Rattle.wire.specs.Frames.{Frame}
use Rattle.wire.specs.Requests.{RequestContent}
use Rattle.play.specs.Reading.{TakesWholeLine}
use Rattle.play.specs.Scripts.{ScriptLine, Watch, line_of}
use Rattle.asking.specs.declared.ask_fault.AskFault.{AskFault}
use Rattle.asking.specs.declared.ask_fault.AskFault.TheVariants as fault
use Rattle.asking.specs.declared.asker.Asker.{Asker}
use Rattle.memory.specs.declared.mark.Mark.{Mark}
use Rattle.runs.specs.declared.order.AskOrder.{AskOrder}
use Rattle.runs.specs.declared.run.RunEnd.{RunEnd}
use Rattle.runs.specs.declared.run.RunEnd.TheVariants.{Whole, Stopped, Unwritten, Stale}
use Rattle.asking.specs.declared.said.Said.{Said}
use Rattle.runs.specs.AskOptions.{AskOptions, ask_keys_of, ask_values}
use Rattle.asking.specs.Asking.{HearsHead, HearsReply, HearsSome}
use Rattle.runs.specs.Lateness.{stale_line, subject_in, HasEpoch, IsLast}
use Rattle.runs.specs.RunFaults.{IsFaultOfSaving, IsFaultOfState}
use Rattle.runs.specs.declared.lateness.Limit.{Limit}
use Rattle.runs.specs.declared.lateness.Subject.{Subject}
use Rattle.runs.specs.declared.connecting.Connection.{Connection}
use Rattle.runs.specs.Ending.{AdvancesPart, AsksAs, AsksNext, AsksOverSocket, AsksPart, AsksSomeLine, BeginsNone, DoesSome, end_status, EndsEarly, EndsStale, EndsWith, FailsAs, FailsLate, FailsOverSocket, FailsWith, HasFirst, HasLast, HoldsBack, IsUnknown, LoadsNone, LooksSome, PreparesSome, RunEndsAt, RunsAs, RunsLate, Sees, stopped_status, WritesUnless}
use Rattle.asking.specs.Catching.{Advances, AdvancesSome}
use Rattle.asking.specs.Exchanges.{ExchangesFrames}
use Rattle.asking.specs.Following.{IsBelow, StopsList}
use Rattle.asking.specs.Joining.{own_for, BeginsSome, BeginsWatch}
use Rattle.asking.specs.Reports.{Report, report_of}
use Rattle.runs.specs.Runs.{AsksLines, BeginsAsking, StartsRun, emptied, Background, lines_asked, Prepares, RunsWhole, Writes}
use Rattle.asking.specs.Scenes.{HaltsAfter, Scene, StopsAtHead}
use Rattle.asking.specs.Visiting.{TestsAll, TestsSome}
use Rattle.runs.proofs.Ran.{LeadsOn, none_before}
use Rattle.runs.proofs.Standing.{HearsAny}

same-fault : (one other : ProgramFault) → ◌≡◌ {A = Result (Unit {0}) RunFault} (Err (Program one)) (Err (Program other)) → one ≡ other
same-fault one other e = cc

-- what is so of a last epoch is so in other words
epoch-held : (options : AskOptions) (Is : Subject → ℕ → Type 0) (Holds Holds' : ℕ → ℕ → Type 0)
    → ((after epoch : ℕ) (about : Subject) → options.after ≡ Some after → subject_in options.words ≡ Some about → Holds after epoch → Holds' after epoch) → HasEpoch options Is Holds → HasEpoch options Is Holds'
epoch-held options Is Holds Holds' more at = λ after given about words. let (epoch, is, holds) = at after given about words in (epoch, is, more after epoch about given words holds)

no-reply : fault.NoReply ≢ fault.Stopped
no-reply same = search (rules, same)

no-memory : fault.OutOfMemory ≢ fault.Stopped
no-memory same = search (rules, same)

pub err_so : {A E P : Type 0} (result : Result A E) → P → OnErr result P
err_so (Ok done) holds = tt
err_so (Err why) holds = holds

err_of : {A E : Type 0} → E → Result A E → E
err_of none (Ok done) = none
err_of none (Err why) = why

-- an error that is passed on is the same one
pub err_passed : {A B E : Type 0} (first : Result A E) (result : Result B E) (why why' : E) → first ≡ Err why → result ≡ Err why → first ≡ Err why' → result ≡ Err why'
unfolding err_of
err_passed {A} {B} {E} first result why why' at passed failed = passed ∙ ap (λ (e : E). let r : Result B E = Err e in r) (ap (λ (r : Result A E). err_of why r) (sym at ∙ failed))

abbrev WriteFailed : Result (Unit {0}) RunFault → Type 0
WriteFailed outcome = outcome ≡ Err (Program CannotWrite)

-- ---- what is written

-- nothing is written
pub some_not : (old : Option (List ℕ)) (text : List ℕ) → WritesSome old old text
some_not old text = (text, ([], refl, Appends-nil old))

-- all is still said
pub leaves_same : (Failed : Type 0) (old : Option (List ℕ)) (said : Said) (told : Report) → report_of said ≡ told → HoldsBack Failed old said told old
leaves_same Failed old said told same = (ap (λ (r : Report). r.status) same, [], [], sym (append-nil said.text.items ∙ ap (λ (r : Report). r.lines) same), Appends-nil old, inl refl)

-- it is written, and nothing is said any more
pub leaves_written : (Failed : Type 0) (old new : Option (List ℕ)) (said said' : Said) (told : Report) → report_of said ≡ told → Appends old new said.text.items → said'.text.items ≡ [] → said'.status ≡ said.status → HoldsBack Failed new said' told old
leaves_written Failed old new said said' told same appends empty status = (
  status ∙ ap (λ (r : Report). r.status) same,
  said.text.items,
  [],
  sym (ap (λ (xs : List ℕ). said.text.items ++ (xs ++ [])) empty ∙ append-nil said.text.items ∙ ap (λ (r : Report). r.lines) same),
  appends,
  inl refl,
)

-- a beginning of it is, where a write failed
pub leaves_cut : (Failed : Type 0) (old new : Option (List ℕ)) (said said' : Said) (told : Report) → Failed → report_of said ≡ told → WritesSome old new said.text.items → said'.text.items ≡ [] → said'.status ≡ said.status → HoldsBack Failed new said' told old
leaves_cut Failed old new said said' told failed same (rest, (front, parts, appends)) empty status = (
  status ∙ ap (λ (r : Report). r.status) same,
  front,
  rest,
  sym (ap (λ (r : Report). r.lines) same) ∙ parts ∙ sym (ap (λ (xs : List ℕ). front ++ (xs ++ rest)) empty),
  appends,
  inr failed,
)

-- where a write failed in one case, one did in another
pub leaves_with : (Failed Failed' : Type 0) (new : Option (List ℕ)) (said : Said) (told : Report) (old : Option (List ℕ)) → (Failed → Failed') → HoldsBack Failed new said told old → HoldsBack Failed' new said told old
leaves_with Failed Failed' new said told old leads (status, text, rest, is, appends, inl all) = (status, text, rest, is, appends, inl all)
leaves_with Failed Failed' new said told old leads (status, text, rest, is, appends, inr failed) = (status, text, rest, is, appends, inr (leads failed))

-- what is still said is written, or a beginning of it
written_then : (Failed : Type 0) (old now new : Option (List ℕ)) (said : Said) (told : Report) → HoldsBack Failed now said told old → WritesSome now new said.text.items → WritesSome old new told.lines
written_then Failed old now new said told (status, text, rest, is, appends, cut) (more, (front, parts, further)) = (
  more ++ rest,
  (
    text ++ front,
    is ∙ ap (λ (xs : List ℕ). text ++ (xs ++ rest)) parts ∙ ap (λ (xs : List ℕ). text ++ xs) (append_assoc front more rest) ∙ sym (append_assoc text front (more ++ rest)),
    Appends-trans old now new text front appends further,
  ),
)

written_all : (Failed : Type 0) (old now new : Option (List ℕ)) (said : Said) (told : Report) → HoldsBack Failed now said told old → ¬ Failed → Appends now new said.text.items → Appends old new told.lines
written_all Failed old now new said told (status, text, rest, is, appends, inr failed) well further = absurd (well failed)
written_all Failed old now new said told (status, text, rest, is, appends, inl none) well further =
    subst (λ (xs : List ℕ). Appends old new xs) (sym (is ∙ ap (λ (xs : List ℕ). text ++ (said.text.items ++ xs)) none ∙ ap (λ (xs : List ℕ). text ++ xs) (append-nil said.text.items)))
    (Appends-trans old now new text said.text.items appends further)

-- such a scene is reached, and what was told in it is written or said
pub reaches_so : (Failed : Type 0) {T E : Type 0} (result : Result (Unit {0}) E) (Reaches : Scene T → Type 0) (told : Report) (old new : Option (List ℕ)) (said : Said) → (reached : Scene T) × Reaches reached × (told ≡ reached.told)
    → OnErr result (HoldsBack Failed new said told old) → OnErr result ((reached : Scene T) × Reaches reached × HoldsBack Failed new said reached.told old)
reaches_so Failed (Ok done) Reaches told old new said reaches leaves = tt
reaches_so Failed (Err why) Reaches told old new said (reached, is, same) leaves = (reached, is, subst (λ (r : Report). HoldsBack Failed new said r old) same leaves)

-- the same, whether it stops or not
pub reaches_whole : (Failed : Type 0) {T : Type 0} (Reaches : Scene T → Type 0) (told : Report) (old new : Option (List ℕ)) (said : Said) → (reached : Scene T) × Reaches reached × (told ≡ reached.told)
    → HoldsBack Failed new said told old → (reached : Scene T) × Reaches reached × HoldsBack Failed new said reached.told old
reaches_whole Failed Reaches told old new said (reached, is, same) leaves = (reached, is, subst (λ (r : Report). HoldsBack Failed new said r old) same leaves)

-- ---- the status

-- ---- no client starts

pub begins_none : {T : Type 0} (verified : List ℕ → List ℕ → List ℕ → Type 0) (exchanged : T → RequestContent → Frame → T → Type 0) (key : List ℕ) (why : AskFault) (said said' : Said) (before after : T)
    → (why ≡ fault.Stopped → StopsAtHead verified exchanged key before (report_of said) after (report_of said')) → (why ≢ fault.Stopped → report_of said' ≡ report_of said)
    → BeginsNone verified exchanged key before (report_of said) (report_of said')
begins_none verified exchanged key fault.NoReply said said' before after stops halts = inl (halts no-reply)
begins_none verified exchanged key fault.Stopped said said' before after stops halts = inr (after, stops refl)
begins_none verified exchanged key fault.OutOfMemory said said' before after stops halts = inl (halts no-memory)

module _ (hash : List ℕ → List ℕ) (accepted verified : List ℕ → List ℕ → List ℕ → Type 0) {T : Type 0} (exchanged : T → RequestContent → Frame → T → Type 0) where
  module _ (background : Background) where
    -- ---- which scene is reached

    -- the latest root is heard, and the promises are tested, or some
    pub looked_reaches : {H V S A : Type 0} (held : ℕ) (frame : Frame) (marks : List Mark) (result : Result A AskFault) (before middle after : Scene T) (asker : Asker H V S) (said : Said) → report_of said ≡ after.told → marks ≡ background.marks
        → HearsHead hash accepted verified exchanged held frame before middle
        → OnOk result (TestsAll hash accepted exchanged marks middle after) → IfErr result (λ why. HaltsAfter (TestsSome hash accepted exchanged marks middle) why asker said)
        → (reached : Scene T) × LooksSome hash accepted verified exchanged background held frame before reached × (report_of said ≡ reached.told)
    looked_reaches held frame marks (Ok done) before middle after asker said same is hears tests halts =
        (after, inr (middle, hears, inl (subst (λ (m : List Mark). TestsAll hash accepted exchanged m middle after) is tests)), same)
    looked_reaches held frame marks (Err why) before middle after asker said same is hears tests (reached, some, halted) =
        (reached, inr (middle, hears, inr (subst (λ (m : List Mark). TestsSome hash accepted exchanged m middle reached) is some)), halted.0)

    -- a list is taken on the way to an epoch, or some of what comes with it is done, or it stops
    pub advanced_reaches : {H V S : Type 0} (epoch : ℕ) (result : Result Bool AskFault) (before after : Scene T) (asker : Asker H V S) (said : Said) → report_of said ≡ after.told → result ≢ Ok false
        → IfOk result (λ goes. Advances hash accepted verified exchanged epoch before goes after)
        → (result ≡ Err fault.Stopped → IsBelow epoch before.client × StopsList hash verified exchanged before after)
        → IfErr result (λ why. why ≢ fault.Stopped → IsBelow epoch before.client × HaltsAfter (AdvancesSome hash accepted verified exchanged epoch before) why asker said)
        → (reached : Scene T) × AdvancesPart hash accepted verified exchanged epoch before reached × (report_of said ≡ reached.told)
    advanced_reaches epoch (Ok true) before after asker said same goes advances stops halts = (after, (advances.0, inl advances), same)
    advanced_reaches epoch (Ok false) before after asker said same goes advances stops halts = absurd (goes refl)
    advanced_reaches epoch (Err fault.NoReply) before after asker said same goes advances stops halts = let (low, (reached, some, halted)) = halts no-reply in (reached, (low, inr (inr some)), halted.0)
    advanced_reaches epoch (Err fault.Stopped) before after asker said same goes advances stops halts = let (low, list) = stops refl in (after, (low, inr (inl list)), same)
    advanced_reaches epoch (Err fault.OutOfMemory) before after asker said same goes advances stops halts = let (low, (reached, some, halted)) = halts no-memory in (reached, (low, inr (inr some)), halted.0)

    -- a reply is heard, or some of it
    pub heard_reaches : {H V S A : Type 0} (held : ℕ) (asked : RequestContent) (frame : Frame) (noted noted' : List SignedPromise) (result : Result A AskFault) (before after : Scene T) (asker : Asker H V S) (said : Said) → report_of said ≡ after.told
        → OnOk result (HearsReply hash accepted verified exchanged background.marks held asked frame noted noted' before after)
        → IfErr result (λ why. HaltsAfter (HearsSome hash accepted verified exchanged why background.marks held asked frame noted noted' before) why asker said)
        → (why : AskFault) × (reached : Scene T) × HearsAny hash accepted verified exchanged background why held asked frame noted noted' before reached × (report_of said ≡ reached.told)
    heard_reaches held asked frame noted noted' (Ok done) before after asker said same hears halts = (fault.NoReply, after, inl hears, same)
    heard_reaches held asked frame noted noted' (Err why) before after asker said same hears (reached, some, halted) = (why, reached, inr some, halted.0)

    -- a name is watched, or some of its epochs
    pub watched_reaches : {H V S A : Type 0} (name : List ℕ) (given given' : Option BoundKey) (noted : List SignedPromise) (result : Result A AskFault) (before after : Scene T) (asker : Asker H V S) (said : Said) → given ≡ given' → report_of said ≡ after.told
        → OnOk result (BeginsWatch hash accepted verified exchanged background.known background.marks background.key (own_for background.marks name background.earlier noted) name given before after)
        → IfErr result (λ why. HaltsAfter (BeginsSome hash accepted verified exchanged background.known background.marks background.key (own_for background.marks name background.earlier noted) name given before) why asker said)
        → (reached : Scene T) × DoesSome hash accepted verified exchanged background (Watch name given') before reached × (report_of said ≡ reached.told)
    watched_reaches name given given' noted (Ok done) before after asker said is same begins halts =
        (after, inr (inl (noted, subst (λ (g : Option BoundKey). BeginsWatch hash accepted verified exchanged background.known background.marks background.key (own_for background.marks name background.earlier noted) name g before after) is begins)), same)
    watched_reaches name given given' noted (Err why) before after asker said is same begins (reached, some, halted) =
        (reached, inr (inr (noted, subst (λ (g : Option BoundKey). BeginsSome hash accepted verified exchanged background.known background.marks background.key (own_for background.marks name background.earlier noted) name g before reached) is some)), halted.0)

    -- it is what a line says
    pub line_reaches : (line : List ℕ) (said : ScriptLine) (told : Report) (before : Scene T) → line_of line ≡ Some said
        → (reached : Scene T) × DoesSome hash accepted verified exchanged background said before reached × (told ≡ reached.told)
        → (reached : Scene T) × AsksSomeLine hash accepted verified exchanged background line before reached × (told ≡ reached.told)
    line_reaches line said told before is (reached, does, same) = (reached, inr (said, is, does), same)

    -- nothing of it is asked
    pub line_not : (Failed : Type 0) (line : List ℕ) (before : Scene T) (old : Option (List ℕ)) (said : Said) → report_of said ≡ before.told
        → (reached : Scene T) × AsksSomeLine hash accepted verified exchanged background line before reached × HoldsBack Failed old said reached.told old
    line_not Failed line before old said same = (before, inl refl, leaves_same Failed old said before.told same)

    -- ---- among which lines

    next-here : (lines : List (List ℕ)) (here : Scene T) → AsksNext hash accepted verified exchanged background lines here here
    next-here [] here = refl
    next-here (line ∷ more) here = inl refl

    -- no more is asked of the lines that are left
    pub part_here : (Failed : Type 0) (start here : Scene T) (input old left now new : Option (List ℕ)) (said : Said) → LeadsOn hash accepted verified exchanged background start input old here left now → HoldsBack Failed new said here.told now
        → IfSome input (λ all. (told : Report) × (next : Option (List ℕ)) × AsksPart hash accepted verified exchanged background (lines_of all) start told old next × HoldsBack Failed new said told next)
    part_here Failed start here None old left now new said leads leaves = tt
    part_here Failed start here (Some all) old left now new said leads leaves =
        let (rest, at, done, parts, asks) = leads all refl in (
          here.told,
          now,
          record { done = done; left = lines_of rest; parts = parts; here = here; asks = asks; reached = here; next = next-here (lines_of rest) here; tells = refl },
          leaves,
        )

    -- some of the next line is asked
    pub part_line : (Failed : Type 0) (start here : Scene T) (input old left left' now new : Option (List ℕ)) (line : List ℕ) (said : Said) → LeadsOn hash accepted verified exchanged background start input old here left now → TakesWholeLine left left' true line
        → (reached : Scene T) × AsksSomeLine hash accepted verified exchanged background line here reached × HoldsBack Failed new said reached.told now
        → IfSome input (λ all. (told : Report) × (next : Option (List ℕ)) × AsksPart hash accepted verified exchanged background (lines_of all) start told old next × HoldsBack Failed new said told next)
    part_line Failed start here None old left left' now new line said leads takes part = tt
    part_line Failed start here (Some all) old left left' now new line said leads takes (reached, some, leaves) =
        let (rest, at, done, parts, asks) = leads all refl in
        by rest done parts asks left' (subst (λ (l : Option (List ℕ)). TakesWholeLine l left' true line) at takes)
      where
        by : (rest : List ℕ) (done : List (List ℕ)) → lines_of all ≡ done ++ lines_of rest → AsksLines hash accepted verified exchanged background done start old now here
            → (left' : Option (List ℕ)) → TakesWholeLine (Some rest) left' true line
            → (told : Report) × (next : Option (List ℕ)) × AsksPart hash accepted verified exchanged background (lines_of all) start told old next × HoldsBack Failed new said told next
        by rest done parts asks None bad = absurd bad
        by rest done parts asks (Some rest') is = (
          reached.told,
          now,
          record {
            done = done;
            left = line ∷ lines_of rest';
            parts = parts ∙ ap (λ (more : List (List ℕ)). done ++ more) is;
            here = here;
            asks = asks;
            reached = reached;
            next = some;
            tells = refl;
          },
          leaves,
        )

    -- some of one line, which is all that is asked
    pub part_once : (Failed : Type 0) (line : List ℕ) (ready : Scene T) (now new : Option (List ℕ)) (said : Said)
        → (reached : Scene T) × AsksSomeLine hash accepted verified exchanged background line ready reached × HoldsBack Failed new said reached.told now
        → (told : Report) × (next : Option (List ℕ)) × AsksPart hash accepted verified exchanged background (line ∷ []) ready told now next × HoldsBack Failed new said told next
    part_once Failed line ready now new said (reached, some, leaves) = (
      reached.told,
      now,
      record { done = []; left = line ∷ []; parts = refl; here = ready; asks = (Appends-nil now, refl); reached = reached; next = some; tells = refl },
      leaves,
    )

  -- what stays is known under another name
  pub line_known : (Failed : Type 0) (background background' : Background) (line : List ℕ) (before : Scene T) (old new : Option (List ℕ)) (said : Said) → background' ≡ background
      → (reached : Scene T) × AsksSomeLine hash accepted verified exchanged background' line before reached × HoldsBack Failed new said reached.told old
      → (reached : Scene T) × AsksSomeLine hash accepted verified exchanged background line before reached × HoldsBack Failed new said reached.told old
  line_known Failed background background' line before old new said same (reached, some, leaves) = (reached, subst (λ (k : Background). AsksSomeLine hash accepted verified exchanged k line before reached) same some, leaves)

  -- ---- a run

  module _ (key token : List ℕ) (options : AskOptions) (HasNoState : Type 0) (stream : T) (input old : Option (List ℕ)) where
    -- it does not begin
    pub early_none : (Failed : Type 0) (Holds : ℕ → ℕ → Type 0) (Unknown : Type 0) (first : Report) (said : Said) → BeginsNone verified exchanged key stream first (report_of said)
        → Unknown ⊎ HasFirst hash accepted verified exchanged key options HasNoState Holds → first ≡ emptied 0
        → EndsEarly hash accepted verified exchanged key token options HasNoState stream input old Holds Unknown (HoldsBack Failed old said)
    early_none Failed Holds Unknown first said begins known none =
        (report_of said, old, leaves_same Failed old said (report_of said) refl, inl (subst (λ (r : Report). BeginsNone verified exchanged key stream r (report_of said)) none begins, refl, known))

    -- what is so of the last epoch is so in other words
    pub early_held : (Holds Holds' : ℕ → ℕ → Type 0) (Unknown Unknown' : Type 0) (Then : Report → Option (List ℕ) → Type 0)
        → ((after epoch : ℕ) (about : Subject) → options.after ≡ Some after → subject_in options.words ≡ Some about → Holds after epoch → Holds' after epoch) → (Unknown → Unknown')
        → EndsEarly hash accepted verified exchanged key token options HasNoState stream input old Holds Unknown Then → EndsEarly hash accepted verified exchanged key token options HasNoState stream input old Holds' Unknown' Then
    early_held Holds Holds' Unknown Unknown' Then more leads (told, now, holds, inl (none, same, inl unknown)) = (told, now, holds, inl (none, same, inl (leads unknown)))
    early_held Holds Holds' Unknown Unknown' Then more leads (told, now, holds, inl (none, same, inr (inl at))) =
        (told, now, holds, inl (none, same, inr (inl (epoch-held options (λ about epoch. epoch ≡ 0) Holds Holds' more at))))
    early_held Holds Holds' Unknown Unknown' Then more leads (told, now, holds, inl (none, same, inr (inr (some, (marks, client, sound, at))))) =
        (told, now, holds, inl (none, same, inr (inr (some, (marks, client, sound, epoch-held options (IsLast marks client []) Holds Holds' more at)))))
    early_held Holds Holds' Unknown Unknown' Then more leads (told, now, holds, inr (background, start, begun, at, (seen, sees, last))) =
        (told, now, holds, inr (background, start, begun, at, (seen, sees, epoch-held options (IsLast background.marks seen.client seen.monitors) Holds Holds' more last)))

    -- it ends with another fault than its questions did
    pub part_left : (Failed Failed' Limited : Type 0) (Holds : ℕ → ℕ → Type 0) (Unknown Unknown' : Type 0) (left : Result (Unit {0}) RunFault) (new : Option (List ℕ)) (said : Said) (first : Report) → OnErr left (Failed → Failed') → OnErr left (Unknown → Unknown')
        → (first ≡ emptied 0 → Limited → EndsEarly hash accepted verified exchanged key token options HasNoState stream input old Holds Unknown (HoldsBack Failed new said))
        → OnErr left (first ≡ emptied 0 → Limited → EndsEarly hash accepted verified exchanged key token options HasNoState stream input old Holds Unknown' (HoldsBack Failed' new said))
    part_left Failed Failed' Limited Holds Unknown Unknown' (Ok done) new said first leads unknown part = tt
    part_left Failed Failed' Limited Holds Unknown Unknown' (Err why) new said first leads unknown part = λ none limited.
        let (told, now, leaves, at) = early_held Holds Holds Unknown Unknown' (HoldsBack Failed new said) (λ after epoch about given words holds. holds) unknown (part none limited) in
        (told, now, leaves_with Failed Failed' new said told now leads leaves, at)

    module _ (background : Background) (start : Scene T) (new : Option (List ℕ)) (said : Said) (first : Report) (begun : first ≡ emptied 0 → StartsRun hash accepted verified exchanged key token HasNoState stream background start) where
      -- it ends while what is new is followed
      pub early_preparing : (Failed : Type 0) (Holds : ℕ → ℕ → Type 0) (Unknown : Type 0) → (reached : Scene T) × PreparesSome hash accepted verified exchanged background HasNoState start reached × HoldsBack Failed new said reached.told old
          → (seen : Scene T) × Sees hash accepted verified exchanged background options HasNoState start seen × HasLast hash accepted verified exchanged options background.marks seen Holds
          → first ≡ emptied 0 → EndsEarly hash accepted verified exchanged key token options HasNoState stream input old Holds Unknown (HoldsBack Failed new said)
      early_preparing Failed Holds Unknown (reached, some, leaves) late none = (reached.told, old, leaves, inr (background, start, begun none, inl (reached, some, refl, refl), late))

      -- it ends at a line
      pub early_asking : (Failed : Type 0) (Holds : ℕ → ℕ → Type 0) (Unknown : Type 0) (background' : Background) (ready : Scene T) (now : Option (List ℕ)) → Writes (Prepares hash accepted verified exchanged background HasNoState) start old now ready → background' ≡ background
          → IfSome (lines_asked options.words input) (λ lines. (told : Report) × (next : Option (List ℕ)) × AsksPart hash accepted verified exchanged background' lines ready told now next × HoldsBack Failed new said told next)
          → (seen : Scene T) × Sees hash accepted verified exchanged background options HasNoState start seen × HasLast hash accepted verified exchanged options background.marks seen Holds
          → first ≡ emptied 0 → EndsEarly hash accepted verified exchanged key token options HasNoState stream input old Holds Unknown (HoldsBack Failed new said)
      early_asking Failed Holds Unknown background' ready now prepares same part late none =
          let (told, next, leaves, at) = by (lines_asked options.words input) part in
          (told, next, leaves, inr (background, start, begun none, inr (ready, now, prepares, subst (λ (k : Background). IfSome (lines_asked options.words input) (λ lines. AsksPart hash accepted verified exchanged k lines ready told now next)) same at), late))
        where
          by : (asked : Option (List (List ℕ)))
              → IfSome asked (λ lines. (told : Report) × (next : Option (List ℕ)) × AsksPart hash accepted verified exchanged background' lines ready told now next × HoldsBack Failed new said told next)
              → (told : Report) × (next : Option (List ℕ)) × HoldsBack Failed new said told next × IfSome asked (λ lines. AsksPart hash accepted verified exchanged background' lines ready told now next)
          by None part = (report_of said, new, leaves_same Failed new said (report_of said) refl, tt)
          by (Some lines) (told, next, at, leaves) = (told, next, leaves, at)

  -- ---- with the state that an order names

  module _ (key token : List ℕ) (options : AskOptions) (NoState None' : Type 0) (without : None' → NoState) (within : NoState → None') where
    pub begun-with : (background : Background) (stream : T) (start : Scene T) → StartsRun hash accepted verified exchanged key token NoState stream background start → StartsRun hash accepted verified exchanged key token None' stream background start
    begun-with background stream start begun = record { again = begun.again; begins = by begun.begins; knows = begun.knows; finals = begun.finals }
      where
        by : BeginsAsking hash accepted verified exchanged key token NoState stream background start.client start.stream → BeginsAsking hash accepted verified exchanged key token None' stream background start.client start.stream
        by (inl head) = inl head
        by (inr (state, same, sound, kept)) = inr ((λ none. state (without none)), same, sound, kept)

    prepares-with : (background : Background) (before after : Scene T) → Prepares hash accepted verified exchanged background NoState before after → Prepares hash accepted verified exchanged background None' before after
    prepares-with background before after (inl (none, same)) = inl (within none, same)
    prepares-with background before after (inr (some, finds)) = inr ((λ none. some (without none)), finds)

    pub some_prepares_with : (background : Background) (before after : Scene T) → PreparesSome hash accepted verified exchanged background NoState before after → PreparesSome hash accepted verified exchanged background None' before after
    some_prepares_with background before after (inl prepares) = inl (prepares-with background before after prepares)
    some_prepares_with background before after (inr (some, finds)) = inr ((λ none. some (without none)), finds)

    pub writes_with : (background : Background) (before : Scene T) (old now : Option (List ℕ)) (after : Scene T) → Writes (Prepares hash accepted verified exchanged background NoState) before old now after
        → Writes (Prepares hash accepted verified exchanged background None') before old now after
    writes_with background before old now after (done, prepares, appends, left) = (done, prepares-with background before done prepares, appends, left)

    ends-with : (background : Background) (input : Option (List ℕ)) (start : Scene T) (old : Option (List ℕ)) (told : Report) (now : Option (List ℕ))
        → RunEndsAt hash accepted verified exchanged background options NoState input start old told now → RunEndsAt hash accepted verified exchanged background options None' input start old told now
    ends-with background input start old told now (inl (reached, some, is, same)) = inl (reached, some_prepares_with background start reached some, is, same)
    ends-with background input start old told now (inr (ready, next, prepares, asks)) = inr (ready, next, writes_with background start old next ready prepares, asks)

    abbrev whole-with : (stream stream' : T) (input old new : Option (List ℕ)) (status : ℕ)
        → RunsWhole hash accepted verified exchanged key token options NoState stream stream' input status old new → RunsWhole hash accepted verified exchanged key token options None' stream stream' input status old new
    whole-with stream stream' input old new status run = record {
      background = run.background;
      start = run.start;
      begun = begun-with run.background stream run.start run.begun;
      ready = run.ready;
      now = run.now;
      prepares = writes_with run.background run.start old run.now run.ready run.prepares;
      last = run.last;
      asks = run.asks;
      status_is = run.status_is;
      left = run.left;
    }

    sees-with : (background : Background) (start seen : Scene T) → Sees hash accepted verified exchanged background options NoState start seen → Sees hash accepted verified exchanged background options None' start seen
    sees-with background start seen (inl same) = inl same
    sees-with background start seen (inr (inl some)) = inr (inl (some_prepares_with background start seen some))
    sees-with background start seen (inr (inr (done, prepares, asks))) = inr (inr (done, prepares-with background start done prepares, asks))

    early-with : (Before After : Report → Option (List ℕ) → Type 0) (Holds : ℕ → ℕ → Type 0) (Unknown Unknown' : Type 0) (stream : T) (input old : Option (List ℕ)) → ((told : Report) (now : Option (List ℕ)) → Before told now → After told now) → (Unknown → Unknown')
        → EndsEarly hash accepted verified exchanged key token options NoState stream input old Holds Unknown Before → EndsEarly hash accepted verified exchanged key token options None' stream input old Holds Unknown' After
    early-with Before After Holds Unknown Unknown' stream input old leads more (told, now, holds, inl (none, same, inl unknown)) = (told, now, leads told now holds, inl (none, same, inl (more unknown)))
    early-with Before After Holds Unknown Unknown' stream input old leads more (told, now, holds, inl (none, same, inr (inl at))) = (told, now, leads told now holds, inl (none, same, inr (inl at)))
    early-with Before After Holds Unknown Unknown' stream input old leads more (told, now, holds, inl (none, same, inr (inr (some, at)))) = (told, now, leads told now holds, inl (none, same, inr (inr ((λ no. some (without no)), at))))
    early-with Before After Holds Unknown Unknown' stream input old leads more (told, now, holds, inr (background, start, begun, at, (seen, sees, last))) =
        (told, now, leads told now holds, inr (background, start, begun-with background stream start begun, ends-with background input start old told now at, (seen, sees-with background start seen sees, last)))

    unknown-with : (fault : ProgramFault) → IsUnknown NoState fault → IsUnknown None' fault
    unknown-with fault (inl memory) = inl memory
    unknown-with fault (inr (some, state)) = inr ((λ no. some (without no)), state)

    late-with : (stream stream' : T) (input old new : Option (List ℕ)) (Holds : ℕ → ℕ → Type 0) (status : ℕ)
        → RunsLate hash accepted verified exchanged key token options NoState stream stream' input Holds status old new → RunsLate hash accepted verified exchanged key token options None' stream stream' input Holds status old new
    late-with stream stream' input old new Holds status (run, late) = (whole-with stream stream' input old new status run, late)

    asks-with : (stream stream' : T) (input old new : Option (List ℕ)) (Holds : ℕ → ℕ → Type 0) (ended : RunEnd)
        → AsksAs hash accepted verified exchanged key token options NoState stream stream' input Holds ended old new → AsksAs hash accepted verified exchanged key token options None' stream stream' input Holds ended old new
    asks-with stream stream' input old new Holds (Whole status) run = late-with stream stream' input old new Holds status run
    asks-with stream stream' input old new Holds (Stopped status) run =
        early-with (λ told now. (status ≡ stopped_status told.status) × Appends now new told.lines) (λ told now. (status ≡ stopped_status told.status) × Appends now new told.lines) Holds ⊥ ⊥ stream input old (λ told now holds. holds) (λ no. no) run
    asks-with stream stream' input old new Holds Unwritten run =
        early-with (λ told now. (3 ≤ told.status) × WritesSome now new told.lines) (λ told now. (3 ≤ told.status) × WritesSome now new told.lines) Holds ⊥ ⊥ stream input old (λ told now holds. holds) (λ no. no) run
    asks-with stream stream' input old new Holds (Stale epoch) run = absurd run

    fails-late-with : (stream : T) (input : Option (List ℕ)) (Holds : ℕ → ℕ → Type 0) (Unknown Unknown' : Type 0) (fault : ProgramFault) (old new : Option (List ℕ)) → (Unknown → Unknown')
        → FailsLate hash accepted verified exchanged key token options NoState stream input Holds Unknown fault old new → FailsLate hash accepted verified exchanged key token options None' stream input Holds Unknown' fault old new
    fails-late-with stream input Holds Unknown Unknown' fault old new more run =
        early-with (λ told now. (told.status < 3) × WritesUnless (fault ≡ CannotWrite) now new told.lines) (λ told now. (told.status < 3) × WritesUnless (fault ≡ CannotWrite) now new told.lines) Holds Unknown Unknown' stream input old (λ told now holds. holds) more run

    pub fails_with : (stream : T) (input : Option (List ℕ)) (fault : ProgramFault) (old new : Option (List ℕ))
        → FailsAs hash accepted verified exchanged key token options NoState stream input fault old new → FailsAs hash accepted verified exchanged key token options None' stream input fault old new
    fails_with stream input fault old new run = fails-late-with stream input (λ after last. after < last) (IsUnknown NoState fault) (IsUnknown None' fault) fault old new (unknown-with fault) run

    stale-with : (stream stream' : T) (input old : Option (List ℕ)) (epoch : ℕ) (Then : Option (List ℕ) → Type 0)
        → EndsStale hash accepted verified exchanged key token options NoState stream stream' input epoch old Then → EndsStale hash accepted verified exchanged key token options None' stream stream' input epoch old Then
    stale-with stream stream' input old epoch Then (stale, (now, holds, inl (ended, run))) = (stale, (now, holds, inl (ended, asks-with stream stream' input old now (λ after last. last ≡ epoch) ended run)))
    stale-with stream stream' input old epoch Then (stale, (now, holds, inr (fault, run))) = (stale, (now, holds, inr (fault, fails-late-with stream input (λ after last. last ≡ epoch) ⊥ ⊥ fault old now (λ no. no) run)))

    pub runs_with : (stream stream' : T) (input old new : Option (List ℕ)) (ended : RunEnd)
        → RunsAs hash accepted verified exchanged key token options NoState stream stream' input ended old new → RunsAs hash accepted verified exchanged key token options None' stream stream' input ended old new
    runs_with stream stream' input old new (Whole status) run = asks-with stream stream' input old new (λ after last. after < last) (Whole status) run
    runs_with stream stream' input old new (Stopped status) run = asks-with stream stream' input old new (λ after last. after < last) (Stopped status) run
    runs_with stream stream' input old new Unwritten (inl run) = inl (asks-with stream stream' input old new (λ after last. after < last) Unwritten run)
    runs_with stream stream' input old new Unwritten (inr (epoch, run)) = inr (epoch, stale-with stream stream' input old epoch (λ now. WritesSome now new (stale_line epoch)) run)
    runs_with stream stream' input old new (Stale epoch) run = stale-with stream stream' input old epoch (λ now. Appends now new (stale_line epoch)) run

    -- ---- the end

    module _ (outcome : Result (Unit {0}) RunFault) (result : Result RunEnd ProgramFault) (stream stream' : T) (input old new new' : Option (List ℕ)) (said : Said) (first : Report) (empty : first ≡ emptied 0) where
      pub ends_so : (Holds : ℕ → ℕ → Type 0) (before after : Limit) → OnOk outcome (first ≡ emptied 0 → RunsLate hash accepted verified exchanged key token options NoState stream stream' input Holds said.status old new)
          → OnErr outcome (first ≡ emptied 0 → EndsEarly hash accepted verified exchanged key token options NoState stream input old Holds (LoadsNone NoState outcome before after said.status) (HoldsBack (WriteFailed outcome) new said))
          → ((fault : ProgramFault) → outcome ≡ Err (Program fault) → said.status < 3 → IfOk result (λ ended. ⊥))
          → OnOk outcome ((result ≡ Ok (Whole said.status)) × (new' ≡ new)) → OnErr outcome (IfOk result (λ ended. EndsWith (WriteFailed outcome) said new new' ended))
          → IfOk result (λ ended. AsksAs hash accepted verified exchanged key token options None' stream stream' input Holds ended old new')
      ends_so Holds before after = by outcome result
        where
          by : (outcome : Result (Unit {0}) RunFault) (result : Result RunEnd ProgramFault) → OnOk outcome (first ≡ emptied 0 → RunsLate hash accepted verified exchanged key token options NoState stream stream' input Holds said.status old new)
              → OnErr outcome (first ≡ emptied 0 → EndsEarly hash accepted verified exchanged key token options NoState stream input old Holds (LoadsNone NoState outcome before after said.status) (HoldsBack (WriteFailed outcome) new said))
              → ((fault : ProgramFault) → outcome ≡ Err (Program fault) → said.status < 3 → IfOk result (λ ended. ⊥))
              → OnOk outcome ((result ≡ Ok (Whole said.status)) × (new' ≡ new)) → OnErr outcome (IfOk result (λ ended. EndsWith (WriteFailed outcome) said new new' ended))
              → IfOk result (λ ended. AsksAs hash accepted verified exchanged key token options None' stream stream' input Holds ended old new')
          by (Err why) (Err given) whole early fails ends stops = tt
          by (Err why) (Ok (Whole status)) whole early fails ends stops = absurd stops
          by (Err why) (Ok (Stopped status)) whole early fails ends (is, well, wrote) =
              early-with (HoldsBack (WriteFailed (Err why)) new said) (λ told now. (status ≡ stopped_status told.status) × Appends now new' told.lines) Holds (LoadsNone {A = Unit {0}} NoState (Err why) before after said.status) ⊥ stream input old
              (λ told now leaves. (is ∙ ap (λ (n : ℕ). stopped_status n) leaves.0, written_all (WriteFailed (Err why)) now new new' said told leaves well wrote))
              (λ (fault, was, some, state, last, low). fails fault was low) (early empty)
          by (Err why) (Ok (Stale epoch)) whole early fails ends stops = absurd stops
          by (Err why) (Ok Unwritten) whole early fails ends (high, wrote) =
              early-with (HoldsBack (WriteFailed (Err why)) new said) (λ told now. (3 ≤ told.status) × WritesSome now new' told.lines) Holds (LoadsNone {A = Unit {0}} NoState (Err why) before after said.status) ⊥ stream input old
              (λ told now leaves. (subst (λ (n : ℕ). 3 ≤ n) leaves.0 high, written_then (WriteFailed (Err why)) now new new' said told leaves wrote))
              (λ (fault, was, some, state, last, low). fails fault was low) (early empty)
          by (Ok done) result whole early fails (is, same) stops =
              subst (λ (r : Result RunEnd ProgramFault). IfOk r (λ ended. AsksAs hash accepted verified exchanged key token options None' stream stream' input Holds ended old new')) (sym is) (
              subst (λ (text : Option (List ℕ)). RunsLate hash accepted verified exchanged key token options None' stream stream' input Holds said.status old text) (sym same)
              (late-with stream stream' input old new Holds said.status (whole empty)))

      -- the fault that is given for a state that could not be read is one that leaves the last epoch unknown
      unknown-given : (before after : Limit) (why : RunFault) (given : ProgramFault) → before.last ≡ None → IsFaultOfSaving given ⊎ (◌≡◌ {A = Result (Unit {0}) RunFault} (Err why) (Err (Program given))) → LoadsNone {A = Unit {0}} NoState (Err why) before after said.status
          → IsUnknown None' given × (after.last ≡ None)
      unknown-given before after why given none (inl (inl is)) (fault, was, some, state, last, low) = (inr ((λ no. some (without no)), subst (λ (f : ProgramFault). IsFaultOfState f) (sym is) (inl tt)), last ∙ none)
      unknown-given before after why given none (inl (inr is)) (fault, was, some, state, last, low) = (inl is, last ∙ none)
      unknown-given before after why given none (inr is) (fault, was, some, state, last, low) =
          (inr ((λ no. some (without no)), subst (λ (f : ProgramFault). IsFaultOfState f) (same-fault fault given (sym was ∙ is)) state), last ∙ none)

      pub fails_so : (Holds : ℕ → ℕ → Type 0) (before after : Limit) → before.last ≡ None → OnErr outcome (first ≡ emptied 0 → EndsEarly hash accepted verified exchanged key token options NoState stream input old Holds (LoadsNone NoState outcome before after said.status) (HoldsBack (WriteFailed outcome) new said))
          → IfErr result (λ given. IsFaultOfSaving given ⊎ (outcome ≡ Err (Program given)))
          → OnOk outcome ((result ≡ Ok (Whole said.status)) × (new' ≡ new)) → OnErr outcome (IfErr result (λ given. FailsWith (WriteFailed outcome) said new new' given))
          → IfErr result (λ given. FailsLate hash accepted verified exchanged key token options None' stream input Holds (IsUnknown None' given × (after.last ≡ None)) given old new')
      fails_so Holds before after none = by outcome result
        where
          by : (outcome : Result (Unit {0}) RunFault) (result : Result RunEnd ProgramFault) → OnErr outcome (first ≡ emptied 0 → EndsEarly hash accepted verified exchanged key token options NoState stream input old Holds (LoadsNone NoState outcome before after said.status) (HoldsBack (WriteFailed outcome) new said))
              → IfErr result (λ given. IsFaultOfSaving given ⊎ (outcome ≡ Err (Program given)))
              → OnOk outcome ((result ≡ Ok (Whole said.status)) × (new' ≡ new)) → OnErr outcome (IfErr result (λ given. FailsWith (WriteFailed outcome) said new new' given))
              → IfErr result (λ given. FailsLate hash accepted verified exchanged key token options None' stream input Holds (IsUnknown None' given × (after.last ≡ None)) given old new')
          by (Err why) (Ok ended) early gives ends fails = tt
          by (Err why) (Err given) early gives ends (low, inl (well, wrote)) =
              early-with (HoldsBack (WriteFailed (Err why)) new said) (λ told now. (told.status < 3) × WritesUnless (given ≡ CannotWrite) now new' told.lines) Holds (LoadsNone {A = Unit {0}} NoState (Err why) before after said.status) (IsUnknown None' given × (after.last ≡ None)) stream input old
              (λ told now leaves. (subst (λ (n : ℕ). n < 3) leaves.0 low, inl (written_all (WriteFailed (Err why)) now new new' said told leaves well wrote))) (unknown-given before after why given none gives) (early empty)
          by (Err why) (Err given) early gives ends (low, inr (failed, wrote)) =
              early-with (HoldsBack (WriteFailed (Err why)) new said) (λ told now. (told.status < 3) × WritesUnless (given ≡ CannotWrite) now new' told.lines) Holds (LoadsNone {A = Unit {0}} NoState (Err why) before after said.status) (IsUnknown None' given × (after.last ≡ None)) stream input old
              (λ told now leaves. (subst (λ (n : ℕ). n < 3) leaves.0 low, inr (failed, written_then (WriteFailed (Err why)) now new new' said told leaves wrote))) (unknown-given before after why given none gives) (early empty)
          by (Ok done) result early gives (is, same) fails = subst (λ (r : Result RunEnd ProgramFault). IfErr r (λ given. FailsLate hash accepted verified exchanged key token options None' stream input Holds (IsUnknown None' given × (after.last ≡ None)) given old new')) (sym is) tt

-- ---- a socket

pub over_socket : {Clock : Type 0} (order : AskOrder) (key token : List ℕ) (socket socket' : Connection Clock) (input old new : Option (List ℕ)) (ended : RunEnd) → ask_keys_of (ask_values order) ≡ Some (key, token)
    → RunsAs sha256 KeyedAccepts KeyedVerifies (ExchangesFrames {T = Connection Clock} (λ _. None) (λ _. None)) key token (ask_values order) (order.state ≡ None) socket socket' input ended old new
    → AsksOverSocket Clock (ask_values order) input (end_status ended) old new
over_socket {Clock} order key token socket socket' input old new ended are run =
    inr (
      key,
      token,
      are,
      socket,
      socket',
      ended,
      refl,
      runs_with sha256 KeyedAccepts KeyedVerifies (ExchangesFrames {T = Connection Clock} (λ _. None) (λ _. None)) key token (ask_values order) (order.state ≡ None) ((ask_values order).state ≡ None)
          (none_before (λ text. text.now) order.state) (λ none. ap (λ (state : Option (Bor (List ℕ))). option_map (λ text. text.now) state) none) socket socket' input old new ended run,
    )

pub fails_over_socket : {Clock : Type 0} (order : AskOrder) (key token : List ℕ) (socket : Connection Clock) (input : Option (List ℕ)) (fault : ProgramFault) (old new : Option (List ℕ)) → ask_keys_of (ask_values order) ≡ Some (key, token)
    → FailsAs sha256 KeyedAccepts KeyedVerifies (ExchangesFrames {T = Connection Clock} (λ _. None) (λ _. None)) key token (ask_values order) (order.state ≡ None) socket input fault old new
    → FailsOverSocket Clock (ask_values order) input fault old new
fails_over_socket {Clock} order key token socket input fault old new are run =
    inr (inr (
      key,
      token,
      are,
      socket,
      fails_with sha256 KeyedAccepts KeyedVerifies (ExchangesFrames {T = Connection Clock} (λ _. None) (λ _. None)) key token (ask_values order) (order.state ≡ None) ((ask_values order).state ≡ None)
          (none_before (λ text. text.now) order.state) (λ none. ap (λ (state : Option (Bor (List ℕ))). option_map (λ text. text.now) state) none) socket input fault old new run,
    ))

pub unwritten : (Clock : Type 0) (options : AskOptions) (input : Option (List ℕ)) (fault : ProgramFault) (old : Option (List ℕ)) → FailsOverSocket Clock options input fault old old
unwritten Clock options input fault old = inl (Keeps-refl old)

pub unwritten_fails : {A : Type 0} (Clock : Type 0) (options : AskOptions) (input old : Option (List ℕ)) (result : Result A ProgramFault) → IfErr result (λ fault. FailsOverSocket Clock options input fault old old)
unwritten_fails Clock options input old (Ok done) = tt
unwritten_fails Clock options input old (Err fault) = unwritten Clock options input fault old
