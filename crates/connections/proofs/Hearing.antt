-- Several parts that are heard, and both sides of an attendance.
use Rattle.std.proofs.Common.{◌≡◌, ◌≢◌, ◌⊎◌, ◌||◌, ℕ, ◌<◌, ◌≤◌, List, [], ◌∷◌, length, drop, ◌+◌, ◌-◌, Bool, true, false, Option, Result, Ok, Err, IfOk, refl, sym, ap, subst, inl, inr, arith}
use Rattle.std.proofs.lemmas.Grind.{common_steps}
use Rattle.connections.specs.declared.ending.Ending.{Ending}
use Rattle.connections.specs.declared.ending.Ending.TheVariants.{Memory}
use Rattle.connections.specs.declared.talk.Talk.{Talk}
use Rattle.connections.specs.declared.ending.SessionFault.{SessionFault}
use Rattle.connections.specs.declared.loop_limits.TheConstants.{FULL_OUTPUT}
use Rattle.connections.specs.Endings.{newcomers}
use Rattle.connections.specs.Telling.{lost}
use Rattle.connections.specs.Rounds.{gives_turn, was_busy, InRound, IsUnread}
use Rattle.connections.specs.Fitting.{Adds, Attends, GoesOrCloses, Has, Hearkens, HearsFrom, IsOfConnection, KeepsCourse, KeepsTalk, Knows, Stays}
use Rattle.connections.specs.Histories.{On, Deed, Comes, Opens, Refuses, Reads, IsOver, IsSilent, Hears, Misses, Lacks, Takes, TakesNone, Fails, Ends, Closes, History, Course, course, Leads}
use Rattle.connections.specs.Soundness.{Here, IsHearing}
use Rattle.connections.proofs.Steps.{adds_both, adds_one, attended, next_lack, not_read, passes_all, stays_both, stays_counted, stays_none, stays_one, still_hearing, Passes}

drops : (n m : ℕ) (bytes : List ℕ) → drop m (drop n bytes) ≡ drop (n + m) bytes
drops n m bytes = grind (arith, common_steps)

more_few : (n m : ℕ) (bytes : List ℕ) → (1 ≤ n) × (n ≤ length bytes) → (1 ≤ m) × (m ≤ length (drop n bytes)) → (1 ≤ n + m) × (n + m ≤ length bytes)
more_few n m bytes (some, few) (more, least) =
    let left : length (drop n bytes) ≡ length bytes - n = grind (arith, common_steps) in
    (omega arith, omega arith)

-- what is not heard is some
pub drop_some : (n : ℕ) (bytes : List ℕ) → n ≤ length bytes → n ≢ length bytes → drop n bytes ≢ []
drop_some n bytes few not none =
    let size : length (drop n bytes) ≡ 0 = ap length none in
    let left : length (drop n bytes) ≡ length bytes - n = grind (arith, common_steps) in
    not (omega arith)

-- what is not all heard waits for room
pub only_full : {count size output : ℕ} → (count ≡ size) ⊎ (FULL_OUTPUT < output) → count ≢ size → FULL_OUTPUT < output
only_full (inl all) not = absurd (not all)
only_full (inr full) not = full

-- nobody comes by what happens to a connection that is there
none_come : (deed : Deed) → IsOfConnection deed → newcomers deed ≡ 0
none_come Comes is = absurd is
none_come Opens is = absurd is
none_come (Refuses why) is = absurd is
none_come (Reads bytes) is = refl
none_come IsOver is = refl
none_come IsSilent is = refl
none_come (Hears part reply) is = absurd is
none_come (Misses part why) is = absurd is
none_come Lacks is = absurd is
none_come (Takes bytes) is = refl
none_come TakesNone is = refl
none_come Fails is = refl
none_come Ends is = absurd is
none_come (Closes why) is = absurd is

-- nor is one closed
none_more : (deed : Deed) (wanting : ℕ) → IsOfConnection deed → wanting ≡ wanting + lost deed
none_more Comes wanting is = absurd is
none_more Opens wanting is = absurd is
none_more (Refuses why) wanting is = absurd is
none_more (Reads bytes) wanting is = omega arith
none_more IsOver wanting is = omega arith
none_more IsSilent wanting is = omega arith
none_more (Hears part reply) wanting is = absurd is
none_more (Misses part why) wanting is = absurd is
none_more Lacks wanting is = absurd is
none_more (Takes bytes) wanting is = omega arith
none_more TakesNone wanting is = omega arith
none_more Fails wanting is = omega arith
none_more Ends wanting is = absurd is
none_more (Closes why) wanting is = absurd is

pub stays_adds : (place wanting : ℕ) (acts after : History) → Adds place acts after → Stays place 0 wanting wanting acts after
stays_adds place wanting acts after (inl same) = subst (Stays place 0 wanting wanting acts) (sym same) (stays_none place wanting acts)
stays_adds place wanting acts after (inr (deed, is, same)) =
    subst (Stays place 0 wanting wanting acts) (sym same)
    (subst (λ (came : ℕ). Stays place came wanting wanting acts (On place deed ∷ acts)) (none_come deed is)
    (stays_counted place (newcomers deed) (lost deed) wanting wanting acts (On place deed ∷ acts) (none_more deed wanting is) (stays_one place deed acts)))

or_full : (over : Bool) (acts : History) (place : ℕ) (output : List ℕ) → (over ≡ true) ⊎ (FULL_OUTPUT < length output) → (over ≡ true) ⊎ InRound gives_turn acts place ⊎ (FULL_OUTPUT < length output)
or_full over acts place output (inl gone) = inl gone
or_full over acts place output (inr more) = inr (inr more)

module _ {S : Type 0} (opens : S → ℕ → S → Type 0) (refuses : S → ℕ → SessionFault → Type 0) (hears : S → ℕ → List ℕ → List ℕ → S → Type 0) (misses : S → ℕ → List ℕ → SessionFault → S → Type 0) (ends : S → ℕ → S → Type 0) where
  -- a part more is heard
  pub hears_more : (place : ℕ) (old : S) (input output : List ℕ) (heard : ℕ) (middle : S) (output_then : List ℕ) (count : ℕ) (new : S) (output_new : List ℕ)
      → HearsFrom opens refuses hears misses ends place old input output (Ok heard) middle output_then
      → HearsFrom opens refuses hears misses ends place middle (drop heard input) output_then (Ok count) new output_new
      → HearsFrom opens refuses hears misses ends place old input output (Ok (heard + count)) new output_new
  hears_more place old input output heard middle output_then count new output_new one two = (
    more_few heard count input one.0 two.0,
    λ since over idle start acts held hearing here.
        let a = one.1 since over idle start acts held hearing here in
        let b = two.1 since over idle start a.0 a.3 (still_hearing place 0 0 0 acts a.0 a.1 hearing) a.4 in
        (b.0, stays_both place 0 0 0 0 0 acts a.0 b.0 a.1 b.1, adds_both acts a.0 b.0 a.2 b.2, b.3, subst (λ (t : List ℕ). Here (course b.0 place) (KeepsCourse t output_new since over)) (drops heard count input) b.4, λ so. b.5 refl),
  )

  -- memory is wanting for one more
  pub hears_stop : (place : ℕ) (old : S) (input output : List ℕ) (heard : ℕ) (middle : S) (output_then : List ℕ) (why : Ending) (new : S) (output_new output_last : List ℕ)
      → HearsFrom opens refuses hears misses ends place old input output (Ok heard) middle output_then
      → HearsFrom opens refuses hears misses ends place middle (drop heard input) output_then (Err why) new output_new
      → HearsFrom opens refuses hears misses ends place old input output (Err why) new output_last
  hears_stop place old input output heard middle output_then why new output_new output_last one two = (
    tt,
    λ since over idle start acts held hearing here.
        let a = one.1 since over idle start acts held hearing here in
        let b = two.1 since over idle start a.0 a.3 (still_hearing place 0 0 0 acts a.0 a.1 hearing) a.4 in
        (b.0, stays_both place 0 0 0 0 0 acts a.0 b.0 a.1 b.1, adds_both acts a.0 b.0 a.2 b.2, b.3, b.4, tt),
  )

  -- what is left cannot be kept
  pub heard_lost : {X : Type 0} (test : X → Bool) (place : ℕ) (old : S) (input output : List ℕ) (since : Option ℕ) (over : Bool) (count : ℕ) (new : S) (output_new : List ℕ) (Then : X → Course → Type 0)
      → HearsFrom opens refuses hears misses ends place old input output (Ok count) new output_new → drop count input ≢ [] → FULL_OUTPUT < length output_new
      → Hearkens opens refuses hears misses ends {X = X} test place old (KeepsCourse input output since over) (Err Memory) new Then
  heard_lost test place old input output since over count new output_new Then one some full = λ idle start acts held hearing here.
      let a = one.1 since over idle start acts held hearing here in
      let next = next_lack idle a.0 place (drop count input) output_new since over (still_hearing place 0 0 0 acts a.0 a.1 hearing) some full a.4 in (
        On place Lacks ∷ a.0,
        stays_both place 0 0 0 0 0 acts a.0 (On place Lacks ∷ a.0) a.1 (stays_one place Lacks a.0),
        adds_one place Lacks acts a.0 tt a.2,
        (a.3.0, (next.0, a.3.1)),
        next.1,
        tt,
      )

  -- what happens to a connection alone leaves the sessions
  leads_deed : (start : S) (acts : History) (sessions : S) (place : ℕ) (deed : Deed) → IsOfConnection deed → Leads opens refuses hears misses ends start acts sessions
      → Leads opens refuses hears misses ends start (On place deed ∷ acts) sessions
  leads_deed start acts sessions place Comes is leads = absurd is
  leads_deed start acts sessions place Opens is leads = absurd is
  leads_deed start acts sessions place (Refuses why) is leads = absurd is
  leads_deed start acts sessions place (Reads bytes) is leads = leads
  leads_deed start acts sessions place IsOver is leads = leads
  leads_deed start acts sessions place IsSilent is leads = leads
  leads_deed start acts sessions place (Hears part reply) is leads = absurd is
  leads_deed start acts sessions place (Misses part why) is leads = absurd is
  leads_deed start acts sessions place Lacks is leads = absurd is
  leads_deed start acts sessions place (Takes bytes) is leads = leads
  leads_deed start acts sessions place TakesNone is leads = leads
  leads_deed start acts sessions place Fails is leads = leads
  leads_deed start acts sessions place Ends is leads = absurd is
  leads_deed start acts sessions place (Closes why) is leads = absurd is

  pub leads_adds : (start : S) (acts after : History) (sessions : S) (place : ℕ) → Adds place acts after → Leads opens refuses hears misses ends start acts sessions
      → Leads opens refuses hears misses ends start after sessions
  leads_adds start acts after sessions place (inl same) leads = subst (λ (h : History). Leads opens refuses hears misses ends start h sessions) (sym same) leads
  leads_adds start acts after sessions place (inr (deed, is, same)) leads =
      subst (λ (h : History). Leads opens refuses hears misses ends start h sessions) (sym same) (leads_deed start acts sessions place deed is leads)

  module _ {C : Type 0} (has : C → History → Type 0) (passes : Passes has) where
    -- what happened to the session alone
    pub attends_last : (place : ℕ) (connections : C) (old : S) (talk : Talk) (result : Result Bool Ending) (new : S) (talk_new : Talk)
        → Hearkens opens refuses hears misses ends {X = Bool} (λ done. done) place old (KeepsTalk talk) result new (λ _. KeepsTalk talk_new)
        → IfOk result (λ done. (talk_new.input.items ≡ []) ⊎ (FULL_OUTPUT < length talk_new.output.items))
        → (result ≡ Ok false → (talk_new ≡ talk) × (new ≡ old))
        → ¬ ((talk.input.items ≡ []) × (talk.is_over ≡ false) × (length talk.output.items ≤ FULL_OUTPUT))
        → Attends opens refuses hears misses ends has place connections old talk result connections new talk_new
    attends_last place connections old talk (Err why) new talk_new two all same busy = λ idle start acts known hearing unread here.
        let b = two idle start acts (known.1, known.2) hearing here in
        (b.0, b.1, (passes_all has passes connections acts b.0 b.2 known.0, b.3.0, b.3.1), b.4, tt)
    attends_last place connections old talk (Ok true) new talk_new two all same busy = λ idle start acts known hearing unread here.
        let b = two idle start acts (known.1, known.2) hearing here in
        let asked : InRound gives_turn b.0 place = (b.5 refl).0 in (
          b.0,
          b.1,
          (passes_all has passes connections acts b.0 b.2 known.0, b.3.0, b.3.1),
          b.4,
          (attended (course b.0 place) b.0 place talk_new.input.items talk_new.output.items talk_new.idle_since talk_new.is_over all (inr (inl asked)) b.4, (b.5 refl).1),
        )
    attends_last place connections old talk (Ok false) new talk_new two all same busy = λ idle start acts known hearing unread here.
        let still : ¬ ((talk_new.input.items ≡ []) × (talk_new.is_over ≡ false) × (length talk_new.output.items ≤ FULL_OUTPUT)) =
        subst (λ (t : Talk). ¬ ((t.input.items ≡ []) × (t.is_over ≡ false) × (length t.output.items ≤ FULL_OUTPUT))) (sym (same refl).0) busy in
        let kept : Here (course acts place) (KeepsTalk talk_new) = subst (λ (t : Talk). Here (course acts place) (KeepsTalk t)) (sym (same refl).0) here in (
          acts,
          stays_none place 0 acts,
          subst (λ (s : S). Has opens refuses hears misses ends has idle start connections s acts) (sym (same refl).1) known,
          kept,
          (
            attended (course acts place) acts place talk_new.input.items talk_new.output.items talk_new.idle_since talk_new.is_over all
                (or_full talk_new.is_over acts place talk_new.output.items (not_read talk_new.input.items talk_new.output.items talk_new.is_over still all)) kept,
            refl,
          ),
        )

    -- what a read of a connection comes to: this is then so of it, or there is a reason to close it
    abbrev pub ReadsFirst : ℕ → C → Talk → C → Result Bool Ending → (Course → Type 0) → Type 0
    ReadsFirst place connections talk connections_new result Kept = (idle : ℕ) (acts : History) → Knows has idle connections acts → IsHearing acts → IsUnread place acts → Here (course acts place) (KeepsTalk talk)
        → (after : History) × Adds place acts after × Knows has idle connections_new after × GoesOrCloses idle after place result (λ _. Kept) × IfOk result (λ done. InRound gives_turn after place × (was_busy after ≡ done || was_busy acts))

    -- what happened to the connection, and then to its session
    pub attends_both : (place : ℕ) (connections : C) (old : S) (talk : Talk) (connections_new : C) (Kept : Course → Type 0) (new : S) (talk_new : Talk)
        → ReadsFirst place connections talk connections_new (Ok true) Kept
        → Hearkens opens refuses hears misses ends {X = Unit {0}} (λ _. true) place old Kept (Ok tt) new (λ _. KeepsTalk talk_new)
        → (talk_new.input.items ≡ []) ⊎ (FULL_OUTPUT < length talk_new.output.items)
        → Attends opens refuses hears misses ends has place connections old talk (Ok true) connections_new new talk_new
    attends_both place connections old talk connections_new Kept new talk_new one two all = λ idle start acts known hearing unread here.
        let a = one idle acts (known.0, known.2) hearing unread here in
        let stays : Stays place 0 0 0 acts a.0 = stays_adds place 0 acts a.0 a.1 in
        let leads : Leads opens refuses hears misses ends start a.0 old = leads_adds start acts a.0 old place a.1 known.1 in
        let b = two idle start a.0 (leads, a.2.1) (still_hearing place 0 0 0 acts a.0 stays hearing) a.3 in
        let asked : InRound gives_turn b.0 place = b.1.lasts.turns gives_turn place a.4.0 in (
          b.0,
          stays_both place 0 0 0 0 0 acts a.0 b.0 stays b.1,
          (passes_all has passes connections_new a.0 b.0 b.2 a.2.0, b.3.0, b.3.1),
          b.4,
          (attended (course b.0 place) b.0 place talk_new.input.items talk_new.output.items talk_new.idle_since talk_new.is_over all (inr (inl asked)) b.4, (b.5 refl).1),
        )

    pub attends_stop : (place : ℕ) (connections : C) (old : S) (talk : Talk) (connections_new : C) (Kept : Course → Type 0) (why : Ending) (new : S) (talk_new : Talk)
        → ReadsFirst place connections talk connections_new (Ok true) Kept
        → Hearkens opens refuses hears misses ends {X = Unit {0}} (λ _. true) place old Kept (Err why) new (λ _. KeepsTalk talk_new)
        → Attends opens refuses hears misses ends has place connections old talk (Err why) connections_new new talk_new
    attends_stop place connections old talk connections_new Kept why new talk_new one two = λ idle start acts known hearing unread here.
        let a = one idle acts (known.0, known.2) hearing unread here in
        let stays : Stays place 0 0 0 acts a.0 = stays_adds place 0 acts a.0 a.1 in
        let leads : Leads opens refuses hears misses ends start a.0 old = leads_adds start acts a.0 old place a.1 known.1 in
        let b = two idle start a.0 (leads, a.2.1) (still_hearing place 0 0 0 acts a.0 stays hearing) a.3 in
        (b.0, stays_both place 0 0 0 0 0 acts a.0 b.0 stays b.1, (passes_all has passes connections_new a.0 b.0 b.2 a.2.0, b.3.0, b.3.1), b.4, tt)

    -- only what happened to the connection
    pub attends_first : (place : ℕ) (connections : C) (old : S) (talk : Talk) (connections_new : C) (result : Result Bool Ending) (talk_new : Talk)
        → ReadsFirst place connections talk connections_new result (KeepsTalk talk_new)
        → IfOk result (λ done. talk_new.input.items ≡ [])
        → Attends opens refuses hears misses ends has place connections old talk result connections_new old talk_new
    attends_first place connections old talk connections_new (Err why) talk_new one none = λ idle start acts known hearing unread here.
        let a = one idle acts (known.0, known.2) hearing unread here in
        (a.0, stays_adds place 0 acts a.0 a.1, (a.2.0, leads_adds start acts a.0 old place a.1 known.1, a.2.1), a.3, tt)
    attends_first place connections old talk connections_new (Ok done) talk_new one none = λ idle start acts known hearing unread here.
        let a = one idle acts (known.0, known.2) hearing unread here in
        let asked : InRound gives_turn a.0 place = a.4.0 in (
          a.0,
          stays_adds place 0 acts a.0 a.1,
          (a.2.0, leads_adds start acts a.0 old place a.1 known.1, a.2.1),
          a.3,
          (attended (course a.0 place) a.0 place talk_new.input.items talk_new.output.items talk_new.idle_since talk_new.is_over (inl none) (inr (inl asked)) a.3, a.4.1),
        )
