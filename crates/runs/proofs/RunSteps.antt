-- How a run stands after each step of it.
use Rattle.std.proofs.Common.{◌≡◌, ◌≢◌, ◌∙◌, ◌⊎◌, ◌+◌, ◌-◌, ◌≤◌, ℕ, zero, suc, Bool, true, false, if◌then◌else◌, List, [], ◌∷◌, ◌++◌, drop, length, map, Contains, Option, Some, None, Result, Ok, Err, Global, Vec, ap, append-nil, arith, inl, inr, refl, rules, subst, sym}
use Rattle.std.specs.Prelude.{IfErr, IfOk, IfSome, OnOk, ⊤}
use Rattle.std.specs.List.{list_any, AllByRecursion}
use Rattle.std.specs.List.Sorted.{IsNonDecreasingBy}
use Rattle.std.specs.Str.{bytes_eq}
use Rattle.std.proofs.lemmas.List.Elements.{Contains-append_cases, Contains-append_left, Contains-append_right}
use Rattle.std.specs.Io.KnownBytes.{Appends}
use Rattle.rootchain.specs.Chains.{IsChain, IsHead, KeyedRoots}
use Rattle.rootchain.specs.declared.promise.Promise.{Promise}
use Rattle.rootchain.specs.declared.signed_promise.SignedPromise.{SignedPromise}
use Rattle.rootchain.specs.declared.signed_root.SignedRoot.{SignedRoot}
use Rattle.rootchain.proofs.Places.{ends}
use Rattle.client.specs.Clients.{Client, HasRootOf}
use Rattle.memory.specs.Lists.{HasNoRepeat}
use Rattle.memory.specs.Memories.{name_of, Memory}
use Rattle.memory.specs.declared.mark.Mark.{Mark}
use Rattle.monitor.specs.Monitors.{Monitor}
use Rattle.wire.specs.Frames.{Frame}
use Rattle.wire.specs.Requests.{RequestContent}
use Rattle.play.specs.Scripts.{Ask, End, Pass, Piece, ScriptLine, Watch}
use Rattle.play.proofs.Lists.{all-in}
use Rattle.asking.specs.Asking.{HearsHead, HearsReply, SpeaksOf}
use Rattle.asking.specs.Catching.{Advances, CatchesUp}
use Rattle.runs.specs.Ending.{DoesSomeNoting, LooksSome}
use Rattle.runs.specs.Owning.{Owns}
use Rattle.asking.specs.Reports.{report_of, Report}
use Rattle.asking.specs.Joining.{own_for}
use Rattle.runs.specs.Keeping.{IsSettled, KeepsUp, SavesTo}
use Rattle.runs.specs.Marking.{HasMarkOf, MarksOn, StateMarks}
use Rattle.runs.specs.Runs.{background_of, emptied, Background, DoesLineNoting}
use Rattle.runs.specs.Saves.{noting, own_promised, stored_after, Act, AreEarlier, Found, IsAsked, IsOwnPromise, IsSaid, WasOwn}
use Rattle.asking.specs.Scenes.{scene, Scene}
use Rattle.runs.specs.Standing.{standing, AreAsked, AreLate, AreNew, Fits, IsCurrent, IsInStep, IsReady, IsUpTo, RunStands, Stands, StateStands}
use Rattle.asking.specs.Visiting.{IsMarked, TestsAll}
use Rattle.asking.specs.declared.ask_fault.AskFault.{AskFault}
use Rattle.asking.specs.declared.ask_fault.AskFault.TheVariants.{NoReply, OutOfMemory as NoMemory, Stopped}
use Rattle.runs.specs.declared.run_fault.RunFault.{RunFault}
use Rattle.asking.specs.declared.asker.Asker.{Asker}
use Rattle.asking.specs.declared.said.Said.{Said}
use Rattle.runs.specs.declared.state.State.{State}
use Rattle.runs.proofs.AskedOwn.{asked-of}
use Rattle.runs.proofs.EveryStep.{advances-keep, advances_some-keeps, asks_directory-keeps, begins_watch-keeps, does_some-keeps, hears_head-keeps, hears_some-keeps, looks_some-keeps, reply-keeps, tests_all-keeps, EachKeeps}
use Rattle.runs.proofs.GoneOn.{begin-well, each-gone, GoesOn, IsBehind}
use Rattle.runs.proofs.HeardNoted.{caught-below, current, hears-noted}
use Rattle.asking.proofs.Joined.{marked_any}
use Rattle.runs.proofs.JoinedChanges.{join-ascends, IsSignedOf}
use Rattle.runs.proofs.Keeping.{was_asked}
use Rattle.runs.proofs.MarksKept.{advances-many, have-behind, learned-lasts, learned-marks, none-marked, same-marked, spans-so, AreGone}
use Rattle.runs.proofs.NotedOwn.{advanced_key, hears_key, hears_notes, looks_key, some_key, IsLate, NotesOwn}
use Rattle.runs.proofs.NotedScenes.{IsBelow}
use Rattle.runs.proofs.OwnRoots.{some-same}
use Rattle.runs.proofs.Noting.{noted-cases, noted-more, noted-was, was-more}
use Rattle.runs.proofs.OwnedMonitors.{AreGiven}
use Rattle.runs.proofs.OwnedRoots.{all-has, has-cases, head-high}
use Rattle.runs.proofs.OwnedScenes.{each-owned, owns-like}
use Rattle.runs.proofs.Standing.{AdvancesAny, HearsAny}
use Rattle.runs.proofs.ToldScenes.{all-map}

front-all : {A : Type 0} (P : A → Type 0) (xs ys : List A) → AllByRecursion P (xs ++ ys) → AllByRecursion P xs
front-all P [] ys all = tt
front-all P (x ∷ xs) ys all = (all.0, front-all P xs ys all.1)

back-all : {A : Type 0} (P : A → Type 0) (xs ys : List A) → AllByRecursion P (xs ++ ys) → AllByRecursion P ys
back-all P [] ys all = all
back-all P (x ∷ xs) ys all = back-all P xs ys all.1

join-all : {A : Type 0} (P : A → Type 0) (xs ys : List A) → AllByRecursion P xs → AllByRecursion P ys → AllByRecursion P (xs ++ ys)
join-all P [] ys one other = other
join-all P (x ∷ xs) ys one other = (one.0, join-all P xs ys one.1 other)

-- what is behind all elements, and one more
drop-none : {A : Type 0} (P : A → Type 0) (xs : List A) → AllByRecursion P (drop (length xs) xs)
drop-none P [] = tt
drop-none P (x ∷ xs) = drop-none P xs

drop-one : {A : Type 0} (P : A → Type 0) (xs : List A) (x : A) → P x → AllByRecursion P (drop (length xs) (xs ++ x ∷ []))
drop-one P [] x here = (here, tt)
drop-one P (y ∷ xs) x here = drop-one P xs x here

one-ascends : (signed : SignedPromise) → IsNonDecreasingBy (λ (one : SignedPromise). one.promise.epoch) (signed ∷ [])
one-ascends signed zero zero d low within = omega arith
one-ascends signed zero (suc j) d low within = absurd (omega (arith, within))
one-ascends signed (suc i) j d low within = absurd (omega (arith, low, within))

-- what is noted is the owner's own, where what was noted before is, and one of the lines says what is asked
own-noted : (verified : List ℕ → List ℕ → List ℕ → Type 0) (key : List ℕ) (Is : SignedPromise → Type 0) (lines : Option (List (List ℕ))) (known : Memory) (said : ScriptLine) (noted noted' : List SignedPromise) → NotesOwn verified key Is said noted noted' → IsSaid lines said
    → AllByRecursion (IsOwnPromise verified key lines known) noted → AllByRecursion (IsOwnPromise verified key lines known) noted'
own-noted verified key Is lines known said noted noted' (inl same) asked all = subst (AllByRecursion (IsOwnPromise verified key lines known)) (sym same) all
own-noted verified key Is lines known said noted noted' (inr (signed, by, so, (verb, is), grown)) asked all = subst (AllByRecursion (IsOwnPromise verified key lines known)) (sym grown)
    (join-all (IsOwnPromise verified key lines known) noted (signed ∷ []) all ((by, inr (verb, subst (IsSaid lines) is asked)), tt))

-- those that were remembered are signed
signed-of : (verified : List ℕ → List ℕ → List ℕ → Type 0) (key : List ℕ) (lines : Option (List (List ℕ))) (known : Memory) (Was : SignedPromise → Type 0) (earlier : List SignedPromise) → AllByRecursion (IsOwnPromise verified key lines known) earlier → AllByRecursion Was earlier
    → AllByRecursion (IsSignedOf verified Was key) earlier
signed-of verified key lines known Was [] own were = tt
signed-of verified key lines known Was (signed ∷ earlier) own were = ((were.0, own.0.0.0, own.0.0.1), signed-of verified key lines known Was earlier own.1 were.1)

-- a chain has no root above its head
rooted-low : (hash : List ℕ → List ℕ) (verified : List ℕ → List ℕ → List ℕ → Type 0) (chain : KeyedRoots) (promise : Promise) (head : SignedRoot) → IsChain hash verified chain → IsHead chain head → HasRootOf hash chain promise → promise.epoch ≤ head.body.epoch
unfolding HasRootOf
rooted-low hash verified chain promise head is at (root, (has, made), hashed) = let low = head-high hash verified chain root head is has at in omega (arith, made, low)

true-false : true ≡ false → ⊥
true-false e = cc

module _ {T H V S : Type 0} (hash : List ℕ → List ℕ) (accepted verified : List ℕ → List ℕ → List ℕ → Type 0) (exchanged : T → RequestContent → Frame → T → Type 0) (lines : Option (List (List ℕ))) (start : Found) (old : List ℕ) (Happened : List Act → Type 0)
    (before after : Asker H V S) (said : Said) (stream : T) (out : Option (List ℕ)) (reached : Scene T) where
  abbrev Own : SignedPromise → Type 0
  Own = IsOwnPromise verified before.key lines start.known

  abbrev Standing : State → List SignedPromise → Scene (Unit {0}) → Type 0
  Standing state noted now = Stands hash accepted verified lines before.key start old Happened state.epoch state.memory [] out noted now

  abbrev Owned : List ℕ → List SignedRoot → List Mark → List Mark → List SignedPromise → {U : Type 0} → Scene U → Type 0
  Owned text stored marks known noted now = Owns hash accepted verified (IsAsked lines) Own (noting start.known noted) text stored marks known now

  abbrev StandsBefore : Option State → Type 0
  StandsBefore state = RunStands hash accepted verified lines start old Happened before said.text.items state out

  -- ---- what is noted of a reply

  -- no promise of the owner's own, no mark and no monitor is above an epoch
  pub record AreBelow (low : ℕ) (state : Option State) : Type 0 where
    pub own : (signed : SignedPromise) → IfSome state (λ some. WasOwn (noting start.known before.changes.items) signed → signed.promise.epoch ≤ low)
    pub marks : IfSome state (λ some. Fits low some.memory)
    pub monitors : IfSome state (λ some. AllByRecursion (IsBelow hash accepted verified low) before.monitors.items)

  -- the promises that are noted then: each was before, or is not below an epoch
  abbrev AreNotedOn : ℕ → List SignedPromise → Type 0
  AreNotedOn low noted' = (noted' ≡ before.changes.items) ⊎ ((signed : SignedPromise) × (low ≤ signed.promise.epoch) × (noted' ≡ before.changes.items ++ signed ∷ []))

  module _ (held : ℕ) (asked : RequestContent) (frame : Frame) (says : IsSaid lines (Ask asked)) where
    -- it is the owner's own
    heard-own : (fault : AskFault) → HearsAny hash accepted verified exchanged (background_of before) fault held asked frame before.changes.items after.changes.items (scene before said stream) reached → IsReady verified lines start.known before → AllByRecursion Own after.changes.items
    heard-own fault hears (keyed, ready, are) = own-noted verified before.key (IsLate held asked frame) lines start.known (Ask asked) before.changes.items after.changes.items
        (subst (λ (k : List ℕ). NotesOwn verified k (IsLate held asked frame) (Ask asked) before.changes.items after.changes.items) keyed (hears_notes hash accepted verified exchanged fault (background_of before) held asked frame before.changes.items after.changes.items (scene before said stream) reached hears))
        says (back-all Own before.earlier.items before.changes.items ready)

    module _ (low : ℕ) (high : (signed : SignedPromise) → IsLate held asked frame signed → low ≤ signed.promise.epoch) where
      heard-on : (fault : AskFault) → HearsAny hash accepted verified exchanged (background_of before) fault held asked frame before.changes.items after.changes.items (scene before said stream) reached → AreNotedOn low after.changes.items
      heard-on fault hears = by (hears_notes hash accepted verified exchanged fault (background_of before) held asked frame before.changes.items after.changes.items (scene before said stream) reached hears)
        where
          by : NotesOwn verified before.client.chain.key (IsLate held asked frame) (Ask asked) before.changes.items after.changes.items → AreNotedOn low after.changes.items
          by (inl same) = inl same
          by (inr (signed, signs, late, asks, grown)) = inr (signed, high signed late, grown)

      -- and late
      pub heard-late : (fault : AskFault) (state : Option State) → HearsAny hash accepted verified exchanged (background_of before) fault held asked frame before.changes.items after.changes.items (scene before said stream) reached
          → AreBelow low state → StandsBefore state → AreNew lines start.known state after.changes.items
      heard-late fault None hears below stands = asked-of verified before.key lines start.known after.changes.items (heard-own fault hears stands.2)
      heard-late fault (Some state) hears below (stands, same, ready, step) = (
        asked-of verified before.key lines start.known after.changes.items (heard-own fault hears ready),
        subst (λ (n : ℕ). AreLate state.memory (drop n after.changes.items)) (sym step.0) (late-of (heard-on fault hears)),
      )
        where
          late-new : (signed : SignedPromise) → low ≤ signed.promise.epoch → Fits signed.promise.epoch state.memory
          late-new signed late mark has = elim (below.marks mark has) [
            | inl none ↦ inl none
            | inr under ↦ inr (omega (arith, under, late))
          ]

          late-of : AreNotedOn low after.changes.items → AreLate state.memory (drop (length before.changes.items) after.changes.items)
          late-of (inl is) = subst (λ (all : List SignedPromise). AreLate state.memory (drop (length before.changes.items) all)) (sym is) (drop-none (λ (s : SignedPromise). Fits s.promise.epoch state.memory) before.changes.items)
          late-of (inr (signed, late, is)) = subst (λ (all : List SignedPromise). AreLate state.memory (drop (length before.changes.items) all)) (sym is)
              (drop-one (λ (s : SignedPromise). Fits s.promise.epoch state.memory) before.changes.items signed (late-new signed late))

  module _ (said' : Said) (told : report_of said' ≡ reached.told) (client : after.client ≡ reached.client) (monitors : after.monitors.items ≡ reached.monitors) where
    abbrev StandsAfter : Option State → Type 0
    StandsAfter state = StateStands hash accepted verified lines before.key start old Happened state out after.changes.items (standing after.client after.monitors.items said'.text.items)

    module _ (state : State) (stands : Standing state before.changes.items (standing before.client before.monitors.items said.text.items)) (same : start.known.marks ≡ before.marks.items) where
      abbrev written : List ℕ
      written = stands.kept.text

      abbrev kept-roots : List SignedRoot
      kept-roots = (stored_after stands.kept.acts).roots

      abbrev kept-marks : List Mark
      kept-marks = state.memory.marks

      once : HasNoRepeat (map name_of before.marks.items)
      once = subst (λ (ms : List Mark). HasNoRepeat (map name_of ms)) same stands.kept.begun

      here : Owned written kept-roots before.marks.items kept-marks before.changes.items (scene before said stream)
      here = subst (λ (ms : List Mark). Owned written kept-roots ms kept-marks before.changes.items (scene before said stream)) same
          (owns-like hash accepted verified (IsAsked lines) Own (noting start.known before.changes.items) start.known.marks written kept-roots kept-marks (standing before.client before.monitors.items said.text.items) (scene before said stream) refl refl refl stands.owns)

      abbrev keeps-owned : EachKeeps hash accepted verified exchanged before.marks.items (AllByRecursion Own) (λ key promised name given. IsAsked lines name given × AreGiven hash accepted verified (IsAsked lines) Own (noting start.known before.changes.items) key name promised) ⊤
          (λ from to. Owned written kept-roots before.marks.items kept-marks before.changes.items from → Owned written kept-roots before.marks.items kept-marks before.changes.items to)
      keeps-owned = each-owned hash accepted verified (IsAsked lines) Own (noting start.known before.changes.items) before.marks.items written kept-roots kept-marks exchanged once (λ signed own. own.0.0) same

      abbrev keeps-current : EachKeeps hash accepted verified exchanged before.marks.items (AllByRecursion Own)
          (λ key promised name given. (key ≡ before.key) × (IsAsked lines name given × AreGiven hash accepted verified (IsAsked lines) Own (noting start.known before.changes.items) key name promised)) ⊥
          (λ from to. Owned written kept-roots before.marks.items kept-marks before.changes.items from × AllByRecursion (IsCurrent before.key from.client.chain) from.monitors
          → Owned written kept-roots before.marks.items kept-marks before.changes.items to × AllByRecursion (IsCurrent before.key to.client.chain) to.monitors)
      keeps-current = current hash accepted verified exchanged lines Own start.known (background_of before) written kept-roots kept-marks once (λ signed own. own.0.0) (λ signed own. own.0.1) same before.changes.items

      own-on : (noted' : List SignedPromise) (low : ℕ) → AreNotedOn low noted' → (signed : SignedPromise) → WasOwn (noting start.known before.changes.items) signed → WasOwn (noting start.known noted') signed
      own-on noted' low (inl is) signed was = subst (λ (all : List SignedPromise). WasOwn (noting start.known all) signed) (sym is) was
      own-on noted' low (inr (new, late, is)) signed was = subst (λ (all : List SignedPromise). WasOwn (noting start.known all) signed) (sym is) (noted-more start.known before.changes.items (new ∷ []) signed was)

      module _ (low : ℕ) (under : (signed : SignedPromise) → WasOwn (noting start.known before.changes.items) signed → signed.promise.epoch ≤ low) where
        -- each that counts is of an epoch up to that of a new one
        low-head : (signed : SignedPromise) → WasOwn (noting start.known before.changes.items) signed → (other : SignedPromise) → low ≤ other.promise.epoch → signed.promise.epoch ≤ other.promise.epoch
        low-head signed was other late = let early = under signed was in omega (arith, early, late)

        ascend-on : (noted' : List SignedPromise) → AreNotedOn low noted' → IsNonDecreasingBy (λ (signed : SignedPromise). signed.promise.epoch) noted'
        ascend-on noted' (inl is) = subst (IsNonDecreasingBy (λ (signed : SignedPromise). signed.promise.epoch)) (sym is) stands.ascend
        ascend-on noted' (inr (new, late, is)) = subst (IsNonDecreasingBy (λ (signed : SignedPromise). signed.promise.epoch)) (sym is)
            (join-ascends before.changes.items (new ∷ []) stands.ascend (one-ascends new)
            (λ one other has last. elim (has-cases new [] other last) [
              | inl is-new ↦ subst (λ (s : SignedPromise). one.promise.epoch ≤ s.promise.epoch) is-new (low-head one (noted-was start.known before.changes.items one has) new late)
              | inr none ↦ absurd (omega (arith, none.1))
            ]))

        later-on : (noted' : List SignedPromise) → AreNotedOn low noted' → (earlier later : SignedPromise) → WasOwn start.known earlier → Contains noted' later → earlier.promise.epoch ≤ later.promise.epoch
        later-on noted' (inl is) earlier later was has = stands.later earlier later was (subst (λ (all : List SignedPromise). Contains all later) is has)
        later-on noted' (inr (new, late, is)) earlier later was has = elim (Contains-append_cases before.changes.items (new ∷ []) later (subst (λ (all : List SignedPromise). Contains all later) is has)) [
          | inl old ↦ stands.later earlier later was old
          | inr last ↦ elim (has-cases new [] later last) [
            | inl is-new ↦ subst (λ (s : SignedPromise). earlier.promise.epoch ≤ s.promise.epoch) is-new (low-head earlier (was-more start.known (map own_promised before.changes.items) earlier was) new late)
            | inr none ↦ absurd (omega (arith, none.1))
          ]
        ]

        -- a step that keeps what is owned
        stepped : (noted' : List SignedPromise) → AreNotedOn low noted' → Owned written kept-roots before.marks.items kept-marks noted' reached → Standing state noted' (standing after.client after.monitors.items said'.text.items)
        stepped noted' on now =
            let back = subst (λ (ms : List Mark). Owned written kept-roots ms kept-marks noted' reached) (sym same) now in record {
              kept = stands.kept;
              owns = owns-like hash accepted verified (IsAsked lines) Own (noting start.known noted') start.known.marks written kept-roots kept-marks reached (standing after.client after.monitors.items said'.text.items)
                  (ap (λ (c : Client). c.chain) client) monitors (ap (λ (r : Report). r.lines) told) back;
              own = λ signed was. own-on noted' low on signed (stands.own signed was);
              ascend = ascend-on noted' on;
              later = later-on noted' on;
            }

      -- one of which nothing is noted
      still-stepped : after.changes ≡ before.changes → Owned written kept-roots before.marks.items kept-marks before.changes.items reached → Standing state after.changes.items (standing after.client after.monitors.items said'.text.items)
      still-stepped still now =
          let back = subst (λ (ms : List Mark). Owned written kept-roots ms kept-marks before.changes.items reached) (sym same) now in
          let there : Standing state before.changes.items (standing after.client after.monitors.items said'.text.items) = record {
            kept = stands.kept;
            owns = owns-like hash accepted verified (IsAsked lines) Own (noting start.known before.changes.items) start.known.marks written kept-roots kept-marks reached (standing after.client after.monitors.items said'.text.items)
                (ap (λ (c : Client). c.chain) client) monitors (ap (λ (r : Report). r.lines) told) back;
            own = stands.own;
            ascend = stands.ascend;
            later = stands.later;
          } in
          subst (λ (cs : Vec SignedPromise Global). Standing state cs.items (standing after.client after.monitors.items said'.text.items)) (sym still) there

      -- a monitor is given what was remembered as the owner's own, and what is noted if the name has a mark
      given-so : IsReady verified lines start.known before → (name : List ℕ)
          → AreGiven hash accepted verified (IsAsked lines) Own (noting start.known before.changes.items) before.key name (own_for before.marks.items name before.earlier.items before.changes.items)
      given-so (keyed, ready, are) name = by (list_any (λ (mark : Mark). bytes_eq mark.name name) before.marks.items) refl
        where
          earlier : List SignedPromise
          earlier = before.earlier.items

          noted : List SignedPromise
          noted = before.changes.items

          were : AllByRecursion (WasOwn (noting start.known before.changes.items)) before.earlier.items
          were = all-map (WasOwn start.known) (WasOwn (noting start.known before.changes.items)) before.earlier.items (λ signed was. was-more start.known (map own_promised before.changes.items) signed was) are.were

          news : AllByRecursion (WasOwn (noting start.known before.changes.items)) before.changes.items
          news = all-in (WasOwn (noting start.known before.changes.items)) before.changes.items (λ signed has. noted-was start.known before.changes.items signed has)

          by : (b : Bool) → list_any (λ (mark : Mark). bytes_eq mark.name name) before.marks.items ≡ b
              → AreGiven hash accepted verified (IsAsked lines) Own (noting start.known before.changes.items) before.key name (before.earlier.items ++ (if b then before.changes.items else []))
          by true is = record {
            earlier = before.earlier.items ++ before.changes.items;
            noted = [];
            parts = sym (append-nil (before.earlier.items ++ before.changes.items));
            owns = ready;
            signed = signed-of verified before.key lines start.known (WasOwn (noting start.known before.changes.items)) (before.earlier.items ++ before.changes.items) ready (join-all (WasOwn (noting start.known before.changes.items)) before.earlier.items before.changes.items were news);
            all = λ signed counts named. elim (noted-cases start.known before.changes.items signed counts.0) [
              | inl old ↦ Contains-append_left before.earlier.items before.changes.items signed (are.all signed old)
              | inr new ↦ Contains-append_right before.earlier.items before.changes.items signed new
            ];
            ascend = join-ascends before.earlier.items before.changes.items are.ascend stands.ascend
                (λ one other has new. stands.later one other (all-has (WasOwn start.known) before.earlier.items one are.were has) new);
          }
          by false is =
              let old-ones = front-all Own before.earlier.items before.changes.items ready in record {
                earlier = before.earlier.items;
                noted = [];
                parts = refl;
                owns = subst (AllByRecursion Own) (sym (append-nil before.earlier.items)) old-ones;
                signed = signed-of verified before.key lines start.known (WasOwn (noting start.known before.changes.items)) before.earlier.items old-ones were;
                all = λ signed (was, (place, mark, within, at, (marked, low))) named.
                    let there : IsMarked before.marks.items name = (mark, subst (λ (ms : List Mark). Contains ms mark) same (place, within, at), marked ∙ named) in
                    absurd (true-false (sym (marked_any before.marks.items name there) ∙ is));
                ascend = are.ascend;
              }

    -- ---- how it stands

    -- nothing is noted
    still-stands : (state : Option State) → after.changes ≡ before.changes
        → ((one : State) (stands : Standing one before.changes.items (standing before.client before.monitors.items said.text.items)) (same : start.known.marks ≡ before.marks.items) → IsReady verified lines start.known before
        → Owned (written one stands same) (kept-roots one stands same) before.marks.items (kept-marks one stands same) before.changes.items reached)
        → StandsBefore state → StandsAfter state
    still-stands None still keeps stands = stands.0
    still-stands (Some state) still keeps (stands, same, ready, step) = still-stepped state stands same still (keeps state stands same ready)

    -- a list is taken on the way to an epoch
    pub advanced-stands : (epoch : ℕ) (state : Option State) → after.changes ≡ before.changes → AdvancesAny hash accepted verified exchanged (background_of before) epoch (scene before said stream) reached → StandsBefore state → StandsAfter state
    advanced-stands epoch state still (inl (goes, advances)) = still-stands state still (λ one stands same ready.
        advances-keep hash accepted verified exchanged before.marks.items (keeps-owned one stands same) epoch (scene before said stream) goes reached advances (here one stands same))
    advanced-stands epoch state still (inr (inl stops)) = still-stands state still (λ one stands same ready. (keeps-owned one stands same).stops (scene before said stream) reached tt stops (here one stands same))
    advanced-stands epoch state still (inr (inr some)) = still-stands state still (λ one stands same ready.
        advances_some-keeps hash accepted verified exchanged before.marks.items (keeps-owned one stands same) epoch (scene before said stream) reached some (here one stands same))

    -- the latest root is heard
    pub looked-stands : (held : ℕ) (frame : Frame) (state : Option State) → after.changes ≡ before.changes → LooksSome hash accepted verified exchanged (background_of before) held frame (scene before said stream) reached → StandsBefore state → StandsAfter state
    looked-stands held frame state still looks = still-stands state still (λ one stands same ready.
        looks_some-keeps hash accepted verified exchanged (background_of before) (keeps-owned one stands same) held frame (scene before said stream) reached looks (here one stands same))

    -- a reply is heard
    pub heard-stands : (held : ℕ) (asked : RequestContent) (frame : Frame) (low : ℕ) → ((signed : SignedPromise) → IsLate held asked frame signed → low ≤ signed.promise.epoch) → (state : Option State) → IsSaid lines (Ask asked)
        → HearsAny hash accepted verified exchanged (background_of before) NoReply held asked frame before.changes.items after.changes.items (scene before said stream) reached → AreBelow low state → StandsBefore state → StandsAfter state
    heard-stands held asked frame low high None says hears below stands = stands.0
    heard-stands held asked frame low high (Some state) says hears below (stands, same, ready, step) =
        stepped state stands same low below.own after.changes.items (heard-on held asked frame says low high NoReply hears)
        (hears-noted hash accepted verified exchanged lines Own start.known (background_of before) (written state stands same) (kept-roots state stands same) (kept-marks state stands same) (once state stands same) (λ signed own. own.0.0) (λ signed own. own.0.1) same
        before.changes.items after.changes.items (heard-own held asked frame says NoReply hears ready) held asked frame low high below.marks (scene before said stream) reached hears below.monitors (here state stands same) step.1)

    -- what the line says is asked, and nothing is noted
    pub line-stands : (fault : AskFault) (line : ScriptLine) (state : Option State) → IsSaid lines line → after.changes ≡ before.changes
        → DoesSomeNoting hash accepted verified exchanged (background_of before) fault line before.changes.items after.changes.items (scene before said stream) reached → StandsBefore state → StandsAfter state
    line-stands fault line state asked still does = still-stands state still (λ one stands same ready.
        does_some-keeps hash accepted verified exchanged (background_of before) (keeps-owned one stands same) fault tt line before.changes.items after.changes.items (scene before said stream) reached
        (subst (λ (cs : Vec SignedPromise Global). AllByRecursion Own cs.items) (sym still) (back-all Own before.earlier.items before.changes.items ready.1)) (λ name key is. (subst (IsSaid lines) is asked, given-so one stands same ready name)) does (here one stands same))

    -- ---- and it is ready for the next

    same-ready : reached.client.chain.key ≡ before.client.chain.key → background_of after ≡ background_of before → after.changes ≡ before.changes → IsReady verified lines start.known before → IsReady verified lines start.known after
    same-ready one stays same (keyed, ready, are) =
        let key = ap (λ (b : Background). b.key) stays in
        let earlier = ap (λ (b : Background). b.earlier) stays in (
          ap (λ (c : Client). c.chain.key) client ∙ one ∙ keyed ∙ sym key,
          subst (λ (k : List ℕ). AllByRecursion (IsOwnPromise verified k lines start.known) (after.earlier.items ++ after.changes.items)) (sym key)
              (subst (λ (xs : List SignedPromise). AllByRecursion (IsOwnPromise verified before.key lines start.known) (xs ++ after.changes.items)) (sym earlier)
              (subst (λ (xs : List SignedPromise). AllByRecursion (IsOwnPromise verified before.key lines start.known) (before.earlier.items ++ xs)) (sym (ap (λ cs. cs.items) same)) ready)),
          subst (AreEarlier start.known) (sym earlier) are,
        )

    pub advanced-ready : (epoch : ℕ) → AdvancesAny hash accepted verified exchanged (background_of before) epoch (scene before said stream) reached → background_of after ≡ background_of before → after.changes ≡ before.changes
        → IsReady verified lines start.known before → IsReady verified lines start.known after
    advanced-ready epoch advances stays same ready = same-ready (advanced_key hash accepted verified exchanged (background_of before) epoch (scene before said stream) reached advances) stays same ready

    pub looked-ready : (held : ℕ) (frame : Frame) → LooksSome hash accepted verified exchanged (background_of before) held frame (scene before said stream) reached → background_of after ≡ background_of before → after.changes ≡ before.changes
        → IsReady verified lines start.known before → IsReady verified lines start.known after
    looked-ready held frame looks stays same ready = same-ready (looks_key hash accepted verified exchanged (background_of before) held frame (scene before said stream) reached looks) stays same ready

    pub heard-ready : (held : ℕ) (asked : RequestContent) (frame : Frame) → IsSaid lines (Ask asked) → HearsAny hash accepted verified exchanged (background_of before) NoReply held asked frame before.changes.items after.changes.items (scene before said stream) reached
        → background_of after ≡ background_of before → IsReady verified lines start.known before → IsReady verified lines start.known after
    heard-ready held asked frame says hears stays ready =
        let key = ap (λ (b : Background). b.key) stays in
        let earlier = ap (λ (b : Background). b.earlier) stays in
        let old-ones = front-all (IsOwnPromise verified before.key lines start.known) before.earlier.items before.changes.items ready.1 in (
          ap (λ (c : Client). c.chain.key) client ∙ hears_key hash accepted verified exchanged NoReply (background_of before) held asked frame before.changes.items after.changes.items (scene before said stream) reached hears ∙ ready.0 ∙ sym key,
          subst (λ (k : List ℕ). AllByRecursion (IsOwnPromise verified k lines start.known) (after.earlier.items ++ after.changes.items)) (sym key)
              (subst (λ (xs : List SignedPromise). AllByRecursion (IsOwnPromise verified before.key lines start.known) (xs ++ after.changes.items)) (sym earlier)
              (join-all (IsOwnPromise verified before.key lines start.known) before.earlier.items after.changes.items old-ones (heard-own held asked frame says NoReply hears ready))),
          subst (AreEarlier start.known) (sym earlier) ready.2,
        )

    pub line-ready : (fault : AskFault) (line : ScriptLine) → DoesSomeNoting hash accepted verified exchanged (background_of before) fault line before.changes.items after.changes.items (scene before said stream) reached → background_of after ≡ background_of before → after.changes ≡ before.changes
        → IsReady verified lines start.known before → IsReady verified lines start.known after
    line-ready fault line does stays same ready = same-ready (some_key hash accepted verified exchanged fault (background_of before) line before.changes.items after.changes.items (scene before said stream) reached does) stays same ready

    -- and no question came between
    pub here-stands : (state : Option State) (out' : Option (List ℕ)) → background_of after ≡ background_of before → start.known.marks ≡ before.marks.items → IsReady verified lines start.known after → IsInStep state after
        → StateStands hash accepted verified lines before.key start old Happened state out' after.changes.items (standing after.client after.monitors.items said'.text.items) → RunStands hash accepted verified lines start old Happened after said'.text.items state out'
    here-stands state out' stays marks ready step stands = (
      subst (λ (k : List ℕ). StateStands hash accepted verified lines k start old Happened state out' after.changes.items (standing after.client after.monitors.items said'.text.items)) (sym (ap (λ (b : Background). b.key) stays)) stands,
      marks ∙ sym (ap (λ (b : Background). b.marks) stays),
      ready,
      step,
    )

    -- ---- the state looked at all changes, and each monitor is current

    -- after a whole step they are
    abbrev IsWhole : Type 0
    IsWhole = (one : State) (stands : Standing one before.changes.items (standing before.client before.monitors.items said.text.items)) (same : start.known.marks ≡ before.marks.items) → IsReady verified lines start.known before
        → AllByRecursion (IsCurrent before.key before.client.chain) before.monitors.items → AllByRecursion (IsCurrent before.key reached.client.chain) reached.monitors

    at-scene : background_of after ≡ background_of before → AllByRecursion (IsCurrent before.key reached.client.chain) reached.monitors → AllByRecursion (IsCurrent after.key after.client.chain) after.monitors.items
    at-scene stays now = subst (λ (k : List ℕ). AllByRecursion (IsCurrent k after.client.chain) after.monitors.items) (sym (ap (λ (b : Background). b.key) stays))
        (subst (λ (c : Client). AllByRecursion (IsCurrent before.key c.chain) after.monitors.items) (sym client) (subst (AllByRecursion (IsCurrent before.key reached.client.chain)) (sym monitors) now))

    whole-step : (state state' : Option State) (told' : List ℕ) → background_of after ≡ background_of before → IsWhole → StandsBefore state → KeepsUp after told' state state' → IsInStep state' after
    whole-step None state' told' stays whole stands (middle, is, saves) = subst (λ (s : Option State). IsInStep s after) (sym (subst (λ (m : Option State). SavesTo after told' m state') is saves)) tt
    whole-step (Some state) state' told' stays whole (stands, same, ready, step) (middle, (kept, is, learns, head, looked, was-new, changes, finals), saves) =
        let (last, at, moves, heads, was, all, still, seen) = subst (λ (m : Option State). SavesTo after told' m state') is saves in
        subst (λ (s : Option State). IsInStep s after) (sym at) (still ∙ changes, at-scene stays (whole state stands same ready step.1))

    -- and where the state did not look again, as nothing was noted
    waits-step : (state : Option State) → background_of after ≡ background_of before → after.changes ≡ before.changes → IsWhole → StandsBefore state → IsInStep state after
    waits-step None stays still whole stands = tt
    waits-step (Some state) stays still whole (stands, same, ready, step) = (step.0 ∙ ap (λ (cs : Vec SignedPromise Global). length cs.items) (sym still), at-scene stays (whole state stands same ready step.1))

    advances-whole : (epoch : ℕ) (goes : Bool) → Advances hash accepted verified exchanged epoch (scene before said stream) goes reached → IsWhole
    advances-whole epoch goes advances = λ one stands same ready now. (advances-keep hash accepted verified exchanged before.marks.items (keeps-current one stands same) epoch (scene before said stream) goes reached advances (here one stands same, now)).1

    pub advanced-step : (epoch : ℕ) (goes : Bool) (state state' : Option State) (told' : List ℕ) → background_of after ≡ background_of before → Advances hash accepted verified exchanged epoch (scene before said stream) goes reached
        → StandsBefore state → KeepsUp after told' state state' → IsInStep state' after
    advanced-step epoch goes state state' told' stays advances = whole-step state state' told' stays (advances-whole epoch goes advances)

    pub waiting-step : (epoch : ℕ) (goes : Bool) (state : Option State) → background_of after ≡ background_of before → after.changes ≡ before.changes → Advances hash accepted verified exchanged epoch (scene before said stream) goes reached → StandsBefore state → IsInStep state after
    waiting-step epoch goes state stays still advances = waits-step state stays still (advances-whole epoch goes advances)

    pub looked-step : (held : ℕ) (frame : Frame) (state state' : Option State) (told' : List ℕ) → background_of after ≡ background_of before
        → (middle : Scene T) × HearsHead hash accepted verified exchanged held frame (scene before said stream) middle × TestsAll hash accepted exchanged before.marks.items middle reached → StandsBefore state → KeepsUp after told' state state' → IsInStep state' after
    looked-step held frame state state' told' stays (middle, hears, tests) = whole-step state state' told' stays (λ one stands same ready now.
        (tests_all-keeps hash accepted verified exchanged before.marks.items (keeps-current one stands same) middle reached tests (hears_head-keeps hash accepted verified exchanged before.marks.items (keeps-current one stands same) held frame (scene before said stream) middle hears (here one stands same, now))).1)

    pub heard-step : (held : ℕ) (asked : RequestContent) (frame : Frame) (state state' : Option State) (told' : List ℕ) → IsSaid lines (Ask asked) → background_of after ≡ background_of before
        → HearsReply hash accepted verified exchanged before.marks.items held asked frame before.changes.items after.changes.items (scene before said stream) reached → StandsBefore state → KeepsUp after told' state state' → IsInStep state' after
    heard-step held asked frame state state' told' says stays hears = whole-step state state' told' stays (λ one stands same ready now.
        (reply-keeps hash accepted verified exchanged before.marks.items (keeps-current one stands same) held asked frame before.changes.items after.changes.items (scene before said stream) reached (heard-own held asked frame says NoReply (inl hears) ready) hears (here one stands same, now)).1)

    pub same-step : (state state' : Option State) (told' : List ℕ) → background_of after ≡ background_of before → reached ≡ scene before said stream → StandsBefore state → KeepsUp after told' state state' → IsInStep state' after
    same-step state state' told' stays alike = whole-step state state' told' stays (λ one stands same ready now. subst (λ (s : Scene T). AllByRecursion (IsCurrent before.key s.client.chain) s.monitors) (sym alike) now)

    line-whole : (line : ScriptLine) → IsSaid lines line → after.changes ≡ before.changes → DoesLineNoting hash accepted verified exchanged (background_of before) line before.changes.items after.changes.items (scene before said stream) reached → IsWhole
    line-whole Pass asked still (alike, none) = λ one stands same ready now. subst (λ (s : Scene T). AllByRecursion (IsCurrent before.key s.client.chain) s.monitors) (sym alike) now
    line-whole (Ask content) asked still does = λ one stands same ready now.
        (asks_directory-keeps hash accepted verified exchanged before.marks.items (keeps-current one stands same) before.token content before.changes.items after.changes.items (scene before said stream) reached
        (subst (λ (cs : Vec SignedPromise Global). AllByRecursion Own cs.items) (sym still) (back-all Own before.earlier.items before.changes.items ready.1)) does (here one stands same, now)).1
    line-whole (Watch name given) asked still (begins, none) = λ one stands same ready now.
        (begins_watch-keeps hash accepted verified exchanged before.marks.items (keeps-current one stands same) before.key (own_for before.marks.items name before.earlier.items before.changes.items) name given (refl, (asked, given-so one stands same ready name)) before.known (scene before said stream) reached begins
        (here one stands same, now)).1
    line-whole (Piece session piece) asked still none = absurd none
    line-whole (End session) asked still none = absurd none

    pub line-step : (line : ScriptLine) (state state' : Option State) (told' : List ℕ) → IsSaid lines line → background_of after ≡ background_of before → after.changes ≡ before.changes
        → DoesLineNoting hash accepted verified exchanged (background_of before) line before.changes.items after.changes.items (scene before said stream) reached → StandsBefore state → KeepsUp after told' state state' → IsInStep state' after
    line-step line state state' told' asked stays still does = whole-step state state' told' stays (line-whole line asked still does)

    -- ---- and each monitor has a mark

    -- the monitors go on, whatever is stored
    abbrev Goes : Type 0
    Goes = (text : List ℕ) (stored : List SignedRoot) (known : List Mark) (once : HasNoRepeat (map name_of before.marks.items)) (spans : (mark : Mark) → Contains known mark → mark.since ≤ mark.epoch)
        → GoesOn hash accepted verified (IsAsked lines) Own (noting start.known before.changes.items) before.marks.items text stored known exchanged once spans (scene before said stream) reached

    gone : (state : State) → Goes → Standing state before.changes.items (standing before.client before.monitors.items said.text.items) → start.known.marks ≡ before.marks.items
        → StateMarks (Some state) before.monitors.items → AreGone state.memory.marks before.monitors.items after.monitors.items
    gone state goes stands same (count, have, ordered) =
        let kept = stands.kept in
        let all-known = state.memory.marks in
        let spans = spans-so (stored_after kept.acts).text kept.saved state.memory [] kept.spells kept.ahead in
        let behind = all-map (HasMarkOf all-known) (IsBehind all-known) before.monitors.items (λ monitor has. have-behind all-known monitor kept.once has) have in
        let ((owned, low, up), go) = goes (written state stands same) (kept-roots state stands same) all-known (once state stands same) spans (here state stands same, behind, ordered) in
        let well = begin-well hash accepted verified (IsAsked lines) Own (noting start.known before.changes.items) before.marks.items (written state stands same) (kept-roots state stands same) all-known exchanged (once state stands same) spans reached owned in
        subst (AreGone all-known before.monitors.items) (sym monitors) (record { go = go; behind = low; ordered = up; well = well })

    -- each relation between scenes keeps it so
    each-goes : start.known.marks ≡ before.marks.items → (text : List ℕ) (stored : List SignedRoot) (known : List Mark) (once : HasNoRepeat (map name_of before.marks.items)) (spans : (mark : Mark) → Contains known mark → mark.since ≤ mark.epoch)
        → EachKeeps hash accepted verified exchanged before.marks.items (AllByRecursion Own) (λ key promised name given. IsAsked lines name given × AreGiven hash accepted verified (IsAsked lines) Own (noting start.known before.changes.items) key name promised) ⊤
        (GoesOn hash accepted verified (IsAsked lines) Own (noting start.known before.changes.items) before.marks.items text stored known exchanged once spans)
    each-goes same text stored known once spans = each-gone hash accepted verified (IsAsked lines) Own (noting start.known before.changes.items) before.marks.items text stored known exchanged once spans
        (each-owned hash accepted verified (IsAsked lines) Own (noting start.known before.changes.items) before.marks.items text stored known exchanged once (λ signed own. own.0.0) same)

    -- and once a state learned what is told, each monitor has a mark
    marked-so : (state state' : Option State) (told' : List ℕ)
        → ((one : State) → Standing one before.changes.items (standing before.client before.monitors.items said.text.items) → start.known.marks ≡ before.marks.items → IsReady verified lines start.known before → Goes)
        → StandsBefore state → KeepsUp after told' state state' → MarksOn state before.monitors.items state' after.monitors.items
    marked-so None state' told' goes stands kept = (learned-lasts after told' None state' kept, λ marked. none-marked after told' state' kept)
    marked-so (Some state) state' told' goes (stands, same, ready, step) kept =
        (learned-lasts after told' (Some state) state' kept, λ marked. learned-marks after told' state state' before.monitors.items kept stands.kept.once (gone state (goes state stands same ready) stands same marked) marked)

    -- nothing was done
    pub here-marks : (state state' : Option State) (told' : List ℕ) → reached ≡ scene before said stream → StandsBefore state → KeepsUp after told' state state' → MarksOn state before.monitors.items state' after.monitors.items
    here-marks state state' told' alike = marked-so state state' told' (λ one stands same ready text stored known once spans.
        subst (GoesOn hash accepted verified (IsAsked lines) Own (noting start.known before.changes.items) before.marks.items text stored known exchanged once spans (scene before said stream)) (sym alike)
        ((each-goes same text stored known once spans).none (scene before said stream)))

    pub line-marks : (fault : AskFault) (line : ScriptLine) (state state' : Option State) (told' : List ℕ) → IsSaid lines line → after.changes ≡ before.changes
        → DoesSomeNoting hash accepted verified exchanged (background_of before) fault line before.changes.items after.changes.items (scene before said stream) reached
        → StandsBefore state → KeepsUp after told' state state' → MarksOn state before.monitors.items state' after.monitors.items
    line-marks fault line state state' told' asked still does = marked-so state state' told' (λ one stands same ready text stored known once spans.
        does_some-keeps hash accepted verified exchanged (background_of before) (each-goes same text stored known once spans) fault tt line before.changes.items after.changes.items (scene before said stream) reached
        (subst (λ (cs : Vec SignedPromise Global). AllByRecursion Own cs.items) (sym still) (back-all Own before.earlier.items before.changes.items ready.1)) (λ name key is. (subst (IsSaid lines) is asked, given-so one stands same ready name)) does)

    -- a list was taken on the way to an epoch
    advanced-goes : (epoch : ℕ) → AdvancesAny hash accepted verified exchanged (background_of before) epoch (scene before said stream) reached → start.known.marks ≡ before.marks.items → Goes
    advanced-goes epoch (inl (goes, advances)) same = λ text stored known once spans.
        advances-keep hash accepted verified exchanged before.marks.items (each-goes same text stored known once spans) epoch (scene before said stream) goes reached advances
    advanced-goes epoch (inr (inl stops)) same = λ text stored known once spans. (each-goes same text stored known once spans).stops (scene before said stream) reached tt stops
    advanced-goes epoch (inr (inr some)) same = λ text stored known once spans.
        advances_some-keeps hash accepted verified exchanged before.marks.items (each-goes same text stored known once spans) epoch (scene before said stream) reached some

    pub advanced-marks : (epoch : ℕ) (state state' : Option State) (told' : List ℕ) → AdvancesAny hash accepted verified exchanged (background_of before) epoch (scene before said stream) reached
        → StandsBefore state → KeepsUp after told' state state' → MarksOn state before.monitors.items state' after.monitors.items
    advanced-marks epoch state state' told' advances = marked-so state state' told' (λ one stands same ready. advanced-goes epoch advances same)

    -- or none more is needed, and no state learned anything yet
    pub waiting-marks : (epoch : ℕ) (state : Option State) → Advances hash accepted verified exchanged epoch (scene before said stream) false reached → StandsBefore state → MarksOn state before.monitors.items state after.monitors.items
    waiting-marks epoch None advances stands = ((λ none. none), λ marked. tt)
    waiting-marks epoch (Some state) advances (stands, same, ready, step) = (
      (λ none. none),
      λ marked.
          let go = gone state (advanced-goes epoch (inl (false, advances)) same) stands same marked in
          let many : length after.monitors.items ≡ length before.monitors.items = ap (λ (ms : List Monitor). length ms) monitors ∙ advances-many hash accepted verified exchanged before.marks.items epoch (scene before said stream) reached advances in
          (marked.0 ∙ sym many, same-marked state.memory.marks before.monitors.items after.monitors.items many go.go marked.1, go.ordered),
    )

    -- the latest root was heard
    pub looked-marks : (held : ℕ) (frame : Frame) (state state' : Option State) (told' : List ℕ) → LooksSome hash accepted verified exchanged (background_of before) held frame (scene before said stream) reached
        → StandsBefore state → KeepsUp after told' state state' → MarksOn state before.monitors.items state' after.monitors.items
    looked-marks held frame state state' told' looks = marked-so state state' told' (λ one stands same ready text stored known once spans.
        looks_some-keeps hash accepted verified exchanged (background_of before) (each-goes same text stored known once spans) held frame (scene before said stream) reached looks)

    -- a reply was heard
    heard-goes : (held : ℕ) (asked : RequestContent) (frame : Frame) → IsSaid lines (Ask asked) → HearsAny hash accepted verified exchanged (background_of before) NoReply held asked frame before.changes.items after.changes.items (scene before said stream) reached
        → start.known.marks ≡ before.marks.items → IsReady verified lines start.known before → Goes
    heard-goes held asked frame says (inl hears) same ready = λ text stored known once spans.
        reply-keeps hash accepted verified exchanged before.marks.items (each-goes same text stored known once spans) held asked frame before.changes.items after.changes.items (scene before said stream) reached (heard-own held asked frame says NoReply (inl hears) ready) hears
    heard-goes held asked frame says (inr some) same ready = λ text stored known once spans.
        hears_some-keeps hash accepted verified exchanged before.marks.items (each-goes same text stored known once spans) held asked frame before.changes.items after.changes.items (scene before said stream) reached (heard-own held asked frame says NoReply (inr some) ready) some

    pub heard-marks : (held : ℕ) (asked : RequestContent) (frame : Frame) (state state' : Option State) (told' : List ℕ) → IsSaid lines (Ask asked)
        → HearsAny hash accepted verified exchanged (background_of before) NoReply held asked frame before.changes.items after.changes.items (scene before said stream) reached
        → StandsBefore state → KeepsUp after told' state state' → MarksOn state before.monitors.items state' after.monitors.items
    heard-marks held asked frame state state' told' says hears = marked-so state state' told' (λ one stands same ready. heard-goes held asked frame says hears same ready)

-- an epoch that no reply's promise is below: neither the head when it was asked for is above it, nor that of which the frame speaks
abbrev pub low_of : ℕ → ℕ → ℕ
low_of held epoch = held + (epoch - held)

-- the head when it was asked for is not above it
pub head-up : (chain : KeyedRoots) (head : SignedRoot) (held epoch : ℕ) → IsHead chain head → held ≡ head.body.epoch → (other : SignedRoot) → IsHead chain other → other.body.epoch ≤ low_of held epoch
head-up chain head held epoch is same other at = let one = some-same head other (sym is ∙ at) in omega (arith, same, ap (λ (r : SignedRoot). r.body.epoch) one)

pub low-high : (held epoch : ℕ) (asked : RequestContent) (frame : Frame) → SpeaksOf held asked frame epoch → (signed : SignedPromise) → IsLate held asked frame signed → low_of held epoch ≤ signed.promise.epoch
low-high held epoch asked frame speaks signed (timely, late) = let high = late epoch speaks in omega (arith, timely, high)

-- and where nothing is noted
pub prepared-asked : {H V S : Type 0} (hash : List ℕ → List ℕ) (accepted verified : List ℕ → List ℕ → List ℕ → Type 0) (lines : Option (List (List ℕ))) (start : Found) (old : List ℕ) (Happened : List Act → Type 0) (before after : Asker H V S) (said : List ℕ) (state : Option State) (out : Option (List ℕ))
    → after.changes ≡ before.changes → RunStands hash accepted verified lines start old Happened before said state out → AreNew lines start.known state after.changes.items
prepared-asked hash accepted verified lines start old Happened before after said None out same (stands, marks, ready, step) =
    subst (λ (xs : List SignedPromise). AreAsked lines start.known xs) (sym (ap (λ cs. cs.items) same))
    (asked-of verified before.key lines start.known before.changes.items (back-all (IsOwnPromise verified before.key lines start.known) before.earlier.items before.changes.items ready.1))
prepared-asked hash accepted verified lines start old Happened before after said (Some state) out same (stands, marks, ready, step) =
    subst (λ (xs : List SignedPromise). AreAsked lines start.known xs × AreLate state.memory (drop state.changes xs)) (sym (ap (λ cs. cs.items) same)) (
      asked-of verified before.key lines start.known before.changes.items (back-all (IsOwnPromise verified before.key lines start.known) before.earlier.items before.changes.items ready.1),
      subst (λ (n : ℕ). AreLate state.memory (drop n before.changes.items)) (sym step.0) (drop-none (λ (s : SignedPromise). Fits s.promise.epoch state.memory) before.changes.items),
    )

-- no mark that is kept is above an epoch that the head is not above
pub run-fits : {H V S : Type 0} (hash : List ℕ → List ℕ) (accepted verified : List ℕ → List ℕ → List ℕ → Type 0) (lines : Option (List (List ℕ))) (start : Found) (old : List ℕ) (Happened : List Act → Type 0) (asker : Asker H V S) (said : List ℕ) (state : Option State) (out : Option (List ℕ)) (low : ℕ)
    → RunStands hash accepted verified lines start old Happened asker said state out → IsUpTo asker.client low → IfSome state (λ one. Fits low one.memory)
run-fits hash accepted verified lines start old Happened asker said None out low stands up = tt
run-fits hash accepted verified lines start old Happened asker said (Some state) out low (stands, same, ready, step) up = λ mark has. elim (stands.owns.held mark has).low [
  | inl none ↦ inl none
  | inr (head, at, under) ↦ let high = up head at in inr (omega (arith, under, high))
]

-- and no promise that is the owner's own
pub run-own : {H V S : Type 0} (hash : List ℕ → List ℕ) (accepted verified : List ℕ → List ℕ → List ℕ → Type 0) (lines : Option (List (List ℕ))) (start : Found) (old : List ℕ) (Happened : List Act → Type 0) (asker : Asker H V S) (said : List ℕ) (state : Option State) (out : Option (List ℕ)) (low : ℕ)
    → RunStands hash accepted verified lines start old Happened asker said state out → IsUpTo asker.client low → (signed : SignedPromise) → IfSome state (λ one. WasOwn (noting start.known asker.changes.items) signed → signed.promise.epoch ≤ low)
run-own hash accepted verified lines start old Happened asker said None out low stands up signed = tt
run-own hash accepted verified lines start old Happened asker said (Some state) out low (stands, same, ready, step) up signed = λ was.
    let both = ends asker.client.chain.roots stands.owns.chain.first in
    let early = rooted-low hash verified asker.client.chain signed.promise both.head stands.owns.chain both.at-head (stands.owns.rooted signed was) in
    let high = up both.head both.at-head in
    omega (arith, early, high)

not-none : (state : State) → ◌≡◌ {A = Option State} (Some state) None → ⊥
not-none state same = search (rules, same)

-- without a state, none is kept
pub keeps-none : {H V S : Type 0} (after : Asker H V S) (told : List ℕ) (state state' : Option State) → state ≡ None → KeepsUp after told state state' → state' ≡ None
keeps-none after told None state' had (middle, is, saves) = subst (λ (m : Option State). SavesTo after told m state') is saves
keeps-none after told (Some state) state' had keeps = absurd (not-none state had)

-- once the chain is as far as a reply, nothing is above both that and where it was before
pub caught-so : {T H V S : Type 0} (hash : List ℕ → List ℕ) (accepted verified : List ℕ → List ℕ → List ℕ → Type 0) (exchanged : T → RequestContent → Frame → T → Type 0) (lines : Option (List (List ℕ))) (start : Found) (old : List ℕ) (Happened : List Act → Type 0)
    (before ready : Asker H V S) (said : Said) (stream : T) (out : Option (List ℕ)) (state state' : Option State) (epoch low : ℕ) (told : Report) (later : T) → IsUpTo before.client low → epoch ≤ low → ready.changes ≡ before.changes → (state ≡ None → state' ≡ None)
    → RunStands hash accepted verified lines start old Happened before said.text.items state out
    → CatchesUp hash accepted verified exchanged epoch (scene before said stream) (record { client = ready.client; monitors = ready.monitors.items; finals = ready.finals; told = told; stream = later })
    → IfSome state' (λ one. Fits low one.memory) → (reached : Scene T) → AreBelow hash accepted verified exchanged lines start old Happened ready ready said stream out reached low state'
caught-so {T} {H} {V} {S} hash accepted verified exchanged lines start old Happened before ready said stream out state None epoch low told later up high still none stands catches fits reached = record { own = λ signed. tt; marks = tt; monitors = tt }
caught-so {T} {H} {V} {S} hash accepted verified exchanged lines start old Happened before ready said stream out None (Some state') epoch low told later up high still some stands catches fits reached = absurd (not-none state' (some refl))
caught-so {T} {H} {V} {S} hash accepted verified exchanged lines start old Happened before ready said stream out (Some state) (Some state') epoch low told later up high still none (stands, same, (keyed, ready-so, are), step) catches fits reached = record {
  own = λ signed was. run-own hash accepted verified lines start old Happened before said.text.items (Some state) out low (stands, same, (keyed, ready-so, are), step) up signed (subst (λ (cs : Vec SignedPromise Global). WasOwn (noting start.known cs.items) signed) still was);
  marks = fits;
  monitors = caught-below hash accepted verified exchanged lines (IsOwnPromise verified before.key lines start.known) start.known (background_of before) stands.kept.text (stored_after stands.kept.acts).roots state.memory.marks
      (subst (λ (ms : List Mark). HasNoRepeat (map name_of ms)) same stands.kept.begun) (λ signed own. own.0.0) (λ signed own. own.0.1) same before.changes.items epoch low (scene before said stream) _ catches up high
      (subst (λ (ms : List Mark). Owns hash accepted verified (IsAsked lines) (IsOwnPromise verified before.key lines start.known) (noting start.known before.changes.items) stands.kept.text (stored_after stands.kept.acts).roots ms state.memory.marks (scene before said stream)) same
      (owns-like hash accepted verified (IsAsked lines) (IsOwnPromise verified before.key lines start.known) (noting start.known before.changes.items) start.known.marks stands.kept.text (stored_after stands.kept.acts).roots state.memory.marks (standing before.client before.monitors.items said.text.items) (scene before said stream) refl refl refl stands.owns)) step.1;
}

-- what is below an epoch is so whatever the output
pub below-as : {T H V S : Type 0} (hash : List ℕ → List ℕ) (accepted verified : List ℕ → List ℕ → List ℕ → Type 0) (exchanged : T → RequestContent → Frame → T → Type 0) (lines : Option (List (List ℕ))) (start : Found) (old : List ℕ) (Happened Happened' : List Act → Type 0)
    (before last after : Asker H V S) (said said' : Said) (stream stream' : T) (out out' : Option (List ℕ)) (reached reached' : Scene T) (low : ℕ) (state : Option State)
    → AreBelow hash accepted verified exchanged lines start old Happened before last said stream out reached low state → AreBelow hash accepted verified exchanged lines start old Happened' before after said' stream' out' reached' low state
below-as hash accepted verified exchanged lines start old Happened Happened' before last after said said' stream stream' out out' reached reached' low state below = record { own = below.own; marks = below.marks; monitors = below.monitors }

-- a question that settled stands for the next, once all is written
module _ {H V S : Type 0} (hash : List ℕ → List ℕ) (accepted verified : List ℕ → List ℕ → List ℕ → Type 0) (lines : Option (List (List ℕ))) (start : Found) (old : List ℕ) (Happened : List Act → Type 0)
    (key : List ℕ) (asker : Asker H V S) (same : asker.key ≡ key) (said : Said) (status : ℕ) where
  pub settled-stands : (state : Option State) (out : Option (List ℕ)) → report_of said ≡ emptied status → start.known.marks ≡ asker.marks.items → IsReady verified lines start.known asker → IsInStep state asker
      → StateStands hash accepted verified lines key start old Happened state out asker.changes.items (standing asker.client asker.monitors.items []) → RunStands hash accepted verified lines start old Happened asker said.text.items state out
  settled-stands None out told marks ready step stands = (stands, marks, ready, step)
  settled-stands (Some state) out told marks ready step stands = (
    subst (λ (k : List ℕ). Stands hash accepted verified lines k start old Happened state.epoch state.memory [] out asker.changes.items (standing asker.client asker.monitors.items said.text.items)) (sym same)
        (subst (λ (t : List ℕ). Stands hash accepted verified lines key start old Happened state.epoch state.memory [] out asker.changes.items (standing asker.client asker.monitors.items t)) (sym (ap (λ (r : Report). r.lines) told)) stands),
    marks,
    ready,
    step,
  )

  ok-not : (asked : Result (Unit {0}) AskFault) → asked ≡ Ok tt → asked ≢ Err NoMemory
  ok-not asked is none = was_asked asked tt is none

  pub settled-run : {A : Type 0} (result : Result A RunFault) (asked : Result (Unit {0}) AskFault) (state : Option State) (out : Option (List ℕ)) → OnOk result (asked ≡ Ok tt) → OnOk result (report_of said ≡ emptied status) → start.known.marks ≡ asker.marks.items
      → (asked ≢ Err NoMemory → IsReady verified lines start.known asker) → OnOk result (IsInStep state asker) → OnOk result (asked ≢ Err NoMemory → StateStands hash accepted verified lines key start old Happened state out asker.changes.items (standing asker.client asker.monitors.items []))
      → OnOk result (RunStands hash accepted verified lines start old Happened asker said.text.items state out)
  settled-run (Ok done) asked state out is told marks ready step stands = settled-stands state out told marks (ready (ok-not asked is)) step (stands (ok-not asked is))
  settled-run (Err fault) asked state out is told marks ready step stands = tt

-- what came of a whole question, and what was kept of it
pub ok_step : {A P Q R : Type 0} (result : Result A RunFault) (asked : Result (Unit {0}) AskFault) → OnOk result (asked ≡ Ok tt) → OnOk asked P → (IsSettled result → Q) → (P → Q → R) → OnOk result R
ok_step {A} {P} {Q} {R} (Ok done) asked is whole keeps leads = leads (subst (λ (r : Result (Unit {0}) AskFault). OnOk r P) is whole) (keeps tt)
ok_step {A} {P} {Q} {R} (Err fault) asked is whole keeps leads = tt

-- what stays of what asks, stays of its background
pub same_background : {H V S : Type 0} (before after : Asker H V S) → after.key ≡ before.key → after.token ≡ before.token → after.marks ≡ before.marks → after.earlier ≡ before.earlier → after.known ≡ before.known → background_of after ≡ background_of before
same_background before after key token marks earlier known =
    ap (λ (k : List ℕ). let b : Background = record { key = k; token = after.token; marks = after.marks.items; earlier = after.earlier.items; known = after.known } in b) key
    ∙ ap (λ (t : List ℕ). let b : Background = record { key = before.key; token = t; marks = after.marks.items; earlier = after.earlier.items; known = after.known } in b) token
    ∙ ap (λ (ms : Vec Mark Global). let b : Background = record { key = before.key; token = before.token; marks = ms.items; earlier = after.earlier.items; known = after.known } in b) marks
    ∙ ap (λ (es : Vec SignedPromise Global). let b : Background = record { key = before.key; token = before.token; marks = before.marks.items; earlier = es.items; known = after.known } in b) earlier
    ∙ ap (λ (m : Memory). let b : Background = record { key = before.key; token = before.token; marks = before.marks.items; earlier = before.earlier.items; known = m } in b) known

-- what is made of an answer, whatever it is
pub answered_enough : (advanced : Result Bool AskFault) (asked : Result (Unit {0}) AskFault) → IfErr advanced (λ fault. asked ≡ Err fault) → asked ≢ Err NoMemory → advanced ≢ Err NoMemory
answered_enough (Ok goes) asked fails enough same = search (rules, same)
answered_enough (Err NoReply) asked fails enough same = search (rules, same)
answered_enough (Err Stopped) asked fails enough same = search (rules, same)
answered_enough (Err NoMemory) asked fails enough same = enough fails

pub went_on : (P : Bool → Type 0) (advanced : Result Bool AskFault) (asked : Result (Unit {0}) AskFault) → IfErr advanced (λ fault. asked ≡ Err fault) → asked ≡ Ok tt → advanced ≢ Ok false → IfOk advanced P → P true
went_on P (Ok true) asked fails ok goes holds = holds
went_on P (Ok false) asked fails ok goes holds = absurd (goes refl)
went_on P (Err fault) asked fails ok goes holds = search (rules, sym fails ∙ ok)

pub has_stopped : (advanced : Result Bool AskFault) (asked : Result (Unit {0}) AskFault) → OnOk advanced (asked ≡ Ok tt) → IfErr advanced (λ fault. asked ≡ Err fault) → asked ≡ Err Stopped → advanced ≡ Err Stopped
has_stopped (Ok goes) asked ok fails is = search (rules, sym ok ∙ is)
has_stopped (Err fault) asked ok fails is = search (rules, sym fails ∙ is)

pub told-so : {A E : Type 0} (result : Result A E) (old new : Option (List ℕ)) (text : List ℕ) (said : Said) (status : ℕ) → OnOk result (Appends old new text × (report_of said ≡ emptied status)) → OnOk result (report_of said ≡ emptied status)
told-so (Ok done) old new text said status both = both.1
told-so (Err fault) old new text said status both = tt

pub ok_have : {A E P : Type 0} (result : Result A E) {done : A} → result ≡ Ok done → OnOk result P → P
ok_have {A} {E} {P} result was holds = subst (λ (r : Result A E). OnOk r P) was holds

-- what holds where this is known to be Ok
pub ok_known : {A E P Q : Type 0} (result : Result A E) → OnOk result P → ((done : A) → result ≡ Ok done → P → Q) → OnOk result Q
ok_known (Ok done) holds leads = leads done refl holds
ok_known (Err why) holds leads = tt
