-- A line that was asked.
use Rattle.std.proofs.Common.{◌≡◌, ◌≢◌, ◌∙◌, ◌⊎◌, ◌-◌, ◌<◌, ◌≤◌, ◌++◌, ◌∷◌, [], ℕ, zero, suc, Bool, true, nat_lt, if◌then◌else◌, List, Some, Result, Ok, Err, Global, Vec, ap, arith, inl, inr, length, refl, subst, sym}
use Rattle.std.specs.Prelude.{slice_get, OnErr, OnOk}
use Rattle.std.proofs.lemmas.Bool.Decides.{nat_tests}
use Rattle.std.proofs.lemmas.Option.{slice_get_cases}
use Rattle.commands.specs.declared.edit.Verb.{Verb}
use Rattle.rootchain.specs.Chains.{IsHead}
use Rattle.rootchain.specs.declared.signed_promise.SignedPromise.{SignedPromise}
use Rattle.rootchain.specs.declared.signed_root.SignedRoot.{SignedRoot}
use Rattle.client.specs.Clients.{Client}
use Rattle.monitor.specs.Monitors.{Monitor}
use Rattle.wire.specs.Frames.{Frame}
use Rattle.commands.specs.Operations.{AskedKey, Head}
use Rattle.wire.specs.Requests.{RequestContent, Put, Query, Turn}
use Rattle.play.specs.Scripts.{with_token}
use Rattle.asking.specs.declared.asker.Asker.{Asker}
use Rattle.memory.specs.declared.mark.Mark.{Mark}
use Rattle.asking.specs.declared.said.Said.{Said}
use Rattle.asking.specs.Asking.{GetsReply, GoesOnAbove, Hands, HandsAll, HearsReply, IsChange, Notes, SpeaksOf}
use Rattle.asking.specs.Checking.{HearsFrame}
use Rattle.asking.specs.Exchanges.{HoldsFrame}
use Rattle.asking.specs.FinalBindings.{Finals, NotesHeard}
use Rattle.asking.specs.Scenes.{scene, Scene}
use Rattle.asking.specs.Reports.{Report, Tells, report_of, silent, told_after, unless_fine}
use Rattle.asking.proofs.Going.{told_onto}
use Rattle.asking.proofs.Handed.{hands_none, told_alone, told_silent}

-- a list that is not empty has a last element
last-of : {X : Type 0} (xs : List X) → 0 < length xs → (x : X) × (slice_get xs (length xs - 1) ≡ Some x)
last-of xs some = elim (slice_get_cases xs (length xs - 1)).1 [ inl found ↦ (found.0, found.2) | inr out ↦ absurd (omega (arith, some, out.0)) ]

-- a change is asked for
abbrev pub IsPut : RequestContent → Type 0
IsPut asked = (verb : Verb) × (name : List ℕ) × (key : AskedKey) × (asked ≡ Put verb name key)

pub is_put : (asked : RequestContent) → IsChange asked → IsPut asked
is_put (Put verb name key) change = (verb, name, key, refl)
is_put (Query query) change = absurd change
is_put (Turn token epoch _) change = absurd change

-- the last promise was noted, and it is one that was kept
pub notes_kept : {A E : Type 0} (result : Result A E) (asked : RequestContent) (before kept after noted noted' : List SignedPromise) → IsPut asked → length before < length kept → after ≡ kept
    → OnOk result ((signed : SignedPromise) → slice_get kept (length kept - 1) ≡ Some signed → noted' ≡ noted ++ signed ∷ []) → OnOk result (Notes asked before after noted noted')
notes_kept (Ok done) asked before kept after noted noted' (verb, name, key, put) more same notes =
    let last = last-of kept (omega (arith, more)) in
    let of_last : Notes (Put verb name key) before kept noted noted' = inr (more, (last.0, last.1, notes last.0 last.1)) in
    let of_all = subst (λ (all : List SignedPromise). Notes (Put verb name key) before all noted noted') (sym same) of_last in
    subst (λ (r : RequestContent). Notes r before after noted noted') (sym put) of_all
notes_kept (Err fault) asked before kept after noted noted' put more same notes = tt

-- nothing was kept for a change of the client's own, so nothing is noted
pub notes_none : (asked : RequestContent) (before after noted noted' : List SignedPromise) → (¬ IsChange asked) ⊎ (length after ≤ length before) → noted' ≡ noted → Notes asked before after noted noted'
notes_none (Put verb name key) before after noted noted' (inl other) same = absurd (other tt)
notes_none (Put verb name key) before after noted noted' (inr few) same = inl (few, same)
notes_none (Query query) before after noted noted' none same = same
notes_none (Turn token epoch _) before after noted noted' none same = same

-- what was noted, where the lists stay before and after
pub notes_as : (asked : RequestContent) (before after : List SignedPromise) (first noted noted' last : Vec SignedPromise Global) → noted ≡ first → last ≡ noted'
    → Notes asked before after noted.items noted'.items → Notes asked before after first.items last.items
notes_as asked before after first noted noted' last old new notes =
    let from = subst (λ (all : Vec SignedPromise Global). Notes asked before after all.items noted'.items) old notes in
    subst (λ (all : Vec SignedPromise Global). Notes asked before after first.items all.items) (sym new) from

-- bytes hold one frame
abbrev first-of : {A B E : Type 0} → A → Result (A × B) E → A
first-of other (Ok (one, rest)) = one
first-of other (Err why) = other

pub same_frame : (bytes : List ℕ) (one other : Frame) → HoldsFrame bytes one → HoldsFrame bytes other → one ≡ other
same_frame bytes one other (left, is) (left', is') = ap (λ r. first-of one r) (sym is ∙ is')

some_status : (status : ℕ) → status ≢ 0 → nat_lt 0 status ≡ true
some_status zero not = absurd (not refl)
some_status (suc n) not = grind (arith, nat_tests)

-- what is refused is told
unless_refused : (told : Report) → told.status ≢ 0 → unless_fine told ≡ told
unless_refused told not = ap (λ (b : Bool). if b then told else silent) (some_status told.status not)

module _ (hash : List ℕ → List ℕ) (accepted verified : List ℕ → List ℕ → List ℕ → Type 0) where
  -- a promise for a change was kept and handed out, and what the monitors refuse was told behind it
  pub hands_kept : {A E : Type 0} (result : Result A E) (held : ℕ) (asked : RequestContent) (frame : Frame) (client after : Client) (kept : List SignedPromise) (given back : List Monitor) (told shown : Report) (finals finals' : Finals) (said middle said' : Said)
      → IsPut asked → length client.promises < length kept → after.promises ≡ kept → HearsFrame hash accepted verified held client asked frame told after
      → NotesHeard hash accepted after asked frame told.status finals shown finals' → Tells said (told_after told shown) middle
      → OnOk result ((signed : SignedPromise) → slice_get kept (length kept - 1) ≡ Some signed → (handed : Report) × HandsAll hash accepted verified signed frame.body given silent handed back × Tells middle handed said')
      → OnOk result ((told : Report) × (shown : Report) × (handed : Report) × HearsFrame hash accepted verified held client asked frame told after
      × NotesHeard hash accepted after asked frame told.status finals shown finals'
      × Hands hash accepted verified asked frame.body client.promises after.promises given handed back × (report_of said' ≡ told_after (told_after (report_of said) (told_after told shown)) handed))
  hands_kept (Ok done) held asked frame client after kept given back told shown finals finals' said middle said' (verb, name, key, put) more same hears noted tells hands =
      let last = last-of kept (omega (arith, more)) in
      let (handed, all, tells') = hands last.0 last.1 in
      let of_last : Hands hash accepted verified (Put verb name key) frame.body client.promises kept given handed back = inr (more, (last.0, last.1, all)) in
      let of_all = subst (λ (promises : List SignedPromise). Hands hash accepted verified (Put verb name key) frame.body client.promises promises given handed back) (sym same) of_last in (
        told,
        shown,
        handed,
        hears,
        noted,
        subst (λ (r : RequestContent). Hands hash accepted verified r frame.body client.promises after.promises given handed back) (sym put) of_all,
        told_onto middle said' handed tells' ∙ ap (λ (r : Report). told_after r handed) (told_onto said middle (told_after told shown) tells),
      )
  hands_kept (Err fault) held asked frame client after kept given back told shown finals finals' said middle said' put more same hears noted tells hands = tt

  -- memory ran out before it was handed out
  pub heard_untold : {A E : Type 0} (P : Type 0) (result : Result A E) (held : ℕ) (asked : RequestContent) (frame : Frame) (client after last : Client) (told shown : Report) (finals finals' : Finals) (said middle said' : Said)
      → HearsFrame hash accepted verified held client asked frame told after → NotesHeard hash accepted after asked frame told.status finals shown finals' → last ≡ after → Tells said (told_after told shown) middle → OnErr result (report_of said' ≡ report_of middle)
      → OnErr result (P ⊎ ((x : Report) × (y : Report) × HearsFrame hash accepted verified held client asked frame x last × NotesHeard hash accepted last asked frame x.status finals y finals' × (report_of said' ≡ told_after (report_of said) (told_after x y))))
  heard_untold P (Ok done) held asked frame client after last told shown finals finals' said middle said' hears noted same tells untold = tt
  heard_untold P (Err why) held asked frame client after last told shown finals finals' said middle said' hears noted same tells untold =
      inr (
        told,
        shown,
        subst (λ (c : Client). HearsFrame hash accepted verified held client asked frame told c) (sym same) hears,
        subst (λ (c : Client). NotesHeard hash accepted c asked frame told.status finals shown finals') (sym same) noted,
        untold ∙ told_onto said middle (told_after told shown) tells,
      )

  -- none was handed out
  pub heard_only : (held : ℕ) (asked : RequestContent) (frame : Frame) (client after : Client) (monitors : List Monitor) (told shown : Report) (finals finals' : Finals) (said said' : Said)
      → (¬ IsChange asked) ⊎ (length after.promises ≤ length client.promises) → HearsFrame hash accepted verified held client asked frame told after
      → NotesHeard hash accepted after asked frame told.status finals shown finals' → Tells said (told_after told shown) said'
      → (told : Report) × (shown : Report) × (handed : Report) × HearsFrame hash accepted verified held client asked frame told after
      × NotesHeard hash accepted after asked frame told.status finals shown finals'
      × Hands hash accepted verified asked frame.body client.promises after.promises monitors handed monitors × (report_of said' ≡ told_after (told_after (report_of said) (told_after told shown)) handed)
  heard_only held asked frame client after monitors told shown finals finals' said said' none hears noted tells = (
    told,
    shown,
    silent,
    hears,
    noted,
    hands_none hash accepted verified asked frame.body client.promises after.promises monitors none,
    told_onto said said' (told_after told shown) tells ∙ sym (told_silent (told_after (report_of said) (told_after told shown))),
  )

  -- a frame came back for what was asked when the chain had a head of an epoch
  abbrev pub reply_to : {T : Type 0} (exchanged : T → RequestContent → Frame → T → Type 0) (token : List ℕ) (asked : RequestContent) (before : Scene T) (sent : T) (frame : Frame) (head : SignedRoot) (low epoch : ℕ)
      → IsHead before.client.chain head → low ≡ head.body.epoch → exchanged before.stream (with_token token asked) frame sent → SpeaksOf low asked frame epoch → GetsReply exchanged token asked before
  reply_to exchanged token asked before sent frame head low epoch is at exchange speaks = record {
    head = head;
    is = is;
    frame = frame;
    stream = sent;
    exchange = exchange;
    epoch = epoch;
    speaks = subst (λ (n : ℕ). SpeaksOf n asked frame epoch) at speaks;
  }

  -- a reply was heard, step by step
  pub hears_all : {A E H V S T : Type 0} (exchanged : T → RequestContent → Frame → T → Type 0) (result : Result A E) (first heard last : Asker H V S) (said told_to said' : Said) (stream end : T) (asked : RequestContent) (frame : Frame) (held : ℕ) (told shown handed : Report)
      → HearsFrame hash accepted verified held first.client asked frame told heard.client
      → NotesHeard hash accepted heard.client asked frame told.status first.finals shown heard.finals
      → Hands hash accepted verified asked frame.body first.client.promises heard.client.promises first.monitors.items handed heard.monitors.items
      → report_of told_to ≡ told_after (told_after (report_of said) (told_after told shown)) handed
      → Notes asked first.client.promises heard.client.promises first.changes.items last.changes.items → heard.marks ≡ first.marks
      → OnOk result (GoesOnAbove hash accepted verified exchanged heard.marks.items held (scene heard told_to stream) (scene last said' end))
      → OnOk result (HearsReply hash accepted verified exchanged first.marks.items held asked frame first.changes.items last.changes.items (scene first said stream) (scene last said' end))
  hears_all exchanged (Ok done) first heard last said told_to said' stream end asked frame held told shown handed hears noted hands tells notes marks goes = record {
    heard = scene heard told_to stream;
    hears = record { told = told; hears = hears; shown = shown; notes = noted; handed = handed; hands = hands; tells = tells; stream = refl };
    notes = notes;
    goes = subst (λ (m : Vec Mark Global). GoesOnAbove hash accepted verified exchanged m.items held (scene heard told_to stream) (scene last said' end)) marks goes;
  }
  hears_all exchanged (Err fault) first heard last said told_to said' stream end asked frame held told shown handed hears noted hands tells notes marks goes = tt

  -- the latest root was refused, which is told
  pub finds_refused : {A E : Type 0} (result : Result A E) (held : ℕ) (client after : Client) (frame : Frame) (told : Report) (empty now said said' : Said) → report_of empty ≡ silent → now.status ≢ 0
      → HearsFrame hash accepted verified held client (Query Head) frame told after → Tells empty told now → OnOk result (Tells said (report_of now) said')
      → OnOk result ((x : Report) × HearsFrame hash accepted verified held client (Query Head) frame x after × (report_of said' ≡ told_after (report_of said) (unless_fine x)))
  finds_refused (Ok done) held client after frame told empty now said said' none not hears tells joined =
      let same : report_of now ≡ told = told_onto empty now told tells ∙ ap (λ (r : Report). told_after r told) none ∙ told_alone told in
      let bad : told.status ≢ 0 = λ fine. not (ap (λ (r : Report). r.status) same ∙ fine) in
      (told, hears, told_onto said said' (report_of now) joined ∙ ap (λ (r : Report). told_after (report_of said) r) (same ∙ sym (unless_refused told bad)))
  finds_refused (Err why) held client after frame told empty now said said' none not hears tells joined = tt
