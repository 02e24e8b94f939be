-- The client stays with its provider, and each promise that is noted is one that the provider signed for a change that was
-- asked for.
use Rattle.std.proofs.Common.{◌≡◌, ◌∙◌, ◌⊎◌, ◌-◌, ◌<◌, ◌≤◌, ℕ, List, [], ◌∷◌, ◌++◌, length, Some, Result, Ok, Err, ap, ap₂, arith, inl, inr, refl, subst, sym}
use Rattle.std.proofs.lemmas.List.{get_or_push, length_push}
use Rattle.std.proofs.lemmas.Option.{get_or_from_slice_get}
use Rattle.std.specs.Prelude.{slice_get, ⊤}
use Rattle.commands.specs.Operations.{asked_key, AskedKey, Lookup}
use Rattle.commands.specs.declared.edit.Verb.{Verb}
use Rattle.rootchain.specs.Promises.{SpellsPromise}
use Rattle.rootchain.specs.declared.signed_promise.SignedPromise.{SignedPromise}
use Rattle.client.specs.Clients.{Client, HasRootOf}
use Rattle.client.specs.Promising.{KeepsPromise}
use Rattle.client.specs.declared.client_refusal.Refusal.{Refusal}
use Rattle.monitor.specs.Monitors.{Monitor}
use Rattle.wire.specs.Frames.{Frame}
use Rattle.wire.specs.Requests.{RequestContent, Put, Query, Turn}
use Rattle.wire.specs.Responses.{ResponseContent, Promise, Proof, Refused, Responds, Root, Roots}
use Rattle.play.specs.Scripts.{ScriptLine, Ask}
use Rattle.play.proofs.Calling.{one-promise}
use Rattle.memory.specs.declared.mark.Mark.{Mark}
use Rattle.asking.specs.declared.ask_fault.AskFault.{AskFault}
use Rattle.asking.specs.Answering.{IsAnswerAt}
use Rattle.asking.specs.Asking.{response_epoch, HearsSome, Notes, SpeaksOf}
use Rattle.asking.specs.Checking.{HearsFrame, HearsResponse}
use Rattle.runs.specs.Ending.{DoesSomeNoting, LooksSome, PreparesSome}
use Rattle.asking.specs.Following.{asks_roots, StopsFollowing}
use Rattle.asking.specs.Reports.{Report}
use Rattle.runs.specs.Runs.{Background}
use Rattle.runs.specs.Saves.{IsSignedBy}
use Rattle.asking.specs.Scenes.{Scene}
use Rattle.runs.proofs.EveryStep.{advances-keep, advances_some-keeps, does_some-keeps, hears_some-keeps, looks_some-keeps, prepares_some-keeps, reply-keeps, EachKeeps}
use Rattle.runs.proofs.Standing.{AdvancesAny, HearsAny}
use Rattle.asking.proofs.Heard.{keeps_same}
use Rattle.runs.proofs.Ran.{updated_key}
use Rattle.runs.proofs.SameChain.{frame-chain, shown-chain, step-chain}

-- the last of a list that has one more
last-is : {A : Type 0} (xs : List A) (x last : A) → slice_get (xs ++ x ∷ []) (length (xs ++ x ∷ []) - 1) ≡ Some last → x ≡ last
last-is xs x last at =
    let long = length_push xs x in
    let place : length (xs ++ x ∷ []) - 1 ≡ length xs = omega (arith, long) in
    sym (get_or_push xs x x (length xs) refl) ∙ get_or_from_slice_get (xs ++ x ∷ []) (length xs) last x (subst (λ k. slice_get (xs ++ x ∷ []) k ≡ Some last) place at)

-- what was noted stays, or one promise more is noted, which is so, and which the provider signed under this key for a change
-- that is said
abbrev pub NotesOwn : (List ℕ → List ℕ → List ℕ → Type 0) → List ℕ → (SignedPromise → Type 0) → ScriptLine → List SignedPromise → List SignedPromise → Type 0
NotesOwn verified key Is said noted noted' = (noted' ≡ noted)
    ⊎ ((signed : SignedPromise) × IsSignedBy verified key signed × Is signed × ((verb : Verb) × (said ≡ Ask (Put verb signed.promise.name (asked_key signed.promise.key)))) × (noted' ≡ noted ++ signed ∷ []))

-- the promise is over a root that is not below the head when it was asked for, nor below the epoch of which the frame speaks
abbrev pub IsLate : ℕ → RequestContent → Frame → SignedPromise → Type 0
IsLate held asked frame signed = (held ≤ signed.promise.epoch) × ((epoch : ℕ) → SpeaksOf held asked frame epoch → epoch ≤ signed.promise.epoch)

module _ (hash : List ℕ → List ℕ) (accepted verified : List ℕ → List ℕ → List ℕ → Type 0) where
  -- a change of a name to a key is asked for
  module _ (held : ℕ) (before after : Client) (told : Report) (verb : Verb) (name : List ℕ) (key : AskedKey) where
    -- the client has the promises that it had, or one more, which is signed for this, over a root of its chain, and is late
    abbrev HasPromised : Frame → Type 0
    HasPromised frame = (after.promises ≡ before.promises)
        ⊎ ((signed : SignedPromise) × IsSignedBy verified before.chain.key signed × (signed.promise.name ≡ name) × (asked_key signed.promise.key ≡ key) × SpellsPromise frame.body signed
        × (IsLate held (Put verb name key) frame signed × HasRootOf hash before.chain signed.promise) × (after.promises ≡ before.promises ++ signed ∷ []))

    stays : (frame : Frame) → after ≡ before → HasPromised frame
    stays frame same = inl (ap (λ (c : Client). c.promises) same)

    keeps-promised : (frame : Frame) (given : SignedPromise) → SpellsPromise frame.body given → (given.promise.name ≡ name) × (asked_key given.promise.key ≡ key) → IsLate held (Put verb name key) frame given → (answer : Result (Unit {0}) Refusal)
        → KeepsPromise hash verified before frame.body answer after → HasPromised frame
    keeps-promised frame given spelled (named, keyed) late (Ok done) (signed, ((spells, verifies), rooted), same) =
        let one : signed ≡ given = one-promise frame.body signed given spells spelled in
        inr (signed, (spells.1, verifies), ap (λ (s : SignedPromise). s.promise.name) one ∙ named, ap (λ (s : SignedPromise). asked_key s.promise.key) one ∙ keyed, spells, (subst (IsLate held (Put verb name key) frame) (sym one) late, rooted), ap (λ (c : Client). c.promises) same)
    keeps-promised frame given spelled answers late (Err why) keeps = stays frame (keeps_same hash verified before after frame.body why keeps)

    -- a frame that is a promise speaks of no later epoch
    speaks-low : (frame : Frame) (signed : SignedPromise) → Responds frame.kind frame.body (Promise signed) → (epoch : ℕ) → SpeaksOf held (Put verb name key) frame epoch → epoch ≤ signed.promise.epoch
    speaks-low frame signed is epoch (inl (responded, responds, inl (answers, same))) = by responded responds answers same
      where
        by : (responded : ResponseContent) → Responds frame.kind frame.body responded → IsAnswerAt held (Put verb name key) responded → epoch ≡ response_epoch responded → epoch ≤ signed.promise.epoch
        by (Promise other) (kind, spells) answers' same' =
            let one : other ≡ signed = one-promise frame.body other signed spells is.1 in
            omega (arith, same', ap (λ (s : SignedPromise). s.promise.epoch) one)
        by (Proof reply) responds' answers' same' = absurd answers'.0
        by (Roots roots) responds' answers' same' = absurd answers'.0
        by (Root latest) responds' answers' same' = absurd answers'.0
        by (Refused code) responds' answers' same' = omega (arith, same')
    speaks-low frame signed is epoch (inl (responded, responds, inr (not, none))) = omega (arith, none)
    speaks-low frame signed is epoch (inr (unread, none)) = omega (arith, none)

    hears-promised : (frame : Frame) (responded : ResponseContent) → Responds frame.kind frame.body responded → HearsResponse hash accepted verified held before frame.body (Put verb name key) responded told after → HasPromised frame
    hears-promised frame (Refused code) is (tells, same) = stays frame same
    hears-promised frame (Promise signed) is (inl (not, tells, same)) = stays frame same
    hears-promised frame (Promise signed) is (inr ((answers, timely), (answer, (keeps, tellable), tells))) = keeps-promised frame signed is.1 answers (timely, speaks-low frame signed is) answer keeps
    hears-promised frame (Proof reply) is (inl (not, tells, same)) = stays frame same
    hears-promised frame (Proof reply) is (inr (answers, checked)) = absurd answers.0
    hears-promised frame (Roots roots) is (inl (not, tells, same)) = stays frame same
    hears-promised frame (Roots roots) is (inr (answers, checked)) = absurd answers.0
    hears-promised frame (Root latest) is (inl (not, tells, same)) = stays frame same
    hears-promised frame (Root latest) is (inr (answers, checked)) = absurd answers.0

    frame-promised : (frame : Frame) → HearsFrame hash accepted verified held before (Put verb name key) frame told after → HasPromised frame
    frame-promised frame (inl (responded, responds, hears)) = hears-promised frame responded responds hears
    frame-promised frame (inr (why, reads, tells, same)) = stays frame same

  -- what is noted behind a frame
  noted-own : (held : ℕ) (asked : RequestContent) (frame : Frame) (told : Report) (before after : Client) (noted noted' : List SignedPromise) → HearsFrame hash accepted verified held before asked frame told after
      → Notes asked before.promises after.promises noted noted' → NotesOwn verified before.chain.key (IsLate held asked frame) (Ask asked) noted noted'
  noted-own held (Query query) frame told before after noted noted' hears same = inl same
  noted-own held (Turn token epoch _) frame told before after noted noted' hears same = inl same
  noted-own held (Put verb name key) frame told before after noted noted' hears (inl (few, same)) = inl same
  noted-own held (Put verb name key) frame told before after noted noted' hears (inr (more, (last, at, is))) = elim (frame-promised held before after told verb name key frame hears) [
    | inl same ↦ absurd (omega (arith, ap (λ (ps : List SignedPromise). length ps) same, more))
    | inr (signed, own, named, keyed, spelled, (late, rooted), grown) ↦
        let one : signed ≡ last = last-is before.promises signed last (subst (λ (ps : List SignedPromise). slice_get ps (length ps - 1) ≡ Some last) grown at) in
        inr (signed, own, late, (verb, ap₂ (λ (n : List ℕ) (k : AskedKey). Ask (Put verb n k)) (sym named) (sym keyed)), is ∙ ap (λ (s : SignedPromise). noted ++ s ∷ []) (sym one))
  ]

  -- a promise that the client has now as its last is spelled by the frame
  pub last-spelled : (held : ℕ) (verb : Verb) (name : List ℕ) (key : AskedKey) (frame : Frame) (told : Report) (before after : Client) (last : SignedPromise) → HearsFrame hash accepted verified held before (Put verb name key) frame told after
      → length before.promises < length after.promises → slice_get after.promises (length after.promises - 1) ≡ Some last → SpellsPromise frame.body last
  last-spelled held verb name key frame told before after last hears more at = elim (frame-promised held before after told verb name key frame hears) [
    | inl same ↦ absurd (omega (arith, ap (λ (ps : List SignedPromise). length ps) same, more))
    | inr (signed, own, named, keyed, spelled, (late, rooted), grown) ↦
        subst (SpellsPromise frame.body) (last-is before.promises signed last (subst (λ (ps : List SignedPromise). slice_get ps (length ps - 1) ≡ Some last) grown at)) spelled
  ]

  -- and is over a root of the chain, and late
  pub last-rooted : (held : ℕ) (verb : Verb) (name : List ℕ) (key : AskedKey) (frame : Frame) (told : Report) (before after : Client) (last : SignedPromise) → HearsFrame hash accepted verified held before (Put verb name key) frame told after
      → length before.promises < length after.promises → slice_get after.promises (length after.promises - 1) ≡ Some last → IsLate held (Put verb name key) frame last × HasRootOf hash before.chain last.promise
  last-rooted held verb name key frame told before after last hears more at = elim (frame-promised held before after told verb name key frame hears) [
    | inl same ↦ absurd (omega (arith, ap (λ (ps : List SignedPromise). length ps) same, more))
    | inr (signed, own, named, keyed, spelled, both, grown) ↦ subst (λ (s : SignedPromise). IsLate held (Put verb name key) frame s × HasRootOf hash before.chain s.promise)
        (last-is before.promises signed last (subst (λ (ps : List SignedPromise). slice_get ps (length ps - 1) ≡ Some last) grown at)) both
  ]

  stopped-key : (asked : RequestContent) (client : Client) (before : List Monitor) (frame : Frame) (told : Report) (client' : Client) (after : List Monitor)
      → StopsFollowing hash verified asked client before frame told client' after → client'.chain.key ≡ client.chain.key
  stopped-key asked client before frame told client' after (inl (missed, same, others)) = ap (λ (c : Client). c.chain.key) same
  stopped-key asked client before frame told client' after (inr (answers, inl (why, inl (refuses, same, others), tells))) = ap (λ (c : Client). c.chain.key) same
  stopped-key asked client before frame told client' after (inr (answers, inl (why, inr (updates, refuses), tells))) = updated_key hash verified client client' frame.body updates
  stopped-key asked client before frame told client' after (inr (answers, inr ((some, (updates, monitors), none), tells))) = updated_key hash verified client client' frame.body updates

  -- ---- scenes

  module _ {T : Type 0} (exchanged : T → RequestContent → Frame → T → Type 0) where
    abbrev pub SameKey : Scene T → Scene T → Type 0
    SameKey before after = after.client.chain.key ≡ before.client.chain.key

    heard-key : (before after : Scene T) (held : ℕ) (asked : RequestContent) (frame : Frame) (told : Report) → HearsFrame hash accepted verified held before.client asked frame told after.client → SameKey before after
    heard-key before after held asked frame told hears = ap (λ (c : _). c.key) (frame-chain hash accepted verified held before.client after.client asked frame told hears)

    each-key : (marks : List Mark) → EachKeeps hash accepted verified exchanged marks (λ noted. ⊤) (λ key promised name given. ⊤) ⊤ SameKey
    each-key marks = record {
      none = λ before. refl;
      both = λ before middle after one other. other ∙ one;
      sends = λ before stream. refl;
      tells = λ before told. refl;
      takes = λ before after (frame, asks, (updates, monitors), same, above, finals). updated_key hash verified before.client after.client frame.body updates;
      stops = λ before after may (head, is, frame, exchange, told, stops, tells, finals). stopped-key (asks_roots head) before.client before.monitors frame told after.client after.monitors stops;
      tests = λ before name kept after asks. ap (λ (c : _). c.key) (shown-chain hash accepted verified before.client name (Query (Lookup name asks.epoch)) asks.frame kept asks.told after.client asks.shows);
      steps = λ before place went after asks. ap (λ (c : _). c.key) (step-chain hash accepted verified before.client asks.monitor.name asks.epoch (Query (Lookup asks.monitor.name asks.epoch)) asks.frame asks.told asks.found after.client asks.client);
      joins = λ before key promised name given first monitor may is joined. refl;
      hears = λ before after held asked frame heard told hears tells monitors. heard-key before after held asked frame heard hears;
      hands = λ before after held asked frame noted noted' hears notes may. heard-key before after held asked frame hears.told hears.hears;
    }

    pub prepares_some_key : (background : Background) (HasNoState : Type 0) (before after : Scene T) → PreparesSome hash accepted verified exchanged background HasNoState before after → SameKey before after
    prepares_some_key background HasNoState before after prepares = prepares_some-keeps hash accepted verified exchanged background (each-key background.marks) HasNoState tt before after prepares

    pub advanced_key : (background : Background) (epoch : ℕ) (before after : Scene T) → AdvancesAny hash accepted verified exchanged background epoch before after → SameKey before after
    advanced_key background epoch before after (inl (goes, advances)) = advances-keep hash accepted verified exchanged background.marks (each-key background.marks) epoch before goes after advances
    advanced_key background epoch before after (inr (inl stops)) = (each-key background.marks).stops before after tt stops
    advanced_key background epoch before after (inr (inr some)) = advances_some-keeps hash accepted verified exchanged background.marks (each-key background.marks) epoch before after some

    pub looks_key : (background : Background) (held : ℕ) (frame : Frame) (before after : Scene T) → LooksSome hash accepted verified exchanged background held frame before after → SameKey before after
    looks_key background held frame before after looks = looks_some-keeps hash accepted verified exchanged background (each-key background.marks) held frame before after looks

    pub hears_key : (fault : AskFault) (background : Background) (held : ℕ) (asked : RequestContent) (frame : Frame) (noted noted' : List SignedPromise) (before after : Scene T) → HearsAny hash accepted verified exchanged background fault held asked frame noted noted' before after
        → SameKey before after
    hears_key fault background held asked frame noted noted' before after (inl hears) = reply-keeps hash accepted verified exchanged background.marks (each-key background.marks) held asked frame noted noted' before after tt hears
    hears_key fault background held asked frame noted noted' before after (inr some) = hears_some-keeps hash accepted verified exchanged background.marks (each-key background.marks) held asked frame noted noted' before after tt some

    pub some_key : (fault : AskFault) (background : Background) (said : ScriptLine) (noted noted' : List SignedPromise) (before after : Scene T) → DoesSomeNoting hash accepted verified exchanged background fault said noted noted' before after → SameKey before after
    some_key fault background said noted noted' before after does =
        does_some-keeps hash accepted verified exchanged background (each-key background.marks) fault tt said noted noted' before after tt (λ name given is. tt) does

    -- ---- what is noted of a reply

    hears_some-notes : (fault : AskFault) (marks : List Mark) (held : ℕ) (asked : RequestContent) (frame : Frame) (noted noted' : List SignedPromise) (before after : Scene T) → HearsSome hash accepted verified exchanged fault marks held asked frame noted noted' before after
        → NotesOwn verified before.client.chain.key (IsLate held asked frame) (Ask asked) noted noted'
    hears_some-notes fault marks held asked frame noted noted' before after (inl (none, same)) = inl none
    hears_some-notes fault marks held asked frame noted noted' before after (inr (inl (inl none, told, hears, tells, monitors, stream))) = inl none
    hears_some-notes fault marks held asked frame noted noted' before after (inr (inl (inr (out, notes), told, hears, tells, monitors, stream))) = noted-own held asked frame told before.client after.client noted noted' hears notes
    hears_some-notes fault marks held asked frame noted noted' before after (inr (inr (heard, hears, notes, goes))) = noted-own held asked frame hears.told before.client heard.client noted noted' hears.hears notes

    pub hears_notes : (fault : AskFault) (background : Background) (held : ℕ) (asked : RequestContent) (frame : Frame) (noted noted' : List SignedPromise) (before after : Scene T) → HearsAny hash accepted verified exchanged background fault held asked frame noted noted' before after
        → NotesOwn verified before.client.chain.key (IsLate held asked frame) (Ask asked) noted noted'
    hears_notes fault background held asked frame noted noted' before after (inl hears) = noted-own held asked frame hears.hears.told before.client hears.heard.client noted noted' hears.hears.hears hears.notes
    hears_notes fault background held asked frame noted noted' before after (inr some) = hears_some-notes fault background.marks held asked frame noted noted' before after some
