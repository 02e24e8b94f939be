-- How a run begins that has a state.
use Rattle.std.proofs.Common.{◌≡◌, ◌∙◌, ℕ, List, [], ◌∷◌, ◌++◌, length, Contains, Option, Some, None, Result, Ok, Err, ap, append-nil, arith, inl, inr, refl, subst, sym}
use Rattle.std.specs.Prelude.{IfErr, IfOk, OnErr}
use Rattle.std.specs.List.{AllByRecursion}
use Rattle.std.specs.List.Sorted.{IsNonDecreasingBy}
use Rattle.rootchain.specs.Chains.{IsChain, KeyedRoots}
use Rattle.rootchain.specs.SignedRoots.{IsSignedRoot}
use Rattle.rootchain.specs.declared.signed_promise.SignedPromise.{SignedPromise}
use Rattle.rootchain.specs.declared.signed_root.SignedRoot.{SignedRoot}
use Rattle.client.specs.Clients.{Client, HasRootOf, IsPromised, IsSoundClient}
use Rattle.client.specs.Starting.{Starts}
use Rattle.memory.specs.Memories.{nothing, Memory}
use Rattle.memory.specs.Texts.{HasWholeLines, Spells}
use Rattle.monitor.specs.Monitors.{Monitor}
use Rattle.runs.specs.Owning.{Owns}
use Rattle.runs.specs.Remembering.{AreWithin}
use Rattle.runs.specs.Runs.{background_of, new_background, Background, IsSoundFor, KeepsAll}
use Rattle.runs.specs.Saves.{noting, stored_nothing, Act, AreEarlier, Found, HasOneOfEachName, IsAsked, IsAskedChange, IsDropped, IsHeadEpoch, IsOwnPromise, Loads, WasOwn}
use Rattle.runs.specs.Standing.{standing, Fits, HasBegun, HasFailed, HasLoaded, HasNoChanges, IsCurrent, IsFresh, IsInStep, IsKept, IsLeft, IsReady, RunStands, Stands}
use Rattle.wire.specs.Frames.{Frame}
use Rattle.wire.specs.Requests.{RequestContent}
use Rattle.asking.specs.Scenes.{StartsAtHead}
use Rattle.asking.specs.declared.asker.Asker.{Asker}
use Rattle.runs.specs.declared.state.State.{State}
use Rattle.runs.proofs.Adding.{all-self}
use Rattle.runs.proofs.Ended.{err_so}
use Rattle.runs.proofs.KeptTold.{loads-kept}
use Rattle.runs.proofs.Noting.{noted-cases, was-more}
use Rattle.runs.proofs.OwnedRoots.{one-chain}
use Rattle.runs.proofs.OwnRoots.{some-same}
use Rattle.runs.proofs.Stood.{all-in}

pub state_begun : {A B E : Type 0} (result : Result (Result A B) E) (Before After : List Act → Type 0) (before after : State)
    → IfOk result (λ loaded. IfErr loaded (λ unused. (acts : List Act) → Before acts → After (Loads stored_nothing ∷ acts)))
    → IfOk result (λ loaded. IfErr loaded (λ unused. (after.memory ≡ before.memory) × (after.epoch ≡ before.epoch)))
    → IfOk result (λ loaded. IfErr loaded (λ unused. HasBegun Before After (Some before) (Some after)))
state_begun (Ok (Ok found)) Before After before after loads same = tt
state_begun (Ok (Err unused)) Before After before after loads same = (after, refl, loads, same.0, same.1)
state_begun (Err fault) Before After before after loads same = tt

pub state_failed : {A E : Type 0} (result : Result A E) (Before After : List Act → Type 0) (before after : State)
    → OnErr result (((acts : List Act) → Before acts → After acts) × (after.is_loaded ≡ before.is_loaded)) → OnErr result (HasFailed Before After (Some before) (Some after))
state_failed (Ok done) Before After before after fails = tt
state_failed (Err fault) Before After before after fails = (after, refl, fails.0, fails.1)

-- marks that are not above the head
within-fits : (chain : KeyedRoots) (known : Memory) (epoch : ℕ) → AreWithin chain known → IsHeadEpoch chain epoch → Fits epoch known
within-fits chain known epoch within (head, at, is) mark has =
    let (other, at', low) = within mark has in
    inr (omega (arith, low, is, ap (λ (root : SignedRoot). root.body.epoch) (some-same other head (sym at' ∙ at))))

none-fits : (epoch : ℕ) → Fits epoch nothing
none-fits epoch mark (place, within, at) = absurd (omega (arith, within))

-- what a client keeps is signed, and so the owner's own where it is remembered as that
kept-own : (hash : List ℕ → List ℕ) (accepted verified : List ℕ → List ℕ → List ℕ → Type 0) (client : Client) → IsSoundClient hash accepted verified client → (lines : Option (List (List ℕ))) (known : Memory) (promises : List SignedPromise)
    → KeepsAll client promises → AllByRecursion (WasOwn known) promises → AllByRecursion (IsOwnPromise verified client.chain.key lines known) promises
kept-own hash accepted verified client sound lines known [] keeps own = tt
kept-own hash accepted verified client sound lines known (signed ∷ promises) keeps own =
    let promised = all-in (IsPromised hash verified client.chain) client.promises signed sound.promises keeps.0 in
    (((promised.form, promised.verifies), inl own.0), kept-own hash accepted verified client sound lines known promises keeps.1 own.1)

-- and the chain has its root
kept-rooted : (hash : List ℕ → List ℕ) (accepted verified : List ℕ → List ℕ → List ℕ → Type 0) (client : Client) → IsSoundClient hash accepted verified client → (promises : List SignedPromise) → KeepsAll client promises
    → (signed : SignedPromise) → Contains promises signed → HasRootOf hash client.chain signed.promise
kept-rooted hash accepted verified client sound promises keeps signed has =
    (all-in (IsPromised hash verified client.chain) client.promises signed sound.promises (all-in (Contains client.promises) promises signed keeps has)).rooted

none-ascends : IsNonDecreasingBy (λ (signed : SignedPromise). signed.promise.epoch) []
none-ascends i j d low within = absurd (omega (arith, within))

-- nothing has no promise
none-own : (signed : SignedPromise) → WasOwn nothing signed → ⊥
none-own signed (promised, has, this, own) = omega (arith, has.1)

module _ (hash : List ℕ → List ℕ) (accepted verified : List ℕ → List ℕ → List ℕ → Type 0) (lines : Option (List (List ℕ))) (key : List ℕ) (old : List ℕ) where
  -- where this is loaded, all that it says was watched was watched before
  loads-all : (start : Found) (said : List ℕ) (Happened : List Act → Type 0) (epoch : ℕ) → Happened (Loads (record { roots = start.roots; text = said }) ∷ []) → HasWholeLines said → Spells said (Ok start.known) → Fits epoch start.known → HasOneOfEachName start.known
      → IsKept hash accepted verified lines key start old Happened epoch start.known [] (Some old)
  loads-all start said Happened epoch happened whole spells fits once = record {
    acts = Loads (record { roots = start.roots; text = said }) ∷ [];
    happened = happened;
    text = [];
    is-out = ap Some (sym (append-nil old));
    all = ((refl, spells), refl);
    saved = start.known;
    had = λ signed was. was;
    whole = whole;
    spells = spells;
    ahead = refl;
    now = loads-kept hash accepted (IsAsked lines) (IsOwnPromise verified key lines start.known) (IsAskedChange lines) (IsDropped None) start [] start.roots refl;
    next = loads-kept hash accepted (IsAsked lines) (IsOwnPromise verified key lines start.known) (IsAskedChange lines) (IsDropped None) start [] start.roots refl;
    early = λ mark has root among above below. among;
    low-start = fits;
    low = fits;
    low-next = fits;
    begun = once;
    once = once;
  }

  -- and a client without monitors stands so to it
  owns-all : (start : Found) (client : Client) (said : List ℕ) → IsChain hash verified client.chain → AllByRecursion IsSignedRoot client.chain.roots → AllByRecursion (Contains client.chain.roots) start.roots → AreWithin client.chain start.known
      → ((signed : SignedPromise) → WasOwn start.known signed → HasRootOf hash client.chain signed.promise)
      → Owns hash accepted verified (IsAsked lines) (IsOwnPromise verified key lines start.known) (noting start.known []) [] start.roots start.known.marks start.known.marks (standing client [] said)
  owns-all start client said chain formed stores within rooted = record {
    chain = chain;
    formed = formed;
    stores = stores;
    rooted = λ signed was. elim (noted-cases start.known [] signed was) [
      | inl old ↦ rooted signed old
      | inr new ↦ absurd (omega (arith, new.1))
    ];
    watched = tt;
    held = λ mark has. record {
      low = inr (within mark has);
      told = λ root among above below. inr (mark, has, refl, above, below);
      link = inl has;
    };
  }

  -- no change is noted yet, and there is no monitor
  begun-step : {H V S : Type 0} (asker : Asker H V S) (state : Option State) → HasNoChanges state → asker.changes.items ≡ [] → asker.monitors.items ≡ [] → IsInStep state asker
  begun-step asker None uncounted changes none = tt
  begun-step asker (Some state) uncounted changes none = (
    uncounted ∙ ap (λ (all : List SignedPromise). length all) (sym changes),
    subst (AllByRecursion (IsCurrent asker.key asker.client.chain)) (sym none) tt,
  )

  -- ---- a state that is loaded

  -- what is found where this asks with it
  abbrev found_by : {H V S : Type 0} → Asker H V S → Found
  found_by asker = record { roots = asker.client.chain.roots; known = asker.known }

  abbrev found_nothing : Found
  found_nothing = record { roots = []; known = nothing }

  module _ {H V S : Type 0} (asker : Asker H V S) (Before After : List Act → Type 0) (acts : List Act) (before : Before acts) where
    pub loaded-kept : (state : Option State) → HasLoaded Before After asker state → IsLeft hash accepted verified lines key old (λ done. After (done ++ acts)) state (Some old)
    loaded-kept None loaded = absurd loaded
    loaded-kept (Some state) ((text, whole, spells, goes), same, marks, none, within, once, at, own) = inr (
      found_by asker,
      [],
      subst (λ (known : Memory). IsKept hash accepted verified lines key (found_by asker) old (λ done. After (done ++ acts)) state.epoch known [] (Some old)) (sym same)
          (loads-all (found_by asker) text (λ done. After (done ++ acts)) state.epoch (goes acts before) whole spells (within-fits asker.client.chain asker.known state.epoch within at) once),
    )

    pub loaded-stands : (state : Option State) (said : List ℕ) → HasLoaded Before After asker state → HasNoChanges state → IsSoundFor hash accepted verified key asker.client → KeepsAll asker.client asker.earlier.items → asker.key ≡ key → asker.monitors.items ≡ []
        → (start : Found) × RunStands hash accepted verified lines start old (λ done. After (done ++ acts)) asker said state (Some old)
    unfolding loads-all
    loaded-stands None said loaded uncounted sound keeps same-key none = absurd loaded
    loaded-stands (Some state) said ((text, whole, spells, goes), same, marks, changes, within, once, at, own) uncounted (keyed, chain, is) keeps same-key none = (
      found_by asker,
      (
        subst (λ (k : List ℕ). Stands hash accepted verified lines k (found_by asker) old (λ done. After (done ++ acts)) state.epoch state.memory [] (Some old) asker.changes.items (standing asker.client asker.monitors.items said)) (sym same-key)
            (subst (λ (known : Memory). Stands hash accepted verified lines key (found_by asker) old (λ done. After (done ++ acts)) state.epoch known [] (Some old) asker.changes.items (standing asker.client asker.monitors.items said)) (sym same)
            (subst (λ (noted : List SignedPromise). Stands hash accepted verified lines key (found_by asker) old (λ done. After (done ++ acts)) state.epoch asker.known [] (Some old) noted (standing asker.client asker.monitors.items said)) (sym changes) (record {
              kept = loads-all (found_by asker) text (λ done. After (done ++ acts)) state.epoch (goes acts before) whole spells (within-fits asker.client.chain asker.known state.epoch within at) once;
              owns = subst (λ (ms : List Monitor). Owns hash accepted verified (IsAsked lines) (IsOwnPromise verified key lines asker.known) (noting asker.known []) [] asker.client.chain.roots asker.known.marks asker.known.marks (standing asker.client ms said)) (sym none)
                  (owns-all (found_by asker) asker.client said chain is.roots (all-self asker.client.chain.roots) within (λ signed was. kept-rooted hash accepted verified asker.client is asker.earlier.items keeps signed (own.all signed was)));
              own = λ signed was. was-more asker.known [] signed was;
              ascend = none-ascends;
              later = λ earlier later was has. absurd (omega (arith, has.1));
            }))),
        sym marks,
        (
          keyed ∙ sym same-key,
          subst (λ (new : List SignedPromise). AllByRecursion (IsOwnPromise verified asker.key lines asker.known) (asker.earlier.items ++ new)) (sym changes)
              (subst (λ (all : List SignedPromise). AllByRecursion (IsOwnPromise verified asker.key lines asker.known) all) (sym (append-nil asker.earlier.items))
              (subst (λ (k : List ℕ). AllByRecursion (IsOwnPromise verified k lines asker.known) asker.earlier.items) (keyed ∙ sym same-key)
              (kept-own hash accepted verified asker.client is lines asker.known asker.earlier.items keeps own.were))),
          own,
        ),
        begun-step asker (Some state) uncounted changes none,
      ),
    )

  -- ---- a state that begins

  begun-kept : (state : State) (Happened : List Act → Type 0) → state.memory ≡ nothing → Happened (Loads stored_nothing ∷ []) → IsKept hash accepted verified lines key found_nothing old Happened state.epoch state.memory [] (Some old)
  begun-kept state Happened none happened =
      subst (λ (known : Memory). IsKept hash accepted verified lines key found_nothing old Happened state.epoch known [] (Some old)) (sym none) (loads-all found_nothing [] Happened state.epoch happened (inl refl) refl (none-fits state.epoch) tt)

  module _ (Before After : List Act → Type 0) (acts : List Act) (before : Before acts) where
    pub begun-left : (first state : Option State) → IsFresh first → HasBegun Before After first state → IsLeft hash accepted verified lines key old (λ done. After (done ++ acts)) state (Some old)
    begun-left None state fresh (none, goes) = subst (λ (s : Option State). IsLeft hash accepted verified lines key old (λ done. After (done ++ acts)) s (Some old)) (sym none) (goes acts before)
    begun-left (Some was) state fresh (now, is, goes, same, at) =
        subst (λ (s : Option State). IsLeft hash accepted verified lines key old (λ done. After (done ++ acts)) s (Some old)) (sym is)
        (inr (found_nothing, [], begun-kept now (λ done. After (done ++ acts)) (same ∙ fresh.0) (goes acts before)))

    module _ {H V S : Type 0} (asker : Asker H V S) (said : List ℕ) (same-key : asker.key ≡ key) (token : List ℕ) (knows : (background_of asker ≡ new_background key token) × (asker.monitors.items ≡ []) × (asker.changes.items ≡ [])) (frame : List ℕ) (starts : Starts verified key frame (Ok asker.client)) where
      abbrev root : SignedRoot
      root = starts.0

      is-chain : IsChain hash verified asker.client.chain
      is-chain = subst (λ (c : Client). IsChain hash verified c.chain) (sym starts.2) (one-chain hash verified key root starts.1.1)

      is-formed : AllByRecursion IsSignedRoot asker.client.chain.roots
      is-formed = subst (λ (c : Client). AllByRecursion IsSignedRoot c.chain.roots) (sym starts.2) (starts.1.0.1, tt)

      marks-none : asker.marks.items ≡ []
      marks-none = ap (λ (b : Background). b.marks) knows.0

      earlier-none : asker.earlier.items ≡ []
      earlier-none = ap (λ (b : Background). b.earlier) knows.0

      none-within : AreWithin asker.client.chain nothing
      none-within mark (place, within, at) = absurd (omega (arith, within))

      begun-ready : IsReady verified lines nothing asker
      begun-ready = (
        ap (λ (c : Client). c.chain.key) starts.2 ∙ sym same-key,
        subst (λ (old : List SignedPromise). AllByRecursion (IsOwnPromise verified asker.key lines nothing) (old ++ asker.changes.items)) (sym earlier-none)
            (subst (λ (new : List SignedPromise). AllByRecursion (IsOwnPromise verified asker.key lines nothing) new) (sym knows.2) tt),
        subst (AreEarlier nothing) (sym earlier-none) (record { were = tt; all = λ signed was. absurd (none-own signed was); ascend = λ i j d low within. absurd (omega (arith, within)) }),
      )

      pub begun-stands : (first state : Option State) → IsFresh first → HasNoChanges state → HasBegun Before After first state → (start : Found) × RunStands hash accepted verified lines start old (λ done. After (done ++ acts)) asker said state (Some old)
      unfolding loads-all
      begun-stands None state fresh uncounted (none, goes) = (found_nothing, subst (λ (s : Option State). RunStands hash accepted verified lines found_nothing old (λ done. After (done ++ acts)) asker said s (Some old)) (sym none) (goes acts before, sym marks-none, begun-ready, tt))
      begun-stands (Some was) state fresh uncounted (now, is, goes, same, at) = (
        found_nothing,
        subst (λ (s : Option State). RunStands hash accepted verified lines found_nothing old (λ done. After (done ++ acts)) asker said s (Some old)) (sym is) (
          subst (λ (k : List ℕ). Stands hash accepted verified lines k found_nothing old (λ done. After (done ++ acts)) now.epoch now.memory [] (Some old) asker.changes.items (standing asker.client asker.monitors.items said)) (sym same-key)
              (subst (λ (known : Memory). Stands hash accepted verified lines key found_nothing old (λ done. After (done ++ acts)) now.epoch known [] (Some old) asker.changes.items (standing asker.client asker.monitors.items said)) (sym (same ∙ fresh.0))
              (subst (λ (noted : List SignedPromise). Stands hash accepted verified lines key found_nothing old (λ done. After (done ++ acts)) now.epoch nothing [] (Some old) noted (standing asker.client asker.monitors.items said)) (sym knows.2) (record {
                kept = loads-all found_nothing [] (λ done. After (done ++ acts)) now.epoch (goes acts before) (inl refl) refl (none-fits now.epoch) tt;
                owns = subst (λ (ms : List Monitor). Owns hash accepted verified (IsAsked lines) (IsOwnPromise verified key lines nothing) (noting nothing []) [] [] [] [] (standing asker.client ms said)) (sym knows.1)
                    (owns-all found_nothing asker.client said is-chain is-formed tt none-within (λ signed was. absurd (none-own signed was)));
                own = λ signed was. absurd (none-own signed was);
                ascend = none-ascends;
                later = λ earlier later was has. absurd (omega (arith, has.1));
              }))),
          sym marks-none,
          begun-ready,
          begun-step asker (Some now) (subst HasNoChanges is uncounted) knows.2 knows.1,
        ),
      )

-- what is left by a run that begins, and what one stands on
module _ (hash : List ℕ → List ℕ) (accepted verified : List ℕ → List ℕ → List ℕ → Type 0) (key : List ℕ) (Before After : List Act → Type 0) (first state : Option State) where
  abbrev pub LeavesBegun : Type 0
  LeavesBegun = IsFresh first → (lines : Option (List (List ℕ))) (old : List ℕ) (acts : List Act) → Before acts → IsLeft hash accepted verified lines key old (λ done. After (done ++ acts)) state (Some old)

  pub left_so : {A E : Type 0} (result : Result A E) → LeavesBegun → OnErr result LeavesBegun
  left_so result leaves = err_so result leaves

  pub begun_run : {H V S T E : Type 0} (result : Result (Asker H V S) E) (exchanged : T → RequestContent → Frame → T → Type 0) (stream after : T) (said token : List ℕ)
      → IfOk result (λ asker. StartsAtHead verified exchanged key stream asker.client after) → IfOk result (λ asker. (background_of asker ≡ new_background key token) × (asker.monitors.items ≡ []))
      → IfOk result (λ asker. asker.changes.items ≡ []) → (IsFresh first → HasNoChanges state) → HasBegun Before After first state
      → IfOk result (λ asker. IsFresh first → (lines : Option (List (List ℕ))) (old : List ℕ) (acts : List Act) → Before acts
      → (start : Found) × RunStands hash accepted verified lines start old (λ done. After (done ++ acts)) asker said state (Some old))
  begun_run (Ok asker) exchanged stream after said token (frame, exchange, answers, starts) knows changes counts begun = λ fresh lines old acts has.
      begun-stands hash accepted verified lines key old Before After acts has asker said (ap (λ (b : Background). b.key) knows.0) token (knows.0, knows.1, changes) frame.body starts first state fresh (counts fresh) begun
  begun_run (Err fault) exchanged stream after said token starts knows changes counts begun = tt
