-- How what a run keeps stays told, act by act.
use Rattle.std.proofs.Common.{◌≡◌, ◌∙◌, ◌⊎◌, ℕ, suc, ◌<◌, ◌≤◌, Bool, true, false, List, [], ◌∷◌, ◌++◌, map, Contains, Option, None, Some, Ok, ap, append-nil, append_assoc, arith, inl, inr, refl, subst, sym}
use Rattle.std.specs.Prelude.{if◌then◌else◌, nat_lt}
use Rattle.std.specs.List.{AllByRecursion}
use Rattle.std.proofs.lemmas.Bool.{ltb-true}
use Rattle.std.proofs.lemmas.List.Elements.{All-contains, All-from_recursion, Contains-append_cases, Contains-append_left}
use Rattle.rootchain.specs.declared.signed_promise.SignedPromise.{SignedPromise}
use Rattle.rootchain.specs.declared.signed_root.SignedRoot.{SignedRoot}
use Rattle.client.specs.Clients.{Client}
use Rattle.memory.specs.Memories.{Memory}
use Rattle.memory.specs.Texts.{items_text, Spells, TakesAll}
use Rattle.memory.specs.declared.item.Item.{Item}
use Rattle.memory.specs.declared.mark.Mark.{Mark}
use Rattle.memory.specs.declared.promised.Promised.{Promised}
use Rattle.memory.proofs.Taken.{taken-append, unchanged-taken}
use Rattle.memory.proofs.WholeLines.{spells-more, whole-more}
use Rattle.monitor.specs.Monitors.{Monitor}
use Rattle.runs.specs.Owning.{IsHeld, IsOwn, Owns, WasWatched}
use Rattle.runs.specs.Saves.{found_in, own_promised, roots_above, stored_after, with_promises, noting, Act, AddsLines, AddsRoots, Counts, Found, IsAsked, IsAskedChange, IsAsFar, IsDropped, IsOwnAhead, IsOwnPromise, KeepsTold, WasOwn, WasStored}
use Rattle.asking.specs.Scenes.{Scene}
use Rattle.runs.specs.Standing.{standing, AddsOwn, Fits, IsKept, IsUpTo, KeepsMarks, Stands}
use Rattle.runs.proofs.HeldMarks.{begun-held, moved-far, moved-held}
use Rattle.runs.proofs.KeptTold.{adds-roots-kept, keeps-told, remembers-kept, text-kept, IsToldOrStored}
use Rattle.runs.proofs.Noting.{noted-was, same-own, taken-own, tells-counted, was-cases, was-more}
use Rattle.runs.proofs.Staying.{taken-alarms, taken-evidence, taken-finals}
use Rattle.runs.proofs.PutMarks.{begun-marks, moved-once, moved-stays, EachPuts, IsBegun, IsMoved}

-- ---- roots above an epoch

above-cons : (P : SignedRoot → Type 0) (test : Bool) (root : SignedRoot) (roots : List SignedRoot) → (test ≡ true → P root) → AllByRecursion P roots → AllByRecursion P (if test then root ∷ roots else roots)
above-cons P true root roots here all = (here refl, all)
above-cons P false root roots here all = all

pub above-all : (epoch : ℕ) (roots : List SignedRoot) → AllByRecursion (λ (root : SignedRoot). epoch < root.body.epoch) (roots_above epoch roots)
above-all epoch [] = tt
above-all epoch (root ∷ roots) =
    above-cons (λ (r : SignedRoot). epoch < r.body.epoch) (nat_lt epoch root.body.epoch) root (roots_above epoch roots) (λ is. ltb-true epoch root.body.epoch is) (above-all epoch roots)

-- they are roots of the list
above-from : (epoch : ℕ) (P : SignedRoot → Type 0) (roots : List SignedRoot) → AllByRecursion P roots → AllByRecursion P (roots_above epoch roots)
above-from epoch P [] all = tt
above-from epoch P (root ∷ roots) all = above-cons P (nat_lt epoch root.body.epoch) root (roots_above epoch roots) (λ is. all.0) (above-from epoch P roots all.1)

each-of : {A : Type 0} (P : A → Type 0) (xs : List A) → ((x : A) → Contains xs x → P x) → AllByRecursion P xs
each-of P [] each = tt
each-of P (x ∷ xs) each = (each x (0, omega arith, refl), each-of P xs (λ y has. each y (suc has.0, omega (arith, has.1), has.2)))

pub all-in : {A : Type 0} (P : A → Type 0) (xs : List A) (x : A) → AllByRecursion P xs → Contains xs x → P x
all-in P xs x all has = All-contains P xs x (All-from_recursion P xs all) has

all-join : {A : Type 0} (P : A → Type 0) (xs ys : List A) → AllByRecursion P xs → AllByRecursion P ys → AllByRecursion P (xs ++ ys)
all-join P [] ys one other = other
all-join P (x ∷ xs) ys one other = (one.0, all-join P xs ys one.1 other)

pub fits-up : (epoch epoch' : ℕ) (known : Memory) → epoch ≤ epoch' → Fits epoch known → Fits epoch' known
fits-up epoch epoch' known up fits mark has = elim (fits mark has) [
  | inl empty ↦ inl empty
  | inr low ↦ inr (omega (arith, up, low))
]

none-above : (mark : Mark) (epoch : ℕ) (root : SignedRoot) → (mark.epoch ≤ mark.since) ⊎ (mark.epoch ≤ epoch) → epoch < root.body.epoch → mark.since < root.body.epoch → root.body.epoch ≤ mark.epoch → ⊥
none-above mark epoch root (inl empty) new above below = omega (arith, empty, above, below)
none-above mark epoch root (inr low) new above below = omega (arith, low, new, below)

-- Each promise for a change of the owner's own is an old one; or it was one when the run began, or was asked for, and no mark is
-- above it.
abbrev pub OwnAsked : Option (List (List ℕ)) → Memory → Memory → Memory → Type 0
OwnAsked lines start before after = (signed : SignedPromise) → WasOwn after signed → WasOwn before signed ⊎ ((WasOwn start signed ⊎ IsAskedChange lines signed) × Fits signed.promise.epoch before)

pub asked-then : (lines : Option (List (List ℕ))) (start before after : Memory) → OwnAsked lines start before after → ((signed : SignedPromise) → WasOwn before signed → WasOwn start signed ⊎ IsAskedChange lines signed)
    → (signed : SignedPromise) → WasOwn after signed → WasOwn start signed ⊎ IsAskedChange lines signed
asked-then lines start before after own old signed was = elim (own signed was) [
  | inl there ↦ old signed there
  | inr so ↦ so.0
]

pub late-then : (lines : Option (List (List ℕ))) (start before after : Memory) → OwnAsked lines start before after → (signed : SignedPromise) → WasOwn after signed → WasOwn before signed ⊎ Fits signed.promise.epoch before
late-then lines start before after own signed was = elim (own signed was) [
  | inl there ↦ inl there
  | inr so ↦ inr so.1
]

pub unchanged-own : (lines : Option (List (List ℕ))) (start before after : Memory) → after.promises ≡ before.promises → OwnAsked lines start before after
unchanged-own lines start before after same signed (promised, has, this, own) = inl (promised, subst (λ (all : List Promised). Contains all promised) same has, this, own)

pub unchanged-adds : (changes : List SignedPromise) (before after : Memory) → after.promises ≡ before.promises → AddsOwn changes before after
unchanged-adds changes before after same signed (promised, has, this, own) = inl (promised, subst (λ (all : List Promised). Contains all promised) same has, this, own)

module _ (hash : List ℕ → List ℕ) (accepted verified : List ℕ → List ℕ → List ℕ → Type 0) (lines : Option (List (List ℕ))) (key : List ℕ) (start : Found) (old : List ℕ) where
  abbrev Told : List ℕ → Found → Type 0
  Told = KeepsTold hash accepted (IsAsked lines) (IsOwnPromise verified key lines start.known) (IsAskedChange lines) (IsDropped None) start

  module _ (Happened : List Act → Type 0) (epoch : ℕ) (known : Memory) (unsaved : List Item) (out : Option (List ℕ)) (kept : IsKept hash accepted verified lines key start old Happened epoch known unsaved out) where
    -- what was the owner's own is
    pub still-known : (signed : SignedPromise) → WasOwn start.known signed → WasOwn known signed
    still-known signed was = taken-own unsaved kept.saved known kept.ahead signed (kept.had signed was)

    -- more is learned, and no mark moves
    abbrev pub kept-known : (known' : Memory) (news : List Item) → TakesAll news known known' → KeepsMarks known known' → OwnAsked lines start.known known known' → IsKept hash accepted verified lines key start old Happened epoch known' (unsaved ++ news) out
    kept-known known' news takes marks own = record {
      acts = kept.acts;
      happened = kept.happened;
      text = kept.text;
      is-out = kept.is-out;
      all = kept.all;
      saved = kept.saved;
      had = kept.had;
      whole = kept.whole;
      spells = kept.spells;
      ahead = taken-append unsaved news kept.saved known known' kept.ahead takes;
      now = kept.now;
      next = remembers-kept hash accepted (IsAsked lines) (IsOwnPromise verified key lines start.known) (IsAskedChange lines) (IsDropped None) start kept.text (found_in (stored_after kept.acts) known) kept.next known' marks.known
          (λ mark has. let (one, there, named, low, far) = kept.next.stays mark has in (one, marks.still one there, named, low, far))
          (asked-then lines start.known known known' own kept.next.own)
          (λ signed was. taken-own news known known' takes signed (still-known signed was))
          (late-then lines start.known known known' own) (taken-alarms news known known' takes) (taken-evidence news known known' takes) (taken-finals news known known' takes);
      early = kept.early;
      low-start = kept.low-start;
      low = kept.low;
      low-next = λ mark has. elim (marks.known mark has) [
        | inl there ↦ kept.low-next mark there
        | inr empty ↦ inl (omega (arith, empty))
      ];
      begun = kept.begun;
      once = marks.once kept.once;
    }

    -- more is written
    abbrev pub kept-out : (out' : Option (List ℕ)) (more : List ℕ) → out' ≡ Some ((old ++ kept.text) ++ more) → IsKept hash accepted verified lines key start old Happened epoch known unsaved out'
    kept-out out' more is = record {
      acts = kept.acts;
      happened = kept.happened;
      text = kept.text ++ more;
      is-out = is ∙ ap Some (append_assoc old kept.text more);
      all = kept.all;
      saved = kept.saved;
      had = kept.had;
      whole = kept.whole;
      spells = kept.spells;
      ahead = kept.ahead;
      now = text-kept hash accepted (IsAsked lines) (IsOwnPromise verified key lines start.known) (IsAskedChange lines) (IsDropped None) start kept.text (found_in (stored_after kept.acts) kept.saved) kept.now more;
      next = text-kept hash accepted (IsAsked lines) (IsOwnPromise verified key lines start.known) (IsAskedChange lines) (IsDropped None) start kept.text (found_in (stored_after kept.acts) known) kept.next more;
      early = kept.early;
      low-start = kept.low-start;
      low = kept.low;
      low-next = kept.low-next;
      begun = kept.begun;
      once = kept.once;
    }

    -- roots are added
    module _ (Happened' : List Act → Type 0) (epoch' : ℕ) (roots : List SignedRoot) (up : epoch ≤ epoch') (goes : (acts : List Act) → Happened acts → Happened' (AddsRoots (roots_above epoch roots) out ∷ acts)) where
      pub adds : Told kept.text (record { roots = (stored_after kept.acts).roots ++ roots_above epoch roots; known = kept.saved })
      adds = adds-roots-kept hash accepted (IsAsked lines) (IsOwnPromise verified key lines start.known) (IsAskedChange lines) (IsDropped None) start kept.text (found_in (stored_after kept.acts) kept.saved) kept.now (roots_above epoch roots) epoch (above-all epoch roots) kept.low

      pub early-still : (mark : Mark) → Contains start.known.marks mark → (root : SignedRoot) → Contains ((stored_after kept.acts).roots ++ roots_above epoch roots) root → mark.since < root.body.epoch → root.body.epoch ≤ mark.epoch → Contains start.roots root
      early-still mark has root among above below = elim (Contains-append_cases (stored_after kept.acts).roots (roots_above epoch roots) root among) [
        | inl there ↦ kept.early mark has root there above below
        | inr new ↦ absurd (none-above mark epoch root (kept.low-start mark has) (all-in (λ (r : SignedRoot). epoch < r.body.epoch) (roots_above epoch roots) root (above-all epoch roots) new) above below)
      ]

      abbrev pub kept-roots : IsKept hash accepted verified lines key start old Happened' epoch' known unsaved out
      kept-roots = record {
        acts = AddsRoots (roots_above epoch roots) out ∷ kept.acts;
        happened = goes kept.acts kept.happened;
        text = kept.text;
        is-out = kept.is-out;
        all = (kept.all, (kept.text, kept.is-out, (kept.saved, kept.spells, adds)));
        saved = kept.saved;
        had = kept.had;
        whole = kept.whole;
        spells = kept.spells;
        ahead = kept.ahead;
        now = adds;
        next = adds-roots-kept hash accepted (IsAsked lines) (IsOwnPromise verified key lines start.known) (IsAskedChange lines) (IsDropped None) start kept.text (found_in (stored_after kept.acts) known) kept.next
            (roots_above epoch roots) epoch (above-all epoch roots) kept.low-next;
        early = early-still;
        low-start = fits-up epoch epoch' start.known up kept.low-start;
        low = fits-up epoch epoch' kept.saved up kept.low;
        low-next = fits-up epoch epoch' known up kept.low-next;
        begun = kept.begun;
        once = kept.once;
      }

    -- with the lines of what is not saved yet the text spells all
    pub grown : Spells ((stored_after kept.acts).text ++ items_text unsaved) (Ok known)
    grown = spells-more (stored_after kept.acts).text kept.saved known unsaved kept.whole kept.spells kept.ahead

    -- there are none
    abbrev pub kept-unsaved : (Happened' : List Act → Type 0) → items_text unsaved ≡ [] → Happened' kept.acts → IsKept hash accepted verified lines key start old Happened' epoch known [] out
    kept-unsaved Happened' none happened = record {
      acts = kept.acts;
      happened = happened;
      text = kept.text;
      is-out = kept.is-out;
      all = kept.all;
      saved = kept.saved;
      had = kept.had;
      whole = kept.whole;
      spells = kept.spells;
      ahead = unchanged-taken unsaved kept.saved known kept.ahead none;
      now = kept.now;
      next = kept.next;
      early = kept.early;
      low-start = kept.low-start;
      low = kept.low;
      low-next = kept.low-next;
      begun = kept.begun;
      once = kept.once;
    }

    -- or they are added
    abbrev pub kept-added : (Happened' : List Act → Type 0) → Happened' (AddsLines (items_text unsaved) out ∷ kept.acts) → IsKept hash accepted verified lines key start old Happened' epoch known [] out
    kept-added Happened' happened = record {
      acts = AddsLines (items_text unsaved) out ∷ kept.acts;
      happened = happened;
      text = kept.text;
      is-out = kept.is-out;
      all = (kept.all, (kept.text, kept.is-out, (known, grown, kept.next)));
      saved = known;
      had = still-known;
      whole = whole-more (stored_after kept.acts).text unsaved kept.whole;
      spells = grown;
      ahead = refl;
      now = kept.next;
      next = kept.next;
      early = kept.early;
      low-start = kept.low-start;
      low = kept.low-next;
      low-next = kept.low-next;
      begun = kept.begun;
      once = kept.once;
    }

    pub kept-handed : (Happened' : List Act → Type 0) → ((acts : List Act) → Happened acts → ((items_text unsaved ≡ []) × Happened' acts) ⊎ Happened' (AddsLines (items_text unsaved) out ∷ acts))
        → IsKept hash accepted verified lines key start old Happened' epoch known [] out
    kept-handed Happened' goes = elim (goes kept.acts kept.happened) [
      | inl (none, same) ↦ kept-unsaved Happened' none same
      | inr more ↦ kept-added Happened' more
    ]

  -- ---- with the scene

  owns-known : (noted : List SignedPromise) (text : List ℕ) (stored : List SignedRoot) (known known' : List Mark) (now : Scene (Unit {0})) → Owns hash accepted verified (IsAsked lines) (IsOwnPromise verified key lines start.known) (noting start.known noted) text stored start.known.marks known now
      → ((mark : Mark) → Contains known' mark → IsHeld hash accepted verified (IsAsked lines) (IsOwnPromise verified key lines start.known) (noting start.known noted) text start.known.marks now.client.chain now.monitors mark)
      → Owns hash accepted verified (IsAsked lines) (IsOwnPromise verified key lines start.known) (noting start.known noted) text stored start.known.marks known' now
  owns-known noted text stored known known' now owns held = record { chain = owns.chain; formed = owns.formed; stores = owns.stores; rooted = owns.rooted; watched = owns.watched; held = held }

  owns-stored : (noted : List SignedPromise) (text : List ℕ) (stored stored' : List SignedRoot) (known : List Mark) (now : Scene (Unit {0})) → Owns hash accepted verified (IsAsked lines) (IsOwnPromise verified key lines start.known) (noting start.known noted) text stored start.known.marks known now
      → AllByRecursion (Contains now.client.chain.roots) stored' → Owns hash accepted verified (IsAsked lines) (IsOwnPromise verified key lines start.known) (noting start.known noted) text stored' start.known.marks known now
  owns-stored noted text stored stored' known now owns stores = record { chain = owns.chain; formed = owns.formed; stores = stores; rooted = owns.rooted; watched = owns.watched; held = owns.held }

  module _ (Happened : List Act → Type 0) (epoch : ℕ) (known : Memory) (unsaved : List Item) (out : Option (List ℕ)) (noted : List SignedPromise) (now : Scene (Unit {0})) (stands : Stands hash accepted verified lines key start old Happened epoch known unsaved out noted now) where
    own-then : (known' : Memory) → AddsOwn noted known known' → (signed : SignedPromise) → WasOwn known' signed → WasOwn (noting start.known noted) signed
    own-then known' adds signed was = elim (adds signed was) [
      | inl old ↦ stands.own signed old
      | inr has ↦ noted-was start.known noted signed has
    ]

    -- lines and promises are learned
    pub stands-same : (known' : Memory) (news : List Item) → TakesAll news known known' → known'.marks ≡ known.marks → KeepsMarks known known' → OwnAsked lines start.known known known' → AddsOwn noted known known'
        → Stands hash accepted verified lines key start old Happened epoch known' (unsaved ++ news) out noted now
    stands-same known' news takes same marks own adds = record {
      kept = kept-known Happened epoch known unsaved out stands.kept known' news takes marks own;
      owns = subst (λ (ms : List Mark). Owns hash accepted verified (IsAsked lines) (IsOwnPromise verified key lines start.known) (noting start.known noted) stands.kept.text (stored_after stands.kept.acts).roots start.known.marks ms now) (sym same) stands.owns;
      own = own-then known' adds;
      ascend = stands.ascend;
      later = stands.later;
    }

    -- new monitors get marks
    pub stands-begun : (begun : List Monitor) (known' : Memory) (news : List Item) → TakesAll news known known' → AllByRecursion (Contains now.monitors) begun → EachPuts IsBegun begun known.marks known'.marks → known'.promises ≡ known.promises
        → Stands hash accepted verified lines key start old Happened epoch known' (unsaved ++ news) out noted now
    stands-begun begun known' news takes among puts same = record {
      kept = kept-known Happened epoch known unsaved out stands.kept known' news takes (begun-marks begun known known' puts) (unchanged-own lines start.known known known' same);
      owns = owns-known noted stands.kept.text (stored_after stands.kept.acts).roots known.marks known'.marks now stands.owns (begun-held hash accepted verified (IsAsked lines) (IsOwnPromise verified key lines start.known) (noting start.known noted) stands.kept.text (stands.kept.text ++ now.told.lines) now.client.chain start.known.marks now.monitors begun known.marks known'.marks
          stands.owns.chain stands.owns.watched among puts stands.owns.held);
      own = own-then known' (unchanged-adds noted known known' same);
      ascend = stands.ascend;
      later = stands.later;
    }

    pub stands-roots : (Happened' : List Act → Type 0) (epoch' : ℕ) → epoch ≤ epoch' → ((acts : List Act) → Happened acts → Happened' (AddsRoots (roots_above epoch now.client.chain.roots) out ∷ acts))
        → Stands hash accepted verified lines key start old Happened' epoch' known unsaved out noted now
    stands-roots Happened' epoch' up goes = record {
      kept = kept-roots Happened epoch known unsaved out stands.kept Happened' epoch' now.client.chain.roots up goes;
      owns = owns-stored noted stands.kept.text (stored_after stands.kept.acts).roots ((stored_after stands.kept.acts).roots ++ roots_above epoch now.client.chain.roots) known.marks now stands.owns (all-join (Contains now.client.chain.roots) (stored_after stands.kept.acts).roots (roots_above epoch now.client.chain.roots) stands.owns.stores
          (above-from epoch (Contains now.client.chain.roots) now.client.chain.roots (each-of (Contains now.client.chain.roots) now.client.chain.roots (λ root has. has))));
      own = stands.own;
      ascend = stands.ascend;
      later = stands.later;
    }

    -- what is not saved yet is handed on
    pub stands-handed : (Happened' : List Act → Type 0) → ((acts : List Act) → Happened acts → ((items_text unsaved ≡ []) × Happened' acts) ⊎ Happened' (AddsLines (items_text unsaved) out ∷ acts))
        → Stands hash accepted verified lines key start old Happened' epoch known [] out noted now
    stands-handed Happened' goes = elim (goes stands.kept.acts stands.kept.happened) [
      | inl (none, same) ↦ record {
        kept = kept-unsaved Happened epoch known unsaved out stands.kept Happened' none same;
        owns = stands.owns;
        own = stands.own;
        ascend = stands.ascend;
        later = stands.later;
      }
      | inr more ↦ record {
        kept = kept-added Happened epoch known unsaved out stands.kept Happened' more;
        owns = stands.owns;
        own = stands.own;
        ascend = stands.ascend;
        later = stands.later;
      }
    ]

  -- ---- marks move

  module _ (Happened : List Act → Type 0) (epoch : ℕ) (known : Memory) (unsaved : List Item) (out : Option (List ℕ)) (noted : List SignedPromise) (client : Client) (monitors : List Monitor) (stands : Stands hash accepted verified lines key start old Happened epoch known unsaved out noted (standing client monitors []))
      (up-to : IsUpTo client epoch) (some : List Monitor) (among : AllByRecursion (Contains monitors) some) (known' : Memory) (puts : EachPuts (IsMoved monitors) some known.marks known'.marks) (same : known'.promises ≡ known.promises) where
    abbrev text : List ℕ
    text = stands.kept.text

    abbrev Held : Mark → Type 0
    Held = IsHeld hash accepted verified (IsAsked lines) (IsOwnPromise verified key lines start.known) (noting start.known noted) text start.known.marks client.chain monitors

    watched-so : AllByRecursion (IsOwn hash accepted verified (IsAsked lines) (IsOwnPromise verified key lines start.known) (noting start.known noted) text client.chain start.known.marks) monitors
    watched-so = subst (λ (t : List ℕ). AllByRecursion (IsOwn hash accepted verified (IsAsked lines) (IsOwnPromise verified key lines start.known) (noting start.known noted) t client.chain start.known.marks) monitors) (append-nil text) stands.owns.watched

    held : (mark : Mark) → Contains known'.marks mark → Held mark
    held = moved-held hash accepted verified (IsAsked lines) (IsOwnPromise verified key lines start.known) (noting start.known noted) text client.chain start.known.marks monitors stands.owns.chain stands.owns.formed watched-so some known.marks known'.marks among puts stands.owns.held

    -- what an earlier run had watched is a root that it had
    was-stored : (name : List ℕ) (root : SignedRoot) → Contains (stored_after stands.kept.acts).roots root → WasWatched start.known.marks name root → WasStored start name root
    was-stored name root among (mark, has, same, above, below) = (stands.kept.early mark has root among above below, (mark, has, same, above, below))

    own-so : (signed : SignedPromise) → WasOwn known' signed → WasOwn (noting start.known noted) signed
    own-so signed (promised, has, this, own) = stands.own signed (promised, subst (λ (all : List Promised). Contains all promised) same has, this, own)

    told-so : (mark : Mark) → Contains known'.marks mark → (root : SignedRoot) → Contains (stored_after stands.kept.acts).roots root → mark.since < root.body.epoch → root.body.epoch ≤ mark.epoch
        → IsToldOrStored hash accepted (IsAsked lines) (IsOwnPromise verified key lines start.known) (IsAskedChange lines) (IsDropped None) start known' text mark.name root
    told-so mark has root among above below =
        elim ((held mark has).told root (all-in (Contains client.chain.roots) (stored_after stands.kept.acts).roots root stands.owns.stores among) above below) [
          | inl tells ↦ inl (tells-counted (IsAsked lines) (IsOwnAhead (IsOwnPromise verified key lines start.known) start.known) (Counts (noting start.known noted)) (Counts (with_promises start.known known'.promises)) mark.name hash accepted text root
              (λ signed (was, awaited) named early. (counted signed (was-cases start.known known' signed was), awaited)) tells)
          | inr was ↦ inr (was-stored mark.name root among was)
        ]
      where
        counted : (signed : SignedPromise) → WasOwn start.known signed ⊎ WasOwn known' signed → WasOwn (noting start.known noted) signed
        counted signed (inl old) = was-more start.known (map own_promised noted) signed old
        counted signed (inr new) = own-so signed new

    -- no mark goes back over a root that was there
    far-so : (monitor : Monitor) (now : List Mark) (new : Mark) → IsMoved monitors monitor now new → (mark : Mark) → Contains start.known.marks mark → mark.name ≡ new.name → IsAsFar start.roots mark new
    far-so monitor now new moves mark has named root among =
        moved-far hash accepted verified (IsAsked lines) (IsOwnPromise verified key lines start.known) (noting start.known noted) text client.chain start.known.marks monitors stands.owns.chain stands.owns.formed watched-so monitor now new moves mark has named root
        (all-in (Contains client.chain.roots) (stored_after stands.kept.acts).roots root stands.owns.stores
        (subst (λ (rs : List SignedRoot). Contains rs root) (sym stands.kept.next.grows.1) (Contains-append_left start.roots stands.kept.next.grows.0 root among)))

    low-so : Fits epoch known'
    low-so mark has = elim (held mark has).low [
      | inl empty ↦ inl empty
      | inr (head, at, low) ↦ inr (let up = up-to head at in omega (arith, up, low))
    ]

    pub stands-moved : (news : List Item) → TakesAll news known known' → Stands hash accepted verified lines key start old Happened epoch known' (unsaved ++ news) out noted (standing client monitors [])
    stands-moved news takes = let kept = stands.kept in record {
      kept = record {
        acts = kept.acts;
        happened = kept.happened;
        text = kept.text;
        is-out = kept.is-out;
        all = kept.all;
        saved = kept.saved;
        had = kept.had;
        whole = kept.whole;
        spells = kept.spells;
        ahead = taken-append unsaved news kept.saved known known' kept.ahead takes;
        now = kept.now;
        next = keeps-told hash accepted (IsAsked lines) (IsOwnPromise verified key lines start.known) (IsAskedChange lines) (IsDropped None) start text (stored_after kept.acts).roots kept.next.grows.0 known' kept.next.grows.1
            (moved-stays monitors some start.roots start.known.marks known.marks known'.marks puts kept.once far-so kept.next.stays) told-so
            (asked-then lines start.known known known' (unchanged-own lines start.known known known' same) kept.next.own)
            (λ signed was. same-own known known' same signed (still-known Happened epoch known unsaved out kept signed was))
            (λ alarm has. elim (kept.next.alarms alarm has) [
              | inl there ↦ inl (taken-alarms news known known' takes alarm there)
              | inr dropped ↦ inr dropped
            ]) (λ line has. taken-evidence news known known' takes line (kept.next.evidence line has)) (λ seen has. taken-finals news known known' takes seen (kept.next.finals seen has));
        early = kept.early;
        low-start = kept.low-start;
        low = kept.low;
        low-next = low-so;
        begun = kept.begun;
        once = moved-once monitors some known.marks known'.marks puts kept.once;
      };
      owns = owns-known noted text (stored_after kept.acts).roots known.marks known'.marks (standing client monitors []) stands.owns held;
      own = own-so;
      ascend = stands.ascend;
      later = stands.later;
    }
