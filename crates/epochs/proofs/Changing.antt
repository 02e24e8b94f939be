-- What the calls that change a directory rest on.
use Rattle.std.proofs.Common.{◌≡◌, ℕ, zero, suc, ◌-◌, ◌||◌, List, [], ◌∷◌, length, Bool, true, false, Option, Some, None, refl, sym, ap, subst, inl, inr, ◌∙◌}
use Rattle.std.specs.Prelude.{is_some, slice_get, slice_index_or, IsSome}
use Rattle.commands.specs.declared.edit.Verb.TheVariants.{Register}
use Rattle.encoding.specs.Bytes.{Is32Bytes}
use Rattle.encoding.specs.Limits.{IsKeyData, IsName}
use Rattle.commit.specs.Commitments.{commitment_bytes}
use Rattle.prefixtree.specs.Contents.{Contents}
use Rattle.prefixtree.specs.Placement.{Items, commitment_of, put}
use Rattle.rand_core.specs.Stream.{Stream, fill_bytes}
use Rattle.rootchain.specs.Bodies.{body_bytes}
use Rattle.rootchain.specs.Promises.{promise_bytes}
use Rattle.rootchain.specs.declared.promise.Promise.{Promise as PromiseMade}
use Rattle.rootchain.specs.declared.signed_promise.SignedPromise.{SignedPromise}
use Rattle.rootchain.specs.declared.signed_root.SignedRoot.{SignedRoot}
use Rattle.encoding.specs.declared.bound_key.BoundKey.{BoundKey}
use Rattle.book.specs.declared.reply.Reply.TheVariants as reply
use Rattle.book.specs.declared.directory_refusal.Refusal.{Refusal}
use Rattle.book.specs.declared.directory_refusal.Refusal.TheVariants.{IndexTaken, NameTaken, PendingExists}
use Rattle.book.specs.Steps.{first, has_its_index, is_final_binding, with_pending, Promised}
use Rattle.book.specs.Books.{Binding}
use Rattle.encoding.specs.Maps.{Map, at}
use Rattle.book.specs.Replays.{put_refusal}
use Rattle.book.specs.Shows.{Provider, index_of, placement, IsRootOf}
use Rattle.book.specs.Sound.{HoldsName}
use Rattle.book.specs.Turns.{Shows}
use Rattle.book.proofs.Distinct.{HasName}
use Rattle.book.proofs.Entries.{Ascends}
use Rattle.book.proofs.Placed.{commitment, placed_none, placed_some}
use Rattle.epochs.specs.Histories.{Version, binding_at, waiting}
use Rattle.epochs.specs.Parts.{Keeps, Parts, last_of, last_root, pending_of, tree_of}
use Rattle.epochs.specs.Versions.{AllBefore, versions_of, with_version}
use Rattle.epochs.proofs.Keeping.{book_with_pending, free_held, free_untaken, keeps_pending, taken_is, version_of, versions_before, with_waiting, has-some}
use Rattle.epochs.proofs.Placing.{apart-alone}
use Rattle.epochs.proofs.Parts.{book_of, last_get, last_root_kept, last_tree_kept}
use Rattle.epochs.proofs.Versions.{chosen_ascends}

-- what stands at a place
reached : {X : Type 0} (xs : List X) (k : ℕ) (x y : X) → slice_get xs k ≡ Some x → y ≡ slice_index_or xs k y → y ≡ x
reached [] k x y there is = absurd cc
reached (z ∷ xs) zero x y there is = let same : z ≡ x = cc in is ∙ same
reached (z ∷ xs) (suc k) x y there is = reached xs k x y there is

module _ (provider : Provider) (parts : Parts) (salt : List ℕ) (left : Stream) (keeps : Keeps provider parts (book_of parts salt left)) where
  module _ (len : ℕ) (long : len ≡ length parts.roots) (root : SignedRoot) (is : root ≡ slice_index_or parts.roots (len - 1) root) where
    -- the root at the last place
    pub last_is : root ≡ last_root parts
    last_is = reached parts.roots (length parts.roots - 1) (last_root parts) root (last_get parts keeps.begun) (subst (λ (n : ℕ). root ≡ slice_index_or parts.roots (n - 1) root) long is)

    pub last_shown : IsRootOf provider (book_of parts salt left) (last_of parts) root
    last_shown = subst (IsRootOf provider (book_of parts salt left) (last_of parts)) (sym last_is) (last_root_kept provider parts salt left keeps)

    -- a promise over it
    pub promise_shown : (name index : List ℕ) (binding : Binding) (made : PromiseMade) → index ≡ index_of provider name
        → made ≡ record { epoch = root.body.epoch; body_hash = parts.body_hash; index = index; name = name; key = binding.key }
        → Shows provider (book_of parts salt left) (Promised name binding) (reply.Promised (record { promise = made; signature = provider.sign (promise_bytes made) }))
    promise_shown name index binding made indexed is-made = (name, binding, last_root parts, refl, last_root_kept provider parts salt left keeps, ap signed all)
      where
        signed : PromiseMade → SignedPromise
        signed promise = record { promise = promise; signature = provider.sign (promise_bytes promise) }

        over : SignedRoot → List ℕ → List ℕ → PromiseMade
        over last hash place = record { epoch = last.body.epoch; body_hash = hash; index = place; name = name; key = binding.key }

        all : made ≡ over (last_root parts) (provider.hash (body_bytes (last_root parts).body)) (index_of provider name)
        all = is-made ∙ ap (λ (r : SignedRoot). over r parts.body_hash index) last_is ∙ ap (λ (h : List ℕ). over (last_root parts) h index) keeps.body_hash ∙ ap (λ (i : List ℕ). over (last_root parts) (provider.hash (body_bytes (last_root parts).body)) i) indexed

-- parts, with the next salt and the stream left after it
record Stand : Type 0 where
  pub parts : Parts
  pub salt : List ℕ
  pub left : Stream

module _ (provider : Provider) (parts : Parts) (salt : List ℕ) (left : Stream) (keeps : Keeps provider parts (book_of parts salt left)) (name : List ℕ) (key : BoundKey)
    (none : at (pending_of parts) name ≡ None) (free : (other : List ℕ) → HoldsName (book_of parts salt left) other → index_of provider other ≡ index_of provider name → other ≡ name) where
  -- its index does not wait
  pub index_free : (index : List ℕ) → index ≡ index_of provider name → commitment_of parts.waiting index ≡ None
  index_free index is =
      ap (λ (items : Items). commitment_of items index) keeps.waiting ∙ ap (commitment_of _) is
      ∙ placed_none provider name (pending_of parts) (apart-alone provider (pending_of parts) name (λ other has. free other (inr (has-some (pending_of parts) other has)))) none

  module _ (len : ℕ) (long : len ≡ length parts.roots) (version : Version) (is : version ≡ record { number = len; binding = record { key = key; salt = salt } }) where
    is-version : version ≡ version_of provider parts salt left keeps name key none
    is-version = is ∙ ap (λ (n : ℕ). record { number = n; binding = record { key = key; salt = salt } }) long

    pub later_version : AllBefore version.number (versions_of parts.names name)
    later_version = subst (λ (n : ℕ). AllBefore n (versions_of parts.names name)) (sym (ap (λ (v : Version). v.number) is-version)) (versions_before provider parts salt left keeps name none)

    -- a binding waits once its version and its item are put in
    module _ (index commitment next : List ℕ) (rest : Stream) (names : Map (List Version)) (waiting : Items)
        (indexed : index ≡ index_of provider name) (committed : commitment ≡ provider.hash (commitment_bytes salt name key)) (drawn : (next, rest) ≡ fill_bytes 32 left)
        (named : names ≡ with_version parts.names name version) (waits : waiting ≡ put parts.waiting index commitment) where
      abbrev pub parts_with : Parts
      parts_with = record { names = names; roots = parts.roots; trees = parts.trees; waiting = waiting; body_hash = parts.body_hash }

      abbrev kept-stand : Stand
      kept-stand = record { parts = with_waiting provider parts salt left keeps name key none; salt = (fill_bytes 32 left).0; left = (fill_bytes 32 left).1 }

      stand-is : record { parts = parts_with; salt = next; left = rest } ≡ kept-stand
      stand-is = λ i. record { parts = record { names = all-names i; roots = parts.roots; trees = parts.trees; waiting = all-waiting i; body_hash = parts.body_hash }; salt = (drawn i).0; left = (drawn i).1 }
        where
          all-names : names ≡ with_version parts.names name (version_of provider parts salt left keeps name key none)
          all-names = named ∙ ap (with_version parts.names name) is-version

          all-waiting : waiting ≡ put parts.waiting (index_of provider name) (provider.hash (commitment_bytes salt name key))
          all-waiting = waits ∙ ap (λ (i : List ℕ). put parts.waiting i commitment) indexed ∙ ap (put parts.waiting (index_of provider name)) committed

      pub keeps_accepted : IsName name → IsKeyData key.value → Is32Bytes next → is_final_binding (at (last_of parts).bindings name) ≡ false → Keeps provider parts_with (book_of parts_with next rest)
      keeps_accepted is-name is-key is-salt changeable =
          subst (λ (stand : Stand). Keeps provider stand.parts (book_of stand.parts stand.salt stand.left)) (sym stand-is)
          (keeps_pending provider parts salt left keeps name key none is-name is-key (subst Is32Bytes (ap (λ (x : List ℕ × Stream). x.0) drawn) is-salt) changeable free)

      pub book_accepted : book_of parts_with next rest ≡ with_pending (book_of parts salt left) name key
      book_accepted = ap (λ (stand : Stand). book_of stand.parts stand.salt stand.left) stand-is ∙ book_with_pending provider parts salt left keeps name key none

-- the tree at the last place
pub last_tree_is : (provider : Provider) (parts : Parts) (salt : List ℕ) (left : Stream) (keeps : Keeps provider parts (book_of parts salt left)) (tree : Contents) (len : ℕ)
    → len ≡ length parts.trees → tree ≡ slice_index_or parts.trees (len - 1) tree → tree ≡ tree_of provider (last_of parts)
last_tree_is provider parts salt left keeps tree len long is =
    reached parts.trees (length parts.trees - 1) (tree_of provider (last_of parts)) tree (last_tree_kept provider parts salt left keeps) (subst (λ (n : ℕ). tree ≡ slice_index_or parts.trees (n - 1) tree) long is)

-- ---- whether an index is taken

-- the first refusal of a name that is to be registered: whether the last page shows it, whether it waits, and
-- whether another one has its index
abbrev first-of : Bool → Bool → Bool → Option Refusal
first-of shown waits other = first ((shown, NameTaken) ∷ (waits, PendingExists) ∷ (other, IndexTaken) ∷ [])

pub index_alone : (shown waits other : Bool) → IsSome (first-of shown waits other) → shown ≡ false → waits ≡ false → first-of shown waits other ≡ Some IndexTaken
index_alone false false true some s w = refl
index_alone false false false some s w = absurd cc
index_alone false true other some s w = absurd cc
index_alone true waits other some s w = absurd cc

none-holds : (shown waits other : Bool) → is_some (first-of shown waits other) ≡ false → (waits ≡ false) × (other ≡ false) × (shown ≡ false)
none-holds false false false e = (refl, refl, refl)
none-holds false false true e = absurd cc
none-holds false true other e = absurd cc
none-holds true waits other e = absurd cc

waits-holds : (shown other : Bool) → true ≡ is_some (first-of shown true other)
waits-holds true other = refl
waits-holds false other = refl

other-holds : (other : Bool) → other ≡ is_some (first-of false false other)
other-holds true = refl
other-holds false = refl

or-true : (t : Bool) → (t || true) ≡ true
or-true true = refl
or-true false = refl

is-none : (o : Option Binding) → is_some o ≡ false → o ≡ None
is-none None e = refl
is-none (Some x) e = absurd cc

module _ (provider : Provider) (parts : Parts) (salt : List ℕ) (left : Stream) (keeps : Keeps provider parts (book_of parts salt left)) (name index : List ℕ) (indexed : index ≡ index_of provider name)
    (tree : Contents) (len : ℕ) (long : len ≡ length parts.trees) (is : tree ≡ slice_index_or parts.trees (len - 1) tree) (shown : Bool) (looked : shown ≡ is_some (commitment_of tree.items index)) where
  tree-is : tree ≡ tree_of provider (last_of parts)
  tree-is = last_tree_is provider parts salt left keeps tree len long is

  abbrev now : Map Binding
  now = (last_of parts).bindings

  abbrev later : Map Binding
  later = pending_of parts

  abbrev other-has : Bool
  other-has = has_its_index (index_of provider) name now || has_its_index (index_of provider) name later

  abbrev due : Option Refusal
  due = put_refusal (index_of provider) (book_of parts salt left) Register name

  -- a name that is there has its index there
  own : (bindings : Map Binding) (binding : Binding) → Ascends bindings → ((other : List ℕ) → HasName bindings other → HoldsName (book_of parts salt left) other) → HoldsName (book_of parts salt left) name
      → at bindings name ≡ Some binding → commitment_of (placement provider bindings) (index_of provider name) ≡ Some (commitment provider name binding)
  own bindings binding up all held found =
      placed_some provider name bindings binding up (apart-alone provider bindings name (λ other has same. free_held provider parts salt left keeps name held other (all other has) same)) found

  own-now : (binding : Binding) → at now name ≡ Some binding → commitment_of (placement provider now) (index_of provider name) ≡ Some (commitment provider name binding)
  own-now binding found =
      own now binding (chosen_ascends (binding_at (length parts.roots - 1)) parts.names keeps.histories.names_ascend) (λ other has. inl (has-some now other has)) (inl (subst IsSome (sym found) refl)) found

  own-later : (binding : Binding) → at later name ≡ Some binding → commitment_of parts.waiting (index_of provider name) ≡ Some (commitment provider name binding)
  own-later binding found =
      ap (λ (items : Items). commitment_of items (index_of provider name)) keeps.waiting
      ∙ own later binding (chosen_ascends (waiting (length parts.roots)) parts.names keeps.histories.names_ascend) (λ other has. inr (has-some later other has)) (inr (subst IsSome (sym found) refl)) found

  abbrev at-index : Bool
  at-index = is_some (commitment_of (placement provider now) (index_of provider name)) || is_some (commitment_of parts.waiting (index_of provider name))

  by-names : (a b : Option Binding) → at now name ≡ a → at later name ≡ b → at-index ≡ is_some due
  by-names (Some x) b a-is b-is =
      ap (λ (o : Option (List ℕ)). is_some o || is_some (commitment_of parts.waiting (index_of provider name))) (own-now x a-is)
      ∙ sym (ap (λ (o : Option Binding). is_some (first-of (is_some o) (is_some (at later name)) other-has)) a-is)
  by-names None (Some y) a-is b-is =
      ap (λ (o : Option (List ℕ)). is_some (commitment_of (placement provider now) (index_of provider name)) || is_some o) (own-later y b-is)
      ∙ or-true _ ∙ waits-holds (is_some (at now name)) other-has
      ∙ sym (ap (λ (o : Option Binding). is_some (first-of (is_some (at now name)) (is_some o) other-has)) b-is)
  by-names None None a-is b-is =
      taken_is provider parts salt left keeps name a-is b-is ∙ other-holds other-has
      ∙ sym (ap (λ (o : Option Binding). is_some (first-of (is_some o) false other-has)) a-is)
      ∙ sym (ap (λ (o : Option Binding). is_some (first-of (is_some (at now name)) (is_some o) other-has)) b-is)

  told : (shown || is_some (commitment_of parts.waiting index)) ≡ is_some due
  told =
      ap (λ (s : Bool). s || is_some (commitment_of parts.waiting index)) (looked ∙ ap (λ (t : Contents). is_some (commitment_of t.items index)) tree-is)
      ∙ ap (λ (i : List ℕ). is_some (commitment_of (placement provider now) i) || is_some (commitment_of parts.waiting i)) indexed
      ∙ by-names (at now name) (at later name) refl refl

  pub taken_shown : shown ≡ true → shown ≡ is_some due
  taken_shown true-is = true-is ∙ sym (ap (λ (s : Bool). s || is_some (commitment_of parts.waiting index)) true-is) ∙ told

  module _ (waits : Bool) (told-is : waits ≡ is_some (commitment_of parts.waiting index)) (false-is : shown ≡ false) where
    pub taken_waiting : waits ≡ is_some due
    taken_waiting = told-is ∙ sym (ap (λ (s : Bool). s || is_some (commitment_of parts.waiting index)) false-is) ∙ told

    untaken : waits ≡ false → (is_some (at later name) ≡ false) × (other-has ≡ false) × (is_some (at now name) ≡ false)
    untaken none = none-holds (is_some (at now name)) (is_some (at later name)) other-has (sym taken_waiting ∙ none)

    pub taken_later : waits ≡ false → at later name ≡ None
    taken_later none = is-none (at later name) (untaken none).0

    -- the last page has no final binding for it, as it has none
    pub taken_changeable : waits ≡ false → is_final_binding (at now name) ≡ false
    taken_changeable none = ap is_final_binding (is-none (at now name) (untaken none).2)

    pub taken_free : waits ≡ false → (other : List ℕ) → HoldsName (book_of parts salt left) other → index_of provider other ≡ index_of provider name → other ≡ name
    taken_free none = free_untaken provider parts salt left keeps name (untaken none).1
