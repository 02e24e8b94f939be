-- A change of a name's key: what the tests tell, and what becomes of the history, of the names and of the book.
use Rattle.std.proofs.Common.{◌≡◌, ℕ, ◌-◌, List, [], ◌∷◌, ◌++◌, length, Option, Some, None, IsSome, Bool, true, false, refl, sym, ap, ◌∙◌, subst, MatchResult, Result, Ok, Err}
use Rattle.std.specs.Map.{lookup}
use Rattle.std.specs.Option.{option_and_then, option_map, unwrap_or}
use Rattle.std.specs.Prelude.{is_some}
use Rattle.rand_core.specs.Stream.{Stream}
use Rattle.encoding.specs.Bytes.{Is32Bytes}
use Rattle.encoding.specs.Limits.{IsKeyData, IsName}
use Rattle.encoding.specs.Policies.{is_final}
use Rattle.commands.specs.declared.edit.Verb.TheVariants.{Change}
use Rattle.commit.specs.Commitments.{commitment_bytes}
use Rattle.prefixtree.specs.Placement.{Items, put}
use Rattle.encoding.specs.declared.bound_key.BoundKey.{BoundKey}
use Rattle.book.specs.Books.{Binding}
use Rattle.book.specs.declared.directory_refusal.Refusal.{Refusal}
use Rattle.book.specs.declared.directory_refusal.Refusal.TheVariants.{FinalBinding, NoSuchName, PendingExists}
use Rattle.encoding.specs.Maps.{at}
use Rattle.book.specs.Replays.{put_refusal, with_bound}
use Rattle.book.specs.Shows.{Provider, index_of}
use Rattle.book.specs.Sound.{HoldsName}
use Rattle.book.specs.Steps.{binding_tests, first, is_final_binding}
use Rattle.epochs.specs.declared.address.Address.{Address}
use Rattle.epochs.specs.Addresses.{AreAddresses, HistoryContent, NamesContent, address_of, named, with_history}
use Rattle.epochs.specs.Histories.{Version, binding_at, chosen, waiting}
use Rattle.epochs.specs.KeyChanges.{AreChangedNames, FitsHistory, FitsNames, IsChangedHistory, refused_before}
use Rattle.epochs.specs.Parts.{Keeps, Parts, last_of, pending_of}
use Rattle.epochs.specs.Versions.{AllBefore, AreHistories, versions_of}
use Rattle.epochs.proofs.Addresses.{address-kept, addresses_with, chosen_found, same-some}
use Rattle.epochs.proofs.Binding.{book_bound, bound_free, bound_later, keeps_bound}
use Rattle.epochs.proofs.Hashed.{lookup-bytes, test}
use Rattle.epochs.proofs.Keeping.{free_shown}
use Rattle.epochs.proofs.Named.{added-there, versions-there}
use Rattle.epochs.proofs.Parts.{book_of}
use Rattle.epochs.proofs.Versions.{histories_with}

-- ---- what the tests tell

-- the first of them that holds
abbrev change_refusal : Option Binding → Option Binding → Option Refusal
change_refusal shown waits = first (binding_tests Change shown waits)

lacking : (shown waits : Option Binding) → is_some shown ≡ false → change_refusal shown waits ≡ Some NoSuchName
lacking None waits is = refl
lacking (Some x) waits is = absurd cc

-- by whether the binding that is shown is final, and whether one waits
abbrev by_tests : Bool → Bool → Option Refusal
by_tests final awaits = first ((final, FinalBinding) ∷ (awaits, PendingExists) ∷ [])

module _ {X : Type 0} (of : X → Binding) (shown waits : Option Binding) where
  pub lacks_name : option_map of None ≡ shown → change_refusal shown waits ≡ Some NoSuchName
  lacks_name shows = lacking shown waits (ap is_some (sym shows))

  module _ (x : X) (shows : option_map of (Some x) ≡ shown) where
    -- the other tests, where a binding is shown
    has : change_refusal shown waits ≡ by_tests (is_final (of x).key.policy) (is_some waits)
    has = ap (λ (o : Option Binding). change_refusal o waits) (sym shows)

    pub has_final : is_final (of x).key.policy ≡ true → change_refusal shown waits ≡ Some FinalBinding
    has_final final = has ∙ ap (λ (t : Bool). by_tests t (is_some waits)) final

    module _ (may : is_final (of x).key.policy ≡ false) (other : Option X) (some : Bool) (asks : some ≡ is_some other) (pends : option_map of other ≡ waits) where
      waits_for : change_refusal shown waits ≡ by_tests false some
      waits_for = has ∙ (λ i. by_tests (may i) ((sym (same-some of other waits pends) ∙ sym asks) i))

      pub has_pending : some ≡ true → change_refusal shown waits ≡ Some PendingExists
      has_pending is = waits_for ∙ ap (by_tests false) is

      pub may_open : some ≡ false → change_refusal shown waits ≡ None
      may_open is = waits_for ∙ ap (by_tests false) is

-- ---- what becomes of a history

-- from what a call makes known that adds a version, once nothing refuses
pub changed_history : (A : Type 0) (B C : Refusal → Type 0) (history history_after : HistoryContent) (waits waits_after : Items) (version made : Version) (commitment text : List ℕ) (result : Result (List ℕ) Refusal)
    → refused_before made.number history.versions ≡ None → version ≡ made → commitment ≡ text → ((why : Refusal) → B why → C why)
    → MatchResult result
    (λ index. A × (index ≡ history.address.index) × (history_after ≡ record history { versions = history.versions ++ version ∷ [] }) × (waits_after ≡ put waits index commitment))
    (λ why. (history_after ≡ history) × (waits_after ≡ waits) × B why)
    → MatchResult result
    (λ index. A × IsChangedHistory history waits made text index history_after waits_after)
    (λ why. (history_after ≡ history) × (waits_after ≡ waits) × C why)
changed_history A B C history history_after waits waits_after version made commitment text (Ok index) none is_made is_text so (kept, place, added, put_in) =
    (kept, (none, place, added ∙ ap (λ (v : Version). record history { versions = history.versions ++ v ∷ [] }) is_made, put_in ∙ ap (put waits index) is_text))
changed_history A B C history history_after waits waits_after version made commitment text (Err why) none is_made is_text so (same, stays, unkept) = (same, stays, so why unkept)

-- ---- what becomes of the names

module _ {K : Type 0} (bytes : K → List ℕ) (name : List ℕ) (es : List (K × HistoryContent)) where
  -- a name that has no history
  pub not_there : lookup (test bytes name) es ≡ None → (page : ℕ) → refused_before page (versions_of (named bytes es).versions name) ≡ Some NoSuchName
  not_there none page = ap (λ (o : Option (List Version)). refused_before page (unwrap_or o [])) (sym at-none)
    where
      at-none : None ≡ at (named bytes es).versions name
      at-none = ap (option_map (λ (history : HistoryContent). history.versions)) (sym none) ∙ lookup-bytes bytes (λ (history : HistoryContent). history.versions) name es

  module _ (earlier : HistoryContent) (found : lookup (test bytes name) es ≡ Some earlier) where
    at-address : at (named bytes es).addresses name ≡ Some earlier.address
    at-address = sym (ap (option_map (λ (history : HistoryContent). history.address)) (sym found) ∙ lookup-bytes bytes (λ (history : HistoryContent). history.address) name es)

    same-versions : versions_of (named bytes es).versions name ≡ earlier.versions
    same-versions = versions-there bytes name es earlier found

    pub fits_there : (waits : Items) (page : ℕ) → FitsNames (named bytes es) waits name page → FitsHistory earlier waits page
    fits_there waits page fits none =
        let these = fits (subst (λ (vs : List Version). refused_before page vs ≡ None) (sym same-versions) none) in
        (subst (AllBefore page) same-versions these.0, these.1 earlier.address at-address)

    -- from what became of the history
    pub changed_names : (A : Type 0) (B : Option Refusal → Refusal → Type 0) (waits waits_after : Items) (version : Version) (text : List ℕ) (result : Result (List ℕ) Refusal) (es_set es_after : List (K × HistoryContent)) (later : HistoryContent)
        → es_after ≡ es_set → named bytes es_set ≡ with_history (named bytes es) name later
        → MatchResult result
        (λ index. A × IsChangedHistory earlier waits version text index later waits_after)
        (λ why. (later ≡ earlier) × (waits_after ≡ waits) × B (refused_before version.number earlier.versions) why)
        → MatchResult result
        (λ index. A × AreChangedNames (named bytes es) waits name version text index (named bytes es_after) waits_after)
        (λ why. (named bytes es_after ≡ named bytes es) × (waits_after ≡ waits) × B (refused_before version.number (versions_of (named bytes es).versions name)) why)
    changed_names A B waits waits_after version text (Ok index) es_set es_after later is set (kept, (none, place, added, put_in)) = (
      kept,
      (
        subst (λ (vs : List Version). refused_before version.number vs ≡ None) (sym same-versions) none,
        ap (option_map (λ (address : Address). address.index)) at-address ∙ ap (λ (i : List ℕ). Some i) (sym place),
        (λ address. (added-there A (λ (why : Refusal). B None why) name address version bytes (Ok tt) es es_set es_after earlier later found is set (kept, added)).1),
        put_in,
      ),
    )
    changed_names A B waits waits_after version text (Err why) es_set es_after later is set (same, stays, refused) = (
      (added-there A (λ (w : Refusal). B (refused_before version.number earlier.versions) w) name earlier.address version bytes (Err why) es es_set es_after earlier later found is set (same, refused)).0,
      stays,
      subst (λ (vs : List Version). B (refused_before version.number vs) why) (sym same-versions) refused,
    )

-- what a call makes known that changes a key
abbrev pub ChangedNames : Type 0 → (Refusal → Type 0) → NamesContent → Items → List ℕ → Version → List ℕ → Result (List ℕ) Refusal → NamesContent → Items → Type 0
ChangedNames A B names waits name version text result names_after waits_after =
    MatchResult result (λ index. A × AreChangedNames names waits name version text index names_after waits_after) (λ why. (names_after ≡ names) × (waits_after ≡ waits) × B why)

pub histories_changed : (A : Type 0) (B : Refusal → Type 0) (names names_after : NamesContent) (waits waits_after : Items) (name : List ℕ) (version : Version) (text : List ℕ) (result : Result (List ℕ) Refusal)
    → AreHistories names.versions → FitsNames names waits name version.number → ChangedNames A B names waits name version text result names_after waits_after → AreHistories names_after.versions
histories_changed A B names names_after waits waits_after name version text (Ok index) are fits (kept, (none, place, added, put_in)) =
    subst (λ (n : NamesContent). AreHistories n.versions) (sym (added (record { value = []; index = index }))) (histories_with names.versions name version are (fits none).0)
histories_changed A B names names_after waits waits_after name version text (Err why) are fits (same, stays, refused) = subst (λ (n : NamesContent). AreHistories n.versions) (sym same) are

-- ---- what becomes of the book

opened : (shown waits : Option Binding) → change_refusal shown waits ≡ None → IsSome shown × (waits ≡ None)
opened None waits is = absurd cc
opened (Some x) waits is = (refl, by (is_final x.key.policy) waits is)
  where
    by : (final : Bool) (o : Option Binding) → by_tests final (is_some o) ≡ None → o ≡ None
    by true o e = absurd cc
    by false None e = refl
    by false (Some y) e = absurd cc

still_changeable : (shown waits : Option Binding) → change_refusal shown waits ≡ None → is_final_binding shown ≡ false
still_changeable None waits is = refl
still_changeable (Some x) waits is = by (is_final x.key.policy) refl is
  where
    by : (final : Bool) → is_final x.key.policy ≡ final → by_tests final (is_some waits) ≡ None → is_final x.key.policy ≡ false
    by true e f = absurd cc
    by false e f = e

module _ (provider : Provider) (names : NamesContent) (rest : Parts) where
  abbrev parts : Parts
  parts = record { names = names.versions; roots = rest.roots; trees = rest.trees; waiting = rest.waiting; body_hash = rest.body_hash }

  module _ (own : List ℕ) (left : Stream) (keeps : Keeps provider parts (book_of parts own left)) (are : AreAddresses provider names.addresses) (name : List ℕ) (key : BoundKey) (salt : List ℕ) (small : Is32Bytes salt) (len : ℕ) (long : len ≡ length rest.roots) where
    abbrev due : Option Refusal
    due = put_refusal (index_of provider) (book_of parts own left) Change name

    abbrev the_version : Version
    the_version = record { number = len; binding = record { key = key; salt = salt } }

    abbrev text : List ℕ
    text = provider.hash (commitment_bytes salt name key)

    chosen-of : (f : List Version → Option Binding) → f [] ≡ None → f (versions_of names.versions name) ≡ at (chosen f names.versions) name
    chosen-of f none = by (at names.versions name) ∙ chosen_found f names.versions name keeps.histories (at names.versions name) refl
      where
        by : (o : Option (List Version)) → f (unwrap_or o []) ≡ option_and_then f o
        by None = none
        by (Some versions) = refl

    -- the history of a name tells what the book has against another key for it
    due-is : refused_before len (versions_of names.versions name) ≡ due
    due-is =
        ap (λ (n : ℕ). refused_before n (versions_of names.versions name)) long
        ∙ (λ i. change_refusal (chosen-of (binding_at (length rest.roots - 1)) refl i) (chosen-of (waiting (length rest.roots)) refl i))

    module _ (none : due ≡ None) where
      nothing-waits : at (pending_of parts) name ≡ None
      nothing-waits = (opened (at (last_of parts).bindings name) (at (pending_of parts) name) none).1

      alone : (other : List ℕ) → HoldsName (book_of parts own left) other → index_of provider other ≡ index_of provider name → other ≡ name
      alone = free_shown provider parts own left keeps name (opened (at (last_of parts).bindings name) (at (pending_of parts) name) none).0

    its-index : (address : Address) → at names.addresses name ≡ Some address → address.index ≡ index_of provider name
    its-index address found = ap (λ (a : Address). a.index) (address-kept provider names.addresses name address are found)

    found-index : (o : Option Address) (index : List ℕ) → at names.addresses name ≡ o → option_map (λ address. address.index) o ≡ Some index → index ≡ index_of provider name
    found-index None index found is = absurd cc
    found-index (Some address) index found is = let same : address.index ≡ index = cc in sym same ∙ its-index address found

    pub fits_kept : FitsNames names rest.waiting name len
    fits_kept refused =
        let none = sym due-is ∙ refused in (
          bound_later provider parts own left keeps name key (nothing-waits none) (alone none) salt small len long the_version refl,
          (λ address found. bound_free provider parts own left keeps name key (nothing-waits none) (alone none) salt small address.index (its-index address found)),
        )

    module _ (A : Type 0) (B : Option Refusal → Refusal → Type 0) (names_after : NamesContent) (waits_after : Items) where
      abbrev parts_changed : Parts
      parts_changed = record { names = names_after.versions; roots = rest.roots; trees = rest.trees; waiting = waits_after; body_hash = rest.body_hash }

      abbrev Made : Result (List ℕ) Refusal → Type 0
      Made result = ChangedNames A (B (refused_before len (versions_of names.versions name))) names rest.waiting name the_version text result names_after waits_after

      pub keeps_changed : IsName name → IsKeyData key.value → (result : Result (List ℕ) Refusal) → Made result → Keeps provider parts_changed (book_of parts_changed own left)
      keeps_changed is-name is-key (Ok index) (kept, (refused, place, added, put_in)) =
          let none = sym due-is ∙ refused in
          keeps_bound provider parts own left keeps name key (nothing-waits none) (alone none) salt small len long the_version refl
          index text names_after.versions waits_after (found-index (at names.addresses name) index refl place) refl (ap (λ (n : NamesContent). n.versions) (added (address_of provider name))) put_in is-name is-key
          (still_changeable (at (last_of parts).bindings name) (at (pending_of parts) name) none)
      keeps_changed is-name is-key (Err why) (same, stays, refused) =
          subst (λ (x : NamesContent × Items). Keeps provider (over x) (book_of (over x) own left)) (λ i. (sym same i, sym stays i)) keeps
        where
          over : NamesContent × Items → Parts
          over x = record { names = (x.0).versions; roots = rest.roots; trees = rest.trees; waiting = x.1; body_hash = rest.body_hash }

      pub addresses_changed : (result : Result (List ℕ) Refusal) → Made result → AreAddresses provider names_after.addresses
      addresses_changed (Ok index) (kept, (refused, place, added, put_in)) =
          subst (λ (n : NamesContent). AreAddresses provider n.addresses) (sym (added (address_of provider name))) (addresses_with provider names name (address_of provider name) the_version are refl)
      addresses_changed (Err why) (same, stays, refused) = subst (λ (n : NamesContent). AreAddresses provider n.addresses) (sym same) are

      pub book_changed : (result : Result (List ℕ) Refusal) → Made result
          → MatchResult result
          (λ index. (due ≡ None) × (index ≡ index_of provider name) × A × (book_of parts_changed own left ≡ with_bound (book_of parts own left) name (record { key = key; salt = salt })))
          (λ why. (book_of parts_changed own left ≡ book_of parts own left) × B due why)
      book_changed (Ok index) (kept, (refused, place, added, put_in)) =
          let none = sym due-is ∙ refused in
          let indexed = found-index (at names.addresses name) index refl place in (
            none,
            indexed,
            kept,
            book_bound provider parts own left keeps name key (nothing-waits none) (alone none) salt small len long the_version refl
                index text names_after.versions waits_after indexed refl (ap (λ (n : NamesContent). n.versions) (added (address_of provider name))) put_in,
          )
      book_changed (Err why) (same, stays, refused) = (
        (λ i. book_of (record { names = (same i).versions; roots = rest.roots; trees = rest.trees; waiting = stays i; body_hash = rest.body_hash }) own left),
        subst (λ (d : Option Refusal). B d why) due-is refused,
      )
