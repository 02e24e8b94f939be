-- What one command does to a sound book, and what its reply shows of the book from then on.
use Rattle.std.proofs.Common.{◌≡◌, ℕ, ◌<◌, ◌^◌, List, [], ◌∷◌, ◌++◌, length, replicate, Bool, true, false, cond, not, ◌&&◌, Option, Some, None, Contains, refl, sym, ap, subst, inl, inr, ◌⊎◌, ◌∙◌, arith, eqb, leb}
use Rattle.std.specs.Prelude.{is_some, option_map, unwrap_or, IfSome}
use Rattle.std.specs.BTreeMap.{is_at}
use Rattle.std.specs.List.{AllByRecursion, find}
use Rattle.std.proofs.lemmas.Bool.{eqb-true, leb-true, leb-false, not-false}
use Rattle.std.proofs.lemmas.List.{append-nil, append_assoc}
use Rattle.std.proofs.lemmas.List.Elements.{Contains-append_left, Contains-push_cases}
use Rattle.encoding.specs.declared.bound_key.BoundKey.{BoundKey}
use Rattle.encoding.specs.Bytes.{bytes_cmp, Is32Bytes, IsBytes}
use Rattle.encoding.specs.Limits.{IsWithin, IsName, IsKeyData}
use Rattle.rootchain.specs.declared.signed_root.SignedRoot.{SignedRoot}
use Rattle.book.specs.declared.directory_refusal.Refusal.{Refusal}
use Rattle.book.specs.Steps.{first, has_length_within, with_pending, next_page, with_page}
use Rattle.book.specs.Books.{Binding, Book, Page, page_at, pages}
use Rattle.book.specs.Honest.{key_at, IsAskedBy}
use Rattle.encoding.specs.Maps.{at}
use Rattle.book.specs.Shows.{Provider, SignedPage, body_behind, signed, sealed_behind, sealed_pages, IsRootOf}
use Rattle.book.proofs.Entries.{Ascends, all_overwritten, all_put, ascends_none, ascends_overwritten, ascends_put, at_put_other, is_name, is_no_name, overwrites}
use Rattle.book.proofs.Found.{AreBindings, IsBinding, IsPage}
use Rattle.book.proofs.Members.{first-or-later, found-passes, none-there}
use Rattle.book.proofs.Sealing.{Climb, IsNext, climb-push, sealed-push}

-- ---- tests

pub passed : (test : Bool × Refusal) (tests : List (Bool × Refusal)) → first (test ∷ tests) ≡ None → (test.0 ≡ false) × (first tests ≡ None)
passed test tests none = by test.0 refl none
  where
    by : (t : Bool) → test.0 ≡ t → cond t (Some test.1) (first tests) ≡ None → (test.0 ≡ false) × (first tests ≡ None)
    by true is h = absurd cc
    by false is h = (is, h)

-- what is tested, one after the other, where nothing refuses
abbrev Tests : Type 0
Tests = List (Bool × Refusal)

pub two-passed : (a b : Bool) (u v : Refusal) (tests : Tests) → first ((a, u) ∷ (b, v) ∷ tests) ≡ None → (a ≡ false) × (b ≡ false) × (first tests ≡ None)
two-passed a b u v tests none =
    let one = passed (a, u) ((b, v) ∷ tests) none in
    let two = passed (b, v) tests one.1 in
    (one.0, two.0, two.1)

both : (x y : Bool) → (x && y) ≡ true → (x ≡ true) × (y ≡ true)
both true true e = (refl, refl)
both true false e = absurd cc
both false true e = absurd cc
both false false e = absurd cc

within : (least most : ℕ) (bytes : List ℕ) → not (has_length_within least most bytes) ≡ false → IsBytes bytes → IsWithin least most bytes
within least most bytes test are =
    let b = both (leb least (length bytes)) (leb (length bytes) most) (not-false _ test) in
    (leb-true _ _ b.0, leb-true _ _ b.1, are)

pub is-name : (name : List ℕ) → not (has_length_within 1 255 name) ≡ false → IsBytes name → IsName name
is-name name test are = within 1 255 name test are

pub is-key : (key : List ℕ) → not (has_length_within 1 2048 key) ≡ false → IsBytes key → IsKeyData key
is-key key test are = within 1 2048 key test are

pub above-last : (epoch last : ℕ) → leb epoch last ≡ false → last < epoch
above-last epoch last test = leb-false epoch last test

pub not-there : {X : Type 0} (found : Option X) → is_some found ≡ false → found ≡ None
not-there None e = refl
not-there (Some x) e = absurd cc

pub asked-page : (book : Book) (epoch : ℕ) (page : Page) → page_at book epoch ≡ Some page → IsAskedBy book.last.epoch epoch page
asked-page book epoch page is = by (eqb epoch 0) is
  where
    by : (t : Bool) → cond t (Some book.last) (find (λ (each : Page). eqb each.epoch epoch) (pages book)) ≡ Some page → page.epoch ≡ cond t book.last.epoch epoch
    by true h = let e : page ≡ book.last = cc in ap (λ (each : Page). each.epoch) e
    by false h = eqb-true page.epoch epoch (found-passes (λ (each : Page). eqb each.epoch epoch) (pages book) page h)

-- ---- a sound book

pub all-push : {X : Type 0} (P : X → Type 0) (xs : List X) (x : X) → AllByRecursion P xs → P x → AllByRecursion P (xs ++ x ∷ [])
all-push P [] x all here = (here, tt)
all-push P (y ∷ ys) x all here = (all.0, all-push P ys x all.1 here)

pub the-last : {X : Type 0} (P : X → Type 0) (xs : List X) (x : X) → AllByRecursion P (xs ++ x ∷ []) → P x
the-last P [] x all = all.0
the-last P (y ∷ ys) x all = the-last P ys x all.1

pub record IsSound (book : Book) : Type 0 where
  pub climb : Climb 0 (pages book)
  pub pages : AllByRecursion IsPage (pages book)
  pub ascends : Ascends book.pending
  pub pending : AreBindings book.pending

sound-pending : (book : Book) (name : List ℕ) (key : BoundKey) → IsSound book → IsName name → IsKeyData key.value → IsSound (with_pending book name key)
sound-pending book name key sound named keyed = record {
  climb = sound.climb;
  pages = sound.pages;
  ascends = ascends_put book.pending name (record { key = key; salt = book.salt }) sound.ascends;
  pending = all_put name (record { key = key; salt = book.salt }) IsName IsBinding book.pending named keyed sound.pending;
}

-- a new page's nonce has the size of the last one's
pub next-sized : (nonce : Option (List ℕ)) (last : List ℕ) → Is32Bytes last → IfSome nonce Is32Bytes → Is32Bytes (unwrap_or nonce last)
next-sized None last here sized = here
next-sized (Some nonce) last here sized = sized

sound-page : (book : Book) (epoch : ℕ) (nonce : Option (List ℕ)) → IsSound book → epoch < 2 ^ 64 → IfSome nonce Is32Bytes → book.last.epoch < epoch → IsSound (with_page book (next_page book epoch nonce))
sound-page book epoch nonce sound fits sized later =
    let last = the-last IsPage book.earlier book.last sound.pages in
    record {
      climb = climb-push 0 book.earlier book.last (next_page book epoch nonce) sound.climb later;
      pages = all-push IsPage (pages book) (next_page book epoch nonce) sound.pages (record {
        epoch = fits;
        nonce = next-sized nonce _ last.nonce sized;
        ascends = ascends_overwritten book.last.bindings book.pending last.ascends;
        bindings = all_overwritten IsName IsBinding book.pending book.last.bindings sound.pending last.bindings;
      });
      ascends = ascends_none Binding;
      pending = tt;
    }

-- ---- what is promised

module _ (provider : Provider) where
  -- the key waits for the next page under this name
  abbrev pub Waits : Book → List ℕ → BoundKey → Type 0
  Waits book name key = (binding : Binding) × (at book.pending name ≡ Some binding) × (binding.key ≡ key)

  -- the page after that of this epoch has the key, or will have it
  pub record Holds (book : Book) (name : List ℕ) (key : BoundKey) (epoch : ℕ) : Type 0 where
    pub next : (page : Page) (root : SignedRoot) → IsRootOf provider book page root → root.body.previous_epoch ≡ epoch → key_at page name ≡ Some key
    pub waits : ((book.last.epoch ≡ epoch) × Waits book name key) ⊎ (epoch < book.last.epoch)

  abbrev sealed_with : Page → SignedRoot → SignedPage
  sealed_with page root = record { page = page; root = root }

  climb-last : (epoch : ℕ) (pages : List Page) (last : Page) → Climb epoch (pages ++ last ∷ []) → epoch < last.epoch
  climb-last epoch [] last climb = climb.0
  climb-last epoch (page ∷ pages) last climb = omega (arith, climb.0, climb-last page.epoch pages last climb.1)

  -- no root stands behind the last one
  none-behind : (epoch : ℕ) (before : List ℕ) (pages : List Page) (last : Page) → Climb epoch (pages ++ last ∷ []) → (each : SignedPage) → Contains (sealed_behind provider epoch before (pages ++ last ∷ [])) each
      → each.root.body.previous_epoch < last.epoch
  none-behind epoch before [] last climb each is = elim (first-or-later (sealed_with last (signed provider (body_behind provider epoch before last))) [] each is) [
    | inl same ↦ let e = ap (λ (x : SignedPage). x.root.body.previous_epoch) same in omega (arith, climb.0, e)
    | inr later ↦ absurd (none-there each later)
  ]
  none-behind epoch before (page ∷ pages) last climb each is = elim (first-or-later _ _ each is) [
    | inl same ↦ let e = ap (λ (x : SignedPage). x.root.body.previous_epoch) same in omega (arith, climb-last epoch (page ∷ pages) last climb, e)
    | inr later ↦ none-behind page.epoch _ pages last climb.1 each later
  ]

  pub holds-now : (book : Book) (name : List ℕ) (binding : Binding) → IsSound book → at book.pending name ≡ Some binding → Holds book name binding.key book.last.epoch
  holds-now book name binding sound found = record {
    next = λ page root is same. absurd (omega (arith, same, none-behind 0 (replicate 32 0) book.earlier book.last sound.climb (record { page = page; root = root }) is));
    waits = inl (refl, (binding, found, refl));
  }

  -- ---- from one book to a later one

  pub record Goes (book after : Book) : Type 0 where
    pub more : List SignedPage
    pub grows : sealed_pages provider after ≡ sealed_pages provider book ++ more
    pub holds : (name : List ℕ) (key : BoundKey) (epoch : ℕ) → Holds book name key epoch → Holds after name key epoch
    pub sound : IsSound after

  -- a root stays that of its page
  pub later : (book after : Book) → Goes book after → (page : Page) (root : SignedRoot) → IsRootOf provider book page root → IsRootOf provider after page root
  later book after goes page root is = subst (λ (all : List SignedPage). Contains all (sealed_with page root)) (sym goes.grows) (Contains-append_left (sealed_pages provider book) goes.more _ is)

  pub goes-nowhere : (book : Book) → IsSound book → Goes book book
  goes-nowhere book sound = record { more = []; grows = sym (append-nil (sealed_pages provider book)); holds = λ name key epoch held. held; sound = sound }

  pub goes-on : (book middle after : Book) → Goes book middle → Goes middle after → Goes book after
  goes-on book middle after one two = record {
    more = one.more ++ two.more;
    grows = two.grows ∙ ap (λ (all : List SignedPage). all ++ two.more) one.grows ∙ append_assoc (sealed_pages provider book) one.more two.more;
    holds = λ name key epoch held. two.holds name key epoch (one.holds name key epoch held);
    sound = two.sound;
  }

  pub goes-pending : (book : Book) (name : List ℕ) (key : BoundKey) → IsSound book → IsName name → IsKeyData key.value → at book.pending name ≡ None → Goes book (with_pending book name key)
  goes-pending book name key sound named keyed none = record {
    more = [];
    grows = sym (append-nil (sealed_pages provider book));
    holds = λ other owned epoch held. record { next = held.next; waits = still other owned epoch held.waits };
    sound = sound-pending book name key sound named keyed;
  }
    where
      other-waits : (other : List ℕ) (owned : BoundKey) → Waits book other owned → Waits (with_pending book name key) other owned
      other-waits other owned waits = by (is_at (bytes_cmp name) other) refl
        where
          by : (t : Bool) → is_at (bytes_cmp name) other ≡ t → Waits (with_pending book name key) other owned
          by true is = let e : None ≡ Some waits.0 = sym none ∙ ap (at book.pending) (sym (is_name name other is)) ∙ waits.1 in absurd cc
          by false is = (waits.0, at_put_other name (record { key = key; salt = book.salt }) book.pending other (is_no_name name other is) ∙ waits.1, waits.2)

      still : (other : List ℕ) (owned : BoundKey) (epoch : ℕ) → ((book.last.epoch ≡ epoch) × Waits book other owned) ⊎ (epoch < book.last.epoch)
          → ((book.last.epoch ≡ epoch) × Waits (with_pending book name key) other owned) ⊎ (epoch < book.last.epoch)
      still other owned epoch (inl now) = inl (now.0, other-waits other owned now.1)
      still other owned epoch (inr before) = inr before

  pub goes-page : (book : Book) (epoch : ℕ) (nonce : Option (List ℕ)) → IsSound book → epoch < 2 ^ 64 → IfSome nonce Is32Bytes → book.last.epoch < epoch → Goes book (with_page book (next_page book epoch nonce))
  goes-page book epoch nonce sound fits sized above = record {
    more = record { page = next_page book epoch nonce; root = next.root } ∷ [];
    grows = next.is;
    holds = λ name key asked held. record { next = λ page root is behind. kept name key asked held page root behind (cases page root is); waits = inr (before asked name key held.waits) };
    sound = sound-page book epoch nonce sound fits sized above;
  }
    where
      next : IsNext provider book.last (sealed_pages provider book) (sealed_pages provider (with_page book (next_page book epoch nonce))) (next_page book epoch nonce)
      next = sealed-push provider 0 (replicate 32 0) book.earlier book.last (next_page book epoch nonce)

      cases : (page : Page) (root : SignedRoot) → IsRootOf provider (with_page book (next_page book epoch nonce)) page root
          → IsRootOf provider book page root ⊎ (sealed_with (next_page book epoch nonce) next.root ≡ sealed_with page root)
      cases page root is = Contains-push_cases (sealed_pages provider book) _ _ (subst (λ (all : List SignedPage). Contains all (record { page = page; root = root })) next.is is)

      before : (asked : ℕ) (name : List ℕ) (key : BoundKey) → ((book.last.epoch ≡ asked) × Waits book name key) ⊎ (asked < book.last.epoch) → asked < epoch
      before asked name key (inl now) = omega (arith, now.0)
      before asked name key (inr earlier) = omega (arith, earlier)

      waited : (asked : ℕ) (name : List ℕ) (key : BoundKey) → ((book.last.epoch ≡ asked) × Waits book name key) ⊎ (asked < book.last.epoch) → book.last.epoch ≡ asked → key_at (next_page book epoch nonce) name ≡ Some key
      waited asked name key (inl now) same =
          ap (option_map (λ (binding : Binding). binding.key)) (overwrites book.pending book.last.bindings name now.1.0 sound.ascends now.1.1) ∙ ap (λ (k : BoundKey). Some k) now.1.2
      waited asked name key (inr earlier) same = absurd (omega (arith, earlier, same))

      kept : (name : List ℕ) (key : BoundKey) (asked : ℕ) → Holds book name key asked → (page : Page) (root : SignedRoot) → root.body.previous_epoch ≡ asked
          → IsRootOf provider book page root ⊎ (sealed_with (next_page book epoch nonce) next.root ≡ sealed_with page root) → key_at page name ≡ Some key
      kept name key asked held page root behind (inl old) = held.next page root old behind
      kept name key asked held page root behind (inr new) =
          let r = ap (λ (each : SignedPage). each.root.body.previous_epoch) new in
          let p : next_page book epoch nonce ≡ page = ap (λ (each : SignedPage). each.page) new in
          subst (λ (each : Page). key_at each name ≡ Some key) p (waited asked name key held.waits (sym next.previous ∙ r ∙ behind))
