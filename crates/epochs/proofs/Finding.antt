-- Where pages whose epochs ascend have the page of an epoch, and those from an epoch on; and the roots beside them.
use Rattle.std.proofs.Common.{◌≡◌, ◌≢◌, ℕ, zero, suc, ◌+◌, ◌-◌, ◌<◌, ◌≤◌, List, [], ◌∷◌, ◌++◌, length, map, take, drop, get_or, slice_get, replicate, Bool, true, false, cond, Some, None, Ok, Err, eqb, ltb, leb, AllPairs, Contains, refl, sym, ap, subst, subst₂, inl, inr, ◌∙◌, arith}
use Rattle.std.specs.List.{filter, find}
use Rattle.std.specs.List.Sorted.{IsBinarySearchResult, IsNonDecreasingBy, IsPartitionPoint}
use Rattle.std.specs.Ordering.{is_lt, nat_cmp, ordering_index}
use Rattle.std.specs.Cmp.{nat_cmp_is}
use Rattle.std.specs.declared.cmp.Ordering.{Ordering}
use Rattle.std.specs.declared.cmp.Ordering.TheVariants.{Less, Equal, Greater}
use Rattle.std.proofs.lemmas.Bool.{cases_lt, eq-eqb, le-leb, lt-leb, ltb-false, ltb-true, ne_eqb}
use Rattle.std.proofs.lemmas.Cmp.{nat_cmp_total, ranked}
use Rattle.std.proofs.lemmas.List.{get_or-map, length-map, length_push, same_from_push}
use Rattle.std.proofs.lemmas.List.Elements.{Contains-get_or}
use Rattle.std.proofs.lemmas.List.Sorted.{searchable_from_sorted}
use Rattle.std.proofs.lemmas.Option.{get_or_from_slice_get, slice_get_within}
use Rattle.rootchain.specs.Bodies.{body_bytes}
use Rattle.rootchain.specs.declared.signed_root.SignedRoot.{SignedRoot}
use Rattle.book.specs.Steps.{page_range, with_page}
use Rattle.book.specs.Books.{Book, Page, page_at, pages}
use Rattle.epochs.specs.Ends.{all_but_last, final}
use Rattle.book.specs.Shows.{Provider, SignedPage, body_behind, roots, sealed_behind, signed, IsRootOf}
use Rattle.epochs.proofs.Ends.{front_final, slice_get-final}
use Rattle.book.proofs.Members.{first-or-later, first-there, later-there, none-there}
use Rattle.book.proofs.Rooted.{rooted-at}
use Rattle.book.proofs.Sealing.{Root, next_hash}

-- epochs ascend
abbrev pub EpochsAscend : List Page → Type 0
EpochsAscend = AllPairs (λ (earlier later : Page). earlier.epoch < later.epoch)

-- ---- the page of an epoch

-- what a search for an epoch compares
abbrev pub by_epoch : ℕ → Page → Ordering
by_epoch epoch page = nat_cmp page.epoch epoch

abbrev HasEpoch : ℕ → Page → Bool
HasEpoch epoch page = eqb page.epoch epoch

found : (pages : List Page) (epoch k : ℕ) (page : Page) → EpochsAscend pages → slice_get pages k ≡ Some page → page.epoch ≡ epoch → find (HasEpoch epoch) pages ≡ Some page
found [] epoch k page up is same = absurd cc
found (first ∷ pages) epoch zero page up is same =
    let here : first ≡ page = cc in
    ap (λ (t : Bool). cond t (Some first) (find (HasEpoch epoch) pages)) (eq-eqb first.epoch epoch (ap (λ (p : Page). p.epoch) here ∙ same)) ∙ is
found (first ∷ pages) epoch (suc k) page up is same =
    let below : k < length pages = slice_get_within pages k page is in
    let later : get_or pages k page ≡ page = get_or_from_slice_get pages k page page is in
    let less : first.epoch < (get_or pages k page).epoch = up zero (suc k) page (omega arith) (omega arith) in
    let high : (get_or pages k page).epoch ≡ epoch = ap (λ (p : Page). p.epoch) later ∙ same in
    ap (λ (t : Bool). cond t (Some first) (find (HasEpoch epoch) pages)) (ne_eqb first.epoch epoch (λ e. omega (arith, less, high, e)))
    ∙ found pages epoch k page (λ i j d p q. up (suc i) (suc j) d (omega arith) (omega arith)) is same

found-none : (pages : List Page) (epoch : ℕ) → ((page : Page) → Contains pages page → page.epoch ≢ epoch) → find (HasEpoch epoch) pages ≡ None
found-none [] epoch none = refl
found-none (first ∷ pages) epoch none =
    ap (λ (t : Bool). cond t (Some first) (find (HasEpoch epoch) pages)) (ne_eqb first.epoch epoch (none first (first-there first pages)))
    ∙ found-none pages epoch (λ page is. none page (later-there first pages page is))

by-find : (book : Book) (epoch : ℕ) → epoch ≢ 0 → page_at book epoch ≡ find (HasEpoch epoch) (pages book)
by-find book epoch some = ap (λ (t : Bool). cond t (Some book.last) (find (HasEpoch epoch) (pages book))) (ne_eqb epoch 0 some)

pub page_found : (book : Book) (epoch k : ℕ) (page : Page) → EpochsAscend (pages book) → slice_get (pages book) k ≡ Some page → page.epoch ≡ epoch → epoch ≢ 0 → page_at book epoch ≡ Some page
page_found book epoch k page up is same some = by-find book epoch some ∙ found (pages book) epoch k page up is same

-- where no page has the epoch
pub page_absent : (book : Book) (epoch : ℕ) → ((page : Page) → Contains (pages book) page → page.epoch ≢ epoch) → epoch ≢ 0 → page_at book epoch ≡ None
page_absent book epoch none some = by-find book epoch some ∙ found-none (pages book) epoch none

-- where a search finds one, it is that
pub page_searched : (book : Book) (epoch place : ℕ) (page : Page) → EpochsAscend (pages book) → IsBinarySearchResult (by_epoch epoch) (pages book) (Ok place) → slice_get (pages book) place ≡ Some page → epoch ≢ 0
    → page_at book epoch ≡ Some page
page_searched book epoch place page up searched is some =
    page_found book epoch place page up is (ranked page.epoch epoch Equal (sym (rw (get_or_from_slice_get (pages book) place page page is) at (searched page)))) some

-- where a search finds none, there is none
search-none : {Y : Type 0} (key : Y → ℕ) (ys : List Y) (epoch place : ℕ) (y : Y) → AllPairs (λ (earlier later : Y). key earlier < key later) ys
    → IsBinarySearchResult (λ (each : Y). nat_cmp (key each) epoch) ys (Err place) → Contains ys y → key y ≢ epoch
search-none {Y} key ys epoch place y up searched held same =
    let sorted : IsNonDecreasingBy (λ (each : Y). ordering_index (nat_cmp (key each) epoch)) ys = searchable_from_sorted nat_cmp_total key ys epoch
    (λ k d low next. ap is_lt (sym (nat_cmp_is (key (get_or ys (k + 1) d)) (key (get_or ys k d)) Greater (up k (k + 1) d (omega arith) next)))) in
    let point = searched sorted in
    elim (cases_lt held.0 place) [
      | inl before ↦
          let less = point.0 held.0 y (omega arith) before in
          omega (arith, same, ranked (key y) epoch Less (sym (rw held.2 at less)))
      | inr behind ↦
          let greater = point.1 held.0 y behind held.1 in
          omega (arith, same, ranked (key y) epoch Greater (sym (rw held.2 at greater)))
    ]

pub page_missing : (book : Book) (epoch place : ℕ) → EpochsAscend (pages book) → IsBinarySearchResult (by_epoch epoch) (pages book) (Err place) → epoch ≢ 0 → page_at book epoch ≡ None
page_missing book epoch place up searched some = page_absent book epoch (λ page. search-none (λ (each : Page). each.epoch) (pages book) epoch place page up searched) some

pub page_last : (book : Book) → page_at book 0 ≡ Some book.last
page_last book = refl

-- ---- the pages from an epoch on

module _ {Y : Type 0} (key : Y → ℕ) (from : ℕ) where
  abbrev IsLate : Page → Bool
  IsLate page = leb from page.epoch

  -- from the first on whose key is not below
  from-place : (i : ℕ) (ys : List Y) (pages : List Page) → map key ys ≡ map (λ (page : Page). page.epoch) pages
      → IsPartitionPoint (λ (y : Y). ltb (key y) from ≡ true) (λ (y : Y). ltb (key y) from ≡ false) ys i → filter IsLate pages ≡ drop i pages
  from-place zero ys [] same point = refl
  from-place (suc i) ys [] same point = refl
  from-place i [] (first ∷ pages) same point = absurd cc
  from-place zero (y ∷ ys) (first ∷ pages) same point =
      let here : key y ≡ first.epoch = cc in
      let high : from ≤ key y = ltb-false (key y) from (point.1 zero y (omega arith) (omega arith)) in
      ap (λ (t : Bool). cond t (first ∷ filter IsLate pages) (filter IsLate pages)) (le-leb from first.epoch (omega arith))
      ∙ ap (λ (more : List Page). first ∷ more) (from-place zero ys pages (cc) ((λ k d a b. absurd (omega arith)), (λ k d a b. point.1 (suc k) d (omega arith) (omega arith))))
  from-place (suc i) (y ∷ ys) (first ∷ pages) same point =
      let here : key y ≡ first.epoch = cc in
      let low : key y < from = ltb-true (key y) from (point.0 zero y (omega arith) (omega arith)) in
      ap (λ (t : Bool). cond t (first ∷ filter IsLate pages) (filter IsLate pages)) (lt-leb from first.epoch (omega arith))
      ∙ from-place i ys pages (cc) ((λ k d a b. point.0 (suc k) d (omega arith) (omega arith)), (λ k d a b. point.1 (suc k) d (omega arith) (omega arith)))

pub told_from : (book : Book) (from count i : ℕ) → IsPartitionPoint (λ (page : Page). ltb page.epoch from ≡ true) (λ (page : Page). ltb page.epoch from ≡ false) (pages book) i
    → page_range book from count ≡ take count (drop i (pages book))
told_from book from count i point = ap (take count) (from-place (λ (page : Page). page.epoch) from i (pages book) (pages book) refl point)

-- ---- the same in a list beside the pages, whose keys are their epochs

module _ {Y : Type 0} (key : Y → ℕ) (ys : List Y) (book : Book) (same : map key ys ≡ map (λ (page : Page). page.epoch) (pages book)) where
  pub length_beside : length ys ≡ length (pages book)
  length_beside = sym (length-map ys key) ∙ ap length same ∙ length-map (pages book) (λ (page : Page). page.epoch)

  pub key_beside : (k : ℕ) (y : Y) (page : Page) → k < length ys → key (get_or ys k y) ≡ (get_or (pages book) k page).epoch
  key_beside k y page below =
      sym (get_or-map key ys k y 0 below) ∙ ap (λ (l : List ℕ). get_or l k 0) same ∙ get_or-map (λ (each : Page). each.epoch) (pages book) k page 0 (omega (arith, length_beside))

  pub ascend_beside : EpochsAscend (pages book) → AllPairs (λ (earlier later : Y). key earlier < key later) ys
  ascend_beside up i j d p q =
      omega (arith, key_beside i d book.last (omega arith), key_beside j d book.last q, up i j book.last p (omega (arith, length_beside)))

  pub page_found_beside : (epoch k : ℕ) (y : Y) (page : Page) → EpochsAscend (pages book) → slice_get ys k ≡ Some y → slice_get (pages book) k ≡ Some page → key y ≡ epoch → epoch ≢ 0
      → page_at book epoch ≡ Some page
  page_found_beside epoch k y page up at is here some =
      page_found book epoch k page up is
      (ap (λ (each : Page). each.epoch) (sym (get_or_from_slice_get (pages book) k page page is)) ∙ sym (key_beside k y page (slice_get_within ys k y at)) ∙ ap key (get_or_from_slice_get ys k y y at) ∙ here) some

  pub page_missing_beside : (epoch place : ℕ) → EpochsAscend (pages book) → IsBinarySearchResult (λ (y : Y). nat_cmp (key y) epoch) ys (Err place) → epoch ≢ 0 → page_at book epoch ≡ None
  page_missing_beside epoch place up searched some = page_absent book epoch none some
    where
      none : (page : Page) → Contains (pages book) page → page.epoch ≢ epoch
      none page held is = go ys refl
        where
          go : (zs : List Y) → ys ≡ zs → ⊥
          go [] e = absurd (omega (arith, held.1, length_beside, ap length e))
          go (z ∷ zs) e =
              let below : held.0 < length ys = omega (arith, held.1, length_beside) in
              search-none key ys epoch place (get_or ys held.0 z) (ascend_beside up) searched (Contains-get_or ys held.0 z below)
              (key_beside held.0 z page below ∙ ap (λ (each : Page). each.epoch) held.2 ∙ is)

  pub told_from_beside : (from count i : ℕ) → IsPartitionPoint (λ (y : Y). ltb (key y) from ≡ true) (λ (y : Y). ltb (key y) from ≡ false) ys i → page_range book from count ≡ take count (drop i (pages book))
  told_from_beside from count i point = ap (take count) (from-place key from i ys (pages book) same point)

-- ---- the roots beside the pages

module _ (provider : Provider) where
  sealed-epochs : (epoch : ℕ) (before : List ℕ) (pages : List Page)
      → map (λ (root : SignedRoot). root.body.epoch) (map Root (sealed_behind provider epoch before pages)) ≡ map (λ (page : Page). page.epoch) pages
  sealed-epochs epoch before [] = refl
  sealed-epochs epoch before (page ∷ pages) = ap (λ (more : List ℕ). page.epoch ∷ more) (sealed-epochs page.epoch (next_hash provider epoch before page) pages)

  -- the roots have the epochs of the pages
  pub epochs_of : (book : Book) → map (λ (root : SignedRoot). root.body.epoch) (roots provider book) ≡ map (λ (page : Page). page.epoch) (pages book)
  epochs_of book = sealed-epochs 0 (replicate 32 0) (pages book)

  pub length-roots : (book : Book) → length (roots provider book) ≡ length (pages book)
  length-roots book = length_beside (λ (root : SignedRoot). root.body.epoch) (roots provider book) book (epochs_of book)

  -- the root at the place of a page is its root
  pub root_beside : (book : Book) (k : ℕ) (page : Page) (root : SignedRoot) → slice_get (pages book) k ≡ Some page → slice_get (roots provider book) k ≡ Some root → IsRootOf provider book page root
  root_beside book k page root is also =
      subst₂ (IsRootOf provider book) (get_or_from_slice_get (pages book) k page page is) (get_or_from_slice_get (roots provider book) k root root also)
      (rooted-at provider book k page root (slice_get_within (pages book) k page is))

  -- it is the signed body of the page, behind some other
  pub record IsSignedPage (page : Page) (root : SignedRoot) : Type 0 where
    pub previous_epoch : ℕ
    pub previous_hash : List ℕ
    pub is : root ≡ signed provider (body_behind provider previous_epoch previous_hash page)

  sealed-signed : (epoch : ℕ) (before : List ℕ) (pages : List Page) (each : SignedPage) → Contains (sealed_behind provider epoch before pages) each → IsSignedPage each.page each.root
  sealed-signed epoch before [] each is = absurd (none-there each is)
  sealed-signed epoch before (page ∷ pages) each is = elim (first-or-later _ _ each is) [
    | inl same ↦ subst (λ (x : SignedPage). IsSignedPage x.page x.root) same (record { previous_epoch = epoch; previous_hash = before; is = refl })
    | inr later ↦ sealed-signed page.epoch (next_hash provider epoch before page) pages each later
  ]

  pub root_signed : (book : Book) (page : Page) (root : SignedRoot) → IsRootOf provider book page root → IsSignedPage page root
  root_signed book page root is = sealed-signed 0 (replicate 32 0) (pages book) (record { page = page; root = root }) is

  -- ---- one page more

  record IsSealedBehind (last page : Page) (all more : List SignedRoot) : Type 0 where
    pub front : List SignedRoot
    pub root : SignedRoot
    pub all_is : all ≡ front ++ root ∷ []
    pub is : more ≡ all ++ signed provider (body_behind provider last.epoch (provider.hash (body_bytes root.body)) page) ∷ []

  sealed-behind : (epoch : ℕ) (before : List ℕ) (pages : List Page) (last page : Page)
      → IsSealedBehind last page (map Root (sealed_behind provider epoch before (pages ++ last ∷ []))) (map Root (sealed_behind provider epoch before ((pages ++ last ∷ []) ++ page ∷ [])))
  sealed-behind epoch before [] last page = record { front = []; root = signed provider (body_behind provider epoch before last); all_is = refl; is = refl }
  sealed-behind epoch before (first ∷ pages) last page =
      let next = sealed-behind first.epoch (next_hash provider epoch before first) pages last page in
      let root : SignedRoot = signed provider (body_behind provider epoch before first) in
      record {
        front = root ∷ next.front;
        root = next.root;
        all_is = ap (λ (more : List SignedRoot). root ∷ more) next.all_is;
        is = ap (λ (more : List SignedRoot). root ∷ more) next.is;
      }

  -- the root of a page more stands behind the last one
  pub sealed_pushed : (book : Book) (page : Page) (front : List SignedRoot) (last : SignedRoot) → roots provider book ≡ front ++ last ∷ []
      → roots provider (with_page book page) ≡ roots provider book ++ signed provider (body_behind provider book.last.epoch (provider.hash (body_bytes last.body)) page) ∷ []
  sealed_pushed book page front last is =
      let next = sealed-behind 0 (replicate 32 0) book.earlier book.last page in
      next.is ∙ ap (λ (root : SignedRoot). roots provider book ++ signed provider (body_behind provider book.last.epoch (provider.hash (body_bytes root.body)) page) ∷ [])
      (same_from_push next.front front next.root last (sym next.all_is ∙ is)).1

  pub roots_some : (book : Book) → 0 < length (roots provider book)
  roots_some book = omega (arith, length-roots book, length_push book.earlier book.last)

  -- the same, where the last is at the last place
  pub sealed_pushed-at : (book : Book) (page : Page) (last : SignedRoot) → slice_get (roots provider book) (length (roots provider book) - 1) ≡ Some last
      → roots provider (with_page book page) ≡ roots provider book ++ signed provider (body_behind provider book.last.epoch (provider.hash (body_bytes last.body)) page) ∷ []
  sealed_pushed-at book page last at =
      let e : Some (final last (roots provider book)) ≡ Some last = sym (slice_get-final last (roots provider book) (roots_some book)) ∙ at in
      let same : final last (roots provider book) ≡ last = cc in
      sealed_pushed book page (all_but_last (roots provider book)) last (sym (front_final last (roots provider book) (roots_some book)) ∙ ap (λ (root : SignedRoot). all_but_last (roots provider book) ++ root ∷ []) same)
