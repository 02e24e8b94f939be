-- What calls read of a directory's parts: the page of an epoch, the promise that waits for a name, what a
-- page has at a name, and roots from an epoch on.
use Rattle.std.proofs.Common.{◌≡◌, ◌≢◌, ℕ, ◌-◌, ◌<◌, ◌≤◌, List, [], ◌∷◌, length, map, take, drop, get_or, slice_get, Bool, true, false, not, min, Option, Some, None, Ok, Err, ltb, refl, sym, ap, ap₂, subst, subst₂, ◌∙◌, ◌⊎◌, inl, inr, arith}
use Rattle.std.specs.Prelude.{IfSome, is_none}
use Rattle.std.specs.List.{AllZip}
use Rattle.std.specs.List.Sorted.{IsBinarySearchResult, IsNonDecreasingBy, IsPartitionPoint, IsPartitionedBy}
use Rattle.std.specs.Option.{option_and_then, option_map}
use Rattle.std.specs.Ordering.{nat_cmp}
use Rattle.std.specs.declared.cmp.Ordering.TheVariants.{Equal}
use Rattle.std.proofs.lemmas.Bool.{cases_lt, le-leb}
use Rattle.std.proofs.lemmas.Cmp.{ranked}
use Rattle.std.proofs.lemmas.List.{take_min}
use Rattle.std.proofs.lemmas.List.Sorted.{IsPartitionedBy-ltb}
use Rattle.std.proofs.lemmas.Option.{get_or_from_slice_get, slice_get-get_or, slice_get_read}
use Rattle.std.proofs.Math.Nat.{min_comm}
use Rattle.rand_core.specs.Stream.{Stream}
use Rattle.encoding.specs.Limits.{IsName}
use Rattle.prefixtree.specs.Contents.{Contents}
use Rattle.prefixtree.specs.Paths.{IsPath}
use Rattle.prefixtree.specs.declared.path.End.{End as PathEnd}
use Rattle.rootchain.specs.declared.signed_promise.SignedPromise.{SignedPromise}
use Rattle.rootchain.specs.declared.signed_root.SignedRoot.{SignedRoot}
use Rattle.proofs.specs.Replies.{reply_bytes}
use Rattle.encoding.specs.declared.bound_key.BoundKey.{BoundKey}
use Rattle.book.specs.declared.directory_refusal.Refusal.{Refusal}
use Rattle.book.specs.declared.directory_refusal.Refusal.TheVariants.{BadName, NoPromise, NoSuchEpoch}
use Rattle.book.specs.declared.reply.Reply.TheVariants as reply
use Rattle.book.specs.Steps.{Found, Promised, Told, bad_name, first, has_length_within, refusal, page_range, found_in, promise_outcome}
use Rattle.commands.specs.Operations.{History, Lookup, Promise, Query}
use Rattle.book.specs.Books.{Binding, Book, Page, page_at, pages}
use Rattle.encoding.specs.Maps.{at}
use Rattle.book.specs.Shows.{Provider, index_of, roots, reply_end, IsRootOf}
use Rattle.book.specs.Turns.{IsReadAnswer, IsRefused, ReadsOnly, Shows}
use Rattle.book.proofs.Rooted.{rooted-part}
use Rattle.book.proofs.Stepping.{does_steps, due_steps}
use Rattle.epochs.specs.Histories.{chosen, binding_at}
use Rattle.epochs.specs.Parts.{Keeps, Parts, last_root, page_of, tree_of}
use Rattle.epochs.proofs.Finding.{ascend_beside, epochs_of, length_beside, page_found_beside, page_missing_beside, told_from_beside}
use Rattle.epochs.proofs.Parts.{book_of, last_get, page_kept, root_kept, tree_kept}

two-pass : (a b : Bool) (u v : Refusal) → a ≡ false → b ≡ false → first ((a, u) ∷ (b, v) ∷ []) ≡ None
two-pass a b u v e f = rw (e, f) refl

pub name-passes : (name : List ℕ) → IsName name → not (has_length_within 1 255 name) ≡ false
name-passes name is = rw (le-leb 1 (length name) is.0, le-leb (length name) 255 is.1) refl

-- the promise of the key that waits is one to read
pub promise_reads : (provider : Provider) (book : Book) (name : List ℕ) (key : BoundKey) (signed : SignedPromise) → IsName name → Some key ≡ option_map (λ (binding : Binding). binding.key) (at book.pending name)
    → ((salt : List ℕ) → Shows provider book (Promised name (record { key = key; salt = salt })) (reply.Promised signed)) → ReadsOnly provider book (Query (Promise name)) (reply.Promised signed)
promise_reads provider book name key signed named waits shows = by (at book.pending name) refl waits
  where
    by : (found : Option Binding) → at book.pending name ≡ found → Some key ≡ option_map (λ (binding : Binding). binding.key) found → ReadsOnly provider book (Query (Promise name)) (reply.Promised signed)
    by None is e = absurd cc
    by (Some binding) is e =
        let same : key ≡ binding.key = cc in
        let none : refusal (index_of provider) book (Query (Promise name)) ≡ None =
        two-pass (not (has_length_within 1 255 name)) (is_none (at book.pending name)) BadName NoPromise (name-passes name named) (ap (λ (o : Option Binding). is_none o) is) in (
          Promised name binding,
          does_steps (index_of provider) book (Query (Promise name)) (Promised name binding) book none (ap (promise_outcome name) is, refl),
          subst (λ (k : BoundKey). Shows provider book (Promised name (record { key = k; salt = binding.salt })) (reply.Promised signed)) same (shows binding.salt),
        )

-- ---- of parts that keep their book

module _ (provider : Provider) (parts : Parts) (salt : List ℕ) (left : Stream) (keeps : Keeps provider parts (book_of parts salt left)) where
  abbrev the_book : Book
  the_book = book_of parts salt left

  abbrev epoch_of : SignedRoot → ℕ
  epoch_of root = root.body.epoch

  epochs-kept : map epoch_of parts.roots ≡ map (λ (page : Page). page.epoch) (pages the_book)
  epochs-kept = ap (map epoch_of) keeps.roots ∙ epochs_of provider the_book

  length-kept : length parts.roots ≡ length (pages the_book)
  length-kept = length_beside epoch_of parts.roots the_book epochs-kept

  -- a place of a root is one of a page
  pub page_within : (place : ℕ) → place < length parts.roots → place < length (pages the_book)
  page_within place below = omega (arith, below, length-kept)

  pub root_within : (place : ℕ) → place < length (pages the_book) → place < length parts.roots
  root_within place below = omega (arith, below, length-kept)

  pub last_within : (count : ℕ) → count ≡ length parts.roots → count - 1 < length (pages the_book)
  last_within count is = omega (arith, is, keeps.begun, length-kept)

  -- the page of epoch 0 is the last one
  pub last_page : (epoch count : ℕ) → epoch ≡ 0 → count ≡ length parts.roots → page_at the_book epoch ≡ slice_get (pages the_book) (count - 1)
  last_page epoch count zero is =
      ap (page_at the_book) zero
      ∙ sym (ap (λ (n : ℕ). slice_get (pages the_book) (n - 1)) is ∙ page_kept parts keeps.begun salt left (length parts.roots - 1) (last_root parts) (last_get parts keeps.begun))

  -- where a search among the roots finds an epoch, its page stands
  pub searched_page : (epoch place : ℕ) → epoch ≢ 0 → place < length parts.roots → IsBinarySearchResult (λ (root : SignedRoot). nat_cmp root.body.epoch epoch) parts.roots (Ok place)
      → page_at the_book epoch ≡ slice_get (pages the_book) place
  searched_page epoch place some below searched =
      page_found_beside epoch_of parts.roots the_book epochs-kept epoch place root (page_of parts.names place root) keeps.sound.ascend there page
      (ranked root.body.epoch epoch Equal (sym (searched (last_root parts)))) some
      ∙ sym page
    where
      root : SignedRoot
      root = get_or parts.roots place (last_root parts)

      there : slice_get parts.roots place ≡ Some root
      there = slice_get-get_or parts.roots place (last_root parts) below

      page : slice_get (pages the_book) place ≡ Some (page_of parts.names place root)
      page = page_kept parts keeps.begun salt left place root there

  -- and where it finds none, there is no page
  pub missing_page : (epoch place : ℕ) → epoch ≢ 0 → IsBinarySearchResult (λ (root : SignedRoot). nat_cmp root.body.epoch epoch) parts.roots (Err place) → page_at the_book epoch ≡ None
  missing_page epoch place some searched = page_missing_beside epoch_of parts.roots the_book epochs-kept epoch place keeps.sound.ascend searched some

  -- the reply of what stands at the place of a page is one to read
  pub lookup_reads : (name : List ℕ) (epoch place : ℕ) (root : SignedRoot) (tree : Contents) (value index : List ℕ) (siblings : List (List ℕ)) (end : PathEnd) (found : Option Binding) (text : List ℕ)
      → IsName name → page_at the_book epoch ≡ slice_get (pages the_book) place → place < length (pages the_book) → root ≡ get_or parts.roots place root → tree ≡ get_or parts.trees place tree
      → value ≡ provider.value name → index ≡ provider.hash value → IsPath provider.hash tree.nonce tree.items index siblings end → found ≡ at (chosen (binding_at place) parts.names) name
      → text ≡ reply_bytes (record { body = root.body; value = value; end = reply_end index found end; siblings = siblings })
      → ReadsOnly provider the_book (Query (Lookup name epoch)) (reply.Found text)
  lookup_reads name epoch place root tree value index siblings end found text named is below there tree_there value_is index_is path found_is spelled = (
    Found page name (at page.bindings name),
    does_steps (index_of provider) the_book (Query (Lookup name epoch)) (Found page name (at page.bindings name)) the_book none (ap (found_in name) the_page, refl),
    (
      page,
      name,
      at page.bindings name,
      root,
      refl,
      root_kept provider parts salt left keeps place root at_place,
      record {
        siblings = siblings;
        end = end;
        path = subst₂ (λ (contents : Contents) (i : List ℕ). IsPath provider.hash contents.nonce contents.items i siblings end) same_tree same_index path;
        spelled =
            spelled ∙ ap (λ (v : List ℕ). reply_bytes (record { body = root.body; value = v; end = reply_end index found end; siblings = siblings })) value_is
            ∙ ap₂ (λ (i : List ℕ) (o : Option Binding). reply_bytes (record { body = root.body; value = provider.value name; end = reply_end i o end; siblings = siblings })) same_index found_is;
      },
    ),
  )
    where
      page : Page
      page = page_of parts.names place root

      at_place : slice_get parts.roots place ≡ Some root
      at_place = slice_get_read parts.roots (length parts.roots) place root refl (root_within place below) there

      the_page : page_at the_book epoch ≡ Some page
      the_page = is ∙ page_kept parts keeps.begun salt left place root at_place

      none : refusal (index_of provider) the_book (Query (Lookup name epoch)) ≡ None
      none =
          two-pass (not (has_length_within 1 255 name)) (is_none (page_at the_book epoch)) BadName NoSuchEpoch (name-passes name named) (ap (λ (o : Option Page). is_none o) the_page)

      tree_at : slice_get parts.trees place ≡ Some (tree_of provider page)
      tree_at = tree_kept provider parts salt left keeps place root at_place

      same_tree : tree ≡ tree_of provider page
      same_tree = tree_there ∙ get_or_from_slice_get parts.trees place (tree_of provider page) tree tree_at

      same_index : index ≡ index_of provider name
      same_index = index_is ∙ ap provider.hash value_is

  -- a look-up of what is no name, or where no page was found, is one to refuse
  pub lookup_refused : (name : List ℕ) (epoch : ℕ) (place : Option ℕ) (why : Refusal) → page_at the_book epoch ≡ option_and_then (λ (k : ℕ). slice_get (pages the_book) k) place
      → IfSome place (λ (k : ℕ). k < length (pages the_book)) → first (bad_name name ∷ (is_none place, NoSuchEpoch) ∷ []) ≡ Some why
      → IsRefused provider the_book (Query (Lookup name epoch)) why
  lookup_refused name epoch place why is within due =
      due_steps (index_of provider) the_book (Query (Lookup name epoch)) why (ap (λ (none : Bool). first (bad_name name ∷ (none, NoSuchEpoch) ∷ [])) (ap is_none is ∙ by place within) ∙ due)
    where
      by : (o : Option ℕ) → IfSome o (λ (k : ℕ). k < length (pages the_book)) → is_none (option_and_then (λ (k : ℕ). slice_get (pages the_book) k) o) ≡ is_none o
      by None below = refl
      by (Some k) below = ap (λ (o : Option Page). is_none o) (slice_get-get_or (pages the_book) k the_book.last below)

  -- epochs ascend, so that those below one stand before the others
  pub roots_parted : (from : ℕ) → IsPartitionedBy (λ (root : SignedRoot). ltb root.body.epoch from) parts.roots
  roots_parted from = IsPartitionedBy-ltb epoch_of parts.roots from rising
    where
      rising : IsNonDecreasingBy epoch_of parts.roots
      rising i j d le below = by (cases_lt i j)
        where
          by : (i < j) ⊎ (j ≤ i) → epoch_of (get_or parts.roots i d) ≤ epoch_of (get_or parts.roots j d)
          by (inl less) = omega (arith, ascend_beside epoch_of parts.roots the_book epochs-kept keeps.sound.ascend i j d less below)
          by (inr behind) =
              let same : i ≡ j = omega (arith, le, behind) in
              omega (arith, ap (λ (n : ℕ). epoch_of (get_or parts.roots n d)) same)

  -- the roots from an epoch on are those to read
  pub history_reads : (from count start end : ℕ) (later given : List SignedRoot) → count ≢ 0 → count ≤ 64
      → IsPartitionPoint (λ (root : SignedRoot). ltb root.body.epoch from ≡ true) (λ (root : SignedRoot). ltb root.body.epoch from ≡ false) parts.roots start
      → later ≡ drop start parts.roots → end ≡ min (length later) count → given ≡ take end later
      → (told_pages : List Page) × IsReadAnswer provider the_book (Query (History from count)) (Told told_pages) × AllZip (IsRootOf provider the_book) told_pages given
  history_reads from count start end later given some few point later_is end_is given_is = (
    page_range the_book from count,
    does_steps (index_of provider) the_book (Query (History from count)) (Told (page_range the_book from count)) the_book none (refl, refl),
    subst₂ (λ (told_pages : List Page) (told_roots : List SignedRoot). AllZip (IsRootOf provider the_book) told_pages told_roots) (sym pages_are) (sym roots_are) (rooted-part provider the_book start count),
  )
    where
      none : refusal (index_of provider) the_book (Query (History from count)) ≡ None
      none = rw (le-leb 1 count (omega (arith, some)), le-leb count 64 few) refl

      pages_are : page_range the_book from count ≡ take count (drop start (pages the_book))
      pages_are = told_from_beside epoch_of parts.roots the_book epochs-kept from count start point

      roots_are : given ≡ take count (drop start (roots provider the_book))
      roots_are =
          given_is ∙ ap (λ (n : ℕ). take n later) (end_is ∙ min_comm (length later) count) ∙ take_min count later ∙ ap (take count) (later_is ∙ ap (drop start) keeps.roots)
