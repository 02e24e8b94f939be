-- The roots that a directory keeps beside its pages, one at each place.
use Rattle.std.proofs.Common.{ℕ, zero, suc, ◌<◌, List, [], ◌∷◌, length, map, take, drop, get_or, Contains, arith}
use Rattle.std.specs.List.{AllZip}
use Rattle.rootchain.specs.Bodies.{body_bytes}
use Rattle.rootchain.specs.declared.signed_root.SignedRoot.{SignedRoot}
use Rattle.book.specs.Books.{Book, Page, pages}
use Rattle.book.specs.Shows.{Provider, SignedPage, body_behind, roots, sealed_behind, IsRootOf}
use Rattle.book.proofs.Members.{first-there, later-there}

module _ {X Y : Type 0} (R : X → Y → Type 0) where
  zip-weaker : (S : X → Y → Type 0) → ((x : X) (y : Y) → R x y → S x y) → (xs : List X) (ys : List Y) → AllZip R xs ys → AllZip S xs ys
  zip-weaker S weaker [] [] all = tt
  zip-weaker S weaker [] (y ∷ ys) all = absurd all
  zip-weaker S weaker (x ∷ xs) [] all = absurd all
  zip-weaker S weaker (x ∷ xs) (y ∷ ys) all = (weaker x y all.0, zip-weaker S weaker xs ys all.1)

  zip-drop : (n : ℕ) (xs : List X) (ys : List Y) → AllZip R xs ys → AllZip R (drop n xs) (drop n ys)
  zip-drop zero xs ys all = all
  zip-drop (suc n) [] [] all = tt
  zip-drop (suc n) [] (y ∷ ys) all = absurd all
  zip-drop (suc n) (x ∷ xs) [] all = absurd all
  zip-drop (suc n) (x ∷ xs) (y ∷ ys) all = zip-drop n xs ys all.1

  pub zip-take : (n : ℕ) (xs : List X) (ys : List Y) → AllZip R xs ys → AllZip R (take n xs) (take n ys)
  zip-take zero xs ys all = tt
  zip-take (suc n) [] [] all = tt
  zip-take (suc n) [] (y ∷ ys) all = absurd all
  zip-take (suc n) (x ∷ xs) [] all = absurd all
  zip-take (suc n) (x ∷ xs) (y ∷ ys) all = (all.0, zip-take n xs ys all.1)

  zip-at : (k : ℕ) (xs : List X) (ys : List Y) (d : X) (e : Y) → k < length xs → AllZip R xs ys → R (get_or xs k d) (get_or ys k e)
  zip-at k [] [] d e p all = absurd (omega arith)
  zip-at k [] (y ∷ ys) d e p all = absurd all
  zip-at k (x ∷ xs) [] d e p all = absurd all
  zip-at zero (x ∷ xs) (y ∷ ys) d e p all = all.0
  zip-at (suc k) (x ∷ xs) (y ∷ ys) d e p all = zip-at k xs ys d e (omega arith) all.1

module _ (provider : Provider) where
  abbrev IsIn : List SignedPage → Page → SignedRoot → Type 0
  IsIn all page root = Contains all (record { page = page; root = root })

  zipped : (epoch : ℕ) (before : List ℕ) (pages : List Page) → AllZip (IsIn (sealed_behind provider epoch before pages)) pages (map (λ (each : SignedPage). each.root) (sealed_behind provider epoch before pages))
  zipped epoch before [] = tt
  zipped epoch before (page ∷ pages) = (first-there _ _, zip-weaker (IsIn rest) (IsIn (_ ∷ rest)) (λ other root is. later-there _ rest _ is) pages (map (λ (each : SignedPage). each.root) rest) (zipped page.epoch next pages))
    where
      next : List ℕ
      next = provider.hash (body_bytes (body_behind provider epoch before page))

      rest : List SignedPage
      rest = sealed_behind provider page.epoch next pages

  -- each page of a book stands beside its root
  pub all-rooted : (book : Book) → AllZip (IsRootOf provider book) (pages book) (roots provider book)
  all-rooted book = zipped 0 _ (pages book)

  -- at each place
  pub rooted-at : (book : Book) (k : ℕ) (page : Page) (root : SignedRoot) → k < length (pages book) → IsRootOf provider book (get_or (pages book) k page) (get_or (roots provider book) k root)
  rooted-at book k page root below = zip-at (IsRootOf provider book) k (pages book) (roots provider book) page root below (all-rooted book)

  -- and in each stretch
  pub rooted-part : (book : Book) (from count : ℕ) → AllZip (IsRootOf provider book) (take count (drop from (pages book))) (take count (drop from (roots provider book)))
  rooted-part book from count = zip-take (IsRootOf provider book) count _ _ (zip-drop (IsRootOf provider book) from (pages book) (roots provider book) (all-rooted book))
