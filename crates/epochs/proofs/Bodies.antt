-- The bodies of a sound book's roots are well formed, and within their limits.
use Rattle.std.proofs.Common.{◌≡◌, ℕ, zero, suc, ◌-◌, ◌<◌, ◌^◌, List, [], ◌∷◌, length, map, replicate, slice_get, Some, All, refl, subst, arith}
use Rattle.std.specs.List.{AllByRecursion}
use Rattle.std.proofs.lemmas.List.Elements.{recursion_from_All}
use Rattle.rand_core.specs.Stream.{Stream}
use Rattle.encoding.specs.Bytes.{Is32Bytes}
use Rattle.encoding.proofs.ByteLists.{IsBytes-zeros}
use Rattle.rootchain.specs.Bodies.{IsBody, IsWellFormed}
use Rattle.rootchain.specs.declared.signed_root.SignedRoot.{SignedRoot}
use Rattle.book.specs.Books.{Book, Page, pages}
use Rattle.book.specs.Shows.{Provider, body_behind, index_of, placement, roots, sealed_behind}
use Rattle.book.specs.Sound.{IsPage, IsSound}
use Rattle.book.proofs.Sealing.{Climb, Root, next_hash}
use Rattle.book.proofs.Sizes.{node-size}
use Rattle.epochs.specs.Parts.{Keeps, Parts, last_root}
use Rattle.epochs.proofs.Finding.{EpochsAscend}
use Rattle.epochs.proofs.Parts.{book_of, last_get}

-- pages that ascend above an epoch climb from it
ascend-climb : (epoch : ℕ) (pages : List Page) → EpochsAscend pages → AllByRecursion (λ (page : Page). epoch < page.epoch) pages → Climb epoch pages
ascend-climb epoch [] up above = tt
ascend-climb epoch (page ∷ pages) up above =
    (above.0, ascend-climb page.epoch pages (λ i j d p q. up (suc i) (suc j) d (omega (arith, p)) (omega (arith, q))) (recursion_from_All (λ (each : Page). page.epoch < each.epoch) pages higher))
  where
    higher : All (λ (each : Page). page.epoch < each.epoch) pages
    higher k d within = up zero (suc k) d (omega arith) (omega (arith, within))

from-one : (pages : List Page) → AllByRecursion IsPage pages → AllByRecursion (λ (page : Page). 0 < page.epoch) pages
from-one [] are = tt
from-one (page ∷ pages) are = (are.0.epoch.0, from-one pages are.1)

pub sound_climb : (index_of : List ℕ → List ℕ) (book : Book) → IsSound index_of book → Climb 0 (pages book)
sound_climb index_of book sound = ascend-climb 0 (pages book) sound.ascend (from-one (pages book) (recursion_from_All IsPage (pages book) sound.pages))

-- what holds of all elements holds of the one at a place
all-get : {X : Type 0} (P : X → Type 0) (xs : List X) (k : ℕ) (x : X) → AllByRecursion P xs → slice_get xs k ≡ Some x → P x
all-get P [] k x all is = absurd cc
all-get P (y ∷ ys) zero x all is = let same : y ≡ x = cc in subst P same all.0
all-get P (y ∷ ys) (suc k) x all is = all-get P ys k x all.1 is

module _ (provider : Provider) where
  formed : (epoch : ℕ) (before : List ℕ) (pages : List Page) → (epoch ≡ 0 → before ≡ replicate 32 0) → Climb epoch pages
      → AllByRecursion (λ (root : SignedRoot). IsWellFormed root.body) (map Root (sealed_behind provider epoch before pages))
  formed epoch before [] zeros climb = tt
  formed epoch before (page ∷ pages) zeros climb = ((climb.0, zeros), formed page.epoch (next_hash provider epoch before page) pages (never climb.0) climb.1)
    where
      never : epoch < page.epoch → page.epoch ≡ 0 → next_hash provider epoch before page ≡ replicate 32 0
      never above none = absurd (omega (arith, above, none))

  module _ (size : (text : List ℕ) → Is32Bytes (provider.hash text)) (key_size : Is32Bytes provider.vuf_key) where
    sized : (epoch : ℕ) (before : List ℕ) (pages : List Page) → epoch < 2 ^ 64 → Is32Bytes before → AllByRecursion IsPage pages
        → AllByRecursion (λ (root : SignedRoot). IsWellFormed root.body) (map Root (sealed_behind provider epoch before pages))
        → AllByRecursion (λ (root : SignedRoot). IsBody root.body) (map Root (sealed_behind provider epoch before pages))
    sized epoch before [] fits sized_before are formed = tt
    sized epoch before (page ∷ pages) fits sized_before are formed = (here, sized page.epoch (next_hash provider epoch before page) pages are.0.epoch.1 (size _) are.1 formed.1)
      where
        here : IsBody (body_behind provider epoch before page)
        here =
            (formed.0, (are.0.epoch.1, fits, node-size provider.hash size page.nonce (replicate 32 0) 256 (placement provider page.bindings) (λ more. omega arith), sized_before, are.0.nonce, key_size))

  pub roots_formed : (book : Book) → IsSound (index_of provider) book → AllByRecursion (λ (root : SignedRoot). IsWellFormed root.body) (roots provider book)
  roots_formed book sound = formed 0 (replicate 32 0) (pages book) (λ none. refl) (sound_climb (index_of provider) book sound)

  pub roots_within : ((text : List ℕ) → Is32Bytes (provider.hash text)) → Is32Bytes provider.vuf_key → (book : Book) → IsSound (index_of provider) book
      → AllByRecursion (λ (root : SignedRoot). IsBody root.body) (roots provider book)
  roots_within size key_size book sound =
      sized size key_size 0 (replicate 32 0) (pages book) (omega arith) (refl, IsBytes-zeros 32) (recursion_from_All IsPage (pages book) sound.pages) (roots_formed book sound)

  -- ---- of parts that keep their book

  module _ (parts : Parts) (salt : List ℕ) (left : Stream) (keeps : Keeps provider parts (book_of parts salt left)) where
    pub body_formed : (k : ℕ) (root : SignedRoot) → slice_get parts.roots k ≡ Some root → IsWellFormed root.body
    body_formed k root is =
        all-get (λ (root : SignedRoot). IsWellFormed root.body) (roots provider (book_of parts salt left)) k root (roots_formed (book_of parts salt left) keeps.sound)
        (subst (λ (l : List SignedRoot). slice_get l k ≡ Some root) keeps.roots is)

    pub last_body_formed : IsWellFormed (last_root parts).body
    last_body_formed = body_formed (length parts.roots - 1) (last_root parts) (last_get parts keeps.begun)

    pub body_within : ((text : List ℕ) → Is32Bytes (provider.hash text)) → Is32Bytes provider.vuf_key → (k : ℕ) (root : SignedRoot) → slice_get parts.roots k ≡ Some root → IsBody root.body
    body_within size key_size k root is =
        all-get (λ (root : SignedRoot). IsBody root.body) (roots provider (book_of parts salt left)) k root (roots_within size key_size (book_of parts salt left) keeps.sound)
        (subst (λ (l : List SignedRoot). slice_get l k ≡ Some root) keeps.roots is)

    pub last_body_within : ((text : List ℕ) → Is32Bytes (provider.hash text)) → Is32Bytes provider.vuf_key → IsBody (last_root parts).body
    last_body_within size key_size = body_within size key_size (length parts.roots - 1) (last_root parts) (last_get parts keeps.begun)
