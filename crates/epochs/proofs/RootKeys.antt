-- Each root of a directory names the public key of its verifiable function.
use Rattle.std.proofs.Common.{◌≡◌, ℕ, List, [], ◌∷◌, Contains, replicate, refl, subst, inl, inr}
use Rattle.book.specs.Books.{Book, Page, pages}
use Rattle.book.specs.Shows.{Provider, SignedPage, sealed_behind, IsRootOf}
use Rattle.book.proofs.Members.{first-or-later, none-there}
use Rattle.rootchain.specs.declared.signed_root.SignedRoot.{SignedRoot}

-- each root has the public key of the verifiable function
key-behind : (provider : Provider) (epoch : ℕ) (before : List ℕ) (pages : List Page) (each : SignedPage) → Contains (sealed_behind provider epoch before pages) each → each.root.body.vuf_key ≡ provider.vuf_key
key-behind provider epoch before [] each is = absurd (none-there each is)
key-behind provider epoch before (page ∷ pages) each is = elim (first-or-later _ _ each is) [
  | inl same ↦ subst (λ (x : SignedPage). x.root.body.vuf_key ≡ provider.vuf_key) same refl
  | inr later ↦ key-behind provider page.epoch _ pages each later
]

pub root_key : (provider : Provider) (book : Book) (page : Page) (root : SignedRoot) → IsRootOf provider book page root → root.body.vuf_key ≡ provider.vuf_key
root_key provider book page root is = key-behind provider 0 (replicate 32 0) (pages book) (record { page = page; root = root }) is
