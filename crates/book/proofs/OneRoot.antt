-- Each page of a book has one root, so that a list of pages has one list of roots.
use Rattle.std.proofs.Common.{◌≡◌, ℕ, suc, ◌<◌, List, [], ◌∷◌, replicate, AllPairs, Contains, refl, sym, ap, ap₂, subst, ◌∙◌, inl, inr, arith}
use Rattle.std.specs.List.{AllZip}
use Rattle.rootchain.specs.declared.signed_root.SignedRoot.{SignedRoot}
use Rattle.book.specs.Books.{Book, Page, pages}
use Rattle.book.specs.Shows.{Provider, SignedPage, sealed_behind, IsRootOf}
use Rattle.book.proofs.Members.{first-or-later, none-there}
use Rattle.book.proofs.Sealing.{sealed-page}
use Rattle.book.proofs.Soundness.{IsBefore}

below-first : (first : Page) (more : List Page) → AllPairs IsBefore (first ∷ more) → (page : Page) → Contains more page → first.epoch < page.epoch
below-first first more ascend page (k, within, is) = subst (λ (p : Page). first.epoch < p.epoch) is (ascend 0 (suc k) page (omega arith) (omega (arith, within)))

without-first : (first : Page) (more : List Page) → AllPairs IsBefore (first ∷ more) → AllPairs IsBefore more
without-first first more ascend = λ i j d less within. ascend (suc i) (suc j) d (omega (arith, less)) (omega (arith, within))

module _ (provider : Provider) where
  abbrev sealed : Page → SignedRoot → SignedPage
  sealed page root = record { page = page; root = root }

  one-behind : (epoch : ℕ) (before : List ℕ) (all : List Page) → AllPairs IsBefore all → (page : Page) (root other : SignedRoot)
      → Contains (sealed_behind provider epoch before all) (sealed page root) → Contains (sealed_behind provider epoch before all) (sealed page other) → root ≡ other
  one-behind epoch before [] ascend page root other is also = absurd (none-there _ is)
  one-behind epoch before (first ∷ more) ascend page root other is also = elim (first-or-later _ _ _ is) [
    | inl same ↦ elim (first-or-later _ _ _ also) [
      | inl too ↦ ap (λ (each : SignedPage). each.root) (sym same ∙ too)
      | inr later ↦ absurd (clash _ other (ap (λ (each : SignedPage). each.page) same) later)
    ]
    | inr later ↦ elim (first-or-later _ _ _ also) [
      | inl too ↦ absurd (clash _ root (ap (λ (each : SignedPage). each.page) too) later)
      | inr farther ↦ one-behind first.epoch _ more (without-first first more ascend) page root other later farther
    ]
  ]
    where
      clash : (hash : List ℕ) (one : SignedRoot) → first ≡ page → Contains (sealed_behind provider first.epoch hash more) (sealed page one) → ⊥
      clash hash one same there =
          let e : first.epoch ≡ page.epoch = ap (λ (p : Page). p.epoch) same in
          let less : first.epoch < page.epoch = below-first first more ascend page (sealed-page provider first.epoch hash more (sealed page one) there) in
          absurd (omega (arith, e, less))

  pub one-root : (book : Book) → AllPairs IsBefore (pages book) → (page : Page) (root other : SignedRoot) → IsRootOf provider book page root → IsRootOf provider book page other → root ≡ other
  one-root book ascend = one-behind 0 (replicate 32 0) (pages book) ascend

  pub same-roots : (book : Book) → AllPairs IsBefore (pages book) → (told : List Page) (roots others : List SignedRoot) → AllZip (IsRootOf provider book) told roots → AllZip (IsRootOf provider book) told others → roots ≡ others
  same-roots book ascend [] [] [] is also = refl
  same-roots book ascend [] [] (other ∷ others) is also = absurd also
  same-roots book ascend [] (root ∷ roots) others is also = absurd is
  same-roots book ascend (page ∷ told) [] others is also = absurd is
  same-roots book ascend (page ∷ told) (root ∷ roots) [] is also = absurd also
  same-roots book ascend (page ∷ told) (root ∷ roots) (other ∷ others) is also =
      ap₂ (λ (r : SignedRoot) (rs : List SignedRoot). r ∷ rs) (one-root book ascend page root other is.0 also.0) (same-roots book ascend told roots others is.1 also.1)
