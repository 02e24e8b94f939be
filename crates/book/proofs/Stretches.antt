-- The roots of a list that a book tells stand one behind another.
use Rattle.std.proofs.Common.{◌≡◌, ℕ, suc, ◌≤◌, ◌<◌, List, [], ◌∷◌, ◌++◌, take, drop, filter, Bool, true, false, cond, AllPairs, Contains, refl, sym, ap, subst, ◌∙◌, arith, take-append-drop, append_assoc}
use Rattle.std.specs.Prelude.{nat_le}
use Rattle.std.specs.List.{AllByRecursion, AllZip}
use Rattle.std.proofs.lemmas.Bool.{leb-true, le-leb}
use Rattle.std.proofs.lemmas.List.Elements.{All-from_recursion, Contains-append_left, Contains-append_right}
use Rattle.std.proofs.lemmas.List.Kept.{AllPairs-cons}
use Rattle.rootchain.specs.declared.signed_root.SignedRoot.{SignedRoot}
use Rattle.book.specs.Steps.{page_range}
use Rattle.book.specs.Books.{Book, Page, pages}
use Rattle.book.specs.Honest.{AreConsecutive}
use Rattle.book.specs.Shows.{Provider, roots, IsRootOf}
use Rattle.book.proofs.OneRoot.{same-roots}
use Rattle.book.proofs.Rooted.{rooted-part}
use Rattle.book.proofs.Sealing.{Climb}
use Rattle.book.proofs.Soundness.{IsBefore}

climb-above : (epoch : ℕ) (pages : List Page) → Climb epoch pages → AllByRecursion (λ (page : Page). epoch < page.epoch) pages
climb-above epoch [] climb = tt
climb-above epoch (page ∷ pages) climb = (climb.0, lower pages (climb-above page.epoch pages climb.1))
  where
    lower : (more : List Page) → AllByRecursion (λ (each : Page). page.epoch < each.epoch) more → AllByRecursion (λ (each : Page). epoch < each.epoch) more
    lower [] above = tt
    lower (each ∷ more) above = (omega (arith, climb.0, above.0), lower more above.1)

-- pages that climb ascend
pub climb-ascend : (epoch : ℕ) (pages : List Page) → Climb epoch pages → AllPairs IsBefore pages
climb-ascend epoch [] climb = λ i j d p q. absurd (omega arith)
climb-ascend epoch (page ∷ pages) climb =
    AllPairs-cons IsBefore page pages
    (All-from_recursion (λ (each : Page). page.epoch < each.epoch) pages (climb-above page.epoch pages climb.1))
    (climb-ascend page.epoch pages climb.1)

-- the pages of at least this epoch are the last ones
module _ (from : ℕ) where
  abbrev is_late : Page → Bool
  is_late page = nat_le from page.epoch

  all-late : (epoch : ℕ) (pages : List Page) → Climb epoch pages → from ≤ epoch → filter is_late pages ≡ pages
  all-late epoch [] climb low = refl
  all-late epoch (page ∷ pages) climb low =
      ap (λ (t : Bool). cond t (page ∷ filter is_late pages) (filter is_late pages)) (le-leb from page.epoch (omega (arith, low, climb.0)))
      ∙ ap (λ (more : List Page). page ∷ more) (all-late page.epoch pages climb.1 (omega (arith, low, climb.0)))

  late-are-last : (epoch : ℕ) (pages : List Page) → Climb epoch pages → (k : ℕ) × (filter is_late pages ≡ drop k pages)
  late-are-last epoch [] climb = (0, refl)
  late-are-last epoch (page ∷ pages) climb = by (nat_le from page.epoch) refl (late-are-last page.epoch pages climb.1)
    where
      by : (t : Bool) → nat_le from page.epoch ≡ t → (k : ℕ) × (filter is_late pages ≡ drop k pages)
          → (k : ℕ) × (cond t (page ∷ filter is_late pages) (filter is_late pages) ≡ drop k (page ∷ pages))
      by true is more = (0, ap (λ (all : List Page). page ∷ all) (all-late page.epoch pages climb.1 (leb-true from page.epoch is)))
      by false is more = (suc more.0, more.1)

-- ---- roots that stand one behind another

pub consecutive-more : (all some more : List SignedRoot) → AreConsecutive all some → AreConsecutive (all ++ more) some
consecutive-more all some more (front, back, is) = (
  front,
  back ++ more,
  ap (λ (roots : List SignedRoot). roots ++ more) is ∙ append_assoc front (some ++ back) more ∙ ap (λ (rest : List SignedRoot). front ++ rest) (append_assoc some back more),
)

pub consecutive-there : (all some : List SignedRoot) → AreConsecutive all some → (root : SignedRoot) → Contains some root → Contains all root
consecutive-there all some (front, back, is) root there =
    subst (λ (roots : List SignedRoot). Contains roots root) (sym is) (Contains-append_right front (some ++ back) root (Contains-append_left some back root there))

module _ (provider : Provider) where
  pub told-consecutive : (book : Book) → Climb 0 (pages book) → (from count : ℕ) (items : List SignedRoot) → AllZip (IsRootOf provider book) (page_range book from count) items
      → AreConsecutive (roots provider book) items
  told-consecutive book climb from count items is =
      let late = late-are-last from 0 (pages book) climb in
      let zip = subst (λ (some : List Page). AllZip (IsRootOf provider book) (take count some) items) late.1 is in
      let same = same-roots provider book (climb-ascend 0 (pages book) climb) (take count (drop late.0 (pages book))) items (take count (drop late.0 (roots provider book)))
      zip (rooted-part provider book late.0 count) in (
        take late.0 (roots provider book),
        drop count (drop late.0 (roots provider book)),
        subst (λ (some : List SignedRoot). roots provider book ≡ take late.0 (roots provider book) ++ (some ++ drop count (drop late.0 (roots provider book)))) (sym same)
            (sym (ap (λ (rest : List SignedRoot). take late.0 (roots provider book) ++ rest) (take-append-drop count (drop late.0 (roots provider book))) ∙ take-append-drop late.0 (roots provider book))),
      )
