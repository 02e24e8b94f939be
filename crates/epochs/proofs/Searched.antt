-- Where a search by number ends among versions that ascend, and what is shown and waits there.
use Rattle.std.proofs.Common.{◌≡◌, ℕ, zero, suc, ◌<◌, ◌≤◌, List, [], ◌∷◌, length, get_or, Option, Some, None, nat_le, nat_eq, if◌then◌else◌, refl, sym, ap, ◌∙◌, subst, arith, true, false}
use Rattle.std.specs.List.{AllByRecursion}
use Rattle.std.specs.List.Sorted.{IsNonDecreasingBy, IsPartitionPoint}
use Rattle.std.proofs.lemmas.Bool.{le-leb, leb-false, leb-true, lt-leb, ne_eqb}
use Rattle.book.specs.Books.{Binding}
use Rattle.epochs.specs.Histories.{Version, or_else, binding_at, waiting}
use Rattle.epochs.specs.Versions.{Ascends}

-- the versions before this place are of page p or earlier ones, and the others of later ones
abbrev pub Ends : ℕ → List Version → ℕ → Type 0
Ends p versions place = IsPartitionPoint (λ version. version.number ≤ p) (λ version. p < version.number) versions place

all-get : (P : Version → Type 0) (versions : List Version) (i : ℕ) (d : Version) → AllByRecursion P versions → i < length versions → P (get_or versions i d)
all-get P [] i d all within = absurd (omega arith)
all-get P (v ∷ vs) zero d all within = all.0
all-get P (v ∷ vs) (suc i) d all within = all-get P vs i d all.1 (omega arith)

pub non_decreasing : (versions : List Version) → Ascends versions → IsNonDecreasingBy (λ version. version.number) versions
non_decreasing [] up i j d le within = absurd (omega arith)
non_decreasing (v ∷ vs) up zero zero d le within = omega arith
non_decreasing (v ∷ vs) up zero (suc j) d le within = omega (arith, all-get (λ later. v.number < later.number) vs j d up.0 (omega arith))
non_decreasing (v ∷ vs) up (suc i) zero d le within = absurd (omega arith)
non_decreasing (v ∷ vs) up (suc i) (suc j) d le within = non_decreasing vs up.1 i j d (omega arith) (omega arith)

module _ (p : ℕ) where
  here : (v : Version) (vs : List Version) → Ends p (v ∷ vs) zero → Ends p vs zero
  here v vs ends = ((λ k d a b. absurd (omega arith)), (λ k d a b. ends.1 (suc k) d (omega arith) (omega arith)))

  onward : (v : Version) (vs : List Version) (i : ℕ) → Ends p (v ∷ vs) (suc i) → Ends p vs i
  onward v vs i ends = ((λ k d a b. ends.0 (suc k) d (omega arith) (omega arith)), (λ k d a b. ends.1 (suc k) d (omega arith) (omega arith)))

  shown-before : (versions : List Version) → Ends p versions zero → binding_at p versions ≡ None
  shown-before [] ends = refl
  shown-before (v ∷ vs) ends = rw (shown-before vs (here v vs ends), lt-leb v.number p (ends.1 zero v (omega arith) (omega arith))) refl

  waiting-before : (versions : List Version) → Ends p versions zero → waiting p versions ≡ None
  waiting-before [] ends = refl
  waiting-before (v ∷ vs) ends = rw (waiting-before vs (here v vs ends), ne_eqb v.number p (omega (arith, ends.1 zero v (omega arith) (omega arith)))) refl

  shown-found : (versions : List Version) (i : ℕ) (version : Version) → Ends p versions (suc i) → i < length versions → version ≡ get_or versions i version → binding_at p versions ≡ Some version.binding
  shown-found [] i version ends within is = absurd (omega arith)
  shown-found (v ∷ vs) zero version ends within is =
      rw (shown-before vs (onward v vs zero ends), le-leb v.number p (ends.0 zero v (omega arith) (omega arith))) (ap (λ (w : Version). Some w.binding) (sym is))
  shown-found (v ∷ vs) (suc i) version ends within is = rw (shown-found vs i version (onward v vs (suc i) ends) (omega arith) is) refl

  waiting-found : (versions : List Version) (i : ℕ) (version : Version) → Ascends versions → Ends p versions (suc i) → i < length versions → version ≡ get_or versions i version
      → waiting p versions ≡ (if nat_eq version.number p then Some version.binding else None)
  waiting-found [] i version up ends within is = absurd (omega arith)
  waiting-found (v ∷ vs) zero version up ends within is =
      rw (waiting-before vs (onward v vs zero ends)) (ap (λ (w : Version). if nat_eq w.number p then Some w.binding else None) (sym is))
  waiting-found (v ∷ vs) (suc i) version up ends within is =
      let later : v.number < (get_or vs i version).number = all-get (λ later. v.number < later.number) vs i version up.0 (omega arith) in
      let early : (get_or vs i version).number ≤ p = ends.0 (suc i) version (omega arith) (omega arith) in
      rw (ne_eqb v.number p (omega arith)) (last (waiting p vs) ∙ waiting-found vs i version up.1 (onward v vs (suc i) ends) (omega arith) is)
    where
      last : (o : Option Binding) → or_else o None ≡ o
      last None = refl
      last (Some x) = refl

-- the same at the place before
pub shown-at : (p : ℕ) (versions : List Version) (place i : ℕ) (version : Version) → Ends p versions place → place ≡ suc i → place ≤ length versions → version ≡ get_or versions i version → binding_at p versions ≡ Some version.binding
shown-at p versions place i version ends is within same = shown-found p versions i version (subst (Ends p versions) is ends) (omega arith) same

pub waiting-at : (p : ℕ) (versions : List Version) (place i : ℕ) (version : Version) → Ascends versions → Ends p versions place → place ≡ suc i → place ≤ length versions → version ≡ get_or versions i version
    → waiting p versions ≡ (if nat_eq version.number p then Some version.binding else None)
waiting-at p versions place i version up ends is within same = waiting-found p versions i version up (subst (Ends p versions) is ends) (omega arith) same

pub shown-none : (p : ℕ) (versions : List Version) (place : ℕ) → Ends p versions place → place ≡ 0 → binding_at p versions ≡ None
shown-none p versions place ends is = shown-before p versions (subst (Ends p versions) is ends)

pub waiting-none : (p : ℕ) (versions : List Version) (place : ℕ) → Ends p versions place → place ≡ 0 → waiting p versions ≡ None
waiting-none p versions place ends is = waiting-before p versions (subst (Ends p versions) is ends)

-- where a search by the test ends
pub ends-from : (p : ℕ) (versions : List Version) (place : ℕ) → IsPartitionPoint (λ version. nat_le version.number p ≡ true) (λ version. nat_le version.number p ≡ false) versions place → Ends p versions place
ends-from p versions place ends = (
  λ k d a b. leb-true (get_or versions k d).number p (ends.0 k d a b),
  λ k d a b. leb-false (get_or versions k d).number p (ends.1 k d a b),
)
