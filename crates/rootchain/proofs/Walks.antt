-- Two lists of roots, gone through from their ends.
use Rattle.std.proofs.Common.{◌≡◌, ◌≢◌, ◌⊎◌, ℕ, ◌+◌, ◌<◌, ◌≤◌, true, false, List, length, get_or, slice_get, Some, leb, sym, ap, subst, ◌∙◌, inl, inr, arith}
use Rattle.std.specs.List.Sorted.{IsPartitionedBy, IsPartitionPoint}
use Rattle.std.proofs.lemmas.Bool.{cases_lt, leb-true, leb-false}
use Rattle.std.proofs.lemmas.List.Sorted.{IsPartitionedBy-leb}
use Rattle.std.proofs.lemmas.Option.{get_or_from_slice_get, slice_get-get_or, slice_get_within}
use Rattle.rootchain.specs.declared.signed_root.SignedRoot.{SignedRoot}
use Rattle.rootchain.specs.Chains.{Ascend}
use Rattle.rootchain.specs.Walks.{AreApartPlaces, AreLastPlaces, IsCleared, IsRun}
use Rattle.rootchain.proofs.Places.{one-first, rising}

abbrev Roots : Type 0
Roots = List SignedRoot

pub epoch-of : (x y : SignedRoot) → x.body ≡ y.body → x.body.epoch ≡ y.body.epoch
epoch-of x y e = ap (λ b. b.epoch) e

-- the root at a place
pub at-place : (roots : Roots) (k : ℕ) (x : SignedRoot) → k < length roots → x ≡ get_or roots k x → slice_get roots k ≡ Some x
at-place roots k x p e = slice_get-get_or roots k x p ∙ ap (λ (y : SignedRoot). Some y) (sym e)

-- a place has one root
same-place : (roots : Roots) (k l : ℕ) (x y : SignedRoot) → slice_get roots k ≡ Some x → slice_get roots l ≡ Some y → k ≡ l → x ≡ y
same-place roots k l x y a b e = one-first x y (slice_get roots k) a (ap (λ n. slice_get roots n) e ∙ b)

-- of two places the later has the later epoch
pub up-at : (roots : Roots) → Ascend roots → (k l : ℕ) (x y : SignedRoot) → slice_get roots k ≡ Some x → slice_get roots l ≡ Some y → k < l → x.body.epoch < y.body.epoch
up-at roots up k l x y a b less =
    let one = ap (λ (z : SignedRoot). z.body.epoch) (get_or_from_slice_get roots k x x a) in
    let other = ap (λ (z : SignedRoot). z.body.epoch) (get_or_from_slice_get roots l y x b) in
    let order = up k l x less (slice_get_within roots l y b) in
    omega (arith, one, other, order)

pub up-to : (roots : Roots) → Ascend roots → (k l : ℕ) (x y : SignedRoot) → slice_get roots k ≡ Some x → slice_get roots l ≡ Some y → k ≤ l → x.body.epoch ≤ y.body.epoch
up-to roots up k l x y a b least = elim (cases_lt k l) [
  | inl less ↦ let order = up-at roots up k l x y a b less in omega (arith, order)
  | inr more ↦ let e = ap (λ (z : SignedRoot). z.body.epoch) (same-place roots k l x y a b (omega (arith, least, more))) in omega (arith, e)
]

-- the roots up to an epoch come first
pub epochs-parted-at : (roots : List SignedRoot) (epoch : ℕ) → Ascend roots → IsPartitionedBy (λ (root : SignedRoot). leb root.body.epoch epoch) roots
epochs-parted-at roots epoch up = IsPartitionedBy-leb (λ (root : SignedRoot). root.body.epoch) roots epoch (rising roots up)

-- where a search by the test ends
pub parts-at : (roots : List SignedRoot) (epoch place : ℕ) → IsPartitionPoint (λ (root : SignedRoot). leb root.body.epoch epoch ≡ true) (λ (root : SignedRoot). leb root.body.epoch epoch ≡ false) roots place →
    IsPartitionPoint (λ (root : SignedRoot). root.body.epoch ≤ epoch) (λ (root : SignedRoot). epoch < root.body.epoch) roots place
parts-at roots epoch place point = (
  λ k d a b. leb-true (get_or roots k d).body.epoch epoch (point.0 k d a b),
  λ k d a b. leb-false (get_or roots k d).body.epoch epoch (point.1 k d a b),
)

-- ---- the last places

pub cleared_start : (ones others : Roots) → IsCleared ones others (length ones) (length others)
cleared_start ones others = record {
  clear = λ k l x y a b either same.
      let p = slice_get_within ones k x a in
      let q = slice_get_within others l y b in
      elim either [ inl h ↦ omega (arith, h, p) | inr h ↦ omega (arith, h, q) ];
}

module _ (ones others : Roots) (up : Ascend ones) (up' : Ascend others) (i j p q : ℕ) (is : i ≡ p + 1) (js : j ≡ q + 1) (one other : SignedRoot)
    (at : slice_get ones p ≡ Some one) (at' : slice_get others q ≡ Some other) (cleared : IsCleared ones others i j) where
  -- the one root has a body of none that is left of the other list
  pub cleared_one : one.body ≢ other.body → other.body.epoch ≤ one.body.epoch → IsCleared ones others p j
  cleared_one differ low = record {
    clear = λ k l x y a b either same.
        elim (cases_lt k i) [
          | inr high ↦ cleared.clear k l x y a b (inl high) same
          | inl less ↦ elim (cases_lt l j) [
            | inr high ↦ cleared.clear k l x y a b (inr high) same
            | inl less' ↦
                let here : k ≡ p = elim either [ inl h ↦ omega (arith, h, less, is) | inr h ↦ absurd (omega (arith, h, less')) ] in
                let this : x ≡ one = same-place ones k p x one a at here in
                elim (cases_lt l q) [
                  | inl under ↦
                      let order = up-at others up' l q y other b at' under in
                      let e = epoch-of x y same in
                      let f = ap (λ (z : SignedRoot). z.body.epoch) this in
                      omega (arith, order, e, f, low)
                  | inr over ↦
                      let that : y ≡ other = same-place others l q y other b at' (omega (arith, over, less', js)) in
                      differ (sym (ap (λ (z : SignedRoot). z.body) this) ∙ same ∙ ap (λ (z : SignedRoot). z.body) that)
                ]
          ]
        ];
  }

  -- and the other way round
  pub cleared_other : one.body.epoch < other.body.epoch → IsCleared ones others i q
  cleared_other low = record {
    clear = λ k l x y a b either same.
        elim (cases_lt k i) [
          | inr high ↦ cleared.clear k l x y a b (inl high) same
          | inl less ↦ elim (cases_lt l j) [
            | inr high ↦ cleared.clear k l x y a b (inr high) same
            | inl less' ↦
                let here : l ≡ q = elim either [ inl h ↦ absurd (omega (arith, h, less)) | inr h ↦ omega (arith, h, less', js) ] in
                let order = up-to ones up k p x one a at (omega (arith, less, is)) in
                let e = epoch-of x y same in
                let f = ap (λ (z : SignedRoot). z.body.epoch) (same-place others l q y other b at' here) in
                omega (arith, order, e, f, low)
          ]
        ];
  }

  pub last_here : one.body ≡ other.body → AreLastPlaces ones others p q
  last_here same = record {
    one = one;
    other = other;
    at-one = at;
    at-other = at';
    same = same;
    clear = subst (λ n. IsCleared ones others n (q + 1)) is (subst (λ n. IsCleared ones others i n) js cleared);
  }

-- where one list is at its end, all is cleared
pub cleared_all : (ones others : Roots) (i j : ℕ) → IsCleared ones others i j → (i ≡ 0) ⊎ (j ≡ 0) → IsCleared ones others 0 0
cleared_all ones others i j cleared end = record { clear = λ k l x y a b either same. cleared.clear k l x y a b (elim end [ inl e ↦ inl (omega (arith, e)) | inr e ↦ inr (omega (arith, e)) ]) same }

-- ---- the first places apart

pub run_start : (ones others : Roots) (i j : ℕ) → AreLastPlaces ones others i j → IsRun ones others i j i j
run_start ones others i j last = record {
  low = omega arith;
  step = omega arith;
  same = λ k l x y low high step a b.
      let one : x ≡ last.one = same-place ones k i x last.one a last.at-one (omega (arith, low, high)) in
      let other : y ≡ last.other = same-place others l j y last.other b last.at-other (omega (arith, low, high, step)) in
      ap (λ (z : SignedRoot). z.body) one ∙ last.same ∙ sym (ap (λ (z : SignedRoot). z.body) other);
}

module _ (ones others : Roots) (to to' i j p q : ℕ) (is : i ≡ p + 1) (js : j ≡ q + 1) (one other : SignedRoot)
    (at : slice_get ones p ≡ Some one) (at' : slice_get others q ≡ Some other) (run : IsRun ones others i j to to') where
  pub run_more : one.body ≡ other.body → IsRun ones others p q to to'
  run_more e =
      let low = run.low in
      let together = run.step in record {
        low = omega (arith, low, is);
        step = omega (arith, together, is, js);
        same = λ k l x y least high step a b. elim (cases_lt k i) [
          | inr more ↦ run.same k l x y more high step a b
          | inl less ↦
              let one' : x ≡ one = same-place ones k p x one a at (omega (arith, least, less, is)) in
              let other' : y ≡ other = same-place others l q y other b at' (omega (arith, least, less, is, js, step, together)) in
              ap (λ (z : SignedRoot). z.body) one' ∙ e ∙ sym (ap (λ (z : SignedRoot). z.body) other')
        ];
      }

  pub apart_here : one.body ≢ other.body → AreApartPlaces ones others to to' p q
  apart_here differ = record {
    one = one;
    other = other;
    at-one = at;
    at-other = at';
    differ = differ;
    run = subst (λ n. IsRun ones others n (q + 1) to to') is (subst (λ n. IsRun ones others i n to to') js run);
  }
