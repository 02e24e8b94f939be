-- Which promise is tested once one more comes behind the others.
use Rattle.std.proofs.Common.{◌≡◌, ◌≢◌, ◌⊎◌, inl, inr, ℕ, zero, suc, ◌<◌, ◌≤◌, List, [], ◌∷◌, ◌++◌, length, slice_get, Option, Some, None, Bor, refl, sym, ap, subst, ◌∙◌, arith}
use Rattle.std.proofs.lemmas.Bool.{cases_lt}
use Rattle.std.proofs.lemmas.Option.{slice_get_within}
use Rattle.rootchain.specs.declared.signed_promise.SignedPromise.{SignedPromise}
use Rattle.client.specs.Dues.{HasNone, IsTested}
use Rattle.client.specs.Testing.{IsTestedAmong}
use Rattle.client.proofs.Keeping.{one-more}

module _ {A : Type 0} (x : A) where
  some-same : (y : A) → Some x ≡ Some y → y ≡ x
  some-same y is = sym cc

  place-in : (xs : List A) (k : ℕ) (y : A) → slice_get (xs ++ x ∷ []) k ≡ Some y → (slice_get xs k ≡ Some y) ⊎ ((k ≡ length xs) × (y ≡ x))
  place-in [] zero y is = inr (refl, some-same y is)
  place-in [] (suc k) y is = absurd cc
  place-in (z ∷ xs) zero y is = inl is
  place-in (z ∷ xs) (suc k) y is = elim (place-in xs k y is) [
    | inl old ↦ inl old
    | inr new ↦ inr (ap suc new.0, new.1)
  ]

  place-old : (xs : List A) (k : ℕ) (y : A) → slice_get xs k ≡ Some y → slice_get (xs ++ x ∷ []) k ≡ Some y
  place-old [] k y is = absurd cc
  place-old (z ∷ xs) zero y is = is
  place-old (z ∷ xs) (suc k) y is = place-old xs k y is

  place-new : (xs : List A) → slice_get (xs ++ x ∷ []) (length xs) ≡ Some x
  place-new [] = refl
  place-new (z ∷ xs) = place-new xs

none-at : (promises : List SignedPromise) (name : List ℕ) → HasNone promises name → (k : ℕ) (other : SignedPromise) → slice_get promises k ≡ Some other → other.promise.name ≢ name
none-at [] name none k other is = absurd cc
none-at (first ∷ more) name none zero other is = subst (λ (s : SignedPromise). s.promise.name ≢ name) (sym (some-same first other is)) none.0
none-at (first ∷ more) name none (suc k) other is = none-at more name none.1 k other is

-- one promise alone is tested
pub one-tested : (promises : List SignedPromise) (name : List ℕ) (place other : ℕ) (signed also : SignedPromise) → IsTested promises name place signed → IsTested promises name other also → also ≡ signed
one-tested promises name place other signed also is its = elim (cases_lt other place) [
  | inl before ↦ absurd (omega (arith, is.first other also before its.at its.named, its.least place signed is.at is.named))
  | inr from ↦ elim (cases_lt place other) [
    | inl behind ↦ absurd (omega (arith, its.first place signed behind is.at is.named, is.least other also its.at its.named))
    | inr to ↦
        let same : place ≡ other = omega (arith, from, to) in
        some-same signed also (sym is.at ∙ ap (λ (k : ℕ). slice_get promises k) same ∙ its.at)
  ]
]

module _ (promises : List SignedPromise) (signed : SignedPromise) (name : List ℕ) where
  -- a promise for another name
  pub none-skipped : signed.promise.name ≢ name → HasNone promises name → HasNone (promises ++ signed ∷ []) name
  none-skipped other none = one-more _ promises signed none other

  pub skipped : signed.promise.name ≢ name → (place : ℕ) (least : SignedPromise) → IsTested promises name place least → IsTested (promises ++ signed ∷ []) name place least
  skipped other place least is = record {
    at = place-old signed promises place least is.at;
    named = is.named;
    least = λ k also at named. elim (place-in signed promises k also at) [
      | inl old ↦ is.least k also old named
      | inr new ↦ absurd (other (ap (λ (s : SignedPromise). s.promise.name) (sym new.1) ∙ named))
    ];
    first = λ k also before at named. elim (place-in signed promises k also at) [
      | inl old ↦ is.first k also before old named
      | inr new ↦ absurd (other (ap (λ (s : SignedPromise). s.promise.name) (sym new.1) ∙ named))
    ];
  }

  -- the first one for the name
  pub begun : HasNone promises name → signed.promise.name ≡ name → IsTested (promises ++ signed ∷ []) name (length promises) signed
  begun none own = record {
    at = place-new signed promises;
    named = own;
    least = λ k also at named. elim (place-in signed promises k also at) [
      | inl old ↦ absurd (none-at promises name none k also old named)
      | inr new ↦ rw new.1 (omega arith)
    ];
    first = λ k also before at named. elim (place-in signed promises k also at) [
      | inl old ↦ absurd (none-at promises name none k also old named)
      | inr new ↦ absurd (omega (arith, before, new.0))
    ];
  }

  module _ (place : ℕ) (least : SignedPromise) (is : IsTested promises name place least) where
    -- one that is not of an earlier epoch
    pub not-earlier : least.promise.epoch ≤ signed.promise.epoch → IsTested (promises ++ signed ∷ []) name place least
    not-earlier late = record {
      at = place-old signed promises place least is.at;
      named = is.named;
      least = λ k also at named. elim (place-in signed promises k also at) [
        | inl old ↦ is.least k also old named
        | inr new ↦ rw new.1 late
      ];
      first = λ k also before at named. elim (place-in signed promises k also at) [
        | inl old ↦ is.first k also before old named
        | inr new ↦ absurd (omega (arith, before, new.0, slice_get_within promises place least is.at))
      ];
    }

    -- and one that is
    pub now-first : signed.promise.epoch < least.promise.epoch → signed.promise.name ≡ name → IsTested (promises ++ signed ∷ []) name (length promises) signed
    now-first early own = record {
      at = place-new signed promises;
      named = own;
      least = λ k also at named. elim (place-in signed promises k also at) [
        | inl old ↦ omega (arith, early, is.least k also old named)
        | inr new ↦ rw new.1 (omega arith)
      ];
      first = λ k also before at named. elim (place-in signed promises k also at) [
        | inl old ↦ omega (arith, early, is.least k also old named)
        | inr new ↦ absurd (omega (arith, before, new.0))
      ];
    }

module _ (promises : List SignedPromise) (signed : SignedPromise) (name : List ℕ) where
  pub skipped-among : signed.promise.name ≢ name → (least : Option (ℕ × Bor SignedPromise)) → IsTestedAmong promises name least → IsTestedAmong (promises ++ signed ∷ []) name least
  skipped-among other None none = none-skipped promises signed name other none
  skipped-among other (Some (place, least)) is = skipped promises signed name other place least.now is
