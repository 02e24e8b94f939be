-- Final bindings stay on each later page.
use Rattle.std.proofs.Common.{◌≡◌, ℕ, zero, suc, ◌+◌, ◌-◌, ◌<◌, List, length, get_or, Bool, true, false, Option, Some, None, AllPairs, Contains, refl, sym, ap, subst, ◌∙◌, arith, leb}
use Rattle.std.specs.Prelude.{option_map}
use Rattle.std.specs.List.{AllAdjacentBelow}
use Rattle.std.proofs.lemmas.Bool.{leb-true, leb-false}
use Rattle.std.proofs.lemmas.List.{get_or_default}
use Rattle.proofs.specs.BrokenFinals.{states_final}
use Rattle.book.specs.Books.{Binding, Page}
use Rattle.book.specs.Sound.{HasFinalsOf}
use Rattle.book.specs.Steps.{is_final_binding}
use Rattle.book.proofs.Soundness.{IsBefore}

pub final-key : (found : Option Binding) → states_final (option_map (λ (binding : Binding). binding.key) found) ≡ true → is_final_binding found ≡ true
final-key None final = absurd cc
final-key (Some binding) final = final

pub final-there : (found : Option Binding) → is_final_binding found ≡ true → (binding : Binding) × (found ≡ Some binding)
final-there None final = absurd cc
final-there (Some binding) final = (binding, refl)

then-later : (page later latest : Page) → HasFinalsOf page later → HasFinalsOf later latest → HasFinalsOf page latest
then-later page later latest one other name final =
    let same = one name final in
    other name (ap is_final_binding same ∙ final) ∙ same

-- so many pages later
later-by : (pages : List Page) → AllAdjacentBelow HasFinalsOf pages (length pages) → (i : ℕ) (d : Page) (count : ℕ) → i + count < length pages → HasFinalsOf (get_or pages i d) (get_or pages (i + count) d)
later-by pages stay i d zero within = subst (λ (j : ℕ). HasFinalsOf (get_or pages i d) (get_or pages j d)) (omega arith) (λ name final. refl)
later-by pages stay i d (suc count) within =
    subst (λ (j : ℕ). HasFinalsOf (get_or pages i d) (get_or pages j d)) (omega arith)
    (then-later (get_or pages i d) (get_or pages (i + count) d) (get_or pages (i + count + 1) d)
    (later-by pages stay i d count (omega (arith, within)))
    (stay (i + count) d (omega (arith, within))))

-- each page has the final bindings of those of lesser epochs
pub later-stays : (pages : List Page) → AllPairs IsBefore pages → AllAdjacentBelow HasFinalsOf pages (length pages) → (page later : Page) → Contains pages page → Contains pages later → page.epoch < later.epoch
    → HasFinalsOf page later
later-stays pages ascend stay page later is also before = by (leb also.0 is.0) refl
  where
    here : get_or pages also.0 page ≡ later
    here = get_or_default pages also.0 page later also.1 ∙ also.2

    -- the place of the later page is no earlier one
    equal : also.0 ≡ is.0 → ⊥
    equal e = let same : later ≡ page = sym here ∙ ap (λ (k : ℕ). get_or pages k page) e ∙ is.2 in absurd (omega (arith, before, ap (λ (each : Page). each.epoch) same))

    earlier : also.0 < is.0 → ⊥
    earlier less =
        let below : (get_or pages also.0 page).epoch < (get_or pages is.0 page).epoch = ascend also.0 is.0 page less is.1 in
        absurd (omega (arith, before, below, ap (λ (each : Page). each.epoch) here, ap (λ (each : Page). each.epoch) is.2))

    by : (t : Bool) → leb also.0 is.0 ≡ t → HasFinalsOf page later
    by true test = absurd (at-most (leb is.0 also.0) refl)
      where
        at-most : (t : Bool) → leb is.0 also.0 ≡ t → ⊥
        at-most true same = equal (omega (arith, leb-true also.0 is.0 test, leb-true is.0 also.0 same))
        at-most false less = earlier (leb-false is.0 also.0 less)
    by false test =
        let less : is.0 < also.0 = leb-false also.0 is.0 test in
        let e : is.0 + (also.0 - is.0) ≡ also.0 = omega (arith, less) in
        subst (λ (x : Page). HasFinalsOf x later) is.2
        (subst (HasFinalsOf (get_or pages is.0 page)) (ap (λ (k : ℕ). get_or pages k page) e ∙ here)
        (later-by pages stay is.0 page (also.0 - is.0) (omega (arith, e, also.1))))
