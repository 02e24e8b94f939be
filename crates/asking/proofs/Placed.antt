-- The roots of a list, one after another.
use Rattle.std.proofs.Common.{◌≡◌, ℕ, List, [], ◌∷◌, Option, None, Some, Result, Ok, Err, ◌++◌, ◌∙◌, ap, arith, codes, inl, inr, refl, subst, sym}
use Rattle.std.specs.Prelude.{OnOk, if◌then◌else◌, is_ok}
use Rattle.rootchain.specs.Chains.{KeyedRoots}
use Rattle.rootchain.specs.declared.signed_root.SignedRoot.{SignedRoot}
use Rattle.wire.specs.Responses.{Roots}
use Rattle.client.specs.declared.client_refusal.Refusal.{Refusal}
use Rattle.play.specs.Hearing.{response_text}
use Rattle.asking.specs.declared.said.Said.{Said}
use Rattle.asking.specs.Checking.{AreTold, FollowsUnlessRefused, IsComparedAs}
use Rattle.asking.specs.Refused.{client_refuses, other_reply}
use Rattle.asking.specs.Stopping.{epochs_text, StopsAmong, StopsAtRoot}
use Rattle.asking.specs.Reports.{Report, Tells, fine, worse}
use Rattle.asking.specs.Wanted.{AreWanted}
use Rattle.asking.specs.declared.wanted.Wanted.{Wanted}

worse-none : (status : ℕ) → status ≡ worse status 0
worse-none status = grind arith

module _ (hash : List ℕ → List ℕ) (verified : List ℕ → List ℕ → List ℕ → Type 0) (chain : KeyedRoots) where
  -- where it stops at one of those that are left, it stops at one of all
  abbrev pub IsPassing : List SignedRoot → List SignedRoot → Type 0
  IsPassing all rest = (stop : Option Refusal) → StopsAmong hash verified chain rest stop → StopsAmong hash verified chain all stop

module _ (hash : List ℕ → List ℕ) (verified : List ℕ → List ℕ → List ℕ → Type 0) (chain : KeyedRoots) (wanted : Wanted) (all : List SignedRoot) where
  -- where it stops at none, all are compared
  pub all_told : (told : Report) → IsComparedAs hash verified chain wanted all told → (rest : List SignedRoot) → StopsAmong hash verified chain rest None → AreTold hash verified chain wanted all rest told
  all_told told compared [] none = compared
  all_told told compared (first ∷ more) (inl (why, is, at)) = absurd cc
  all_told told compared (first ∷ more) (inr ((place, is, none), later)) =
      (place, is, subst (λ (refusal : Option Refusal). FollowsUnlessRefused (AreTold hash verified chain wanted all more told) refusal told) (sym none) (all_told told compared more later))

  -- at a root where it stops, that is told
  abbrev pub refused_told : Refusal → Report
  refused_told why = client_refuses (codes "client refuses root") why

  told-at : (first : SignedRoot) (more : List SignedRoot) (why : Refusal) → StopsAtRoot hash verified chain first (Some why) → AreTold hash verified chain wanted all (first ∷ more) (refused_told why)
  told-at first more why (place, is, some) =
      let told = refused_told why in
      (place, is, subst (λ (refusal : Option Refusal). FollowsUnlessRefused (AreTold hash verified chain wanted all more told) refusal told) (sym some) refl)

  pub told_of_stop : (rest : List SignedRoot) (why : Refusal) → StopsAmong hash verified chain rest (Some why) → AreTold hash verified chain wanted all rest (refused_told why)
  told_of_stop [] why none = absurd cc
  told_of_stop (first ∷ more) why (inl (other, is, at)) = told-at first more why (subst (λ (stop : Option Refusal). StopsAtRoot hash verified chain first stop) (sym is) at)
  told_of_stop (first ∷ more) why (inr ((place, is, none), later)) =
      let told = refused_told why in
      (place, is, subst (λ (refusal : Option Refusal). FollowsUnlessRefused (AreTold hash verified chain wanted all more told) refusal told) (sym none) (told_of_stop more why later))

  -- what is told where it stops
  pub tells_stop : {A E : Type 0} (result : Result A E) (why : Refusal) (before after : Said) → StopsAmong hash verified chain all (Some why) → OnOk result (Tells before (refused_told why) after)
      → OnOk result ((told : Report) × AreTold hash verified chain wanted all all told × Tells before told after)
  tells_stop (Ok done) why before after stops tells = (refused_told why, told_of_stop all why stops, tells)
  tells_stop (Err fault) why before after stops tells = tt

  -- where it does not, and they are what was asked for
  pub tells_all : {A E : Type 0} (result : Result A E) (line : List ℕ) (before after : Said) → AreWanted hash chain wanted all → StopsAmong hash verified chain all None
      → line ≡ (codes "roots" ++ epochs_text all) ++ 10 ∷ [] → after.text.items ≡ (if is_ok result then before.text.items ++ line else before.text.items) → after.status ≡ before.status
      → OnOk result ((told : Report) × AreTold hash verified chain wanted all all told × Tells before told after)
  tells_all (Ok done) line before after are stops whole grown same = (
    fine (response_text (Roots all)),
    all_told (fine (response_text (Roots all))) (inl (are, refl)) all stops,
    (grown ∙ ap (λ (xs : List ℕ). before.text.items ++ xs) whole, same ∙ worse-none before.status),
  )
  tells_all (Err fault) line before after are stops whole grown same = tt

  -- and where they are not
  pub tells_others : {A E : Type 0} (result : Result A E) (before after : Said) → (¬ AreWanted hash chain wanted all) → StopsAmong hash verified chain all None → OnOk result (Tells before other_reply after)
      → OnOk result ((told : Report) × AreTold hash verified chain wanted all all told × Tells before told after)
  tells_others (Ok done) before after not stops tells = (other_reply, all_told other_reply (inr (not, refl)) all stops, tells)
  tells_others (Err fault) before after not stops tells = tt
