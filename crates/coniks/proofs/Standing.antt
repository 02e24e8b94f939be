-- What two roots show, where every signature verifies.
use Rattle.std.proofs.Common.{◌≡◌, ◌↔◌, ◌∙◌, inl, inr, ℕ, List, Bool, false, true, IsTrue, refl, sym}
use Rattle.rootchain.specs.Chains.{Names, Verifies}
use Rattle.rootchain.specs.Evidence.{IsFork, IsLink, IsRootEvidence, IsSkip}
use Rattle.rootchain.specs.declared.evidence.RootEvidence.{RootEvidence}
use Rattle.rootchain.specs.declared.evidence.RootEvidence.TheVariants.{Fork, Link, Skip}
use Rattle.rootchain.specs.Bodies.{body_bytes}
use Rattle.rootchain.specs.SignedRoots.{SpellsRoot}
use Rattle.rootchain.specs.declared.signed_root.SignedRoot.{SignedRoot}
use Rattle.coniks.specs.Exports.{AreRoots, ShowsEvidence, Stand}
use Rattle.coniks.specs.Told.{any}

pub stand-so : (hash : List ℕ → List ℕ) (key : List ℕ) (evidence : RootEvidence) (test : Bool) → IsTrue test ↔ IsRootEvidence hash any key evidence → IsTrue test ↔ Stand hash evidence
unfolding Verifies
stand-so hash key (Fork one other) test exact = (λ holds. (exact.0 holds).2, λ stand. exact.1 (tt, tt, stand))
stand-so hash key (Link one other) test exact = (λ holds. (exact.0 holds).2, λ stand. exact.1 (tt, tt, stand))
stand-so hash key (Skip one other) test exact = (λ holds. (exact.0 holds).2, λ stand. exact.1 (tt, tt, stand))

-- whether a root names another, once the epochs fit
pub names-so : (hash : List ℕ → List ℕ) (one other : SignedRoot) → other.body.previous_epoch ≡ one.body.epoch → (digest : List ℕ) → digest ≡ hash (body_bytes one.body) → (test : Bool) → IsTrue test ↔ (other.body.previous_hash ≡ digest)
    → IsTrue test ↔ Names hash one other
unfolding Names
names-so hash one other epochs digest is test exact = (λ holds. (epochs, exact.0 holds ∙ is), λ names. exact.1 (names.1 ∙ sym is))

-- ---- the kind of evidence that copies of two roots are

module _ (hash : List ℕ → List ℕ) (first second : List ℕ) (one other : SignedRoot) (spelled : SpellsRoot first one) (spells : SpellsRoot second other) where
  module _ (a b : SignedRoot) (a-is : a ≡ one) (b-is : b ≡ other) (fork : Bool) (fork-exact : IsTrue fork ↔ Stand hash (Fork a b)) where
    pub is-fork : fork ≡ true → AreRoots first second (ShowsEvidence hash) 16
    is-fork holds = inl (one, other, spelled, spells, inl (rw (a-is, b-is) at (fork-exact.0 holds), refl))

    no-fork : fork ≡ false → ¬ IsFork one other
    no-fork never is = let holds : fork ≡ true = fork-exact.1 (rw (a-is, b-is) is) in absurd cc

    module _ (c d : SignedRoot) (c-is : c ≡ one) (d-is : d ≡ other) (link : Bool) (link-exact : IsTrue link ↔ Stand hash (Link c d)) where
      pub is-link : link ≡ true → AreRoots first second (ShowsEvidence hash) 17
      is-link holds = inl (one, other, spelled, spells, inr (inl (rw (c-is, d-is) at (link-exact.0 holds), refl)))

      no-link : link ≡ false → ¬ IsLink hash one other
      no-link never is = let holds : link ≡ true = link-exact.1 (rw (c-is, d-is) is) in absurd cc

      module _ (skip : Bool) (skip-exact : IsTrue skip ↔ Stand hash (Skip one other)) where
        pub is-skip : skip ≡ true → AreRoots first second (ShowsEvidence hash) 18
        is-skip holds = inl (one, other, spelled, spells, inr (inr (inl (skip-exact.0 holds, refl))))

        pub is-nothing : fork ≡ false → link ≡ false → skip ≡ false → AreRoots first second (ShowsEvidence hash) 0
        is-nothing no-f no-l no-s = inl (one, other, spelled, spells, inr (inr (inr (no-fork no-f, no-link no-l, no-skip, refl))))
          where
            no-skip : ¬ IsSkip one other
            no-skip is = let holds : skip ≡ true = skip-exact.1 is in absurd cc
