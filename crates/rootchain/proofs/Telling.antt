-- The place of a root tells of evidence exactly where the root is evidence with one of the chain's.
use Rattle.std.proofs.Common.{◌≡◌, ◌↔◌, ℕ, ◌<◌, List, Contains, sym, subst, inl, inr}
use Rattle.std.proofs.lemmas.Bool.{cases_lt}
use Rattle.rootchain.specs.declared.body.Body.{Body}
use Rattle.rootchain.specs.declared.chain.placing.Place.{Place}
use Rattle.rootchain.specs.declared.chain.placing.Place.TheVariants.{Known, Evidence, Next, Ahead, BeforeStart}
use Rattle.rootchain.specs.declared.evidence.RootEvidence.TheVariants.{Fork, Link, Skip}
use Rattle.rootchain.specs.declared.signed_root.SignedRoot.{SignedRoot}
use Rattle.rootchain.specs.Bodies.{IsWellFormed}
use Rattle.rootchain.specs.Chains.{IsChain, IsHead, KeyedRoots, Verifies}
use Rattle.rootchain.specs.Evidence.{AreEvidence, IsRootEvidence}
use Rattle.rootchain.specs.Places.{EvidenceHolds, IsEvidenceWith, IsFirst, IsPlace, IsPlaceAbove, IsPlaceBelow, IsPlaceWithin, StartsWellFormed, TellsEvidence}
use Rattle.rootchain.proofs.Clashes.{no-clash, not-above, not-ahead, not-before-start, not-below, not-named-by, not-next, Clash}
use Rattle.rootchain.proofs.Places.{ends, place_sound}

module _ (hash : List ℕ → List ℕ) (verified : List ℕ → List ℕ → List ℕ → Type 0) (chain : KeyedRoots) (is : IsChain hash verified chain) (root : SignedRoot) where
  are-fork : (one other : SignedRoot) → IsRootEvidence hash verified chain.key (Fork one other) → AreEvidence hash verified chain.key one other
  are-fork one other evidence = (evidence.0, evidence.1, inl evidence.2)

  are-link : (one other : SignedRoot) → IsRootEvidence hash verified chain.key (Link one other) → AreEvidence hash verified chain.key one other
  are-link one other evidence = (evidence.0, evidence.1, inr (inl evidence.2))

  are-skip : (one other : SignedRoot) → IsRootEvidence hash verified chain.key (Skip one other) → AreEvidence hash verified chain.key one other
  are-skip one other evidence = (evidence.0, evidence.1, inr (inr evidence.2))

  -- a place that tells of evidence tells of a root of the chain
  above-with : (head : SignedRoot) → Contains chain.roots head → (place : Place) → IsPlaceAbove hash head root place → EvidenceHolds hash verified chain.key place → TellsEvidence place → IsEvidenceWith hash verified chain root
  above-with head held (Evidence (Skip one other)) h are told = (head, held, inl (rw (h.1, h.2) at (are-skip one other are)))
  above-with head held (Evidence (Link one other)) h are told = (head, held, inl (rw (h.1, h.2) at (are-link one other are)))
  above-with head held (Evidence (Fork one other)) h are told = absurd h
  above-with head held Known h are told = absurd told
  above-with head held Next h are told = absurd told
  above-with head held Ahead h are told = absurd told
  above-with head held BeforeStart h are told = absurd told

  below-with : (first : SignedRoot) → Contains chain.roots first → (place : Place) → IsPlaceBelow hash first root place → EvidenceHolds hash verified chain.key place → TellsEvidence place → IsEvidenceWith hash verified chain root
  below-with first held (Evidence (Skip one other)) h are told = (first, held, inr (rw (h.1, h.2) at (are-skip one other are)))
  below-with first held (Evidence (Link one other)) h are told = (first, held, inr (rw (h.1, h.2) at (are-link one other are)))
  below-with first held (Evidence (Fork one other)) h are told = absurd h
  below-with first held Known h are told = absurd told
  below-with first held Next h are told = absurd told
  below-with first held Ahead h are told = absurd told
  below-with first held BeforeStart h are told = absurd told

  within-with : (place : Place) → IsPlaceWithin chain root place → EvidenceHolds hash verified chain.key place → TellsEvidence place → IsEvidenceWith hash verified chain root
  within-with (Evidence (Fork one other)) h are told = (one, h.0.0, inl (rw h.2 at (are-fork one other are)))
  within-with (Evidence (Skip one other)) h are told = (other, h.2.0, inr (rw h.1 at (are-skip one other are)))
  within-with (Evidence (Link one other)) h are told = absurd h
  within-with Known h are told = absurd told
  within-with Next h are told = absurd told
  within-with Ahead h are told = absurd told
  within-with BeforeStart h are told = absurd told

  told-with : (place : Place) → IsPlace hash chain root place → Verifies verified chain.key root → TellsEvidence place → IsEvidenceWith hash verified chain root
  told-with place p signed told =
      let f = ends chain.roots is.first in
      let are = place_sound hash verified chain root place is signed p in
      elim (cases_lt root.body.epoch f.first.body.epoch) [
        | inl low ↦ below-with f.first f.has-first place (p.below f.first f.at-first low) are told
        | inr high ↦ elim (cases_lt f.head.body.epoch root.body.epoch) [
          | inl above ↦ above-with f.head f.has-head place (p.above f.head f.at-head above) are told
          | inr within ↦ within-with place (p.within f.first f.head f.at-first f.at-head high within) are told
        ]
      ]

  -- a place that tells of none leaves none
  module _ (formed : StartsWellFormed chain) (root-formed : IsWellFormed root.body) where
    known-silent : (twin : SignedRoot) → Contains chain.roots twin → twin.body ≡ root.body → IsEvidenceWith hash verified chain root → ⊥
    known-silent twin held same with = elim with.2 [
      | inl are ↦ no-clash hash chain.roots is.linked is.first formed with.0 twin with.1 held (subst (Clash hash with.0.body) (sym same) are.2)
      | inr are ↦ no-clash hash chain.roots is.linked is.first formed twin with.0 held with.1 (subst (λ (b : Body). Clash hash b with.0.body) (sym same) are.2)
    ]

    above-tells : (head : SignedRoot) → IsHead chain head → head.body.epoch < root.body.epoch → (place : Place) → IsPlaceAbove hash head root place → IsEvidenceWith hash verified chain root → TellsEvidence place
    above-tells head last high (Evidence evidence) h with = tt
    above-tells head last high Next h with = elim with.2 [
      | inl are ↦ not-next hash chain.roots is.linked is.first formed head root with.0 last high with.1 h are.2
      | inr are ↦ not-above hash chain.roots is.linked is.first formed head root with.0 last high with.1 are.2
    ]
    above-tells head last high Ahead h with = elim with.2 [
      | inl are ↦ not-ahead hash chain.roots is.linked is.first formed head root with.0 last high with.1 h are.2
      | inr are ↦ not-above hash chain.roots is.linked is.first formed head root with.0 last high with.1 are.2
    ]
    above-tells head last high Known h with = absurd h
    above-tells head last high BeforeStart h with = absurd h

    below-tells : (first : SignedRoot) → IsFirst chain first → root.body.epoch < first.body.epoch → (place : Place) → IsPlaceBelow hash first root place → IsEvidenceWith hash verified chain root → TellsEvidence place
    below-tells first start low (Evidence evidence) h with = tt
    below-tells first start low BeforeStart h with = elim with.2 [
      | inl are ↦ not-below hash chain.roots is.linked is.first formed first root with.0 start low with.1 root-formed.0 are.2
      | inr are ↦ elim h [
        | inl far ↦ not-before-start hash chain.roots is.linked is.first formed first root with.0 start low with.1 far are.2
        | inr names ↦ not-named-by hash chain.roots is.linked is.first formed first root with.0 start low with.1 names are.2
      ]
    ]
    below-tells first start low Known h with = absurd h
    below-tells first start low Next h with = absurd h
    below-tells first start low Ahead h with = absurd h

    within-tells : (place : Place) → IsPlaceWithin chain root place → IsEvidenceWith hash verified chain root → TellsEvidence place
    within-tells Known h with = known-silent h.0 h.1.0 h.2 with
    within-tells (Evidence evidence) h with = tt
    within-tells Next h with = absurd h
    within-tells Ahead h with = absurd h
    within-tells BeforeStart h with = absurd h

    tells : (place : Place) → IsPlace hash chain root place → IsEvidenceWith hash verified chain root → TellsEvidence place
    tells place p with =
        let f = ends chain.roots is.first in
        elim (cases_lt root.body.epoch f.first.body.epoch) [
          | inl low ↦ below-tells f.first f.at-first low place (p.below f.first f.at-first low) with
          | inr high ↦ elim (cases_lt f.head.body.epoch root.body.epoch) [
            | inl above ↦ above-tells f.head f.at-head above place (p.above f.head f.at-head above) with
            | inr within ↦ within-tells place (p.within f.first f.head f.at-first f.at-head high within) with
          ]
        ]

    pub tells_exactly : Verifies verified chain.key root → (place : Place) → IsPlace hash chain root place → TellsEvidence place ↔ IsEvidenceWith hash verified chain root
    tells_exactly signed place p = (told-with place p signed, tells place p)
