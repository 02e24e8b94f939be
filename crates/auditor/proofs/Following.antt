-- What an auditor answers on the roots of a chain that it follows.
use Rattle.std.proofs.Common.{◌≡◌, ◌↔◌, ℕ, ◌-◌, ◌≤◌, List, length, slice_get, Some, Contains, refl, ap, subst, ◌∙◌, arith}
use Rattle.rootchain.specs.declared.chain.placing.Place.{Place}
use Rattle.rootchain.specs.declared.chain.placing.Place.TheVariants as place
use Rattle.rootchain.specs.declared.evidence.RootEvidence.TheVariants.{Fork, Link, Skip}
use Rattle.rootchain.specs.declared.signed_root.SignedRoot.{SignedRoot}
use Rattle.rootchain.specs.Chains.{Ascend, IsChain, IsHead, KeyedRoots, Links, Names}
use Rattle.rootchain.specs.Places.{IsFirst, IsPlace, IsPlaceAbove, IsPlaceWithin}
use Rattle.rootchain.proofs.Agreement.{not-missing, unique}
use Rattle.rootchain.proofs.Chains.{ascend-linked}
use Rattle.rootchain.proofs.Compared.{placed}
use Rattle.rootchain.proofs.Places.{ends, first-low, one-first}
use Rattle.rootchain.proofs.Walks.{up-to}
use Rattle.auditor.specs.Observing.{observed_as, IsObserved}
use Rattle.auditor.specs.declared.auditor.Observed.{Observed}
use Rattle.auditor.specs.declared.auditor.Observed.TheVariants.{Extended, Known}

module _ (hash : List ℕ → List ℕ) (verified : List ℕ → List ℕ → List ℕ → Type 0) (chain : KeyedRoots) (is : IsChain hash verified chain) where
  up : Ascend chain.roots
  up = ascend-linked hash chain.roots is.linked

  module _ (root : SignedRoot) (held : Contains chain.roots root) where
    -- a root of the chain lies between its first root and its head
    above-first : (first : SignedRoot) → IsFirst chain first → first.body.epoch ≤ root.body.epoch
    above-first first at-first = up-to chain.roots up 0 held.0 first root at-first (placed chain.roots root held) (omega arith)

    below-head : (head : SignedRoot) → IsHead chain head → root.body.epoch ≤ head.body.epoch
    below-head head at-head =
        let inside = held.1 in
        up-to chain.roots up held.0 (length chain.roots - 1) root head (placed chain.roots root held) at-head (omega (arith, inside))

    known-place : IsPlace hash chain root place.Known
    known-place = record {
      below = λ first at-first less. let least = above-first first at-first in absurd (omega (arith, least, less));
      within = λ first head at-first at-head least most. (root, (held, refl), refl);
      above = λ head at-head more. let most = below-head head at-head in absurd (omega (arith, most, more));
    }

    known-within : (stands : Place) → IsPlaceWithin chain root stands → stands ≡ place.Known
    known-within place.Known w = refl
    known-within (place.Evidence (Fork one other)) w = absurd (w.1 (ap (λ (z : SignedRoot). z.body) (unique chain up root.body.epoch one root w.0 (held, refl))))
    known-within (place.Evidence (Skip one other)) w = absurd (not-missing chain root.body.epoch root (held, refl) w.0)
    known-within (place.Evidence (Link one other)) w = absurd w
    known-within place.Next w = absurd w
    known-within place.Ahead w = absurd w
    known-within place.BeforeStart w = absurd w

    pub is_known : (told : Observed) → IsObserved hash (Some chain) root told ↔ (told ≡ Known)
    is_known told = (
      λ o. let e = ends chain.roots is.first in
          o.2 ∙ ap observed_as (known-within o.0 (o.1.within e.first e.head e.at-first e.at-head (above-first e.first e.at-first) (below-head e.head e.at-head))),
      λ e. (place.Known, known-place, e),
    )

  module _ (head root : SignedRoot) (at-head : IsHead chain head) (link : Links hash head root) where
    next-place : IsPlace hash chain root place.Next
    next-place = record {
      below = λ first at-first less. let least = first-low chain.roots first head up is.first at-first at-head in let more = link.1 in absurd (omega (arith, least, less, more));
      within = λ first head' at-first at-head' least most. let same = ap (λ (z : SignedRoot). z.body.epoch) (one-first head head' (slice_get chain.roots (length chain.roots - 1)) at-head at-head') in let more = link.1 in absurd (omega (arith, same, most, more));
      above = λ head' at-head' more. subst (λ (z : SignedRoot). Names hash z root) (one-first head head' (slice_get chain.roots (length chain.roots - 1)) at-head at-head') link.0;
    }

    next-above : (stands : Place) → IsPlaceAbove hash head root stands → stands ≡ place.Next
    unfolding Names
    next-above place.Next w = refl
    next-above (place.Evidence (Skip one other)) w = let names = link.0.0 in let gap = w.0 in absurd (omega (arith, names, gap))
    next-above (place.Evidence (Link one other)) w = absurd (w.0.1 link.0.1)
    next-above (place.Evidence (Fork one other)) w = absurd w
    next-above place.Ahead w = let names = link.0.0 in absurd (omega (arith, names, w))
    next-above place.Known w = absurd w
    next-above place.BeforeStart w = absurd w

    pub extends : (told : Observed) → IsObserved hash (Some chain) root told ↔ (told ≡ Extended)
    extends told = (
      λ o. o.2 ∙ ap observed_as (next-above o.0 (o.1.above head at-head link.1)),
      λ e. (place.Next, next-place, e),
    )
