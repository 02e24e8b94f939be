-- What a comparison of two chains tells: that they agree, that two roots are evidence, or that two
-- bodies have one digest.
use Rattle.std.proofs.Common.{◌≡◌, ◌≢◌, ◌⊎◌, ◌↔◌, ℕ, ◌-◌, ◌<◌, ◌≤◌, List, length, slice_get, Contains, All, refl, sym, ap, subst, ◌∙◌, inl, inr, arith}
use Rattle.std.proofs.lemmas.Bool.{cases_lt, cases_order}
use Rattle.rootchain.specs.declared.chain.placing.Place.{Place}
use Rattle.rootchain.specs.declared.chain.placing.Place.TheVariants as place
use Rattle.rootchain.specs.declared.compare.Compare.{Compare}
use Rattle.rootchain.specs.declared.compare.Compare.TheVariants.{Equal, Evidence, Collision}
use Rattle.rootchain.specs.declared.evidence.RootEvidence.TheVariants.{Fork, Link, Skip}
use Rattle.rootchain.specs.declared.signed_root.SignedRoot.{SignedRoot}
use Rattle.rootchain.specs.Chains.{Ascend, IsAt, IsChain, IsHead, KeyedRoots, Names, Verifies}
use Rattle.rootchain.specs.Comparisons.{told_by_place, AreAlikeAt, AreOfBoth, AreOneAt, ChainsAgree, CollisionHolds, ComparedHolds, EvidenceIs, IsCollided, IsCommon, IsCompared, IsComparedApart, IsComparedWithin, IsOfBoth, IsPassedOver, IsDecidedFrom, LiesBelow, Spans}
use Rattle.rootchain.specs.Evidence.{IsLink, IsRootEvidence, IsSkip}
use Rattle.rootchain.specs.Places.{EvidenceHolds, IsFirst, IsMissing, IsNextAfter, IsPlace, IsPlaceAbove}
use Rattle.rootchain.proofs.Chains.{ascend-linked, one-root}
use Rattle.rootchain.proofs.Compared.{contains, placed}
use Rattle.rootchain.proofs.Places.{ends, first-low, held-verifies, next-passes, one-first, place_sound}
use Rattle.rootchain.proofs.Walks.{up-to}

-- ---- the ranges of two chains

-- one epoch has one root
pub unique : (chain : KeyedRoots) → Ascend chain.roots → (epoch : ℕ) (x y : SignedRoot) → IsAt chain epoch x → IsAt chain epoch y → x ≡ y
unique chain up epoch x y hx hy = one-root chain.roots up hx.0.0 hy.0.0 x y hx.0.1 hy.0.1 hx.0.2 hy.0.2 (hx.1 ∙ sym hy.1)

pub spans-at : (chain : KeyedRoots) (epoch : ℕ) (x : SignedRoot) → IsAt chain epoch x → Spans chain epoch
spans-at chain epoch x held = let e = held.1 in record { low = x; high = x; has-low = held.0; has-high = held.0; not-later = omega (arith, e); not-earlier = omega (arith, e) }

pub not-missing : (chain : KeyedRoots) (epoch : ℕ) (x : SignedRoot) → IsAt chain epoch x → IsMissing chain epoch → ⊥
not-missing chain epoch x held missing = missing held.0.0 x held.0.1 (ap (λ (z : SignedRoot). z.body.epoch) held.0.2 ∙ held.1)

-- chains that lie one below the other have no common range
not-apart : (lower upper : KeyedRoots) → Ascend lower.roots → Ascend upper.roots → (head first : SignedRoot) → LiesBelow lower upper head first → (epoch : ℕ) → Spans lower epoch → Spans upper epoch → ⊥
not-apart lower upper up up' head first below epoch spans spans' =
    let held = spans.has-high in
    let inside = held.1 in
    let p = up-to lower.roots up held.0 (length lower.roots - 1) spans.high head (placed lower.roots spans.high held) below.0 (omega (arith, inside)) in
    let q = up-to upper.roots up' 0 spans'.has-low.0 first spans'.low below.1 (placed upper.roots spans'.low spans'.has-low) (omega arith) in
    let r = spans.not-earlier in
    let s = spans'.not-later in
    let gap = below.2 in
    omega (arith, p, q, r, s, gap)

-- nor does each lie below the other
not-both : (lower upper : KeyedRoots) → Ascend lower.roots → Ascend upper.roots → 0 < length lower.roots → 0 < length upper.roots → (head first head' first' : SignedRoot) → LiesBelow lower upper head first → LiesBelow upper lower head' first' → ⊥
not-both lower upper up up' some some' head first head' first' below above =
    let p = first-low upper.roots first head' up' some' below.1 above.0 in
    let q = first-low lower.roots first' head up some above.1 below.0 in
    let gap = below.2 in
    let gap' = above.2 in
    omega (arith, p, q, gap, gap')

-- at an epoch that neither has they are alike
alike-missing : (one other : KeyedRoots) (epoch : ℕ) → IsMissing one epoch → IsMissing other epoch → AreAlikeAt one other epoch
alike-missing one other epoch missing missing' = (λ root held. absurd (not-missing one epoch root held missing), λ root held. absurd (not-missing other epoch root held missing'))

-- and so at one at which they have one body
alike-one : (one other : KeyedRoots) → Ascend one.roots → Ascend other.roots → (epoch : ℕ) → AreOneAt one other epoch → AreAlikeAt one other epoch
alike-one one other up up' epoch shared = (
  λ root held. (shared.1, shared.3, ap (λ (z : SignedRoot). z.body) (unique one up epoch root shared.0 held shared.2) ∙ shared.4),
  λ root held. (shared.0, shared.2, ap (λ (z : SignedRoot). z.body) (unique other up' epoch root shared.1 held shared.3) ∙ sym shared.4),
)

pub not-two : (one other : KeyedRoots) → Ascend other.roots → (epoch : ℕ) (x y : SignedRoot) → IsAt one epoch x → IsAt other epoch y → x.body ≢ y.body → (IsCommon one other epoch → AreAlikeAt one other epoch) → ⊥
not-two one other up' epoch x y hx hy differ alike =
    let also = (alike (spans-at one epoch x hx, spans-at other epoch y hy)).0 x hx in
    differ (also.2 ∙ ap (λ (z : SignedRoot). z.body) (unique other up' epoch also.0 y also.1 hy))

-- ---- the head of one chain and the first root of one above it

-- a root that names the head, or a later epoch than its own, is no evidence with it
no_evidence : (hash : List ℕ → List ℕ) (head first : SignedRoot) (at : Place) → IsPlaceAbove hash head first at → Equal ≡ told_by_place at → ¬ IsSkip head first × ¬ IsLink hash head first
unfolding Names
no_evidence hash head first (place.Evidence evidence) h told = absurd cc
no_evidence hash head first place.Next h told = (λ skip. let e = h.0 in let less = skip.0 in omega (arith, e, less), λ link. link.1 h.1)
no_evidence hash head first place.Ahead h told = (λ skip. let less = skip.0 in omega (arith, h, less), λ link. let e = link.0 in omega (arith, h, e))
no_evidence hash head first place.Known h told = absurd h
no_evidence hash head first place.BeforeStart h told = absurd h

-- if they are no evidence, the place tells of none
told_equal : (hash : List ℕ → List ℕ) (head first : SignedRoot) (at : Place) → head.body.epoch < first.body.epoch → IsPlaceAbove hash head first at → ¬ IsSkip head first × ¬ IsLink hash head first → told_by_place at ≡ Equal
told_equal hash head first (place.Evidence (Skip one other)) gap h none = absurd (none.0 (h.0, gap))
told_equal hash head first (place.Evidence (Link one other)) gap h none = absurd (none.1 h.0)
told_equal hash head first (place.Evidence (Fork one other)) gap h none = absurd h
told_equal hash head first place.Next gap h none = refl
told_equal hash head first place.Ahead gap h none = refl
told_equal hash head first place.Known gap h none = refl
told_equal hash head first place.BeforeStart gap h none = refl

-- what a place tells is no collision
pub told_holds : (hash : List ℕ → List ℕ) (one other : KeyedRoots) (at : Place) → CollisionHolds hash one other (told_by_place at)
told_holds hash one other (place.Evidence evidence) = tt
told_holds hash one other place.Next = tt
told_holds hash one other place.Ahead = tt
told_holds hash one other place.Known = tt
told_holds hash one other place.BeforeStart = tt

told_evidence : (hash : List ℕ → List ℕ) (verified : List ℕ → List ℕ → List ℕ → Type 0) (key : List ℕ) (at : Place) → EvidenceHolds hash verified key at → ComparedHolds hash verified key (told_by_place at)
told_evidence hash verified key (place.Evidence evidence) h = h
told_evidence hash verified key place.Next h = tt
told_evidence hash verified key place.Ahead h = tt
told_evidence hash verified key place.Known h = tt
told_evidence hash verified key place.BeforeStart h = tt

told_roots : (hash : List ℕ → List ℕ) (one other : KeyedRoots) (head first : SignedRoot) (at : Place) → AreOfBoth one other head first → IsPlaceAbove hash head first at → IsOfBoth one other (told_by_place at)
told_roots hash one other head first (place.Evidence (Skip x y)) both h = rw (h.1, h.2) both
told_roots hash one other head first (place.Evidence (Link x y)) both h = rw (h.1, h.2) both
told_roots hash one other head first (place.Evidence (Fork x y)) both h = absurd h
told_roots hash one other head first place.Next both h = tt
told_roots hash one other head first place.Ahead both h = tt
told_roots hash one other head first place.Known both h = tt
told_roots hash one other head first place.BeforeStart both h = tt

module _ (hash : List ℕ → List ℕ) (verified : List ℕ → List ℕ → List ℕ → Type 0) where
  above-is-place : (chain : KeyedRoots) → IsChain hash verified chain → (head root : SignedRoot) → IsHead chain head → head.body.epoch < root.body.epoch → (at : Place) → IsPlaceAbove hash head root at → IsPlace hash chain root at
  above-is-place chain is head root at-head gap at h =
      let same : (head' : SignedRoot) → IsHead chain head' → head ≡ head' = λ head' at'. one-first head head' (slice_get chain.roots (length chain.roots - 1)) at-head at' in record {
        below = λ first at-first low.
            let p = first-low chain.roots first head (ascend-linked hash chain.roots is.linked) is.first at-first at-head in
            absurd (omega (arith, p, gap, low));
        within = λ first head' at-first at' low high. let e = ap (λ (z : SignedRoot). z.body.epoch) (same head' at') in absurd (omega (arith, e, gap, high));
        above = λ head' at' gap'. subst (λ (z : SignedRoot). IsPlaceAbove hash z root at) (same head' at') h;
      }

  module _ (one other : KeyedRoots) (is : IsChain hash verified one) (is' : IsChain hash verified other) where
    up : Ascend one.roots
    up = ascend-linked hash one.roots is.linked

    up' : Ascend other.roots
    up' = ascend-linked hash other.roots is'.linked

    -- ---- the answer of each case

    module _ (head first : SignedRoot) (result : Compare) where
      apart : (lower upper : KeyedRoots) → IsChain hash verified lower → LiesBelow lower upper head first → ((at : Place) × IsPlaceAbove hash head first at × (result ≡ told_by_place at)) →
          (head' first' : SignedRoot) → LiesBelow lower upper head' first' → IsComparedApart hash lower first' result
      apart lower upper il below told head' first' below' =
          let e = one-first first first' (slice_get upper.roots 0) below.1 below'.1 in
          subst (λ (z : SignedRoot). IsComparedApart hash lower z result) e (told.0, above-is-place lower il head first below.0 below.2 told.0 told.1, told.2)

      pub compared_below : LiesBelow one other head first → ((at : Place) × IsPlaceAbove hash head first at × (result ≡ told_by_place at)) → IsCompared hash one other result
      compared_below below told = record {
        below = apart one other is below told;
        above = λ head' first' above. absurd (not-both one other up up' is.first is'.first head first head' first' below above);
        within = λ epoch common. absurd (not-apart one other up up' head first below epoch common.0 common.1);
      }

      pub compared_above : LiesBelow other one head first → ((at : Place) × IsPlaceAbove hash head first at × (result ≡ told_by_place at)) → IsCompared hash one other result
      compared_above above told = record {
        below = λ head' first' below. absurd (not-both one other up up' is.first is'.first head' first' head first below above);
        above = apart other one is' above told;
        within = λ epoch common. absurd (not-apart other one up' up head first above epoch common.1 common.0);
      }

    pub compared_meeting : (result : Compare) → ((head first : SignedRoot) → IsHead one head → IsFirst other first → first.body.epoch ≤ head.body.epoch) → ((head first : SignedRoot) → IsHead other head → IsFirst one first → first.body.epoch ≤ head.body.epoch) →
        IsComparedWithin one other result → IsCompared hash one other result
    compared_meeting result meets meets' h = record {
      below = λ head first below. let low = meets head first below.0 below.1 in let gap = below.2 in absurd (omega (arith, low, gap));
      above = λ head first above. let low = meets' head first above.0 above.1 in let gap = above.2 in absurd (omega (arith, low, gap));
      within = λ epoch common. h;
    }

    -- the case that an answer is of
    abbrev pub Cases : Compare → Type 0
    Cases result =
        ((head first : SignedRoot) × LiesBelow one other head first × IsComparedApart hash one first result)
        ⊎ (((head first : SignedRoot) × LiesBelow other one head first × IsComparedApart hash other first result)
        ⊎ ((epoch : ℕ) × IsCommon one other epoch × IsComparedWithin one other result))

    pub cases : (result : Compare) → IsCompared hash one other result → Cases result
    cases result h =
        let e = ends one.roots is.first in
        let e' = ends other.roots is'.first in
        let order = first-low one.roots e.first e.head up is.first e.at-first e.at-head in
        let order' = first-low other.roots e'.first e'.head up' is'.first e'.at-first e'.at-head in
        let held : (epoch : ℕ) → e.first.body.epoch ≤ epoch → epoch ≤ e.head.body.epoch → Spans one epoch = λ epoch p q. record { low = e.first; high = e.head; has-low = e.has-first; has-high = e.has-head; not-later = p; not-earlier = q } in
        let held' : (epoch : ℕ) → e'.first.body.epoch ≤ epoch → epoch ≤ e'.head.body.epoch → Spans other epoch = λ epoch p q. record { low = e'.first; high = e'.head; has-low = e'.has-first; has-high = e'.has-head; not-later = p; not-earlier = q } in
        let shared : (epoch : ℕ) → IsCommon one other epoch → Cases result = λ epoch common. inr (inr (epoch, common, h.within epoch common)) in
        elim (cases_lt e.head.body.epoch e'.first.body.epoch) [
          | inl gap ↦ inl (e.head, e'.first, (e.at-head, e'.at-first, gap), h.below e.head e'.first (e.at-head, e'.at-first, gap))
          | inr meets ↦ elim (cases_lt e'.head.body.epoch e.first.body.epoch) [
            | inl gap ↦ inr (inl (e'.head, e.first, (e'.at-head, e.at-first, gap), h.above e'.head e.first (e'.at-head, e.at-first, gap)))
            | inr meets' ↦ elim (cases_lt e.first.body.epoch e'.first.body.epoch) [
              | inl low ↦ shared e'.first.body.epoch (held e'.first.body.epoch (omega (arith, low)) meets, held' e'.first.body.epoch (omega arith) order')
              | inr low ↦ shared e.first.body.epoch (held e.first.body.epoch (omega arith) order, held' e.first.body.epoch low meets')
            ]
          ]
        ]

    -- ---- agreement

    agreed-below : (head first : SignedRoot) → LiesBelow one other head first → ¬ IsSkip head first × ¬ IsLink hash head first → ChainsAgree hash one other
    agreed-below head first below none = record {
      alike = λ epoch common. absurd (not-apart one other up up' head first below epoch common.0 common.1);
      may-meet = λ head' first' below'.
          let e = one-first head head' (slice_get one.roots (length one.roots - 1)) below.0 below'.0 in
          let f = one-first first first' (slice_get other.roots 0) below.1 below'.1 in
          subst (λ (x : SignedRoot). ¬ IsSkip head' x × ¬ IsLink hash head' x) f (subst (λ (x : SignedRoot). ¬ IsSkip x first × ¬ IsLink hash x first) e none);
      may-meet-below = λ head' first' above. absurd (not-both one other up up' is.first is'.first head first head' first' below above);
    }

    agreed-above : (head first : SignedRoot) → LiesBelow other one head first → ¬ IsSkip head first × ¬ IsLink hash head first → ChainsAgree hash one other
    agreed-above head first above none = record {
      alike = λ epoch common. absurd (not-apart other one up' up head first above epoch common.1 common.0);
      may-meet = λ head' first' below. absurd (not-both one other up up' is.first is'.first head' first' head first below above);
      may-meet-below = λ head' first' above'.
          let e = one-first head head' (slice_get other.roots (length other.roots - 1)) above.0 above'.0 in
          let f = one-first first first' (slice_get one.roots 0) above.1 above'.1 in
          subst (λ (x : SignedRoot). ¬ IsSkip head' x × ¬ IsLink hash head' x) f (subst (λ (x : SignedRoot). ¬ IsSkip x first × ¬ IsLink hash x first) e none);
    }

    agreed-within : (common : ℕ) → IsCommon one other common → IsComparedWithin one other Equal → ChainsAgree hash one other
    agreed-within common shared h = record {
      alike = λ epoch at. elim h.1 [
        | inl searched ↦ elim (cases_order epoch searched.0) [
          | inl same ↦ subst (λ n. AreAlikeAt one other n) (sym same) (alike-one one other up up' searched.0 searched.1.here)
          | inr (inl less) ↦ searched.2 epoch less at
          | inr (inr more) ↦ let start = searched.3 in let none = h.2 epoch at (omega (arith, start, more)) in alike-missing one other epoch none.0 none.1
        ]
        | inr searched ↦ let start = searched.1 in let none = h.2 epoch at (omega (arith, start)) in alike-missing one other epoch none.0 none.1
      ];
      may-meet = λ head first below. absurd (not-apart one other up up' head first below common shared.0 shared.1);
      may-meet-below = λ head first above. absurd (not-apart other one up' up head first above common shared.1 shared.0);
    }

    equal-agrees : IsCompared hash one other Equal → ChainsAgree hash one other
    equal-agrees h = elim (cases Equal h) [
      | inl below ↦ agreed-below below.0 below.1 below.2 (no_evidence hash below.0 below.1 below.3.0 (below.3.1.above below.0 below.2.0 below.2.2) below.3.2)
      | inr (inl above) ↦ agreed-above above.0 above.1 above.2 (no_evidence hash above.0 above.1 above.3.0 (above.3.1.above above.0 above.2.0 above.2.2) above.3.2)
      | inr (inr within) ↦ agreed-within within.0 within.1 within.2
    ]

    within-agreed : (result : Compare) → ChainsAgree hash one other → IsComparedWithin one other result → result ≡ Equal
    within-agreed Equal agreed h = refl
    within-agreed (Collision x y) agreed h = let a = h.2 in absurd (not-two one other up' a.epoch h.0 h.1 a.at-one a.at-other a.differ (agreed.alike a.epoch))
    within-agreed (Evidence (Fork root also)) agreed h = absurd (not-two one other up' h.1 root also h.4 h.5 h.6 (agreed.alike h.1))
    within-agreed (Evidence (Skip root over)) agreed h =
        let alike = agreed.alike h.1 h.3.common in
        elim h.4 [
          | inl k ↦ let also = alike.0 root k.0 in absurd (not-missing other h.1 also.0 also.1 k.1)
          | inr k ↦ let also = alike.1 root k.0 in absurd (not-missing one h.1 also.0 also.1 k.1)
        ]
    within-agreed (Evidence (Link root over)) agreed h = absurd h

    agreed-equal : (result : Compare) → IsCompared hash one other result → ChainsAgree hash one other → result ≡ Equal
    agreed-equal result h agreed = elim (cases result h) [
      | inl below ↦ below.3.2 ∙ told_equal hash below.0 below.1 below.3.0 below.2.2 (below.3.1.above below.0 below.2.0 below.2.2) (agreed.may-meet below.0 below.1 below.2)
      | inr (inl above) ↦ above.3.2 ∙ told_equal hash above.0 above.1 above.3.0 above.2.2 (above.3.1.above above.0 above.2.0 above.2.2) (agreed.may-meet-below above.0 above.1 above.2)
      | inr (inr within) ↦ within-agreed result agreed within.2
    ]

    -- they are equal exactly where they agree
    pub equal_where_agreed : (result : Compare) → IsCompared hash one other result → (result ≡ Equal) ↔ ChainsAgree hash one other
    equal_where_agreed result h = (λ e. equal-agrees (subst (IsCompared hash one other) e h), agreed-equal result h)

    -- ---- a collision

    -- where they have one body at an epoch and differ at an earlier one, the answer is a collision
    module _ (last epoch : ℕ) (shared : AreOneAt one other last) (less : epoch < last) (common : IsCommon one other epoch) (differ : ¬ AreAlikeAt one other epoch) where
      not-searched : (start : ℕ) → IsDecidedFrom one other start → ⊥
      not-searched start searched = elim searched [
        | inl s ↦ elim (cases_lt s.0 last) [
          | inl more ↦ s.1.none-later last more shared
          | inr low ↦ differ (s.2 epoch (omega (arith, low, less)) common)
        ]
        | inr s ↦ s.0 last shared
      ]

      collided-within : (result : Compare) → IsComparedWithin one other result → IsCollided result
      collided-within (Collision x y) h = tt
      collided-within Equal h = not-searched h.0 h.1
      collided-within (Evidence (Fork root also)) h = not-searched h.0 h.2
      collided-within (Evidence (Skip root over)) h = not-searched h.0 h.2
      collided-within (Evidence (Link root over)) h = absurd h

      pub collided_where_apart : (result : Compare) → IsCompared hash one other result → IsCollided result
      collided_where_apart result h = collided-within result (h.within epoch common)

    -- ---- evidence

    apart-evidence : (lower upper : KeyedRoots) → IsChain hash verified lower → IsChain hash verified upper → (key : List ℕ) → lower.key ≡ key → upper.key ≡ key → (head first : SignedRoot) → LiesBelow lower upper head first →
        (result : Compare) → IsComparedApart hash lower first result → ComparedHolds hash verified key result
    apart-evidence lower upper il iu key e f head first below result h =
        let signed = subst (λ k. Verifies verified k first) (f ∙ sym e) (held-verifies hash verified upper iu first (contains upper.roots 0 first below.1)) in
        let holds = place_sound hash verified lower first h.0 il signed h.1 in
        subst (ComparedHolds hash verified key) (sym h.2) (told_evidence hash verified key h.0 (subst (λ k. EvidenceHolds hash verified k h.0) e holds))

    skip-evidence : (holder passer : KeyedRoots) → IsChain hash verified holder → IsChain hash verified passer → (key : List ℕ) → holder.key ≡ key → passer.key ≡ key → (epoch : ℕ) (root over : SignedRoot) → Spans passer epoch →
        IsPassedOver holder passer epoch root over → IsRootEvidence hash verified key (Skip root over)
    skip-evidence holder passer ih ip key e f epoch root over spans h =
        let at = h.0 in
        let ends' = ends passer.roots ip.first in
        let low = up-to passer.roots (ascend-linked hash passer.roots ip.linked) 0 spans.has-low.0 ends'.first spans.low ends'.at-first (placed passer.roots spans.low spans.has-low) (omega arith) in
        let bound = spans.not-later in
        let same = at.1 in (
          subst (λ k. Verifies verified k root) e (held-verifies hash verified holder ih root at.0),
          subst (λ k. Verifies verified k over) f (held-verifies hash verified passer ip over h.2.0),
          next-passes hash verified passer ip ends'.first root over ends'.at-first (omega (arith, low, bound, same)) (subst (λ n. IsMissing passer n) (sym same) h.1) (subst (λ n. IsNextAfter passer n over) (sym same) h.2),
        )

    within-evidence : one.key ≡ other.key → (result : Compare) → IsComparedWithin one other result → ComparedHolds hash verified one.key result
    within-evidence e Equal h = tt
    within-evidence e (Collision x y) h = tt
    within-evidence e (Evidence (Fork root also)) h = (
      held-verifies hash verified one is root h.4.0,
      subst (λ k. Verifies verified k also) (sym e) (held-verifies hash verified other is' also h.5.0),
      (h.4.1 ∙ sym h.5.1, h.6),
    )
    within-evidence e (Evidence (Skip root over)) h = elim h.4 [
      | inl k ↦ skip-evidence one other is is' one.key refl (sym e) h.1 root over h.3.common.1 k
      | inr k ↦ skip-evidence other one is' is one.key (sym e) refl h.1 root over h.3.common.0 k
    ]
    within-evidence e (Evidence (Link root over)) h = absurd h

    -- the evidence holds under their key
    pub compared_evidence : one.key ≡ other.key → (result : Compare) → IsCompared hash one other result → ComparedHolds hash verified one.key result
    compared_evidence e result h = elim (cases result h) [
      | inl below ↦ apart-evidence one other is is' one.key refl (sym e) below.0 below.1 below.2 result below.3
      | inr (inl above) ↦ apart-evidence other one is' is one.key (sym e) refl above.0 above.1 above.2 result above.3
      | inr (inr within) ↦ within-evidence e result within.2
    ]

    -- ---- the roots of evidence

    within-roots : (result : Compare) → IsComparedWithin one other result → IsOfBoth one other result
    within-roots Equal h = tt
    within-roots (Collision x y) h = tt
    within-roots (Evidence (Fork root also)) h = (h.4.0, h.5.0)
    within-roots (Evidence (Skip root over)) h = elim h.4 [ inl k ↦ inl (k.0.0, k.2.0) | inr k ↦ inr (k.0.0, k.2.0) ]
    within-roots (Evidence (Link root over)) h = absurd h

    -- one root is of each chain
    pub compared_roots : (result : Compare) → IsCompared hash one other result → IsOfBoth one other result
    compared_roots result h = elim (cases result h) [
      | inl below ↦ subst (IsOfBoth one other) (sym below.3.2)
          (told_roots hash one other below.0 below.1 below.3.0 (inl (contains one.roots (length one.roots - 1) below.0 below.2.0, contains other.roots 0 below.1 below.2.1)) (below.3.1.above below.0 below.2.0 below.2.2))
      | inr (inl above) ↦ subst (IsOfBoth one other) (sym above.3.2)
          (told_roots hash one other above.0 above.1 above.3.0 (inr (contains other.roots (length other.roots - 1) above.0 above.2.0, contains one.roots 0 above.1 above.2.1)) (above.3.1.above above.0 above.2.0 above.2.2))
      | inr (inr within) ↦ within-roots result within.2
    ]

-- so what holds of the roots of both chains holds of those of evidence
all-of : (P : SignedRoot → Type 0) (roots : List SignedRoot) → All P roots → (root : SignedRoot) → Contains roots root → P root
all-of P roots all root held = subst P held.2 (all held.0 root held.1)

pair-of : (P : SignedRoot → Type 0) (one other : KeyedRoots) → All P one.roots → All P other.roots → (root also : SignedRoot) → AreOfBoth one other root also → P root × P also
pair-of P one other all all' root also h = elim h [
  | inl k ↦ (all-of P one.roots all root k.0, all-of P other.roots all' also k.1)
  | inr k ↦ (all-of P other.roots all' root k.0, all-of P one.roots all also k.1)
]

pub evidence_is : (P : SignedRoot → Type 0) (one other : KeyedRoots) → All P one.roots → All P other.roots → (result : Compare) → IsOfBoth one other result → EvidenceIs P result
evidence_is P one other all all' Equal h = tt
evidence_is P one other all all' (Collision x y) h = tt
evidence_is P one other all all' (Evidence (Fork root also)) h = (all-of P one.roots all root h.0, all-of P other.roots all' also h.1)
evidence_is P one other all all' (Evidence (Link root also)) h = pair-of P one other all all' root also h
evidence_is P one other all all' (Evidence (Skip root also)) h = pair-of P one other all all' root also h
