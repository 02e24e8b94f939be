-- Two chains come to one answer alone.
use Rattle.std.proofs.Common.{◌≡◌, ℕ, ◌+◌, ◌<◌, ◌≤◌, List, refl, sym, ap, subst, ◌∙◌, inl, inr, arith}
use Rattle.std.proofs.lemmas.Bool.{cases_order}
use Rattle.rootchain.specs.declared.chain.placing.Place.{Place}
use Rattle.rootchain.specs.declared.chain.placing.Place.TheVariants as place
use Rattle.rootchain.specs.declared.compare.Compare.{Compare}
use Rattle.rootchain.specs.declared.compare.Compare.TheVariants.{Equal, Evidence, Collision}
use Rattle.rootchain.specs.declared.evidence.RootEvidence.TheVariants.{Fork, Link, Skip}
use Rattle.rootchain.specs.declared.signed_root.SignedRoot.{SignedRoot}
use Rattle.rootchain.specs.Bodies.{body_bytes}
use Rattle.rootchain.specs.Chains.{Ascend, IsAt, IsChain, KeyedRoots, Names}
use Rattle.rootchain.specs.Comparisons.{told_by_place, IsCommon, IsCompared, IsComparedApart, IsComparedWithin, IsFirstHeld, IsLastApart, IsLastOne, IsPassedOver, IsDecidedFrom, LiesBelow}
use Rattle.rootchain.specs.Places.{IsMissing, IsNextAfter, IsPlaceAbove}
use Rattle.rootchain.proofs.Agreement.{cases, not-missing, not-two, unique}
use Rattle.rootchain.proofs.Chains.{ascend-linked}

-- ---- chains that lie one below the other

told_once : (hash : List ℕ → List ℕ) (head first : SignedRoot) (at at' : Place) → IsPlaceAbove hash head first at → IsPlaceAbove hash head first at' → told_by_place at ≡ told_by_place at'
unfolding Names
told_once hash head first (place.Evidence (Skip x y)) (place.Evidence (Skip x' y')) h h' = rw (h.1, h.2, h'.1, h'.2) refl
told_once hash head first (place.Evidence (Skip x y)) (place.Evidence (Link x' y')) h h' = let p = h.0 in let q = h'.0.0 in absurd (omega (arith, p, q))
told_once hash head first (place.Evidence (Skip x y)) place.Next h h' = let p = h.0 in let q = h'.0 in absurd (omega (arith, p, q))
told_once hash head first (place.Evidence (Skip x y)) place.Ahead h h' = let p = h.0 in let q = h' in absurd (omega (arith, p, q))
told_once hash head first (place.Evidence (Skip x y)) (place.Evidence (Fork x' y')) h h' = absurd h'
told_once hash head first (place.Evidence (Skip x y)) place.Known h h' = absurd h'
told_once hash head first (place.Evidence (Skip x y)) place.BeforeStart h h' = absurd h'
told_once hash head first (place.Evidence (Link x y)) (place.Evidence (Skip x' y')) h h' = let p = h.0.0 in let q = h'.0 in absurd (omega (arith, p, q))
told_once hash head first (place.Evidence (Link x y)) (place.Evidence (Link x' y')) h h' = rw (h.1, h.2, h'.1, h'.2) refl
told_once hash head first (place.Evidence (Link x y)) place.Next h h' = absurd (h.0.1 h'.1)
told_once hash head first (place.Evidence (Link x y)) place.Ahead h h' = let p = h.0.0 in let q = h' in absurd (omega (arith, p, q))
told_once hash head first (place.Evidence (Link x y)) (place.Evidence (Fork x' y')) h h' = absurd h'
told_once hash head first (place.Evidence (Link x y)) place.Known h h' = absurd h'
told_once hash head first (place.Evidence (Link x y)) place.BeforeStart h h' = absurd h'
told_once hash head first place.Next (place.Evidence (Skip x' y')) h h' = let p = h.0 in let q = h'.0 in absurd (omega (arith, p, q))
told_once hash head first place.Next (place.Evidence (Link x' y')) h h' = absurd (h'.0.1 h.1)
told_once hash head first place.Next place.Next h h' = refl
told_once hash head first place.Next place.Ahead h h' = refl
told_once hash head first place.Next (place.Evidence (Fork x' y')) h h' = absurd h'
told_once hash head first place.Next place.Known h h' = absurd h'
told_once hash head first place.Next place.BeforeStart h h' = absurd h'
told_once hash head first place.Ahead (place.Evidence (Skip x' y')) h h' = let p = h in let q = h'.0 in absurd (omega (arith, p, q))
told_once hash head first place.Ahead (place.Evidence (Link x' y')) h h' = let p = h in let q = h'.0.0 in absurd (omega (arith, p, q))
told_once hash head first place.Ahead place.Next h h' = refl
told_once hash head first place.Ahead place.Ahead h h' = refl
told_once hash head first place.Ahead (place.Evidence (Fork x' y')) h h' = absurd h'
told_once hash head first place.Ahead place.Known h h' = absurd h'
told_once hash head first place.Ahead place.BeforeStart h h' = absurd h'
told_once hash head first (place.Evidence (Fork x y)) at h h' = absurd h
told_once hash head first place.Known at h h' = absurd h
told_once hash head first place.BeforeStart at h h' = absurd h

apart-once : (hash : List ℕ → List ℕ) (lower upper : KeyedRoots) (head first : SignedRoot) → LiesBelow lower upper head first → (answer also : Compare) → IsComparedApart hash lower first answer → IsComparedApart hash lower first also → answer ≡ also
apart-once hash lower upper head first below answer also h h' =
    h.2 ∙ told_once hash head first h.0 h'.0 (h.1.above head below.0 below.2) (h'.1.above head below.0 below.2) ∙ sym h'.2

-- ---- chains with a common range

next-once : (chain : KeyedRoots) → Ascend chain.roots → (epoch : ℕ) (x y : SignedRoot) → IsNextAfter chain epoch x → IsNextAfter chain epoch y → x ≡ y
next-once chain up epoch x y hx hy =
    let p = subst (λ (z : SignedRoot). epoch < z.body.epoch → x.body.epoch ≤ z.body.epoch) hy.0.2 (hx.2 hy.0.0 y hy.0.1) hy.1 in
    let q = subst (λ (z : SignedRoot). epoch < z.body.epoch → y.body.epoch ≤ z.body.epoch) hx.0.2 (hy.2 hx.0.0 x hx.0.1) hx.1 in
    unique chain up x.body.epoch x y (hx.0, refl) (hy.0, omega (arith, p, q))

module _ (one other : KeyedRoots) (up : Ascend one.roots) (up' : Ascend other.roots) where
  last-once : (last last' : ℕ) → IsLastOne one other last → IsLastOne one other last' → last ≡ last'
  last-once last last' h h' = elim (cases_order last last') [
    | inl same ↦ same
    | inr (inl less) ↦ absurd (h.none-later last' less h'.here)
    | inr (inr more) ↦ absurd (h'.none-later last more h.here)
  ]

  start-once : (start start' : ℕ) → IsDecidedFrom one other start → IsDecidedFrom one other start' → start ≡ start'
  start-once start start' h h' = elim h [
    | inl s ↦ elim h' [
      | inl s' ↦ s.3 ∙ ap (λ n. n + 1) (last-once s.0 s'.0 s.1 s'.1) ∙ sym s'.3
      | inr s' ↦ absurd (s'.0 s.0 s.1.here)
    ]
    | inr s ↦ elim h' [
      | inl s' ↦ absurd (s.0 s'.0 s'.1.here)
      | inr s' ↦ s.1 ∙ sym s'.1
    ]
  ]

  -- one of the chains has a root of the epoch
  abbrev Held : ℕ → Type 0
  Held epoch = ¬ (IsMissing one epoch × IsMissing other epoch)

  held-fork : (root also : SignedRoot) (h : IsComparedWithin one other (Evidence (Fork root also))) → Held h.1
  held-fork root also h missing = not-missing one h.1 root h.4 missing.0

  held-skip : (root over : SignedRoot) (h : IsComparedWithin one other (Evidence (Skip root over))) → Held h.1
  held-skip root over h missing = elim h.4 [ inl k ↦ not-missing one h.1 root k.0 missing.0 | inr k ↦ not-missing other h.1 root k.0 missing.1 ]

  none-held : (start start' epoch : ℕ) → IsDecidedFrom one other start → ((epoch : ℕ) → IsCommon one other epoch → start ≤ epoch → IsMissing one epoch × IsMissing other epoch) →
      IsDecidedFrom one other start' → IsFirstHeld one other start' epoch → Held epoch → ⊥
  none-held start start' epoch searched none searched' first held =
      let e = start-once start start' searched searched' in
      let from = first.from in
      held (none epoch first.common (omega (arith, e, from)))

  epoch-once : (start start' epoch epoch' : ℕ) → IsDecidedFrom one other start → IsDecidedFrom one other start' → IsFirstHeld one other start epoch → IsFirstHeld one other start' epoch' → Held epoch → Held epoch' → epoch ≡ epoch'
  epoch-once start start' epoch epoch' searched searched' first first' held held' =
      let e = start-once start start' searched searched' in
      let from = first.from in
      let from' = first'.from in
      elim (cases_order epoch epoch') [
        | inl same ↦ same
        | inr (inl less) ↦ absurd (held (first'.none-before epoch (omega (arith, e, from)) less first.common))
        | inr (inr more) ↦ absurd (held' (first.none-before epoch' (omega (arith, e, from')) more first'.common))
      ]

  -- chains that differ below the last one body are not searched
  apart-searched : (root also : SignedRoot) → IsLastApart one other root also → (start : ℕ) → IsDecidedFrom one other start → ⊥
  apart-searched root also a start searched = elim searched [
    | inl s ↦
        let e = last-once s.0 a.last s.1 a.is-last in
        let below = a.below in
        not-two one other up' a.epoch root also a.at-one a.at-other a.differ (s.2 a.epoch (omega (arith, e, below)))
    | inr s ↦ s.0 a.last a.is-last.here
  ]

  same-collision : (x y x' y' : List ℕ) → IsComparedWithin one other (Collision x y) → IsComparedWithin one other (Collision x' y') → Collision x y ≡ Collision x' y'
  same-collision x y x' y' h h' =
      let a = h.2 in
      let b = h'.2 in
      let last = last-once a.last b.last a.is-last b.is-last in
      let low = a.below in
      let low' = b.below in
      let epoch : a.epoch ≡ b.epoch = elim (cases_order a.epoch b.epoch) [
        | inl same ↦ same
        | inr (inl less) ↦ absurd (not-two one other up' b.epoch h'.0 h'.1 b.at-one b.at-other b.differ (a.alike b.epoch less (omega (arith, last, low'))))
        | inr (inr more) ↦ absurd (not-two one other up' a.epoch h.0 h.1 a.at-one a.at-other a.differ (b.alike a.epoch more (omega (arith, last, low))))
      ] in
      let root = unique one up a.epoch h.0 h'.0 a.at-one (subst (λ n. IsAt one n h'.0) (sym epoch) b.at-one) in
      let also = unique other up' a.epoch h.1 h'.1 a.at-other (subst (λ n. IsAt other n h'.1) (sym epoch) b.at-other) in
      let first : x ≡ x' = h.3 ∙ ap (λ (z : SignedRoot). body_bytes z.body) root ∙ sym h'.3 in
      let second : y ≡ y' = h.4 ∙ ap (λ (z : SignedRoot). body_bytes z.body) also ∙ sym h'.4 in
      rw (first, second) refl

  same-fork : (root also root' also' : SignedRoot) → IsComparedWithin one other (Evidence (Fork root also)) → IsComparedWithin one other (Evidence (Fork root' also')) → Evidence (Fork root also) ≡ Evidence (Fork root' also')
  same-fork root also root' also' h h' =
      let epoch = epoch-once h.0 h'.0 h.1 h'.1 h.2 h'.2 h.3 h'.3 (held-fork root also h) (held-fork root' also' h') in
      let first : root ≡ root' = unique one up h.1 root root' h.4 (subst (λ n. IsAt one n root') (sym epoch) h'.4) in
      let second : also ≡ also' = unique other up' h.1 also also' h.5 (subst (λ n. IsAt other n also') (sym epoch) h'.5) in
      rw (first, second) refl

  fork-skip : (root also root' over : SignedRoot) → IsComparedWithin one other (Evidence (Fork root also)) → IsComparedWithin one other (Evidence (Skip root' over)) → ⊥
  fork-skip root also root' over h h' =
      let epoch = epoch-once h.0 h'.0 h.1 h'.1 h.2 h'.2 h.3 h'.3 (held-fork root also h) (held-skip root' over h') in
      elim h'.4 [
        | inl k ↦ not-missing other h'.1 also (subst (λ n. IsAt other n also) epoch h.5) k.1
        | inr k ↦ not-missing one h'.1 root (subst (λ n. IsAt one n root) epoch h.4) k.1
      ]

  passed-once : (holder passer : KeyedRoots) → Ascend holder.roots → Ascend passer.roots → (epoch epoch' : ℕ) (root over root' over' : SignedRoot) → epoch ≡ epoch' → IsPassedOver holder passer epoch root over → IsPassedOver holder passer epoch' root' over' →
      Evidence (Skip root over) ≡ Evidence (Skip root' over')
  passed-once holder passer uh uq epoch epoch' root over root' over' e h h' =
      let first : root ≡ root' = unique holder uh epoch root root' h.0 (subst (λ n. IsAt holder n root') (sym e) h'.0) in
      let second : over ≡ over' = next-once passer uq epoch over over' h.2 (subst (λ n. IsNextAfter passer n over') (sym e) h'.2) in
      rw (first, second) refl

  same-skip : (root over root' over' : SignedRoot) → IsComparedWithin one other (Evidence (Skip root over)) → IsComparedWithin one other (Evidence (Skip root' over')) → Evidence (Skip root over) ≡ Evidence (Skip root' over')
  same-skip root over root' over' h h' =
      let epoch = epoch-once h.0 h'.0 h.1 h'.1 h.2 h'.2 h.3 h'.3 (held-skip root over h) (held-skip root' over' h') in
      elim h.4 [
        | inl k ↦ elim h'.4 [
          | inl k' ↦ passed-once one other up up' h.1 h'.1 root over root' over' epoch k k'
          | inr k' ↦ absurd (not-missing one h'.1 root (subst (λ n. IsAt one n root) epoch k.0) k'.1)
        ]
        | inr k ↦ elim h'.4 [
          | inl k' ↦ absurd (not-missing other h'.1 root (subst (λ n. IsAt other n root) epoch k.0) k'.1)
          | inr k' ↦ passed-once other one up' up h.1 h'.1 root over root' over' epoch k k'
        ]
      ]

  within-once : (answer also : Compare) → IsComparedWithin one other answer → IsComparedWithin one other also → answer ≡ also
  within-once Equal Equal h h' = refl
  within-once Equal (Collision x' y') h h' = absurd (apart-searched h'.0 h'.1 h'.2 (h.0) (h.1))
  within-once Equal (Evidence (Fork root' also')) h h' = absurd (none-held h.0 h'.0 h'.1 h.1 h.2 h'.2 h'.3 (held-fork root' also' h'))
  within-once Equal (Evidence (Skip root' over')) h h' = absurd (none-held h.0 h'.0 h'.1 h.1 h.2 h'.2 h'.3 (held-skip root' over' h'))
  within-once Equal (Evidence (Link root' over')) h h' = absurd h'
  within-once (Collision x y) Equal h h' = absurd (apart-searched h.0 h.1 h.2 (h'.0) (h'.1))
  within-once (Collision x y) (Collision x' y') h h' = same-collision x y x' y' h h'
  within-once (Collision x y) (Evidence (Fork root' also')) h h' = absurd (apart-searched h.0 h.1 h.2 (h'.0) (h'.2))
  within-once (Collision x y) (Evidence (Skip root' over')) h h' = absurd (apart-searched h.0 h.1 h.2 (h'.0) (h'.2))
  within-once (Collision x y) (Evidence (Link root' over')) h h' = absurd h'
  within-once (Evidence (Fork root also)) Equal h h' = absurd (none-held h'.0 h.0 h.1 h'.1 h'.2 h.2 h.3 (held-fork root also h))
  within-once (Evidence (Fork root also)) (Collision x' y') h h' = absurd (apart-searched h'.0 h'.1 h'.2 (h.0) (h.2))
  within-once (Evidence (Fork root also)) (Evidence (Fork root' also')) h h' = same-fork root also root' also' h h'
  within-once (Evidence (Fork root also)) (Evidence (Skip root' over')) h h' = absurd (fork-skip root also root' over' h h')
  within-once (Evidence (Fork root also)) (Evidence (Link root' over')) h h' = absurd h'
  within-once (Evidence (Skip root over)) Equal h h' = absurd (none-held h'.0 h.0 h.1 h'.1 h'.2 h.2 h.3 (held-skip root over h))
  within-once (Evidence (Skip root over)) (Collision x' y') h h' = absurd (apart-searched h'.0 h'.1 h'.2 (h.0) (h.2))
  within-once (Evidence (Skip root over)) (Evidence (Fork root' also')) h h' = absurd (fork-skip root' also' root over h' h)
  within-once (Evidence (Skip root over)) (Evidence (Skip root' over')) h h' = same-skip root over root' over' h h'
  within-once (Evidence (Skip root over)) (Evidence (Link root' over')) h h' = absurd h'
  within-once (Evidence (Link root over)) also h h' = absurd h

-- ---- any two chains

pub one_answer : (hash : List ℕ → List ℕ) (verified : List ℕ → List ℕ → List ℕ → Type 0) (one other : KeyedRoots) → IsChain hash verified one → IsChain hash verified other →
    (answer also : Compare) → IsCompared hash one other answer → IsCompared hash one other also → answer ≡ also
one_answer hash verified one other is is' answer also h h' = elim (cases hash verified one other is is' answer h) [
  | inl below ↦ apart-once hash one other below.0 below.1 below.2 answer also below.3 (h'.below below.0 below.1 below.2)
  | inr (inl above) ↦ apart-once hash other one above.0 above.1 above.2 answer also above.3 (h'.above above.0 above.1 above.2)
  | inr (inr within) ↦ within-once one other (ascend-linked hash one.roots is.linked) (ascend-linked hash other.roots is'.linked) answer also within.2 (h'.within within.0 within.1)
]
