-- Where a root stands to a chain, and that evidence of it is evidence.
use Rattle.std.proofs.Common.{◌≡◌, ◌≢◌, Option, ◌↔◌, Bool, true, false, not, IsTrue, ℕ, ◌+◌, ◌-◌, ◌<◌, ◌≤◌, List, [], ◌∷◌, length, get_or, slice_get, Some, Contains, ltb, refl, sym, ap, subst, ◌∙◌, inl, inr, arith, rules}
use Rattle.std.specs.List.Sorted.{IsNonDecreasingBy, IsPartitionedBy, IsPartitionPoint}
use Rattle.std.proofs.lemmas.Bool.{cases_lt, cases_order, ltb-true, ltb-false}
use Rattle.std.proofs.lemmas.List.{get_or_default}
use Rattle.std.proofs.lemmas.List.Sorted.{IsPartitionedBy-ltb}
use Rattle.std.proofs.lemmas.Option.{get_or_from_slice_get, slice_get-get_or}
use Rattle.rootchain.specs.declared.signed_root.SignedRoot.{SignedRoot}
use Rattle.rootchain.specs.declared.chain.placing.Place.{Place}
use Rattle.rootchain.specs.declared.chain.placing.Place.TheVariants.{Known, Evidence, Next, Ahead, BeforeStart}
use Rattle.rootchain.specs.declared.evidence.RootEvidence.TheVariants.{Fork, Link, Skip}
use Rattle.rootchain.specs.Chains.{Ascend, IsChain, IsHead, KeyedRoots, Names, Verifies}
use Rattle.rootchain.specs.Evidence.{IsLink, IsSkip}
use Rattle.rootchain.specs.Places.{EvidenceHolds, IsFirst, IsMissing, IsNextAfter, IsPlace, IsPlaceAbove, IsPlaceBelow, IsPlaceWithin}
use Rattle.rootchain.proofs.Chains.{ascend-linked}

-- the roots before this place have epochs before this one, and the others do not
abbrev pub Parts : List SignedRoot → ℕ → ℕ → Type 0
Parts roots epoch place = IsPartitionPoint (λ (root : SignedRoot). root.body.epoch < epoch) (λ (root : SignedRoot). epoch ≤ root.body.epoch) roots place

-- no root is of an earlier epoch than one before it, nor than itself
pub rising : (roots : List SignedRoot) → Ascend roots → IsNonDecreasingBy (λ (root : SignedRoot). root.body.epoch) roots
rising roots up i j d le below = elim (cases_lt i j) [
  | inl less ↦ omega (arith, up i j d less below)
  | inr behind ↦
      let same : i ≡ j = omega (arith, le, behind) in
      omega (arith, ap (λ (n : ℕ). (get_or roots n d).body.epoch) same)
]

-- so those before an epoch come first
pub epochs-parted : (roots : List SignedRoot) (epoch : ℕ) → Ascend roots → IsPartitionedBy (λ (root : SignedRoot). ltb root.body.epoch epoch) roots
epochs-parted roots epoch up = IsPartitionedBy-ltb (λ (root : SignedRoot). root.body.epoch) roots epoch (rising roots up)

-- where a search by the test ends
pub parts-from : (roots : List SignedRoot) (epoch place : ℕ) → IsPartitionPoint (λ (root : SignedRoot). ltb root.body.epoch epoch ≡ true) (λ (root : SignedRoot). ltb root.body.epoch epoch ≡ false) roots place → Parts roots epoch place
parts-from roots epoch place point = (
  λ k d a b. ltb-true (get_or roots k d).body.epoch epoch (point.0 k d a b),
  λ k d a b. ltb-false (get_or roots k d).body.epoch epoch (point.1 k d a b),
)

-- the root at this place is the first that is of no earlier epoch
pub missing-at : (roots : List SignedRoot) (epoch place : ℕ) (own : SignedRoot) → Ascend roots → Parts roots epoch place → place < length roots → get_or roots place own ≡ own → own.body.epoch ≢ epoch →
    (key : List ℕ) → IsMissing (record { key = key; roots = roots }) epoch × IsNextAfter (record { key = key; roots = roots }) epoch own
missing-at roots epoch place own up split p at other key =
    let above : epoch < own.body.epoch = omega (arith, other, subst (λ (x : SignedRoot). epoch ≤ x.body.epoch) at (split.1 place own (omega arith) p)) in
    let same : (d : SignedRoot) → get_or roots place d ≡ own = λ d. get_or_default roots place d own p ∙ at in
    let later : (k : ℕ) (d : SignedRoot) → place ≤ k → k < length roots → own.body.epoch ≤ (get_or roots k d).body.epoch =
    λ k d q r. elim (cases_lt place k) [
      | inl less ↦ omega (arith, rw (same d) at (up place k d less r))
      | inr more ↦ let e : place ≡ k = omega (arith, q, more) in subst (λ n. own.body.epoch ≤ (get_or roots n d).body.epoch) e (rw (same d) (omega arith))
    ] in (
      λ k d q is. elim (cases_lt k place) [
        | inl less ↦ omega (arith, is, split.0 k d (omega arith) less)
        | inr more ↦ omega (arith, is, later k d more q, above)
      ],
      (
        (place, p, at),
        above,
        λ k d q is. elim (cases_lt k place) [
          | inl less ↦ omega (arith, is, split.0 k d (omega arith) less)
          | inr more ↦ later k d more q
        ],
      ),
    )

-- a root that names the epoch of another, and does not name it
pub not_named : (hash : List ℕ → List ℕ) (one other : SignedRoot) (test : Bool) → (IsTrue test ↔ Names hash one other) → other.body.previous_epoch ≡ one.body.epoch → IsTrue (not test) ↔ IsLink hash one other
unfolding Names
not_named hash one other true is same = ((λ no. absurd cc), λ link. absurd (link.1 (is.0 refl).1))
not_named hash one other false is same = ((λ yes. (same, λ hashes. let named : false ≡ true = is.1 (same, hashes) in absurd cc)), λ link. refl)

pub names_another : (hash : List ℕ → List ℕ) (one other : SignedRoot) (test : Bool) → (IsTrue test ↔ Names hash one other) → test ≡ false → other.body.previous_epoch ≡ one.body.epoch → IsLink hash one other
names_another hash one other test is failed same = (not_named hash one other test is same).0 (rw failed refl)

-- the first and the last of some roots
pub record Ends (roots : List SignedRoot) : Type 0 where
  pub first : SignedRoot
  pub head : SignedRoot
  pub at-first : slice_get roots 0 ≡ Some first
  pub at-head : slice_get roots (length roots - 1) ≡ Some head
  pub has-first : Contains roots first
  pub has-head : Contains roots head

pub ends : (roots : List SignedRoot) → 0 < length roots → Ends roots
ends [] some = absurd (omega (arith, some))
ends (root ∷ roots) some =
    let last : SignedRoot = get_or (root ∷ roots) (length (root ∷ roots) - 1) root in
    let inside : length (root ∷ roots) - 1 < length (root ∷ roots) = omega (arith, some) in
    record {
      first = root;
      head = last;
      at-first = refl;
      at-head = slice_get-get_or (root ∷ roots) (length (root ∷ roots) - 1) root inside;
      has-first = (0, some, refl);
      has-head = (length (root ∷ roots) - 1, inside, get_or_default (root ∷ roots) (length (root ∷ roots) - 1) last root inside);
    }

-- the first is not of a later epoch than the last
pub first-low : (roots : List SignedRoot) (first head : SignedRoot) → Ascend roots → 0 < length roots → slice_get roots 0 ≡ Some first → slice_get roots (length roots - 1) ≡ Some head → first.body.epoch ≤ head.body.epoch
first-low roots first head up some at last =
    rw (get_or_from_slice_get roots 0 first first at, get_or_from_slice_get roots (length roots - 1) head first last) at (rising roots up 0 (length roots - 1) first (omega arith) (omega (arith, some)))

-- if the epoch is not above the head's, the root at this place is the chain's; and if that is of another
-- epoch, the chain has none of this one, and that root is next
pub own-facts : (hash : List ℕ → List ℕ) (verified : List ℕ → List ℕ → List ℕ → Type 0) (chain : KeyedRoots) (shown : List SignedRoot) (epoch place : ℕ) (own : SignedRoot) → shown ≡ chain.roots → IsChain hash verified chain →
    Parts shown epoch place → ((head : SignedRoot) → IsHead chain head → epoch ≤ head.body.epoch) → own ≡ get_or shown place own →
    Contains chain.roots own × (own.body.epoch ≢ epoch → IsMissing chain epoch × IsNextAfter chain epoch own)
own-facts hash verified chain shown epoch place own same is split reaches at =
    let here : Parts chain.roots epoch place = subst (λ rs. Parts rs epoch place) same split in
    let e = ends chain.roots is.first in
    let last = get_or_from_slice_get chain.roots (length chain.roots - 1) e.head own e.at-head in
    let at' : get_or chain.roots place own ≡ own = ap (λ rs. get_or rs place own) (sym same) ∙ sym at in
    let inside : place < length chain.roots = elim (cases_lt place (length chain.roots)) [
      | inl less ↦ less
      | inr more ↦
          let first = is.first in
          let low : (get_or chain.roots (length chain.roots - 1) own).body.epoch < epoch = here.0 (length chain.roots - 1) own (omega arith) (omega (arith, first, more)) in
          let high = reaches e.head e.at-head in
          absurd (omega (arith, low, high, ap (λ (x : SignedRoot). x.body.epoch) last))
    ] in
    ((place, inside, at'), λ other. missing-at chain.roots epoch place own (ascend-linked hash chain.roots is.linked) here inside at' other chain.key)

pub one-first : (first other : SignedRoot) (o : Option SignedRoot) → o ≡ Some first → o ≡ Some other → first ≡ other
one-first first other o e f = search (rules, sym e ∙ f)

-- the place of a root of an earlier epoch than the first
pub below_is_place : (hash : List ℕ → List ℕ) (chain : KeyedRoots) (first head root : SignedRoot) (place : Place) → Ascend chain.roots → 0 < length chain.roots → IsFirst chain first → IsHead chain head →
    root.body.epoch < first.body.epoch → IsPlaceBelow hash first root place → IsPlace hash chain root place
below_is_place hash chain first head root place up some at last low is =
    let order = first-low chain.roots first head up some at last in record {
      below = λ f q less. subst (λ (x : SignedRoot). IsPlaceBelow hash x root place) (one-first first f _ at q) is;
      within = λ f h q r more less. absurd (let e : first.body.epoch ≡ f.body.epoch = ap (λ (x : SignedRoot). x.body.epoch) (one-first first f _ at q) in omega (arith, e, low, more));
      above = λ h r more. absurd (let e : head.body.epoch ≡ h.body.epoch = ap (λ (x : SignedRoot). x.body.epoch) (one-first head h _ last r) in omega (arith, e, low, more, order));
    }

-- ---- evidence

module _ (hash : List ℕ → List ℕ) (verified : List ℕ → List ℕ → List ℕ → Type 0) where
  -- what a chain has verifies
  pub held-verifies : (chain : KeyedRoots) → IsChain hash verified chain → (own : SignedRoot) → Contains chain.roots own → Verifies verified chain.key own
  held-verifies chain is own held = subst (Verifies verified chain.key) held.2 (is.signed held.0 own held.1)

  -- the root before another in a chain is of the epoch that this one names
  before-named : (chain : KeyedRoots) → IsChain hash verified chain → (k m : ℕ) (over : SignedRoot) → m ≡ k + 1 → m < length chain.roots → get_or chain.roots m over ≡ over →
      (over.body.previous_epoch ≡ (get_or chain.roots k over).body.epoch)
  unfolding Names
  before-named chain is k m over e p at =
      let link = is.linked k over (omega (arith, e, p)) in
      sym (ap (λ (x : SignedRoot). x.body.previous_epoch) at) ∙ ap (λ n. (get_or chain.roots n over).body.previous_epoch) e ∙ link.0.0

  -- the next root after an epoch that the chain passes over
  pub next-passes : (chain : KeyedRoots) → IsChain hash verified chain → (first root over : SignedRoot) → IsFirst chain first → first.body.epoch ≤ root.body.epoch →
      IsMissing chain root.body.epoch → IsNextAfter chain root.body.epoch over → IsSkip root over
  next-passes chain is first root over at low missing next = (
    elim (cases_lt 0 next.0.0) [
      | inl some ↦
          let k : ℕ = next.0.0 - 1 in
          let step : next.0.0 ≡ k + 1 = omega (arith, some) in
          let within : k < length chain.roots = omega (arith, next.0.1, step) in
          let up : (get_or chain.roots k over).body.epoch < (get_or chain.roots next.0.0 over).body.epoch = ascend-linked hash chain.roots is.linked k next.0.0 over (omega (arith, step)) next.0.1 in
          let last : (get_or chain.roots next.0.0 over).body.epoch ≡ over.body.epoch = ap (λ (x : SignedRoot). x.body.epoch) next.0.2 in
          let named : over.body.previous_epoch ≡ (get_or chain.roots k over).body.epoch = before-named chain is k next.0.0 over step next.0.1 next.0.2 in
          elim (cases_order (get_or chain.roots k over).body.epoch root.body.epoch) [
            | inl same ↦ absurd (missing k over within same)
            | inr (inl less) ↦ omega (arith, named, less)
            | inr (inr more) ↦ let high = next.2 k over within more in absurd (omega (arith, high, up, last))
          ]
      | inr none ↦
          let e : next.0.0 ≡ 0 = omega (arith, none) in
          let same : over ≡ first = sym next.0.2 ∙ ap (λ n. get_or chain.roots n over) e ∙ get_or_from_slice_get chain.roots 0 first over at in
          let epochs : over.body.epoch ≡ first.body.epoch = ap (λ (x : SignedRoot). x.body.epoch) same in
          let above = next.1 in
          absurd (omega (arith, low, epochs, above))
    ],
    next.1,
  )

  within-sound : (chain : KeyedRoots) → IsChain hash verified chain → (first root : SignedRoot) → IsFirst chain first → first.body.epoch ≤ root.body.epoch → Verifies verified chain.key root →
      (place : Place) → IsPlaceWithin chain root place → EvidenceHolds hash verified chain.key place
  within-sound chain is first root at low signed Known h = tt
  within-sound chain is first root at low signed (Evidence (Fork own other)) h =
      rw (h.2) (held-verifies chain is own h.0.0, signed, (h.0.1, h.1))
  within-sound chain is first root at low signed (Evidence (Skip passed over)) h =
      rw (h.1) (signed, held-verifies chain is over h.2.0, next-passes chain is first root over at low h.0 h.2)
  within-sound chain is first root at low signed (Evidence (Link earlier later)) h = absurd h
  within-sound chain is first root at low signed Next h = absurd h
  within-sound chain is first root at low signed Ahead h = absurd h
  within-sound chain is first root at low signed BeforeStart h = absurd h

  pub above-sound : (key : List ℕ) (head root : SignedRoot) → head.body.epoch < root.body.epoch → Verifies verified key head → Verifies verified key root →
      (place : Place) → IsPlaceAbove hash head root place → EvidenceHolds hash verified key place
  above-sound key head root high own signed (Evidence (Skip passed over)) h = rw (h.1, h.2) (own, signed, (h.0, high))
  above-sound key head root high own signed (Evidence (Link earlier later)) h = rw (h.1, h.2) (own, signed, h.0)
  above-sound key head root high own signed Next h = tt
  above-sound key head root high own signed Ahead h = tt
  above-sound key head root high own signed (Evidence (Fork own' other)) h = absurd h
  above-sound key head root high own signed Known h = absurd h
  above-sound key head root high own signed BeforeStart h = absurd h

  below-sound : (key : List ℕ) (first root : SignedRoot) → root.body.epoch < first.body.epoch → Verifies verified key first → Verifies verified key root →
      (place : Place) → IsPlaceBelow hash first root place → EvidenceHolds hash verified key place
  below-sound key first root low own signed (Evidence (Skip passed over)) h = rw (h.1, h.2) (signed, own, (h.0, low))
  below-sound key first root low own signed (Evidence (Link earlier later)) h = rw (h.1, h.2) (signed, own, h.0)
  below-sound key first root low own signed BeforeStart h = tt
  below-sound key first root low own signed (Evidence (Fork own' other)) h = absurd h
  below-sound key first root low own signed Known h = absurd h
  below-sound key first root low own signed Next h = absurd h
  below-sound key first root low own signed Ahead h = absurd h

  -- evidence that is a root's place proves that the provider did not keep one chain
  pub place_sound : (chain : KeyedRoots) (root : SignedRoot) (place : Place) → IsChain hash verified chain → Verifies verified chain.key root → IsPlace hash chain root place → EvidenceHolds hash verified chain.key place
  place_sound chain root place is signed p =
      let f = ends chain.roots is.first in
      elim (cases_lt root.body.epoch f.first.body.epoch) [
        | inl low ↦ below-sound chain.key f.first root low (held-verifies chain is f.first f.has-first) signed place (p.below f.first f.at-first low)
        | inr high ↦ elim (cases_lt f.head.body.epoch root.body.epoch) [
          | inl above ↦ above-sound chain.key f.head root above (held-verifies chain is f.head f.has-head) signed place (p.above f.head f.at-head above)
          | inr within ↦ within-sound chain is f.first root f.at-first high signed place (p.within f.first f.head f.at-first f.at-head high within)
        ]
      ]
