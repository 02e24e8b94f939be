-- No two roots of one chain are evidence; nor is a root with one of the chain's where it may follow the
-- head, is ahead of it, or stands before the start.
use Rattle.std.proofs.Common.{◌≡◌, ◌≢◌, ◌⊎◌, ℕ, ◌+◌, ◌-◌, ◌<◌, ◌≤◌, List, length, get_or, slice_get, Some, Contains, sym, ap, subst, ◌∙◌, inl, inr, arith}
use Rattle.std.specs.List.{AllAdjacentBelow}
use Rattle.std.proofs.lemmas.Bool.{cases_lt}
use Rattle.std.proofs.lemmas.List.{get_or_default}
use Rattle.std.proofs.lemmas.Option.{get_or_from_slice_get, slice_get-get_or}
use Rattle.rootchain.specs.declared.body.Body.{Body}
use Rattle.rootchain.specs.declared.signed_root.SignedRoot.{SignedRoot}
use Rattle.rootchain.specs.Bodies.{body_bytes, IsWellFormed}
use Rattle.rootchain.specs.Chains.{Ascend, IsChain, KeyedRoots, Links, Names}
use Rattle.rootchain.specs.Evidence.{AreEvidence}
use Rattle.rootchain.specs.Places.{StartsWellFormed}
use Rattle.rootchain.proofs.Chains.{ascend-linked, one-root}
use Rattle.rootchain.proofs.Places.{rising}

-- how two bodies stand whose roots are evidence
abbrev pub Clash : (List ℕ → List ℕ) → Body → Body → Type 0
Clash hash one other = ((one.epoch ≡ other.epoch) × (one ≢ other))
    ⊎ (((other.previous_epoch ≡ one.epoch) × (other.previous_hash ≢ hash (body_bytes one)))
    ⊎ ((other.previous_epoch < one.epoch) × (one.epoch < other.epoch)))

module _ (hash : List ℕ → List ℕ) (roots : List SignedRoot) (linked : AllAdjacentBelow (Links hash) roots (length roots)) (some : 0 < length roots) (formed : (first : SignedRoot) → slice_get roots 0 ≡ Some first → IsWellFormed first.body) where
  up : Ascend roots
  up = ascend-linked hash roots linked

  -- the root at a place
  record At (k : ℕ) (root : SignedRoot) : Type 0 where
    inside : k < length roots
    is : (d : SignedRoot) → get_or roots k d ≡ root

  at : (root : SignedRoot) (held : Contains roots root) → At held.0 root
  at root held = record { inside = held.1; is = λ d. get_or_default roots held.0 d root held.1 ∙ held.2 }

  not-later : (i j : ℕ) (x y : SignedRoot) → At i x → At j y → i ≤ j → x.body.epoch ≤ y.body.epoch
  not-later i j x y a b le = rw (a.is x, b.is x) at (rising roots up i j x le b.inside)

  same : (i j : ℕ) (x y : SignedRoot) → At i x → At j y → x.body.epoch ≡ y.body.epoch → x ≡ y
  same i j x y a b e = one-root roots up i j x y a.inside b.inside (a.is x) (b.is y) e

  -- the root before another, which this one names
  record Before (k : ℕ) (y : SignedRoot) : Type 0 where
    root : SignedRoot
    held : At k root
    named : Names hash root y

  before : (k j : ℕ) (y : SignedRoot) → At j y → j ≡ k + 1 → Before k y
  before k j y b e = record {
    root = get_or roots k y;
    held = record { inside = within; is = λ d. get_or_default roots k d y within };
    named = subst (λ (x : SignedRoot). Names hash (get_or roots k y) x) (ap (λ n. get_or roots n y) (sym e) ∙ b.is y) (linked k y (omega (arith, e, b.inside))).0;
  }
    where
      within : k < length roots
      within = omega (arith, e, b.inside)

  -- each root names an earlier epoch than its own: the first is well formed, and the others name a root before them
  own-formed : (k : ℕ) (x : SignedRoot) → At k x → x.body.previous_epoch < x.body.epoch
  unfolding Names
  own-formed k x a = elim (cases_lt 0 k) [
    | inl more ↦
        let last = before (k - 1) k x a (omega (arith, more)) in
        let less = rw (last.held.is x, a.is x) at (up (k - 1) k x (omega (arith, more)) a.inside) in
        omega (arith, last.named.0, less)
    | inr none ↦
        let e : 0 ≡ k = omega (arith, none) in
        (formed x (slice_get-get_or roots 0 x some ∙ ap (λ (y : SignedRoot). Some y) (ap (λ n. get_or roots n x) e ∙ a.is x))).0
  ]

  module _ (one other : SignedRoot) (i j : ℕ) (a : At i one) (b : At j other) where
    no-fork : one.body.epoch ≡ other.body.epoch → one.body ≢ other.body → ⊥
    no-fork e differ = differ (ap (λ (x : SignedRoot). x.body) (same i j one other a b e))

    no-link : other.body.previous_epoch ≡ one.body.epoch → other.body.previous_hash ≢ hash (body_bytes one.body) → ⊥
    unfolding Names
    no-link names differ = elim (cases_lt 0 j) [
      | inl more ↦
          let first = before (j - 1) j other b (omega (arith, more)) in
          let it : one ≡ first.root = same i (j - 1) one first.root a first.held (sym names ∙ first.named.0) in
          differ (first.named.1 ∙ ap (λ (x : SignedRoot). hash (body_bytes x.body)) (sym it))
      | inr none ↦ absurd (omega (arith, names, own-formed j other b, not-later j i other one b a (omega (arith, none))))
    ]

    no-skip : other.body.previous_epoch < one.body.epoch → one.body.epoch < other.body.epoch → ⊥
    unfolding Names
    no-skip low high = elim (cases_lt i j) [
      | inl less ↦
          let last = before (j - 1) j other b (omega (arith, less)) in
          absurd (omega (arith, low, last.named.0, not-later i (j - 1) one last.root a last.held (omega (arith, less))))
      | inr more ↦ absurd (omega (arith, high, not-later j i other one b a more))
    ]

    no-clash-at : Clash hash one.body other.body → ⊥
    no-clash-at clash = elim clash [
      | inl fork ↦ no-fork fork.0 fork.1
      | inr (inl link) ↦ no-link link.0 link.1
      | inr (inr skip) ↦ no-skip skip.0 skip.1
    ]

  pub no-clash : (one other : SignedRoot) → Contains roots one → Contains roots other → Clash hash one.body other.body → ⊥
  no-clash one other held also = no-clash-at one other held.0 also.0 (at one held) (at other also)

  -- a root of a later epoch than the head that names the head, or a later epoch than its own
  module _ (head root own : SignedRoot) (last : slice_get roots (length roots - 1) ≡ Some head) (high : head.body.epoch < root.body.epoch) (held : Contains roots own) where
    own-low : own.body.epoch ≤ head.body.epoch
    own-low =
        let end : length roots - 1 < length roots = omega (arith, some) in
        not-later held.0 (length roots - 1) own head (at own held) (record { inside = end; is = λ d. get_or_from_slice_get roots (length roots - 1) head d last }) (omega (arith, held.1))

    pub not-above : Clash hash root.body own.body → ⊥
    not-above clash =
        let p = own-formed held.0 own (at own held) in
        elim clash [
          | inl fork ↦ absurd (omega (arith, fork.0, high, own-low))
          | inr (inl link) ↦ absurd (omega (arith, link.0, high, own-low, p))
          | inr (inr skip) ↦ absurd (omega (arith, skip.1, high, own-low))
        ]

    pub not-next : Names hash head root → Clash hash own.body root.body → ⊥
    unfolding Names
    not-next names clash = elim clash [
      | inl fork ↦ absurd (omega (arith, fork.0, high, own-low))
      | inr (inl link) ↦
          let end : length roots - 1 < length roots = omega (arith, some) in
          let it : own ≡ head = same held.0 (length roots - 1) own head (at own held) (record { inside = end; is = λ d. get_or_from_slice_get roots (length roots - 1) head d last }) (sym link.0 ∙ names.0) in
          link.1 (names.1 ∙ ap (λ (x : SignedRoot). hash (body_bytes x.body)) (sym it))
      | inr (inr skip) ↦ absurd (omega (arith, skip.0, names.0, own-low))
    ]

    pub not-ahead : head.body.epoch < root.body.previous_epoch → Clash hash own.body root.body → ⊥
    not-ahead ahead clash = elim clash [
      | inl fork ↦ absurd (omega (arith, fork.0, high, own-low))
      | inr (inl link) ↦ absurd (omega (arith, link.0, ahead, own-low))
      | inr (inr skip) ↦ absurd (omega (arith, skip.0, ahead, own-low))
    ]

  -- a well-formed root of an earlier epoch than the first, which names it or an epoch between them
  module _ (first root own : SignedRoot) (start : slice_get roots 0 ≡ Some first) (low : root.body.epoch < first.body.epoch) (held : Contains roots own) where
    first-at : At 0 first
    first-at = record { inside = some; is = λ d. get_or_from_slice_get roots 0 first d start }

    own-high : first.body.epoch ≤ own.body.epoch
    own-high = not-later 0 held.0 first own first-at (at own held) (omega arith)

    -- it is the first, or names one of the chain
    own-names : (own ≡ first) ⊎ (first.body.epoch ≤ own.body.previous_epoch)
    unfolding Names
    own-names = elim (cases_lt 0 held.0) [
      | inl more ↦
          let last = before (held.0 - 1) held.0 own (at own held) (omega (arith, more)) in
          inr (omega (arith, last.named.0, not-later 0 (held.0 - 1) first last.root first-at last.held (omega arith)))
      | inr none ↦
          let e : held.0 ≡ 0 = omega (arith, none) in
          inl (sym held.2 ∙ ap (λ n. get_or roots n own) e ∙ first-at.is own)
    ]

    pub not-below : root.body.previous_epoch < root.body.epoch → Clash hash own.body root.body → ⊥
    not-below formed-root clash = elim clash [
      | inl fork ↦ absurd (omega (arith, fork.0, low, own-high))
      | inr (inl link) ↦ absurd (omega (arith, link.0, low, own-high, formed-root))
      | inr (inr skip) ↦ absurd (omega (arith, skip.1, low, own-high))
    ]

    pub not-named-by : Names hash root first → Clash hash root.body own.body → ⊥
    unfolding Names
    not-named-by names clash = elim clash [
      | inl fork ↦ absurd (omega (arith, fork.0, low, own-high))
      | inr (inl link) ↦ elim own-names [
        | inl it ↦ link.1 (ap (λ (x : SignedRoot). x.body.previous_hash) it ∙ names.1)
        | inr later ↦ absurd (omega (arith, link.0, low, later))
      ]
      | inr (inr skip) ↦ elim own-names [
        | inl it ↦ absurd (omega (arith, skip.0, names.0, ap (λ (x : SignedRoot). x.body.previous_epoch) it))
        | inr later ↦ absurd (omega (arith, skip.0, low, later))
      ]
    ]

    pub not-before-start : root.body.epoch < first.body.previous_epoch → Clash hash root.body own.body → ⊥
    not-before-start far clash = elim clash [
      | inl fork ↦ absurd (omega (arith, fork.0, low, own-high))
      | inr (inl link) ↦ elim own-names [
        | inl it ↦ absurd (omega (arith, link.0, far, ap (λ (x : SignedRoot). x.body.previous_epoch) it))
        | inr later ↦ absurd (omega (arith, link.0, low, later))
      ]
      | inr (inr skip) ↦ elim own-names [
        | inl it ↦ absurd (omega (arith, skip.0, far, ap (λ (x : SignedRoot). x.body.previous_epoch) it))
        | inr later ↦ absurd (omega (arith, skip.0, low, later))
      ]
    ]

module _ (hash : List ℕ → List ℕ) (verified : List ℕ → List ℕ → List ℕ → Type 0) (chain : KeyedRoots) (is : IsChain hash verified chain) (formed : StartsWellFormed chain) where
  -- no two roots of one chain are evidence
  pub not_evidence : (key : List ℕ) (one other : SignedRoot) → Contains chain.roots one → Contains chain.roots other → AreEvidence hash verified key one other → ⊥
  not_evidence key one other held also are = no-clash hash chain.roots is.linked is.first formed one other held also are.2
