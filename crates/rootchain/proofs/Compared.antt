-- What two chains with a common range compare to, from the places that the walks down find.
use Rattle.std.proofs.Common.{◌≡◌, ◌≢◌, ◌⊎◌, ℕ, ◌+◌, ◌-◌, ◌<◌, ◌≤◌, List, length, get_or, slice_get, Some, Contains, max, min, refl, sym, ap, subst, ◌∙◌, inl, inr, arith}
use Rattle.std.specs.List.Sorted.{IsPartitionPoint}
use Rattle.std.proofs.Math.Nat.{max-eq_left, max-eq_right, min-eq_left, min-eq_right}
use Rattle.std.proofs.lemmas.Bool.{cases_lt}
use Rattle.std.proofs.lemmas.Option.{get_or_from_slice_get, slice_get-get_or, slice_get_within}
use Rattle.rootchain.specs.declared.compare.Compare.{Compare}
use Rattle.rootchain.specs.declared.compare.Compare.TheVariants.{Equal, Evidence, Collision}
use Rattle.rootchain.specs.declared.evidence.RootEvidence.TheVariants.{Fork, Link, Skip}
use Rattle.rootchain.specs.declared.signed_root.SignedRoot.{SignedRoot}
use Rattle.rootchain.specs.Bodies.{body_bytes, IsSized}
use Rattle.rootchain.specs.Chains.{Ascend, IsChain, IsHead, KeyedRoots, Names}
use Rattle.rootchain.specs.Comparisons.{AreAlikeAt, CollisionHolds, HasAlso, IsCommon, IsComparedWithin, IsFirstHeld, IsLastOne, IsDecidedFrom, Spans}
use Rattle.rootchain.specs.Places.{IsFirst, IsMissing, IsNextAfter}
use Rattle.rootchain.specs.Walks.{AreApartPlaces, AreLastPlaces, IsCleared, IsDivergence, IsRun}
use Rattle.rootchain.proofs.BodyTexts.{same_text}
use Rattle.rootchain.proofs.Chains.{ascend-linked}
use Rattle.rootchain.proofs.Places.{one-first, Parts}
use Rattle.rootchain.proofs.Walks.{at-place, epoch-of, up-at, up-to}

abbrev Roots : Type 0
Roots = List SignedRoot

-- the roots before this place have epochs up to this one, and the others do not
abbrev PartsAt : Roots → ℕ → ℕ → Type 0
PartsAt roots epoch place = IsPartitionPoint (λ (root : SignedRoot). root.body.epoch ≤ epoch) (λ (root : SignedRoot). epoch < root.body.epoch) roots place

-- the roots at places, and those that a list contains
pub contains : (roots : Roots) (k : ℕ) (x : SignedRoot) → slice_get roots k ≡ Some x → Contains roots x
contains roots k x at = (k, slice_get_within roots k x at, get_or_from_slice_get roots k x x at)

pub placed : (roots : Roots) (x : SignedRoot) (held : Contains roots x) → slice_get roots held.0 ≡ Some x
placed roots x held = at-place roots held.0 x held.1 (sym held.2)

-- ---- behind a split

module _ (roots : Roots) (key : List ℕ) (up : Ascend roots) (start i : ℕ) (split : Parts roots start i) (x : SignedRoot) (at : slice_get roots i ≡ Some x) where
  -- the root there is not of an earlier epoch
  not-early : start ≤ x.body.epoch
  not-early =
      let e = ap (λ (z : SignedRoot). z.body.epoch) (get_or_from_slice_get roots i x x at) in
      let h = split.1 i x (omega arith) (slice_get_within roots i x at) in
      omega (arith, e, h)

  -- and each is of an earlier one, or not of an earlier one than that root
  either : (k : ℕ) (d : SignedRoot) → k < length roots → ((get_or roots k d).body.epoch < start) ⊎ (x.body.epoch ≤ (get_or roots k d).body.epoch)
  either k d p = elim (cases_lt k i) [
    | inl less ↦ inl (split.0 k d (omega arith) less)
    | inr more ↦ inr (up-to roots up i k x (get_or roots k d) at (slice_get-get_or roots k d p) more)
  ]

  missing : (epoch : ℕ) → start ≤ epoch → epoch < x.body.epoch → IsMissing (record { key = key; roots = roots }) epoch
  missing epoch low high k d p e = elim (either k d p) [ inl h ↦ omega (arith, h, e, low) | inr h ↦ omega (arith, h, e, high) ]

  next : (epoch : ℕ) → start ≤ epoch → epoch < x.body.epoch → IsNextAfter (record { key = key; roots = roots }) epoch x
  next epoch low high = (contains roots i x at, high, λ k d p later. elim (either k d p) [ inl h ↦ absurd (omega (arith, h, later, low)) | inr h ↦ h ])

-- no epoch of a range is behind a split at the end of the list
not-behind : (chain : KeyedRoots) (start i : ℕ) → Parts chain.roots start i → length chain.roots ≤ i → (epoch : ℕ) → Spans chain epoch → start ≤ epoch → ⊥
not-behind chain start i split ends epoch spans low =
    let held = spans.has-high in
    let inside = held.1 in
    let e = ap (λ (z : SignedRoot). z.body.epoch) held.2 in
    let before = split.0 held.0 spans.high (omega arith) (omega (arith, inside, ends)) in
    let high = spans.not-earlier in
    omega (arith, e, before, high, low)

-- ---- the places in step

module _ (one other : KeyedRoots) (up : Ascend one.roots) (up' : Ascend other.roots) where
  -- where each root of the epoch lies in the run, the other list has its body too
  has-also : (i j to to' epoch : ℕ) (end : SignedRoot) → slice_get other.roots to' ≡ Some end → IsRun one.roots other.roots i j to to' →
      ((k : ℕ) (x : SignedRoot) → slice_get one.roots k ≡ Some x → x.body.epoch ≡ epoch → (i ≤ k) × (k ≤ to)) → HasAlso other one epoch
  has-also i j to to' epoch end at run inside root held =
      let k = held.0.0 in
      let here = placed one.roots root held.0 in
      let lies = inside k root here held.1 in
      let least = lies.0 in
      let most = lies.1 in
      let together = run.step in
      let l : ℕ = (k + to') - to in
      let step : k + to' ≡ l + to = omega (arith, least, together) in
      let there : l < length other.roots = omega (arith, step, most, slice_get_within other.roots to' end at) in
      let also : SignedRoot = get_or other.roots l root in
      let is : slice_get other.roots l ≡ Some also = slice_get-get_or other.roots l root there in
      let same : root.body ≡ also.body = run.same k l root also least most step here is in
      (also, (contains other.roots l also is, sym (epoch-of root also same) ∙ held.1), same)

-- a run is one of the two lists in the other order too
turned : (ones others : Roots) (i j to to' : ℕ) → IsRun ones others i j to to' → IsRun others ones j i to' to
turned ones others i j to to' run =
    let low = run.low in
    let step = run.step in record {
      low = omega (arith, low, step);
      step = sym step;
      same = λ k l x y least most together a b. sym (run.same l k y x (omega (arith, least, together, step)) (omega (arith, most, together)) (sym together) b a);
    }

-- ---- evidence in the range

module _ (one other : KeyedRoots) (up : Ascend one.roots) (up' : Ascend other.roots) (start from i j : ℕ)
    (split : Parts one.roots from i) (split' : Parts other.roots from j) (least : start ≤ from)
    (covers : (epoch : ℕ) → IsCommon one other epoch → start ≤ epoch → from ≤ epoch)
    (x y : SignedRoot) (has-x : Contains one.roots x) (has-y : Contains other.roots y) (low-x : x.body.epoch ≤ from) (low-y : y.body.epoch ≤ from) where
  -- the roots behind the split: the epoch of the earlier is the first that either chain has
  first-held : (root over : SignedRoot) → slice_get one.roots i ≡ Some root → slice_get other.roots j ≡ Some over → (epoch : ℕ) → from ≤ epoch → epoch ≤ root.body.epoch → epoch ≤ over.body.epoch → IsFirstHeld one other start epoch
  first-held root over at at' epoch begun p q = record {
    common = (
      record { low = x; high = root; has-low = has-x; has-high = contains one.roots i root at; not-later = omega (arith, low-x, begun); not-earlier = p },
      record { low = y; high = over; has-low = has-y; has-high = contains other.roots j over at'; not-later = omega (arith, low-y, begun); not-earlier = q },
    );
    from = omega (arith, least, begun);
    none-before = λ before low less common.
        let begun' = covers before common low in (
          missing one.roots one.key up from i split root at before begun' (omega (arith, less, p)),
          missing other.roots other.key up' from j split' over at' before begun' (omega (arith, less, q)),
        );
  }

  -- what diverges is evidence, or neither chain has a root in the range from the split on
  diverged : IsDecidedFrom one other start → ((x y : SignedRoot) → slice_get one.roots i ≡ Some x → slice_get other.roots j ≡ Some y → x.body ≢ y.body) →
      (result : Compare) → IsDivergence one.roots other.roots i j result → IsComparedWithin one other result
  diverged searched differ Equal h = (
    start,
    searched,
    λ epoch common low.
        let begun = covers epoch common low in
        absurd (elim h [
          | inl ends ↦ not-behind one from i split ends epoch common.0 begun
          | inr ends ↦ not-behind other from j split' ends epoch common.1 begun
        ]),
  )
  diverged searched differ (Evidence (Fork root also)) h =
      let begun = not-early one.roots one.key up from i split root h.0 in (
        start,
        root.body.epoch,
        searched,
        first-held root also h.0 h.1 root.body.epoch begun (omega arith) (let e = h.2 in omega (arith, e)),
        (contains one.roots i root h.0, refl),
        (contains other.roots j also h.1, sym h.2),
        differ root also h.0 h.1,
      )
  diverged searched differ (Evidence (Skip root over)) h = let less = h.0 in elim h.1 [
    | inl at ↦
        let begun = not-early one.roots one.key up from i split root at.0 in (
          start,
          root.body.epoch,
          searched,
          first-held root over at.0 at.1 root.body.epoch begun (omega arith) (omega (arith, less)),
          inl ((contains one.roots i root at.0, refl), missing other.roots other.key up' from j split' over at.1 root.body.epoch begun less, next other.roots other.key up' from j split' over at.1 root.body.epoch begun less),
        )
    | inr at ↦
        let begun = not-early other.roots other.key up' from j split' root at.0 in (
          start,
          root.body.epoch,
          searched,
          first-held over root at.1 at.0 root.body.epoch begun (omega (arith, less)) (omega arith),
          inr ((contains other.roots j root at.0, refl), missing one.roots one.key up from i split over at.1 root.body.epoch begun less, next one.roots one.key up from i split over at.1 root.body.epoch begun less),
        )
  ]
  diverged searched differ (Evidence (Link root over)) h = absurd h
  diverged searched differ (Collision a b) h = absurd h

-- what diverges is no collision
pub diverged_holds : (hash : List ℕ → List ℕ) (one other : KeyedRoots) (ones others : Roots) (i j : ℕ) (result : Compare) → IsDivergence ones others i j result → CollisionHolds hash one other result
diverged_holds hash one other ones others i j Equal h = tt
diverged_holds hash one other ones others i j (Evidence evidence) h = tt
diverged_holds hash one other ones others i j (Collision x y) h = absurd h

-- ---- no body in common

-- with no body in common, the search is from the beginning of the range
pub compared_unshared : (one other : KeyedRoots) → Ascend one.roots → Ascend other.roots → (first also : SignedRoot) (from i j : ℕ) →
    IsFirst one first → IsFirst other also → first.body.epoch ≤ from → also.body.epoch ≤ from → ((from ≡ first.body.epoch) ⊎ (from ≡ also.body.epoch)) →
    Parts one.roots from i → Parts other.roots from j → IsCleared one.roots other.roots 0 0 →
    (result : Compare) → IsDivergence one.roots other.roots i j result → IsComparedWithin one other result
compared_unshared one other up up' first also from i j at-first at-also low low' is split split' cleared result h =
    let covers : (epoch : ℕ) → IsCommon one other epoch → 0 ≤ epoch → from ≤ epoch = λ epoch common _.
    let p = up-to one.roots up 0 common.0.has-low.0 first common.0.low at-first (placed one.roots common.0.low common.0.has-low) (omega arith) in
    let q = up-to other.roots up' 0 common.1.has-low.0 also common.1.low at-also (placed other.roots common.1.low common.1.has-low) (omega arith) in
    let r = common.0.not-later in
    let s = common.1.not-later in
    elim is [ inl e ↦ omega (arith, p, r, e) | inr e ↦ omega (arith, q, s, e) ] in
    diverged one other up up' 0 from i j split split' (omega arith) covers first also (contains one.roots 0 first at-first) (contains other.roots 0 also at-also) low low'
    (inr ((λ epoch shared. cleared.clear shared.2.0.0 shared.3.0.0 shared.0 shared.1 (placed one.roots shared.0 shared.2.0) (placed other.roots shared.1 shared.3.0) (inl (omega arith)) shared.4), refl))
    (λ x y a b. cleared.clear i j x y a b (inl (omega arith)))
    result h

-- ---- a body in common

-- the last two places are those of the last epoch at which both have one body
last-one : (one other : KeyedRoots) → Ascend one.roots → (i j : ℕ) (last : AreLastPlaces one.roots other.roots i j) → IsLastOne one other last.one.body.epoch
last-one one other up i j last = record {
  here = (last.one, last.other, (contains one.roots i last.one last.at-one, refl), (contains other.roots j last.other last.at-other, sym (epoch-of last.one last.other last.same)), last.same);
  none-later = λ later less shared.
      let held = shared.2 in
      let at = placed one.roots shared.0 held.0 in
      let e = held.1 in
      let behind : i + 1 ≤ held.0.0 = elim (cases_lt i held.0.0) [
        | inl more ↦ omega (arith, more)
        | inr low ↦ let order = up-to one.roots up held.0.0 i shared.0 last.one at last.at-one low in absurd (omega (arith, order, e, less))
      ] in
      last.clear.clear held.0.0 shared.3.0.0 shared.0 shared.1 at (placed other.roots shared.1 shared.3.0) (inl behind) shared.4;
}

-- the list splits behind a root at the next epoch
split-after : (roots : Roots) → Ascend roots → (i : ℕ) (t : SignedRoot) → slice_get roots i ≡ Some t → (epoch : ℕ) → t.body.epoch ≡ epoch → Parts roots (epoch + 1) (i + 1)
split-after roots up i t at epoch e =
    let inside = slice_get_within roots i t at in (
      λ k d least p. let order = up-to roots up k i (get_or roots k d) t (slice_get-get_or roots k d (omega (arith, p, inside))) at (omega (arith, p)) in omega (arith, order, e),
      λ k d p q. let order = up-at roots up i k t (get_or roots k d) at (slice_get-get_or roots k d q) (omega (arith, p)) in omega (arith, order, e),
    )

module _ (one other : KeyedRoots) (up : Ascend one.roots) (up' : Ascend other.roots) (i j to to' : ℕ) (t t' : SignedRoot)
    (at : slice_get one.roots to ≡ Some t) (at' : slice_get other.roots to' ≡ Some t') (run : IsRun one.roots other.roots i j to to') (epoch : ℕ) (most : epoch ≤ t.body.epoch) where
  -- a root of the epoch is not behind the run
  not-over : (k : ℕ) (x : SignedRoot) → slice_get one.roots k ≡ Some x → x.body.epoch ≡ epoch → k ≤ to
  not-over k x a e = elim (cases_lt to k) [
    | inl more ↦ let order = up-at one.roots up to k t x at a more in absurd (omega (arith, order, e, most))
    | inr less ↦ less
  ]

  -- a run down to the beginning of one of the lists has all of the range below its end
  also-down : (i ≡ 0) ⊎ (j ≡ 0) → Spans other epoch → HasAlso other one epoch
  also-down ends spans = has-also one other up up' i j to to' epoch t' at' run
      (λ k x a e. (
        elim ends [
          | inl none ↦ omega (arith, none)
          | inr none ↦ elim (cases_lt k i) [
            | inr more ↦ more
            | inl less ↦
                let low = run.low in
                let inside = slice_get_within one.roots to t at in
                let u : SignedRoot = get_or one.roots i x in
                let at-u : slice_get one.roots i ≡ Some u = slice_get-get_or one.roots i x (omega (arith, low, inside)) in
                let inside' = slice_get_within other.roots to' t' at' in
                let v : SignedRoot = get_or other.roots j x in
                let at-v : slice_get other.roots j ≡ Some v = slice_get-get_or other.roots j x (omega (arith, none, inside')) in
                let same = epoch-of u v (run.same i j u v (omega arith) low run.step at-u at-v) in
                let order = up-at one.roots up k i x u a at-u less in
                let order' = up-to other.roots up' j spans.has-low.0 v spans.low at-v (placed other.roots spans.low spans.has-low) (omega (arith, none)) in
                let bound = spans.not-later in
                absurd (omega (arith, same, order, order', bound, e))
          ]
        ],
        not-over k x a e,
      ))

  -- and a run down to a root of an earlier epoch
  also-above : (p : ℕ) (root : SignedRoot) → i ≡ p + 1 → slice_get one.roots p ≡ Some root → root.body.epoch < epoch → HasAlso other one epoch
  also-above p root is here low = has-also one other up up' i j to to' epoch t' at' run
      (λ k x a e. (
        elim (cases_lt p k) [
          | inl more ↦ omega (arith, more, is)
          | inr less ↦ let order = up-to one.roots up k p x root a here less in absurd (omega (arith, order, e, low))
        ],
        not-over k x a e,
      ))

-- with a body in common and nothing apart below it, the search is from the next epoch on
pub compared_shared : (one other : KeyedRoots) → Ascend one.roots → Ascend other.roots → (i j low low' : ℕ) → AreLastPlaces one.roots other.roots i j →
    IsRun one.roots other.roots low low' i j → (low ≡ 0) ⊎ (low' ≡ 0) → (result : Compare) → IsDivergence one.roots other.roots (i + 1) (j + 1) result → IsComparedWithin one other result
compared_shared one other up up' i j low low' last run ends result h =
    let t : ℕ = last.one.body.epoch in
    let same : t ≡ last.other.body.epoch = epoch-of last.one last.other last.same in
    let has = contains one.roots i last.one last.at-one in
    let has' = contains other.roots j last.other last.at-other in
    let alike : (epoch : ℕ) → epoch < t → IsCommon one other epoch → AreAlikeAt one other epoch = λ epoch most common. (
      also-down one other up up' low low' i j last.one last.other last.at-one last.at-other run epoch (omega (arith, most)) ends common.1,
      also-down other one up' up low' low j i last.other last.one last.at-other last.at-one (turned one.roots other.roots low low' i j run) epoch (omega (arith, most, same)) (elim ends [ inl e ↦ inr e | inr e ↦ inl e ]) common.0,
    ) in
    diverged one other up up' (t + 1) (t + 1) (i + 1) (j + 1) (split-after one.roots up i last.one last.at-one t refl) (split-after other.roots up' j last.other last.at-other t (sym same)) (omega arith)
    (λ epoch common least. least) last.one last.other has has' (omega arith) (omega (arith, same))
    (inl (t, last-one one other up i j last, alike, refl))
    (λ x y a b. last.clear.clear (i + 1) (j + 1) x y a b (inl (omega arith)))
    result h

-- ---- a collision

link-at : (hash : List ℕ → List ℕ) (verified : List ℕ → List ℕ → List ℕ → Type 0) (chain : KeyedRoots) → IsChain hash verified chain → (k : ℕ) (x y : SignedRoot) → slice_get chain.roots k ≡ Some x → slice_get chain.roots (k + 1) ≡ Some y →
    (y.body.previous_epoch ≡ x.body.epoch) × (y.body.previous_hash ≡ hash (body_bytes x.body))
unfolding Names
link-at hash verified chain is k x y at at' =
    let link = (is.linked k y (slice_get_within chain.roots (k + 1) y at')).0 in
    let e = get_or_from_slice_get chain.roots k x y at in
    let f = get_or_from_slice_get chain.roots (k + 1) y y at' in (
      ap (λ (z : SignedRoot). z.body.previous_epoch) (sym f) ∙ link.0 ∙ ap (λ (z : SignedRoot). z.body.epoch) e,
      ap (λ (z : SignedRoot). z.body.previous_hash) (sym f) ∙ link.1 ∙ ap (λ (z : SignedRoot). hash (body_bytes z.body)) e,
    )

-- two bodies apart below one that both have are named by one hash
pub compared_apart : (hash : List ℕ → List ℕ) (verified : List ℕ → List ℕ → List ℕ → Type 0) (one other : KeyedRoots) → IsChain hash verified one → IsChain hash verified other → (i j k l : ℕ) → AreLastPlaces one.roots other.roots i j →
    (apart : AreApartPlaces one.roots other.roots i j k l) (x y : List ℕ) → x ≡ body_bytes apart.one.body → y ≡ body_bytes apart.other.body → x ≢ y → IsComparedWithin one other (Collision x y) × CollisionHolds hash one other (Collision x y)
compared_apart hash verified one other is is' i j k l last apart x y ex ey differ =
    let up = ascend-linked hash one.roots is.linked in
    let up' = ascend-linked hash other.roots is'.linked in
    let run = apart.run in
    let low = run.low in
    let step = run.step in
    let inside = slice_get_within one.roots i last.one last.at-one in
    let inside' = slice_get_within other.roots j last.other last.at-other in
    let u : SignedRoot = get_or one.roots (k + 1) apart.one in
    let at-u : slice_get one.roots (k + 1) ≡ Some u = slice_get-get_or one.roots (k + 1) apart.one (omega (arith, low, inside)) in
    let v : SignedRoot = get_or other.roots (l + 1) apart.other in
    let at-v : slice_get other.roots (l + 1) ≡ Some v = slice_get-get_or other.roots (l + 1) apart.other (omega (arith, low, step, inside')) in
    let same : u.body ≡ v.body = run.same (k + 1) (l + 1) u v (omega arith) low step at-u at-v in
    let named = link-at hash verified one is k apart.one u apart.at-one at-u in
    let named' = link-at hash verified other is' l apart.other v apart.at-other at-v in
    let epoch : apart.one.body.epoch ≡ apart.other.body.epoch = sym named.0 ∙ ap (λ b. b.previous_epoch) same ∙ named'.0 in
    let shared : last.one.body.epoch ≡ last.other.body.epoch = epoch-of last.one last.other last.same in
    let has = contains one.roots k apart.one apart.at-one in
    let has' = contains other.roots l apart.other apart.at-other in (
      (
        apart.one,
        apart.other,
        record {
          epoch = apart.one.body.epoch;
          last = last.one.body.epoch;
          is-last = last-one one other up i j last;
          below = up-at one.roots up k i apart.one last.one apart.at-one last.at-one (omega (arith, low));
          at-one = (has, refl);
          at-other = (has', sym epoch);
          differ = apart.differ;
          alike = λ m more less common. (
            also-above one other up up' (k + 1) (l + 1) i j last.one last.other last.at-one last.at-other run m (omega (arith, less)) k apart.one refl apart.at-one more,
            also-above other one up' up (l + 1) (k + 1) j i last.other last.one last.at-other last.at-one (turned one.roots other.roots (k + 1) (l + 1) i j run) m (omega (arith, less, shared)) l apart.other refl apart.at-other (omega (arith, more, epoch)),
          );
        },
        ex,
        ey,
      ),
      (
        record { differ = differ; same = ap hash ex ∙ sym named.1 ∙ ap (λ b. b.previous_hash) same ∙ named'.1 ∙ ap hash (sym ey) },
        (apart.one, apart.other, has, has', ex, ey),
      ),
    )

-- ---- where the roots are lent

-- what was found apart is a collision
collided : (hash : List ℕ → List ℕ) (verified : List ℕ → List ℕ → List ℕ → Type 0) (one other : KeyedRoots) → IsChain hash verified one → IsChain hash verified other →
    (ones others : Roots) → ones ≡ one.roots → others ≡ other.roots → (i j k l : ℕ) → AreLastPlaces ones others i j → AreApartPlaces ones others i j k l →
    (root also : SignedRoot) → root ≡ get_or ones k root → also ≡ get_or others l also → (x y : List ℕ) → x ≡ body_bytes root.body → y ≡ body_bytes also.body → IsSized root.body → IsSized also.body →
    IsComparedWithin one other (Collision x y) × CollisionHolds hash one other (Collision x y)
collided hash verified one other is is' ones others eo eo' i j k l last apart root also at at' x y ex ey sized sized' =
    let last' : AreLastPlaces one.roots other.roots i j = subst (λ rs. AreLastPlaces one.roots rs i j) eo' (subst (λ rs. AreLastPlaces rs others i j) eo last) in
    let apart' : AreApartPlaces one.roots other.roots i j k l = subst (λ rs. AreApartPlaces one.roots rs i j k l) eo' (subst (λ rs. AreApartPlaces rs others i j k l) eo apart) in
    let here : slice_get one.roots k ≡ Some root = ap (λ rs. slice_get rs k) (sym eo) ∙ at-place ones k root (slice_get_within ones k apart.one apart.at-one) at in
    let there : slice_get other.roots l ≡ Some also = ap (λ rs. slice_get rs l) (sym eo') ∙ at-place others l also (slice_get_within others l apart.other apart.at-other) at' in
    let e : root ≡ apart'.one = one-first root apart'.one (slice_get one.roots k) here apart'.at-one in
    let f : also ≡ apart'.other = one-first also apart'.other (slice_get other.roots l) there apart'.at-other in
    compared_apart hash verified one other is is' i j k l last' apart' x y (ex ∙ ap (λ (z : SignedRoot). body_bytes z.body) e) (ey ∙ ap (λ (z : SignedRoot). body_bytes z.body) f)
    (λ same. apart'.differ (ap (λ (z : SignedRoot). z.body) (sym e) ∙ same_text root.body also.body sized sized' (sym ex ∙ same ∙ ey) ∙ ap (λ (z : SignedRoot). z.body) f))

pub collided_at : (hash : List ℕ → List ℕ) (verified : List ℕ → List ℕ → List ℕ → Type 0) (one other : KeyedRoots) → IsChain hash verified one → IsChain hash verified other →
    (ones others : Roots) → ones ≡ one.roots → others ≡ other.roots → (i j k l : ℕ) → AreLastPlaces ones others i j → AreApartPlaces ones others i j k l →
    (root also : SignedRoot) → root ≡ get_or ones k root → also ≡ get_or others l also → (x y : List ℕ) → x ≡ body_bytes (get_or ones k root).body → y ≡ body_bytes (get_or others l also).body →
    IsSized (get_or ones k root).body → IsSized (get_or others l also).body → IsComparedWithin one other (Collision x y) × CollisionHolds hash one other (Collision x y)
collided_at hash verified one other is is' ones others eo eo' i j k l last apart root also at at' x y ex ey sized sized' =
    collided hash verified one other is is' ones others eo eo' i j k l last apart root also at at' x y
    (ex ∙ ap (λ (z : SignedRoot). body_bytes z.body) (sym at)) (ey ∙ ap (λ (z : SignedRoot). body_bytes z.body) (sym at'))
    (subst (λ (z : SignedRoot). IsSized z.body) (sym at) sized) (subst (λ (z : SignedRoot). IsSized z.body) (sym at') sized')

pub shared_given : (one other : KeyedRoots) → Ascend one.roots → Ascend other.roots → (ones others : Roots) → ones ≡ one.roots → others ≡ other.roots → (i j : ℕ) → AreLastPlaces ones others i j →
    ((low low' : ℕ) × IsRun ones others low low' i j × ((low ≡ 0) ⊎ (low' ≡ 0))) → (result : Compare) → IsDivergence ones others (i + 1) (j + 1) result → IsComparedWithin one other result
shared_given one other up up' ones others eo eo' i j =
    let P : Roots → Roots → Type 0 = λ rs rs'. AreLastPlaces rs rs' i j → ((low low' : ℕ) × IsRun rs rs' low low' i j × ((low ≡ 0) ⊎ (low' ≡ 0))) → (result : Compare) → IsDivergence rs rs' (i + 1) (j + 1) result → IsComparedWithin one other result in
    subst (λ rs. P rs others) (sym eo) (subst (λ rs. P one.roots rs) (sym eo') (λ last run result h. compared_shared one other up up' i j run.0 run.1 last run.2 run.3 result h))

pub unshared_given : (one other : KeyedRoots) → Ascend one.roots → Ascend other.roots → (ones others : Roots) → ones ≡ one.roots → others ≡ other.roots → (first also : SignedRoot) (from i j : ℕ) →
    IsFirst one first → IsFirst other also → first.body.epoch ≤ from → also.body.epoch ≤ from → ((from ≡ first.body.epoch) ⊎ (from ≡ also.body.epoch)) →
    Parts ones from i → Parts others from j → IsCleared ones others 0 0 → (result : Compare) → IsDivergence ones others i j result → IsComparedWithin one other result
unshared_given one other up up' ones others eo eo' first also from i j at at' low low' is =
    let P : Roots → Roots → Type 0 = λ rs rs'. Parts rs from i → Parts rs' from j → IsCleared rs rs' 0 0 → (result : Compare) → IsDivergence rs rs' i j result → IsComparedWithin one other result in
    subst (λ rs. P rs others) (sym eo) (subst (λ rs. P one.roots rs) (sym eo')
    (λ split split' cleared result h. compared_unshared one other up up' first also from i j at at' low low' is split split' cleared result h))

-- the greater and the smaller of two numbers are one of them
pub one_of_max : (m n k : ℕ) → k ≡ max m n → (k ≡ m) ⊎ (k ≡ n)
one_of_max m n k e = elim (cases_lt m n) [ inl less ↦ inr (e ∙ max-eq_right (omega (arith, less))) | inr more ↦ inl (e ∙ max-eq_left more) ]

pub one_of_min : (m n k : ℕ) → k ≡ min m n → (k ≡ m) ⊎ (k ≡ n)
one_of_min m n k e = elim (cases_lt m n) [ inl less ↦ inl (e ∙ min-eq_left (omega (arith, less))) | inr more ↦ inr (e ∙ min-eq_right more) ]

-- from the places on whose roots are of later epochs than the earlier head no body is common
pub cleared_ends : (one other : KeyedRoots) → Ascend one.roots → Ascend other.roots → (ones others : Roots) → ones ≡ one.roots → others ≡ other.roots → (head last : SignedRoot) (top i j : ℕ) →
    IsHead one head → IsHead other last → ((top ≡ head.body.epoch) ⊎ (top ≡ last.body.epoch)) →
    PartsAt ones top i → PartsAt others top j → IsCleared ones others i j
cleared_ends one other up up' ones others eo eo' head last top i j at-head at-last is =
    let P : Roots → Roots → Type 0 = λ rs rs'. PartsAt rs top i → PartsAt rs' top j → IsCleared rs rs' i j in
    subst (λ rs. P rs others) (sym eo) (subst (λ rs. P one.roots rs) (sym eo') (λ split split'. record {
      clear = λ k l x y a b either same.
          let p = slice_get_within one.roots k x a in
          let q = slice_get_within other.roots l y b in
          let e = epoch-of x y same in
          let high = up-to one.roots up k (length one.roots - 1) x head a at-head (omega (arith, p)) in
          let high' = up-to other.roots up' l (length other.roots - 1) y last b at-last (omega (arith, q)) in
          let low : top < x.body.epoch = elim either [
            | inl from ↦ subst (λ (z : SignedRoot). top < z.body.epoch) (get_or_from_slice_get one.roots k x x a) (split.1 k x from p)
            | inr from ↦ let above : top < y.body.epoch = subst (λ (z : SignedRoot). top < z.body.epoch) (get_or_from_slice_get other.roots l y y b) (split'.1 l y from q) in omega (arith, above, e)
          ] in
          elim is [ inl f ↦ omega (arith, f, low, high) | inr f ↦ omega (arith, f, low, e, high') ];
    }))
