-- The roots of a monitor's chain are those of the client's, by their bodies.
use Rattle.std.proofs.Common.{◌≡◌, ◌∙◌, ◌+◌, ◌-◌, ◌<◌, ◌≤◌, ◌⊎◌, ℕ, suc, List, [], ◌∷◌, length, Contains, Option, Some, ap, arith, get_or, inl, inr, refl, subst, sym}
use Rattle.std.proofs.lemmas.Bool.{cases_lt}
use Rattle.std.proofs.lemmas.List.Elements.{Contains-append_cases, Contains-append_left, Contains-push}
use Rattle.std.specs.Prelude.{slice_get}
use Rattle.std.specs.List.{AllAdjacentBelow, AllByRecursion}
use Rattle.std.proofs.lemmas.Option.{slice_get-get_or}
use Rattle.client.proofs.Unlikes.{at-place}
use Rattle.rootchain.proofs.Agreement.{unique}
use Rattle.rootchain.proofs.Chains.{ascend-linked}
use Rattle.rootchain.proofs.Walks.{up-to}
use Rattle.rootchain.specs.Chains.{Ascend, IsChain, IsHead, KeyedRoots, Links, Names}
use Rattle.rootchain.specs.Places.{IsFirst, IsPlace}
use Rattle.rootchain.specs.TakingLists.{Takes, with_roots}
use Rattle.rootchain.specs.declared.chain.placing.Place.TheVariants as place
use Rattle.rootchain.specs.declared.signed_root.SignedRoot.{SignedRoot}
use Rattle.rootchain.proofs.Places.{ends}
use Rattle.rootchain.proofs.TakingLists.{takes-chain, takes-grows}
use Rattle.runs.specs.Told.{HasBody}

pub some-same : {A : Type 0} (one other : A) → ◌≡◌ {A = Option A} (Some one) (Some other) → one ≡ other
some-same one other e = cc

-- neighbours behind the first are linked as before
tail-linked : (R : SignedRoot → SignedRoot → Type 0) (x : SignedRoot) (xs : List SignedRoot) → AllAdjacentBelow R (x ∷ xs) (length (x ∷ xs)) → AllAdjacentBelow R xs (length xs)
tail-linked R x xs linked k d p =
    let e : suc k + 1 ≡ suc (k + 1) = omega arith in
    subst (λ (n : ℕ). R (get_or xs k d) (get_or (x ∷ xs) n d)) e (linked (suc k) d (omega (arith, p)))

module _ (hash : List ℕ → List ℕ) (verified : List ℕ → List ℕ → List ℕ → Type 0) where
  -- a chain has the body of a root whose place is known
  known-there : (chain : KeyedRoots) (root : SignedRoot) → IsChain hash verified chain → IsPlace hash chain root place.Known → HasBody chain root
  known-there chain root is known =
      let both = ends chain.roots is.first in
      elim (cases_lt root.body.epoch both.first.body.epoch) [
        | inl below ↦ absurd (known.below both.first both.at-first below)
        | inr not-below ↦ elim (cases_lt both.head.body.epoch root.body.epoch) [
          | inl above ↦ absurd (known.above both.head both.at-head above)
          | inr not-above ↦ let (own, at, same) = known.within both.first both.head both.at-first both.at-head not-below not-above in (own, at.0, same)
        ]
      ]

  -- a chain that grows has it still
  still-there : (chain after : KeyedRoots) (more : List SignedRoot) (root : SignedRoot) → after ≡ with_roots chain more → HasBody chain root → HasBody after root
  still-there chain after more root grown (own, has, same) = (own, subst (λ (c : KeyedRoots). Contains c.roots own) (sym grown) (Contains-append_left chain.roots more own has), same)

  pub taken-still : (chain after : KeyedRoots) (roots : List SignedRoot) (root : SignedRoot) → Takes hash verified chain roots after → HasBody chain root → HasBody after root
  taken-still chain after roots root takes has = let (more, grown) = takes-grows hash verified roots chain after takes in still-there chain after more root grown has

  -- each root of a list that was taken is there
  pub taken-there : (chain after : KeyedRoots) (roots : List SignedRoot) → IsChain hash verified chain → Takes hash verified chain roots after → AllByRecursion (HasBody after) roots
  taken-there chain after [] is takes = tt
  taken-there chain after (root ∷ roots) is (middle, (signed, inl (known, same)), rest) =
      let is' : IsChain hash verified middle = subst (IsChain hash verified) (sym same) is in
      (taken-still middle after roots root rest (subst (λ (c : KeyedRoots). HasBody c root) (sym same) (known-there chain root is known)), taken-there middle after roots is' rest)
  taken-there chain after (root ∷ roots) is (middle, (signed, inr (next, same)), rest) =
      let is' : IsChain hash verified middle = takes-chain hash verified (root ∷ []) chain middle is (middle, (signed, inr (next, same)), refl) in
      let here : HasBody middle root = (root, subst (λ (c : KeyedRoots). Contains c.roots root) (sym same) (Contains-push chain.roots root), refl) in
      (taken-still middle after roots root rest here, taken-there middle after roots is' rest)

  -- a root of the chain after it is an old one, or one of the list
  pub taken-from : (chain after : KeyedRoots) (roots : List SignedRoot) (root : SignedRoot) → Takes hash verified chain roots after → Contains after.roots root → Contains chain.roots root ⊎ Contains roots root
  taken-from chain after [] root takes has = inl (subst (λ (c : KeyedRoots). Contains c.roots root) takes has)
  taken-from chain after (first ∷ roots) root (middle, (signed, inl (known, same)), rest) has = elim (taken-from middle after roots root rest has) [
    | inl old ↦ inl (subst (λ (c : KeyedRoots). Contains c.roots root) same old)
    | inr new ↦ inr (suc new.0, omega (arith, new.1), new.2)
  ]
  taken-from chain after (first ∷ roots) root (middle, (signed, inr (next, same)), rest) has = elim (taken-from middle after roots root rest has) [
    | inl old ↦ elim (Contains-append_cases chain.roots (first ∷ []) root (subst (λ (c : KeyedRoots). Contains c.roots root) same old)) [
      | inl older ↦ inl older
      | inr last ↦ inr (one-of root last)
    ]
    | inr new ↦ inr (suc new.0, omega (arith, new.1), new.2)
  ]
    where
      one-of : (r : SignedRoot) → Contains (first ∷ []) r → Contains (first ∷ roots) r
      one-of r last = Contains-append_left (first ∷ []) roots r last

  -- ---- none between two that follow each other

  module _ (chain : KeyedRoots) (is : IsChain hash verified chain) where
    up : Ascend chain.roots
    up = ascend-linked hash chain.roots is.linked

    in-order : (one other : SignedRoot) (k l : ℕ) → slice_get chain.roots k ≡ Some one → slice_get chain.roots l ≡ Some other → one.body.epoch < other.body.epoch → k < l
    in-order one other k l at also less = elim (cases_lt k l) [
      | inl before ↦ before
      | inr behind ↦ absurd (omega (arith, less, up-to chain.roots up l k other one also at behind))
    ]

    named : (earlier later : SignedRoot) → Links hash earlier later → later.body.previous_epoch ≡ earlier.body.epoch
    unfolding Names
    named earlier later links = links.0.0

    -- a root is the next in the chain behind the epoch that it names
    named-below : (root c : SignedRoot) → Contains chain.roots root → Contains chain.roots c → root.body.previous_epoch < c.body.epoch → root.body.epoch ≤ c.body.epoch
    named-below root c has-root has-c above = elim (cases_lt c.body.epoch root.body.epoch) [
      | inr not-below ↦ not-below
      | inl below ↦
          let at-root = at-place chain.roots root has-root in
          let at-c = at-place chain.roots c has-c in
          let first : has-c.0 < has-root.0 = in-order c root has-c.0 has-root.0 at-c at-root below in
          let before = has-root.0 - 1 in
          let next : before + 1 ≡ has-root.0 = omega (arith, first) in
          let own = get_or chain.roots before root in
          let at-own : slice_get chain.roots before ≡ Some own = slice_get-get_or chain.roots before root (omega (arith, next, has-root.1)) in
          let links : Links hash own (get_or chain.roots (before + 1) root) = is.linked before root (omega (arith, next, has-root.1)) in
          let same : get_or chain.roots (before + 1) root ≡ root = ap (λ (k : ℕ). get_or chain.roots k root) next ∙ has-root.2 in
          let epoch : root.body.previous_epoch ≡ own.body.epoch = ap (λ (r : SignedRoot). r.body.previous_epoch) (sym same) ∙ named own (get_or chain.roots (before + 1) root) links in
          absurd (omega (arith, epoch, above, up-to chain.roots up has-c.0 before c own at-c at-own (omega (arith, first, next))))
    ]

    none-between : (low high : SignedRoot) (c : SignedRoot) → Contains chain.roots high → Contains chain.roots c → high.body.previous_epoch ≡ low.body.epoch
        → low.body.epoch < c.body.epoch → c.body.epoch < high.body.epoch → ⊥
    none-between low high c has-high has-c names above below = omega (arith, below, named-below high c has-high has-c (omega (arith, names, above)))

    at-root : (root : SignedRoot) (more : List SignedRoot) (c : SignedRoot) → HasBody chain root → Contains chain.roots c → c.body.epoch ≡ root.body.epoch → (own : SignedRoot) × Contains (root ∷ more) own × (own.body ≡ c.body)
    at-root root more c (copy, there, same) has e =
        let one : copy ≡ c = unique chain up c.body.epoch copy c (there, ap (λ b. b.epoch) same ∙ sym e) (has, refl) in
        (root, (0, omega arith, refl), sym same ∙ ap (λ (r : SignedRoot). r.body) one)

    between : (root next : SignedRoot) (c : SignedRoot) → HasBody chain root → HasBody chain next → Links hash root next → Contains chain.roots c → root.body.epoch < c.body.epoch → c.body.epoch < next.body.epoch → ⊥
    between root next c (copy, there, same) (copy', there', same') links has above below =
        let e = ap (λ b. b.epoch) same in
        let e' = ap (λ b. b.epoch) same' in
        let names = ap (λ b. b.previous_epoch) same' ∙ named root next links ∙ sym e in
        none-between copy copy' c there' has names (omega (arith, e, above)) (omega (arith, e', below))

    -- so a chain whose roots it has covers all of it from its first root to its last
    covers : (root : SignedRoot) (more : List SignedRoot) (c : SignedRoot) → AllAdjacentBelow (Links hash) (root ∷ more) (length (root ∷ more)) → AllByRecursion (HasBody chain) (root ∷ more) → Contains chain.roots c
        → root.body.epoch ≤ c.body.epoch → ((last : SignedRoot) → slice_get (root ∷ more) (length more) ≡ Some last → c.body.epoch ≤ last.body.epoch) → (own : SignedRoot) × Contains (root ∷ more) own × (own.body ≡ c.body)
    covers root [] c linked own has low high = let most = high root refl in at-root root [] c own.0 has (omega (arith, low, most))
    covers root (next ∷ left) c linked own has low high = elim (cases_lt root.body.epoch c.body.epoch) [
      | inr not-above ↦ at-root root (next ∷ left) c own.0 has (omega (arith, low, not-above))
      | inl above ↦ elim (cases_lt c.body.epoch next.body.epoch) [
        | inl below ↦ absurd (between root next c own.0 own.1.0 (linked 0 root (omega arith)) has above below)
        | inr not-below ↦
            let (found, among, same) = covers next left c (tail-linked (Links hash) root (next ∷ left) linked) own.1 has not-below high in
            (found, (suc among.0, omega (arith, among.1), among.2), same)
      ]
    ]

    -- of a chain whose roots are those of this one, by their bodies, each root of this one from its first to its head is one
    pub covers-chain : (other : KeyedRoots) (first head c : SignedRoot) → IsChain hash verified other → AllByRecursion (HasBody chain) other.roots → IsFirst other first → IsHead other head → Contains chain.roots c
        → first.body.epoch ≤ c.body.epoch → c.body.epoch ≤ head.body.epoch → HasBody other c
    covers-chain other first head c is' own at-first at-head has low high = by other.roots is'.linked own at-first at-head is'.first
      where
        by : (roots : List SignedRoot) → AllAdjacentBelow (Links hash) roots (length roots) → AllByRecursion (HasBody chain) roots → slice_get roots 0 ≡ Some first → slice_get roots (length roots - 1) ≡ Some head → 0 < length roots
            → (found : SignedRoot) × Contains roots found × (found.body ≡ c.body)
        by [] linked own' at at' some = absurd (omega (arith, some))
        by (root ∷ more) linked own' at at' some =
            let one : root ≡ first = some-same root first at in
            let last : slice_get (root ∷ more) (length more) ≡ Some head = ap (λ (k : ℕ). slice_get (root ∷ more) k) (omega arith) ∙ at' in
            covers root more c linked own' has (omega (arith, ap (λ (r : SignedRoot). r.body.epoch) one, low))
            (λ found is-found. omega (arith, ap (λ (r : SignedRoot). r.body.epoch) (some-same found head (sym is-found ∙ last)), high))

    -- the same of a root of which the chain has the body
    pub not-between : (root c : SignedRoot) → HasBody chain root → Contains chain.roots c → root.body.previous_epoch < c.body.epoch → root.body.epoch ≤ c.body.epoch
    not-between root c (copy, there, same) has above =
        let low = named-below copy c there has (omega (arith, above, ap (λ b. b.previous_epoch) same)) in
        omega (arith, low, ap (λ b. b.epoch) same)
