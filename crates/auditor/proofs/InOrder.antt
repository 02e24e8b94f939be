-- What an auditor answers on the roots of a chain that come in order.
use Rattle.std.proofs.Common.{◌≡◌, ℕ, ◌+◌, ◌-◌, ◌<◌, List, [], ◌∷◌, ◌++◌, length, length-append, get_or, Option, Some, None, Contains, refl, sym, ap, subst, ◌∙◌, arith, inl, inr, append_assoc, Ok}
use Rattle.std.proofs.lemmas.List.{get_or-append_right, get_or_append_left}
use Rattle.std.proofs.lemmas.Option.{slice_get-get_or}
use Rattle.rootchain.specs.declared.signed_root.SignedRoot.{SignedRoot}
use Rattle.rootchain.specs.Chains.{IsChain, IsHead, KeyedRoots, Links, Verifies}
use Rattle.rootchain.specs.Taking.{with_root}
use Rattle.auditor.specs.Chains.{Chains, chain_of}
use Rattle.auditor.specs.InOrder.{next_answer, AreFollowed, ComeInOrder, ObservesAll}
use Rattle.auditor.specs.Observing.{HoldsAfter, IsObserved, ObservesRoot}
use Rattle.auditor.specs.declared.auditor.Observed.{Observed}
use Rattle.auditor.specs.declared.auditor.Observed.TheVariants.{Extended, Known}
use Rattle.auditor.proofs.Following.{extends, is_known}

module _ (hash : List ℕ → List ℕ) (verified : List ℕ → List ℕ → List ℕ → Type 0) (key : List ℕ) where
  abbrev chained : List SignedRoot → KeyedRoots
  chained roots = record { key = key; roots = roots }

  abbrev AreChain : List SignedRoot → Type 0
  AreChain roots = IsChain hash verified (chained roots)

  -- the first roots of a chain are one
  first-chain : (taken coming : List SignedRoot) → 0 < length taken → AreChain (taken ++ coming) → AreChain taken
  first-chain taken coming some chain = record {
    first = some;
    signed = λ k d p. subst (Verifies verified key) (get_or_append_left taken coming d k p) (chain.signed k d (omega (arith, p, length-append taken coming)));
    linked = λ k d p.
        subst (λ (x : SignedRoot). Links hash x (get_or taken (k + 1) d)) (get_or_append_left taken coming d k (omega (arith, p)))
        (subst (Links hash (get_or (taken ++ coming) k d)) (get_or_append_left taken coming d (k + 1) p)
        (chain.linked k d (omega (arith, p, length-append taken coming))));
  }

  -- and the next root follows their head
  next-links : (taken : List SignedRoot) (root : SignedRoot) (rest : List SignedRoot) → 0 < length taken → AreChain (taken ++ root ∷ rest) → (head : SignedRoot) × IsHead (chained taken) head × Links hash head root
  next-links taken root rest some chain = (
    get_or taken (length taken - 1) root,
    slice_get-get_or taken (length taken - 1) root (omega (arith, some)),
    subst (λ (x : SignedRoot). Links hash x root) (get_or_append_left taken (root ∷ rest) root (length taken - 1) (omega (arith, some)))
        (subst (Links hash (get_or (taken ++ root ∷ rest) (length taken - 1) root)) (ap (λ (i : ℕ). get_or (taken ++ root ∷ rest) i root) last ∙ here)
        (chain.linked (length taken - 1) root (omega (arith, some, length-append taken (root ∷ rest))))),
  )
    where
      last : length taken - 1 + 1 ≡ length taken
      last = omega (arith, some)

      none : length taken - length taken ≡ 0
      none = omega arith

      here : get_or (taken ++ root ∷ rest) (length taken) root ≡ root
      here = get_or-append_right taken (root ∷ rest) (length taken) (length taken) root refl (omega arith) ∙ ap (λ (i : ℕ). get_or (root ∷ rest) i root) none

  -- the chain that is held of the roots that came
  abbrev held : List SignedRoot → Option KeyedRoots
  held [] = None
  held (first ∷ more) = Some (chained (first ∷ more))

  some-there : (taken : List SignedRoot) (root : SignedRoot) → Contains taken root → 0 < length taken
  some-there taken root there = let inside = there.1 in omega (arith, inside)

  one-chain : (one other : KeyedRoots) → Some one ≡ Some other → one ≡ other
  one-chain one other same = cc

  module _ (before between : Chains) (taken : List SignedRoot) (root : SignedRoot) (told : Observed) (is : chain_of before key ≡ held taken) (observed : ObservesRoot hash verified before key root (Ok told) between) where
    answered : IsObserved hash (held taken) root told
    answered = subst (λ (chain : Option KeyedRoots). IsObserved hash chain root told) is observed.1

    -- on a root that came before
    again : (coming : List SignedRoot) → AreChain (taken ++ coming) → Contains taken root → (told ≡ Known) × (chain_of between key ≡ held taken)
    again coming chain there = by taken is answered (first-chain taken coming (some-there taken root there) chain) there
      where
        by : (some : List SignedRoot) → chain_of before key ≡ held some → IsObserved hash (held some) root told → AreChain some → Contains some root → (told ≡ Known) × (chain_of between key ≡ held some)
        by [] was answer own inside = absurd (omega (arith, some-there [] root inside))
        by (first ∷ more) was answer own inside =
            let known : told ≡ Known = (is_known hash verified (chained (first ∷ more)) own root inside told).0 answer in
            let stays : between ≡ before = subst (λ (o : Observed). HoldsAfter before key root o between) known observed.2 in
            (known, ap (λ (chains : Chains). chain_of chains key) stays ∙ was)

    -- on the next one
    next : (rest : List SignedRoot) → AreChain (taken ++ root ∷ rest) → (told ≡ next_answer taken) × (chain_of between key ≡ held (taken ++ root ∷ []))
    next rest chain = by taken is answered chain
      where
        by : (some : List SignedRoot) → chain_of before key ≡ held some → IsObserved hash (held some) root told → AreChain (some ++ root ∷ rest) → (told ≡ next_answer some) × (chain_of between key ≡ held (some ++ root ∷ []))
        by [] was answer own = (answer, (subst (λ (o : Observed). HoldsAfter before key root o between) answer observed.2).own)
        by (first ∷ more) was answer own =
            let some : 0 < length (first ∷ more) = omega arith in
            let (head, at_head, link) = next-links (first ∷ more) root rest some own in
            let extended : told ≡ Extended = (extends hash verified (chained (first ∷ more)) (first-chain (first ∷ more) (root ∷ rest) some own) head root at_head link told).0 answer in
            let (chain, found, has) : HoldsAfter before key root Extended between = subst (λ (o : Observed). HoldsAfter before key root o between) extended observed.2 in
            let same : chain ≡ chained (first ∷ more) = one-chain chain (chained (first ∷ more)) (sym found ∙ was) in
            (extended, has.own ∙ ap (λ (c : KeyedRoots). Some (with_root c root)) same)

  pub followed : (observed taken coming : List SignedRoot) (answers : List Observed) (before after : Chains) → AreChain (taken ++ coming) → chain_of before key ≡ held taken
      → ComeInOrder taken coming observed → ObservesAll hash verified before key observed answers after → AreFollowed taken coming observed answers
  followed [] taken coming answers before after chain is come all = all.0
  followed (root ∷ more) taken coming [] before after chain is come all = absurd all
  followed (root ∷ more) taken coming (told ∷ answers) before after chain is (inl (there, come)) (between, observed, all) =
      let a = again before between taken root told is observed coming chain there in
      inl (there, a.0, followed more taken coming answers between after chain a.1 come all)
  followed (root ∷ more) taken coming (told ∷ answers) before after chain is (inr (rest, same, come)) (between, observed, all) =
      let whole : AreChain (taken ++ root ∷ rest) = subst (λ (c : List SignedRoot). AreChain (taken ++ c)) same chain in
      let n = next before between taken root told is observed rest whole in
      inr (rest, same, n.0, followed more (taken ++ root ∷ []) rest answers between after (subst AreChain (sym (append_assoc taken (root ∷ []) rest)) whole) n.1 come all)
