-- A chain that takes roots in order stays one and grows at its end; and the root at which it stops tells
-- how a whole list is refused.
use Rattle.std.proofs.Common.{◌≡◌, ℕ, ◌<◌, List, [], ◌∷◌, ◌++◌, length, take, All, refl, sym, ap, subst, ◌∙◌, inl, inr, arith}
use Rattle.std.specs.List.{AllByRecursion}
use Rattle.std.proofs.Math.Seq.{take-append_seam}
use Rattle.std.proofs.lemmas.List.{append-nil, append_assoc}
use Rattle.std.proofs.lemmas.List.Elements.{All-from_recursion}
use Rattle.rootchain.specs.declared.chain.placing.Place.TheVariants as place
use Rattle.rootchain.specs.declared.signed_root.SignedRoot.{SignedRoot}
use Rattle.rootchain.specs.declared.list_refusal.ListRefusal.{ListRefusal}
use Rattle.rootchain.specs.declared.list_refusal.ListRefusal.TheVariants.{BadSignature, BeforeStart, Ahead, Evidence, Memory}
use Rattle.rootchain.specs.Chains.{IsChain, KeyedRoots}
use Rattle.rootchain.specs.SignedRoots.{IsSignedRoot}
use Rattle.rootchain.specs.TakingLists.{with_roots, IsListRefusal, IsRefusedRoot, PassesOrAdds, StopsAt, Takes, ListRefusalHolds, ListRefusalIsSpelled}
use Rattle.rootchain.proofs.Places.{place_sound}
use Rattle.rootchain.proofs.Spelled.{place-given}
use Rattle.rootchain.proofs.Taking.{next_stays}

module _ (hash : List ℕ → List ℕ) (verified : List ℕ → List ℕ → List ℕ → Type 0) where
  -- ---- one root after another

  -- what comes of the roots that are left leads to what comes of all of them
  pub record Leads (start : KeyedRoots) (all : List SignedRoot) (now : KeyedRoots) (left : List SignedRoot) : Type 0 where
    pub taken : (after : KeyedRoots) → Takes hash verified now left after → Takes hash verified start all after
    pub stopped : (why : ListRefusal) (after : KeyedRoots) → StopsAt hash verified now left why after → StopsAt hash verified start all why after

  pub leads-begin : (start : KeyedRoots) (all : List SignedRoot) → Leads start all start all
  leads-begin start all = record { taken = λ after t. t; stopped = λ why after s. s }

  pub leads-step : (start : KeyedRoots) (all : List SignedRoot) (now : KeyedRoots) (left : List SignedRoot) (root : SignedRoot) (rest : List SignedRoot) (next : KeyedRoots)
      → left ≡ root ∷ rest → PassesOrAdds hash verified now root next → Leads start all now left → Leads start all next rest
  leads-step start all now left root rest next same passes leads = record {
    taken = λ after t. leads.taken after (rw same (next, passes, t));
    stopped = λ why after s. leads.stopped why after (root ∷ s.0, s.1, s.2, same ∙ ap (λ (rs : List SignedRoot). root ∷ rs) s.3, (next, passes, s.4), s.5);
  }

  pub leads-end : (start : KeyedRoots) (all : List SignedRoot) (now : KeyedRoots) (left : List SignedRoot) → left ≡ [] → Leads start all now left → Takes hash verified start all now
  leads-end start all now left none leads = leads.taken now (rw none refl)

  pub leads-stop : (start : KeyedRoots) (all : List SignedRoot) (now : KeyedRoots) (left : List SignedRoot) (root : SignedRoot) (rest : List SignedRoot) (why : ListRefusal) (after : KeyedRoots)
      → left ≡ root ∷ rest → IsRefusedRoot hash verified now root why → after ≡ now → Leads start all now left → StopsAt hash verified start all why after
  leads-stop start all now left root rest why after same refusal stays leads = leads.stopped why after ([], root, rest, same, stays, rw stays refusal)

  -- ---- what a chain is once it took roots

  passes-chain : (chain : KeyedRoots) (root : SignedRoot) (after : KeyedRoots) → IsChain hash verified chain → PassesOrAdds hash verified chain root after → IsChain hash verified after
  passes-chain chain root after is passes = elim passes.1 [
    | inl known ↦ rw known.1 is
    | inr next ↦ rw next.1 (next_stays hash verified chain.key chain.roots root is passes.0 next.0)
  ]

  pub takes-chain : (roots : List SignedRoot) (chain after : KeyedRoots) → IsChain hash verified chain → Takes hash verified chain roots after → IsChain hash verified after
  takes-chain [] chain after is takes = rw takes is
  takes-chain (root ∷ roots) chain after is takes = takes-chain roots takes.0 after (passes-chain chain root takes.0 is takes.1) takes.2

  -- it has its key, and its roots followed by others
  pub takes-grows : (roots : List SignedRoot) (chain after : KeyedRoots) → Takes hash verified chain roots after → (more : List SignedRoot) × (after ≡ with_roots chain more)
  takes-grows [] chain after takes = ([], takes ∙ ap (λ (rs : List SignedRoot). record chain { roots = rs }) (sym (append-nil chain.roots)))
  takes-grows (root ∷ roots) chain after takes =
      let grown = takes-grows roots takes.0 after takes.2 in
      elim takes.1.1 [
        | inl known ↦ (grown.0, grown.1 ∙ ap (λ (c : KeyedRoots). with_roots c grown.0) known.1)
        | inr next ↦ (
          root ∷ grown.0,
          grown.1 ∙ ap (λ (c : KeyedRoots). with_roots c grown.0) next.1 ∙ ap (λ (rs : List SignedRoot). record chain { roots = rs }) (append_assoc chain.roots (root ∷ []) grown.0),
        )
      ]

  -- ---- roots that have a spelling

  spelled-push : (roots : List SignedRoot) (root : SignedRoot) → AllByRecursion IsSignedRoot roots → IsSignedRoot root → AllByRecursion IsSignedRoot (roots ++ root ∷ [])
  spelled-push [] root all one = (one, tt)
  spelled-push (first ∷ roots) root all one = (all.0, spelled-push roots root all.1 one)

  spelled-front : (front : List SignedRoot) (root : SignedRoot) (rest : List SignedRoot) → AllByRecursion IsSignedRoot (front ++ root ∷ rest) → AllByRecursion IsSignedRoot front × IsSignedRoot root
  spelled-front [] root rest all = (tt, all.0)
  spelled-front (first ∷ front) root rest all = let more = spelled-front front root rest all.1 in ((all.0, more.0), more.1)

  pub takes-spelled : (roots : List SignedRoot) (chain after : KeyedRoots) → AllByRecursion IsSignedRoot chain.roots → AllByRecursion IsSignedRoot roots
      → Takes hash verified chain roots after → AllByRecursion IsSignedRoot after.roots
  takes-spelled [] chain after own given takes = rw takes own
  takes-spelled (root ∷ roots) chain after own given takes = takes-spelled roots takes.0 after (elim takes.1.1 [
    | inl known ↦ rw known.1 own
    | inr next ↦ rw next.1 (spelled-push chain.roots root own given.0)
  ]) given.1 takes.2

  -- ---- why a list is refused

  refusal-holds : (chain : KeyedRoots) (root : SignedRoot) (why : ListRefusal) → IsChain hash verified chain → IsRefusedRoot hash verified chain root why → ListRefusalHolds hash verified chain.key why
  refusal-holds chain root (Evidence evidence) is refusal = place_sound hash verified chain root (place.Evidence evidence) is refusal.0 refusal.1
  refusal-holds chain root BadSignature is refusal = tt
  refusal-holds chain root BeforeStart is refusal = tt
  refusal-holds chain root Ahead is refusal = tt
  refusal-holds chain root Memory is refusal = tt

  pub stop-holds : (chain : KeyedRoots) (roots : List SignedRoot) (why : ListRefusal) (after : KeyedRoots) → IsChain hash verified chain → StopsAt hash verified chain roots why after → ListRefusalHolds hash verified chain.key why
  stop-holds chain roots why after is stops =
      let same : after.key ≡ chain.key = ap (λ (c : KeyedRoots). c.key) (takes-grows stops.0 chain after stops.4).1 in
      subst (λ (key : List ℕ). ListRefusalHolds hash verified key why) same (refusal-holds after stops.1 why (takes-chain stops.0 chain after is stops.4) stops.5)

  pub refusal-spelled : (chain : KeyedRoots) (root : SignedRoot) (why : ListRefusal) → 0 < length chain.roots → All IsSignedRoot chain.roots → IsSignedRoot root → IsRefusedRoot hash verified chain root why → ListRefusalIsSpelled why
  refusal-spelled chain root (Evidence evidence) some own given refusal =
      place-given hash IsSignedRoot chain root (place.Evidence evidence) some (λ held among. subst IsSignedRoot among.2 (own among.0 held among.1)) given refusal.1
  refusal-spelled chain root BadSignature some own given refusal = tt
  refusal-spelled chain root BeforeStart some own given refusal = tt
  refusal-spelled chain root Ahead some own given refusal = tt
  refusal-spelled chain root Memory some own given refusal = tt

  pub stop-spelled : (chain : KeyedRoots) (roots : List SignedRoot) (why : ListRefusal) (after : KeyedRoots) → IsChain hash verified chain → AllByRecursion IsSignedRoot chain.roots → AllByRecursion IsSignedRoot roots
      → StopsAt hash verified chain roots why after → ListRefusalIsSpelled why
  stop-spelled chain roots why after is own given stops =
      let front = spelled-front stops.0 stops.1 stops.2 (rw stops.3 at given) in
      let after-is = takes-chain stops.0 chain after is stops.4 in
      refusal-spelled after stops.1 why after-is.first (All-from_recursion IsSignedRoot after.roots (takes-spelled stops.0 chain after own front.0 stops.4)) front.1 stops.5

  pub memory-refused : (chain : KeyedRoots) (roots : List SignedRoot) → 0 < length roots → IsListRefusal hash verified chain roots Memory
  memory-refused chain [] some = absurd (omega (arith, some))
  memory-refused chain (root ∷ roots) some = (chain, ([], root, roots, refl, refl, tt))

-- ---- the roots that were taken are taken off again

pub grows-nothing : (chain : KeyedRoots) → chain ≡ with_roots chain []
grows-nothing chain = ap (λ (rs : List SignedRoot). record chain { roots = rs }) (sym (append-nil chain.roots))

pub taken-off : (chain after : KeyedRoots) (key : List ℕ) (roots more : List SignedRoot) (before : ℕ) → record { key = key; roots = roots } ≡ after → after ≡ with_roots chain more → before ≡ length chain.roots
    → record { key = key; roots = take before roots } ≡ chain
taken-off chain after key roots more before is grown same =
    let all : record { key = key; roots = roots } ≡ with_roots chain more = is ∙ grown in
    let keys : key ≡ chain.key = ap (λ (c : KeyedRoots). c.key) all in
    let longer : roots ≡ chain.roots ++ more = ap (λ (c : KeyedRoots). c.roots) all in
    let cut : take before roots ≡ chain.roots = rw (longer, same) (take-append_seam chain.roots more) in
    let K : List ℕ → KeyedRoots = λ k. record { key = k; roots = take before roots } in
    let R : List SignedRoot → KeyedRoots = λ rs. record { key = chain.key; roots = rs } in
    ap K keys ∙ ap R cut
