-- Pages that climb, sealed one behind the other: a chain of roots, of which no two are evidence.
use Rattle.std.proofs.Common.{◌≡◌, ℕ, ◌<◌, ◌≤◌, ◌^◌, List, [], ◌∷◌, ◌++◌, length, map, replicate, Contains, refl, sym, ap, subst, inl, inr, ◌⊎◌, ◌∙◌, arith}
use Rattle.std.specs.Bool.{⊤}
use Rattle.std.specs.List.{AllAdjacentBelow, AllByRecursion}
use Rattle.std.proofs.lemmas.List.Elements.{All-from_recursion, Contains-push}
use Rattle.encoding.specs.Bytes.{Is32Bytes}
use Rattle.encoding.specs.Limits.{IsSmall}
use Rattle.prefixtree.specs.Node.{root_of}
use Rattle.rootchain.specs.Bodies.{body_bytes, IsBody}
use Rattle.rootchain.specs.Chains.{IsChain, Links, Names, Verifies}
use Rattle.rootchain.specs.declared.signed_root.SignedRoot.{SignedRoot}
use Rattle.book.specs.Books.{Page}
use Rattle.rootchain.specs.Evidence.{IsFork, IsLink, IsSkip}
use Rattle.book.specs.ProviderLaws.{KeepsLaws}
use Rattle.book.specs.Shows.{Provider, SignedPage, body_behind, placement, sealed_behind, signed}
use Rattle.book.proofs.Found.{IsPage}
use Rattle.book.proofs.Members.{first-or-later, first-there, later-there, neighbours, none-there}
use Rattle.book.proofs.Sizes.{node-size}

-- the first page is of an epoch above this one, and each other above the one before
abbrev pub Climb : ℕ → List Page → Type 0
Climb epoch [] = ⊤
Climb epoch (page ∷ pages) = (epoch < page.epoch) × Climb page.epoch pages

pub climb-push : (epoch : ℕ) (pages : List Page) (last page : Page) → Climb epoch (pages ++ last ∷ []) → last.epoch < page.epoch → Climb epoch ((pages ++ last ∷ []) ++ page ∷ [])
climb-push epoch [] last page climb above = (climb.0, (above, tt))
climb-push epoch (first ∷ pages) last page climb above = (climb.0, climb-push first.epoch pages last page climb.1 above)

abbrev pub Root : SignedPage → SignedRoot
Root each = each.root

module _ (provider : Provider) where
  -- the hash of the root of a page
  abbrev pub next_hash : ℕ → List ℕ → Page → List ℕ
  next_hash epoch before page = provider.hash (body_bytes (body_behind provider epoch before page))

  -- a page more is sealed behind the last one
  pub record IsNext (last : Page) (all more : List SignedPage) (page : Page) : Type 0 where
    pub root : SignedRoot
    pub previous : root.body.previous_epoch ≡ last.epoch
    pub epoch : root.body.epoch ≡ page.epoch
    pub is : more ≡ all ++ record { page = page; root = root } ∷ []

  pub sealed-push : (epoch : ℕ) (before : List ℕ) (pages : List Page) (last page : Page)
      → IsNext last (sealed_behind provider epoch before (pages ++ last ∷ [])) (sealed_behind provider epoch before ((pages ++ last ∷ []) ++ page ∷ [])) page
  sealed-push epoch before [] last page = record { root = signed provider (body_behind provider last.epoch (next_hash epoch before last) page); previous = refl; epoch = refl; is = refl }
  sealed-push epoch before (first ∷ pages) last page =
      let next = sealed-push first.epoch (next_hash epoch before first) pages last page in
      record {
        root = next.root;
        previous = next.previous;
        epoch = next.epoch;
        is = ap (λ (more : List SignedPage). record { page = first; root = signed provider (body_behind provider epoch before first) } ∷ more) next.is;
      }

  -- what is sealed is a page
  pub sealed-page : (epoch : ℕ) (before : List ℕ) (pages : List Page) (each : SignedPage) → Contains (sealed_behind provider epoch before pages) each → Contains pages each.page
  sealed-page epoch before [] each is = absurd (none-there each is)
  sealed-page epoch before (page ∷ pages) each is = elim (first-or-later _ _ each is) [
    | inl same ↦ subst (Contains (page ∷ pages)) (ap (λ (x : SignedPage). x.page) same) (first-there page pages)
    | inr later ↦ later-there page pages each.page (sealed-page page.epoch _ pages each later)
  ]

  -- the last page is sealed
  pub last-sealed : (epoch : ℕ) (before : List ℕ) (pages : List Page) (last : Page) → (root : SignedRoot) × Contains (sealed_behind provider epoch before (pages ++ last ∷ [])) (record { page = last; root = root })
  last-sealed epoch before [] last = (signed provider (body_behind provider epoch before last), Contains-push [] _)
  last-sealed epoch before (first ∷ pages) last = let more = last-sealed first.epoch (next_hash epoch before first) pages last in (more.0, later-there _ _ _ more.1)

  module _ (accepted verified : List ℕ → List ℕ → List ℕ → Type 0) (key : List ℕ) (laws : KeepsLaws accepted verified key provider) where
    -- what the root of a page holds
    pub record IsSealed (each : SignedPage) : Type 0 where
      pub epoch : each.root.body.epoch ≡ each.page.epoch
      pub root : each.root.body.root ≡ root_of provider.hash each.page.nonce (placement provider each.page.bindings)
      pub nonce : each.root.body.nonce ≡ each.page.nonce
      pub vuf_key : each.root.body.vuf_key ≡ provider.vuf_key
      pub form : IsBody each.root.body
      pub signature : Verifies verified key each.root
      pub small : IsSmall each.root.signature
      pub page : IsPage each.page

    pub all-sealed : (epoch : ℕ) (before : List ℕ) (pages : List Page) → epoch < 2 ^ 64 → Is32Bytes before → (epoch ≡ 0 → before ≡ replicate 32 0) → Climb epoch pages → AllByRecursion IsPage pages
        → AllByRecursion IsSealed (sealed_behind provider epoch before pages)
    unfolding Verifies
    all-sealed epoch before [] fits size zeros climb are = tt
    all-sealed epoch before (page ∷ pages) fits size zeros climb are =
        (here, all-sealed page.epoch (next_hash epoch before page) pages are.0.epoch (laws.digest_size (body_bytes (body_behind provider epoch before page))) (never climb.0) climb.1 are.1)
      where
        never : epoch < page.epoch → page.epoch ≡ 0 → next_hash epoch before page ≡ replicate 32 0
        never above none = absurd (omega arith)

        here : IsSealed (record { page = page; root = signed provider (body_behind provider epoch before page) })
        here = record {
          epoch = refl;
          root = refl;
          nonce = refl;
          vuf_key = refl;
          form = ((climb.0, zeros), (are.0.epoch, fits, node-size provider.hash laws.digest_size page.nonce (replicate 32 0) 256 (placement provider page.bindings) (λ more. omega arith), size, are.0.nonce, laws.vuf_key_size));
          signature = laws.signature_verifies (body_bytes (body_behind provider epoch before page));
          small = laws.signature_size (body_bytes (body_behind provider epoch before page));
          page = are.0;
        }

    linked : (epoch : ℕ) (before : List ℕ) (pages : List Page) → Climb epoch pages
        → AllAdjacentBelow (Links provider.hash) (map Root (sealed_behind provider epoch before pages)) (length (map Root (sealed_behind provider epoch before pages)))
    unfolding Names
    linked epoch before [] climb k d p = absurd (omega arith)
    linked epoch before (page ∷ []) climb k d p = absurd (omega arith)
    linked epoch before (page ∷ next ∷ pages) climb k d p =
        neighbours (Links provider.hash) (signed provider (body_behind provider epoch before page)) (signed provider (body_behind provider page.epoch (next_hash epoch before page) next))
        (map Root (sealed_behind provider next.epoch (next_hash page.epoch (next_hash epoch before page) next) pages))
        ((refl, refl), climb.1.0) (linked page.epoch (next_hash epoch before page) (next ∷ pages) climb.1) k d p

    verified-roots : (sealed : List SignedPage) → AllByRecursion IsSealed sealed → AllByRecursion (Verifies verified key) (map Root sealed)
    verified-roots [] are = tt
    verified-roots (each ∷ more) are = (are.0.signature, verified-roots more are.1)

    pub sealed-chain : (epoch : ℕ) (before : List ℕ) (first : Page) (pages : List Page) → Climb epoch (first ∷ pages) → AllByRecursion IsSealed (sealed_behind provider epoch before (first ∷ pages))
        → IsChain provider.hash verified (record { key = key; roots = map Root (sealed_behind provider epoch before (first ∷ pages)) })
    sealed-chain epoch before first pages climb are = record {
      first = omega arith;
      signed = All-from_recursion (Verifies verified key) (map Root (sealed_behind provider epoch before (first ∷ pages))) (verified-roots (sealed_behind provider epoch before (first ∷ pages)) are);
      linked = linked epoch before (first ∷ pages) climb;
    }

  -- ---- no two roots are evidence

  -- the root stands behind one of this epoch and hash, or behind a later one
  record IsBehind (epoch : ℕ) (before : List ℕ) (root : SignedRoot) : Type 0 where
    pub after : epoch ≤ root.body.previous_epoch
    pub hash : root.body.previous_epoch ≡ epoch → root.body.previous_hash ≡ before
    pub above : root.body.previous_epoch < root.body.epoch

  behind : (epoch : ℕ) (before : List ℕ) (pages : List Page) → Climb epoch pages → (root : SignedRoot) → Contains (map Root (sealed_behind provider epoch before pages)) root → IsBehind epoch before root
  behind epoch before [] climb root is = absurd (none-there root is)
  behind epoch before (page ∷ pages) climb root is = elim (first-or-later _ _ root is) [
    | inl same ↦ subst (IsBehind epoch before) same (record { after = omega arith; hash = λ e. refl; above = climb.0 })
    | inr later ↦ further (behind page.epoch (next_hash epoch before page) pages climb.1 root later) climb.0
  ]
    where
      further : IsBehind page.epoch (next_hash epoch before page) root → epoch < page.epoch → IsBehind epoch before root
      further b low = record { after = omega (arith, b.after); hash = λ e. absurd (omega (arith, b.after)); above = b.above }

  abbrev Clash : SignedRoot → SignedRoot → Type 0
  Clash one other = IsFork one other ⊎ (IsLink provider.hash one other ⊎ IsSkip one other)

  module _ (epoch : ℕ) (before : List ℕ) (page : Page) (above : epoch < page.epoch) where
    abbrev head : SignedRoot
    head = signed provider (body_behind provider epoch before page)

    with-itself : (one other : SignedRoot) → head ≡ one → head ≡ other → Clash one other → ⊥
    with-itself one other same also clash =
        let p : other.body.previous_epoch ≡ epoch = ap (λ (root : SignedRoot). root.body.previous_epoch) (sym also) in
        let e : one.body.epoch ≡ page.epoch = ap (λ (root : SignedRoot). root.body.epoch) (sym same) in
        let f : other.body.epoch ≡ page.epoch = ap (λ (root : SignedRoot). root.body.epoch) (sym also) in
        elim clash [
          | inl fork ↦ fork.1 (ap (λ (root : SignedRoot). root.body) (sym same ∙ also))
          | inr (inl link) ↦ absurd (omega (arith, link.0))
          | inr (inr skip) ↦ absurd (omega (arith, skip.1))
        ]

    with-later : (one other : SignedRoot) → head ≡ one → IsBehind page.epoch (next_hash epoch before page) other → Clash one other → ⊥
    with-later one other same later clash =
        let e : one.body.epoch ≡ page.epoch = ap (λ (root : SignedRoot). root.body.epoch) (sym same) in
        elim clash [
          | inl fork ↦ absurd (omega (arith, fork.0, later.after, later.above))
          | inr (inl link) ↦ link.1 (later.hash (link.0 ∙ e) ∙ ap (λ (root : SignedRoot). provider.hash (body_bytes root.body)) same)
          | inr (inr skip) ↦ absurd (omega (arith, skip.0, later.after))
        ]

    with-earlier : (one other : SignedRoot) → IsBehind page.epoch (next_hash epoch before page) one → head ≡ other → Clash one other → ⊥
    with-earlier one other later also clash =
        let p : other.body.previous_epoch ≡ epoch = ap (λ (root : SignedRoot). root.body.previous_epoch) (sym also) in
        let f : other.body.epoch ≡ page.epoch = ap (λ (root : SignedRoot). root.body.epoch) (sym also) in
        elim clash [
          | inl fork ↦ absurd (omega (arith, fork.0, later.after, later.above))
          | inr (inl link) ↦ absurd (omega (arith, link.0, later.after, later.above))
          | inr (inr skip) ↦ absurd (omega (arith, skip.1, later.after, later.above))
        ]

  pub no-clash : (epoch : ℕ) (before : List ℕ) (pages : List Page) → Climb epoch pages → (one other : SignedRoot) → Contains (map Root (sealed_behind provider epoch before pages)) one
      → Contains (map Root (sealed_behind provider epoch before pages)) other → IsFork one other ⊎ (IsLink provider.hash one other ⊎ IsSkip one other) → ⊥
  no-clash epoch before [] climb one other is also clash = none-there one is
  no-clash epoch before (page ∷ pages) climb one other is also clash = elim (first-or-later _ _ one is) [
    | inl same ↦ elim (first-or-later _ _ other also) [
      | inl too ↦ with-itself epoch before page climb.0 one other same too clash
      | inr later ↦ with-later epoch before page climb.0 one other same (behind page.epoch (next_hash epoch before page) pages climb.1 other later) clash
    ]
    | inr later ↦ elim (first-or-later _ _ other also) [
      | inl too ↦ with-earlier epoch before page climb.0 one other (behind page.epoch (next_hash epoch before page) pages climb.1 one later) too clash
      | inr farther ↦ no-clash page.epoch (next_hash epoch before page) pages climb.1 one other later farther clash
    ]
  ]
