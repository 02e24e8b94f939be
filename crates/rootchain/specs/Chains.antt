-- A chain of signed tree roots: each names the one before by its epoch and the hash of its body
-- (CONIKS, section 3).
use Rattle.std.specs.Prelude.{◌≡◌, ℕ, ◌-◌, ◌<◌, ◌≤◌, List, length, slice_get, Some, All, AllPairs, Contains}
use Rattle.std.specs.List.{AllAdjacentBelow}
use Rattle.rootchain.specs.declared.root_refusal.Refusal.{Refusal}
use Rattle.rootchain.specs.declared.root_refusal.Refusal.TheVariants.{Malformed, BadSignature, NotLater, BadLink, Memory}
use Rattle.rootchain.specs.declared.signed_root.SignedRoot.{SignedRoot}
use Rattle.rootchain.specs.Bodies.{body_bytes}

-- a provider's public key, and signed roots from the first to the last
pub record KeyedRoots : Type 0 where
  pub key : List ℕ
  pub roots : List SignedRoot

-- the last of the roots
abbrev pub IsHead : KeyedRoots → SignedRoot → Type 0
IsHead chain root = slice_get chain.roots (length chain.roots - 1) ≡ Some root

-- the root of an epoch
abbrev pub IsAt : KeyedRoots → ℕ → SignedRoot → Type 0
IsAt chain epoch root = Contains chain.roots root × (root.body.epoch ≡ epoch)

-- each root has an epoch below those of the roots after it
abbrev pub Ascend : List SignedRoot → Type 0
Ascend = AllPairs (λ earlier later. earlier.body.epoch < later.body.epoch)

-- the signature is one of the body's bytes under this key
unfoldable pub Verifies : (List ℕ → List ℕ → List ℕ → Type 0) → List ℕ → SignedRoot → Type 0
Verifies verified key root = verified key (body_bytes root.body) root.signature

-- the later root names the earlier one as the root before it, by its epoch and the hash of its body (CONIKS,
-- section 3: hash of the previous STR, here without its signature)
unfoldable pub Names : (List ℕ → List ℕ) → SignedRoot → SignedRoot → Type 0
Names hash earlier later = (later.body.previous_epoch ≡ earlier.body.epoch) × (later.body.previous_hash ≡ hash (body_bytes earlier.body))

-- the later root names the earlier one, and has a later epoch (CONIKS, section 3: neighbours in the hash chain of
-- STRs)
abbrev pub Links : (List ℕ → List ℕ) → SignedRoot → SignedRoot → Type 0
Links hash earlier later = Names hash earlier later × (earlier.body.epoch < later.body.epoch)

-- when a root that is to start a chain is refused in this way
abbrev pub IsStartRefusal : (List ℕ → List ℕ → List ℕ → Type 0) → List ℕ → SignedRoot → Refusal → Type 0
IsStartRefusal verified key root Malformed = ⊥
IsStartRefusal verified key root BadSignature = ¬ Verifies verified key root
IsStartRefusal verified key root NotLater = ⊥
IsStartRefusal verified key root BadLink = ⊥
IsStartRefusal verified key root Memory = Verifies verified key root

module _ (hash : List ℕ → List ℕ) (verified : List ℕ → List ℕ → List ℕ → Type 0) where
  -- there is a root, each verifies under the key, and each two neighbours are linked (CONIKS, section 3: STR history,
  -- a hash chain)
  pub record IsChain (chain : KeyedRoots) : Type 0 where
    pub first : 0 < length chain.roots
    pub signed : All (Verifies verified chain.key) chain.roots
    pub linked : AllAdjacentBelow (Links hash) chain.roots (length chain.roots)

  -- when a root that is to follow a head is refused in this way: it passes the tests before
  abbrev pub IsExtendRefusal : List ℕ → SignedRoot → SignedRoot → Refusal → Type 0
  IsExtendRefusal key head root Malformed = ⊥
  IsExtendRefusal key head root BadSignature = ¬ Verifies verified key root
  IsExtendRefusal key head root NotLater = Verifies verified key root × (root.body.epoch ≤ head.body.epoch)
  IsExtendRefusal key head root BadLink = Verifies verified key root × (head.body.epoch < root.body.epoch) × ¬ Names hash head root
  IsExtendRefusal key head root Memory = Verifies verified key root × Links hash head root
