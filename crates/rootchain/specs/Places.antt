-- Where a root stands to a chain: the chain has it, it may follow, or it is evidence with one of the
-- chain's roots (CONIKS, section 3).
use Rattle.std.specs.Prelude.{◌≡◌, ◌≢◌, ◌⊎◌, ℕ, ◌<◌, ◌≤◌, List, slice_get, Some, All, Contains}
use Rattle.rootchain.specs.declared.chain.placing.Place.{Place}
use Rattle.rootchain.specs.declared.chain.placing.Place.TheVariants.{Known, Evidence, Next, Ahead, BeforeStart}
use Rattle.rootchain.specs.declared.evidence.RootEvidence.TheVariants.{Fork, Link, Skip}
use Rattle.rootchain.specs.declared.signed_root.SignedRoot.{SignedRoot}
use Rattle.rootchain.specs.Bodies.{IsWellFormed}
use Rattle.rootchain.specs.Chains.{IsAt, IsHead, KeyedRoots, Names}
use Rattle.rootchain.specs.Evidence.{AreEvidence, IsLink, IsRootEvidence}

-- the first of the roots
abbrev pub IsFirst : KeyedRoots → SignedRoot → Type 0
IsFirst chain root = slice_get chain.roots 0 ≡ Some root

-- the first of the roots is well formed
abbrev pub StartsWellFormed : KeyedRoots → Type 0
StartsWellFormed chain = (first : SignedRoot) → IsFirst chain first → IsWellFormed first.body

-- the chain has no root of the epoch
abbrev pub IsMissing : KeyedRoots → ℕ → Type 0
IsMissing chain epoch = All (λ root. root.body.epoch ≢ epoch) chain.roots

-- the chain's first root after the epoch
abbrev pub IsNextAfter : KeyedRoots → ℕ → SignedRoot → Type 0
IsNextAfter chain epoch root = Contains chain.roots root × (epoch < root.body.epoch) × All (λ other. epoch < other.body.epoch → root.body.epoch ≤ other.body.epoch) chain.roots

-- the place of a root that is of no earlier epoch than the first and of no later one than the head
abbrev pub IsPlaceWithin : KeyedRoots → SignedRoot → Place → Type 0
IsPlaceWithin chain root Known = (own : SignedRoot) × IsAt chain root.body.epoch own × (own.body ≡ root.body)
IsPlaceWithin chain root (Evidence (Fork one other)) = IsAt chain root.body.epoch one × (one.body ≢ root.body) × (other ≡ root)
IsPlaceWithin chain root (Evidence (Skip one other)) = IsMissing chain root.body.epoch × (one ≡ root) × IsNextAfter chain root.body.epoch other
IsPlaceWithin chain root (Evidence (Link one other)) = ⊥
IsPlaceWithin chain root Next = ⊥
IsPlaceWithin chain root Ahead = ⊥
IsPlaceWithin chain root BeforeStart = ⊥

-- the place of a root of a later epoch than the head
abbrev pub IsPlaceAbove : (List ℕ → List ℕ) → SignedRoot → SignedRoot → Place → Type 0
IsPlaceAbove hash head root (Evidence (Skip one other)) = (root.body.previous_epoch < head.body.epoch) × (one ≡ head) × (other ≡ root)
IsPlaceAbove hash head root (Evidence (Link one other)) = IsLink hash head root × (one ≡ head) × (other ≡ root)
IsPlaceAbove hash head root Next = Names hash head root
IsPlaceAbove hash head root Ahead = head.body.epoch < root.body.previous_epoch
IsPlaceAbove hash head root (Evidence (Fork one other)) = ⊥
IsPlaceAbove hash head root Known = ⊥
IsPlaceAbove hash head root BeforeStart = ⊥

-- the place of a root of an earlier epoch than the first
abbrev pub IsPlaceBelow : (List ℕ → List ℕ) → SignedRoot → SignedRoot → Place → Type 0
IsPlaceBelow hash first root (Evidence (Skip one other)) = (first.body.previous_epoch < root.body.epoch) × (one ≡ root) × (other ≡ first)
IsPlaceBelow hash first root (Evidence (Link one other)) = IsLink hash root first × (one ≡ root) × (other ≡ first)
IsPlaceBelow hash first root BeforeStart = (root.body.epoch < first.body.previous_epoch) ⊎ Names hash root first
IsPlaceBelow hash first root (Evidence (Fork one other)) = ⊥
IsPlaceBelow hash first root Known = ⊥
IsPlaceBelow hash first root Next = ⊥
IsPlaceBelow hash first root Ahead = ⊥

-- the place of a root, by its epoch
pub record IsPlace (hash : List ℕ → List ℕ) (chain : KeyedRoots) (root : SignedRoot) (place : Place) : Type 0 where
  pub below : (first : SignedRoot) → IsFirst chain first → root.body.epoch < first.body.epoch → IsPlaceBelow hash first root place
  pub within : (first head : SignedRoot) → IsFirst chain first → IsHead chain head → first.body.epoch ≤ root.body.epoch → root.body.epoch ≤ head.body.epoch → IsPlaceWithin chain root place
  pub above : (head : SignedRoot) → IsHead chain head → head.body.epoch < root.body.epoch → IsPlaceAbove hash head root place

-- the place of the root depends on a hash: the root is after the head and names its epoch, or it is before
-- the first root, which names the root's
abbrev pub IsHashed : KeyedRoots → SignedRoot → Type 0
IsHashed chain root =
    ((head : SignedRoot) × IsHead chain head × (head.body.epoch < root.body.epoch) × (root.body.previous_epoch ≡ head.body.epoch))
    ⊎ ((first : SignedRoot) × IsFirst chain first × (root.body.epoch < first.body.epoch) × (first.body.previous_epoch ≡ root.body.epoch))

-- if the place is evidence, it holds under the key
abbrev pub EvidenceHolds : (List ℕ → List ℕ) → (List ℕ → List ℕ → List ℕ → Type 0) → List ℕ → Place → Type 0
EvidenceHolds hash verified key (Evidence evidence) = IsRootEvidence hash verified key evidence
EvidenceHolds hash verified key Known = Unit
EvidenceHolds hash verified key Next = Unit
EvidenceHolds hash verified key Ahead = Unit
EvidenceHolds hash verified key BeforeStart = Unit

-- the place is evidence
abbrev pub TellsEvidence : Place → Type 0
TellsEvidence (Evidence evidence) = Unit
TellsEvidence Known = ⊥
TellsEvidence Next = ⊥
TellsEvidence Ahead = ⊥
TellsEvidence BeforeStart = ⊥

-- the root is evidence with one of the chain's, in one order or the other
abbrev pub IsEvidenceWith : (List ℕ → List ℕ) → (List ℕ → List ℕ → List ℕ → Type 0) → KeyedRoots → SignedRoot → Type 0
IsEvidenceWith hash verified chain root = (own : SignedRoot) × Contains chain.roots own × (AreEvidence hash verified chain.key own root ⊎ AreEvidence hash verified chain.key root own)
