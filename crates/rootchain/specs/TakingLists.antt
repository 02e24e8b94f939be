-- A list of roots that a chain takes whole, or refuses (after CONIKS, section 3).
use Rattle.std.specs.Prelude.{◌≡◌, ◌⊎◌, ℕ, Bool, true, false, List, [], ◌∷◌, ◌++◌, Result, Ok, Err}
use Rattle.rootchain.specs.declared.chain.placing.Place.TheVariants as place
use Rattle.rootchain.specs.declared.chain.taking_one.Kind.{Kind}
use Rattle.rootchain.specs.declared.chain.taking_one.Kind.TheVariants as kind
use Rattle.rootchain.specs.declared.evidence.RootEvidence.TheVariants.{Link}
use Rattle.rootchain.specs.declared.signed_root.SignedRoot.{SignedRoot}
use Rattle.rootchain.specs.declared.list_refusal.ListRefusal.{ListRefusal}
use Rattle.rootchain.specs.declared.list_refusal.ListRefusal.TheVariants.{BadSignature, BeforeStart, Ahead, Evidence, Memory}
use Rattle.rootchain.specs.Chains.{IsHead, KeyedRoots, Verifies}
use Rattle.rootchain.specs.Evidence.{BothAre, IsRootEvidence}
use Rattle.rootchain.specs.Places.{IsPlace}
use Rattle.rootchain.specs.SignedRoots.{IsSignedRoot}
use Rattle.rootchain.specs.Taking.{with_root}

-- the chain with these roots after its head
abbrev pub with_roots : KeyedRoots → List SignedRoot → KeyedRoots
with_roots chain roots = record chain { roots = chain.roots ++ roots }

module _ (hash : List ℕ → List ℕ) (verified : List ℕ → List ℕ → List ℕ → Type 0) where
  -- a root that the chain has is passed over, and one that follows the head is added
  abbrev pub PassesOrAdds : KeyedRoots → SignedRoot → KeyedRoots → Type 0
  PassesOrAdds chain root after = Verifies verified chain.key root
      × ((IsPlace hash chain root place.Known × (after ≡ chain)) ⊎ (IsPlace hash chain root place.Next × (after ≡ with_root chain root)))

  -- each root in order is passed over or added, to the chain as those before it left it
  abbrev pub Takes : KeyedRoots → List SignedRoot → KeyedRoots → Type 0
  Takes chain [] after = after ≡ chain
  Takes chain (root ∷ roots) after = (middle : KeyedRoots) × PassesOrAdds chain root middle × Takes middle roots after

  -- when a root of a list is refused in this way; memory is reserved before the first root, so `Memory` says
  -- nothing about a root
  abbrev pub IsRefusedRoot : KeyedRoots → SignedRoot → ListRefusal → Type 0
  IsRefusedRoot chain root BadSignature = ¬ Verifies verified chain.key root
  IsRefusedRoot chain root BeforeStart = Verifies verified chain.key root × IsPlace hash chain root place.BeforeStart
  IsRefusedRoot chain root Ahead = Verifies verified chain.key root × IsPlace hash chain root place.Ahead
  IsRefusedRoot chain root (Evidence evidence) = Verifies verified chain.key root × IsPlace hash chain root (place.Evidence evidence)
  IsRefusedRoot chain root Memory = Unit

  -- a root of the list is refused in this way, by the chain as the roots before it left it
  abbrev pub StopsAt : KeyedRoots → List SignedRoot → ListRefusal → KeyedRoots → Type 0
  StopsAt chain roots why after = (front : List SignedRoot) × (root : SignedRoot) × (rest : List SignedRoot)
      × (roots ≡ front ++ root ∷ rest) × Takes chain front after × IsRefusedRoot after root why

  -- when a list is refused in this way
  abbrev pub IsListRefusal : KeyedRoots → List SignedRoot → ListRefusal → Type 0
  IsListRefusal chain roots why = (after : KeyedRoots) × StopsAt chain roots why after

  -- what comes of a root of a list
  abbrev pub TakesOne : {A : Type 0} → KeyedRoots → SignedRoot → Result A ListRefusal → KeyedRoots → Type 0
  TakesOne chain root (Ok _) after = PassesOrAdds chain root after
  TakesOne chain root (Err why) after = IsRefusedRoot chain root why × (after ≡ chain)

  -- the root names the epoch of the head, and not its hash
  abbrev pub IsNotNamed : KeyedRoots → SignedRoot → Type 0
  IsNotNamed chain root = (head : SignedRoot) → IsHead chain head → IsPlace hash chain root (place.Evidence (Link head root))

  -- what kind of root it is
  abbrev pub IsKind : KeyedRoots → SignedRoot → Kind → Type 0
  IsKind chain root kind.Unsigned = ¬ Verifies verified chain.key root
  IsKind chain root kind.Known = Verifies verified chain.key root × IsPlace hash chain root place.Known
  IsKind chain root kind.Next = Verifies verified chain.key root × IsPlace hash chain root place.Next
  IsKind chain root kind.NotNamed = Verifies verified chain.key root × IsNotNamed chain root
  IsKind chain root kind.Other = Verifies verified chain.key root

  -- what comes of a list, up to the first root that is refused
  abbrev pub TakesEach : {A : Type 0} → KeyedRoots → List SignedRoot → Result A ListRefusal → KeyedRoots → Type 0
  TakesEach chain roots (Ok _) after = Takes chain roots after
  TakesEach chain roots (Err why) after = StopsAt chain roots why after

  -- if evidence is told, it is evidence under the key
  abbrev pub ListRefusalHolds : List ℕ → ListRefusal → Type 0
  ListRefusalHolds key (Evidence evidence) = IsRootEvidence hash verified key evidence
  ListRefusalHolds key BadSignature = Unit
  ListRefusalHolds key BeforeStart = Unit
  ListRefusalHolds key Ahead = Unit
  ListRefusalHolds key Memory = Unit

-- what becomes of a root: it is taken, or refused in this way
abbrev pub answer : Bool → ListRefusal → Result Unit ListRefusal
answer true why = Ok tt
answer false why = Err why

-- if evidence is told, its roots have a spelling
abbrev pub ListRefusalIsSpelled : ListRefusal → Type 0
ListRefusalIsSpelled (Evidence evidence) = BothAre IsSignedRoot evidence
ListRefusalIsSpelled BadSignature = Unit
ListRefusalIsSpelled BeforeStart = Unit
ListRefusalIsSpelled Ahead = Unit
ListRefusalIsSpelled Memory = Unit
