-- A root that a chain takes: it is added if it follows the head; else the answer is only its place.
use Rattle.std.specs.Prelude.{ℕ, List, [], ◌∷◌, ◌++◌}
use Rattle.rootchain.specs.declared.chain.placing.Place.{Place}
use Rattle.rootchain.specs.declared.chain.placing.Place.TheVariants.{Known, Evidence, Next, Ahead, BeforeStart}
use Rattle.rootchain.specs.declared.root_refusal.Refusal.{Refusal}
use Rattle.rootchain.specs.declared.root_refusal.Refusal.TheVariants.{Malformed, BadSignature, NotLater, BadLink, Memory}
use Rattle.rootchain.specs.declared.signed_root.SignedRoot.{SignedRoot}
use Rattle.rootchain.specs.Chains.{KeyedRoots, Verifies}
use Rattle.rootchain.specs.Places.{IsPlace}

-- the chain with this root after its head
abbrev pub with_root : KeyedRoots → SignedRoot → KeyedRoots
with_root chain root = record chain { roots = chain.roots ++ root ∷ [] }

-- the chain after it took a root of this place
abbrev pub with_taken : KeyedRoots → SignedRoot → Place → KeyedRoots
with_taken chain root Next = with_root chain root
with_taken chain root Known = chain
with_taken chain root (Evidence evidence) = chain
with_taken chain root Ahead = chain
with_taken chain root BeforeStart = chain

-- when a root that is to be taken is refused in this way: only the next root needs memory
abbrev pub IsTakeRefusal : (List ℕ → List ℕ) → (List ℕ → List ℕ → List ℕ → Type 0) → KeyedRoots → SignedRoot → Refusal → Type 0
IsTakeRefusal hash verified chain root Malformed = ⊥
IsTakeRefusal hash verified chain root BadSignature = ¬ Verifies verified chain.key root
IsTakeRefusal hash verified chain root NotLater = ⊥
IsTakeRefusal hash verified chain root BadLink = ⊥
IsTakeRefusal hash verified chain root Memory = Verifies verified chain.key root × IsPlace hash chain root Next
