-- What comes of a list of roots: it is taken whole, or refused (after CONIKS, section 4).
use Rattle.std.specs.Prelude.{◌≡◌, ◌⊎◌, ℕ, List, Result, Ok, Err}
use Rattle.rootchain.specs.Chains.{KeyedRoots}
use Rattle.rootchain.specs.Evidence.{BothAre, IsRootEvidence}
use Rattle.rootchain.specs.RootLists.{SpellsRoots}
use Rattle.rootchain.specs.SignedRoots.{IsSignedRoot}
use Rattle.rootchain.specs.TakingLists.{IsListRefusal, Takes}
use Rattle.rootchain.specs.declared.signed_root.SignedRoot.{SignedRoot}
use Rattle.rootchain.specs.declared.list_refusal.ListRefusal.{ListRefusal}
use Rattle.rootchain.specs.declared.list_refusal.ListRefusal.TheVariants as list
use Rattle.client.specs.Clients.{Client}
use Rattle.client.specs.declared.client_refusal.Refusal.{Refusal}
use Rattle.client.specs.declared.client_refusal.RootRefusal.TheVariants as root
use Rattle.client.specs.declared.client_refusal.Refusal.TheVariants.{Root, Proof, UnknownRoot, RootDiffers, Memory, NoPromise}

-- the client's refusal for its chain's refusal of a list
abbrev pub told_as : ListRefusal → Refusal
told_as list.BadSignature = Root root.BadSignature
told_as list.BeforeStart = Root root.NotLater
told_as list.Ahead = Root root.BadLink
told_as (list.Evidence evidence) = RootDiffers evidence
told_as list.Memory = Memory

module _ (hash : List ℕ → List ℕ) (verified : List ℕ → List ℕ → List ℕ → Type 0) (before : Client) (bytes : List ℕ) where
  -- The answer, and the client after it: its chain takes each root of the list in order, or the client stays
  -- as it was.
  abbrev pub Updates : {A : Type 0} → Result A Refusal → Client → Type 0
  Updates (Ok _) after = (roots : List SignedRoot) × (chain : KeyedRoots) × SpellsRoots bytes roots × Takes hash verified before.chain roots chain
      × (after ≡ record before { chain = chain })
  Updates (Err why) after = (after ≡ before)
      × ((((roots : List SignedRoot) → ¬ SpellsRoots bytes roots) × (why ≡ Root root.Malformed))
      ⊎ ((roots : List SignedRoot) × (reason : ListRefusal) × SpellsRoots bytes roots × IsListRefusal hash verified before.chain roots reason × (why ≡ told_as reason)))

-- if evidence is told, it holds under the key, and its roots have spellings
abbrev pub RefusalHolds : (List ℕ → List ℕ) → (List ℕ → List ℕ → List ℕ → Type 0) → List ℕ → Refusal → Type 0
RefusalHolds hash verified key (RootDiffers evidence) = IsRootEvidence hash verified key evidence × BothAre IsSignedRoot evidence
RefusalHolds hash verified key (Root why) = Unit
RefusalHolds hash verified key (Proof why) = Unit
RefusalHolds hash verified key UnknownRoot = Unit
RefusalHolds hash verified key Memory = Unit
RefusalHolds hash verified key NoPromise = Unit
