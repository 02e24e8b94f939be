-- What two signed roots show of a provider that told two histories (CONIKS, section 4, equivocation).
use Rattle.std.specs.Prelude.{◌≡◌, ◌≢◌, ◌⊎◌, ℕ, ◌<◌, List}
use Rattle.rootchain.specs.Bodies.{body_bytes}
use Rattle.rootchain.specs.Chains.{Verifies}
use Rattle.rootchain.specs.declared.evidence.RootEvidence.{RootEvidence}
use Rattle.rootchain.specs.declared.evidence.RootEvidence.TheVariants.{Fork, Link, Skip}
use Rattle.rootchain.specs.declared.signed_root.SignedRoot.{SignedRoot}

-- one epoch, and two bodies (CONIKS, section 4: equivocation)
abbrev pub IsFork : SignedRoot → SignedRoot → Type 0
IsFork one other = (one.body.epoch ≡ other.body.epoch) × (one.body ≢ other.body)

-- the other names the epoch of this one as the one before, but not its hash
abbrev pub IsLink : (List ℕ → List ℕ) → SignedRoot → SignedRoot → Type 0
IsLink hash one other = (other.body.previous_epoch ≡ one.body.epoch) × (other.body.previous_hash ≢ hash (body_bytes one.body))

-- this one is of an epoch between that of the other and the one that it names as the one before
abbrev pub IsSkip : SignedRoot → SignedRoot → Type 0
IsSkip one other = (other.body.previous_epoch < one.body.epoch) × (one.body.epoch < other.body.epoch)

-- it is a link, whose second root names the epoch of the first
abbrev pub NamesEpoch : RootEvidence → Type 0
NamesEpoch (Link one other) = other.body.previous_epoch ≡ one.body.epoch
NamesEpoch (Fork one other) = ⊥
NamesEpoch (Skip one other) = ⊥

-- this holds of both roots
abbrev pub BothAre : (SignedRoot → Type 0) → RootEvidence → Type 0
BothAre P (Fork one other) = P one × P other
BothAre P (Link one other) = P one × P other
BothAre P (Skip one other) = P one × P other

module _ (hash : List ℕ → List ℕ) (verified : List ℕ → List ℕ → List ℕ → Type 0) (key : List ℕ) where
  -- two roots of the provider that cannot both stand in one chain of well-formed roots
  abbrev pub AreEvidence : SignedRoot → SignedRoot → Type 0
  AreEvidence one other = Verifies verified key one × Verifies verified key other × (IsFork one other ⊎ (IsLink hash one other ⊎ IsSkip one other))

  -- such two roots, which stand as the kind says (CONIKS, section 4: evidence of equivocation)
  abbrev pub IsRootEvidence : RootEvidence → Type 0
  IsRootEvidence (Fork one other) = Verifies verified key one × Verifies verified key other × IsFork one other
  IsRootEvidence (Link one other) = Verifies verified key one × Verifies verified key other × IsLink hash one other
  IsRootEvidence (Skip one other) = Verifies verified key one × Verifies verified key other × IsSkip one other
