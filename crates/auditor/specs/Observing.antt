-- What an auditor tells of a root, and what it then holds (CONIKS, section 4).
use Rattle.std.specs.Prelude.{◌≡◌, ◌⊎◌, ℕ, List, [], ◌∷◌, Option, Some, None, Result, Ok, Err}
use Rattle.rootchain.specs.declared.chain.placing.Place.{Place}
use Rattle.rootchain.specs.declared.chain.placing.Place.TheVariants as place
use Rattle.rootchain.specs.declared.evidence.RootEvidence.{RootEvidence}
use Rattle.rootchain.specs.declared.root_refusal.Refusal.{Refusal}
use Rattle.rootchain.specs.declared.root_refusal.Refusal.TheVariants.{Malformed, BadSignature, NotLater, BadLink, Memory}
use Rattle.rootchain.specs.declared.signed_root.SignedRoot.{SignedRoot}
use Rattle.rootchain.specs.Chains.{KeyedRoots, Verifies}
use Rattle.rootchain.specs.Evidence.{BothAre, IsRootEvidence}
use Rattle.rootchain.specs.Places.{IsPlace}
use Rattle.rootchain.specs.SignedRoots.{IsSignedRoot, SpellsRoot}
use Rattle.rootchain.specs.Taking.{with_root}
use Rattle.auditor.specs.Chains.{Chains, NowHas, chain_of}
use Rattle.auditor.specs.declared.auditor.Observed.{Observed}
use Rattle.auditor.specs.declared.auditor.Observed.TheVariants.{Started, Extended, Known, Ahead, BeforeStart, Evidence}

-- the answer of an auditor that observes a root of this place
abbrev pub observed_as : Place → Observed
observed_as place.Known = Known
observed_as place.Next = Extended
observed_as place.Ahead = Ahead
observed_as place.BeforeStart = BeforeStart
observed_as (place.Evidence evidence) = Evidence evidence

-- and of one that only compares it: a root that may follow is ahead
abbrev pub compared_as : Place → Place
compared_as place.Known = place.Known
compared_as place.Next = place.Ahead
compared_as place.Ahead = place.Ahead
compared_as place.BeforeStart = place.BeforeStart
compared_as (place.Evidence evidence) = place.Evidence evidence

module _ (hash : List ℕ → List ℕ) where
  -- the answer on a root beside the chain of its provider, if there is one (CONIKS, section 4: auditing for
  -- non-equivocation)
  abbrev pub IsObserved : Option KeyedRoots → SignedRoot → Observed → Type 0
  IsObserved None root told = told ≡ Started
  IsObserved (Some chain) root told = (stands : Place) × IsPlace hash chain root stands × (told ≡ observed_as stands)

  -- the answer on a root that is only compared with the chain of its provider, if there is one
  abbrev pub IsComparedWith : Option KeyedRoots → SignedRoot → Place → Type 0
  IsComparedWith None root told = told ≡ place.Ahead
  IsComparedWith (Some chain) root told = (stands : Place) × IsPlace hash chain root stands × (told ≡ compared_as stands)

-- the chains after this answer on a root: only after the first two does the provider have another chain
abbrev pub HoldsAfter : Chains → List ℕ → SignedRoot → Observed → Chains → Type 0
HoldsAfter before key root Started after = NowHas before key (record { key = key; roots = root ∷ [] }) after
HoldsAfter before key root Extended after = (chain : KeyedRoots) × (chain_of before key ≡ Some chain) × NowHas before key (with_root chain root) after
HoldsAfter before key root Known after = after ≡ before
HoldsAfter before key root Ahead after = after ≡ before
HoldsAfter before key root BeforeStart after = after ≡ before
HoldsAfter before key root (Evidence evidence) after = after ≡ before

module _ (hash : List ℕ → List ℕ) (verified : List ℕ → List ℕ → List ℕ → Type 0) where
  -- when a root that was read is refused in this way: only starting or extending a chain needs memory
  abbrev pub IsObserveRefusal : Option KeyedRoots → List ℕ → SignedRoot → Refusal → Type 0
  IsObserveRefusal held key root Malformed = ⊥
  IsObserveRefusal held key root BadSignature = ¬ Verifies verified key root
  IsObserveRefusal held key root NotLater = ⊥
  IsObserveRefusal held key root BadLink = ⊥
  IsObserveRefusal held key root Memory = Verifies verified key root × (IsObserved hash held root Started ⊎ IsObserved hash held root Extended)

  -- what comes of a root of a provider that is observed
  abbrev pub ObservesRoot : Chains → List ℕ → SignedRoot → Result Observed Refusal → Chains → Type 0
  ObservesRoot before key root (Ok told) after = Verifies verified key root × IsObserved hash (chain_of before key) root told × HoldsAfter before key root told after
  ObservesRoot before key root (Err why) after = IsObserveRefusal (chain_of before key) key root why × (after ≡ before)

  -- what comes of bytes that are observed: they spell a root, or else they are refused
  abbrev pub Observes : Chains → List ℕ → List ℕ → Result Observed Refusal → Chains → Type 0
  Observes before key bytes result after =
      ((root : SignedRoot) × SpellsRoot bytes root × ObservesRoot before key root result after)
      ⊎ (((root : SignedRoot) → ¬ SpellsRoot bytes root) × (result ≡ Err Malformed) × (after ≡ before))

  -- what comes of a root of a provider that is compared
  abbrev pub ComparesRoot : Chains → List ℕ → SignedRoot → Result Place Refusal → Type 0
  ComparesRoot chains key root (Ok told) = Verifies verified key root × IsComparedWith hash (chain_of chains key) root told
  ComparesRoot chains key root (Err Malformed) = ⊥
  ComparesRoot chains key root (Err BadSignature) = ¬ Verifies verified key root
  ComparesRoot chains key root (Err NotLater) = ⊥
  ComparesRoot chains key root (Err BadLink) = ⊥
  ComparesRoot chains key root (Err Memory) = ⊥

  -- what comes of bytes that are compared: they spell a root, or else they are refused
  abbrev pub ComparesBytes : Chains → List ℕ → List ℕ → Result Place Refusal → Type 0
  ComparesBytes chains key bytes result =
      ((root : SignedRoot) × SpellsRoot bytes root × ComparesRoot chains key root result)
      ⊎ (((root : SignedRoot) → ¬ SpellsRoot bytes root) × (result ≡ Err Malformed))

module _ (hash : List ℕ → List ℕ) (verified : List ℕ → List ℕ → List ℕ → Type 0) (key : List ℕ) where
  -- evidence against this provider, of roots that have a spelling
  abbrev pub Holds : RootEvidence → Type 0
  Holds evidence = IsRootEvidence hash verified key evidence × BothAre IsSignedRoot evidence

  -- if evidence is told, it holds
  abbrev pub ObservedHolds : Observed → Type 0
  ObservedHolds Started = Unit
  ObservedHolds Extended = Unit
  ObservedHolds Known = Unit
  ObservedHolds Ahead = Unit
  ObservedHolds BeforeStart = Unit
  ObservedHolds (Evidence evidence) = Holds evidence

  -- the same of a place
  abbrev pub PlaceHolds : Place → Type 0
  PlaceHolds place.Known = Unit
  PlaceHolds place.Next = Unit
  PlaceHolds place.Ahead = Unit
  PlaceHolds place.BeforeStart = Unit
  PlaceHolds (place.Evidence evidence) = Holds evidence
