-- The chain of a provider takes a root, and the other chains stay.
use Rattle.std.specs.Prelude.{◌≡◌, ℕ, List, Some, Result, Ok, Err}
use Rattle.std.specs.BTreeMap.{is_at}
use Rattle.std.specs.Map.{set_value}
use Rattle.rootchain.specs.declared.chain.placing.Place.{Place}
use Rattle.rootchain.specs.declared.root_refusal.Refusal.{Refusal}
use Rattle.rootchain.specs.declared.signed_root.SignedRoot.{SignedRoot}
use Rattle.rootchain.specs.Chains.{KeyedRoots, Verifies}
use Rattle.rootchain.specs.Places.{IsPlace}
use Rattle.rootchain.specs.Taking.{with_taken, IsTakeRefusal}
use Rattle.auditor.specs.Chains.{Chains, chain_of}
use Rattle.encoding.specs.Bytes.{bytes_cmp}

module _ (hash : List ℕ → List ℕ) (verified : List ℕ → List ℕ → List ℕ → Type 0) where
  -- what comes of a root that a chain takes
  abbrev pub TakesRoot : KeyedRoots → SignedRoot → Result Place Refusal → KeyedRoots → Type 0
  TakesRoot chain root (Ok place) left = Verifies verified chain.key root × IsPlace hash chain root place × (left ≡ with_taken chain root place)
  TakesRoot chain root (Err why) left = IsTakeRefusal hash verified chain root why × (left ≡ chain)

  -- the chain at a key takes it
  abbrev pub TakesAt : Chains → List ℕ → SignedRoot → Result Place Refusal → Chains → Type 0
  TakesAt before key root result after = (chain : KeyedRoots) × (left : KeyedRoots) × (chain_of before key ≡ Some chain)
      × (after ≡ set_value (is_at (bytes_cmp key)) before left) × TakesRoot chain root result left
