-- Where the telling of roots that were asked for stops.
use Rattle.std.specs.Prelude.{◌≡◌, ◌⊎◌, ℕ, List, [], ◌∷◌, ◌++◌, Option, None, Some, Result, codes, decimal}
use Rattle.std.specs.List.{flat_map}
use Rattle.rootchain.specs.Chains.{KeyedRoots}
use Rattle.rootchain.specs.declared.chain.placing.Place.{Place}
use Rattle.rootchain.specs.declared.root_refusal.Refusal.{Refusal as RootRefusal}
use Rattle.rootchain.specs.declared.signed_root.SignedRoot.{SignedRoot}
use Rattle.client.specs.declared.client_refusal.Refusal.{Refusal}
use Rattle.asking.specs.Checking.{refusal_at, Places}

-- the epochs of roots, as a line has them
abbrev pub epochs_text : List SignedRoot → List ℕ
epochs_text roots = flat_map (λ (root : SignedRoot). codes " " ++ decimal root.body.epoch) roots

module _ (hash : List ℕ → List ℕ) (verified : List ℕ → List ℕ → List ℕ → Type 0) (chain : KeyedRoots) where
  -- whether it stops at a root, and why
  abbrev pub StopsAtRoot : SignedRoot → Option Refusal → Type 0
  StopsAtRoot root stop = (place : Result Place RootRefusal) × Places hash verified chain root place × (refusal_at place ≡ stop)

  -- whether it stops at one of these, at the first that is not told
  abbrev pub StopsAmong : List SignedRoot → Option Refusal → Type 0
  StopsAmong [] stop = stop ≡ None
  StopsAmong (first ∷ more) stop = ((why : Refusal) × (stop ≡ Some why) × StopsAtRoot first (Some why)) ⊎ (StopsAtRoot first None × StopsAmong more stop)
