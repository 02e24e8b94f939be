-- How a client starts: with one signed root of its provider.
use Rattle.std.specs.Prelude.{◌≡◌, ℕ, List, Result, Ok, Err}
use Rattle.rootchain.specs.Chains.{Verifies}
use Rattle.rootchain.specs.SignedRoots.{SpellsRoot}
use Rattle.rootchain.specs.declared.signed_root.SignedRoot.{SignedRoot}
use Rattle.client.specs.Clients.{Client, started}
use Rattle.client.specs.declared.client_refusal.Refusal.{Refusal}
use Rattle.client.specs.declared.client_refusal.RootRefusal.TheVariants.{Malformed, BadSignature, NotLater, BadLink}
use Rattle.client.specs.declared.client_refusal.Refusal.TheVariants.{Root, Proof, UnknownRoot, RootDiffers, Memory, NoPromise}

module _ (verified : List ℕ → List ℕ → List ℕ → Type 0) (key : List ℕ) (bytes : List ℕ) where
  -- the bytes spell a root that verifies under the key
  abbrev pub IsSpelledRoot : SignedRoot → Type 0
  IsSpelledRoot root = SpellsRoot bytes root × Verifies verified key root

  -- what comes of the bytes that a client is to start with
  abbrev pub Starts : Result Client Refusal → Type 0
  Starts (Ok client) = (root : SignedRoot) × IsSpelledRoot root × (client ≡ started key root)
  Starts (Err (Root Malformed)) = (root : SignedRoot) → ¬ SpellsRoot bytes root
  Starts (Err (Root BadSignature)) = (root : SignedRoot) × SpellsRoot bytes root × ¬ Verifies verified key root
  Starts (Err (Root NotLater)) = ⊥
  Starts (Err (Root BadLink)) = ⊥
  Starts (Err (Proof why)) = ⊥
  Starts (Err UnknownRoot) = ⊥
  Starts (Err (RootDiffers evidence)) = ⊥
  Starts (Err Memory) = (root : SignedRoot) × IsSpelledRoot root
  Starts (Err NoPromise) = ⊥
