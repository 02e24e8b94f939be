-- The chains that an auditor holds, each at the public key of its provider.
use Rattle.std.specs.Prelude.{◌≡◌, ◌≢◌, ℕ, List, Option, Some, All}
use Rattle.std.specs.List.{AllByRecursion}
use Rattle.encoding.specs.Maps.{Map, at}
use Rattle.rootchain.specs.Chains.{KeyedRoots}
use Rattle.rootchain.specs.SignedRoots.{IsSignedRoot}

-- keys and their chains, in order of the keys' bytes
abbrev pub Chains : Type 0
Chains = Map KeyedRoots

-- the chain of a provider, if there is one
abbrev pub chain_of : Chains → List ℕ → Option KeyedRoots
chain_of chains key = at chains key

-- this chain is now that of the provider, and those of all others are as before
pub record NowHas (before : Chains) (key : List ℕ) (chain : KeyedRoots) (after : Chains) : Type 0 where
  pub own : chain_of after key ≡ Some chain
  pub others : (other : List ℕ) → other ≢ key → chain_of after other ≡ chain_of before other

-- a chain that stands at its own key, of roots that have a spelling
abbrev pub IsHeld : List ℕ → KeyedRoots → Type 0
IsHeld key chain = (chain.key ≡ key) × All IsSignedRoot chain.roots

-- this holds for each chain and its key
abbrev pub AreHeld : Chains → Type 0
AreHeld chains = AllByRecursion (λ held. IsHeld held.0 held.1) chains
