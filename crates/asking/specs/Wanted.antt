-- Which roots answer a History: those of the chain, and older ones before them, with none left out.
use Rattle.std.specs.Prelude.{◌≡◌, ◌⊎◌, ◌<◌, ◌≤◌, nat_le, ℕ, List, [], ◌∷◌, filter, length, take, ⊤}
use Rattle.rootchain.specs.Chains.{IsAt, IsHead, KeyedRoots, Links}
use Rattle.rootchain.specs.Places.{IsFirst}
use Rattle.rootchain.specs.declared.signed_root.SignedRoot.{SignedRoot}
use Rattle.asking.specs.declared.wanted.Wanted.{Wanted}

-- the epoch of the last of some roots, or this one if there is none
abbrev pub last_epoch : ℕ → List SignedRoot → ℕ
last_epoch epoch [] = epoch
last_epoch epoch (root ∷ more) = last_epoch root.body.epoch more

-- the chain has got as far as the last of them
abbrev pub IsReached : KeyedRoots → List SignedRoot → Type 0
IsReached chain roots = (head : SignedRoot) × IsHead chain head × (last_epoch 0 roots ≤ head.body.epoch)

-- they are as many as were asked for, or go up to the head that was held, if it was asked for
abbrev pub AreEnough : Wanted → List SignedRoot → Type 0
AreEnough wanted roots = (length roots ≡ wanted.count) ⊎ ((wanted.held < wanted.from) ⊎ (wanted.held ≤ last_epoch 0 roots))

-- no root before this one is of the epoch or a later one
abbrev pub IsFirstFrom : ℕ → SignedRoot → Type 0
IsFirstFrom from root = (root.body.previous_epoch < from) ⊎ (root.body.previous_epoch ≡ 0)

module _ (hash : List ℕ → List ℕ) where
  -- each names the one before it, the first of them this one
  abbrev pub FollowOn : SignedRoot → List SignedRoot → Type 0
  FollowOn last [] = ⊤
  FollowOn last (root ∷ more) = Links hash last root × FollowOn root more

  -- they are roots one after another, and the first is the first from this epoch on
  abbrev pub BeginFrom : ℕ → List SignedRoot → Type 0
  BeginFrom from [] = ⊤
  BeginFrom from (first ∷ more) = IsFirstFrom from first × FollowOn first more

  -- the roots that the chain's directory has for what was asked
  abbrev pub AreWanted : KeyedRoots → Wanted → List SignedRoot → Type 0
  AreWanted chain wanted roots = BeginFrom wanted.from roots × AreEnough wanted roots × IsReached chain roots

-- the roots that are sent of all that a directory has: so many from an epoch on
abbrev pub roots_sent : ℕ → ℕ → List SignedRoot → List SignedRoot
roots_sent from count all = take count (filter (λ root. nat_le from root.body.epoch) all)

-- it is older than the chain, or the chain has its body
abbrev pub IsOfChain : KeyedRoots → SignedRoot → Type 0
IsOfChain chain root = ((first : SignedRoot) × IsFirst chain first × (root.body.epoch < first.body.epoch)) ⊎ ((own : SignedRoot) × IsAt chain root.body.epoch own × (own.body ≡ root.body))
