-- The refusals that an honest directory leaves: those for want of memory, and that of a proof.
use Rattle.std.specs.Prelude.{◌≡◌, List, ℕ, Result, Err, ⊤}
use Rattle.std.specs.List.{AllByRecursion}
use Rattle.rootchain.specs.Chains.{KeyedRoots, Verifies}
use Rattle.rootchain.specs.RootLists.{SpellsRoots}
use Rattle.rootchain.specs.declared.signed_root.SignedRoot.{SignedRoot}
use Rattle.hub.specs.declared.hub_refusal.HubRefusal.{HubRefusal}
use Rattle.hub.specs.declared.hub_refusal.HubRefusal.TheVariants as hub
use Rattle.client.specs.Clients.{Client}
use Rattle.client.specs.Updating.{Updates}
use Rattle.client.specs.declared.client_refusal.Refusal.{Refusal}
use Rattle.client.specs.declared.client_refusal.Refusal.TheVariants.{Root, Proof, UnknownRoot, RootDiffers, Memory, NoPromise}
use Rattle.play.specs.Parties.{Parties}

-- an event was refused since memory ran out
abbrev pub IsMemory : HubRefusal → Type 0
IsMemory (hub.Memory taken) = ⊤
IsMemory hub.TooManySessions = ⊥
IsMemory hub.SessionOpen = ⊥
IsMemory hub.NoSession = ⊥

-- a look was refused for the proof, or since memory ran out
abbrev pub IsOfLook : Refusal → Type 0
IsOfLook (Proof why) = ⊤
IsOfLook Memory = ⊤
IsOfLook (Root why) = ⊥
IsOfLook UnknownRoot = ⊥
IsOfLook (RootDiffers evidence) = ⊥
IsOfLook NoPromise = ⊥

module _ (hash : List ℕ → List ℕ) (verified : List ℕ → List ℕ → List ℕ → Type 0) (bytes : List ℕ) where
  -- whoever has this chain takes the list, unless memory runs out
  abbrev pub MayTake : KeyedRoots → Type 0
  MayTake chain = (holder later : Client) (result : Result (Unit {0}) Refusal) (why : Refusal) → holder.chain ≡ chain → result ≡ Err why → Updates hash verified holder bytes result later → why ≡ Memory

  -- the bytes spell roots that the provider signed, and that the client and each monitor may take
  pub record IsOffered {R : Type 0} (parties : Parties R) : Type 0 where
    pub roots : List SignedRoot
    pub spelled : SpellsRoots bytes roots
    pub signed : AllByRecursion (Verifies verified parties.key) roots
    pub client : MayTake parties.client.chain
    pub monitors : AllByRecursion (λ monitor. MayTake monitor.client.chain) parties.monitors
