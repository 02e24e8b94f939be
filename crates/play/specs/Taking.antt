-- What the parties make of a list of roots that is handed to each of them.
use Rattle.std.specs.Prelude.{◌≡◌, ℕ, List}
use Rattle.std.specs.List.{AllZip}
use Rattle.rootchain.specs.Chains.{KeyedRoots}
use Rattle.rootchain.specs.TakingLists.{Takes}
use Rattle.rootchain.specs.declared.signed_root.SignedRoot.{SignedRoot}
use Rattle.auditor.specs.Chains.{Chains}
use Rattle.auditor.specs.InOrder.{ObservesAll}
use Rattle.auditor.specs.declared.auditor.Observed.{Observed}
use Rattle.client.specs.Clients.{Client}
use Rattle.monitor.specs.Monitors.{Monitor}
use Rattle.play.specs.Parties.{Parties}

module _ (hash : List ℕ → List ℕ) (verified : List ℕ → List ℕ → List ℕ → Type 0) (roots : List SignedRoot) where
  abbrev pub ClientTakes : Client → Client → Type 0
  ClientTakes before after = (chain : KeyedRoots) × Takes hash verified before.chain roots chain × (after ≡ record before { chain = chain })

  abbrev pub MonitorTakes : Monitor → Monitor → Type 0
  MonitorTakes before after = ClientTakes before.client after.client × (after ≡ record before { client = after.client })

  abbrev pub AuditorTakes : List ℕ → Chains → Chains → Type 0
  AuditorTakes key before after = (answers : List Observed) × ObservesAll hash verified before key roots answers after

  -- all take the roots, and the hub stays as it was
  pub record AllTake {R : Type 0} (before after : Parties R) : Type 0 where
    pub client : ClientTakes before.client after.client
    pub auditor : AuditorTakes before.key before.auditor after.auditor
    pub monitors : AllZip MonitorTakes before.monitors after.monitors
    pub hub : after.hub ≡ before.hub
    pub key : after.key ≡ before.key
