-- Up to which epoch a name was watched by its monitors.
use Rattle.std.specs.Prelude.{◌≡◌, ◌≢◌, ◌⊎◌, ℕ, ◌≤◌, List, Option, None, Some, All, Any}
use Rattle.monitor.specs.Monitors.{Monitor, IsNext}
use Rattle.rootchain.specs.Chains.{IsHead}
use Rattle.rootchain.specs.declared.signed_promise.SignedPromise.{SignedPromise}
use Rattle.rootchain.specs.declared.signed_root.SignedRoot.{SignedRoot}
use Rattle.memory.specs.declared.mark.Mark.{Mark}

-- the last epoch up to which a monitor has watched each root of its chain: that of the root before the next one,
-- or that of the head
abbrev pub IsWatchedUpTo : Monitor → ℕ → Type 0
IsWatchedUpTo monitor epoch =
    ((root : SignedRoot) × IsNext monitor root × (root.body.previous_epoch ≡ epoch))
    ⊎ (((root : SignedRoot) → ¬ IsNext monitor root) × ((head : SignedRoot) × IsHead monitor.client.chain head × (head.body.epoch ≡ epoch)))

-- the last epoch up to which each monitor of the name has, or none if there is no such monitor
abbrev pub WatchedUpTo : List Monitor → List ℕ → Option ℕ → Type 0
WatchedUpTo monitors name None = All (λ (monitor : Monitor). monitor.name ≢ name) monitors
WatchedUpTo monitors name (Some epoch) =
    Any (λ (monitor : Monitor). (monitor.name ≡ name) × IsWatchedUpTo monitor epoch) monitors
    × All (λ (monitor : Monitor). monitor.name ≡ name → (own : ℕ) × IsWatchedUpTo monitor own × (epoch ≤ own)) monitors

-- a promise for the name of a mark, of which no epoch above the promise's was watched, nor passed before that
abbrev pub IsAwaited : SignedPromise → Mark → Type 0
IsAwaited signed mark = (mark.name ≡ signed.promise.name) × (mark.epoch ≤ signed.promise.epoch)
