-- What a monitor is to its callers (CONIKS, section 4): a client, the name that it watches for its
-- owner, what the owner expects, and how far it watched.
use Rattle.std.specs.Prelude.{◌≡◌, ◌⊎◌, ℕ, ◌<◌, ◌≤◌, List, [], ◌∷◌, ◌++◌, Option, AllPairs, Contains}
use Rattle.encoding.specs.declared.bound_key.BoundKey.{BoundKey}
use Rattle.rootchain.specs.Chains.{IsAt}
use Rattle.rootchain.specs.Places.{IsNextAfter}
use Rattle.rootchain.specs.declared.signed_promise.SignedPromise.{SignedPromise}
use Rattle.rootchain.specs.declared.signed_root.SignedRoot.{SignedRoot}
use Rattle.proofs.specs.Watches.{Watch}
use Rattle.client.specs.Agreements.{AreOfOne, HaveOneStatement}
use Rattle.client.specs.Clients.{Client, Look, with_look, with_promise}

pub record Monitor : Type 0 where
  pub client : Client
  pub name : List ℕ
  pub watch : Watch
  -- the epoch that was watched last, or 0
  pub watched : ℕ

-- the monitor that has watched nothing yet and expects this from the first epoch on
abbrev pub new_monitor : Client → List ℕ → Option BoundKey → Monitor
new_monitor client name start = record { client = client; name = name; watch = record { start = start; changes = [] }; watched = 0 }

-- the monitor after it watched an epoch with this reply, which its client keeps
abbrev pub with_watched : Monitor → ℕ → List ℕ → Monitor
with_watched monitor epoch reply = record monitor {
  client = with_look monitor.client (record { name = monitor.name; epoch = epoch; reply = reply });
  watched = epoch;
}

-- the monitor that also expects the change of this promise, which its client keeps
abbrev pub with_change : Monitor → SignedPromise → Monitor
with_change monitor signed = record monitor {
  client = with_promise monitor.client signed;
  watch = record monitor.watch { changes = monitor.watch.changes ++ (signed.promise.epoch, signed.promise.key) ∷ [] };
}

-- the root is one of the chain, of an epoch that was watched
abbrev pub IsWatched : Monitor → SignedRoot → Type 0
IsWatched monitor root = Contains monitor.client.chain.roots root × (0 < root.body.epoch) × (root.body.epoch ≤ monitor.watched)

-- the first root of the chain whose epoch is not yet watched
abbrev pub IsNext : Monitor → SignedRoot → Type 0
IsNext monitor root = IsNextAfter monitor.client.chain monitor.watched root

-- the client keeps a look of the watched name at the epoch
abbrev pub HasLook : Monitor → ℕ → Type 0
HasLook monitor epoch = (look : Look) × Contains monitor.client.looks look × (look.name ≡ monitor.name) × (look.epoch ≡ epoch)

-- the monitor's client keeps a look of the watched name at the epoch of this one, and all that it keeps for
-- the name and epoch state what this one states
abbrev pub SawTheSame : Monitor → Look → Type 0
SawTheSame monitor look = HasLook monitor look.epoch × ((own : Look) → Contains monitor.client.looks own → AreOfOne look own → HaveOneStatement look own)

-- What is true of each monitor: the changes ascend by the epochs of their promises, the epoch that was
-- watched last is one of the chain, and of each epoch that was watched the client keeps a look.
pub record IsWatching (monitor : Monitor) : Type 0 where
  pub ascends : AllPairs (λ earlier later. earlier.0 < later.0) monitor.watch.changes
  pub last : (monitor.watched ≡ 0) ⊎ ((root : SignedRoot) × IsAt monitor.client.chain monitor.watched root)
  pub looked : (root : SignedRoot) → IsWatched monitor root → HasLook monitor root.body.epoch
