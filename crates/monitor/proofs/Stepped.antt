-- What a step tells, and that it watches the next epoch, as it comes of the look of the client.
use Rattle.std.proofs.Common.{◌≡◌, ◌↔◌, ℕ, List, Option, Some, None, Result, Ok, Err, refl}
use Rattle.rootchain.specs.declared.signed_root.SignedRoot.{SignedRoot}
use Rattle.proofs.specs.Views.{key_stated}
use Rattle.proofs.specs.declared.statement.Statement.{Statement}
use Rattle.client.specs.Clients.{Client}
use Rattle.client.specs.Looking.{LooksNext}
use Rattle.client.specs.declared.client_refusal.Refusal.{Refusal}
use Rattle.client.specs.declared.client_refusal.Refusal.TheVariants.{Root, Proof, UnknownRoot, RootDiffers, Memory, NoPromise}
use Rattle.monitor.specs.Monitors.{Monitor, IsNext, IsWatching}
use Rattle.monitor.proofs.Watching.{watched-watching}
use Rattle.monitor.specs.Stepping.{IsNextEpoch, StepTells, Steps}
use Rattle.monitor.specs.declared.monitor_refusal.Refusal.TheVariants as refusal
use Rattle.monitor.specs.declared.step.Step.{Step}

-- where a search for the next root finds none, there is none
pub no-next : (monitor : Monitor) (found : Option SignedRoot) → ((root : SignedRoot) → (found ≡ Some root) ↔ IsNext monitor root) → found ≡ None → IsNextEpoch monitor None
no-next monitor found is none root next = let some = (is root).1 next in absurd cc

module _ (hash : List ℕ → List ℕ) (accepted : List ℕ → List ℕ → List ℕ → Type 0) (monitor : Monitor) (bytes : List ℕ) (client : Client) where
  abbrev pub LooksHere : Result (ℕ × Statement) Refusal → Type 0
  LooksHere result = LooksNext hash accepted monitor.client monitor.name monitor.watched bytes result client

  pub step-told : (epoch : ℕ) (found : Statement) (step : Step) → LooksHere (Ok (epoch, found)) → StepTells monitor.watch epoch (key_stated found) step
      → Steps hash accepted monitor bytes (Ok step) (record monitor { client = client; watched = epoch })
  step-told epoch found step (root, reply, answered, at, states, kept) tells = (root, reply, answered, rw (at, states) at tells, rw (at, kept) refl)

  pub step-watching : IsWatching monitor → (epoch : ℕ) (found : Statement) → LooksHere (Ok (epoch, found)) → IsWatching (record monitor { client = client; watched = epoch })
  step-watching watching epoch found (root, reply, answered, at, states, kept) = rw (at, kept) (watched-watching monitor watching root.body.epoch bytes root answered.0 refl)

  pub step-refused : (why : Refusal) → LooksHere (Err why) → Steps hash accepted monitor bytes (Err (refusal.Client why)) (record monitor { client = client })
  step-refused UnknownRoot (none, same) = (none, rw same refl)
  step-refused (Proof why) (root, next, refuses, same) = (root, next, refuses, rw same refl)
  step-refused Memory (root, reply, answered, same) = (root, reply, answered, rw same refl)
  step-refused (Root why) looks = absurd looks
  step-refused (RootDiffers evidence) looks = absurd looks
  step-refused NoPromise looks = absurd looks
