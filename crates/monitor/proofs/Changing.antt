-- What comes of a change that is to be expected, as it comes of what was read.
use Rattle.std.proofs.Common.{ℕ, List, Err, refl}
use Rattle.client.specs.declared.client_refusal.Refusal.TheVariants.{Root, Proof, UnknownRoot, RootDiffers, Memory, NoPromise}
use Rattle.encoding.specs.declared.bound_key.BoundKey.{BoundKey}
use Rattle.monitor.specs.Expecting.{Expects, ReadsChange}
use Rattle.monitor.specs.Monitors.{Monitor}
use Rattle.monitor.specs.declared.monitor_refusal.Refusal.{Refusal}
use Rattle.monitor.specs.declared.monitor_refusal.Refusal.TheVariants.{Client, OtherPromise}

module _ (hash : List ℕ → List ℕ) (verified : List ℕ → List ℕ → List ℕ → Type 0) (monitor : Monitor) (key : BoundKey) (bytes : List ℕ) where
  pub read-refused : (why : Refusal) → ReadsChange hash verified monitor key bytes (Err why) → Expects hash verified monitor key bytes {A = Unit} (Err why) monitor
  read-refused OtherPromise reads = (reads, refl)
  read-refused (Client (Root why)) reads = (reads, refl)
  read-refused (Client UnknownRoot) reads = (reads, refl)
  read-refused (Client (Proof why)) reads = absurd reads
  read-refused (Client (RootDiffers evidence)) reads = absurd reads
  read-refused (Client Memory) reads = absurd reads
  read-refused (Client NoPromise) reads = absurd reads
