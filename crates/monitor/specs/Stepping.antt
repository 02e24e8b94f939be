-- How a monitor watches the next epoch (CONIKS, section 4).
use Rattle.std.specs.Prelude.{◌≡◌, ◌≢◌, ℕ, List, Option, Some, None, Result, Ok, Err}
use Rattle.encoding.specs.declared.bound_key.BoundKey.{BoundKey}
use Rattle.rootchain.specs.declared.signed_root.SignedRoot.{SignedRoot}
use Rattle.proofs.specs.Accepts.{stated}
use Rattle.proofs.specs.Comparisons.{IsAcceptedReply, Refuses}
use Rattle.proofs.specs.Replies.{Reply}
use Rattle.proofs.specs.Views.{key_stated}
use Rattle.proofs.specs.Watches.{Watch, expected}
use Rattle.client.specs.declared.client_refusal.Refusal.TheVariants.{Root, Proof, UnknownRoot, RootDiffers, Memory, NoPromise}
use Rattle.monitor.specs.Monitors.{Monitor, with_watched, IsNext}
use Rattle.monitor.specs.declared.monitor_refusal.Refusal.{Refusal}
use Rattle.monitor.specs.declared.monitor_refusal.Refusal.TheVariants.{Client, OtherPromise}
use Rattle.monitor.specs.declared.step.Step.{Step}
use Rattle.monitor.specs.declared.step.Step.TheVariants.{Kept, Alarm}

-- the epoch that is watched next, or none if each epoch of the chain was watched
abbrev pub IsNextEpoch : Monitor → Option ℕ → Type 0
IsNextEpoch monitor None = (root : SignedRoot) → ¬ IsNext monitor root
IsNextEpoch monitor (Some epoch) = (root : SignedRoot) × IsNext monitor root × (root.body.epoch ≡ epoch)

-- what a step says of the statement at an epoch: that it is the expected one, or else what it is (CONIKS, section 4:
-- monitoring for spurious keys)
abbrev pub StepTells : Watch → ℕ → Option BoundKey → Step → Type 0
StepTells watch epoch statement Kept = statement ≡ expected watch epoch
StepTells watch epoch statement (Alarm at found) = (statement ≢ expected watch epoch) × (at ≡ epoch) × (key_stated found ≡ statement)

module _ (hash : List ℕ → List ℕ) (accepted : List ℕ → List ℕ → List ℕ → Type 0) (before : Monitor) (bytes : List ℕ) where
  -- the bytes are a reply for the watched name that is accepted under the next root
  abbrev pub IsFound : SignedRoot → Reply → Type 0
  IsFound root reply = IsNext before root × IsAcceptedReply hash accepted root.body before.name bytes reply

  -- What a step returns, and the monitor after it. The epoch of the next root is then watched, even if
  -- the step is an alarm; a refusal watches nothing.
  abbrev pub Steps : Result Step Refusal → Monitor → Type 0
  Steps (Ok step) after = (root : SignedRoot) × (reply : Reply) × IsFound root reply × StepTells before.watch root.body.epoch (stated reply.end) step
      × (after ≡ with_watched before root.body.epoch bytes)
  Steps (Err (Client UnknownRoot)) after = ((root : SignedRoot) → ¬ IsNext before root) × (after ≡ before)
  Steps (Err (Client (Proof why))) after = (root : SignedRoot) × IsNext before root × Refuses hash accepted root.body before.name bytes why × (after ≡ before)
  Steps (Err (Client Memory)) after = (root : SignedRoot) × (reply : Reply) × IsFound root reply × (after ≡ before)
  Steps (Err (Client (Root why))) after = ⊥
  Steps (Err (Client (RootDiffers evidence))) after = ⊥
  Steps (Err (Client NoPromise)) after = ⊥
  Steps (Err OtherPromise) after = ⊥
