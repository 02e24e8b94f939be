-- A line whose bytes are observed is answered.
use Rattle.std.proofs.Common.{◌≡◌, ℕ, List, Result, Ok, Err, inl, inr}
use Rattle.std.specs.Prelude.{IfOk}
use Rattle.hex.specs.Hex.{decode_of}
use Rattle.rootchain.specs.declared.root_refusal.Refusal.{Refusal}
use Rattle.rootchain.specs.declared.root_refusal.Refusal.TheVariants.{Malformed, BadSignature, NotLater, BadLink, Memory}
use Rattle.auditor.specs.declared.auditor.Observed.{Observed}
use Rattle.auditor.specs.Chains.{Chains}
use Rattle.auditor.specs.Observing.{ObservedHolds, Observes}
use Rattle.audits.specs.Steps.{AnswersLine}

pub answered : (hash : List ℕ → List ℕ) (verified : List ℕ → List ℕ → List ℕ → Type 0) (key : List ℕ) (before : Chains) (line bytes : List ℕ) (result : Result Observed Refusal) (after : Chains)
    → decode_of line ≡ Ok bytes → Observes hash verified before key bytes result after → IfOk result (ObservedHolds hash verified key)
    → AnswersLine hash verified key before line result after
answered hash verified key before line bytes (Ok told) after is observes holds = (rw is observes, holds)
answered hash verified key before line bytes (Err Malformed) after is observes holds = (rw is observes, tt)
answered hash verified key before line bytes (Err BadSignature) after is observes holds = (rw is observes, tt)
answered hash verified key before line bytes (Err NotLater) after is (inl (root, spells, (never, same))) holds = absurd never
answered hash verified key before line bytes (Err NotLater) after is (inr (none, refused, same)) holds = absurd cc
answered hash verified key before line bytes (Err BadLink) after is (inl (root, spells, (never, same))) holds = absurd never
answered hash verified key before line bytes (Err BadLink) after is (inr (none, refused, same)) holds = absurd cc
answered hash verified key before line bytes (Err Memory) after is observes holds = tt
