-- The parts of a file, and the answer to a line, for private clauses.
use Rattle.std.specs.Prelude.{◌≡◌, ℕ, List, ◌++◌, Result, Ok, Err, ⊤}
use Rattle.encoding.specs.Forms.{counted_bytes}
use Rattle.encoding.specs.Limits.{IsName}
use Rattle.proofs.specs.declared.broken_final.BrokenFinal.{BrokenFinal}
use Rattle.proofs.specs.declared.broken_promise.BrokenPromise.{BrokenPromise}
use Rattle.proofs.specs.Replies.{Reply, SpellsReply}
use Rattle.rootchain.specs.declared.root_refusal.Refusal.{Refusal}
use Rattle.rootchain.specs.declared.root_refusal.Refusal.TheVariants.{Memory}
use Rattle.rootchain.specs.declared.signed_root.SignedRoot.{SignedRoot}
use Rattle.textio.specs.declared.program_fault.ProgramFault.{ProgramFault}
use Rattle.textio.specs.declared.program_fault.ProgramFault.TheVariants.{OutOfMemory}
use Rattle.auditor.specs.declared.auditor.Observed.{Observed}
use Rattle.auditor.specs.Chains.{Chains}
use Rattle.audits.specs.Auditing.{answer_line, IsAuditAnswer, ObservesLine}
use Rattle.rootchain.specs.Promises.{signed_promise_bytes, IsSignedPromise}
use Rattle.rootchain.specs.SignedRoots.{signed_root_bytes, IsSignedRoot}

-- bytes that spell a reply
abbrev pub IsProof : List ℕ → List ℕ → Type 0
IsProof bytes proof = (proof ≡ bytes) × ((reply : Reply) × SpellsReply bytes reply)

-- bytes that spell a signed root, and more bytes that spell another one
abbrev pub AreRoots : List ℕ → List ℕ → SignedRoot × SignedRoot → Type 0
AreRoots first second roots =
    ((first ≡ signed_root_bytes roots.0) × IsSignedRoot roots.0) × ((second ≡ signed_root_bytes roots.1) × IsSignedRoot roots.1)

-- bytes that spell a signed root followed by a reply
abbrev pub IsRootWithProof : List ℕ → SignedRoot × List ℕ → Type 0
IsRootWithProof bytes pair = (bytes ≡ signed_root_bytes pair.0 ++ pair.1) × IsSignedRoot pair.0 × ((reply : Reply) × SpellsReply pair.1 reply)

-- bytes that spell a signed promise, and more bytes that spell a signed root followed by a reply
abbrev pub IsBroken : List ℕ → List ℕ → BrokenPromise → Type 0
IsBroken first second broken =
    ((first ≡ signed_promise_bytes broken.promise) × IsSignedPromise broken.promise) × IsRootWithProof second (broken.root, broken.proof)

-- bytes that spell a name behind its length, followed by a signed root and a reply
abbrev pub IsNameWithRoot : List ℕ → List ℕ × (SignedRoot × List ℕ) → Type 0
IsNameWithRoot bytes parts =
    (bytes ≡ counted_bytes parts.0 ++ (signed_root_bytes parts.1.0 ++ parts.1.1)) × IsName parts.0 × IsSignedRoot parts.1.0 × ((reply : Reply) × SpellsReply parts.1.1 reply)

-- bytes that spell a name, a signed root and a reply, and more bytes that spell a signed root followed by a reply
abbrev pub IsChange : List ℕ → List ℕ → BrokenFinal → Type 0
IsChange first second broken =
    IsNameWithRoot first (broken.name, (broken.root, broken.proof)) × IsRootWithProof second (broken.later_root, broken.later_proof)

-- ---- a line of `audit`

-- What comes of a line: its answer, or memory ran out.
module _ (hash : List ℕ → List ℕ) (verified : List ℕ → List ℕ → List ℕ → Type 0) (key : List ℕ) where
  abbrev pub AnswersLine : Chains → List ℕ → Result Observed Refusal → Chains → Type 0
  AnswersLine before line (Ok told) after = ObservesLine hash verified key before line (Ok told) after × IsAuditAnswer hash verified key (Ok told)
  AnswersLine before line (Err Memory) after = ⊤
  AnswersLine before line (Err why) after = ObservesLine hash verified key before line (Err why) after × IsAuditAnswer hash verified key (Err why)

  -- The answer to a line is given as text, or memory ran out. The first argument gives the bytes of what was
  -- returned.
  abbrev pub TellsLine : {X : Type 0} → (X → List ℕ) → Chains → List ℕ → Result X ProgramFault → Chains → Type 0
  TellsLine seen before line (Ok text) after = (answer : Result Observed Refusal)
      × ObservesLine hash verified key before line answer after × IsAuditAnswer hash verified key answer × (seen text ≡ answer_line answer)
  TellsLine seen before line (Err fault) after = fault ≡ OutOfMemory
