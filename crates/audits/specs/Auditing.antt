-- What `audit` answers to the lines of an input (CONIKS, section 4; the lines are this directory's own).
use Rattle.std.specs.Prelude.{◌≡◌, ℕ, List, [], ◌∷◌, ◌++◌, Option, None, Some, Result, Ok, Err, IfSome, IsSomeAnd, codes, decimal, ⊤}
use Rattle.std.specs.Io.KnownBytes.{Appends, Keeps}
use Rattle.hex.specs.Hex.{decode_of}
use Rattle.hex.specs.declared.error.FromHexError.{FromHexError}
use Rattle.nodehash.specs.Sha256.{sha256}
use Rattle.rootchain.specs.declared.root_refusal.Refusal.{Refusal}
use Rattle.rootchain.specs.declared.root_refusal.Refusal.TheVariants.{Malformed, BadSignature, NotLater, BadLink, Memory}
use Rattle.rootchain.specs.Refusals.{chain_refusal_number}
use Rattle.textio.specs.Digits.{hex32}
use Rattle.textio.specs.Lines.{lines_of}
use Rattle.textio.specs.Output.{WritesBeginning}
use Rattle.textio.specs.Pieces.{LosesPart}
use Rattle.textio.specs.declared.program_fault.ProgramFault.{ProgramFault}
use Rattle.textio.specs.declared.program_fault.ProgramFault.TheVariants.{BadHex, BadItem, IndexRepeated, NotACommand, NotEvidence, BadRecord, OtherKeys, CannotRead, CannotWrite, CannotListen, OutOfMemory}
use Rattle.auditor.specs.declared.auditor.Observed.{Observed}
use Rattle.auditor.specs.declared.auditor.Observed.TheVariants.{Started, Extended, Known, Ahead, BeforeStart, Evidence}
use Rattle.auditor.specs.declared.evidence.Evidence.TheVariants.{Root}
use Rattle.auditor.specs.Chains.{Chains}
use Rattle.auditor.specs.Observing.{ObservedHolds, Observes}
use Rattle.audits.specs.Files.{evidence_text}
use Rattle.sigiface.specs.StandIn.{KeyedVerifies}

-- the line that tells an answer
abbrev pub answer_line : Result Observed Refusal → List ℕ
answer_line (Ok Started) = codes "started\n"
answer_line (Ok Extended) = codes "extended\n"
answer_line (Ok Known) = codes "known\n"
answer_line (Ok Ahead) = codes "ahead\n"
answer_line (Ok BeforeStart) = codes "before start\n"
answer_line (Ok (Evidence roots)) = evidence_text (Root roots) ++ 10 ∷ []
answer_line (Err why) = codes "refused " ++ decimal (chain_refusal_number why) ++ 10 ∷ []

abbrev pub answer_lines : List (Result Observed Refusal) → List ℕ
answer_lines [] = []
answer_lines (answer ∷ answers) = answer_line answer ++ answer_lines answers

-- known bytes lose these lines
abbrev pub AreTaken : Option (List ℕ) → Option (List ℕ) → List (List ℕ) → Type 0
AreTaken None left lines = ⊤
AreTaken (Some input) left lines = IsSomeAnd left (λ rest. lines_of input ≡ lines ++ lines_of rest)

-- and less than one more
abbrev pub AreRead : Option (List ℕ) → Option (List ℕ) → List (List ℕ) → Type 0
AreRead input left lines = (ready : Option (List ℕ)) × AreTaken input ready lines × LosesPart ready left

module _ (hash : List ℕ → List ℕ) (verified : List ℕ → List ℕ → List ℕ → Type 0) (key : List ℕ) where
  -- the bytes of a line are observed; a line that gives none is not a signed root
  abbrev pub ObservesDecoded : Chains → Result (List ℕ) FromHexError → Result Observed Refusal → Chains → Type 0
  ObservesDecoded before (Ok bytes) answer after = Observes hash verified before key bytes answer after
  ObservesDecoded before (Err fault) answer after = (answer ≡ Err Malformed) × (after ≡ before)

  -- what comes of a line, which gives bytes by hexadecimal digits of either case
  abbrev pub ObservesLine : Chains → List ℕ → Result Observed Refusal → Chains → Type 0
  ObservesLine before line = ObservesDecoded before (decode_of line)

  -- Evidence that is answered holds. A root is refused only if it is none, or does not verify.
  abbrev pub IsAuditAnswer : Result Observed Refusal → Type 0
  IsAuditAnswer (Ok told) = ObservedHolds hash verified key told
  IsAuditAnswer (Err Malformed) = ⊤
  IsAuditAnswer (Err BadSignature) = ⊤
  IsAuditAnswer (Err NotLater) = ⊥
  IsAuditAnswer (Err BadLink) = ⊥
  IsAuditAnswer (Err Memory) = ⊥

  -- each line is observed beside the chains that the lines before it left, and answered
  abbrev pub Audits : Chains → List (List ℕ) → List (Result Observed Refusal) → Chains → Type 0
  Audits before [] answers after = (answers ≡ []) × (after ≡ before)
  Audits before (line ∷ lines) [] after = ⊥
  Audits before (line ∷ lines) (answer ∷ answers) after =
      (middle : Chains) × ObservesLine before line answer middle × IsAuditAnswer answer × Audits middle lines answers after

  -- these are the answers to all lines of the input, by an auditor that begins without a chain
  abbrev pub AnswersAll : Option (List ℕ) → List (Result Observed Refusal) → Type 0
  AnswersAll input answers = (lines : List (List ℕ)) × (after : Chains) × IfSome input (λ bytes. lines_of bytes ≡ lines) × Audits [] lines answers after

  -- What comes of an input, of which this is left: a line is written for each of its lines. Or for each that was
  -- read, if a read failed, but not for part of a line; or for all but the last, if memory ran out there; or less
  -- of that of the last, if a write failed.
  abbrev pub AuditsInput : Option (List ℕ) → Option (List ℕ) → Option (List ℕ) → Result (Unit {0}) ProgramFault → Option (List ℕ) → Type 0
  AuditsInput input left old (Ok done) new = (answers : List (Result Observed Refusal)) × AnswersAll input answers × Appends old new (answer_lines answers)
  AuditsInput input left old (Err CannotRead) new = (lines : List (List ℕ)) × (answers : List (Result Observed Refusal)) × (after : Chains)
      × AreRead input left lines × Audits [] lines answers after × Appends old new (answer_lines answers)
  AuditsInput input left old (Err OutOfMemory) new = (lines : List (List ℕ)) × (line : List ℕ) × (answers : List (Result Observed Refusal)) × (after : Chains)
      × AreTaken input left (lines ++ line ∷ []) × Audits [] lines answers after × Appends old new (answer_lines answers)
  AuditsInput input left old (Err CannotWrite) new = (lines : List (List ℕ)) × (line : List ℕ) × (answers : List (Result Observed Refusal)) × (answer : Result Observed Refusal) × (after : Chains)
      × AreTaken input left (lines ++ line ∷ []) × Audits [] (lines ++ line ∷ []) (answers ++ answer ∷ []) after
      × (told : Option (List ℕ)) × Appends old told (answer_lines answers) × WritesBeginning told new (answer_line answer)
  AuditsInput input left old (Err BadHex) new = ⊥
  AuditsInput input left old (Err (BadItem line)) new = ⊥
  AuditsInput input left old (Err (IndexRepeated line)) new = ⊥
  AuditsInput input left old (Err (NotACommand line)) new = ⊥
  AuditsInput input left old (Err NotEvidence) new = ⊥
  AuditsInput input left old (Err BadRecord) new = ⊥
  AuditsInput input left old (Err OtherKeys) new = ⊥
  AuditsInput input left old (Err CannotListen) new = ⊥

-- what comes of a key's text and an input, of which this is left
abbrev pub AuditsUnder : Option (List ℕ) → Option (List ℕ) → Option (List ℕ) → Option (List ℕ) → Result (Unit {0}) ProgramFault → Option (List ℕ) → Type 0
AuditsUnder None input left old result new = (result ≡ Err BadHex) × Keeps old new
AuditsUnder (Some key) input left old result new = AuditsInput sha256 KeyedVerifies key input left old result new

abbrev pub AuditsText : List ℕ → Option (List ℕ) → Option (List ℕ) → Option (List ℕ) → Result (Unit {0}) ProgramFault → Option (List ℕ) → Type 0
AuditsText key = AuditsUnder (hex32 key)
