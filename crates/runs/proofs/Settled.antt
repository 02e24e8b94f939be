-- A name that is settled.
use Rattle.std.proofs.Common.{◌≡◌, ◌∙◌, ◌++◌, [], ℕ, ◌<◌, ◌≤◌, List, Option, Result, Ok, Err, ap, append-nil, arith, append_assoc, inl, inr, subst, sym, None, Some}
use Rattle.runs.specs.Saves.{Act}
use Rattle.runs.specs.Standing.{DropsAlarms, HasLoaded}
use Rattle.runs.specs.declared.state.State.{State}
use Rattle.std.specs.Prelude.{IfSome, IfErr, IfOk, OnErr, OnOk}
use Rattle.std.specs.Io.KnownBytes.{Appends}
use Rattle.memory.specs.Memories.{nothing, Memory}
use Rattle.textio.specs.Output.{WritesSome}
use Rattle.textio.specs.declared.program_fault.ProgramFault.{ProgramFault}
use Rattle.runs.specs.AskOptions.{AskOptions}
use Rattle.runs.specs.Ending.{AsksOverSocket, FailsOverSocket}
use Rattle.asking.specs.Recalled.{evidence_again}
use Rattle.asking.specs.declared.asker.Asker.{Asker}
use Rattle.runs.specs.RunFaults.{IsFaultOfState, IsRunFault}
use Rattle.asking.specs.Reports.{report_of, told_after, Report}
use Rattle.runs.specs.Runs.{emptied}
use Rattle.runs.specs.Settling.{settled_line, settled_text, IsSettling, Settles, SettlesPart}
use Rattle.asking.specs.declared.said.Said.{Said}
use Rattle.asking.specs.declared.said.TheConstants.{CAUGHT}
use Rattle.runs.proofs.Faulty.{beginning_with}
use Rattle.runs.proofs.Ran.{after_none}

-- a run of `ask` that settles a name
module _ (options : AskOptions) (input : Option (List ℕ)) (name : List ℕ) (is : IsSettling options name) (old new : Option (List ℕ)) where
  pub settled_runs : (Clock : Type 0) {E : Type 0} (result : Result ℕ E) → IfOk result (λ status. Settles name status old new) → IfOk result (λ status. AsksOverSocket Clock options input status old new)
  settled_runs Clock (Ok status) settles = inl (name, is, settles)
  settled_runs Clock (Err why) settles = tt

  pub settled_fails : (Clock : Type 0) {A : Type 0} (result : Result A ProgramFault) → OnErr result (SettlesPart name old new) → IfErr result (λ fault. FailsOverSocket Clock options input fault old new)
  settled_fails Clock (Ok done) part = tt
  settled_fails Clock (Err why) part = inr (inl (name, is, part))

  pub settled_faults : {A : Type 0} (result : Result A ProgramFault) → IfErr result IsFaultOfState → IfErr result (IsRunFault options input)
  settled_faults (Ok done) fault = tt
  settled_faults (Err why) fault = beginning_with _ _ _ why (inl (is.0, fault))

-- of a beginning of a text some is written, so of the text
pub some_beginning : (old new : Option (List ℕ)) (text rest whole : List ℕ) → whole ≡ text ++ rest → WritesSome old new text → WritesSome old new whole
some_beginning old new text rest whole is (more, (front, parts, appends)) =
    (more ++ rest, (front, is ∙ ap (λ (xs : List ℕ). xs ++ rest) parts ∙ append_assoc front more rest, appends))

-- what is said is a beginning of what is told of the name, with the status of the evidence
abbrev pub IsPart : List ℕ → List ℕ → ℕ → Type 0
IsPart name text status = (known : Memory) × (count : ℕ) × (rest : List ℕ) × (settled_text known name count ≡ text ++ rest) × (status ≡ (evidence_again known).status)

pub part_of_none : (name : List ℕ) (said : Said) → report_of said ≡ emptied 0 → IsPart name said.text.items said.status
part_of_none name said none = (nothing, 0, settled_text nothing name 0, sym (ap (λ (r : Report). r.lines ++ settled_text nothing name 0) none), ap (λ (r : Report). r.status) none)

pub part_of_evidence : (name : List ℕ) (known : Memory) (said : Said) → report_of said ≡ evidence_again known → IsPart name said.text.items said.status
part_of_evidence name known said told = (known, 0, settled_line name 0, sym (ap (λ (r : Report). r.lines ++ settled_line name 0) told), ap (λ (r : Report). r.status) told)

pub part_of_all : (name : List ℕ) (known : Memory) (count : ℕ) (said : Said) → said.text.items ≡ settled_text known name count → said.status ≡ (evidence_again known).status → IsPart name said.text.items said.status
part_of_all name known count said is same = (known, count, [], sym is ∙ sym (append-nil said.text.items), same)

-- so much of what is told of the name is written, all or some, and the status is that of the evidence
abbrev pub Wrote : (Option (List ℕ) → Option (List ℕ) → List ℕ → Type 0) → List ℕ → ℕ → Option (List ℕ) → Option (List ℕ) → Type 0
Wrote Writes name status old new = (known : Memory) × (count : ℕ) × (status ≡ (evidence_again known).status) × Writes old new (settled_text known name count)

pub wrote_all : (name text : List ℕ) (status : ℕ) (old new : Option (List ℕ)) → (known : Memory) × (count : ℕ) × (text ≡ settled_text known name count) × (status ≡ (evidence_again known).status)
    → Appends old new text → Wrote Appends name status old new
wrote_all name text status old new (known, count, is, same) appends = (known, count, same, subst (λ (xs : List ℕ). Appends old new xs) is appends)

pub wrote_behind : (name : List ℕ) (told : Said) (status : ℕ) (old new : Option (List ℕ)) (said : Said) → (report_of said ≡ emptied 0 → IsPart name told.text.items told.status) → status ≡ told.status
    → WritesSome old new told.text.items → report_of said ≡ emptied 0 → Wrote WritesSome name status old new
wrote_behind name told status old new said part same some none =
    let (known, count, rest, is, of) = part none in
    (known, count, same ∙ of, some_beginning old new told.text.items rest (settled_text known name count) is some)

-- and so a run ends that had told nothing before
module _ (name : List ℕ) (status : ℕ) (old new : Option (List ℕ)) (said : Said) (none : report_of said ≡ emptied 0) where
  pub settles_so : {A E : Type 0} (settled : Result A E) (result : Result ℕ E) → OnOk settled (report_of said ≡ emptied 0 → Wrote Appends name status old new)
      → OnErr settled (report_of said ≡ emptied 0 → Wrote WritesSome name status old new) → IfOk result (λ given. (given ≡ status) × OnErr settled (CAUGHT ≤ status)) → IfOk result (λ given. Settles name given old new)
  settles_so (Ok done) (Ok given) all some (is, most) = let (known, count, same, appends) = all none in (known, count, is ∙ same, inl appends)
  settles_so (Err why) (Ok given) all some (is, most) = let (known, count, same, part) = some none in (known, count, is ∙ same, inr (subst (λ (n : ℕ). CAUGHT ≤ n) (sym is) most, part))
  settles_so settled (Err why) all some ends = tt

  pub settles_part : {A E : Type 0} (settled : Result A E) (result : Result ℕ E) → OnErr settled (report_of said ≡ emptied 0 → Wrote WritesSome name status old new)
      → IfErr result (λ fault. (settled ≡ Err fault) × (status < CAUGHT)) → OnErr result (SettlesPart name old new)
  settles_part (Ok done) (Err why) some (is, low) = absurd cc
  settles_part (Err fault) (Err why) some (is, low) = let (known, count, same, part) = some none in (known, count, subst (λ (n : ℕ). n < CAUGHT) same low, part)
  settles_part settled (Ok given) some ends = tt

-- the fault is that of what was done
pub settles_fault : {A : Type 0} (settled : Result A ProgramFault) (result : Result ℕ ProgramFault) (status : ℕ) → IfErr settled IsFaultOfState → IfErr result (λ fault. (settled ≡ Err fault) × (status < CAUGHT)) → IfErr result IsFaultOfState
settles_fault settled (Ok given) status fault ends = tt
settles_fault settled (Err why) status fault (is, low) = subst (λ (r : Result _ ProgramFault). IfErr r IsFaultOfState) is fault

-- what was told is what is remembered, behind nothing
pub recalled : (known : Memory) (first now last : Said) → report_of first ≡ emptied 0 → report_of now ≡ report_of first → report_of last ≡ told_after (report_of now) (evidence_again known) → report_of last ≡ evidence_again known
recalled known first now last none same told = told ∙ ap (λ (r : Report). told_after r (evidence_again known)) (same ∙ none) ∙ after_none (evidence_again known)

-- and it is what the state remembers that was loaded
pub recalled_in : {H V S : Type 0} (Before After : List Act → Type 0) (asker : Asker H V S) (state after : Option State) (last : Said) → HasLoaded Before After asker state → after ≡ state
    → report_of last ≡ evidence_again asker.known → IfSome after (λ state. report_of last ≡ evidence_again state.memory)
recalled_in Before After asker None after last loaded same told = absurd loaded
recalled_in Before After asker (Some state) after last loaded same told =
    subst (λ (s : Option State). IfSome s (λ state. report_of last ≡ evidence_again state.memory)) (sym same) (told ∙ ap evidence_again (sym loaded.1))

-- where nothing is remembered, there is no evidence
pub none_caught : (evidence_again nothing).status < CAUGHT
none_caught = omega arith

again-same : (one other : Memory) → one.evidence ≡ other.evidence → evidence_again one ≡ evidence_again other
again-same one other same = ap (λ (evidence : List (List ℕ)). evidence_again (record { promises = []; marks = []; finals = []; alarms = []; evidence = evidence })) same

-- what is told is what the state remembers, and how many alarms were dropped
pub told_of : (name : List ℕ) (Before After : List Act → Type 0) (count : ℕ) (was now : Option State) (out : Option (List ℕ)) (before last : Said) → IfSome was (λ state. report_of before ≡ evidence_again state.memory)
    → DropsAlarms name Before After count was now out → last.text.items ≡ before.text.items ++ settled_line name count → last.status ≡ before.status
    → IfSome now (λ state. (count : ℕ) × (last.text.items ≡ settled_text state.memory name count) × (last.status ≡ (evidence_again state.memory).status))
told_of name Before After count None now out before last knows (none, zero) told same =
    subst (λ (now : Option State). IfSome now (λ state. (count : ℕ) × (last.text.items ≡ settled_text state.memory name count) × (last.status ≡ (evidence_again state.memory).status))) (sym none) tt
told_of name Before After count (Some was) now out before last knows (state, settled, is, settles, counted, evidence, writes) told same =
    let again = knows ∙ sym (again-same state.memory was.memory evidence) in
    subst (λ (now : Option State). IfSome now (λ state. (count : ℕ) × (last.text.items ≡ settled_text state.memory name count) × (last.status ≡ (evidence_again state.memory).status))) (sym is)
    (count, told ∙ ap (λ (r : Report). r.lines ++ settled_line name count) again, same ∙ ap (λ (r : Report). r.status) again)
