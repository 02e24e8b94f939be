-- What a reply shows of a promise, as it is told.
use Rattle.std.specs.Prelude.{◌≡◌, ℕ, Bool, true, false, List, Result, Ok, Err, codes}
use Rattle.auditor.specs.declared.evidence.Evidence.TheVariants as evidence
use Rattle.audits.specs.Files.{evidence_text}
use Rattle.client.specs.Clients.{Client}
use Rattle.client.specs.Dues.{Dues}
use Rattle.client.specs.declared.due.Due.{Due}
use Rattle.client.specs.declared.due.Due.TheVariants.{Kept, Broken, OtherIndex}
use Rattle.client.specs.declared.client_refusal.Refusal.{Refusal}
use Rattle.asking.specs.declared.said.Said.{Said}
use Rattle.asking.specs.declared.said.TheConstants.{OTHER_INDEX}
use Rattle.asking.specs.Refused.{client_refuses, refuses_text}
use Rattle.asking.specs.Reports.{Report, Tells, caught, refused, silent}

-- nothing of one that was kept, and evidence of one that was broken
abbrev pub due_told : Result Due Refusal → Report
due_told (Ok Kept) = silent
due_told (Ok (Broken broken)) = caught (evidence_text (evidence.Broken broken))
due_told (Ok OtherIndex) = refused (refuses_text (codes "client refuses promise") OTHER_INDEX)
due_told (Err why) = client_refuses (codes "client refuses proof") why

-- of a reply that came for a monitor only the evidence
abbrev pub shown_told : Result Due Refusal → Report
shown_told (Ok (Broken broken)) = caught (evidence_text (evidence.Broken broken))
shown_told (Ok Kept) = silent
shown_told (Ok OtherIndex) = silent
shown_told (Err why) = silent

-- whether it was kept
abbrev pub was_kept : Result Due Refusal → Bool
was_kept (Ok Kept) = true
was_kept (Ok (Broken broken)) = false
was_kept (Ok OtherIndex) = false
was_kept (Err why) = false

abbrev pub TellsDue : (List ℕ → List ℕ) → (List ℕ → List ℕ → List ℕ → Type 0) → Client → List ℕ → List ℕ → Said → Bool → Said → Client → Type 0
TellsDue hash accepted before name reply said kept now after =
    (due : Result Due Refusal) × Dues hash accepted before name reply due after × (kept ≡ was_kept due) × Tells said (due_told due) now
