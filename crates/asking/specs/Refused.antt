-- What the client refuses, as it is told.
use Rattle.std.specs.Prelude.{ℕ, List, ◌++◌, codes, decimal}
use Rattle.auditor.specs.declared.evidence.Evidence.TheVariants as evidence
use Rattle.audits.specs.Files.{evidence_text}
use Rattle.client.specs.Refusals.{client_refusal_number}
use Rattle.client.specs.declared.client_refusal.Refusal.{Refusal}
use Rattle.client.specs.declared.client_refusal.Refusal.TheVariants.{Root, Proof, UnknownRoot, RootDiffers, Memory, NoPromise}
use Rattle.asking.specs.declared.said.TheConstants.{OTHER_REPLY}
use Rattle.asking.specs.Reports.{Report, caught, refused, silent, told_after}

-- that the client refuses a root, a promise, a proof or a reply, and the number of the refusal
abbrev pub refuses_text : List ℕ → ℕ → List ℕ
refuses_text what number = what ++ codes " " ++ decimal number

-- a reply that does not answer what was asked
abbrev pub other_reply : Report
other_reply = refused (refuses_text (codes "client refuses reply") OTHER_REPLY)

-- the roots of a refusal that is evidence
abbrev pub evidence_told : Refusal → Report
evidence_told (RootDiffers roots) = caught (evidence_text (evidence.Root roots))
evidence_told (Root why) = silent
evidence_told (Proof why) = silent
evidence_told UnknownRoot = silent
evidence_told Memory = silent
evidence_told NoPromise = silent

-- a refusal of the client, behind its evidence
abbrev pub client_refuses : List ℕ → Refusal → Report
client_refuses what why = told_after (evidence_told why) (refused (refuses_text what (client_refusal_number why)))
