use Rattle.audits.proofs.Files.{one_evidence}
use Rattle.audits.proofs.laws.file_is_one_evidence.Goals as goal

pub returns : goal.returns
returns c = one_evidence
