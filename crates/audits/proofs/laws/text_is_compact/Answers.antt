use Rattle.audits.proofs.Files.{evidence_is_compact}
use Rattle.audits.proofs.laws.text_is_compact.Goals as goal

pub returns : goal.returns
returns c = evidence_is_compact
