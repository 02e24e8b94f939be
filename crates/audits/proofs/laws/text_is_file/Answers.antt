use Rattle.audits.proofs.Files.{text_is_file}
use Rattle.audits.proofs.laws.text_is_file.Goals as goal

pub returns : goal.returns
returns c = text_is_file
