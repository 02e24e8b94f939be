use Rattle.std.proofs.Common.{[]}
use Rattle.files.proofs.Written.{none_told}
use Rattle.files.proofs.telling.tell_error.Goals as goal

pub returns-in_default : goal.returns-in_default
returns-in_default g c = ([], none_told _ _)
