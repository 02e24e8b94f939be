use Rattle.std.proofs.Common.{◌≡◌}
use Rattle.files.specs.Telling.{file_line}
use Rattle.files.proofs.Written.{some_words}
use Rattle.files.proofs.telling.error_line.Goals as goal

pub returns : goal.returns
returns c = some_words (λ words line. line.items ≡ file_line c.args.begins.now c.args.path.now words) _ _ c.file_line.ensures
