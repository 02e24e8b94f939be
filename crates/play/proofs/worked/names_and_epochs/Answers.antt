use Rattle.std.proofs.Common.{refl}
use Rattle.std.specs.Fmt.{digits}
use Rattle.wire.specs.Frames.{read_frame}
use Rattle.wire.specs.Requests.{read_request}
use Rattle.encoding.specs.Reading.{read_counted}
use Rattle.hex.specs.Hex.{encode_with, decode_pairs}
use Rattle.play.proofs.worked.names_and_epochs.Goals as goal

pub returns-clause-words_of_lines : goal.returns-clause-words_of_lines
unfolding read_frame read_request read_counted encode_with decode_pairs digits
returns-clause-words_of_lines c = λ index_of salts. refl

pub returns-clause-old_epochs : goal.returns-clause-old_epochs
unfolding read_frame read_request read_counted encode_with decode_pairs digits
returns-clause-old_epochs c = λ salts. refl
