use Rattle.std.proofs.Common.{refl}
use Rattle.std.specs.Fmt.{digits}
use Rattle.wire.specs.Frames.{read_frame}
use Rattle.wire.specs.Requests.{read_request}
use Rattle.encoding.specs.Reading.{read_counted}
use Rattle.hex.specs.Hex.{encode_with, decode_pairs}
use Rattle.play.proofs.worked.lines_that_stop.Goals as goal

pub returns-clause-lines : goal.returns-clause-lines
unfolding read_frame read_request read_counted encode_with decode_pairs digits
returns-clause-lines c = refl

pub returns-clause-long_key : goal.returns-clause-long_key
unfolding read_frame read_request read_counted encode_with decode_pairs digits
returns-clause-long_key c = refl

pub returns-clause-long : goal.returns-clause-long
unfolding read_frame read_request read_counted encode_with decode_pairs digits
returns-clause-long c = refl

pub returns-clause-place : goal.returns-clause-place
unfolding read_frame read_request read_counted encode_with decode_pairs digits
returns-clause-place c = λ index_of salts. refl

pub returns-clause-unfinished : goal.returns-clause-unfinished
unfolding read_frame read_request read_counted encode_with decode_pairs digits
returns-clause-unfinished c = λ salts. refl
