use Rattle.std.proofs.Common.{refl}
use Rattle.std.specs.Fmt.{digits}
use Rattle.wire.specs.Frames.{read_frame}
use Rattle.wire.specs.Requests.{read_request}
use Rattle.encoding.specs.Reading.{read_counted}
use Rattle.hex.specs.Hex.{encode_with, decode_pairs}
use Rattle.play.proofs.worked.session_scripts.Goals as goal

pub returns-clause-two_sessions : goal.returns-clause-two_sessions
unfolding read_frame read_request read_counted encode_with decode_pairs digits
returns-clause-two_sessions c = λ salts. refl

pub returns-clause-refusals_in_frames : goal.returns-clause-refusals_in_frames
unfolding read_frame read_request read_counted encode_with decode_pairs digits
returns-clause-refusals_in_frames c = λ salts. refl

pub returns-clause-only_the_operator_closes : goal.returns-clause-only_the_operator_closes
unfolding read_frame read_request read_counted encode_with decode_pairs digits
returns-clause-only_the_operator_closes c = λ index_of salts. refl
