use Rattle.std.proofs.Common.{refl}
use Rattle.std.specs.Fmt.{digits}
use Rattle.wire.specs.Frames.{read_frame}
use Rattle.wire.specs.Requests.{read_request}
use Rattle.encoding.specs.Reading.{read_counted}
use Rattle.hex.specs.Hex.{encode_with, decode_pairs}
use Rattle.play.proofs.worked.monitor_scripts.Goals as goal

pub returns-clause-alarm : goal.returns-clause-alarm
unfolding read_frame read_request read_counted encode_with decode_pairs digits
returns-clause-alarm c = λ index_of salts. refl

pub returns-clause-change_by_another_session : goal.returns-clause-change_by_another_session
unfolding read_frame read_request read_counted encode_with decode_pairs digits
returns-clause-change_by_another_session c = λ index_of salts. refl

pub returns-clause-absence : goal.returns-clause-absence
unfolding read_frame read_request read_counted encode_with decode_pairs digits
returns-clause-absence c = λ index_of salts. refl

pub returns-clause-monitors : goal.returns-clause-monitors
unfolding read_frame read_request read_counted encode_with decode_pairs digits
returns-clause-monitors c = λ salts. refl

pub returns-clause-promise_of_another_session : goal.returns-clause-promise_of_another_session
unfolding read_frame read_request read_counted encode_with decode_pairs digits
returns-clause-promise_of_another_session c = λ index_of salts. refl

pub returns-clause-several_closings_in_one_piece : goal.returns-clause-several_closings_in_one_piece
unfolding read_frame read_request read_counted encode_with decode_pairs digits
returns-clause-several_closings_in_one_piece c = λ salts. refl
