use Rattle.std.proofs.Common.{refl}
use Rattle.std.specs.Fmt.{digits}
use Rattle.wire.specs.Frames.{read_frame}
use Rattle.wire.specs.Requests.{read_request}
use Rattle.encoding.specs.Reading.{read_counted}
use Rattle.hex.specs.Hex.{encode_with, decode_pairs}
use Rattle.play.proofs.worked.worked_scripts.Goals as goal

pub returns-clause-two_epochs : goal.returns-clause-two_epochs
unfolding read_frame read_request read_counted encode_with decode_pairs digits
returns-clause-two_epochs c = λ index_of salts. refl

pub returns-clause-promises : goal.returns-clause-promises
unfolding read_frame read_request read_counted encode_with decode_pairs digits
returns-clause-promises c = λ index_of salts. refl

pub returns-clause-changes : goal.returns-clause-changes
unfolding read_frame read_request read_counted encode_with decode_pairs digits
returns-clause-changes c = λ index_of salts. refl

pub returns-clause-greatest_epoch : goal.returns-clause-greatest_epoch
unfolding read_frame read_request read_counted encode_with decode_pairs digits
returns-clause-greatest_epoch c = λ index_of salts. refl

pub returns-clause-limits_of_histories : goal.returns-clause-limits_of_histories
unfolding read_frame read_request read_counted encode_with decode_pairs digits
returns-clause-limits_of_histories c = λ index_of salts. refl

pub returns-clause-half_messages : goal.returns-clause-half_messages
unfolding read_frame read_request read_counted encode_with decode_pairs digits
returns-clause-half_messages c = λ index_of salts. refl

pub returns-clause-failed_streams : goal.returns-clause-failed_streams
unfolding read_frame read_request read_counted encode_with decode_pairs digits
returns-clause-failed_streams c = λ index_of salts. refl

pub returns-clause-messages_in_one_piece : goal.returns-clause-messages_in_one_piece
unfolding read_frame read_request read_counted encode_with decode_pairs digits
returns-clause-messages_in_one_piece c = λ index_of salts. refl

pub returns-clause-messages_byte_by_byte : goal.returns-clause-messages_byte_by_byte
unfolding read_frame read_request read_counted encode_with decode_pairs digits
returns-clause-messages_byte_by_byte c = λ index_of salts. refl
