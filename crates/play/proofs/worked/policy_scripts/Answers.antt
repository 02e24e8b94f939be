use Rattle.std.proofs.Common.{refl}
use Rattle.std.specs.Fmt.{digits}
use Rattle.wire.specs.Frames.{read_frame}
use Rattle.wire.specs.Requests.{read_request}
use Rattle.encoding.specs.Reading.{read_counted}
use Rattle.hex.specs.Hex.{encode_with, decode_pairs}
use Rattle.play.proofs.worked.policy_scripts.Goals as goal

pub returns-clause-policies : goal.returns-clause-policies
unfolding read_frame read_request read_counted encode_with decode_pairs digits
returns-clause-policies c = λ index_of salts. refl

pub returns-clause-policies_in_frames : goal.returns-clause-policies_in_frames
unfolding read_frame read_request read_counted encode_with decode_pairs digits
returns-clause-policies_in_frames c = λ index_of salts. refl

pub returns-clause-final_bindings : goal.returns-clause-final_bindings
unfolding read_frame read_request read_counted encode_with decode_pairs digits
returns-clause-final_bindings c = λ salts. refl
