use Rattle.std.proofs.Common.{refl}
use Rattle.std.specs.Fmt.{digits}
use Rattle.wire.specs.Frames.{read_frame}
use Rattle.wire.specs.Requests.{read_request}
use Rattle.encoding.specs.Reading.{read_counted}
use Rattle.hex.specs.Hex.{encode_with, decode_pairs}
use Rattle.play.proofs.worked.long_names.Goals as goal

pub returns : goal.returns
unfolding read_frame read_request read_counted encode_with decode_pairs digits
returns c = record { limits_of_names_and_keys = λ salts. refl }
