use Rattle.wire.proofs.ReadBack.{answers_read, responses_read}
use Rattle.wire.proofs.laws.answers_are_read.Goals as goal

pub returns : goal.returns
returns c = record { answers = answers_read; responses = responses_read }
