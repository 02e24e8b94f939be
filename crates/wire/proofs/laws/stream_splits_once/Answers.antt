use Rattle.wire.proofs.Splitting.{split_once}
use Rattle.wire.proofs.laws.stream_splits_once.Goals as goal

pub returns : goal.returns
returns c = split_once
