use Rattle.journal.proofs.Settled.{settled}
use Rattle.journal.proofs.laws.openings_are_settled.Goals as goal

pub returns : goal.returns
returns c index_of signing_key vuf_key salts bytes book other taken count = settled index_of signing_key vuf_key salts bytes book other taken count
