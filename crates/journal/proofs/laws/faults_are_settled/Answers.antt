use Rattle.journal.proofs.Settled.{faults_settled}
use Rattle.journal.proofs.laws.faults_are_settled.Goals as goal

pub returns : goal.returns
returns c index_of signing_key vuf_key salts bytes = faults_settled index_of signing_key vuf_key salts bytes
