use Rattle.commands.specs.Operations.{question}
use Rattle.epochs.specs.DirectoryStates.{book, provider}
use Rattle.epochs.proofs.Running.{query_turn}
use Rattle.epochs.proofs.directory.Directory.answer.Goals as goal

pub returns-in-Query-clause-ok : goal.returns-in-Query-clause-ok
returns-in-Query-clause-ok g c =
    rw c.in-Query.is
    (query_turn (provider g.H.NodeHash.digest_of g.V.Vuf.value_of g.S.Signer.signature_of c.args.self.now) g.K.Keeper.kept g.K.Keeper.failed
    (book g.R.Rng.stream c.args.self.now) (book g.R.Rng.stream c.read.new.self) (question c.in-Query.query) c.args.keeper.now c.read.result c.read.ensures.stays c.read.ensures.ok)
