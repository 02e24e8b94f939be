use Rattle.epochs.specs.DirectoryStates.{book, provider}
use Rattle.epochs.proofs.Running.{head_reads, tells_reads}
use Rattle.epochs.proofs.directory.Directory.read.Goals as goal

pub returns-in-History-clause-ok : goal.returns-in-History-clause-ok
returns-in-History-clause-ok g c =
    rw c.in-History.is
    (tells_reads (provider g.H.NodeHash.digest_of g.V.Vuf.value_of g.S.Signer.signature_of c.args.self.now) (book g.R.Rng.stream c.args.self.now)
    c.in-History.from c.in-History.count c.history.result c.told.result c.history.ensures.reads c.told.ensures)

pub returns-in-Head-clause-ok : goal.returns-in-Head-clause-ok
returns-in-Head-clause-ok g c =
    rw c.in-Head.is
    (head_reads (provider g.H.NodeHash.digest_of g.V.Vuf.value_of g.S.Signer.signature_of c.args.self.now) (book g.R.Rng.stream c.args.self.now)
    c.head.result.now c.copied.result c.copied.ensures c.head.ensures.head)
