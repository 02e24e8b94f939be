use Rattle.epochs.specs.DirectoryStates.{book, provider}
use Rattle.hub.proofs.Desking.{few_roots, head_turned, roots_turned}
use Rattle.hub.proofs.desk.Desk.read.Goals as goal

pub write_roots-requires-clause-few : goal.write_roots-requires-clause-few
write_roots-requires-clause-few g c =
    few_roots (provider g.H.NodeHash.digest_of g.V.Vuf.value_of g.S.Signer.signature_of c.self.inside.directory) (book g.R.Rng.stream c.self.inside.directory)
    c.in-History.from c.in-History.count c.history.result c.history.ensures.reads

pub returns-in-History : goal.returns-in-History
returns-in-History g c =
    rw (c.in-History.is, ← c.self.view_is)
    (roots_turned g.H.NodeHash.digest_of g.V.Vuf.value_of g.S.Signer.signature_of g.R.Rng.stream g.K.Keeper.kept g.K.Keeper.failed
    c.args.output.now c.self.inside.directory c.self.inside.keeper c.self.inside.token c.in-History.from c.in-History.count _ _ c.history.result c.history.ensures.reads c.write_roots.ensures)

pub returns-in-Head : goal.returns-in-Head
returns-in-Head g c =
    rw (c.in-Head.is, ← c.self-in-Head.view_is)
    (head_turned g.H.NodeHash.digest_of g.V.Vuf.value_of g.S.Signer.signature_of g.R.Rng.stream g.K.Keeper.kept g.K.Keeper.failed
    c.self-in-Head.inside.directory c.self-in-Head.inside.keeper c.self-in-Head.inside.token _ _ c.head.result.now c.head.ensures.head c.write.ensures)
