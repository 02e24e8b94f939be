use Rattle.commands.specs.Operations.{Promise}
use Rattle.epochs.specs.Replied.{promised}
use Rattle.hub.proofs.Desking.{read_turned}
use Rattle.hub.proofs.desk.Desk.promise.Goals as goal

pub returns : goal.returns
returns g c =
    rw (← c.self.view_is)
    (read_turned g.H.NodeHash.digest_of g.V.Vuf.value_of g.S.Signer.signature_of g.R.Rng.stream g.K.Keeper.kept g.K.Keeper.failed
    c.self.inside.directory c.self.inside.keeper c.self.inside.token (Promise c.args.name.now) _ c.promise.new.self _ (promised c.promise.result) c.promise.ensures.reads c.promise.ensures.stays c.promise.ensures.keys c.write_promise.ensures)
