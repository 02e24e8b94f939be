use Rattle.std.proofs.Common.{◌≡◌, true, rules}
use Rattle.std.specs.Str.{bytes_eq}
use Rattle.epochs.specs.Replied.{last}
use Rattle.hub.proofs.Desking.{turn_turned}
use Rattle.hub.proofs.desk.Desk.turn.Goals as goal

pub returns : goal.returns
returns g c =
    let same : bytes_eq c.args.token.now c.self.inside.token ≡ true = search rules in
    rw (← c.self.view_is)
    (turn_turned g.H.NodeHash.digest_of g.V.Vuf.value_of g.S.Signer.signature_of g.R.Rng.stream g.K.Keeper.kept g.K.Keeper.failed
    c.self.inside.directory c.self.inside.keeper c.self.inside.token c.args.token.now c.args.epoch c.args.nonce _ c.turn.new.self c.turn.new.keeper _ (last c.turn.result) same c.turn.ensures.turn c.turn.ensures.keys c.write_root.ensures)
