use Rattle.std.proofs.Common.{inl, refl}
use Rattle.coniks.proofs.exports.coniks_read_reply.Goals as goal

pub returns-in-Ok : goal.returns-in-Ok
returns-in-Ok c = inl (c.in-Ok.view, c.in-Ok.ensures.exact, refl, c.of.ensures c.args.reply.now c.in-Ok.ensures.exact)
