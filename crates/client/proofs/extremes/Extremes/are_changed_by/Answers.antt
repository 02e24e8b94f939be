use Rattle.std.proofs.Common.{arith, refl}
use Rattle.proofs.specs.Views.{key_stated}
use Rattle.client.specs.Extremes.{below_last}
use Rattle.client.proofs.Greatest.{changes-among, none-earlier}
use Rattle.client.proofs.extremes.Extremes.are_changed_by.Goals as goal

pub returns-then-self-number : goal.returns-then-self-number
returns-then-self-number c = λ replies spelled are.
    let e = c.epoch-number.ensures.value in
    let low = c.if-self-number.true in
    none-earlier replies c.args.reply.now c.args.self.now.earliest are.1 c.epoch-number.ensures.fits (below_last c.args.reply.now.epoch) refl (omega (arith, e, low))

pub returns : goal.returns
returns c = λ replies spelled are.
    let e = c.epoch-number.ensures.value in
    changes-among replies spelled c.args.reply.now (key_stated c.args.stated) c.requires.stated c.args.self.now.earliest are.1 c.epoch-number.ensures.fits _ (omega (arith, e)) c.has_other_above.result c.has_other_above.ensures
