use Rattle.std.proofs.Common.{arith, refl}
use Rattle.proofs.specs.Views.{key_stated}
use Rattle.client.proofs.Greatest.{begun, begun-without, no-final, none-final}
use Rattle.client.proofs.extremes.Extremes.of.Goals as goal
use Rattle.client.proofs.extremes.Extremes.of.Goals.{then-is_final, else-is_final}

pub returns : goal.returns
returns c = λ before none.
    let none-of = none-final c.args.reply.now.index before none in
    let e = c.epoch-2.ensures.value in (
      begun before none c.args.reply.now refl (key_stated c.args.stated) c.requires _ e c.in_ok-of.field-0 c.in_ok-of.ensures,
      elim c.if-is_final.branch [
        | then-is_final w ↦
            let is = w.number-is in
            let own = w.epoch.ensures.value in
            begun before none-of c.args.reply.now (refl, (key_stated c.args.stated, c.requires, (rw c.is_final.ensures at w.if-is_final.true))) (key_stated c.args.stated) c.requires _ (omega (arith, is, own)) c.in_ok-of-2.field-0 c.in_ok-of-2.ensures
        | else-is_final w ↦
            begun-without before none-of c.args.reply.now (λ is. no-final c.args.reply.now (key_stated c.args.stated) c.requires c.is_final.result c.is_final.ensures w.if-is_final.false is.1) (key_stated c.args.stated) c.requires _ w.number-is c.in_ok-of-2.field-0 c.in_ok-of-2.ensures
      ],
    )
