use Rattle.std.proofs.Common.{arith}
use Rattle.proofs.specs.Views.{key_stated}
use Rattle.client.proofs.Greatest.{again, no-final}
use Rattle.client.proofs.extremes.Extremes.with.Goals as goal
use Rattle.client.proofs.extremes.Extremes.with.Goals.{then-is_final+in_ok-earliest, else-is_final+in_ok-earliest-2}

pub returns : goal.returns
returns c = λ before are. (
  c.in_ok-latest.ensures.latest before c.epoch.ensures.value are.0,
  elim c.if-is_final.branch [
    | then-is_final+in_ok-earliest w ↦
        let own = w.epoch-then-is_final.ensures.value in
        rw w.earliest-is (w.in_ok-earliest.ensures.earliest before (omega (arith, own)) (key_stated c.args.stated, c.requires.stated, (rw c.is_final.ensures at w.if-is_final.true)) are.1)
    | else-is_final+in_ok-earliest-2 w ↦
        rw w.earliest-is (again c.args.reply.now (λ is. no-final c.args.reply.now (key_stated c.args.stated) c.requires.stated c.is_final.result c.is_final.ensures w.if-is_final.false is.1) are.1 _ w.in_ok-earliest-2.ensures)
  ],
)
