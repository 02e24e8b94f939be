use Rattle.std.proofs.Common.{arith}
use Rattle.proofs.specs.Views.{key_stated}
use Rattle.client.proofs.Greatest.{no-final}
use Rattle.client.proofs.by_name.RepliesOfName.of.Goals as goal

pub invariant_of-result-2 : goal.invariant_of-result-2
invariant_of-result-2 c =
    rw (c.push_reserved.ensures.items, c.in_ok-list.ensures.items)
    (omega arith, ((c.requires.0, c.requires.1), tt), (no-final c.args.reply (key_stated c.args.stated) c.requires c.is_final.result c.is_final.ensures c.if-is_final.false, tt))
