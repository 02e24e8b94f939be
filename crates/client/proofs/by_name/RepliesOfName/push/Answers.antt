use Rattle.proofs.specs.Views.{key_stated}
use Rattle.client.proofs.Greatest.{no-final, plain-more}
use Rattle.client.proofs.by_name.RepliesOfName.push.Goals as goal

pub invariant_of-self-in_ok-push-in-Plain-2 : goal.invariant_of-self-in_ok-push-in-Plain-2
invariant_of-self-in_ok-push-in-Plain-2 c =
    let (some, spelled, none) = rw c.in-Plain.is at c.self.invariant in
    rw c.in_ok-push-in-Plain-2.ensures.items
    (plain-more c.in-Plain.list.items c.args.reply spelled none (c.requires.0, c.requires.1) (no-final c.args.reply (key_stated c.args.stated) c.requires c.is_final.result c.is_final.ensures c.if-is_final.false))
