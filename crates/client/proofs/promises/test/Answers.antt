use Rattle.std.proofs.Common.{ap, option_copied}
use Rattle.client.proofs.promises.test.Goals as goal

pub returns-in-Ok-clause-tests : goal.returns-in-Ok-clause-tests
returns-in-Ok-clause-tests g c =
    (c.in-Some.root.now, c.in-Ok.accepted.reply, (c.after.ensures.next c.in-Some.root.now).0 (ap option_copied c.in-Some.is), c.in-Ok.ensures.accepted, c.tell.ensures)

pub returns-in-Err-clause-tests : goal.returns-in-Err-clause-tests
returns-in-Err-clause-tests g c = (c.in-Some.root.now, (c.after.ensures.next c.in-Some.root.now).0 (ap option_copied c.in-Some.is), c.in-Err.ensures.refused)
