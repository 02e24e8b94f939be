use Rattle.proofs.proofs.Sound.{not_spelled}
use Rattle.proofs.specs.Views.{key_stated}
use Rattle.client.proofs.Changed.{change_where, reads-so}
use Rattle.client.proofs.changes.state_a_change.Goals as goal

pub returns-in_default : goal.returns-in_default
returns-in_default c = (λ never. absurd cc, λ is. absurd (not_spelled c.args.reply.now c.in_default.field-0 c.in_default.ensures.exact is.one is.spelled))

pub returns-in_default-read : goal.returns-in_default-read
returns-in_default-read c = (λ never. absurd cc, λ is. absurd (not_spelled c.args.later.now c.in_default-read.field-0 c.in_default-read.ensures.exact is.other is.later_spelled))

pub returns : goal.returns
returns c =
    change_where c.args.reply.now c.args.later.now (c.in-Ok.view, c.in-Ok.ensures.exact) (c.in-Ok-read.later_view, c.in-Ok-read.ensures.exact) (key_stated c.statement.result) (key_stated c.statement-2.result)
    (reads-so c.args.reply.now c.in-Ok.view c.in-Ok.ensures.exact (key_stated c.statement.result) c.statement.ensures) (reads-so c.args.later.now c.in-Ok-read.later_view c.in-Ok-read.ensures.exact (key_stated c.statement-2.result) c.statement-2.ensures)
    c.are_a_change.result c.are_a_change.ensures
