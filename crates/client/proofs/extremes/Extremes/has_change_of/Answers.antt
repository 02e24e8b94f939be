use Rattle.proofs.specs.Views.{key_stated}
use Rattle.client.proofs.Greatest.{changed-among, not-final}
use Rattle.client.proofs.extremes.Extremes.has_change_of.Goals as goal

pub returns-then-is_final : goal.returns-then-is_final
returns-then-is_final c = λ replies spelled are.
    changed-among replies spelled c.args.reply.now (key_stated c.args.stated) c.requires.stated c.args.self.now.latest are.0 c.is_final.result c.has_other_above.result c.is_final.ensures
    (λ own states. rw c.epoch.ensures.value at (c.has_other_above.ensures own states)) c.if-is_final.true

pub returns-else-is_final : goal.returns-else-is_final
returns-else-is_final c = λ replies spelled are.
    (λ never. absurd cc, λ is. absurd (not-final replies spelled c.args.reply.now (key_stated c.args.stated) c.requires.stated c.is_final.result c.is_final.ensures c.if-is_final.false is))
