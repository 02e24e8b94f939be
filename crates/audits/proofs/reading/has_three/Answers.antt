use Rattle.std.proofs.Common.{sym, ◌∙◌}
use Rattle.serde_json.proofs.Views.{members_len-members_view}
use Rattle.audits.proofs.Found.{three_members}
use Rattle.audits.proofs.reading.has_three.Goals as goal

pub returns-in-Some : goal.returns-in-Some
returns-in-Some c =
    three_members _ _ c.len.result (rw c.in-Some.is at c.as_object.ensures) (c.len.ensures.len ∙ sym (members_len-members_view c.in-Some.members.now.entries))
