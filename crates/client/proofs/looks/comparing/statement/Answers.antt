use Rattle.std.proofs.Common.{ap, ◌∙◌}
use Rattle.proofs.specs.Accepts.{stated}
use Rattle.proofs.specs.Replies.{Reply}
use Rattle.proofs.proofs.Passing.{one_reply}
use Rattle.proofs.proofs.Sound.{not_spelled}
use Rattle.client.proofs.looks.comparing.statement.Goals as goal

pub unreachable-requires : goal.unreachable-requires
unreachable-requires c = not_spelled c.args.reply.now c.in_default.field-0 c.in_default.ensures.exact c.requires.0 c.requires.1

pub returns : goal.returns
returns c = λ read spelled. c.statement.ensures ∙ ap (λ (r : Reply). stated r.end) (one_reply c.args.reply.now c.in-Ok.view read c.in-Ok.ensures.exact spelled)
