use Rattle.std.proofs.Common.{sym, ◌∙◌}
use Rattle.proofs.proofs.laws.reply_has_one_spelling.Goals as goal

pub returns : goal.returns
returns c first second reply one two = one.0 ∙ sym two.0
