use Rattle.std.proofs.Common.{sym, ◌∙◌}
use Rattle.epochs.proofs.Changing.{index_alone}
use Rattle.epochs.proofs.directory.Directory.why_taken.Goals as goal

pub returns : goal.returns
returns g c = index_alone _ _ _ c.requires (sym c.standing-shown.ensures.shown ∙ c.if-shown.false) (sym c.standing-shown.ensures.waits ∙ c.if-waits.false)
