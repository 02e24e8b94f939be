use Rattle.memory.proofs.SaidLines.{no_epoch}
use Rattle.memory.proofs.reading.one_epoch.Goals as goal

pub returns-in-None : goal.returns-in-None
returns-in-None c = no_epoch c.args.word.now c.requires c.in-None.ensures
