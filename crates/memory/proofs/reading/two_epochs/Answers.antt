use Rattle.memory.proofs.SaidLines.{falling, no_first, no_second}
use Rattle.memory.proofs.reading.two_epochs.Goals as goal

pub returns-in_default : goal.returns-in_default
returns-in_default c = no_first c.args.first.now c.args.second.now c.requires c.in_default.ensures

pub returns-in_default-read_number : goal.returns-in_default-read_number
returns-in_default-read_number c = no_second c.args.first.now c.args.second.now c.requires c.in_default-read_number.ensures

pub returns-else-since-epoch : goal.returns-else-since-epoch
returns-else-since-epoch c =
    falling c.args.first.now c.args.second.now c.requires c.in-Some.since c.in-Some-read_number.epoch c.in-Some.ensures c.in-Some-read_number.ensures c.if-since-epoch.false
