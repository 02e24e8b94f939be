use Rattle.std.proofs.Common.{inl}
use Rattle.proofs.specs.Views.{key_stated}
use Rattle.asking.proofs.AlarmLines.{alarm_line}
use Rattle.asking.proofs.laws.told_alarms_are_items.Goals as goal

pub returns : goal.returns
returns c = λ name at epoch found sound. (sound, inl (alarm_line name epoch (key_stated found)))
