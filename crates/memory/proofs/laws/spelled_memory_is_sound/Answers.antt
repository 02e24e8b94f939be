use Rattle.memory.proofs.Sound.{spelled-once, spelled-sound}
use Rattle.memory.proofs.laws.spelled_memory_is_sound.Goals as goal

pub returns-clause-sound : goal.returns-clause-sound
returns-clause-sound c = spelled-sound

pub returns-clause-once : goal.returns-clause-once
returns-clause-once c = spelled-once
