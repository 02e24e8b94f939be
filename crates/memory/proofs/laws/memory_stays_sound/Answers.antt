use Rattle.memory.proofs.Sound.{leaves-sound, settles-sound, taken-sound}
use Rattle.memory.proofs.laws.memory_stays_sound.Goals as goal

pub returns-clause-takes : goal.returns-clause-takes
returns-clause-takes c = taken-sound

pub returns-clause-leaves : goal.returns-clause-leaves
returns-clause-leaves c = leaves-sound

pub returns-clause-settles : goal.returns-clause-settles
returns-clause-settles c = settles-sound
