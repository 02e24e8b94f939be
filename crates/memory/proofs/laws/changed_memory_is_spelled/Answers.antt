use Rattle.memory.proofs.Recalled.{spells-memory}
use Rattle.memory.proofs.Sound.{leaves-once, leaves-sound, settles-once, settles-sound, spelled-once, spelled-sound, taken-once, taken-sound}
use Rattle.memory.proofs.laws.changed_memory_is_spelled.Goals as goal

pub returns-clause-leaves : goal.returns-clause-leaves
returns-clause-leaves c = λ text before learned after news tested spells takes leaves.
    spells-memory after (leaves-once tested learned after leaves (taken-once news before learned takes (spelled-once text before spells)))
    (leaves-sound tested learned after leaves (taken-sound news before learned takes (spelled-sound text before spells)))

pub returns-clause-settles : goal.returns-clause-settles
returns-clause-settles c = λ text before learned after news name spells takes settles.
    spells-memory after (settles-once name learned after settles (taken-once news before learned takes (spelled-once text before spells)))
    (settles-sound name learned after settles (taken-sound news before learned takes (spelled-sound text before spells)))
