-- What a memory stands for in contracts.
use Rattle.memory.specs.declared.memory.Memory.TheInside.{Inside}
use Rattle.memory.specs.Memories.{Memory}

abbrev pub memory_seen : Inside → Memory
memory_seen inside = record {
  promises = inside.promises;
  marks = inside.marks.items;
  finals = inside.finals.items;
  alarms = inside.alarms.items;
  evidence = inside.evidence.items;
}
