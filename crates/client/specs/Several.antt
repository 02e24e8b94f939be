-- The replies for a name: a plain list until one states a key with Final.
use Rattle.std.specs.Prelude.{◌<◌, List, length}
use Rattle.std.specs.List.{AllByRecursion}
use Rattle.client.specs.Agreements.{SpellsOne}
use Rattle.client.specs.Extremes.{NoneStatesFinal}
use Rattle.client.specs.Finality.{IndexedReply}
use Rattle.client.specs.declared.by_name.PlainOrSeveral.{PlainOrSeveral}
use Rattle.client.specs.declared.by_name.PlainOrSeveral.TheVariants.{Plain, Several}

abbrev pub listed : PlainOrSeveral → List IndexedReply
listed (Plain replies) = replies.items
listed (Several replies) = replies.value

-- of a plain list there is one at least; each can be read, and none states a key with Final
abbrev pub ArePlain : PlainOrSeveral → Type 0
ArePlain (Plain replies) = (0 < length replies.items) × AllByRecursion (λ reply. SpellsOne reply.bytes) replies.items × NoneStatesFinal replies.items
ArePlain (Several replies) = Unit {0}
