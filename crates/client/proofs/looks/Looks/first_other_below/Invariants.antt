use Rattle.std.specs.Prelude.{option_map}
use Rattle.std.specs.List.{AllByRecursion}
use Rattle.proofs.specs.Views.{key_stated}
use Rattle.client.specs.Agreements.{SpellsOne}
use Rattle.client.proofs.Groups.{Entries}
use Rattle.client.proofs.Others.{items_of, AreAll, IsGoneDown}
use Rattle.client.proofs.looks.Looks.first_other_below.Given as goal

abbrev pub invariant-loop-other : goal.invariant-loop-other
invariant-loop-other l =
    (entries : Entries _) × (all : AreAll items_of l.self entries) × (spelled : AllByRecursion (λ look. SpellsOne look.reply) l.self)
    × IsGoneDown items_of l.self l.place (key_stated l.told) spelled entries all l.other-iterator.iter (option_map (λ reply. reply.now) l.found)
