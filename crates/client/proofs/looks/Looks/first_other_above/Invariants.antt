use Rattle.proofs.specs.Views.{key_stated}
use Rattle.client.proofs.Groups.{from_of, AreGone, Entries}
use Rattle.client.proofs.Others.{items_of, AreAll, States}
use Rattle.client.proofs.looks.Looks.first_other_above.Given as goal

abbrev pub invariant-loop-other : goal.invariant-loop-other
invariant-loop-other l =
    (entries : Entries _) × AreAll items_of l.self entries × AreGone (States items_of (key_stated l.told)) (from_of l.place entries) l.other-iterator
