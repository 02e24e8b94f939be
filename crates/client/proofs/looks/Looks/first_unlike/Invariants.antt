use Rattle.client.proofs.Groups.{Entries}
use Rattle.client.proofs.Others.{items_of, AreAll}
use Rattle.client.proofs.Unlikes.{found_of, IsLeastSoFar}
use Rattle.client.proofs.looks.Looks.first_unlike.Given as goal

abbrev pub invariant-loop-place : goal.invariant-loop-place
invariant-loop-place l =
    (entries : Entries _) × AreAll items_of l.self entries × IsLeastSoFar items_of l.others entries l.place-iterator (found_of l.found)
