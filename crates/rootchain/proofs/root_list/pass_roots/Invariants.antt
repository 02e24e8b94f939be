use Rattle.std.proofs.Common.{◌-◌, ◌≤◌}
use Rattle.rootchain.proofs.RootLists.{Leads}
use Rattle.rootchain.proofs.root_list.pass_roots.Given as goal

abbrev pub invariant-loop : goal.invariant-loop
invariant-loop l = (l.counter ≤ l.count) × Leads l.count l.fn.cursor (l.count - l.counter) l.cursor
