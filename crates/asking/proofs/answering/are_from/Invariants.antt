use Rattle.std.proofs.Common.{◌≡◌, ◌↔◌, ◌+◌, ◌≤◌, length}
use Rattle.std.specs.List.{AllByRecursion}
use Rattle.asking.proofs.answering.are_from.Given as goal

-- all of the roots are so if those that are left are
abbrev pub invariant-loop : goal.invariant-loop
invariant-loop l = record {
  count : l.counter + length l.rest ≡ l.end;
  all : AllByRecursion (λ root. l.from ≤ root.body.epoch) l.initial.rest ↔ AllByRecursion (λ root. l.from ≤ root.body.epoch) l.rest;
}
