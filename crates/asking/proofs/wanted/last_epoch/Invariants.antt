use Rattle.std.proofs.Common.{◌≡◌, ◌+◌, length}
use Rattle.asking.specs.Wanted.{last_epoch}
use Rattle.asking.proofs.wanted.last_epoch.Given as goal

-- the last of those that are left is the last of all
abbrev pub invariant-loop : goal.invariant-loop
invariant-loop l = record {
  count : l.counter + length l.rest ≡ l.end;
  last : last_epoch l.last l.rest ≡ last_epoch 0 l.initial.rest;
}
