use Rattle.std.proofs.Common.{◌≡◌, ◌++◌, ◌+◌, length}
use Rattle.asking.specs.Stopping.{epochs_text}
use Rattle.asking.proofs.Placed.{IsPassing}
use Rattle.asking.proofs.placing.push_epochs.Given as goal

-- the epochs so far, and those of the roots that are left, are all the epochs; and where it stops at one of
-- those that are left, it stops at one of all
abbrev pub invariant-loop : goal.invariant-loop
invariant-loop g l = record {
  count : l.counter + length l.rest ≡ l.end;
  text : l.line.items ++ epochs_text l.rest ≡ l.initial.line.items ++ epochs_text l.initial.rest;
  passing : IsPassing g.H.NodeHash.digest_of g.S.Verifier.verified l.client.chain l.initial.rest l.rest;
}
