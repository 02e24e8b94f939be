use Rattle.std.proofs.Common.{◌≡◌, ◌↔◌, ◌+◌, length}
use Rattle.asking.specs.Wanted.{FollowOn}
use Rattle.asking.proofs.wanted.follow_on.Given as goal

-- all of the roots do if those that are left do
abbrev pub invariant-loop : goal.invariant-loop
invariant-loop g l = record {
  count : l.counter + length l.rest ≡ l.end;
  all : FollowOn g.H.NodeHash.digest_of l.initial.last l.initial.rest ↔ FollowOn g.H.NodeHash.digest_of l.last l.rest;
}
