use Rattle.std.proofs.Common.{◌≤◌, length, take}
use Rattle.client.specs.Testing.{IsTestedAmong}
use Rattle.client.proofs.promises.tested.Given as goal

abbrev pub invariant-loop-place : goal.invariant-loop-place
invariant-loop-place l = (l.place ≤ length l.fn.promises) × IsTestedAmong (take l.place l.fn.promises) l.fn.name l.least
