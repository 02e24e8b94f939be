use Rattle.std.proofs.Common.{List, ◌≤◌, ◌+◌, ◌*◌}
use Rattle.rootchain.specs.declared.signed_root.SignedRoot.{SignedRoot}
use Rattle.coniks.proofs.Listing.{AreBehind}
use Rattle.coniks.proofs.hearing.place_roots.Given as goal

abbrev pub invariant-loop-n : goal.invariant-loop-n
invariant-loop-n l = ((done : List SignedRoot) × AreBehind l.fn.list l.fn.parts done l.list l.n l.start l.parts) × (l.start ≤ 2 + 404 * l.n)
