use Rattle.std.proofs.Common.{◌≡◌, ◌<◌, ◌≤◌, length, take}
use Rattle.client.proofs.several.Several.of_all.Given as goal

abbrev pub invariant-loop-n : goal.invariant-loop-n
invariant-loop-n l = (l.replies ≡ take l.n l.list) × (0 < l.n) × (l.n ≤ length l.list)
