use Rattle.std.proofs.Common.{◌≡◌, ◌+◌, ◌≤◌, ◌++◌, drop, length, vec_capacity, vec_len}
use Rattle.std.specs.List.{flat_map}
use Rattle.rootchain.specs.RootLists.{root_list_bytes}
use Rattle.rootchain.specs.SignedRoots.{signed_root_bytes}
use Rattle.rootchain.proofs.root_list.write_list.Given as goal

abbrev pub invariant-loop-root : goal.invariant-loop-root
invariant-loop-root l =
    (l.output.items ++ flat_map signed_root_bytes (drop l.root-index l.roots) ≡ l.fn.output.items ++ root_list_bytes l.roots)
    × (vec_len l.output + length (flat_map signed_root_bytes (drop l.root-index l.roots)) ≤ vec_capacity l.output)
    × (vec_capacity l.fn.output ≤ vec_capacity l.output)
