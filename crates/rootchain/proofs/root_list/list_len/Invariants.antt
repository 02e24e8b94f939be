use Rattle.std.proofs.Common.{◌≡◌, ◌+◌, ◌*◌, ◌≤◌, length, take}
use Rattle.std.specs.List.{flat_map}
use Rattle.rootchain.specs.SignedRoots.{signed_root_bytes}
use Rattle.rootchain.specs.declared.signed_root.TheConstants.{MAX_SIGNED_ROOT_LEN}
use Rattle.rootchain.proofs.root_list.list_len.Given as goal

abbrev pub invariant-loop-root : goal.invariant-loop-root
invariant-loop-root l = (l.len ≡ 2 + length (flat_map signed_root_bytes (take l.root-index l.roots))) × (l.len ≤ 2 + MAX_SIGNED_ROOT_LEN * l.root-index)
