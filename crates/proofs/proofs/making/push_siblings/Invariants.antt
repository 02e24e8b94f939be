use Rattle.std.proofs.Common.{◌≡◌, ◌+◌, ◌*◌, ◌++◌, drop, flat_map, length}
use Rattle.std.specs.List.{AllByRecursion}
use Rattle.encoding.specs.Bytes.{Is32Bytes}
use Rattle.proofs.specs.Replies.{sibling_bytes}
use Rattle.proofs.proofs.making.push_siblings.Given as goal

-- the text so far, and the siblings that are left, are all the text; what is not left are hashes
abbrev pub invariant-loop-sibling : goal.invariant-loop-sibling
invariant-loop-sibling l = (l.text ++ flat_map (λ sibling. sibling) (drop l.sibling-index l.siblings) ≡ l.fn.text ++ sibling_bytes l.siblings)
    × (length l.text ≡ length l.fn.text + 2 + 32 * l.sibling-index)
    × (AllByRecursion Is32Bytes (drop l.sibling-index l.siblings) → AllByRecursion Is32Bytes l.siblings)
