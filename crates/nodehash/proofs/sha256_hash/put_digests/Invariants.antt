use Rattle.std.proofs.Common.{◌≡◌, ℕ, ◌+◌, ◌<◌, List, [], length, slice_index_or}
use Rattle.sha2.specs.Sha256.{sha256}
use Rattle.nodehash.proofs.Groups.{IsDigested}
use Rattle.nodehash.proofs.sha256_hash.put_digests.Given as goal

abbrev pub invariant-put : goal.invariant-put
invariant-put l = (length l.out ≡ length l.initial.out)
    × ((texts : List (List ℕ)) → length l.out ≡ length texts → IsDigested sha256 texts l.first l.initial.out
    → ((k : ℕ) → k < length l.digests → l.first + k < length texts → slice_index_or l.digests k [] ≡ sha256 (slice_index_or texts (l.first + k) []))
    → IsDigested sha256 texts (l.first + l.k) l.out)
