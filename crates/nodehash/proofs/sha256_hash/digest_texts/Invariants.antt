use Rattle.std.proofs.Common.{◌≡◌, ◌+◌, ◌-◌, ◌≤◌, length}
use Rattle.sha2.specs.Sha256.{sha256}
use Rattle.nodehash.proofs.Groups.{IsDigested}
use Rattle.nodehash.proofs.sha256_hash.digest_texts.Given as goal

abbrev pub invariant-eights : goal.invariant-eights
invariant-eights l = (length l.out ≡ length l.texts) × (l.first ≤ length l.texts + 8) × IsDigested sha256 l.texts l.first l.out

abbrev pub invariant-fours : goal.invariant-fours
invariant-fours l = (length l.out ≡ length l.texts) × (l.first ≤ length l.texts + 8) × IsDigested sha256 l.texts l.first l.out

abbrev pub decreases-eights : goal.decreases-eights
decreases-eights l = length l.texts - l.first

abbrev pub decreases-fours : goal.decreases-fours
decreases-fours l = length l.texts - l.first
