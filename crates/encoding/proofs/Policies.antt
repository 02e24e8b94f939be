-- Policies, their names and their bytes.
use Rattle.std.proofs.Common.{◌≡◌, ◌≢◌, ◌≤◌, ℕ, List, length, Option, Some, None, codes, lit≤}
use Rattle.encoding.specs.Policies.{policy_bytes, policy_word}
use Rattle.encoding.specs.declared.policy.Policy.{Policy}
use Rattle.encoding.specs.declared.policy.Policy.TheVariants.{Open, Final}

pub no_name : (word : List ℕ) → word ≢ codes "open" → word ≢ codes "final" → (policy : Policy) → word ≢ policy_word policy
no_name word one other Open is = one is
no_name word one other Final is = other is

pub one_byte : (policy : Option Policy) → length (policy_bytes policy) ≤ 1
one_byte None = lit≤ tt
one_byte (Some policy) = lit≤ tt
