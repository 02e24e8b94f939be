-- What a binding promises (policies are this directory's own). One of version 1 has no policy.
use Rattle.std.specs.Prelude.{ℕ, ◌==◌, if◌then◌else◌, Bool, true, false, List, [], ◌∷◌, Option, Some, None, codes}
use Rattle.std.specs.Str.{bytes_eq}
use Rattle.encoding.specs.declared.policy.Policy.{Policy}
use Rattle.encoding.specs.declared.policy.Policy.TheVariants.{Open, Final}

-- the byte of a policy
abbrev pub policy_byte : Policy → ℕ
policy_byte Open = 1
policy_byte Final = 2

-- the policy of a byte, if there is one
abbrev pub policy_of : ℕ → Option Policy
policy_of byte = if byte == 1 then Some Open else (if byte == 2 then Some Final else None)

-- its name, in lines of text
abbrev pub policy_word : Policy → List ℕ
policy_word Open = codes "open"
policy_word Final = codes "final"

-- the policy of a name, if there is one
abbrev pub policy_named : List ℕ → Option Policy
policy_named word = if bytes_eq word (codes "open") then Some Open else (if bytes_eq word (codes "final") then Some Final else None)

abbrev pub has_policy : Option Policy → Bool
has_policy None = false
has_policy (Some policy) = true

-- a binding with this policy is never changed
abbrev pub is_final : Option Policy → Bool
is_final None = false
is_final (Some Open) = false
is_final (Some Final) = true

-- the version of a form that has a policy, 2, or has none, 1
abbrev pub version : Bool → ℕ
version false = 1
version true = 2

abbrev pub version_of : Option Policy → ℕ
version_of policy = version (has_policy policy)

-- the byte of a policy, where there is one
abbrev pub policy_bytes : Option Policy → List ℕ
policy_bytes None = []
policy_bytes (Some policy) = policy_byte policy ∷ []
