-- The text of a commitment opens to one salt, name and key.
use Rattle.std.proofs.Common.{◌≡◌, ℕ, List, [], ◌∷◌, ◌++◌, length, Option, Some, None, refl, sym, ap, ap₂, ◌∙◌, append_assoc, arith}
use Rattle.encoding.specs.Forms.{counted_bytes}
use Rattle.encoding.specs.Policies.{policy_byte, policy_bytes, version_of}
use Rattle.encoding.specs.declared.bound_key.BoundKey.{BoundKey}
use Rattle.encoding.specs.declared.policy.Policy.{Policy}
use Rattle.encoding.specs.declared.policy.Policy.TheVariants.{Open, Final}
use Rattle.encoding.proofs.Beginnings.{same_beginning, same_number_bytes, same_counted}
use Rattle.commit.specs.Commitments.{EqualTextsOpenAlike}

-- what stands behind the policy
abbrev rest : List ℕ → List ℕ → List ℕ → List ℕ
rest salt name key = salt ++ (counted_bytes name ++ counted_bytes key)

regrouped : (front salt name key : List ℕ) → front ++ salt ++ counted_bytes name ++ counted_bytes key ≡ front ++ rest salt name key
regrouped front salt name key =
    append_assoc (front ++ salt) (counted_bytes name) (counted_bytes key) ∙ append_assoc front salt (counted_bytes name ++ counted_bytes key)

same_policy : (policy other : Option Policy) (us vs : List ℕ) → (0x43 ∷ version_of policy ∷ [] ++ policy_bytes policy) ++ us ≡ (0x43 ∷ version_of other ∷ [] ++ policy_bytes other) ++ vs → (policy ≡ other) × (us ≡ vs)
same_policy None None us vs e = (refl, cc)
same_policy None (Some other) us vs e = absurd (let versions : version_of None ≡ version_of (Some other) = cc in omega (arith, versions))
same_policy (Some policy) None us vs e = absurd (let versions : version_of (Some policy) ≡ version_of None = cc in omega (arith, versions))
same_policy (Some policy) (Some other) us vs e = let bytes : policy_byte policy ≡ policy_byte other = cc in (ap (λ (p : Policy). Some p) (one_byte policy other bytes), cc)
  where
    one_byte : (p q : Policy) → policy_byte p ≡ policy_byte q → p ≡ q
    one_byte Open Open same = refl
    one_byte Open Final same = absurd (omega (arith, same))
    one_byte Final Open same = absurd (omega (arith, same))
    one_byte Final Final same = refl

abbrev made : List ℕ → Option Policy → BoundKey
made value policy = record { value = value; policy = policy }

pub equal_texts_open_alike : EqualTextsOpenAlike
equal_texts_open_alike salt other_salt name other_name key other_key salts small other_small e =
    let front : BoundKey → List ℕ = λ k. 0x43 ∷ version_of k.policy ∷ [] ++ policy_bytes k.policy in
    let inside = same_policy key.policy other_key.policy (rest salt name key.value) (rest other_salt other_name other_key.value)
    (sym (regrouped (front key) salt name key.value) ∙ e ∙ regrouped (front other_key) other_salt other_name other_key.value) in
    let after_salt = same_beginning salt other_salt (counted_bytes name ++ counted_bytes key.value) (counted_bytes other_name ++ counted_bytes other_key.value) salts inside.1 in
    let after_name = same_counted name other_name (counted_bytes key.value) (counted_bytes other_key.value) small other_small after_salt.1 in
    let keys = same_number_bytes 2 (length key.value) (length other_key.value) key.value other_key.value after_name.1 in
    (after_salt.0, after_name.0, ap₂ made keys.1 inside.0)
