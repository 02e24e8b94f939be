-- A key that is asked for and the key that is bound lead back to one another.
use Rattle.std.proofs.Common.{◌≡◌, zero, suc, false, Option, Some, None, refl, arith}
use Rattle.std.specs.Prelude.{is_none}
use Rattle.std.proofs.lemmas.Bool.{ne_eqb}
use Rattle.encoding.specs.Policies.{policy_byte, policy_of}
use Rattle.encoding.specs.declared.bound_key.BoundKey.{BoundKey}
use Rattle.encoding.specs.declared.policy.Policy.{Policy}
use Rattle.encoding.specs.declared.policy.Policy.TheVariants.{Open, Final}
use Rattle.commands.specs.Operations.{asked_key, bound_key, AskedKey}
use Rattle.book.specs.Steps.{bad_policy}

-- the byte of a policy is one
pub policy_again : (policy : Policy) → policy_of (policy_byte policy) ≡ Some policy
policy_again Open = refl
policy_again Final = refl

pub policy_passes : (key : BoundKey) → (bad_policy (asked_key key).1).0 ≡ false
policy_passes key = by key.policy
  where
    by : (policy : Option Policy) → (bad_policy (asked_key (record { value = key.value; policy = policy })).1).0 ≡ false
    by None = refl
    by (Some Open) = refl
    by (Some Final) = refl

pub bound_again : (key : BoundKey) → bound_key (asked_key key) ≡ key
bound_again key = by key.policy
  where
    by : (policy : Option Policy) → bound_key (asked_key (record { value = key.value; policy = policy })) ≡ record { value = key.value; policy = policy }
    by None = refl
    by (Some Open) = refl
    by (Some Final) = refl

pub asked_again : (key : AskedKey) → (bad_policy key.1).0 ≡ false → asked_key (bound_key key) ≡ key
asked_again (value, None) passes = refl
asked_again (value, Some zero) passes = absurd cc
asked_again (value, Some (suc zero)) passes = refl
asked_again (value, Some (suc (suc zero))) passes = refl
asked_again (value, Some (suc (suc (suc byte)))) passes = absurd (no_policy passes)
  where
    none : policy_of (suc (suc (suc byte))) ≡ None
    none = rw (ne_eqb (suc (suc (suc byte))) 1 (λ same. omega (arith, same)), ne_eqb (suc (suc (suc byte))) 2 (λ same. omega (arith, same))) refl

    no_policy : is_none (policy_of (suc (suc (suc byte)))) ≡ false → ⊥
    no_policy = by (policy_of (suc (suc (suc byte)))) none
      where
        by : (found : Option Policy) → found ≡ None → is_none found ≡ false → ⊥
        by None is e = absurd cc
        by (Some policy) is e = absurd cc
