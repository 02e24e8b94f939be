-- Two keys are one exactly where the test of the definition passes: with one policy, or without one.
use Rattle.std.proofs.Common.{◌≡◌, true, Option, Some, None, refl, subst, arith}
use Rattle.std.specs.Str.{bytes_eq}
use Rattle.std.proofs.lemmas.Bool.{and_parts}
use Rattle.std.proofs.lemmas.Cmp.{nat_list_eq_equiv}
use Rattle.std.proofs.lemmas.Slice.Eq.{bytes_eq-Decides}
use Rattle.encoding.specs.Policies.{policy_byte, policy_bytes}
use Rattle.encoding.specs.declared.bound_key.BoundKey.{BoundKey}
use Rattle.encoding.specs.declared.policy.Policy.{Policy}
use Rattle.encoding.specs.declared.policy.Policy.TheVariants.{Open, Final}
use Rattle.play.specs.Watchers.{same_key}

policy_same : (one other : Option Policy) → policy_bytes one ≡ policy_bytes other → one ≡ other
policy_same None None e = refl
policy_same None (Some other) e = absurd cc
policy_same (Some policy) None e = absurd cc
policy_same (Some Open) (Some Open) e = refl
policy_same (Some Final) (Some Final) e = refl
policy_same (Some Open) (Some Final) e = absurd (let bytes : policy_byte Open ≡ policy_byte Final = cc in omega (arith, bytes))
policy_same (Some Final) (Some Open) e = absurd (let bytes : policy_byte Final ≡ policy_byte Open = cc in omega (arith, bytes))

pub keys-same : (key other : Option BoundKey) → same_key key other ≡ true → key ≡ other
keys-same None None is = refl
keys-same None (Some other) is = absurd cc
keys-same (Some key) None is = absurd cc
keys-same (Some key) (Some other) is =
    let both = and_parts (bytes_eq key.value other.value) (bytes_eq (policy_bytes key.policy) (policy_bytes other.policy)) is in
    let value : key.value ≡ other.value = (bytes_eq-Decides key.value other.value).0 both.0 in
    let policy : key.policy ≡ other.policy = policy_same key.policy other.policy ((bytes_eq-Decides (policy_bytes key.policy) (policy_bytes other.policy)).0 both.1) in
    λ i. Some (record { value = value i; policy = policy i })

own-key : (key : Option BoundKey) → same_key key key ≡ true
own-key None = refl
own-key (Some key) = rw (nat_list_eq_equiv.refl key.value, nat_list_eq_equiv.refl (policy_bytes key.policy)) refl

pub same-keys : (key other : Option BoundKey) → key ≡ other → same_key key other ≡ true
same-keys key other is = subst (λ (o : Option BoundKey). same_key key o ≡ true) is (own-key key)
