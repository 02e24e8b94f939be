-- A text of one word says a key without a policy, or absence; one of two, a key and its policy.
use Rattle.std.proofs.Common.{◌≡◌, ◌≢◌, ℕ, List, ◌∷◌, ◌++◌, Option, None, Some, MatchOption, codes, refl, sym, subst, ◌∙◌}
use Rattle.encoding.specs.Limits.{IsKeyData}
use Rattle.encoding.specs.Policies.{policy_word}
use Rattle.encoding.specs.declared.bound_key.BoundKey.{BoundKey}
use Rattle.encoding.specs.declared.policy.Policy.{Policy}
use Rattle.hex.specs.Hex.{encode_lower}
use Rattle.memory.specs.Finding.{Finds}
use Rattle.memory.specs.Lines.{found_words, line_of, policy_words}
use Rattle.memory.specs.Words.{HasNoSpace, IsFoundText, IsHexOf}
use Rattle.memory.proofs.OneWord.{hex_same, plain_word}
use Rattle.memory.proofs.Plain.{no_space, plain-hex}
use Rattle.memory.proofs.Splits.{first_same, never_alone}

-- behind an epoch
pub found-line : (word : List ℕ) (found : Option BoundKey) → line_of (word ∷ found_words found) ≡ word ++ 32 ∷ line_of (found_words found)
found-line word None = refl
found-line word (Some key) = refl

no-space-absent : HasNoSpace (codes "absent")
no-space-absent = no_space (codes "absent") (plain_word (codes "absent") refl)

-- a key alone
record IsAlone (word : List ℕ) (found : Option BoundKey) : Type 0 where
  pub key : List ℕ
  pub sound : IsKeyData key
  pub is : word ≡ encode_lower key

alone : (word : List ℕ) → HasNoSpace word → word ≢ codes "absent" → (found : Option BoundKey) → IsFoundText word found → IsAlone word found
alone word none other None is = absurd (other is.1)
alone word none other (Some key) is = by key.policy is.1
  where
    by : (policy : Option Policy) → word ≡ line_of (encode_lower key.value ∷ policy_words policy) → IsAlone word (Some key)
    by None e = record { key = key.value; sound = is.0; is = e }
    by (Some policy) e = absurd (never_alone (encode_lower key.value) (policy_word policy) word none (sym e))

-- a key with its policy
record IsWith (word behind : List ℕ) (found : Option BoundKey) : Type 0 where
  pub key : List ℕ
  pub policy : Policy
  pub sound : IsKeyData key
  pub first : word ≡ encode_lower key
  pub second : behind ≡ policy_word policy

with_policy : (word behind : List ℕ) → HasNoSpace word → (found : Option BoundKey) → IsFoundText (word ++ 32 ∷ behind) found → IsWith word behind found
with_policy word behind none None is = absurd (never_alone word behind (codes "absent") no-space-absent is.1)
with_policy word behind none (Some key) is = by key.policy is.1
  where
    hex : HasNoSpace (encode_lower key.value)
    hex = no_space (encode_lower key.value) (plain-hex key.value is.0.2)

    by : (policy : Option Policy) → word ++ 32 ∷ behind ≡ line_of (encode_lower key.value ∷ policy_words policy) → IsWith word behind (Some key)
    by None e = absurd (never_alone word behind (encode_lower key.value) hex e)
    by (Some policy) e =
        let same = first_same word (encode_lower key.value) behind (policy_word policy) none hex e in
        record { key = key.value; policy = policy; sound = is.0; first = same.0; second = same.1 }

pub no_key : (word : List ℕ) → HasNoSpace word → word ≢ codes "absent" → ((bytes : List ℕ) → ¬ IsHexOf word bytes) → (found : Option BoundKey) → ¬ IsFoundText word found
no_key word none other refuses found is = let one = alone word none other found is in refuses one.key (one.sound.2, one.is)

pub no_first_key : (word behind : List ℕ) → HasNoSpace word → ((bytes : List ℕ) → ¬ IsHexOf word bytes) → (found : Option BoundKey) → ¬ IsFoundText (word ++ 32 ∷ behind) found
no_first_key word behind none refuses found is = let one = with_policy word behind none found is in refuses one.key (one.sound.2, one.first)

pub no_policy : (word behind : List ℕ) → HasNoSpace word → ((policy : Policy) → behind ≢ policy_word policy) → (found : Option BoundKey) → ¬ IsFoundText (word ++ 32 ∷ behind) found
no_policy word behind none refuses found is = let one = with_policy word behind none found is in refuses one.policy one.second

module _ (word bytes : List ℕ) (none : HasNoSpace word) (hex : IsHexOf word bytes) where
  same-bytes : (key : List ℕ) → IsKeyData key → word ≡ encode_lower key → bytes ≡ key
  same-bytes key sound is = hex_same bytes key hex.0 sound.2 (sym hex.1 ∙ is)

  abbrev Of : Option Policy → Option (Option BoundKey) → Type 0
  Of policy r = MatchOption r (¬ IsKeyData bytes) (λ found. IsKeyData bytes × (found ≡ Some (record { value = bytes; policy = policy })))

  pub key_found : word ≢ codes "absent" → (r : Option (Option BoundKey)) → Of None r → Finds (IsFoundText word) r
  key_found other None refuses = λ found is. let one = alone word none other found is in refuses (subst IsKeyData (sym (same-bytes one.key one.sound one.is)) one.sound)
  key_found other (Some found) (sound, same) = subst (λ (f : Option BoundKey). IsFoundText word f) (sym same) (sound, hex.1)

  pub key_with_found : (behind : List ℕ) (policy : Policy) → behind ≡ policy_word policy → (r : Option (Option BoundKey)) → Of (Some policy) r → Finds (IsFoundText (word ++ 32 ∷ behind)) r
  key_with_found behind policy named None refuses = λ found is. let one = with_policy word behind none found is in refuses (subst IsKeyData (sym (same-bytes one.key one.sound one.first)) one.sound)
  key_with_found behind policy named (Some found) (sound, same) =
      let whole : word ++ 32 ∷ behind ≡ encode_lower bytes ++ 32 ∷ policy_word policy = rw (hex.1, named) refl in
      subst (λ (f : Option BoundKey). IsFoundText (word ++ 32 ∷ behind) f) (sym same) (sound, whole)
