-- A word says one thing, and has neither spaces nor LFs.
use Rattle.std.proofs.Common.{◌≡◌, ◌≢◌, ℕ, ◌^◌, ◌<◌, Bool, true, false, List, [], ◌∷◌, ◌++◌, Option, None, Some, MatchOption, Result, Ok, Err, IfSome, codes, length, nat_lt, ltb-true, true≢false, refl, sym, ap, subst, ◌∙◌, arith}
use Rattle.std.specs.Fmt.{decimal}
use Rattle.std.specs.List.{list_all, AllByRecursion}
use Rattle.std.specs.Str.{bytes_eq, IsUtf8}
use Rattle.std.specs.Str.Parse.{digits_value, ParsesUnsigned}
use Rattle.std.proofs.lemmas.Bool.{and_parts}
use Rattle.std.proofs.lemmas.Fmt.{decimal_is_IsNumeral, parse-decimal, IsAscii-decimal}
use Rattle.std.proofs.lemmas.Slice.Eq.{bytes_eq-Decides}
use Rattle.std.proofs.lemmas.Str.{IsUtf8-from_ascii}
use Rattle.encoding.proofs.Fields.{one_spelling}
use Rattle.encoding.specs.Bytes.{IsBytes}
use Rattle.encoding.specs.Limits.{IsKeyData, IsName}
use Rattle.encoding.specs.declared.bound_key.BoundKey.{BoundKey}
use Rattle.encoding.specs.declared.fixed_text.TheConstants.{PROOF_TEXT_ROOM}
use Rattle.encoding.specs.declared.policy.Policy.{Policy}
use Rattle.encoding.specs.declared.policy.Policy.TheVariants.{Open, Final}
use Rattle.hex.specs.Hex.{decode_of, encode_lower}
use Rattle.hex.specs.declared.error.FromHexError.{FromHexError}
use Rattle.hex.proofs.HexLemmas.{decode_of-encode_lower, decode_of-ok}
use Rattle.hex.proofs.OnLiterals.{hex_on_literals}
use Rattle.rootchain.specs.Readable.{signed_promise_field}
use Rattle.rootchain.specs.Promises.{read_signed_promise, signed_promise_bytes, IsSignedPromise, SpellsPromise}
use Rattle.rootchain.specs.declared.signed_promise.SignedPromise.{SignedPromise}
use Rattle.rootchain.proofs.Sizes.{signed_promise_few}
use Rattle.memory.specs.Finding.{Finds}
use Rattle.encoding.specs.Policies.{policy_word}
use Rattle.memory.specs.Lines.{found_words, policy_words, promise_word, HasRoom}
use Rattle.memory.specs.Words.{IsHexOf, IsNameWord, IsPromiseWord, IsReplyWord}
use Rattle.memory.proofs.Plain.{plain-hex, IsPlain}

pub other_words : (one other : List ℕ) → bytes_eq one other ≡ false → one ≡ other → ⊥
other_words one other apart same = true≢false (sym ((bytes_eq-Decides one other).1 same) ∙ apart)

pub plain_word : (word : List ℕ) → list_all (λ byte. nat_lt 32 byte) word ≡ true → IsPlain word
plain_word [] high = tt
plain_word (byte ∷ more) high = let both = and_parts (nat_lt 32 byte) (list_all (λ byte. nat_lt 32 byte) more) high in (ltb-true 32 byte both.0, plain_word more both.1)

same_ok : (one other : List ℕ) → ◌≡◌ {A = Result (List ℕ) FromHexError} (Ok one) (Ok other) → one ≡ other
same_ok one other e = cc

pub hex_same : (one other : List ℕ) → IsBytes one → IsBytes other → encode_lower one ≡ encode_lower other → one ≡ other
hex_same one other p q e = same_ok one other (sym (decode_of-encode_lower one p) ∙ ap decode_of e ∙ decode_of-encode_lower other q)

pub decimal_same : (m n : ℕ) → m < 2 ^ 64 → n < 2 ^ 64 → decimal m ≡ decimal n → m ≡ n
decimal_same m n p q e = sym (decimal_is_IsNumeral m p).1 ∙ ap (digits_value 10) e ∙ (decimal_is_IsNumeral n q).1

pub IsBytes-promise : (signed : SignedPromise) → IsSignedPromise signed → IsBytes (signed_promise_bytes signed)
IsBytes-promise signed sound = (signed_promise_few signed sound).small

pub promise_same : (one other : SignedPromise) → IsSignedPromise one → IsSignedPromise other
    → encode_lower (signed_promise_bytes one) ≡ encode_lower (signed_promise_bytes other) → one ≡ other
promise_same one other p q e =
    let bytes = hex_same (signed_promise_bytes one) (signed_promise_bytes other) (IsBytes-promise one p) (IsBytes-promise other q) e in
    (one_spelling read_signed_promise signed_promise_bytes IsSignedPromise signed_promise_field one other [] [] p q (ap (λ (t : List ℕ). t ++ []) bytes)).0

pub absent_is_no_hex : (key : List ℕ) → IsBytes key → codes "absent" ≡ encode_lower key → ⊥
unfolding hex_on_literals
absent_is_no_hex key small e = let read = ap decode_of e ∙ decode_of-encode_lower key small in cc

pub heads : (a b : List ℕ) (xs ys : List (List ℕ)) → a ∷ xs ≡ b ∷ ys → (a ≡ b) × (xs ≡ ys)
heads a b xs ys e = (cc, cc)

pub few : (w : List ℕ) (ws : List (List ℕ)) → [] ≡ w ∷ ws → ⊥
few w ws e = cc

pub policy_word_same : (one other : Policy) → policy_word one ≡ policy_word other → one ≡ other
policy_word_same Open Open e = refl
policy_word_same Final Final e = refl
policy_word_same Open Final e = absurd (other_words (codes "open") (codes "final") refl e)
policy_word_same Final Open e = absurd (other_words (codes "final") (codes "open") refl e)

policy_same : (one other : Option Policy) → policy_words one ≡ policy_words other → one ≡ other
policy_same None None e = refl
policy_same None (Some policy) e = absurd (few _ _ e)
policy_same (Some policy) None e = absurd (few _ _ (sym e))
policy_same (Some one) (Some other) e = ap Some (policy_word_same one other (heads _ _ _ _ e).0)

abbrev HasKeyData : BoundKey → Type 0
HasKeyData key = IsKeyData key.value

pub found_same : (one other : Option BoundKey) → IfSome one HasKeyData → IfSome other HasKeyData → found_words one ≡ found_words other → one ≡ other
found_same None None p q e = refl
found_same None (Some key) p q e = absurd (absent_is_no_hex key.value q.2 (heads _ _ _ _ e).0)
found_same (Some key) None p q e = absurd (absent_is_no_hex key.value p.2 (sym (heads _ _ _ _ e).0))
found_same (Some one) (Some other) p q e =
    let parts = heads _ _ _ _ e in
    let value : one.value ≡ other.value = hex_same one.value other.value p.2 q.2 parts.0 in
    let policy : one.policy ≡ other.policy = policy_same one.policy other.policy parts.1 in
    λ i. Some (record { value = value i; policy = policy i })

pub plain-policy_word : (policy : Policy) → IsPlain (policy_word policy)
plain-policy_word Open = plain_word (codes "open") refl
plain-policy_word Final = plain_word (codes "final") refl

plain-policy : (policy : Option Policy) → AllByRecursion IsPlain (policy_words policy)
plain-policy None = tt
plain-policy (Some policy) = (plain-policy_word policy, tt)

pub plain-found : (found : Option BoundKey) → IfSome found HasKeyData → AllByRecursion IsPlain (found_words found)
plain-found None sound = (plain_word (codes "absent") refl, tt)
plain-found (Some key) sound = (plain-hex key.value sound.2, plain-policy key.policy)

pub plain-promise_word : (is_own : Bool) → IsPlain (promise_word is_own)
plain-promise_word true = plain_word (codes "change") refl
plain-promise_word false = plain_word (codes "promise") refl

pub own_same : (one other : Bool) → promise_word one ≡ promise_word other → one ≡ other
own_same true true e = refl
own_same false false e = refl
own_same true false e = absurd (other_words (codes "change") (codes "promise") refl e)
own_same false true e = absurd (other_words (codes "promise") (codes "change") refl e)

-- ---- numbers as they are parsed

-- what decimal digits write is UTF-8, and is parsed as the number
pub decimal_is_utf8 : (number : ℕ) (word : List ℕ) → number < 2 ^ 64 → word ≡ decimal number → IsUtf8 word
decimal_is_utf8 number word small is = subst IsUtf8 (sym is) (IsUtf8-from_ascii (decimal number) (IsAscii-decimal number small))

pub is_parsed : {E : Type 0} (number : ℕ) (word : List ℕ) (result : Result ℕ E) → number < 2 ^ 64 → word ≡ decimal number → ParsesUnsigned 64 10 word result → result ≡ Ok number
is_parsed number word result small is parsed = parse-decimal 64 number word result small small is parsed

pub the_number : {E : Type 0} {a b : ℕ} → ◌≡◌ {A = Result ℕ E} (Ok a) (Ok b) → a ≡ b
the_number same = cc

-- ---- words as they are read

pub no_hex : (word : List ℕ) (e : FromHexError) → decode_of word ≡ Err e → (bytes : List ℕ) → ¬ IsHexOf word bytes
no_hex word e err bytes (small, is) = let read = sym err ∙ ap decode_of is ∙ decode_of-encode_lower bytes small in cc

pub same_hex : (word bytes other : List ℕ) → decode_of word ≡ Ok bytes → IsHexOf word other → bytes ≡ other
same_hex word bytes other read (small, is) = same_ok bytes other (sym read ∙ ap decode_of is ∙ decode_of-encode_lower other small)

pub lower_hex : (word bytes : List ℕ) → decode_of word ≡ Ok bytes → word ≡ encode_lower bytes → IsHexOf word bytes
lower_hex word bytes read is = ((decode_of-ok word bytes read).3, is)

pub not_lower : (word bytes : List ℕ) → decode_of word ≡ Ok bytes → word ≢ encode_lower bytes → (other : List ℕ) → ¬ IsHexOf word other
not_lower word bytes read other_case other hex = other_case (hex.1 ∙ ap encode_lower (sym (same_hex word bytes other read hex)))

module _ (word bytes : List ℕ) (hex : IsHexOf word bytes) where
  pub name_found : (r : Option (List ℕ)) → MatchOption r (¬ IsName bytes) (λ name. IsName bytes × (name ≡ bytes)) → Finds (IsNameWord word) r
  name_found None none = λ name is. none (subst IsName (sym (hex_same bytes name hex.0 is.0.2 (sym hex.1 ∙ is.1))) is.0)
  name_found (Some name) (sound, same) = (subst IsName (sym same) sound, hex.1 ∙ ap encode_lower (sym same))

  pub promise_found : (r : Option SignedPromise) → Finds (SpellsPromise bytes) r → Finds (IsPromiseWord word) r
  promise_found None none = λ signed is.
      let same = hex_same bytes (signed_promise_bytes signed) hex.0 (IsBytes-promise signed is.0) (sym hex.1 ∙ is.1) in
      none signed (same, is.0)
  promise_found (Some signed) (is, sound) = (sound, hex.1 ∙ ap encode_lower is)

  pub reply_found : (r : Option (List ℕ)) → MatchOption r (PROOF_TEXT_ROOM < length bytes) (λ reply. HasRoom bytes × (reply ≡ bytes)) → Finds (IsReplyWord word) r
  reply_found None above = λ reply is.
      let same = ap length (hex_same bytes reply hex.0 is.0.1 (sym hex.1 ∙ is.1)) in
      omega (arith, above, same, is.0.0)
  reply_found (Some reply) (room, same) = (subst HasRoom (sym same) room, hex.1 ∙ ap encode_lower (sym same))

pub no_promise : (word : List ℕ) → ((bytes : List ℕ) → ¬ IsHexOf word bytes) → (signed : SignedPromise) → ¬ IsPromiseWord word signed
no_promise word none signed is = none (signed_promise_bytes signed) (IsBytes-promise signed is.0, is.1)

pub no_reply : (word : List ℕ) → ((bytes : List ℕ) → ¬ IsHexOf word bytes) → (reply : List ℕ) → ¬ IsReplyWord word reply
no_reply word none reply is = none reply (is.0.1, is.1)
