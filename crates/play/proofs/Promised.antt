-- The epoch of a promise stands behind its kind and its version.
use Rattle.std.proofs.Common.{◌≡◌, ℕ, ◌^◌, ◌<◌, Bool, List, [], ◌∷◌, ◌++◌, Result, Ok, sym, ap, ◌∙◌, append_assoc, lit≤}
use Rattle.std.specs.Prelude.{⊤}
use Rattle.encoding.specs.Endian.{big_bytes}
use Rattle.encoding.specs.Fields.{IsField}
use Rattle.encoding.specs.Forms.{counted_bytes}
use Rattle.encoding.specs.Policies.{has_policy, policy_bytes, version}
use Rattle.encoding.specs.Reading.{Reading, read_both, read_number, read_version}
use Rattle.encoding.proofs.Fields.{numbers_field, version_field}
use Rattle.encoding.proofs.FieldsOf.{both}
use Rattle.rootchain.specs.Promises.{promise_kind, signed_promise_bytes, SpellsPromise}
use Rattle.rootchain.specs.declared.signed_promise.SignedPromise.{SignedPromise}

-- whether there is a policy, and the epoch
abbrev pub front : List ℕ → Reading (Bool × ℕ)
front = read_both (read_version promise_kind) (read_number 8)

abbrev head : SignedPromise → List ℕ
head signed = promise_kind ∷ version (has_policy signed.promise.key.policy) ∷ []

-- what stands behind the epoch
abbrev parts : SignedPromise → List ℕ
parts signed = signed.promise.body_hash ++ (signed.promise.index ++ (policy_bytes signed.promise.key.policy ++ (counted_bytes signed.promise.name ++ counted_bytes signed.promise.key.value)))

pub rest_of : SignedPromise → List ℕ
rest_of signed = parts signed ++ counted_bytes signed.signature

front_field : IsField front (λ x. (promise_kind ∷ version x.0 ∷ []) ++ big_bytes 8 x.1) (λ x. ⊤ × (x.1 < 256 ^ 8))
front_field = both (version_field promise_kind (lit≤ tt)) (numbers_field 8)

pub epoch_read : (bytes : List ℕ) (signed : SignedPromise) → SpellsPromise bytes signed → front bytes ≡ Ok ((has_policy signed.promise.key.policy, signed.promise.epoch), rest_of signed)
unfolding rest_of
epoch_read bytes signed spells =
    let epoch = signed.promise.epoch in
    let all : signed_promise_bytes signed ≡ (head signed ++ big_bytes 8 epoch) ++ (parts signed ++ counted_bytes signed.signature)
    = ap (λ (t : List ℕ). head signed ++ t) (append_assoc (big_bytes 8 epoch) (parts signed) (counted_bytes signed.signature)) in
    ap front (spells.0 ∙ all) ∙ front_field.again (has_policy signed.promise.key.policy, epoch) (parts signed ++ counted_bytes signed.signature) (tt, spells.1.0.0.1)

first_same : {A B F : Type 0} (a c : A) (b d : B) → ◌≡◌ {A = Result (A × B) F} (Ok (a, b)) (Ok (c, d)) → a ≡ c
first_same {A} {B} a c b d e = let both_same : ◌≡◌ {A = A × B} (a, b) (c, d) = cc in ap (λ (p : A × B). p.0) both_same

-- what is read is the epoch
pub same_epoch : (bytes : List ℕ) (signed : SignedPromise) (read : Bool × ℕ) (rest : List ℕ) → SpellsPromise bytes signed → front bytes ≡ Ok (read, rest) → read.1 ≡ signed.promise.epoch
same_epoch bytes signed read rest spells is =
    ap (λ (x : Bool × ℕ). x.1) (first_same read (has_policy signed.promise.key.policy, signed.promise.epoch) rest (rest_of signed) (sym is ∙ epoch_read bytes signed spells))
