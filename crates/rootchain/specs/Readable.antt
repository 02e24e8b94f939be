-- Each form is read exactly where one is spelled. These proofs stand here and not in proofs/, since
-- the laws of an impl may name nothing of the crate's proofs/.
use Rattle.std.proofs.Common.{◌≡◌, ℕ, List, [], ◌∷◌, Option, Bool, true, false, cond, refl, subst, lit≤}
use Rattle.std.specs.Prelude.{⊤, ◌==◌, replicate}
use Rattle.std.specs.Str.{bytes_eq}
use Rattle.std.specs.Cmp.Derive.{both_true}
use Rattle.std.proofs.lemmas.Bool.{and_parts, eqb-true, lt-ltb, ltb-true}
use Rattle.std.proofs.lemmas.Cmp.{nat_list_eq_equiv}
use Rattle.std.proofs.lemmas.Slice.Eq.{bytes_eq-Decides}
use Rattle.encoding.specs.Fields.{IsField}
use Rattle.encoding.specs.Limits.{IsSmall}
use Rattle.encoding.specs.Forms.{counted_bytes}
use Rattle.encoding.specs.Policies.{has_policy, version}
use Rattle.encoding.specs.Reading.{read_counted, read_version}
use Rattle.encoding.proofs.ByteLists.{IsBytes-two}
use Rattle.encoding.proofs.Fields.{bytes_field, counted_field, numbers_field, policy_if_field, then_field, version_field}
use Rattle.encoding.proofs.FieldsOf.{allowed, behind, both, renamed, tested}
use Rattle.encoding.specs.declared.bounded.TheConstants.{MIN_LEN}
use Rattle.encoding.specs.declared.key_data.TheConstants.{MAX_KEY_DATA_LEN}
use Rattle.encoding.specs.declared.name.TheConstants.{MAX_NAME_LEN}
use Rattle.encoding.specs.declared.policy.Policy.{Policy}
use Rattle.encoding.specs.declared.small.TheConstants.{MAX_SMALL_LEN}
use Rattle.rootchain.specs.declared.body.Body.{Body}
use Rattle.rootchain.specs.declared.promise.Promise.{Promise}
use Rattle.rootchain.specs.declared.signed_promise.SignedPromise.{SignedPromise}
use Rattle.rootchain.specs.declared.signed_root.SignedRoot.{SignedRoot}
use Rattle.rootchain.specs.Bodies.{body_bytes, body_head, body_of, is_well_formed, read_body, IsBody, IsWellFormed}
use Rattle.rootchain.specs.Promises.{is_at_epoch, promise_bytes, promise_kind, promise_of, promise_parts, read_promise, read_promise_parts, read_signed_promise, signed_promise_bytes, signed_promise_of, IsPromise, IsSignedPromise}
use Rattle.rootchain.specs.SignedRoots.{read_signed_root, signed_root_bytes, signed_root_of, IsSignedRoot}

-- the test says what is well formed
tested_well : (body : Body) → is_well_formed body ≡ true → IsWellFormed body
tested_well body e =
    let both = and_parts _ _ e in (
      ltb-true body.previous_epoch body.epoch both.0,
      λ none. (bytes_eq-Decides body.previous_hash (replicate 32 0)).0 (subst (λ (n : ℕ). cond (n == 0) (bytes_eq body.previous_hash (replicate 32 0)) true ≡ true) none both.1),
    )

well_tested : (body : Body) → IsWellFormed body → is_well_formed body ≡ true
well_tested body well = both_true (lt-ltb body.previous_epoch body.epoch well.0) (by (body.previous_epoch == 0) refl)
  where
    by : (b : Bool) → (body.previous_epoch == 0) ≡ b → cond b (bytes_eq body.previous_hash (replicate 32 0)) true ≡ true
    by true none = rw (well.1 (eqb-true body.previous_epoch 0 none)) (nat_list_eq_equiv.refl (replicate 32 0))
    by false some = refl

-- the parts of a body, in the order of its form
abbrev pub body_parts : Body → ℕ × (ℕ × (List ℕ × (List ℕ × (List ℕ × List ℕ))))
body_parts body = (body.epoch, (body.previous_epoch, (body.root, (body.previous_hash, (body.nonce, body.vuf_key)))))

pub body_field : IsField read_body body_bytes IsBody
unfolding read_body
body_field =
    let hash = bytes_field 32 in
    let epoch = numbers_field 8 in
    behind body_head (IsBytes-two 0x52 1 (lit≤ tt) (lit≤ tt))
    (allowed
    (λ b h. let p = h.0.0 in (tested_well b h.1, (p.0, p.1.0, p.1.1.0, p.1.1.1.0, p.1.1.1.1.0, p.1.1.1.1.1)))
    (λ b h. (((h.1.0, (h.1.1, (h.1.2, (h.1.3, (h.1.4, h.1.5))))), refl), well_tested b h.0))
    (tested is_well_formed (renamed body_of body_parts (λ _. refl) (both epoch (both epoch (both hash (both hash (both hash hash))))))))

signature_field : IsField (read_counted MIN_LEN MAX_SMALL_LEN) counted_bytes IsSmall
signature_field = counted_field MIN_LEN MAX_SMALL_LEN (lit≤ tt)

pub signed_root_field : IsField read_signed_root signed_root_bytes IsSignedRoot
unfolding read_signed_root
signed_root_field = allowed (λ _ h. h.0) (λ _ h. (h, refl)) (renamed signed_root_of (λ (signed : SignedRoot). (signed.body, signed.signature)) (λ _. refl) (both body_field signature_field))

parts_field : (has : Bool) → IsField (read_promise_parts has) promise_parts (λ promise. IsPromise promise × (has_policy promise.key.policy ≡ has))
parts_field has =
    let hash = bytes_field 32 in
    allowed
    (λ b h. let p = h.0.0 in (((ltb-true 0 b.epoch h.1, p.0), p.1.0, p.1.1.0, p.1.1.1.1.0, p.1.1.1.1.1), p.1.1.1.0))
    (λ b h. (((h.0.0.1, (h.0.1, (h.0.2, (h.1, (h.0.3, h.0.4))))), refl), lt-ltb 0 b.epoch h.0.0.0))
    (tested is_at_epoch (renamed promise_of parts_of (λ _. refl) (both (numbers_field 8) (both hash (both hash (both (policy_if_field has)
    (both (counted_field MIN_LEN MAX_NAME_LEN (lit≤ tt)) (counted_field MIN_LEN MAX_KEY_DATA_LEN (lit≤ tt)))))))))
  where
    parts_of : Promise → ℕ × (List ℕ × (List ℕ × (Option Policy × (List ℕ × List ℕ))))
    parts_of promise = (promise.epoch, (promise.body_hash, (promise.index, (promise.key.policy, (promise.name, promise.key.value)))))

pub promise_field : IsField read_promise promise_bytes IsPromise
unfolding read_promise
promise_field =
    allowed (λ _ h. h.1) (λ _ h. (tt, h))
    (then_field (λ (promise : Promise). has_policy promise.key.policy) (read_version promise_kind) read_promise_parts (λ has. promise_kind ∷ version has ∷ []) promise_parts (λ _. ⊤) IsPromise
    (version_field promise_kind (lit≤ tt)) (λ has _. parts_field has))

pub signed_promise_field : IsField read_signed_promise signed_promise_bytes IsSignedPromise
unfolding read_signed_promise
signed_promise_field =
    allowed (λ _ h. h.0) (λ _ h. (h, refl)) (renamed signed_promise_of (λ (signed : SignedPromise). (signed.promise, signed.signature)) (λ _. refl) (both promise_field signature_field))
