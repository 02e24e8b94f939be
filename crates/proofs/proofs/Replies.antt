-- A reply is read exactly where one is spelled.
use Rattle.std.proofs.Common.{◌≡◌, ◌≢◌, ℕ, zero, suc, ◌*◌, ◌<◌, ◌≤◌, ◌^◌, Bool, true, false, Option, None, List, [], ◌∷◌, ◌++◌, length, leb, Ok, Err, refl, sym, ap, subst, ◌∙◌, arith, lit≤}
use Rattle.std.specs.List.{AllByRecursion}
use Rattle.std.specs.Simd.{first_chunks}
use Rattle.std.proofs.lemmas.Bool.{and_parts, leb-true, le-leb, ne_eqb}
use Rattle.encoding.specs.declared.fault.Fault.{Fault}
use Rattle.encoding.specs.declared.fault.Fault.TheVariants.{OutOfRange}
use Rattle.encoding.specs.Bytes.{HasBytes, IsBytes, Is32Bytes, joined}
use Rattle.encoding.specs.Endian.{big_bytes}
use Rattle.encoding.specs.Fields.{IsField}
use Rattle.encoding.specs.Forms.{counted_bytes}
use Rattle.encoding.specs.Limits.{IsKeyData}
use Rattle.encoding.specs.Policies.{has_policy, policy_bytes}
use Rattle.encoding.specs.declared.policy.Policy.{Policy}
use Rattle.encoding.specs.Reading.{is_within, read_as, read_byte, read_bytes, read_number, read_where}
use Rattle.encoding.proofs.Fields.{whole-read, whole-refused, allowed_field, byte_field, bytes_field, counted_field, nothing_field, numbers_field, policy_if_field, refused_read, renamed_field, respelled_field, tested_field, then_field}
use Rattle.encoding.proofs.FieldsOf.{both}
use Rattle.rootchain.specs.declared.body.Body.{Body}
use Rattle.rootchain.specs.Readable.{body_field}
use Rattle.proofs.specs.Replies.{End, Present, Empty, Other, Reply, present_kind, reply_end_bytes, end_kind, end_parts, reply_bytes, sibling_bytes, AreSiblings, IsEnd, IsReply, SpellsReply}
use Rattle.proofs.specs.Refusals.{BeginsWithReply}
use Rattle.proofs.specs.Reading.{read_end, read_end_of, read_other, read_present, read_reply, read_siblings, reply_of}
use Rattle.proofs.proofs.Chunks.{chunks-hashes, chunks-joined, joined-chunks, joined-hashes, length-chunks}

-- ---- ends

-- the end of this kind
abbrev IsOfKind : ℕ → End → Type 0
IsOfKind kind end = IsEnd end × (end_kind end ≡ kind)

abbrev opening : End → Option Policy × (List ℕ × List ℕ)
opening (Present salt key) = (key.policy, (salt, key.value))
opening Empty = (None, ([], []))
opening (Other index commitment) = (None, ([], []))

abbrev leaf : End → List ℕ × List ℕ
leaf (Present salt key) = ([], [])
leaf Empty = ([], [])
leaf (Other index commitment) = (index, commitment)

abbrev present : Option Policy × (List ℕ × List ℕ) → End
present parts = Present parts.1.0 (record { value = parts.1.1; policy = parts.0 })

abbrev opened_bytes : End → List ℕ
opened_bytes end = policy_bytes (opening end).0 ++ ((opening end).1.0 ++ counted_bytes (opening end).1.1)

abbrev Opened : Bool → End → Type 0
Opened has end = ((has_policy (opening end).0 ≡ has) × (Is32Bytes (opening end).1.0 × IsKeyData (opening end).1.1)) × (present (opening end) ≡ end)

same_kind : (one other : Bool) → present_kind one ≡ present_kind other → one ≡ other
same_kind false false e = refl
same_kind false true e = absurd (omega (arith, e))
same_kind true false e = absurd (omega (arith, e))
same_kind true true e = refl

-- an opened leaf has the kind 1 or 4
not_present : (has : Bool) (kind : ℕ) → kind ≢ 1 → kind ≢ 4 → present_kind has ≡ kind → ⊥
not_present false kind one four e = one (sym e)
not_present true kind one four e = four (sym e)

present_field : (has : Bool) → IsField (read_present has) end_parts (IsOfKind (present_kind has))
present_field has =
    allowed_field (read_present has) end_parts (Opened has) (IsOfKind (present_kind has)) to back
    (respelled_field (read_present has) opened_bytes end_parts (Opened has) same
    (renamed_field present opening _ _ _ (λ _ _. refl)
    (both (policy_if_field has) (both (bytes_field 32) (counted_field 1 2048 (lit≤ tt))))))
  where
    same : (end : End) → Opened has end → opened_bytes end ≡ end_parts end
    same (Present salt key) h = refl
    same Empty h = absurd cc
    same (Other index commitment) h = absurd cc

    to : (end : End) → Opened has end → IsOfKind (present_kind has) end
    to (Present salt key) h = (h.0.1, ap present_kind h.0.0)
    to Empty h = absurd cc
    to (Other index commitment) h = absurd cc

    back : (end : End) → IsOfKind (present_kind has) end → Opened has end
    back (Present salt key) h = ((same_kind (has_policy key.policy) has h.1, h.0), refl)
    back Empty h = absurd (not_present has 2 (λ e. omega (arith, e)) (λ e. omega (arith, e)) (sym h.1))
    back (Other index commitment) h = absurd (not_present has 3 (λ e. omega (arith, e)) (λ e. omega (arith, e)) (sym h.1))

abbrev Told : End → Type 0
Told end = (Is32Bytes (leaf end).0 × Is32Bytes (leaf end).1) × (Other (leaf end).0 (leaf end).1 ≡ end)

other_field : IsField read_other end_parts (IsOfKind 3)
other_field =
    allowed_field read_other end_parts Told (IsOfKind 3) to back
    (respelled_field read_other (λ end. (leaf end).0 ++ (leaf end).1) end_parts Told same
    (renamed_field (λ parts. Other parts.0 parts.1) leaf _ _ _ (λ _ _. refl)
    (both (bytes_field 32) (bytes_field 32))))
  where
    same : (end : End) → Told end → (leaf end).0 ++ (leaf end).1 ≡ end_parts end
    same (Present salt key) h = absurd cc
    same Empty h = absurd cc
    same (Other index commitment) h = refl

    to : (end : End) → Told end → IsOfKind 3 end
    to (Present salt key) h = absurd cc
    to Empty h = absurd cc
    to (Other index commitment) h = (h.0, refl)

    back : (end : End) → IsOfKind 3 end → Told end
    back (Present salt key) h = absurd (not_present (has_policy key.policy) 3 (λ e. omega (arith, e)) (λ e. omega (arith, e)) h.1)
    back Empty h = absurd (omega (arith, h.1))
    back (Other index commitment) h = (h.0, refl)

empty_field : IsField (read_end_of 2) end_parts (IsOfKind 2)
empty_field =
    allowed_field (read_end_of 2) end_parts (λ end. Empty ≡ end) (IsOfKind 2) to back
    (respelled_field (read_end_of 2) (λ _. []) end_parts (λ end. Empty ≡ end) same (nothing_field Empty))
  where
    same : (end : End) → Empty ≡ end → [] ≡ end_parts end
    same (Present salt key) h = absurd cc
    same Empty h = refl
    same (Other index commitment) h = absurd cc

    to : (end : End) → Empty ≡ end → IsOfKind 2 end
    to (Present salt key) h = absurd cc
    to Empty h = (tt, refl)
    to (Other index commitment) h = absurd cc

    back : (end : End) → IsOfKind 2 end → Empty ≡ end
    back (Present salt key) h = absurd (not_present (has_policy key.policy) 2 (λ e. omega (arith, e)) (λ e. omega (arith, e)) h.1)
    back Empty h = refl
    back (Other index commitment) h = absurd (omega (arith, h.1))

-- no end is of another kind than 1 to 4
no_end : (kind : ℕ) → kind ≢ 1 → kind ≢ 2 → kind ≢ 3 → kind ≢ 4 → (end : End) → ¬ IsOfKind kind end
no_end kind one two three four (Present salt key) h = not_present (has_policy key.policy) kind one four h.1
no_end kind one two three four Empty h = two (sym h.1)
no_end kind one two three four (Other index commitment) h = three (sym h.1)

-- the parts of an end of each kind
kinds : (kind : ℕ) → IsField (read_end_of kind) end_parts (IsOfKind kind)
kinds zero = record { spelled = λ bytes z small e. absurd cc; again = λ end rest h. absurd (no_end 0 (λ e. omega (arith, e)) (λ e. omega (arith, e)) (λ e. omega (arith, e)) (λ e. omega (arith, e)) end h) }
kinds (suc zero) = present_field false
kinds (suc (suc zero)) = empty_field
kinds (suc (suc (suc zero))) = other_field
kinds (suc (suc (suc (suc zero)))) = present_field true
kinds (suc (suc (suc (suc (suc kind))))) = record { spelled = λ bytes z small e. absurd (refused_read OutOfRange z (sym (unknown bytes) ∙ e)); again = λ end rest h. absurd (no_end (suc (suc (suc (suc (suc kind))))) one two three four end h) }
  where
    one : suc (suc (suc (suc (suc kind)))) ≢ 1
    one e = omega (arith, e)

    two : suc (suc (suc (suc (suc kind)))) ≢ 2
    two e = omega (arith, e)

    three : suc (suc (suc (suc (suc kind)))) ≢ 3
    three e = omega (arith, e)

    four : suc (suc (suc (suc (suc kind)))) ≢ 4
    four e = omega (arith, e)

    unknown : (bytes : List ℕ) → read_end_of (suc (suc (suc (suc (suc kind))))) bytes ≡ Err OutOfRange
    unknown bytes = rw (ne_eqb (suc (suc (suc (suc (suc kind))))) 1 one, ne_eqb (suc (suc (suc (suc (suc kind))))) 2 two, ne_eqb (suc (suc (suc (suc (suc kind))))) 3 three, ne_eqb (suc (suc (suc (suc (suc kind))))) 4 four) refl

kind_small : (end : End) → end_kind end < 256
kind_small (Present salt key) = present_small (has_policy key.policy)
  where
    present_small : (has : Bool) → present_kind has < 256
    present_small false = lit≤ tt
    present_small true = lit≤ tt
kind_small Empty = lit≤ tt
kind_small (Other index commitment) = lit≤ tt

pub end_field : IsField read_end reply_end_bytes IsEnd
unfolding read_end
end_field =
    allowed_field _ reply_end_bytes (λ end. (end_kind end < 256) × IsEnd end) IsEnd (λ _ h. h.1) (λ end h. (kind_small end, h))
    (then_field end_kind read_byte read_end_of (λ kind. kind ∷ []) end_parts (λ kind. kind < 256) IsEnd byte_field (λ kind _. kinds kind))

-- ---- siblings

abbrev AreJoined : ℕ → List (List ℕ) → Type 0
AreJoined count hashes = HasBytes (32 * count) (joined hashes) × (first_chunks 32 count (joined hashes) ≡ hashes)

-- so many hashes
abbrev AreCounted : ℕ → List (List ℕ) → Type 0
AreCounted count hashes = AllByRecursion Is32Bytes hashes × (length hashes ≡ count)

hashes_field : (count : ℕ) → IsField (read_as (first_chunks 32 count) (read_bytes (32 * count))) joined (AreCounted count)
hashes_field count =
    allowed_field _ joined (AreJoined count) (AreCounted count) to back
    (renamed_field (first_chunks 32 count) joined (read_bytes (32 * count)) (λ bytes. bytes) (HasBytes (32 * count)) (λ bytes h. joined-chunks count bytes h.0) (bytes_field (32 * count)))
  where
    to : (hashes : List (List ℕ)) → AreJoined count hashes → AreCounted count hashes
    to hashes h = subst (AreCounted count) h.1 (chunks-hashes count (joined hashes) h.0, length-chunks count (joined hashes))

    back : (hashes : List (List ℕ)) → AreCounted count hashes → AreJoined count hashes
    back hashes h = subst (λ (n : ℕ). AreJoined n hashes) h.1 (joined-hashes hashes h.0, chunks-joined hashes h.0)

abbrev IsCount : ℕ → Type 0
IsCount n = (n < 256 ^ 2) × (is_within 0 256 n ≡ true)

pub siblings_field : IsField read_siblings sibling_bytes AreSiblings
unfolding read_siblings
siblings_field =
    allowed_field _ sibling_bytes (λ siblings. IsCount (length siblings) × AllByRecursion Is32Bytes siblings) AreSiblings
    (λ siblings h. (few (length siblings) h.0.1, h.1))
    (λ siblings h. ((omega (arith, h.0), rw (le-leb 0 (length siblings) (omega arith), le-leb (length siblings) 256 h.0) refl), h.1))
    (then_field length (read_where (is_within 0 256) (read_number 2)) _ (big_bytes 2) joined IsCount (AllByRecursion Is32Bytes)
    (tested_field (is_within 0 256) (read_number 2) (big_bytes 2) (λ n. n < 256 ^ 2) (numbers_field 2))
    (λ count _. hashes_field count))
  where
    few : (count : ℕ) → is_within 0 256 count ≡ true → count ≤ 256
    few count e = leb-true count 256 (and_parts (leb 0 count) (leb count 256) e).1

-- ---- replies

abbrev parts_of : Reply → Body × (List ℕ × (End × List (List ℕ)))
parts_of reply = (reply.body, (reply.value, (reply.end, reply.siblings)))

pub reply_field : IsField read_reply reply_bytes IsReply
unfolding read_reply
reply_field =
    let parts = both body_field (both (counted_field 1 256 (lit≤ tt)) (both end_field siblings_field)) in
    allowed_field _ _ _ IsReply (λ _ h. (h.0.0, h.0.1.0, h.0.1.1.0, h.0.1.1.1)) (λ _ h. ((h.0, (h.1, (h.2, h.3))), refl))
    (renamed_field reply_of parts_of _ _ _ (λ _ _. refl) parts)

-- ---- whole bytes

-- bytes at which the reader refuses spell no reply, and none of their beginnings does
pub is_malformed : (bytes : List ℕ) (fault : Fault) → read_reply bytes ≡ Err fault → ((reply : Reply) → ¬ SpellsReply bytes reply) × ¬ BeginsWithReply bytes
is_malformed bytes fault e = (
  whole-refused read_reply reply_bytes IsReply reply_field bytes fault e,
  λ begins. refused_read fault (begins.0, begins.2) (sym e ∙ ap read_reply (begins.3 ∙ ap (λ (front : List ℕ). front ++ begins.2) begins.5.0) ∙ reply_field.again begins.0 begins.2 begins.5.1),
)

-- what is left behind a reply makes the bytes begin with one
pub is_trailing : (bytes : List ℕ) (reply : Reply) (rest : List ℕ) → IsBytes bytes → read_reply bytes ≡ Ok (reply, rest) → rest ≢ [] → BeginsWithReply bytes
is_trailing bytes reply rest small e some =
    let t = reply_field.spelled bytes (reply, rest) small e in
    (reply, reply_bytes reply, rest, t.0, some, (refl, t.1))

pub is_spelled : (bytes : List ℕ) (reply : Reply) → IsBytes bytes → read_reply bytes ≡ Ok (reply, []) → SpellsReply bytes reply
is_spelled = whole-read read_reply reply_bytes IsReply reply_field
