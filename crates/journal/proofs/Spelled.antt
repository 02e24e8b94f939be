-- A record is read exactly where one is spelled.
use Rattle.std.proofs.Common.{◌≡◌, ℕ, zero, suc, ◌+◌, ◌*◌, ◌<◌, ◌≤◌, ◌^◌, List, [], ◌∷◌, ◌++◌, length, Bool, true, false, leb, Option, Some, None, Ok, Err, refl, sym, ap, subst, ◌∙◌, arith, lit≤, true≢false}
use Rattle.std.specs.Prelude.{◌==◌, if◌then◌else◌}
use Rattle.std.proofs.lemmas.Bool.{and_parts, eqb-true, eq-eqb, leb-true, le-leb}
use Rattle.std.specs.Int.{byte_at}
use Rattle.encoding.specs.declared.fault.Fault.TheVariants.{OutOfRange}
use Rattle.encoding.specs.Bytes.{IsBytes, Is32Bytes}
use Rattle.encoding.specs.Endian.{big_bytes}
use Rattle.encoding.specs.Fields.{IsField}
use Rattle.encoding.specs.Forms.{counted_bytes}
use Rattle.encoding.specs.Limits.{IsKeyData, IsName, IsWithin}
use Rattle.encoding.specs.Policies.{has_policy, policy_bytes}
use Rattle.encoding.specs.declared.policy.Policy.{Policy}
use Rattle.encoding.specs.Reading.{Reading, is_within, read_byte, read_counted, read_number, read_policy_if, read_where}
use Rattle.encoding.proofs.Fields.{allowed_field, byte_field, bytes_field, counted_field, numbers_field, policy_if_field, refused_read, renamed_field, respelled_field, tested_field, then_field}
use Rattle.encoding.proofs.FieldsOf.{both}
use Rattle.commands.specs.declared.edit.Verb.{Verb}
use Rattle.commands.specs.declared.edit.Verb.TheVariants.{Register, Change}
use Rattle.book.specs.declared.record.Record.{Record}
use Rattle.book.specs.declared.record.Record.TheVariants.{Start, Bound, Turned}
use Rattle.journal.specs.declared.beginning.Beginning.{Beginning}
use Rattle.journal.specs.Records.{beginning_of, bound_of, read_bound, read_later, read_later_of, read_mark, read_rotated, read_start, read_turned, read_up_to, read_verb, read_verb_of, read_with, rotated_of, turned_of, record_bytes, start_bytes, verb_byte, IsLater, IsStart}

-- ---- verbs

-- a verb, and the policy behind it if there is one
abbrev pub Verbed : Type 0
Verbed = Verb × Option Policy

abbrev pub mark_of : Verbed → ℕ
mark_of verbed = verb_byte verbed.0 (has_policy verbed.1)

abbrev pub policy_behind : Verbed → List ℕ
policy_behind verbed = policy_bytes verbed.1

abbrev pub verb_bytes : Verbed → List ℕ
verb_bytes verbed = (mark_of verbed ∷ []) ++ policy_behind verbed

-- the byte of some verb
abbrev pub IsMark : ℕ → Type 0
IsMark byte = (byte < 256) × (is_within 1 4 byte ≡ true)

pub is_mark : (verb : Verb) (has : Bool) → IsMark (verb_byte verb has)
is_mark Register false = (lit≤ tt, refl)
is_mark Change false = (lit≤ tt, refl)
is_mark Register true = (lit≤ tt, refl)
is_mark Change true = (lit≤ tt, refl)

-- the verb of a byte, and whether a policy follows
abbrev marked : ℕ → Verb × Bool
marked byte = if byte == 1 then (Register, false) else (if byte == 2 then (Change, false) else (if byte == 3 then (Register, true) else (Change, true)))

marked_again : (verb : Verb) (has : Bool) → marked (verb_byte verb has) ≡ (verb, has)
marked_again Register false = refl
marked_again Change false = refl
marked_again Register true = refl
marked_again Change true = refl

-- what has this verb, and a policy or none
abbrev IsWith : Verb → Bool → Verbed → Type 0
IsWith verb has verbed = (has_policy verbed.1 ≡ has) × ((verb, verbed.1) ≡ verbed)

-- what begins with this byte
abbrev pub HasMark : ℕ → Verbed → Type 0
HasMark byte verbed = Unit {0} × (mark_of verbed ≡ byte)

pub with_mark : (verb : Verb) (has : Bool) (verbed : Verbed) → IsWith verb has verbed → HasMark (verb_byte verb has) verbed
with_mark verb has verbed h = (tt, ap mark_of (sym h.1) ∙ ap (verb_byte verb) h.0)

pub mark_with : (verb : Verb) (has : Bool) (verbed : Verbed) → HasMark (verb_byte verb has) verbed → IsWith verb has verbed
mark_with verb has verbed h =
    let same : (verbed.0, has_policy verbed.1) ≡ (verb, has) = sym (marked_again verbed.0 (has_policy verbed.1)) ∙ ap marked h.1 ∙ marked_again verb has in
    (ap (λ (x : Verb × Bool). x.1) same, ap (λ (x : Verb × Bool). (x.0, verbed.1)) (sym same))

with_field : (verb : Verb) (has : Bool) → IsField (read_with verb has) policy_behind (HasMark (verb_byte verb has))
with_field verb has =
    allowed_field _ policy_behind (IsWith verb has) (HasMark (verb_byte verb has)) (with_mark verb has) (mark_with verb has)
    (renamed_field (λ (policy : Option Policy). (verb, policy)) (λ (verbed : Verbed). verbed.1) (read_policy_if has) policy_bytes (λ policy. has_policy policy ≡ has) (λ _ _. refl) (policy_if_field has))

-- what follows each byte of a verb
pub marks : (byte : ℕ) → IsMark byte → IsField (read_verb_of byte) policy_behind (HasMark byte)
marks zero h = absurd cc
marks (suc zero) h = with_field Register false
marks (suc (suc zero)) h = with_field Change false
marks (suc (suc (suc zero))) h = with_field Register true
marks (suc (suc (suc (suc zero)))) h = with_field Change true
marks (suc (suc (suc (suc (suc byte))))) h = absurd (omega (arith, leb-true (suc (suc (suc (suc (suc byte))))) 4 (and_parts _ _ h.1).1))

pub mark_field : IsField (read_where (is_within 1 4) read_byte) (λ byte. byte ∷ []) IsMark
mark_field = tested_field (is_within 1 4) read_byte (λ byte. byte ∷ []) (λ byte. byte < 256) byte_field

pub verb_field : IsField read_verb verb_bytes (λ _. Unit {0})
unfolding read_verb
verb_field =
    allowed_field _ _ (λ verbed. IsMark (mark_of verbed) × Unit {0}) (λ _. Unit {0}) (λ _ _. tt) (λ verbed _. (is_mark verbed.0 (has_policy verbed.1), tt))
    (then_field mark_of (read_where (is_within 1 4) read_byte) read_verb_of (λ byte. byte ∷ []) policy_behind IsMark (λ _. Unit {0}) mark_field marks)

-- ---- marks, and lengths that are refused at their first byte

pub marked_field : {A : Type 0} (mark : ℕ) {f : List ℕ → Reading A} {s : A → List ℕ} {P : A → Type 0} → mark < 256 → IsField f s P → IsField (read_mark mark f) (λ x. mark ∷ s x) P
marked_field mark {f} {s} {P} small field =
    let IsThis : ℕ → Type 0 = λ byte. (byte < 256) × ((mark == byte) ≡ true) in
    allowed_field (read_mark mark f) (λ x. mark ∷ s x) (λ x. IsThis mark × P x) P (λ x h. h.1) (λ x h. ((small, eq-eqb mark mark refl), h))
    (then_field (λ _. mark) (read_where (λ byte. mark == byte) read_byte) (λ _. f) (λ byte. byte ∷ []) s IsThis P
    (tested_field (λ byte. mark == byte) read_byte (λ byte. byte ∷ []) (λ byte. byte < 256) byte_field)
    (λ byte h. allowed_field f s P (λ x. P x × (mark ≡ byte)) (λ x p. (p, eqb-true mark byte h.1)) (λ x p. p.0) field))

pub up_to_field : {A : Type 0} (most : ℕ) (f : List ℕ → Reading A) (s : A → List ℕ) (P : A → Type 0)
    → ((x : A) (rest : List ℕ) → P x → (byte : ℕ) × (more : List ℕ) × (s x ++ rest ≡ byte ∷ more) × (byte ≤ most)) → IsField f s P → IsField (read_up_to most f) s P
up_to_field {A} most f s P low field = record { spelled = spelled; again = again }
  where
    spelled : (bytes : List ℕ) (z : A × List ℕ) → IsBytes bytes → read_up_to most f bytes ≡ Ok z → (bytes ≡ s z.0 ++ z.1) × P z.0
    spelled [] z small e = field.spelled [] z small e
    spelled (byte ∷ rest) z small e = by_byte (leb byte most) refl
      where
        by_byte : (b : Bool) → leb byte most ≡ b → (byte ∷ rest ≡ s z.0 ++ z.1) × P z.0
        by_byte true b = field.spelled (byte ∷ rest) z small (sym (rw b refl) ∙ e)
        by_byte false b = absurd (refused_read OutOfRange z (sym (rw b refl) ∙ e))

    again : (x : A) (rest : List ℕ) → P x → read_up_to most f (s x ++ rest) ≡ Ok (x, rest)
    again x rest h =
        let first = low x rest h in
        ap (read_up_to most f) first.2 ∙ rw (le-leb first.0 most first.3) (ap f (sym first.2) ∙ field.again x rest h)

-- the first byte of a length
pub length_byte : (n high : ℕ) → n < 256 * high + 256 → byte_at 1 n ≤ high
length_byte n high small = omega (arith, small)

pub counted_up_to : (high most : ℕ) → most < 2 ^ 16 → most < 256 * high + 256 → IsField (read_up_to high (read_counted 1 most)) counted_bytes (IsWithin 1 most)
counted_up_to high most fits small =
    up_to_field high (read_counted 1 most) counted_bytes (IsWithin 1 most)
    (λ x rest h. (byte_at 1 (length x), byte_at 0 (length x) ∷ x ++ rest, refl, length_byte (length x) high (omega (arith, small, h.1))))
    (counted_field 1 most fits)

-- ---- starts

abbrev pub beginning_parts : Beginning → ℕ × (List ℕ × (List ℕ × List ℕ))
beginning_parts beginning = (beginning.epoch, (beginning.nonce, (beginning.signing_key, beginning.vuf_key)))

abbrev pub spelled_beginning : ℕ × (List ℕ × (List ℕ × List ℕ)) → List ℕ
spelled_beginning parts = big_bytes 8 parts.0 ++ (parts.1.0 ++ (parts.1.1.0 ++ parts.1.1.1))

abbrev pub BeginningParts : ℕ × (List ℕ × (List ℕ × List ℕ)) → Type 0
BeginningParts parts = (parts.0 < 256 ^ 8) × (Is32Bytes parts.1.0 × (Is32Bytes parts.1.1.0 × Is32Bytes parts.1.1.1))

abbrev pub IsBeginning : Beginning → Type 0
IsBeginning beginning = BeginningParts (beginning_parts beginning) × (beginning_of (beginning_parts beginning) ≡ beginning)

pub beginning_is : (beginning : Beginning) → IsBeginning beginning → IsStart beginning
beginning_is beginning h = (h.0.0, h.0.1.0, h.0.1.1.0, h.0.1.1.1)

pub is_beginning : (beginning : Beginning) → IsStart beginning → IsBeginning beginning
is_beginning beginning h = ((h.0, (h.1, (h.2, h.3))), refl)

pub start_field : IsField read_start start_bytes IsStart
unfolding read_start
start_field =
    marked_field 0x4e (lit≤ tt) (marked_field 1 (lit≤ tt)
    (allowed_field _ (λ beginning. spelled_beginning (beginning_parts beginning)) IsBeginning IsStart beginning_is is_beginning
    (renamed_field beginning_of beginning_parts _ spelled_beginning BeginningParts (λ _ _. refl)
    (both (numbers_field 8) (both (bytes_field 32) (both (bytes_field 32) (bytes_field 32)))))))

-- ---- later records

-- what follows the kind byte
abbrev pub later_parts : Record → List ℕ
later_parts (Start epoch nonce signing_key vuf_key) = []
later_parts (Bound verb salt name key) = verb_bytes (verb, key.policy) ++ (salt ++ (counted_bytes name ++ counted_bytes key.value))
later_parts (Turned epoch None) = big_bytes 8 epoch
later_parts (Turned epoch (Some nonce)) = big_bytes 8 epoch ++ nonce

abbrev pub kind_of : Record → ℕ
kind_of (Start epoch nonce signing_key vuf_key) = 0x4e
kind_of (Bound verb salt name key) = 0x4f
kind_of (Turned epoch None) = 0x43
kind_of (Turned epoch (Some nonce)) = 0x4b

abbrev pub OfKind : ℕ → Record → Type 0
OfKind kind kept = IsLater kept × (kind_of kept ≡ kind)

abbrev pub bound_parts : Record → Verbed × (List ℕ × (List ℕ × List ℕ))
bound_parts (Start epoch nonce signing_key vuf_key) = ((Register, None), ([], ([], [])))
bound_parts (Bound verb salt name key) = ((verb, key.policy), (salt, (name, key.value)))
bound_parts (Turned epoch _) = ((Register, None), ([], ([], [])))

abbrev pub spelled_bound : Verbed × (List ℕ × (List ℕ × List ℕ)) → List ℕ
spelled_bound parts = verb_bytes parts.0 ++ (parts.1.0 ++ (counted_bytes parts.1.1.0 ++ counted_bytes parts.1.1.1))

abbrev pub BoundParts : Verbed × (List ℕ × (List ℕ × List ℕ)) → Type 0
BoundParts parts = Unit {0} × (Is32Bytes parts.1.0 × (IsName parts.1.1.0 × IsKeyData parts.1.1.1))

abbrev pub IsBinding : Record → Type 0
IsBinding kept = BoundParts (bound_parts kept) × (bound_of (bound_parts kept) ≡ kept)

pub bound_same : (kept : Record) → IsBinding kept → spelled_bound (bound_parts kept) ≡ later_parts kept
bound_same (Start epoch nonce signing_key vuf_key) h = absurd cc
bound_same (Bound verb salt name key) h = refl
bound_same (Turned epoch _) h = absurd cc

pub binding_is : (kept : Record) → IsBinding kept → OfKind 0x4f kept
binding_is (Start epoch nonce signing_key vuf_key) h = absurd cc
binding_is (Bound verb salt name key) h = ((h.0.1.0, h.0.1.1.0, h.0.1.1.1), refl)
binding_is (Turned epoch _) h = absurd cc

pub is_binding : (kept : Record) → OfKind 0x4f kept → IsBinding kept
is_binding (Start epoch nonce signing_key vuf_key) h = absurd h.0
is_binding (Bound verb salt name key) h = ((tt, (h.0.0, (h.0.1, h.0.2))), refl)
is_binding (Turned epoch None) h = absurd (omega (arith, h.1))
is_binding (Turned epoch (Some nonce)) h = absurd (omega (arith, h.1))

pub bound_field : IsField read_bound later_parts (OfKind 0x4f)
unfolding read_bound
bound_field =
    allowed_field _ later_parts IsBinding (OfKind 0x4f) binding_is is_binding
    (respelled_field _ (λ kept. spelled_bound (bound_parts kept)) later_parts IsBinding bound_same
    (renamed_field bound_of bound_parts _ spelled_bound BoundParts (λ _ _. refl)
    (both verb_field (both (bytes_field 32) (both (counted_up_to 0 255 (lit≤ tt) (lit≤ tt)) (counted_up_to 8 2048 (lit≤ tt) (lit≤ tt)))))))

-- a record has a nonce or none
a_nonce : (epoch : ℕ) (nonce : List ℕ) → turned_of epoch ≡ Turned epoch (Some nonce) → ⊥
a_nonce epoch nonce e = absurd cc

no_nonce : (epoch : ℕ) → rotated_of (0, []) ≡ turned_of epoch → ⊥
no_nonce epoch e = absurd cc

abbrev pub epoch_of : Record → ℕ
epoch_of (Start epoch nonce signing_key vuf_key) = 0
epoch_of (Bound verb salt name key) = 0
epoch_of (Turned epoch _) = epoch

abbrev pub IsTurned : Record → Type 0
IsTurned kept = (epoch_of kept < 256 ^ 8) × (turned_of (epoch_of kept) ≡ kept)

pub turned_same : (kept : Record) → IsTurned kept → big_bytes 8 (epoch_of kept) ≡ later_parts kept
turned_same (Start epoch nonce signing_key vuf_key) h = absurd cc
turned_same (Bound verb salt name key) h = absurd cc
turned_same (Turned epoch None) h = refl
turned_same (Turned epoch (Some nonce)) h = absurd (a_nonce epoch nonce h.1)

pub turned_is : (kept : Record) → IsTurned kept → OfKind 0x43 kept
turned_is (Start epoch nonce signing_key vuf_key) h = absurd cc
turned_is (Bound verb salt name key) h = absurd cc
turned_is (Turned epoch None) h = (h.0, refl)
turned_is (Turned epoch (Some nonce)) h = absurd (a_nonce epoch nonce h.1)

pub is_turned : (kept : Record) → OfKind 0x43 kept → IsTurned kept
is_turned (Start epoch nonce signing_key vuf_key) h = absurd h.0
is_turned (Bound verb salt name key) h = absurd (omega (arith, h.1))
is_turned (Turned epoch None) h = (h.0, refl)
is_turned (Turned epoch (Some nonce)) h = absurd (omega (arith, h.1))

pub turned_field : IsField read_turned later_parts (OfKind 0x43)
turned_field =
    allowed_field _ later_parts IsTurned (OfKind 0x43) turned_is is_turned
    (respelled_field _ (λ kept. big_bytes 8 (epoch_of kept)) later_parts IsTurned turned_same
    (renamed_field turned_of epoch_of (read_number 8) (big_bytes 8) (λ n. n < 256 ^ 8) (λ _ _. refl) (numbers_field 8)))

abbrev pub rotated_parts : Record → ℕ × List ℕ
rotated_parts (Start epoch nonce signing_key vuf_key) = (0, [])
rotated_parts (Bound verb salt name key) = (0, [])
rotated_parts (Turned epoch None) = (0, [])
rotated_parts (Turned epoch (Some nonce)) = (epoch, nonce)

abbrev pub spelled_rotated : ℕ × List ℕ → List ℕ
spelled_rotated parts = big_bytes 8 parts.0 ++ parts.1

abbrev pub RotatedParts : ℕ × List ℕ → Type 0
RotatedParts parts = (parts.0 < 256 ^ 8) × Is32Bytes parts.1

abbrev pub IsRotated : Record → Type 0
IsRotated kept = RotatedParts (rotated_parts kept) × (rotated_of (rotated_parts kept) ≡ kept)

pub rotated_same : (kept : Record) → IsRotated kept → spelled_rotated (rotated_parts kept) ≡ later_parts kept
rotated_same (Start epoch nonce signing_key vuf_key) h = absurd cc
rotated_same (Bound verb salt name key) h = absurd cc
rotated_same (Turned epoch None) h = absurd (no_nonce epoch h.1)
rotated_same (Turned epoch (Some nonce)) h = refl

pub rotated_is : (kept : Record) → IsRotated kept → OfKind 0x4b kept
rotated_is (Start epoch nonce signing_key vuf_key) h = absurd cc
rotated_is (Bound verb salt name key) h = absurd cc
rotated_is (Turned epoch None) h = absurd (no_nonce epoch h.1)
rotated_is (Turned epoch (Some nonce)) h = (h.0, refl)

pub is_rotated : (kept : Record) → OfKind 0x4b kept → IsRotated kept
is_rotated (Start epoch nonce signing_key vuf_key) h = absurd h.0
is_rotated (Bound verb salt name key) h = absurd (omega (arith, h.1))
is_rotated (Turned epoch None) h = absurd (omega (arith, h.1))
is_rotated (Turned epoch (Some nonce)) h = (h.0, refl)

pub rotated_field : IsField read_rotated later_parts (OfKind 0x4b)
rotated_field =
    allowed_field _ later_parts IsRotated (OfKind 0x4b) rotated_is is_rotated
    (respelled_field _ (λ kept. spelled_rotated (rotated_parts kept)) later_parts IsRotated rotated_same
    (renamed_field rotated_of rotated_parts _ spelled_rotated RotatedParts (λ _ _. refl) (both (numbers_field 8) (bytes_field 32))))

pub kinds : (kind : ℕ) → IsField (read_later_of kind) later_parts (OfKind kind)
kinds kind = first (kind == 0x4f) refl
  where
    IsOne : ℕ → Type 0
    IsOne k = IsField (read_later_of k) later_parts (OfKind k)

    neither : (kind == 0x4f) ≡ false → (kind == 0x43) ≡ false → (kind == 0x4b) ≡ false → IsOne kind
    neither e f g = record { spelled = λ bytes z bytes-small r. absurd (refused_read OutOfRange z (sym (unknown bytes) ∙ r)); again = none }
      where
        unknown : (bytes : List ℕ) → read_later_of kind bytes ≡ Err OutOfRange
        unknown bytes = rw (e, f, g) refl

        none : (kept : Record) (rest : List ℕ) → OfKind kind kept → read_later_of kind (later_parts kept ++ rest) ≡ Ok (kept, rest)
        none (Start epoch nonce signing_key vuf_key) rest h = absurd h.0
        none (Bound verb salt name key) rest h = absurd (true≢false (ap (λ (k : ℕ). k == 0x4f) h.1 ∙ e))
        none (Turned epoch None) rest h = absurd (true≢false (ap (λ (k : ℕ). k == 0x43) h.1 ∙ f))
        none (Turned epoch (Some nonce)) rest h = absurd (true≢false (ap (λ (k : ℕ). k == 0x4b) h.1 ∙ g))

    third : (b : Bool) → (kind == 0x4b) ≡ b → (kind == 0x4f) ≡ false → (kind == 0x43) ≡ false → IsOne kind
    third true e one other = subst IsOne (sym (eqb-true kind 0x4b e)) rotated_field
    third false e one other = neither one other e

    second : (b : Bool) → (kind == 0x43) ≡ b → (kind == 0x4f) ≡ false → IsOne kind
    second true e other = subst IsOne (sym (eqb-true kind 0x43 e)) turned_field
    second false e other = third (kind == 0x4b) refl other e

    first : (b : Bool) → (kind == 0x4f) ≡ b → IsOne kind
    first true e = subst IsOne (sym (eqb-true kind 0x4f e)) bound_field
    first false e = second (kind == 0x43) refl e

pub later_small : (kept : Record) → kind_of kept < 256
later_small (Start epoch nonce signing_key vuf_key) = lit≤ tt
later_small (Bound verb salt name key) = lit≤ tt
later_small (Turned epoch None) = lit≤ tt
later_small (Turned epoch (Some nonce)) = lit≤ tt

pub later_field : IsField read_later record_bytes IsLater
unfolding read_later
later_field =
    allowed_field _ record_bytes IsAllowed IsLater (λ _ h. h.1) (λ kept h. (later_small kept, h))
    (respelled_field _ (λ kept. (kind_of kept ∷ []) ++ later_parts kept) record_bytes IsAllowed same
    (then_field kind_of read_byte read_later_of (λ kind. kind ∷ []) later_parts (λ kind. kind < 256) IsLater byte_field (λ kind _. kinds kind)))
  where
    IsAllowed : Record → Type 0
    IsAllowed kept = (kind_of kept < 256) × IsLater kept

    same : (kept : Record) → IsAllowed kept → (kind_of kept ∷ []) ++ later_parts kept ≡ record_bytes kept
    same (Start epoch nonce signing_key vuf_key) h = absurd h.1
    same (Bound verb salt name key) h = refl
    same (Turned epoch None) h = refl
    same (Turned epoch (Some nonce)) h = refl
