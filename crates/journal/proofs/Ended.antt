-- The readers of records tell cuts.
use Rattle.std.proofs.Common.{◌≡◌, ◌≢◌, ℕ, zero, suc, ◌+◌, ◌*◌, ◌<◌, ◌≤◌, ◌^◌, Bool, true, false, cond, leb, List, [], ◌∷◌, ◌++◌, length, replicate, Option, Some, None, Ok, Err, refl, sym, ap, subst, ◌∙◌, arith, lit≤}
use Rattle.std.specs.Prelude.{◌==◌}
use Rattle.std.specs.Int.{byte_at}
use Rattle.std.proofs.lemmas.Bool.{and_parts, eqb-true, leb-true, le-leb, le-ltb, ne_eqb}
use Rattle.std.proofs.lemmas.List.{length-append, length-replicate}
use Rattle.byteorder.specs.Endian.{big_bytes, big_number}
use Rattle.encoding.specs.declared.fault.Fault.TheVariants.{Short, OutOfRange}
use Rattle.encoding.specs.Bytes.{IsBytes, Is32Bytes}
use Rattle.encoding.specs.Fields.{IsField}
use Rattle.encoding.specs.Forms.{counted_bytes}
use Rattle.encoding.specs.Limits.{IsWithin}
use Rattle.encoding.specs.Policies.{has_policy, policy_bytes}
use Rattle.encoding.specs.declared.policy.Policy.{Policy}
use Rattle.encoding.specs.declared.policy.Policy.TheVariants.{Open, Final}
use Rattle.encoding.specs.Reading.{Reading, ◌>>=◌, is_within, read_byte, read_bytes, read_counted, read_number, read_policy_if, read_then, read_where}
use Rattle.encoding.proofs.ByteLists.{IsBytes-two, IsBytes-zeros}
use Rattle.encoding.proofs.Fields.{bytes_field, numbers_field, refused_read, tested_field}
use Rattle.encoding.proofs.NumberBytes.{bytes-of_number}
use Rattle.commands.specs.declared.edit.Verb.{Verb}
use Rattle.commands.specs.declared.edit.Verb.TheVariants.{Register, Change}
use Rattle.book.specs.declared.record.Record.{Record}
use Rattle.book.specs.declared.record.Record.TheVariants.{Start, Bound, Turned}
use Rattle.journal.specs.declared.beginning.Beginning.{Beginning}
use Rattle.journal.specs.Records.{beginning_of, bound_of, read_bound, read_later, read_later_of, read_rotated, read_start, read_turned, read_up_to, read_verb, read_verb_of, read_with, rotated_of, turned_of, record_bytes, start_bytes, verb_byte, IsLater, IsStart}
use Rattle.journal.proofs.Cuts.{allowed_cuts, both_cuts, bytes_cuts, mark_cuts, numbers_cuts, renamed_cuts, refused, respelled_cuts, then_cuts, where_is, TellsCuts}
use Rattle.journal.proofs.Spelled.{beginning_is, beginning_parts, binding_is, bound_parts, bound_same, counted_up_to, epoch_of, is_beginning, is_binding, is_rotated, is_turned, kind_of, later_parts, length_byte, rotated_is, rotated_parts, rotated_same, spelled_beginning, spelled_bound, spelled_rotated, turned_is, turned_same, verb_field, is_mark, mark_field, mark_of, mark_with, policy_behind, verb_bytes, with_mark, BeginningParts, BoundParts, HasMark, IsBeginning, IsBinding, IsMark, IsRotated, IsTurned, OfKind, RotatedParts, Verbed}

-- ---- values that are there

zeros_32 : Is32Bytes (replicate 32 0)
zeros_32 = (refl, IsBytes-zeros 32)

one_zero : (most : ℕ) → 1 ≤ most → IsWithin 1 most (0 ∷ [])
one_zero most some = (lit≤ tt, some, IsBytes-zeros 1)

-- ---- lengths

abbrev read_length : ℕ → ℕ → List ℕ → Reading ℕ
read_length high most = read_where (is_within 1 most) (read_up_to high (read_number 2))

abbrev IsLength : ℕ → ℕ → Type 0
IsLength most n = (n < 256 ^ 2) × (is_within 1 most n ≡ true)

-- the second byte of a length that begins so
low_byte : ℕ → ℕ
low_byte zero = 1
low_byte (suc byte) = 0

-- a length's first byte is tested
length_is : (high most byte : ℕ) (rest : List ℕ) (b : Bool) → leb byte high ≡ b
    → read_length high most (byte ∷ rest) ≡ (cond b (read_number 2 (byte ∷ rest)) (Err OutOfRange) >>= λ x. cond (is_within 1 most x.0) (Ok x) (Err OutOfRange))
length_is high most byte rest b e =
    let R : Bool → Reading ℕ = λ t. cond t (read_number 2 (byte ∷ rest)) (Err OutOfRange) >>= λ x. cond (is_within 1 most x.0) (Ok x) (Err OutOfRange) in ap R e

two_bytes : (byte next : ℕ) (rest : List ℕ) → read_number 2 (byte ∷ next ∷ rest) ≡ Ok (big_number 2 (byte ∷ next ∷ []), rest)
two_bytes byte next rest = rw (le-ltb (length (byte ∷ next ∷ rest)) 2 (omega arith)) refl

-- where the first byte is low, and there is a second one, the number is tested
number_is : (high most byte next : ℕ) (rest : List ℕ) → leb byte high ≡ true → (b : Bool) → is_within 1 most (big_number 2 (byte ∷ next ∷ [])) ≡ b
    → read_length high most (byte ∷ next ∷ rest) ≡ cond b (Ok (big_number 2 (byte ∷ next ∷ []), rest)) (Err OutOfRange)
number_is high most byte next rest low b e =
    let R : Reading ℕ → Reading ℕ = λ r. r >>= λ x. cond (is_within 1 most x.0) (Ok x) (Err OutOfRange) in
    length_is high most byte (next ∷ rest) true low ∙ ap R (two_bytes byte next rest) ∙ where_is (is_within 1 most) (big_number 2 (byte ∷ next ∷ [])) rest b e

length_cuts : (high most : ℕ) → 256 * high ≤ most → 1 ≤ most → most < 256 * high + 256 → most < 2 ^ 16 → TellsCuts (read_length high most) (big_bytes 2) (IsLength most)
length_cuts high most low some small fits = record { cut = cut; short = short }
  where
    Ends : List ℕ → Type 0
    Ends bytes = (n : ℕ) × (more : List ℕ) × (big_bytes 2 n ≡ bytes ++ more) × IsLength most n

    within : (n : ℕ) → 1 ≤ n → n ≤ most → IsLength most n
    within n least at_most = (omega (arith, at_most, fits), rw (le-leb 1 n least, le-leb n most at_most) refl)

    one_byte : (byte : ℕ) → byte < 256 → byte ≤ high → Ends (byte ∷ [])
    one_byte zero is fine = (1, 1 ∷ [], refl, within 1 (lit≤ tt) some)
    one_byte (suc byte) is fine =
        let n = big_number 2 (suc byte ∷ 0 ∷ []) in
        (n, 0 ∷ [], bytes-of_number 2 (suc byte ∷ 0 ∷ []) refl (IsBytes-two (suc byte) 0 is (lit≤ tt)), within n (omega arith) (omega (arith, fine, low)))

    one : (byte : ℕ) → IsBytes (byte ∷ []) → (b : Bool) → leb byte high ≡ b → read_length high most (byte ∷ []) ≡ Err Short → Ends (byte ∷ [])
    one byte is true b e = one_byte byte (is zero) (leb-true byte high b)
    one byte is false b e = absurd (refused (sym (length_is high most byte [] false b) ∙ e))

    more_bytes : (byte next : ℕ) (rest : List ℕ) → (b : Bool) → leb byte high ≡ b → (t : Bool) → is_within 1 most (big_number 2 (byte ∷ next ∷ [])) ≡ t
        → read_length high most (byte ∷ next ∷ rest) ≡ Err Short → ⊥
    more_bytes byte next rest false b t u e = refused (sym (length_is high most byte (next ∷ rest) false b) ∙ e)
    more_bytes byte next rest true b true u e =
        refused_read Short (big_number 2 (byte ∷ next ∷ []), rest)
        (sym e ∙ number_is high most byte next rest b true u)
    more_bytes byte next rest true b false u e =
        refused (sym (number_is high most byte next rest b false u) ∙ e)

    cut : (bytes : List ℕ) → IsBytes bytes → read_length high most bytes ≡ Err Short → Ends bytes
    cut [] is e = (1, 0 ∷ 1 ∷ [], refl, within 1 (lit≤ tt) some)
    cut (byte ∷ []) is e = one byte is (leb byte high) refl e
    cut (byte ∷ next ∷ rest) is e = absurd (more_bytes byte next rest (leb byte high) refl (is_within 1 most (big_number 2 (byte ∷ next ∷ []))) refl e)

    short : (n : ℕ) (bytes more : List ℕ) → big_bytes 2 n ≡ bytes ++ more → more ≢ [] → IsLength most n → read_length high most bytes ≡ Err Short
    short n [] more e ne h = refl
    short n (byte ∷ []) more e ne h =
        let same : byte_at 1 n ≡ byte = cc in
        let limits = and_parts (leb 1 n) (leb n most) h.1 in
        length_is high most byte [] true (le-leb byte high (subst (λ (b : ℕ). b ≤ high) same (length_byte n high (omega (arith, leb-true n most limits.1, small)))))
    short n (byte ∷ next ∷ rest) [] e ne h = absurd (ne refl)
    short n (byte ∷ next ∷ rest) (m ∷ more) e ne h = absurd (omega (arith, ap length e, length-append rest (m ∷ more)))

length_field : (high most : ℕ) → most < 256 * high + 256 → IsField (read_length high most) (big_bytes 2) (IsLength most)
length_field high most small = record { spelled = spelled; again = again }
  where
    plain : IsField (read_where (is_within 1 most) (read_number 2)) (big_bytes 2) (IsLength most)
    plain = tested_field (is_within 1 most) (read_number 2) (big_bytes 2) (λ n. n < 256 ^ 2) (numbers_field 2)

    spelled : (bytes : List ℕ) (z : ℕ × List ℕ) → IsBytes bytes → read_length high most bytes ≡ Ok z → (bytes ≡ big_bytes 2 z.0 ++ z.1) × IsLength most z.0
    spelled [] z is e = plain.spelled [] z is e
    spelled (byte ∷ rest) z is e = by_byte (leb byte high) refl
      where
        by_byte : (b : Bool) → leb byte high ≡ b → (byte ∷ rest ≡ big_bytes 2 z.0 ++ z.1) × IsLength most z.0
        by_byte true b = plain.spelled (byte ∷ rest) z is (sym (length_is high most byte rest true b) ∙ e)
        by_byte false b = absurd (refused_read OutOfRange z (sym (length_is high most byte rest false b) ∙ e))

    again : (n : ℕ) (rest : List ℕ) → IsLength most n → read_length high most (big_bytes 2 n ++ rest) ≡ Ok (n, rest)
    again n rest h =
        let limits = and_parts (leb 1 n) (leb n most) h.1 in
        length_is high most (byte_at 1 n) (byte_at 0 n ∷ rest) true (le-leb (byte_at 1 n) high (length_byte n high (omega (arith, leb-true n most limits.1, small)))) ∙ plain.again n rest h

-- bytes behind a length
up_to_then : (high most : ℕ) (bytes : List ℕ) → read_up_to high (read_counted 1 most) bytes ≡ read_then (read_length high most) read_bytes bytes
unfolding read_counted
up_to_then high most [] = refl
up_to_then high most (byte ∷ rest) = by_byte (leb byte high) refl
  where
    by_byte : (b : Bool) → leb byte high ≡ b → read_up_to high (read_counted 1 most) (byte ∷ rest) ≡ read_then (read_length high most) read_bytes (byte ∷ rest)
    by_byte true b = rw b refl
    by_byte false b = rw b refl

counted_cuts : (high most : ℕ) → 256 * high ≤ most → 1 ≤ most → most < 256 * high + 256 → most < 2 ^ 16 → TellsCuts (read_up_to high (read_counted 1 most)) counted_bytes (IsWithin 1 most)
counted_cuts high most low some small fits =
    read_the_same
    (allowed_cuts (λ x h. let limits = and_parts (leb 1 (length x)) (leb (length x) most) h.0.1 in (leb-true _ _ limits.0, leb-true _ _ limits.1, h.1))
    (λ x h. ((omega (arith, h.1, fits), rw (le-leb 1 (length x) h.0, le-leb (length x) most h.1) refl), h.2))
    (then_cuts length (read_length high most) read_bytes (big_bytes 2) (λ x. x) (IsLength most) IsBytes
    (length_field high most small) (length_cuts high most low some small fits)
    (λ n _. allowed_cuts (λ x h. (h.1, h.0)) (λ x h. (h.1, h.0)) (bytes_cuts n))
    (λ n _. (replicate n 0, (IsBytes-zeros n, length-replicate n 0)))))
  where
    read_the_same : TellsCuts (read_then (read_length high most) read_bytes) counted_bytes (IsWithin 1 most) → TellsCuts (read_up_to high (read_counted 1 most)) counted_bytes (IsWithin 1 most)
    read_the_same tells =
        record {
          cut = λ bytes is e. tells.cut bytes is (sym (up_to_then high most bytes) ∙ e);
          short = λ x bytes more e ne h. up_to_then high most bytes ∙ tells.short x bytes more e ne h;
        }

-- ---- records

-- no value is short of itself
no_more : (xs more : List ℕ) → [] ≡ xs ++ more → more ≢ [] → ⊥
no_more xs [] e ne = ne refl
no_more xs (m ∷ more) e ne = omega (arith, ap length e, length-append xs (m ∷ more))

policy_if_cuts : (has : Bool) → TellsCuts (read_policy_if has) policy_bytes (λ policy. has_policy policy ≡ has)
policy_if_cuts false = record { cut = λ bytes is e. absurd (refused_read Short (None, bytes) (sym e)); short = short }
  where
    short : (policy : Option Policy) (bytes more : List ℕ) → policy_bytes policy ≡ bytes ++ more → more ≢ [] → has_policy policy ≡ false → read_policy_if false bytes ≡ Err Short
    short None bytes more e ne h = absurd (no_more bytes more e ne)
    short (Some policy) bytes more e ne h = absurd cc
policy_if_cuts true = record { cut = cut; short = short }
  where
    one_of : (byte : ℕ) (rest : List ℕ) → read_policy_if true (byte ∷ rest) ≡ Err Short → ⊥
    one_of zero rest e = refused e
    one_of (suc zero) rest e = refused_read Short (Some Open, rest) (sym e)
    one_of (suc (suc zero)) rest e = refused_read Short (Some Final, rest) (sym e)
    one_of (suc (suc (suc byte))) rest e = refused (sym (rw (ne_eqb (suc (suc (suc byte))) 1 (λ same. omega (arith, same)), ne_eqb (suc (suc (suc byte))) 2 (λ same. omega (arith, same))) refl) ∙ e)

    cut : (bytes : List ℕ) → IsBytes bytes → read_policy_if true bytes ≡ Err Short → (policy : Option Policy) × (more : List ℕ) × (policy_bytes policy ≡ bytes ++ more) × (has_policy policy ≡ true)
    cut [] is e = (Some Open, 1 ∷ [], refl, refl)
    cut (byte ∷ rest) is e = absurd (one_of byte rest e)

    short : (policy : Option Policy) (bytes more : List ℕ) → policy_bytes policy ≡ bytes ++ more → more ≢ [] → has_policy policy ≡ true → read_policy_if true bytes ≡ Err Short
    short None bytes more e ne h = absurd cc
    short (Some policy) [] more e ne h = refl
    short (Some policy) (byte ∷ rest) more e ne h = absurd (no_more rest more (cc e) ne)

with_cuts : (verb : Verb) (has : Bool) → TellsCuts (read_with verb has) policy_behind (HasMark (verb_byte verb has))
with_cuts verb has =
    allowed_cuts (with_mark verb has) (mark_with verb has)
    (renamed_cuts (λ (policy : Option Policy). (verb, policy)) (λ (verbed : Verbed). verbed.1) (read_policy_if has) policy_bytes (λ policy. has_policy policy ≡ has) (λ _ _. refl) (policy_if_cuts has))

verbs_cuts : (byte : ℕ) → IsMark byte → TellsCuts (read_verb_of byte) policy_behind (HasMark byte)
verbs_cuts zero h = absurd cc
verbs_cuts (suc zero) h = with_cuts Register false
verbs_cuts (suc (suc zero)) h = with_cuts Change false
verbs_cuts (suc (suc (suc zero))) h = with_cuts Register true
verbs_cuts (suc (suc (suc (suc zero)))) h = with_cuts Change true
verbs_cuts (suc (suc (suc (suc (suc byte))))) h = absurd (omega (arith, leb-true (suc (suc (suc (suc (suc byte))))) 4 (and_parts _ _ h.1).1))

-- some verb has each of these bytes
some_verb : (byte : ℕ) → IsMark byte → (verbed : Verbed) × HasMark byte verbed
some_verb zero h = absurd cc
some_verb (suc zero) h = ((Register, None), (tt, refl))
some_verb (suc (suc zero)) h = ((Change, None), (tt, refl))
some_verb (suc (suc (suc zero))) h = ((Register, Some Open), (tt, refl))
some_verb (suc (suc (suc (suc zero)))) h = ((Change, Some Open), (tt, refl))
some_verb (suc (suc (suc (suc (suc byte))))) h = absurd (omega (arith, leb-true (suc (suc (suc (suc (suc byte))))) 4 (and_parts _ _ h.1).1))

byte_cuts : TellsCuts (read_where (is_within 1 4) read_byte) (λ byte. byte ∷ []) IsMark
byte_cuts = record { cut = cut; short = short }
  where
    passes : (byte : ℕ) (rest : List ℕ) → (b : Bool) → is_within 1 4 byte ≡ b → read_where (is_within 1 4) read_byte (byte ∷ rest) ≡ Err Short → ⊥
    passes byte rest true b e = refused_read Short (byte, rest) (sym e ∙ where_is (is_within 1 4) byte rest true b)
    passes byte rest false b e = refused (sym (where_is (is_within 1 4) byte rest false b) ∙ e)

    cut : (bytes : List ℕ) → IsBytes bytes → read_where (is_within 1 4) read_byte bytes ≡ Err Short → (x : ℕ) × (more : List ℕ) × (x ∷ [] ≡ bytes ++ more) × IsMark x
    cut [] is e = (1, 1 ∷ [], refl, (lit≤ tt, refl))
    cut (byte ∷ rest) is e = absurd (passes byte rest (is_within 1 4 byte) refl e)

    short : (x : ℕ) (bytes more : List ℕ) → x ∷ [] ≡ bytes ++ more → more ≢ [] → IsMark x → read_where (is_within 1 4) read_byte bytes ≡ Err Short
    short x [] more e ne h = refl
    short x (byte ∷ rest) more e ne h = absurd (no_more rest more (cc e) ne)

verb_cuts : TellsCuts read_verb verb_bytes (λ _. Unit {0})
unfolding read_verb
verb_cuts =
    allowed_cuts (λ _ _. tt) (λ verbed _. (is_mark verbed.0 (has_policy verbed.1), tt))
    (then_cuts mark_of (read_where (is_within 1 4) read_byte) read_verb_of (λ byte. byte ∷ []) policy_behind IsMark (λ _. Unit {0}) mark_field byte_cuts verbs_cuts some_verb)

pub start_cuts : TellsCuts read_start start_bytes IsStart
unfolding read_start
start_cuts =
    mark_cuts 0x4e (mark_cuts 1
    (allowed_cuts {s = λ beginning. spelled_beginning (beginning_parts beginning)} {P = IsBeginning} beginning_is is_beginning
    (renamed_cuts beginning_of beginning_parts _ spelled_beginning BeginningParts (λ _ _. refl)
    (both_cuts (numbers_field 8) (numbers_cuts 8)
    (both_cuts (bytes_field 32) (bytes_cuts 32)
    (both_cuts (bytes_field 32) (bytes_cuts 32) (bytes_cuts 32) zeros zeros_32) (zeros, zeros) (zeros_32, zeros_32)) (zeros, (zeros, zeros)) (zeros_32, (zeros_32, zeros_32)))))
    nothing nothing_is) nothing nothing_is
  where
    zeros : List ℕ
    zeros = replicate 32 0

    nothing : Beginning
    nothing = record { epoch = 0; nonce = zeros; signing_key = zeros; vuf_key = zeros }

    nothing_is : IsStart nothing
    nothing_is = (lit≤ tt, zeros_32, zeros_32, zeros_32)

bound_cuts : TellsCuts read_bound later_parts (OfKind 0x4f)
unfolding read_bound
bound_cuts =
    allowed_cuts binding_is is_binding
    (respelled_cuts {s = λ kept. spelled_bound (bound_parts kept)} {P = IsBinding} bound_same
    (renamed_cuts bound_of bound_parts _ spelled_bound BoundParts (λ _ _. refl)
    (both_cuts verb_field verb_cuts
    (both_cuts (bytes_field 32) (bytes_cuts 32)
    (both_cuts (counted_up_to 0 255 (lit≤ tt) (lit≤ tt)) (counted_cuts 0 255 (lit≤ tt) (lit≤ tt) (lit≤ tt) (lit≤ tt)) (counted_cuts 8 2048 (lit≤ tt) (lit≤ tt) (lit≤ tt) (lit≤ tt))
    one (one_zero 2048 (lit≤ tt))) (one, one) (one_zero 255 (lit≤ tt), one_zero 2048 (lit≤ tt)))
    (zeros, (one, one)) (zeros_32, (one_zero 255 (lit≤ tt), one_zero 2048 (lit≤ tt))))))
  where
    zeros : List ℕ
    zeros = replicate 32 0

    one : List ℕ
    one = 0 ∷ []

turned_cuts : TellsCuts read_turned later_parts (OfKind 0x43)
turned_cuts =
    allowed_cuts turned_is is_turned
    (respelled_cuts {s = λ kept. big_bytes 8 (epoch_of kept)} {P = IsTurned} turned_same
    (renamed_cuts turned_of epoch_of (read_number 8) (big_bytes 8) (λ n. n < 256 ^ 8) (λ _ _. refl) (numbers_cuts 8)))

rotated_cuts : TellsCuts read_rotated later_parts (OfKind 0x4b)
rotated_cuts =
    allowed_cuts rotated_is is_rotated
    (respelled_cuts {s = λ kept. spelled_rotated (rotated_parts kept)} {P = IsRotated} rotated_same
    (renamed_cuts rotated_of rotated_parts _ spelled_rotated RotatedParts (λ _ _. refl)
    (both_cuts (numbers_field 8) (numbers_cuts 8) (bytes_cuts 32) (replicate 32 0) zeros_32)))

pub later_cuts : TellsCuts read_later record_bytes IsLater
unfolding read_later
later_cuts = record { cut = cut; short = short }
  where
    Ends : List ℕ → Type 0
    Ends bytes = (kept : Record) × (more : List ℕ) × (record_bytes kept ≡ bytes ++ more) × IsLater kept

    spelled : (kept : Record) → IsLater kept → record_bytes kept ≡ kind_of kept ∷ later_parts kept
    spelled (Start epoch nonce signing_key vuf_key) h = absurd h
    spelled (Bound verb salt name key) h = refl
    spelled (Turned epoch None) h = refl
    spelled (Turned epoch (Some nonce)) h = refl

    of_kind : (kind : ℕ) (rest : List ℕ) → (kept : Record) × (more : List ℕ) × (later_parts kept ≡ rest ++ more) × OfKind kind kept → Ends (kind ∷ rest)
    of_kind kind rest c = (c.0, c.1, spelled c.0 c.3.0 ∙ rw (c.3.1, c.2) refl, c.3.0)

    third : (kind : ℕ) (rest : List ℕ) → IsBytes rest → (kind == 0x4f) ≡ false → (kind == 0x43) ≡ false → (b : Bool) → (kind == 0x4b) ≡ b → read_later_of kind rest ≡ Err Short → Ends (kind ∷ rest)
    third kind rest is one other true b e = of_kind kind rest (subst (λ (k : ℕ). (kept : Record) × (more : List ℕ) × (later_parts kept ≡ rest ++ more) × OfKind k kept) (sym (eqb-true kind 0x4b b)) (rotated_cuts.cut rest is (sym (rw (one, other, b) refl) ∙ e)))
    third kind rest is one other false b e = absurd (refused (sym (rw (one, other, b) refl) ∙ e))

    second : (kind : ℕ) (rest : List ℕ) → IsBytes rest → (kind == 0x4f) ≡ false → (b : Bool) → (kind == 0x43) ≡ b → read_later_of kind rest ≡ Err Short → Ends (kind ∷ rest)
    second kind rest is other true b e = of_kind kind rest (subst (λ (k : ℕ). (kept : Record) × (more : List ℕ) × (later_parts kept ≡ rest ++ more) × OfKind k kept) (sym (eqb-true kind 0x43 b)) (turned_cuts.cut rest is (sym (rw (other, b) refl) ∙ e)))
    second kind rest is other false b e = third kind rest is other b (kind == 0x4b) refl e

    first : (kind : ℕ) (rest : List ℕ) → IsBytes rest → (b : Bool) → (kind == 0x4f) ≡ b → read_later_of kind rest ≡ Err Short → Ends (kind ∷ rest)
    first kind rest is true b e = of_kind kind rest (subst (λ (k : ℕ). (kept : Record) × (more : List ℕ) × (later_parts kept ≡ rest ++ more) × OfKind k kept) (sym (eqb-true kind 0x4f b)) (bound_cuts.cut rest is (sym (rw b refl) ∙ e)))
    first kind rest is false b e = second kind rest is b (kind == 0x43) refl e

    cut : (bytes : List ℕ) → IsBytes bytes → read_later bytes ≡ Err Short → Ends bytes
    cut [] is e = (turned_of 0, record_bytes (turned_of 0), refl, lit≤ tt)
    cut (kind ∷ rest) is e = first kind rest (λ k. is (suc k)) (kind == 0x4f) refl e

    short_rest : (kept : Record) (rest more : List ℕ) → later_parts kept ≡ rest ++ more → more ≢ [] → IsLater kept → read_later_of (kind_of kept) rest ≡ Err Short
    short_rest (Start epoch nonce signing_key vuf_key) rest more e ne h = absurd h
    short_rest (Bound verb salt name key) rest more e ne h = bound_cuts.short (Bound verb salt name key) rest more e ne (h, refl)
    short_rest (Turned epoch None) rest more e ne h = turned_cuts.short (turned_of epoch) rest more e ne (h, refl)
    short_rest (Turned epoch (Some nonce)) rest more e ne h = rotated_cuts.short (Turned epoch (Some nonce)) rest more e ne (h, refl)

    short : (kept : Record) (bytes more : List ℕ) → record_bytes kept ≡ bytes ++ more → more ≢ [] → IsLater kept → read_later bytes ≡ Err Short
    short kept [] more e ne h = refl
    short kept (kind ∷ rest) more e ne h =
        let both_are : kind_of kept ∷ later_parts kept ≡ kind ∷ (rest ++ more) = sym (spelled kept h) ∙ e in
        let same : kind_of kept ≡ kind = cc in
        let left : later_parts kept ≡ rest ++ more = cc in
        subst (λ (k : ℕ). read_later_of k rest ≡ Err Short) same (short_rest kept rest more left ne h)
