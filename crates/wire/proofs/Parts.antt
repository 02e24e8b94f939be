-- A part of a stream that reaches no further than the end of a length, or of a frame, ends at most one message.
use Rattle.std.proofs.Common.{◌≡◌, ℕ, ◌+◌, ◌-◌, ◌<◌, ◌≤◌, max, Bool, true, false, List, [], ◌∷◌, ◌++◌, length, take, drop, Ok, Err, refl, sym, ap, subst, ◌∙◌, append_assoc, length-append, length-drop, arith, inl, inr}
use Rattle.std.proofs.Math.Nat.{lt_of_not-le}
use Rattle.std.proofs.lemmas.Bool.{cases_lt, le-ltb, lt-ltb}
use Rattle.encoding.specs.declared.fault.Fault.{Fault}
use Rattle.encoding.specs.declared.fault.Fault.TheVariants.{Short}
use Rattle.encoding.specs.Bytes.{IsBytes}
use Rattle.encoding.specs.Endian.{big_bytes, big_number}
use Rattle.encoding.specs.Reading.{is_within, read_number}
use Rattle.encoding.proofs.ByteLists.{IsBytes-append}
use Rattle.encoding.proofs.Fields.{numbers_field, ok_is}
use Rattle.wire.specs.Frames.{Frame, frame_size, read_frame}
use Rattle.wire.specs.Streams.{Rest, Whole, BadFrame, missing_of, EndsOne, IsSpent}
use Rattle.wire.specs.declared.frame.TheConstants.{MAX_FRAME_LEN}
use Rattle.wire.proofs.Faults.{field-more}
use Rattle.wire.proofs.Frames.{frame_field, left_is, size_limits}
use Rattle.wire.proofs.Splitting.{by_bad, by_size, four_missing, four_read, frame_there}
use Rattle.wire.proofs.Streams.{nothing_yet}

none_left : (left : List ℕ) → length left ≤ 0 → left ≡ []
none_left [] few = refl
none_left (byte ∷ more) few = absurd (omega (arith, few))

-- ---- a length

pub few_end_one : (held part : List ℕ) → IsBytes held → IsBytes part → length held + length part ≤ 4 → EndsOne (Rest held) part
few_end_one held part small p few spent (Whole frame) after (left, e, same) =
    let t = left_is (held ++ part) frame left (IsBytes-append held part small p) e in
    absurd (omega (arith, t.1, length-append held part, few))
few_end_one held part small p few spent BadFrame after (e, same) = subst IsSpent (sym same) tt

-- ---- a frame

-- the number that stands in front is that of the frame
same_size : (bytes : List ℕ) (frame : Frame) (left : List ℕ) (size : ℕ) (rest : List ℕ) → IsBytes bytes
    → read_frame bytes ≡ Ok (frame, left) → read_number 4 bytes ≡ Ok (size, rest) → size ≡ frame_size frame
same_size bytes frame left size rest small e number =
    let t = frame_field.spelled bytes (frame, left) small e in
    let again = ap (read_number 4) (t.0 ∙ append_assoc (big_bytes 4 (frame_size frame)) (frame.kind ∷ frame.body) left)
    ∙ (numbers_field 4).again (frame_size frame) ((frame.kind ∷ frame.body) ++ left) (omega (arith, t.1.0)) in
    ap (λ (x : ℕ × List ℕ). x.0) (ok_is (size, rest) (frame_size frame, (frame.kind ∷ frame.body) ++ left) (sym number ∙ again))

pub rest_ends_one : (held part : List ℕ) (size : ℕ) (rest : List ℕ) → IsBytes held → IsBytes part
    → read_number 4 held ≡ Ok (size, rest) → length held + length part ≤ 4 + size → EndsOne (Rest held) part
rest_ends_one held part size rest small p number few spent (Whole frame) after (left, e, same) =
    let bytes = IsBytes-append held part small p in
    let t = left_is (held ++ part) frame left bytes e in
    let more = field-more (read_number 4) (big_bytes 4) _ (numbers_field 4) held part size rest small number in
    let is = same_size (held ++ part) frame left size (rest ++ part) bytes e more in
    let none = none_left left (omega (arith, ap length t.0, length-append held part, length-drop (5 + length frame.body) (held ++ part), few, is)) in
    subst IsSpent (sym same) (subst (λ (x : List ℕ). IsSpent (Rest x)) (sym none) nothing_yet)
rest_ends_one held part size rest small p number few spent BadFrame after (e, same) = subst IsSpent (sym same) tt

-- ---- what is missing

-- a frame that is not whole has fewer bytes than its length says
lacks_by : (held : List ℕ) (size : ℕ) (rest : List ℕ) → read_number 4 held ≡ Ok (size, rest) → read_frame held ≡ Err Short
    → (within : Bool) → is_within 1 MAX_FRAME_LEN size ≡ within → size ≤ length rest → ⊥
lacks_by held size rest number short true within long =
    let there = frame_there size rest (size_limits size within).0 long in
    let read = sym (by_size held size rest number within ∙ there.1) ∙ short in cc
lacks_by held size rest number short false within long =
    let read = sym (by_bad held size rest number within) ∙ short in cc

pub missing_ends_one : (held part : List ℕ) (size : ℕ) (rest : List ℕ) → IsBytes held → IsBytes part → read_number 4 held ≡ Ok (size, rest) → length held ≡ 4 + length rest
    → (length rest < size → length part ≤ 4 + size - length held) → EndsOne (Rest held) part
missing_ends_one held part size rest small p number long few spent =
    let short = lt_of_not-le (λ whole. lacks_by held size rest number spent (is_within 1 MAX_FRAME_LEN size) refl whole) in
    rest_ends_one held part size rest small p number (omega (arith, few short, long, short)) spent

-- bytes that have no number of four bytes
pub no_number : (bytes : List ℕ) (fault : Fault) → read_number 4 bytes ≡ Err fault → length bytes < 4
no_number bytes fault e = lt_of_not-le (λ long. let read = sym e ∙ four_read bytes long in cc)

-- what is left behind a number of four bytes
pub number_length : (bytes : List ℕ) (n : ℕ) (rest : List ℕ) → read_number 4 bytes ≡ Ok (n, rest) → length bytes ≡ 4 + length rest
number_length bytes n rest e = elim (cases_lt (length bytes) 4) [
  | inl short ↦ let read = sym e ∙ four_missing bytes short in cc
  | inr long ↦
      let behind = ap (λ (x : ℕ × List ℕ). x.1) (ok_is (n, rest) (big_number 4 (take 4 bytes), drop 4 bytes) (sym e ∙ four_read bytes long)) in
      omega (arith, ap length behind, length-drop 4 bytes, long)
]

-- the bytes that are missing to a frame whose length is there
pub missing_frame : (held : List ℕ) (size : ℕ) (rest : List ℕ) (whole left result : ℕ) → read_number 4 held ≡ Ok (size, rest)
    → whole ≡ 4 + size → left ≡ whole - length held → result ≡ max left 1 → result ≡ missing_of held
unfolding missing_of
missing_frame held size rest whole left result number w l r =
    let long : 4 ≤ length held = omega (arith, number_length held size rest number) in
    let same = ap (λ (x : ℕ × List ℕ). x.0) (ok_is (size, rest) (big_number 4 (take 4 held), drop 4 held) (sym number ∙ four_read held long)) in
    rw (r, l, w, same, le-ltb (length held) 4 long) refl

-- those that are missing to a length
pub missing_length : (held : List ℕ) (whole left result : ℕ) → length held < 4 → whole ≡ 4 → left ≡ whole - length held → result ≡ max left 1 → result ≡ missing_of held
unfolding missing_of
missing_length held whole left result short w l r = rw (r, l, w, lt-ltb (length held) 4 short) refl
