-- A stream is whole frames and a rest in one way, and what it tells message by message is what it spells.
use Rattle.std.proofs.Common.{◌≡◌, ℕ, ◌-◌, ◌<◌, ◌≤◌, Bool, true, false, ltb, List, [], ◌∷◌, ◌++◌, length, take, drop, flat_map, Ok, Err, refl, sym, ap, subst, ◌∙◌, append_assoc, arith, inl, inr, ◌⊎◌}
use Rattle.std.proofs.lemmas.Bool.{le-ltb, lt-ltb, ltb-false, ltb-true}
use Rattle.encoding.specs.declared.fault.Fault.TheVariants.{Short, OutOfRange}
use Rattle.encoding.specs.Bytes.{IsBytes, joined}
use Rattle.encoding.specs.Endian.{big_bytes, big_number}
use Rattle.encoding.specs.Reading.{is_within, read_number}
use Rattle.encoding.proofs.ByteLists.{IsBytes-append, IsBytes-back}
use Rattle.encoding.proofs.Fields.{numbers_field, one_spelling, refused_read}
use Rattle.wire.specs.Frames.{Frame, frame_bytes, frame_of, read_frame, read_framed, IsFrame, IsFrameSize}
use Rattle.wire.specs.Streams.{Remainder, Message, Rest, Failed, Whole, BadFrame, whole_messages, BeginsFrame, HasBadLength, IsSpent, SpellsMessages, Splits, TakesMessage, TellsAll, TellsMessages}
use Rattle.wire.specs.Laws.{Hears}
use Rattle.wire.proofs.Frames.{frame_field, size_limits, size_within}
use Rattle.wire.proofs.Faults.{frame_faults, IsBadSize}
use Rattle.wire.proofs.Streams.{hears-joined, none-bytes, nothing_yet}
use Rattle.wire.specs.declared.frame.TheConstants.{MAX_FRAME_LEN}

-- ---- less than a frame

-- a kind and a body of so many bytes are there
pub frame_there : (size : ℕ) (bytes : List ℕ) → 1 ≤ size → size ≤ length bytes → (x : Frame × List ℕ) × (read_framed size bytes ≡ Ok x)
frame_there size [] some long = absurd (omega (arith, some, long))
frame_there size (kind ∷ body) some long =
    ((frame_of (kind, take (size - 1) body), drop (size - 1) body), rw (le-ltb (length body) (size - 1) (omega (arith, some, long))) refl)

-- they are not
frame_missing : (size : ℕ) (bytes : List ℕ) → length bytes < size → read_framed size bytes ≡ Err Short
frame_missing size [] short = refl
frame_missing size (kind ∷ body) short = rw (lt-ltb (length body) (size - 1) (omega (arith, short))) refl

pub four_read : (bytes : List ℕ) → 4 ≤ length bytes → read_number 4 bytes ≡ Ok (big_number 4 (take 4 bytes), drop 4 bytes)
four_read bytes long = rw (le-ltb (length bytes) 4 long) refl

four_there : (bytes : List ℕ) → 4 ≤ length bytes → (x : ℕ × List ℕ) × (read_number 4 bytes ≡ Ok x)
four_there bytes long = ((big_number 4 (take 4 bytes), drop 4 bytes), four_read bytes long)

pub four_missing : (bytes : List ℕ) → length bytes < 4 → read_number 4 bytes ≡ Err Short
four_missing bytes short = rw (lt-ltb (length bytes) 4 short) refl

-- the reader, by what the first four bytes are
by_none : (bytes : List ℕ) → read_number 4 bytes ≡ Err Short → read_frame bytes ≡ Err Short
unfolding read_frame
by_none bytes e = rw e refl

pub by_size : (bytes : List ℕ) (size : ℕ) (rest : List ℕ) → read_number 4 bytes ≡ Ok (size, rest) → is_within 1 MAX_FRAME_LEN size ≡ true → read_frame bytes ≡ read_framed size rest
unfolding read_frame
by_size bytes size rest e within = rw (e, within) refl

pub by_bad : (bytes : List ℕ) (size : ℕ) (rest : List ℕ) → read_number 4 bytes ≡ Ok (size, rest) → is_within 1 MAX_FRAME_LEN size ≡ false → read_frame bytes ≡ Err OutOfRange
unfolding read_frame
by_bad bytes size rest e within = rw (e, within) refl

pub begins_short : (bytes : List ℕ) → BeginsFrame bytes → read_frame bytes ≡ Err Short
begins_short bytes (inl few) = by_none bytes (four_missing bytes few)
begins_short bytes (inr (size, part, limits, e, short)) =
    ap read_frame e
    ∙ by_size (big_bytes 4 size ++ part) size part ((numbers_field 4).again size part (omega (arith, limits.1))) (size_within size limits.0 limits.1)
    ∙ frame_missing size part short

-- the test fails where the number is none of a frame
not_within : (size : ℕ) → ¬ IsFrameSize size → is_within 1 MAX_FRAME_LEN size ≡ false
not_within size not = by (is_within 1 MAX_FRAME_LEN size) refl
  where
    by : (b : Bool) → is_within 1 MAX_FRAME_LEN size ≡ b → b ≡ false
    by true e = absurd (not (size_limits size e))
    by false e = refl

pub bad_refused : (bytes : List ℕ) → HasBadLength bytes → read_frame bytes ≡ Err OutOfRange
bad_refused bytes (size, more, fits, not, e) =
    ap read_frame e ∙ by_bad (big_bytes 4 size ++ more) size more ((numbers_field 4).again size more (omega (arith, fits))) (not_within size not)

pub short_begins : (bytes : List ℕ) → IsBytes bytes → read_frame bytes ≡ Err Short → BeginsFrame bytes
short_begins bytes small e = by (ltb (length bytes) 4) refl
  where
    by_part : (size : ℕ) (rest : List ℕ) → read_number 4 bytes ≡ Ok (size, rest) → (b : Bool) → is_within 1 MAX_FRAME_LEN size ≡ b → (c : Bool) → ltb (length rest) size ≡ c → BeginsFrame bytes
    by_part size rest four true within true short =
        inr (size, rest, size_limits size within, ((numbers_field 4).spelled bytes (size, rest) small four).0, ltb-true (length rest) size short)
    by_part size rest four true within false long =
        let there = frame_there size rest (size_limits size within).0 (ltb-false (length rest) size long) in
        absurd (refused_read Short there.0 (sym e ∙ by_size bytes size rest four within ∙ there.1))
    by_part size rest four false without c long = absurd (let wrong = sym e ∙ by_bad bytes size rest four without in cc)

    by : (b : Bool) → ltb (length bytes) 4 ≡ b → BeginsFrame bytes
    by true few = inl (ltb-true (length bytes) 4 few)
    by false long =
        let four = four_there bytes (ltb-false (length bytes) 4 long) in
        by_part four.0.0 four.0.1 four.1 (is_within 1 MAX_FRAME_LEN four.0.0) refl (ltb (length four.0.1) four.0.0) refl

pub bad_begins : (bytes : List ℕ) → IsBytes bytes → read_frame bytes ≡ Err OutOfRange → HasBadLength bytes
unfolding IsBadSize
bad_begins bytes small e =
    elim (frame_faults bytes OutOfRange e) [
      | inl a ↦ absurd cc
      | inr a ↦ by a.1
    ]
  where
    by : ((n : ℕ) × (left : List ℕ) × (read_number 4 bytes ≡ Ok (n, left)) × (is_within 1 MAX_FRAME_LEN n ≡ false)) → HasBadLength bytes
    by (n, left, read, without) =
        let t = (numbers_field 4).spelled bytes (n, left) small read in
        (n, left, omega (arith, t.1), (λ size. let wrong = sym without ∙ size_within n size.0 size.1 in cc), t.0)

-- ---- one way

no_frame_in : (rest : List ℕ) (frame : Frame) (more : List ℕ) → IsFrame frame → rest ≡ frame_bytes frame ++ more → BeginsFrame rest ⊎ HasBadLength rest → ⊥
no_frame_in rest frame more is e (inl begins) = refused_read Short (frame, more) (sym (begins_short rest begins) ∙ ap read_frame e ∙ frame_field.again frame more is)
no_frame_in rest frame more is e (inr bad) = refused_read OutOfRange (frame, more) (sym (bad_refused rest bad) ∙ ap read_frame e ∙ frame_field.again frame more is)

pub split_once : (stream : List ℕ) (frames others : List Frame) (rest left : List ℕ) → Splits stream frames rest → Splits stream others left → (frames ≡ others) × (rest ≡ left)
split_once stream [] [] rest left one two = (refl, sym one.0 ∙ two.0)
split_once stream [] (g ∷ gs) rest left one two =
    absurd (no_frame_in rest g (flat_map frame_bytes gs ++ left) two.1.0 (sym one.0 ∙ two.0 ∙ append_assoc (frame_bytes g) (flat_map frame_bytes gs) left) one.2)
split_once stream (f ∷ fs) [] rest left one two =
    absurd (no_frame_in left f (flat_map frame_bytes fs ++ rest) one.1.0 (sym two.0 ∙ one.0 ∙ append_assoc (frame_bytes f) (flat_map frame_bytes fs) rest) two.2)
split_once stream (f ∷ fs) (g ∷ gs) rest left one two =
    let same = one_spelling read_frame frame_bytes IsFrame frame_field f g (flat_map frame_bytes fs ++ rest) (flat_map frame_bytes gs ++ left) one.1.0 two.1.0
    (sym (append_assoc (frame_bytes f) (flat_map frame_bytes fs) rest) ∙ sym one.0 ∙ two.0 ∙ append_assoc (frame_bytes g) (flat_map frame_bytes gs) left) in
    let more = split_once (flat_map frame_bytes fs ++ rest) fs gs rest left (refl, one.1.1, one.2) (same.1, two.1.1, two.2) in
    (cc (same.0, more.0), more.1)

-- ---- messages

-- a frame in front, and what the rest of the stream spells
frame_first : (stream left : List ℕ) (frame : Frame) (messages : List Message) (held : Remainder) → stream ≡ frame_bytes frame ++ left → IsFrame frame
    → SpellsMessages left messages held → SpellsMessages stream (Whole frame ∷ messages) held
frame_first stream left frame messages held e is (frames, rest, splits, how) = (
  frame ∷ frames,
  rest,
  (e ∙ ap (λ (w : List ℕ). frame_bytes frame ++ w) splits.0 ∙ sym (append_assoc (frame_bytes frame) (flat_map frame_bytes frames) rest), (is, splits.1), splits.2),
  ending how,
)
  where
    ending : (BeginsFrame rest × (messages ≡ whole_messages frames []) × (held ≡ Rest rest)) ⊎ (HasBadLength rest × (messages ≡ whole_messages frames (BadFrame ∷ [])) × (held ≡ Failed))
        → (BeginsFrame rest × (Whole frame ∷ messages ≡ whole_messages (frame ∷ frames) []) × (held ≡ Rest rest)) ⊎ (HasBadLength rest × (Whole frame ∷ messages ≡ whole_messages (frame ∷ frames) (BadFrame ∷ [])) × (held ≡ Failed))
    ending (inl h) = inl (h.0, ap (λ (w : List Message). Whole frame ∷ w) h.1, h.2)
    ending (inr h) = inr (h.0, ap (λ (w : List Message). Whole frame ∷ w) h.1, h.2)

pub tells_spells : (stream : List ℕ) (messages : List Message) (after : Remainder) → IsBytes stream → TellsAll (Rest stream) messages after → SpellsMessages stream messages after
tells_spells stream [] after small (same, spent) =
    let begins = short_begins stream small (subst IsSpent same spent) in
    ([], stream, (refl, tt, inl begins), inl (begins, refl, same))
tells_spells stream (Whole frame ∷ more) after small ((between, (left, read, is), rest), spent) =
    let t = frame_field.spelled stream (frame, left) small read in
    frame_first stream left frame more after t.0 t.1
    (tells_spells left more after (IsBytes-back (frame_bytes frame) left (subst IsBytes t.0 small)) (subst (λ (held : Remainder). TellsMessages held more after) is rest, spent))
tells_spells stream (BadFrame ∷ []) after small ((between, (read, is), rest), spent) =
    let bad = bad_begins stream small read in
    ([], stream, (refl, tt, inr bad), inr (bad, refl, rest ∙ is))
tells_spells stream (BadFrame ∷ message ∷ more) after small ((between, (read, is), (next, takes, rest)), spent) =
    absurd (subst (λ (held : Remainder). TakesMessage held message next) is takes)

-- ---- pieces

pieces_bytes : (held : Remainder) (pieces : List (List ℕ)) (messages : List Message) (after : Remainder) → Hears held pieces messages after → IsBytes (joined pieces)
pieces_bytes held [] messages after hears = none-bytes
pieces_bytes held (piece ∷ more) messages after (now, later, between, split, p, told, rest) =
    IsBytes-append piece (joined more) p (pieces_bytes between more later after rest)

pub pieces_spell : (pieces : List (List ℕ)) (messages : List Message) (after : Remainder) → Hears (Rest []) pieces messages after → SpellsMessages (joined pieces) messages after
pieces_spell pieces messages after hears =
    tells_spells (joined pieces) messages after (pieces_bytes (Rest []) pieces messages after hears) (hears-joined (Rest []) pieces messages after none-bytes nothing_yet hears)
