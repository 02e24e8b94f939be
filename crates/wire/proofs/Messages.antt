-- The messages of a session, as a function, are all that it tells; and one frame is one message.
use Rattle.std.proofs.Common.{◌≡◌, ℕ, zero, suc, ◌+◌, ◌<◌, ◌≤◌, List, [], ◌∷◌, length, Ok, Err, refl, sym, ap, subst, ◌∙◌, arith, length-drop, inl, inr}
use Rattle.std.proofs.lemmas.List.{append-nil}
use Rattle.encoding.specs.declared.fault.Fault.TheVariants.{Short, Trailing, OutOfRange}
use Rattle.encoding.specs.Bytes.{IsBytes}
use Rattle.encoding.specs.Reading.{Reading}
use Rattle.encoding.proofs.ByteLists.{IsBytes-back}
use Rattle.wire.specs.Frames.{Frame, frame_bytes, read_frame, IsFrame}
use Rattle.wire.specs.Streams.{Remainder, Message, Rest, Failed, Whole, after_first, first_by, held_size, messages, messages_within, AreBytes, TellsAll}
use Rattle.wire.proofs.Frames.{frame_field, left_is}
use Rattle.wire.proofs.Faults.{frame_faults}
use Rattle.wire.proofs.Streams.{nothing_yet, tells-one}

no_trailing : (bytes : List ℕ) → read_frame bytes ≡ Err Trailing → ⊥
no_trailing bytes e = elim (frame_faults bytes Trailing e) [ inl a ↦ cc | inr a ↦ let wrong = a.0 in cc ]

abbrev IsAll : Remainder → List Message × Remainder → Type 0
IsAll held told = TellsAll held told.0 told.1

failed_all : (count : ℕ) → IsAll Failed (messages_within count Failed)
failed_all zero = (refl, tt)
failed_all (suc count) = (refl, tt)

all_within : (count : ℕ) (held : Remainder) → held_size held ≤ count → AreBytes held → IsAll held (messages_within count held)
all_within zero (Rest bytes) few small = absurd (omega arith)
all_within count Failed few small = failed_all count
all_within (suc count) (Rest bytes) few small = by_read (λ left. all_within count (Rest left)) (read_frame bytes) refl
  where
    by_read : ((left : List ℕ) → held_size (Rest left) ≤ count → IsBytes left → IsAll (Rest left) (messages_within count (Rest left))) → (r : Reading Frame) → read_frame bytes ≡ r → IsAll (Rest bytes) (after_first (Rest bytes) (first_by r) (messages_within count))
    by_read next (Ok read) e =
        let t = left_is bytes read.0 read.1 small e in
        let spelled = frame_field.spelled bytes read small e in
        let shorter : length read.1 < length bytes = omega (arith, ap length t.0, length-drop (5 + length read.0.body) bytes, t.1) in
        let later = next read.1 (omega (arith, shorter, few)) (IsBytes-back (frame_bytes read.0) read.1 (subst IsBytes spelled.0 small)) in
        ((Rest read.1, (read.1, e, refl), later.0), later.1)
    by_read next (Err Short) e = (refl, e)
    by_read next (Err OutOfRange) e = let later = failed_all count in ((Failed, (e, refl), later.0), later.1)
    by_read next (Err Trailing) e = absurd (no_trailing bytes e)

-- the messages of the definition are all that are held
pub messages_are_all : (held : Remainder) → AreBytes held → TellsAll held (messages held).0 (messages held).1
messages_are_all held small = all_within (held_size held) held (omega arith) small

-- and no others are
pub messages_are_these : (held : Remainder) (told : List Message) (after : Remainder) → AreBytes held → TellsAll held told after → ((messages held).0 ≡ told) × ((messages held).1 ≡ after)
messages_are_these held told after small tells = tells-one held (messages held).0 told (messages held).1 after (messages_are_all held small) tells

-- a session that holds nothing and takes one frame brings one message, and holds nothing then
pub one_frame : (frame : Frame) (told : List Message) (after : Remainder) → IsFrame frame → TellsAll (Rest (frame_bytes frame)) told after → (told ≡ Whole frame ∷ []) × (after ≡ Rest [])
one_frame frame told after h tells =
    let read : read_frame (frame_bytes frame) ≡ Ok (frame, []) = ap read_frame (sym (append-nil (frame_bytes frame))) ∙ frame_field.again frame [] h in
    let one : TellsAll (Rest (frame_bytes frame)) (Whole frame ∷ []) (Rest []) = ((Rest [], ([], read, refl), refl), nothing_yet) in
    tells-one (Rest (frame_bytes frame)) told (Whole frame ∷ []) after (Rest []) tells one
