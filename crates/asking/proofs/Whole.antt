-- The bytes of one frame.
use Rattle.std.proofs.Common.{◌≡◌, ◌∙◌, ℕ, suc, List, [], ◌∷◌, ◌++◌, length, Option, Result, Ok, Err, ap, append-nil, arith, subst, sym}
use Rattle.std.specs.Prelude.{IfOk}
use Rattle.std.specs.Int.{w32, from_be_bytes}
use Rattle.std.specs.Io.KnownBytes.{Appends, Consumes}
use Rattle.std.proofs.lemmas.Nat.{be_bytes_4}
use Rattle.encoding.specs.Bytes.{IsBytes}
use Rattle.encoding.specs.Endian.{big_bytes}
use Rattle.encoding.specs.Reading.{Reading}
use Rattle.wire.specs.Frames.{Frame, frame_bytes, frame_size, read_frame, IsFrameSize}
use Rattle.wire.specs.Requests.{RequestContent, request_frame}
use Rattle.wire.proofs.Frames.{frame_field}
use Rattle.asking.specs.Exchanges.{ExchangesFrames, HoldsFrame, IsOneFrame}

-- as many bytes behind a length as it says are one frame
pub one_frame : (head rest : List ℕ) (n : ℕ) → length head ≡ 4 → IsBytes head → IsBytes rest → n ≡ from_be_bytes w32 head → IsFrameSize n → length rest ≡ n
    → (frame : Frame) × IsOneFrame (head ++ rest) frame
one_frame head [] n four small low is sized long = absurd (omega (arith, sized.0, long))
one_frame head (kind ∷ body) n four small low is sized long =
    let frame : Frame = record { kind = kind; body = body } in
    let size : frame_size frame ≡ n = omega (arith, long) in
    let front : big_bytes 4 n ≡ head = be_bytes_4 head n four small is in
    let spelled : frame_bytes frame ++ [] ≡ head ++ (kind ∷ body) =
    append-nil (frame_bytes frame) ∙ ap (λ (k : ℕ). big_bytes 4 k ++ (kind ∷ body)) size ∙ ap (λ (xs : List ℕ). xs ++ (kind ∷ body)) front in
    (frame, subst (λ (bytes : List ℕ). read_frame bytes ≡ Ok (frame, [])) spelled (frame_field.again frame [] (omega (arith, size, sized.1), low 0, λ k. low (suc k))))

frame-or : Frame → Reading Frame → Frame
frame-or other (Ok (frame, left)) = frame
frame-or other (Err fault) = other

same-frame : (bytes left : List ℕ) (frame other : Frame) → read_frame bytes ≡ Ok (frame, []) → read_frame bytes ≡ Ok (other, left) → frame ≡ other
unfolding frame-or
same-frame bytes left frame other one holds = ap (frame-or frame) (sym one ∙ holds)

-- a request that was sent, and one frame that was read
pub exchanged : {T X E : Type 0} (contents remaining : T → Option (List ℕ)) (items : X → List ℕ) (before sent after : T) (asked : RequestContent) (result : Result X E)
    → Appends (contents before) (contents sent) (frame_bytes (request_frame asked)) → IfOk result (λ x. Consumes (remaining sent) (remaining after) (items x))
    → IfOk result (λ x. (frame : Frame) × IsOneFrame (items x) frame) → IfOk result (λ x. (frame : Frame) → HoldsFrame (items x) frame → ExchangesFrames contents remaining before asked frame after)
exchanged contents remaining items before sent after asked (Ok x) appends consumes (frame, one) =
    λ other holds. (sent, items x, appends, consumes, subst (λ (f : Frame). IsOneFrame (items x) f) (same-frame (items x) holds.0 frame other one holds.1) one)
exchanged contents remaining items before sent after asked (Err fault) appends consumes one = tt
