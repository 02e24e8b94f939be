-- What is read at the front of bytes is read there whatever follows.
use Rattle.std.proofs.Common.{◌≡◌, ℕ, ◌-◌, ◌<◌, ◌≤◌, Bool, false, cond, ltb, List, [], ◌∷◌, ◌++◌, length, take, drop, Ok, Err, refl, sym, ap, subst, ◌∙◌, append_assoc, length-append, arith, inl, inr}
use Rattle.std.proofs.lemmas.Bool.{ltb-false, le-ltb}
use Rattle.std.proofs.lemmas.List.{take_at, drop_at, take-append-drop, length-take}
use Rattle.encoding.specs.declared.fault.Fault.TheVariants.{Short, OutOfRange}
use Rattle.encoding.specs.Endian.{big_number}
use Rattle.encoding.specs.Reading.{Reading, ◌>>=◌, is_within, read_as, read_both, read_byte, read_bytes, read_number, read_then, read_where}
use Rattle.encoding.proofs.Fields.{bind_ok, ok_is, passed_ok, short_ok}
use Rattle.wire.specs.Frames.{Frame, frame_of, read_frame}
use Rattle.wire.proofs.Faults.{bad_size, frame_faults, IsBadSize}
use Rattle.wire.specs.declared.frame.TheConstants.{MAX_FRAME_LEN}

-- the reader takes a front of the bytes, and takes it whatever follows
abbrev pub TakesFront : {A : Type 0} → (List ℕ → Reading A) → Type 0
TakesFront {A} f = (bytes : List ℕ) (x : A × List ℕ) → f bytes ≡ Ok x → (front : List ℕ) × (bytes ≡ front ++ x.1) × ((more : List ℕ) → f (front ++ more) ≡ Ok (x.0, more))

bytes_front : (count : ℕ) → TakesFront (read_bytes count)
bytes_front count bytes x e =
    let g = short_ok (ltb (length bytes) count) Short (Ok (take count bytes, drop count bytes)) x e in
    let long : count ≤ length bytes = ltb-false _ _ g.0 in
    let size : length (take count bytes) ≡ count = omega (arith, length-take count bytes) in
    subst (λ (w : List ℕ × List ℕ). (front : List ℕ) × (bytes ≡ front ++ w.1) × ((more : List ℕ) → read_bytes count (front ++ more) ≡ Ok (w.0, more)))
    (ok_is (take count bytes, drop count bytes) x g.1)
    (take count bytes, sym (take-append-drop count bytes), again (take count bytes) size)
  where
    again : (front : List ℕ) → length front ≡ count → (more : List ℕ) → read_bytes count (front ++ more) ≡ Ok (front, more)
    again front size more =
        let long : ltb (length (front ++ more)) count ≡ false = le-ltb _ _ (omega (arith, length-append front more, size)) in
        rw (long, take_at front more count size, drop_at front more count size) refl

byte_front : TakesFront read_byte
byte_front [] x e = absurd cc
byte_front (byte ∷ rest) x e =
    subst (λ (w : ℕ × List ℕ). (front : List ℕ) × (byte ∷ rest ≡ front ++ w.1) × ((more : List ℕ) → read_byte (front ++ more) ≡ Ok (w.0, more)))
    (ok_is (byte, rest) x e) (byte ∷ [], refl, λ more. refl)

as_front : {A B : Type 0} (to : A → B) (f : List ℕ → Reading A) → TakesFront f → TakesFront (read_as to f)
as_front {A} {B} to f front bytes x e =
    let u = bind_ok (f bytes) (λ y. Ok (to y.0, y.1)) x e in
    let one = front bytes u.0 u.1 in
    let made : B × List ℕ = (to u.0.0, u.0.1) in
    subst (λ (w : B × List ℕ). (front : List ℕ) × (bytes ≡ front ++ w.1) × ((more : List ℕ) → read_as to f (front ++ more) ≡ Ok (w.0, more)))
    (ok_is made x u.2) (one.0, one.1, λ more. rw (one.2 more) refl)

where_front : {A : Type 0} (test : A → Bool) (f : List ℕ → Reading A) → TakesFront f → TakesFront (read_where test f)
where_front {A} test f front bytes x e =
    let u = bind_ok (f bytes) (λ y. cond (test y.0) (Ok y) (Err OutOfRange)) x e in
    let g = passed_ok (test u.0.0) OutOfRange (Ok u.0) x u.2 in
    let one = front bytes u.0 u.1 in
    subst (λ (w : A × List ℕ). (front : List ℕ) × (bytes ≡ front ++ w.1) × ((more : List ℕ) → read_where test f (front ++ more) ≡ Ok (w.0, more)))
    (ok_is u.0 x g.1) (one.0, one.1, λ more. rw (one.2 more, g.0) refl)

then_front : {K A : Type 0} (f : List ℕ → Reading K) (g : K → List ℕ → Reading A) → TakesFront f → ((k : K) → TakesFront (g k)) → TakesFront (read_then f g)
then_front f g first second bytes x e =
    let u = bind_ok (f bytes) (λ k. g k.0 k.1) x e in
    let one = first bytes u.0 u.1 in
    let two = second u.0.0 u.0.1 x u.2 in (
      one.0 ++ two.0,
      one.1 ∙ ap (λ (t : List ℕ). one.0 ++ t) two.1 ∙ sym (append_assoc one.0 two.0 x.1),
      λ more. ap (read_then f g) (append_assoc one.0 two.0 more) ∙ rw (one.2 (two.0 ++ more)) (two.2 more),
    )

both_front : {A B : Type 0} (f : List ℕ → Reading A) (g : List ℕ → Reading B) → TakesFront f → TakesFront g → TakesFront (read_both f g)
both_front {A} {B} f g first second bytes x e =
    let u = bind_ok (f bytes) (λ y. g y.1 >>= λ z. Ok ((y.0, z.0), z.1)) x e in
    let v = bind_ok (g u.0.1) (λ z. Ok ((u.0.0, z.0), z.1)) x u.2 in
    let one = first bytes u.0 u.1 in
    let two = second u.0.1 v.0 v.1 in
    let made : (A × B) × List ℕ = ((u.0.0, v.0.0), v.0.1) in
    subst (λ (w : (A × B) × List ℕ). (front : List ℕ) × (bytes ≡ front ++ w.1) × ((more : List ℕ) → read_both f g (front ++ more) ≡ Ok (w.0, more)))
    (ok_is made x v.2) (
      one.0 ++ two.0,
      one.1 ∙ ap (λ (t : List ℕ). one.0 ++ t) two.1 ∙ sym (append_assoc one.0 two.0 v.0.1),
      λ more. ap (read_both f g) (append_assoc one.0 two.0 more) ∙ rw (one.2 (two.0 ++ more), two.2 more) refl,
    )

number_front : (count : ℕ) → TakesFront (read_number count)
number_front count = as_front (big_number count) (read_bytes count) (bytes_front count)

frame_front : TakesFront read_frame
unfolding read_frame
frame_front =
    then_front (read_where (is_within 1 MAX_FRAME_LEN) (read_number 4)) (λ size. read_as frame_of (read_both read_byte (read_bytes (size - 1))))
    (where_front (is_within 1 MAX_FRAME_LEN) (read_number 4) (number_front 4))
    (λ size. as_front frame_of (read_both read_byte (read_bytes (size - 1))) (both_front read_byte (read_bytes (size - 1)) byte_front (bytes_front (size - 1))))

-- ---- frames

pub frame_more : (bytes more : List ℕ) (frame : Frame) (left : List ℕ) → read_frame bytes ≡ Ok (frame, left) → read_frame (bytes ++ more) ≡ Ok (frame, left ++ more)
frame_more bytes more frame left e =
    let t = frame_front bytes (frame, left) e in
    ap read_frame (ap (λ (y : List ℕ). y ++ more) t.1 ∙ append_assoc t.0 left more) ∙ t.2 (left ++ more)

some_front : (front : List ℕ) (frame : Frame) → ((more : List ℕ) → read_frame (front ++ more) ≡ Ok (frame, more)) → 0 < length front
unfolding read_frame
some_front [] frame reads = absurd (let wrong = reads [] in cc)
some_front (byte ∷ front) frame reads = omega arith

-- a frame leaves fewer bytes
pub frame_less : (bytes : List ℕ) (frame : Frame) (left : List ℕ) → read_frame bytes ≡ Ok (frame, left) → length left < length bytes
frame_less bytes frame left e =
    let t = frame_front bytes (frame, left) e in
    omega (arith, ap length t.1, length-append t.0 left, some_front t.0 frame t.2)

-- bytes that begin with a number of bytes that no frame has do so whatever follows
pub bad_more : (bytes more : List ℕ) → read_frame bytes ≡ Err OutOfRange → read_frame (bytes ++ more) ≡ Err OutOfRange
unfolding IsBadSize
bad_more bytes more e =
    elim (frame_faults bytes OutOfRange e) [
      | inl a ↦ absurd cc
      | inr a ↦
          let t = number_front 4 bytes (a.1.0, a.1.1) a.1.2 in
          bad_size (bytes ++ more) (a.1.0, a.1.1 ++ more, ap (read_number 4) (ap (λ (y : List ℕ). y ++ more) t.1 ∙ append_assoc t.0 a.1.1 more) ∙ t.2 (a.1.1 ++ more), a.1.3)
    ]
