-- Hashes and their bytes, joined.
use Rattle.std.proofs.Common.{◌≡◌, ℕ, zero, suc, ◌*◌, List, [], ◌∷◌, ◌++◌, length, take, drop, refl, ap, ◌∙◌, arith}
use Rattle.std.specs.List.{AllByRecursion}
use Rattle.std.specs.Simd.{first_chunks}
use Rattle.std.proofs.lemmas.List.{take_at, drop_at, take-append-drop, length-append, length-drop, length-take}
use Rattle.encoding.specs.Bytes.{HasBytes, Is32Bytes, joined}
use Rattle.encoding.proofs.ByteLists.{IsBytes-append, IsBytes-back, IsBytes-take}

pub length-chunks : (count : ℕ) (bytes : List ℕ) → length (first_chunks 32 count bytes) ≡ count
length-chunks zero bytes = refl
length-chunks (suc count) bytes = ap suc (length-chunks count (drop 32 bytes))

pub joined-chunks : (count : ℕ) (bytes : List ℕ) → length bytes ≡ 32 * count → joined (first_chunks 32 count bytes) ≡ bytes
joined-chunks zero [] e = refl
joined-chunks zero (byte ∷ bytes) e = absurd (omega (arith, e))
joined-chunks (suc count) bytes e =
    ap (λ (t : List ℕ). take 32 bytes ++ t) (joined-chunks count (drop 32 bytes) (omega (arith, length-drop 32 bytes, e))) ∙ take-append-drop 32 bytes

pub chunks-joined : (hashes : List (List ℕ)) → AllByRecursion Is32Bytes hashes → first_chunks 32 (length hashes) (joined hashes) ≡ hashes
chunks-joined [] all = refl
chunks-joined (hash ∷ hashes) all = rw (take_at hash (joined hashes) 32 all.0.0, drop_at hash (joined hashes) 32 all.0.0) (ap (λ (t : List (List ℕ)). hash ∷ t) (chunks-joined hashes all.1))

pub chunks-hashes : (count : ℕ) (bytes : List ℕ) → HasBytes (32 * count) bytes → AllByRecursion Is32Bytes (first_chunks 32 count bytes)
chunks-hashes zero bytes h = tt
chunks-hashes (suc count) bytes h = (
  (omega (arith, length-take 32 bytes, h.0), IsBytes-take 32 bytes h.1),
  chunks-hashes count (drop 32 bytes) (omega (arith, length-drop 32 bytes, h.0), IsBytes-back (take 32 bytes) (drop 32 bytes) (rw (take-append-drop 32 bytes) h.1)),
)

pub joined-hashes : (hashes : List (List ℕ)) → AllByRecursion Is32Bytes hashes → HasBytes (32 * length hashes) (joined hashes)
joined-hashes [] all = (refl, λ k. omega arith)
joined-hashes (hash ∷ hashes) all =
    let more = joined-hashes hashes all.1 in
    (omega (arith, length-append hash (joined hashes), all.0.0, more.0), IsBytes-append hash (joined hashes) all.0.1 more.1)
