-- Sums of a round's constant and its schedule word.
use Rattle.std.proofs.Common.{◌≡◌, ℕ, ◌<◌, List, slice_index, ap, ◌∙◌, arith}
use Rattle.std.proofs.lemmas.Simd.{get_or-zip2}
use Rattle.sha2.specs.Sha256.{add32, padding, round_constants}
use Rattle.sha2.proofs.Schedule256.{length-schedule}
use Rattle.lanes.specs.TwoBlocks.{padding_words}
use lib.Lanes.{zip2}

pub add32_assoc : (x y z : ℕ) → add32 x (add32 y z) ≡ add32 (add32 x y) z
add32_assoc x y z = omega arith

-- a table of the sums for the second block of a message of 64 bytes
pub key_at : (keys : List ℕ) (t : ℕ) → keys ≡ zip2 add32 round_constants padding_words → t < 64
    → slice_index keys t ≡ add32 (slice_index round_constants t) (slice_index padding_words t)
key_at keys t table below =
    ap (λ (ks : List ℕ). slice_index ks t) table
    ∙ get_or-zip2 add32 round_constants padding_words t 0 0 0 below (omega (arith, length-schedule (padding 64) 48))
