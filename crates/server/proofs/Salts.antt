-- What a generator of 32-bit words fills has its size, so each of its salts has 32 bytes.
use Rattle.std.proofs.Common.{◌≡◌, ◌<◌, ◌*◌, ℕ, zero, suc, List, length, refl, sym, ap, subst, arith}
use Rattle.std.specs.Int.{w32, byte_at, bytes_low_first, to_le_bytes}
use Rattle.std.proofs.lemmas.List.{length-append, length-take-le}
use Rattle.rand_core.specs.Stream.{Stream, fill_bytes}
use Rattle.rand_core.specs.Steps.{fill_via_u32, steps_u32, stream_of, word_bytes}
use Rattle.rand_core.proofs.StepsLemmas.{fill_bytes-stream_of}
use Rattle.encoding.specs.Bytes.{HasBytes, Is32Bytes, IsBytes}
use Rattle.encoding.proofs.ByteLists.{IsBytes-append, IsBytes-cons, IsBytes-take}
use Rattle.book.specs.Salts.{GivesSalts, after_salts}

low-bytes : (i count n : ℕ) → IsBytes (bytes_low_first i count n)
low-bytes i zero n = λ k. omega arith
low-bytes i (suc count) n = IsBytes-cons (byte_at i n) (bytes_low_first (suc i) count n) (below i) (low-bytes (suc i) count n)
  where
    below : (i : ℕ) → byte_at i n < 256
    below zero = omega arith
    below (suc i) = omega arith

module _ {S : Type 0} (step : S → ℕ × S) where
  word-bytes : (count : ℕ) (state : S) → HasBytes (4 * count) (word_bytes (to_le_bytes w32) step count state).0
  unfolding word_bytes
  word-bytes zero state = (refl, λ k. omega arith)
  word-bytes (suc count) state =
      let before = word_bytes (to_le_bytes w32) step count state in
      let last : List ℕ = to_le_bytes w32 (step before.1).0 in
      let has = word-bytes count state in
      let long : length last ≡ 4 = refl in
      (omega (arith, length-append before.0 last, has.0, long), IsBytes-append before.0 last has.1 (low-bytes 0 4 (step before.1).0))

  filled : (state : S) → Is32Bytes (fill_via_u32 step 32 state).0
  filled state =
      let has = word-bytes 8 state in
      let words : List ℕ = (word_bytes (to_le_bytes w32) step 8 state).0 in
      (length-take-le 32 words (omega (arith, has.0)), IsBytes-take 32 words has.1)

  pub words-give-salts : (state : S) → GivesSalts (stream_of (steps_u32 step) state)
  words-give-salts state zero = subst Is32Bytes (sym (ap (λ (gives : List ℕ × Stream). gives.0) (fill_bytes-stream_of (steps_u32 step) 32 state))) (filled state)
  words-give-salts state (suc count) =
      subst (λ (rest : Stream). Is32Bytes (fill_bytes 32 (after_salts count rest)).0) (sym (ap (λ (gives : List ℕ × Stream). gives.1) (fill_bytes-stream_of (steps_u32 step) 32 state)))
      (words-give-salts (fill_via_u32 step 32 state).1 count)
