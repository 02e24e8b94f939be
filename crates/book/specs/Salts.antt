-- The salts that a stream will give, each by a filling of 32 bytes.
use Rattle.std.specs.Prelude.{ℕ, zero, suc}
use Rattle.encoding.specs.Bytes.{Is32Bytes}
use Rattle.rand_chacha.specs.ChaCha.{ChaCha, next_word}
use Rattle.rand_core.specs.Steps.{steps_u32, stream_of}
use Rattle.rand_core.specs.Stream.{Stream, fill_bytes}

-- the salts that a generator of ChaCha20 will give
abbrev pub chacha_salts : ChaCha → Stream
chacha_salts = stream_of (steps_u32 (next_word 10))

-- the stream that is left after so many salts
abbrev pub after_salts : ℕ → Stream → Stream
after_salts zero salts = salts
after_salts (suc count) salts = after_salts count (fill_bytes 32 salts).1

-- each salt to come has its size
abbrev pub GivesSalts : Stream → Type 0
GivesSalts salts = (count : ℕ) → Is32Bytes (fill_bytes 32 (after_salts count salts)).0
