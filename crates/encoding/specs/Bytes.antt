-- Bytes as numbers.
use Rattle.std.specs.Prelude.{◌≡◌, ℕ, ◌<◌, List, length, slice_index}
use Rattle.std.specs.List.{flat_map}
use Rattle.std.specs.Cmp.Lexicographic.{slice_cmp}
use Rattle.std.specs.Ordering.{nat_cmp}
use Rattle.std.specs.declared.cmp.Ordering.{Ordering}

-- every element is a byte
abbrev pub IsBytes : List ℕ → Type 0
IsBytes xs = (k : ℕ) → slice_index xs k < 256

-- so many bytes
abbrev pub HasBytes : ℕ → List ℕ → Type 0
HasBytes count xs = (length xs ≡ count) × IsBytes xs

-- 32 bytes: an index, a hash or a nonce
abbrev pub Is32Bytes : List ℕ → Type 0
Is32Bytes xs = HasBytes 32 xs

-- the bytes of byte strings, one after another
abbrev pub joined : List (List ℕ) → List ℕ
joined = flat_map (λ bytes. bytes)

-- which comes first, as byte strings
abbrev pub bytes_cmp : List ℕ → List ℕ → Ordering
bytes_cmp = slice_cmp nat_cmp
