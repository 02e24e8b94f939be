-- How values are spelled in bytes (the forms are this directory's own). A number has its highest byte
-- first.
use Rattle.std.specs.Prelude.{ℕ, List, ◌++◌, length}
use Rattle.byteorder.specs.Endian.{big_bytes}

-- bytes behind their count in two bytes
abbrev pub counted_bytes : List ℕ → List ℕ
counted_bytes bytes = big_bytes 2 (length bytes) ++ bytes
