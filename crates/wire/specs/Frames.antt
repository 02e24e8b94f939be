-- Frames: a kind and a body after their number of bytes, in four bytes (the form is this directory's own).
use Rattle.std.specs.Prelude.{ℕ, ◌+◌, ◌-◌, ◌≤◌, ◌<◌, List, [], ◌∷◌, ◌++◌, length}
use Rattle.encoding.specs.Bytes.{IsBytes}
use Rattle.encoding.specs.Endian.{big_bytes}
use Rattle.encoding.specs.Reading.{Reading, is_within, read_as, read_both, read_byte, read_bytes, read_number, read_then, read_where}
use Rattle.wire.specs.declared.frame.TheConstants.{MAX_FRAME_LEN}

pub record Frame : Type 0 where
  pub kind : ℕ
  pub body : List ℕ

-- the number of bytes of kind and body
abbrev pub frame_size : Frame → ℕ
frame_size frame = 1 + length frame.body

-- a kind and a body may have so many bytes
abbrev pub IsFrameSize : ℕ → Type 0
IsFrameSize size = (1 ≤ size) × (size ≤ MAX_FRAME_LEN)

-- what stands before a body of so many bytes
abbrev pub frame_head : ℕ → ℕ → List ℕ
frame_head kind count = big_bytes 4 (1 + count) ++ (kind ∷ [])

-- that number in four bytes, the kind and the body
abbrev pub frame_bytes : Frame → List ℕ
frame_bytes frame = big_bytes 4 (frame_size frame) ++ (frame.kind ∷ frame.body)

-- what a frame may hold: kind and body have 1 to 65,536 bytes
abbrev pub IsFrame : Frame → Type 0
IsFrame frame = (frame_size frame ≤ MAX_FRAME_LEN) × (frame.kind < 256) × IsBytes frame.body

-- ---- reading

abbrev pub frame_of : ℕ × List ℕ → Frame
frame_of parts = record { kind = parts.0; body = parts.1 }

-- a kind and a body of so many bytes
abbrev pub read_framed : ℕ → List ℕ → Reading Frame
read_framed size = read_as frame_of (read_both read_byte (read_bytes (size - 1)))

-- the number of a frame's bytes: OutOfRange if it is not from 1 to 65,536
abbrev pub read_size : List ℕ → Reading ℕ
read_size = read_where (is_within 1 MAX_FRAME_LEN) (read_number 4)

-- a frame: Short if it is not whole yet, OutOfRange if its number of bytes is not allowed
unfoldable pub read_frame : List ℕ → Reading Frame
read_frame = read_then read_size read_framed
