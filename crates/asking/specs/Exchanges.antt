-- A request on a stream, and its reply.
use Rattle.std.specs.Prelude.{◌≡◌, ℕ, List, [], Option, Ok}
use Rattle.std.specs.Io.KnownBytes.{Appends, Consumes}
use Rattle.wire.specs.Frames.{Frame, frame_bytes, read_frame}
use Rattle.wire.specs.Requests.{RequestContent, request_frame}

-- the bytes begin with this frame
abbrev pub HoldsFrame : List ℕ → Frame → Type 0
HoldsFrame bytes frame = (left : List ℕ) × (read_frame bytes ≡ Ok (frame, left))

-- the bytes are this frame
abbrev pub IsOneFrame : List ℕ → Frame → Type 0
IsOneFrame bytes frame = read_frame bytes ≡ Ok (frame, [])

-- What a stream took and gives: the request is written as one frame, and then the bytes of this frame are
-- read, and no others.
abbrev pub ExchangesFrames : {T : Type 0} → (T → Option (List ℕ)) → (T → Option (List ℕ)) → T → RequestContent → Frame → T → Type 0
ExchangesFrames {T} contents remaining before asked frame after = (sent : T) × (bytes : List ℕ)
    × Appends (contents before) (contents sent) (frame_bytes (request_frame asked)) × Consumes (remaining sent) (remaining after) bytes × IsOneFrame bytes frame
