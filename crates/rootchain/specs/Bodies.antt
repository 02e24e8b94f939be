-- The body of a signed tree root (CONIKS, section 3; the bytes are this directory's own).
use Rattle.std.specs.Prelude.{◌≡◌, ℕ, ◌<◌, ◌^◌, ◌==◌, ◌&&◌, Bool, true, if◌then◌else◌, nat_lt, List, [], ◌∷◌, ◌++◌, replicate}
use Rattle.std.specs.Str.{bytes_eq}
use Rattle.encoding.specs.Endian.{big_bytes}
use Rattle.encoding.specs.Bytes.{Is32Bytes}
use Rattle.encoding.specs.Reading.{Reading, read_as, read_behind, read_both, read_bytes, read_number, read_where}
use Rattle.rootchain.specs.declared.body.Body.{Body}

-- R, and the version
abbrev pub body_head : List ℕ
body_head = 0x52 ∷ 0x01 ∷ []

-- 146 bytes: R, the version, the epoch, the one before, the root, the hash of the body before, the
-- nonce and the public key of the verifiable function (CONIKS, section 3: what a signed tree root signs)
abbrev pub body_bytes : Body → List ℕ
body_bytes body = body_head ++ (big_bytes 8 body.epoch ++ (big_bytes 8 body.previous_epoch
    ++ (body.root ++ (body.previous_hash ++ (body.nonce ++ body.vuf_key)))))

-- the epoch is above the epoch before; if none came before (0), the hash of the body before is zero
abbrev pub IsWellFormed : Body → Type 0
IsWellFormed body = (body.previous_epoch < body.epoch) × (body.previous_epoch ≡ 0 → body.previous_hash ≡ replicate 32 0)

-- two numbers of eight bytes, and four byte strings of 32
abbrev pub IsSized : Body → Type 0
IsSized body = (body.epoch < 2 ^ 64) × (body.previous_epoch < 2 ^ 64)
    × Is32Bytes body.root × Is32Bytes body.previous_hash × Is32Bytes body.nonce × Is32Bytes body.vuf_key

-- what a body may hold
abbrev pub IsBody : Body → Type 0
IsBody body = IsWellFormed body × IsSized body

-- ---- reading

-- the test of what is well formed
abbrev pub is_well_formed : Body → Bool
is_well_formed body = nat_lt body.previous_epoch body.epoch && (if body.previous_epoch == 0 then bytes_eq body.previous_hash (replicate 32 0) else true)

-- a body's parts in their order
abbrev pub body_of : ℕ × (ℕ × (List ℕ × (List ℕ × (List ℕ × List ℕ)))) → Body
body_of parts = record {
  epoch = parts.0;
  previous_epoch = parts.1.0;
  root = parts.1.1.0;
  previous_hash = parts.1.1.1.0;
  nonce = parts.1.1.1.1.0;
  vuf_key = parts.1.1.1.1.1;
}

unfoldable pub read_body : List ℕ → Reading Body
read_body = read_behind body_head (read_where is_well_formed (read_as body_of
    (read_both (read_number 8) (read_both (read_number 8)
    (read_both (read_bytes 32) (read_both (read_bytes 32) (read_both (read_bytes 32) (read_bytes 32))))))))
