-- The text whose digest is a commitment to a binding (after CONIKS, section 3; the bytes are this directory's own).
-- It has the name beside the key, so that no text opens to two names.
use Rattle.std.specs.Prelude.{◌≡◌, ℕ, ◌^◌, ◌<◌, List, [], ◌∷◌, ◌++◌, length}
use Rattle.encoding.specs.Forms.{counted_bytes}
use Rattle.encoding.specs.Policies.{policy_bytes, version_of}
use Rattle.encoding.specs.declared.bound_key.BoundKey.{BoundKey}

-- C, the version, the policy if there is one, the salt, the name and the key, these two behind their lengths in two
-- bytes (CONIKS, section 3: commitment, which is the digest of this text)
abbrev pub commitment_bytes : List ℕ → List ℕ → BoundKey → List ℕ
commitment_bytes salt name key = 0x43 ∷ version_of key.policy ∷ [] ++ policy_bytes key.policy ++ salt ++ counted_bytes name ++ counted_bytes key.value

-- equal texts have equal salt, name and key, with equal version and policy, if the salts have one length and the
-- lengths of the names fit in their two bytes
abbrev pub EqualTextsOpenAlike : Type 0
EqualTextsOpenAlike = (salt other_salt name other_name : List ℕ) (key other_key : BoundKey) → length salt ≡ length other_salt → length name < 2 ^ 16 → length other_name < 2 ^ 16
    → commitment_bytes salt name key ≡ commitment_bytes other_salt other_name other_key → (salt ≡ other_salt) × (name ≡ other_name) × (key ≡ other_key)
