-- A stand-in for the digital signatures of roots and promises (CONIKS, section 3). The bytes are this
-- directory's own. They give no security: whoever can check a signature can make it.
use Rattle.std.specs.Prelude.{◌≡◌, ℕ, List, [], ◌∷◌, ◌++◌}
use Rattle.nodehash.specs.Sha256.{sha256}

-- the signature of a message under a key: SHA-256 of the letter S, the key and the message (CONIKS, section 3:
-- digital signature, for which this stands in)
abbrev pub keyed_signature : List ℕ → List ℕ → List ℕ
keyed_signature key message = sha256 (0x53 ∷ [] ++ key ++ message)

-- the one signature that verifies for a message
abbrev pub KeyedVerifies : List ℕ → List ℕ → List ℕ → Type 0
KeyedVerifies key message signature = signature ≡ keyed_signature key message
