-- Stand-ins for a verifiable unpredictable function, from which CONIKS, sections 3 and 4, computes
-- the private index of a name. The bytes are this directory's own. They give no security: whoever can
-- check a value can compute it.
use Rattle.std.specs.Prelude.{◌≡◌, ℕ, List, [], ◌∷◌, ◌++◌, replicate}
use Rattle.nodehash.specs.Sha256.{sha256}

-- the value of a name under a key: SHA-256 of the letter V, the key and the name (CONIKS, section 3: verifiable
-- unpredictable function, for which this stands in)
abbrev pub keyed_value : List ℕ → List ℕ → List ℕ
keyed_value key name = sha256 (0x56 ∷ [] ++ key ++ name)

-- the one value that is accepted for a name
abbrev pub KeyedAccepts : List ℕ → List ℕ → List ℕ → Type 0
KeyedAccepts key name value = value ≡ keyed_value key name

-- the value of a name under any key, for tests that a reader can follow by hand: the name itself
abbrev pub plain_value : List ℕ → List ℕ → List ℕ
plain_value _ name = name

-- its public key: 32 zero bytes
abbrev pub plain_key : List ℕ
plain_key = replicate 32 0
