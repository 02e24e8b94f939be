-- What it means that a reader reads exactly a form: it reads only spellings, and it reads each of
-- them, whatever follows. So each value has one spelling, and no spelling begins another.
use Rattle.std.specs.Prelude.{◌≡◌, ℕ, ◌^◌, ◌<◌, List, [], ◌∷◌, ◌++◌, Result, Ok, Err, ⊤}
use Rattle.byteorder.specs.Endian.{big_bytes}
use Rattle.encoding.specs.declared.fault.Fault.{Fault}
use Rattle.encoding.specs.Bytes.{IsBytes, HasBytes}
use Rattle.encoding.specs.Forms.{counted_bytes}
use Rattle.encoding.specs.Limits.{IsWithin}
use Rattle.encoding.specs.Policies.{policy_byte}
use Rattle.encoding.specs.Reading.{Reading, read_bytes, read_byte, read_number, read_counted, read_policy}

-- read reads exactly the values that are Allowed, spelled so
pub record IsField {A : Type 0} (read : List ℕ → Reading A) (spelling : A → List ℕ) (Allowed : A → Type 0) : Type 0 where
  pub spelled : (bytes : List ℕ) (x : A × List ℕ) → IsBytes bytes → read bytes ≡ Ok x → (bytes ≡ spelling x.0 ++ x.1) × Allowed x.0
  pub again : (x : A) (rest : List ℕ) → Allowed x → read (spelling x ++ rest) ≡ Ok (x, rest)

-- some allowed value is spelled at the front of the bytes
abbrev pub Begins : {A : Type 0} → (A → List ℕ) → (A → Type 0) → List ℕ → Type 0
Begins {A} spelling Allowed bytes = (x : A) × (rest : List ℕ) × (bytes ≡ spelling x ++ rest) × Allowed x

-- A call that returned a value read an allowed one at the front of the bytes and left the rest; a
-- call that was refused found none there. The first argument gives the value from what was returned.
abbrev pub Reads : {X A : Type 0} → (X → A) → (A → List ℕ) → (A → Type 0) → List ℕ → Result X Fault → List ℕ → Type 0
Reads seen spelling Allowed old (Ok x) new = (old ≡ spelling (seen x) ++ new) × Allowed (seen x)
Reads seen spelling Allowed old (Err fault) new = ¬ Begins spelling Allowed old

-- the bytes spell this value, which is allowed
abbrev pub Spells : {A : Type 0} → (A → List ℕ) → (A → Type 0) → List ℕ → A → Type 0
Spells spelling Allowed bytes x = (bytes ≡ spelling x) × Allowed x

-- A call that returned a value for whole bytes returned the allowed one that they spell; it refuses
-- only bytes that spell none. The first argument gives the value from what was returned.
abbrev pub ReadsWhole : {X A F : Type 0} → (X → A) → (A → List ℕ) → (A → Type 0) → List ℕ → Result X F → Type 0
ReadsWhole seen spelling Allowed bytes (Ok x) = Spells spelling Allowed bytes (seen x)
ReadsWhole {A = A} seen spelling Allowed bytes (Err fault) = (x : A) → ¬ Spells spelling Allowed bytes x

abbrev pub BytesAreField : Type 0
BytesAreField = (count : ℕ) → IsField (read_bytes count) (λ bytes. bytes) (HasBytes count)

abbrev pub ByteIsField : Type 0
ByteIsField = IsField read_byte (λ byte. byte ∷ []) (λ byte. byte < 256)

abbrev pub NumbersAreFields : Type 0
NumbersAreFields = (count : ℕ) → IsField (read_number count) (big_bytes count) (λ n. n < 256 ^ count)

abbrev pub CountedAreFields : Type 0
CountedAreFields = (least most : ℕ) → most < 2 ^ 16 → IsField (read_counted least most) counted_bytes (IsWithin least most)

abbrev pub PolicyIsField : Type 0
PolicyIsField = IsField read_policy (λ policy. policy_byte policy ∷ []) (λ _. ⊤)
