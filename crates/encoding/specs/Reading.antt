-- Reading from the front of bytes, up to the first fault. A reader gives a value with the bytes that
-- are left, or the fault. Readers of forms are made of these.
use Rattle.std.specs.Prelude.{◌≡◌, ℕ, zero, suc, ◌==◌, ◌&&◌, Bool, true, false, List, [], ◌∷◌, length, take, drop, Option, Some, None, Result, Ok, Err, nat_lt, nat_le, if◌then◌else◌}
use Rattle.std.specs.Str.{bytes_eq}
use Rattle.byteorder.specs.Endian.{big_number}
use Rattle.encoding.specs.declared.fault.Fault.{Fault}
use Rattle.encoding.specs.declared.fault.Fault.TheVariants.{Short, Trailing, OutOfRange}
use Rattle.encoding.specs.declared.policy.Policy.{Policy}
use Rattle.encoding.specs.declared.policy.Policy.TheVariants.{Open, Final}

-- a value and the bytes that are left, or the fault
abbrev pub Reading : Type 0 → Type 0
Reading A = Result (A × List ℕ) Fault

infixl 10 ◌>>=◌
-- and then, where there was no fault
abbrev pub ◌>>=◌ : {A B : Type 0} → Result A Fault → (A → Result B Fault) → Result B Fault
(Ok x) >>= next = next x
(Err fault) >>= next = Err fault

-- the first so many bytes
abbrev pub read_bytes : ℕ → List ℕ → Reading (List ℕ)
read_bytes count bytes = if nat_lt (length bytes) count then Err Short else Ok (take count bytes, drop count bytes)

-- one byte
abbrev pub read_byte : List ℕ → Reading ℕ
read_byte [] = Err Short
read_byte (byte ∷ rest) = Ok (byte, rest)

-- a number in so many bytes
abbrev pub read_number : ℕ → List ℕ → Reading ℕ
read_number count bytes = read_bytes count bytes >>= λ x. Ok (big_number count x.0, x.1)

-- one value, and then another
abbrev pub read_both : {A B : Type 0} → (List ℕ → Reading A) → (List ℕ → Reading B) → List ℕ → Reading (A × B)
read_both first second bytes = first bytes >>= λ x. second x.1 >>= λ y. Ok ((x.0, y.0), y.1)

-- a value as another one
abbrev pub read_as : {A B : Type 0} → (A → B) → (List ℕ → Reading A) → List ℕ → Reading B
read_as f read bytes = read bytes >>= λ x. Ok (f x.0, x.1)

-- no byte, for this value
abbrev pub read_nothing : {A : Type 0} → A → List ℕ → Reading A
read_nothing x bytes = Ok (x, bytes)

-- a value, and then another one whose form depends on it, as on a kind or a number of bytes
abbrev pub read_then : {K A : Type 0} → (List ℕ → Reading K) → (K → List ℕ → Reading A) → List ℕ → Reading A
read_then first second bytes = first bytes >>= λ k. second k.0 k.1

-- a value that passes a test
abbrev pub read_where : {A : Type 0} → (A → Bool) → (List ℕ → Reading A) → List ℕ → Reading A
read_where test read bytes = read bytes >>= λ x. if test x.0 then Ok x else Err OutOfRange

-- a value behind these very bytes, as a kind and a version
abbrev pub read_behind : {A : Type 0} → List ℕ → (List ℕ → Reading A) → List ℕ → Reading A
read_behind head read bytes = read_then (read_where (bytes_eq head) (read_bytes (length head))) (λ _. read) bytes

-- a number within these limits
abbrev pub is_within : ℕ → ℕ → ℕ → Bool
is_within least most n = nat_le least n && nat_le n most

-- bytes behind their number in two bytes, where that is within these limits
unfoldable pub read_counted : ℕ → ℕ → List ℕ → Reading (List ℕ)
read_counted least most bytes = read_then (read_where (is_within least most) (read_number 2)) read_bytes bytes

-- one of two values, the first as the byte 1 and the second as the byte 2
abbrev pub read_either : {A : Type 0} → A → A → List ℕ → Reading A
read_either first second bytes = read_byte bytes >>= λ x. if x.0 == 1 then Ok (first, x.1) else (if x.0 == 2 then Ok (second, x.1) else Err OutOfRange)

abbrev pub read_policy : List ℕ → Reading Policy
read_policy = read_either Open Final

-- a policy, or no byte where there is none
abbrev pub read_policy_if : Bool → List ℕ → Reading (Option Policy)
read_policy_if false = read_nothing None
read_policy_if true = read_as Some read_policy

-- the version behind this kind: whether there is a policy
abbrev pub read_version : ℕ → List ℕ → Reading Bool
read_version kind = read_behind (kind ∷ []) (read_either false true)

-- so many values
abbrev pub read_list : {A : Type 0} → (List ℕ → Reading A) → ℕ → List ℕ → Reading (List A)
read_list read zero bytes = Ok ([], bytes)
read_list read (suc count) bytes = read bytes >>= λ x. read_list read count x.1 >>= λ xs. Ok (x.0 ∷ xs.0, xs.1)

-- what a call returned and the bytes that it left are what the reader gives
abbrev pub Gives : {X A : Type 0} → (X → A) → Result X Fault → List ℕ → Reading A → Type 0
Gives seen (Ok x) rest reading = reading ≡ Ok (seen x, rest)
Gives seen (Err fault) rest reading = reading ≡ Err fault

-- what a reader gives for whole bytes: its value where none are left, else Trailing
abbrev pub whole_of : {A : Type 0} → Reading A → Result A Fault
whole_of (Ok (x, [])) = Ok x
whole_of (Ok (x, _ ∷ _)) = Err Trailing
whole_of (Err fault) = Err fault
