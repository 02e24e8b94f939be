-- The records: how they are written (the forms are this directory's own), and how they are read from the front of
-- bytes. A number has its highest byte first.
use Rattle.std.specs.Prelude.{ℕ, ◌<◌, ◌^◌, ◌/◌, ◌==◌, nat_le, if◌then◌else◌, Bool, true, false, List, [], ◌∷◌, ◌++◌, Option, Some, None, Err, flat_map}
use Rattle.byteorder.specs.Endian.{big_bytes}
use Rattle.encoding.specs.Bytes.{Is32Bytes}
use Rattle.encoding.specs.Forms.{counted_bytes}
use Rattle.encoding.specs.Limits.{IsName, IsKeyData}
use Rattle.encoding.specs.Policies.{has_policy, policy_bytes}
use Rattle.encoding.specs.Reading.{Reading, is_within, read_as, read_both, read_byte, read_bytes, read_counted, read_number, read_policy_if, read_then, read_where}
use Rattle.encoding.specs.declared.fault.Fault.TheVariants.{OutOfRange}
use Rattle.encoding.specs.declared.policy.Policy.{Policy}
use Rattle.encoding.specs.declared.bounded.TheConstants.{MIN_LEN}
use Rattle.encoding.specs.declared.key_data.TheConstants.{MAX_KEY_DATA_LEN}
use Rattle.encoding.specs.declared.name.TheConstants.{MAX_NAME_LEN}
use Rattle.commands.specs.declared.edit.Verb.{Verb}
use Rattle.commands.specs.declared.edit.Verb.TheVariants.{Register, Change}
use Rattle.book.specs.declared.record.Record.{Record}
use Rattle.book.specs.declared.record.Record.TheVariants.{Start, Bound, Turned}
use Rattle.journal.specs.declared.beginning.Beginning.{Beginning}
use Rattle.journal.specs.declared.forms.Later.{Later}
use Rattle.journal.specs.declared.forms.Later.TheVariants as later

-- ---- written

-- 01 for a registration, 02 for a change; where a policy follows, 03 and 04
abbrev pub verb_byte : Verb → Bool → ℕ
verb_byte Register false = 1
verb_byte Change false = 2
verb_byte Register true = 3
verb_byte Change true = 4

-- A start: N, the version, the epoch, the nonce, and the two public keys. A binding: O, the verb, the policy if there
-- is one, the salt, and name and key, each behind its length in two bytes. A new page: C and its epoch; or, under a
-- nonce of its own, K, its epoch and the nonce.
abbrev pub record_bytes : Record → List ℕ
record_bytes (Start epoch nonce signing_key vuf_key) = 0x4e ∷ 1 ∷ (big_bytes 8 epoch ++ (nonce ++ (signing_key ++ vuf_key)))
record_bytes (Bound verb salt name key) = 0x4f ∷ verb_byte verb (has_policy key.policy) ∷ (policy_bytes key.policy ++ (salt ++ (counted_bytes name ++ counted_bytes key.value)))
record_bytes (Turned epoch None) = 0x43 ∷ big_bytes 8 epoch
record_bytes (Turned epoch (Some nonce)) = 0x4b ∷ (big_bytes 8 epoch ++ nonce)

-- records, one after another
abbrev pub records_bytes : List Record → List ℕ
records_bytes = flat_map record_bytes

abbrev pub start_of : Beginning → Record
start_of beginning = Start beginning.epoch beginning.nonce beginning.signing_key beginning.vuf_key

abbrev pub start_bytes : Beginning → List ℕ
start_bytes beginning = record_bytes (start_of beginning)

-- the parts are within their limits
abbrev pub IsRecord : Record → Type 0
IsRecord (Start epoch nonce signing_key vuf_key) = (epoch < 2 ^ 64) × Is32Bytes nonce × Is32Bytes signing_key × Is32Bytes vuf_key
IsRecord (Bound verb salt name key) = Is32Bytes salt × IsName name × IsKeyData key.value
IsRecord (Turned epoch None) = epoch < 2 ^ 64
IsRecord (Turned epoch (Some nonce)) = (epoch < 2 ^ 64) × Is32Bytes nonce

-- what may stand first
abbrev pub IsStart : Beginning → Type 0
IsStart beginning = IsRecord (start_of beginning)

-- what may stand at each later place
abbrev pub IsLater : Record → Type 0
IsLater (Start epoch nonce signing_key vuf_key) = ⊥
IsLater (Bound verb salt name key) = IsRecord (Bound verb salt name key)
IsLater (Turned epoch nonce) = IsRecord (Turned epoch nonce)

-- ---- read

-- this verb, and the policy behind it if there is one
abbrev pub read_with : Verb → Bool → List ℕ → Reading (Verb × Option Policy)
read_with verb has_policy = read_as (λ policy. (verb, policy)) (read_policy_if has_policy)

-- what follows this byte of a verb
abbrev pub read_verb_of : ℕ → List ℕ → Reading (Verb × Option Policy)
read_verb_of byte bytes =
    if byte == 1 then read_with Register false bytes else (if byte == 2 then read_with Change false bytes
    else (if byte == 3 then read_with Register true bytes else (if byte == 4 then read_with Change true bytes else Err OutOfRange)))

unfoldable pub read_verb : List ℕ → Reading (Verb × Option Policy)
read_verb = read_then (read_where (is_within 1 4) read_byte) read_verb_of

abbrev pub beginning_of : ℕ × (List ℕ × (List ℕ × List ℕ)) → Beginning
beginning_of parts = record { epoch = parts.0; nonce = parts.1.0; signing_key = parts.1.1.0; vuf_key = parts.1.1.1 }

abbrev pub bound_of : (Verb × Option Policy) × (List ℕ × (List ℕ × List ℕ)) → Record
bound_of parts = Bound parts.0.0 parts.1.0 parts.1.1.0 (record { value = parts.1.1.1; policy = parts.0.1 })

-- a value behind one byte, as a kind or a version
abbrev pub read_mark : {A : Type 0} → ℕ → (List ℕ → Reading A) → List ℕ → Reading A
read_mark mark read bytes = read_then (read_where (λ byte. mark == byte) read_byte) (λ _. read) bytes

-- a reader of what begins with no byte above this: where only one byte is left, it tells a beginning from
-- what is none
abbrev pub read_up_to : {A : Type 0} → ℕ → (List ℕ → Reading A) → List ℕ → Reading A
read_up_to most read [] = read []
read_up_to most read (byte ∷ rest) = if nat_le byte most then read (byte ∷ rest) else Err OutOfRange

unfoldable pub read_start : List ℕ → Reading Beginning
read_start = read_mark 0x4e (read_mark 1
    (read_as beginning_of (read_both (read_number 8) (read_both (read_bytes 32) (read_both (read_bytes 32) (read_bytes 32))))))

unfoldable pub read_bound : List ℕ → Reading Record
read_bound = read_as bound_of (read_both read_verb (read_both (read_bytes 32) (read_both (read_up_to (MAX_NAME_LEN / 256) (read_counted MIN_LEN MAX_NAME_LEN)) (read_up_to (MAX_KEY_DATA_LEN / 256) (read_counted MIN_LEN MAX_KEY_DATA_LEN)))))

abbrev pub turned_of : ℕ → Record
turned_of epoch = Turned epoch None

abbrev pub read_turned : List ℕ → Reading Record
read_turned = read_as turned_of (read_number 8)

abbrev pub rotated_of : ℕ × List ℕ → Record
rotated_of parts = Turned parts.0 (Some parts.1)

abbrev pub read_rotated : List ℕ → Reading Record
read_rotated = read_as rotated_of (read_both (read_number 8) (read_bytes 32))

-- what follows the kind byte of a later record
abbrev pub read_later_of : ℕ → List ℕ → Reading Record
read_later_of kind bytes =
    if kind == 0x4f then read_bound bytes else (if kind == 0x43 then read_turned bytes else (if kind == 0x4b then read_rotated bytes else Err OutOfRange))

unfoldable pub read_later : List ℕ → Reading Record
read_later = read_then read_byte read_later_of

-- the record of a command, which is read with its name and its key where they stand
abbrev pub later_seen : Later → Record
later_seen (later.Bound verb salt name key policy) = Bound verb salt name.now (record { value = key.now; policy = policy })
later_seen (later.Turned epoch nonce) = Turned epoch nonce
