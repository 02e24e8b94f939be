-- The lines of what is remembered: words with one space between them (the forms are this directory's own).
use Rattle.std.specs.Prelude.{◌≡◌, ◌⊎◌, ℕ, ◌^◌, ◌<◌, ◌≤◌, Bool, true, false, List, [], ◌∷◌, length, Option, None, Some, IfSome, ⊤, codes, decimal}
use Rattle.std.specs.List.{join_with_byte}
use Rattle.auditor.specs.declared.evidence.Evidence.{Evidence as EvidenceMade}
use Rattle.audits.specs.Files.{evidence_text}
use Rattle.audits.specs.Parts.{IsFormed}
use Rattle.encoding.specs.Bytes.{IsBytes}
use Rattle.encoding.specs.Limits.{IsName, IsKeyData}
use Rattle.encoding.specs.declared.bound_key.BoundKey.{BoundKey}
use Rattle.encoding.specs.declared.fixed_text.TheConstants.{PROOF_TEXT_ROOM}
use Rattle.encoding.specs.declared.policy.Policy.{Policy}
use Rattle.encoding.specs.Policies.{policy_word}
use Rattle.hex.specs.Hex.{encode_lower}
use Rattle.rootchain.specs.Promises.{signed_promise_bytes, IsSignedPromise}
use Rattle.memory.specs.declared.alarm.Alarm.{Alarm as AlarmMade}
use Rattle.memory.specs.declared.final_seen.FinalSeen.{FinalSeen}
use Rattle.memory.specs.declared.item.Item.{Item}
use Rattle.memory.specs.declared.item.Item.TheVariants.{Promised, Watched, Final, Alarm, Evidence}
use Rattle.memory.specs.declared.mark.Mark.{Mark}

-- words with one space between them
abbrev pub line_of : List (List ℕ) → List ℕ
line_of = join_with_byte 32

-- a promise, for a change of the owner's own or of others
abbrev pub promise_word : Bool → List ℕ
promise_word true = codes "change"
promise_word false = codes "promise"

abbrev pub policy_words : Option Policy → List (List ℕ)
policy_words None = []
policy_words (Some policy) = policy_word policy ∷ []

-- a key, with its policy behind it if it has one, or that there was none
abbrev pub found_words : Option BoundKey → List (List ℕ)
found_words None = codes "absent" ∷ []
found_words (Some key) = encode_lower key.value ∷ policy_words key.policy

abbrev pub item_words : Item → List (List ℕ)
item_words (Promised promised) = promise_word promised.is_own ∷ encode_lower (signed_promise_bytes promised.signed) ∷ []
item_words (Watched mark) = codes "watched" ∷ encode_lower mark.name ∷ decimal mark.since ∷ decimal mark.epoch ∷ []
item_words (Final seen) = codes "final" ∷ encode_lower seen.name ∷ decimal seen.epoch ∷ encode_lower seen.reply ∷ []
item_words (Alarm alarm) = codes "alarm" ∷ encode_lower alarm.name ∷ decimal alarm.epoch ∷ found_words alarm.found
item_words (Evidence line) = line ∷ []

abbrev pub item_line : Item → List ℕ
item_line item = line_of (item_words item)

-- a line of the older form `watched NAME EPOCH`, in which nothing tells from where the name was watched
abbrev pub IsOlderLine : List ℕ → Item → Type 0
IsOlderLine line (Watched mark) = (mark.since ≡ mark.epoch) × (line ≡ line_of (codes "watched" ∷ encode_lower mark.name ∷ decimal mark.epoch ∷ []))
IsOlderLine line (Promised promised) = ⊥
IsOlderLine line (Final seen) = ⊥
IsOlderLine line (Alarm alarm) = ⊥
IsOlderLine line (Evidence text) = ⊥

-- the text of well-formed evidence
abbrev pub IsEvidenceLine : List ℕ → Type 0
IsEvidenceLine line = (evidence : EvidenceMade) × IsFormed evidence × (line ≡ evidence_text evidence)

abbrev pub IsMark : Mark → Type 0
IsMark mark = IsName mark.name × (mark.since ≤ mark.epoch) × (mark.epoch < 2 ^ 64)

-- bytes that have room in the text of a proof
abbrev pub HasRoom : List ℕ → Type 0
HasRoom bytes = (length bytes ≤ PROOF_TEXT_ROOM) × IsBytes bytes

abbrev pub IsFinalSeen : FinalSeen → Type 0
IsFinalSeen seen = IsName seen.name × (seen.epoch < 2 ^ 64) × HasRoom seen.reply

abbrev pub IsAlarm : AlarmMade → Type 0
IsAlarm alarm = IsName alarm.name × (alarm.epoch < 2 ^ 64) × IfSome alarm.found (λ key. IsKeyData key.value)

-- what an item may hold
abbrev pub IsSound : Item → Type 0
IsSound (Promised promised) = IsSignedPromise promised.signed
IsSound (Watched mark) = IsMark mark
IsSound (Final seen) = IsFinalSeen seen
IsSound (Alarm alarm) = IsAlarm alarm
IsSound (Evidence line) = IsEvidenceLine line

-- a name that an item has is one
abbrev pub IsNamed : Item → Type 0
IsNamed (Promised promised) = ⊤
IsNamed (Watched mark) = IsName mark.name
IsNamed (Final seen) = IsName seen.name
IsNamed (Alarm alarm) = IsName alarm.name
IsNamed (Evidence line) = ⊤

-- the line is of this item
abbrev pub IsLineOf : List ℕ → Item → Type 0
IsLineOf line item = IsSound item × ((line ≡ item_line item) ⊎ IsOlderLine line item)
