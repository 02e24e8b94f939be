-- The words of a line, as they are read.
use Rattle.std.specs.Prelude.{◌≡◌, ◌≢◌, ◌⊎◌, ℕ, ◌^◌, ◌<◌, ◌≤◌, List, [], ◌∷◌, ◌++◌, Option, IfSome, decimal}
use Rattle.std.specs.List.{AllByRecursion}
use Rattle.encoding.specs.Bytes.{IsBytes}
use Rattle.encoding.specs.Limits.{IsName, IsKeyData}
use Rattle.encoding.specs.declared.bound_key.BoundKey.{BoundKey}
use Rattle.hex.specs.Hex.{encode_lower}
use Rattle.rootchain.specs.Promises.{signed_promise_bytes, IsSignedPromise}
use Rattle.rootchain.specs.declared.signed_promise.SignedPromise.{SignedPromise}
use Rattle.memory.specs.Lines.{found_words, line_of, HasRoom}
use Rattle.memory.specs.declared.alarm.Alarm.{Alarm}
use Rattle.memory.specs.declared.final_seen.FinalSeen.{FinalSeen}
use Rattle.memory.specs.declared.mark.Mark.{Mark}

-- no space among the bytes
abbrev pub HasNoSpace : List ℕ → Type 0
HasNoSpace = AllByRecursion (λ byte. byte ≢ 32)

-- the word gives these bytes in hex, in lower case
abbrev pub IsHexOf : List ℕ → List ℕ → Type 0
IsHexOf word bytes = IsBytes bytes × (word ≡ encode_lower bytes)

abbrev pub IsNumberWord : List ℕ → ℕ → Type 0
IsNumberWord word number = (number < 2 ^ 64) × (word ≡ decimal number)

abbrev pub IsNameWord : List ℕ → List ℕ → Type 0
IsNameWord word name = IsName name × (word ≡ encode_lower name)

abbrev pub IsFoundText : List ℕ → Option BoundKey → Type 0
IsFoundText text found = IfSome found (λ key. IsKeyData key.value) × (text ≡ line_of (found_words found))

abbrev pub IsPromiseWord : List ℕ → SignedPromise → Type 0
IsPromiseWord word signed = IsSignedPromise signed × (word ≡ encode_lower (signed_promise_bytes signed))

abbrev pub IsReplyWord : List ℕ → List ℕ → Type 0
IsReplyWord word reply = HasRoom reply × (word ≡ encode_lower reply)

-- from where to where a name was watched: two epochs, or one that is both
abbrev pub IsSpan : List ℕ → ℕ × ℕ → Type 0
IsSpan text span = (span.0 ≤ span.1) × (span.1 < 2 ^ 64)
    × ((text ≡ line_of (decimal span.0 ∷ decimal span.1 ∷ [])) ⊎ ((span.0 ≡ span.1) × (text ≡ decimal span.1)))

-- an epoch, and what was found
abbrev pub IsFinding : List ℕ → ℕ × Option BoundKey → Type 0
IsFinding text finding = (finding.0 < 2 ^ 64) × IfSome finding.1 (λ key. IsKeyData key.value) × (text ≡ line_of (decimal finding.0 ∷ found_words finding.1))

-- an epoch, and a reply
abbrev pub IsSighting : List ℕ → ℕ × List ℕ → Type 0
IsSighting text sighting = (sighting.0 < 2 ^ 64) × HasRoom sighting.1 × (text ≡ line_of (decimal sighting.0 ∷ encode_lower sighting.1 ∷ []))

-- what stands behind the word `watched`
abbrev pub IsMarkText : List ℕ → Mark → Type 0
IsMarkText text mark = IsName mark.name × ((rest : List ℕ) × (text ≡ encode_lower mark.name ++ 32 ∷ rest) × IsSpan rest (mark.since, mark.epoch))

-- what stands behind the word `alarm`
abbrev pub IsAlarmText : List ℕ → Alarm → Type 0
IsAlarmText text alarm = IsName alarm.name × ((rest : List ℕ) × (text ≡ encode_lower alarm.name ++ 32 ∷ rest) × IsFinding rest (alarm.epoch, alarm.found))

-- what stands behind the word `final`
abbrev pub IsFinalText : List ℕ → FinalSeen → Type 0
IsFinalText text seen = IsName seen.name × ((rest : List ℕ) × (text ≡ encode_lower seen.name ++ 32 ∷ rest) × IsSighting rest (seen.epoch, seen.reply))
