-- What the words of a line say, and that nothing else says it.
use Rattle.std.proofs.Common.{◌≡◌, ◌≢◌, ℕ, ◌^◌, ◌<◌, Bool, true, false, List, [], ◌∷◌, ◌++◌, Option, None, Some, MatchOption, codes, refl, sym, subst, ◌∙◌, inl, inr, arith}
use Rattle.std.specs.Fmt.{decimal}
use Rattle.encoding.specs.declared.bound_key.BoundKey.{BoundKey}
use Rattle.hex.specs.Hex.{encode_lower}
use Rattle.rootchain.specs.declared.signed_promise.SignedPromise.{SignedPromise}
use Rattle.rootchain.specs.Promises.{signed_promise_bytes}
use Rattle.memory.specs.Learning.{IsOfKind}
use Rattle.memory.specs.Lines.{found_words, line_of, promise_word, IsEvidenceLine, IsLineOf}
use Rattle.memory.specs.Words.{HasNoSpace, IsAlarmText, IsFinalText, IsFinding, IsFoundText, IsMarkText, IsNameWord, IsNumberWord, IsPromiseWord, IsReplyWord, IsSighting, IsSpan}
use Rattle.memory.specs.declared.alarm.Alarm.{Alarm as AlarmMade}
use Rattle.memory.specs.declared.final_seen.FinalSeen.{FinalSeen}
use Rattle.memory.specs.declared.item.Item.{Item}
use Rattle.memory.specs.declared.item.Item.TheVariants.{Promised, Watched, Final, Alarm, Evidence}
use Rattle.memory.specs.declared.kind.Kind.TheVariants.{Alarms, EvidenceLines}
use Rattle.memory.specs.declared.mark.Mark.{Mark}
use Rattle.memory.proofs.FoundTexts.{found-line}
use Rattle.memory.proofs.OneItem.{final_alarm, plain-alarm, plain-evidence, plain-final, plain-watched, promise_alarm, promise_final, promise_watched, watched_alarm, watched_final}
use Rattle.memory.proofs.OneWord.{decimal_same, plain-promise_word}
use Rattle.memory.proofs.Plain.{no_space, plain-decimal, plain-hex}
use Rattle.memory.proofs.Splits.{first_same, never_alone}

-- ---- from where to where

pub span_alone : (text : List ℕ) → HasNoSpace text → (span : ℕ × ℕ) → IsSpan text span → IsNumberWord text span.1
span_alone text none span (rising, fits, inl two) = absurd (never_alone (decimal span.0) (decimal span.1) text none (sym two))
span_alone text none span (rising, fits, inr one) = (fits, one.1)

module _ (first second : List ℕ) (none : HasNoSpace first) where
  pub span_two : (span : ℕ × ℕ) → IsSpan (first ++ 32 ∷ second) span → IsNumberWord first span.0 × IsNumberWord second span.1
  span_two span (rising, fits, inl two) =
      let low : span.0 < 2 ^ 64 = omega (arith, rising, fits) in
      let same = first_same first (decimal span.0) second (decimal span.1) none (no_space _ (plain-decimal span.0 low)) two in
      ((low, same.0), (fits, same.1))
  span_two span (rising, fits, inr one) = absurd (never_alone first second (decimal span.1) (no_space _ (plain-decimal span.1 fits)) one.1)

  pub no_first : ((n : ℕ) → ¬ IsNumberWord first n) → (span : ℕ × ℕ) → ¬ IsSpan (first ++ 32 ∷ second) span
  no_first refuses span is = refuses span.0 (span_two span is).0

  pub no_second : ((n : ℕ) → ¬ IsNumberWord second n) → (span : ℕ × ℕ) → ¬ IsSpan (first ++ 32 ∷ second) span
  no_second refuses span is = refuses span.1 (span_two span is).1

  pub falling : (since epoch : ℕ) → IsNumberWord first since → IsNumberWord second epoch → epoch < since → (span : ℕ × ℕ) → ¬ IsSpan (first ++ 32 ∷ second) span
  falling since epoch p q above span is =
      let both = span_two span is in
      let one : since ≡ span.0 = decimal_same since span.0 p.0 both.0.0 (sym p.1 ∙ both.0.1) in
      let other : epoch ≡ span.1 = decimal_same epoch span.1 q.0 both.1.0 (sym q.1 ∙ both.1.1) in
      omega (arith, one, other, above, is.0)

pub no_epoch : (text : List ℕ) → HasNoSpace text → ((n : ℕ) → ¬ IsNumberWord text n) → (span : ℕ × ℕ) → ¬ IsSpan text span
no_epoch text none refuses span is = refuses span.1 (span_alone text none span is)

-- ---- an epoch, and what was found

pub no_finding : (text : List ℕ) → HasNoSpace text → (finding : ℕ × Option BoundKey) → ¬ IsFinding text finding
no_finding text none finding is = never_alone (decimal finding.0) (line_of (found_words finding.1)) text none (sym (is.2 ∙ found-line (decimal finding.0) finding.1))

pub finding_two : (text first second : List ℕ) → text ≡ first ++ 32 ∷ second → HasNoSpace first → (finding : ℕ × Option BoundKey) → IsFinding text finding
    → IsNumberWord first finding.0 × IsFoundText second finding.1
finding_two text first second parts none finding is =
    let same = first_same first (decimal finding.0) second (line_of (found_words finding.1)) none (no_space _ (plain-decimal finding.0 is.0)) (sym parts ∙ is.2 ∙ found-line (decimal finding.0) finding.1) in
    ((is.0, same.0), (is.1, same.1))

-- ---- an epoch, and a reply

pub no_sighting : (text : List ℕ) → HasNoSpace text → (sighting : ℕ × List ℕ) → ¬ IsSighting text sighting
no_sighting text none sighting is = never_alone (decimal sighting.0) (encode_lower sighting.1) text none (sym is.2)

pub sighting_two : (text first second : List ℕ) → text ≡ first ++ 32 ∷ second → HasNoSpace first → (sighting : ℕ × List ℕ) → IsSighting text sighting
    → IsNumberWord first sighting.0 × IsReplyWord second sighting.1
sighting_two text first second parts none sighting is =
    let same = first_same first (decimal sighting.0) second (encode_lower sighting.1) none (no_space _ (plain-decimal sighting.0 is.0)) (sym parts ∙ is.2) in
    ((is.0, same.0), (is.1, same.1))

-- ---- what stands behind the first words

pub no_mark_text : (text : List ℕ) → HasNoSpace text → (mark : Mark) → ¬ IsMarkText text mark
no_mark_text text none mark (named, (rest, is, span)) = never_alone (encode_lower mark.name) rest text none (sym is)

pub mark_two : (text word behind : List ℕ) → text ≡ word ++ 32 ∷ behind → HasNoSpace word → (mark : Mark) → IsMarkText text mark
    → IsNameWord word mark.name × IsSpan behind (mark.since, mark.epoch)
mark_two text word behind parts none mark (named, (rest, is, span)) =
    let same = first_same word (encode_lower mark.name) behind rest none (no_space _ (plain-hex mark.name named.2)) (sym parts ∙ is) in
    ((named, same.0), subst (λ (t : List ℕ). IsSpan t (mark.since, mark.epoch)) (sym same.1) span)

pub no_alarm_text : (text : List ℕ) → HasNoSpace text → (alarm : AlarmMade) → ¬ IsAlarmText text alarm
no_alarm_text text none alarm (named, (rest, is, finding)) = never_alone (encode_lower alarm.name) rest text none (sym is)

pub alarm_two : (text word behind : List ℕ) → text ≡ word ++ 32 ∷ behind → HasNoSpace word → (alarm : AlarmMade) → IsAlarmText text alarm
    → IsNameWord word alarm.name × IsFinding behind (alarm.epoch, alarm.found)
alarm_two text word behind parts none alarm (named, (rest, is, finding)) =
    let same = first_same word (encode_lower alarm.name) behind rest none (no_space _ (plain-hex alarm.name named.2)) (sym parts ∙ is) in
    ((named, same.0), subst (λ (t : List ℕ). IsFinding t (alarm.epoch, alarm.found)) (sym same.1) finding)

pub no_final_text : (text : List ℕ) → HasNoSpace text → (seen : FinalSeen) → ¬ IsFinalText text seen
no_final_text text none seen (named, (rest, is, sighting)) = never_alone (encode_lower seen.name) rest text none (sym is)

pub final_two : (text word behind : List ℕ) → text ≡ word ++ 32 ∷ behind → HasNoSpace word → (seen : FinalSeen) → IsFinalText text seen
    → IsNameWord word seen.name × IsSighting behind (seen.epoch, seen.reply)
final_two text word behind parts none seen (named, (rest, is, sighting)) =
    let same = first_same word (encode_lower seen.name) behind rest none (no_space _ (plain-hex seen.name named.2)) (sym parts ∙ is) in
    ((named, same.0), subst (λ (t : List ℕ). IsSighting t (seen.epoch, seen.reply)) (sym same.1) sighting)

-- ---- lines

abbrev pub Says : List ℕ → List ℕ → Item → Type 0
Says word behind (Promised promised) = (word ≡ promise_word promised.is_own) × IsPromiseWord behind promised.signed
Says word behind (Watched mark) = (word ≡ codes "watched") × IsMarkText behind mark
Says word behind (Final seen) = (word ≡ codes "final") × IsFinalText behind seen
Says word behind (Alarm alarm) = (word ≡ codes "alarm") × IsAlarmText behind alarm
Says word behind (Evidence line) = ⊥

never_evidence : (word behind line : List ℕ) → IsEvidenceLine line → word ++ 32 ∷ behind ≡ line → ⊥
never_evidence word behind line sound is = never_alone word behind line (no_space line (plain-evidence line sound)) is

pub says : (word behind : List ℕ) → HasNoSpace word → (item : Item) → IsLineOf (word ++ 32 ∷ behind) item → Says word behind item
says word behind none (Promised promised) (sound, inl is) =
    let same = first_same word (promise_word promised.is_own) behind (encode_lower (signed_promise_bytes promised.signed)) none (no_space (promise_word promised.is_own) (plain-promise_word promised.is_own)) is in
    (same.0, (sound, same.1))
says word behind none (Watched mark) (sound, inl is) =
    let rest = line_of (decimal mark.since ∷ decimal mark.epoch ∷ []) in
    let same = first_same word (codes "watched") behind (encode_lower mark.name ++ 32 ∷ rest) none (no_space (codes "watched") plain-watched) is in
    (same.0, (sound.0, (rest, same.1, (sound.1, sound.2, inl refl))))
says word behind none (Watched mark) (sound, inr (at, is)) =
    let same = first_same word (codes "watched") behind (encode_lower mark.name ++ 32 ∷ decimal mark.epoch) none (no_space (codes "watched") plain-watched) is in
    (same.0, (sound.0, (decimal mark.epoch, same.1, (sound.1, sound.2, inr (at, refl)))))
says word behind none (Final seen) (sound, inl is) =
    let rest = line_of (decimal seen.epoch ∷ encode_lower seen.reply ∷ []) in
    let same = first_same word (codes "final") behind (encode_lower seen.name ++ 32 ∷ rest) none (no_space (codes "final") plain-final) is in
    (same.0, (sound.0, (rest, same.1, (sound.1, sound.2, refl))))
says word behind none (Alarm alarm) (sound, inl is) =
    let rest = line_of (decimal alarm.epoch ∷ found_words alarm.found) in
    let same = first_same word (codes "alarm") behind (encode_lower alarm.name ++ 32 ∷ rest) none (no_space (codes "alarm") plain-alarm) is in
    (same.0, (sound.0, (rest, same.1, (sound.1, sound.2, refl))))
says word behind none (Evidence line) (sound, inl is) = never_evidence word behind line sound is
says word behind none (Evidence line) (sound, inr never) = never
says word behind none (Promised promised) (sound, inr never) = absurd never
says word behind none (Final seen) (sound, inr never) = absurd never
says word behind none (Alarm alarm) (sound, inr never) = absurd never

pub no_promised : (is_own : Bool) (behind : List ℕ) → ((signed : SignedPromise) → ¬ IsPromiseWord behind signed) → (item : Item) → ¬ IsLineOf (promise_word is_own ++ 32 ∷ behind) item
no_promised is_own behind refuses item is = by item (says (promise_word is_own) behind (no_space (promise_word is_own) (plain-promise_word is_own)) item is)
  where
    by : (item : Item) → Says (promise_word is_own) behind item → ⊥
    by (Promised promised) said = refuses promised.signed said.1
    by (Watched mark) said = promise_watched is_own said.0
    by (Final seen) said = promise_final is_own said.0
    by (Alarm alarm) said = promise_alarm is_own said.0
    by (Evidence line) said = said

pub no_mark : (behind : List ℕ) → ((mark : Mark) → ¬ IsMarkText behind mark) → (item : Item) → ¬ IsLineOf (codes "watched" ++ 32 ∷ behind) item
no_mark behind refuses item is = by item (says (codes "watched") behind (no_space (codes "watched") plain-watched) item is)
  where
    by : (item : Item) → Says (codes "watched") behind item → ⊥
    by (Promised promised) said = promise_watched promised.is_own (sym said.0)
    by (Watched mark) said = refuses mark said.1
    by (Final seen) said = watched_final said.0
    by (Alarm alarm) said = watched_alarm said.0
    by (Evidence line) said = said

pub no_alarm : (behind : List ℕ) → ((alarm : AlarmMade) → ¬ IsAlarmText behind alarm) → (item : Item) → ¬ IsLineOf (codes "alarm" ++ 32 ∷ behind) item
no_alarm behind refuses item is = by item (says (codes "alarm") behind (no_space (codes "alarm") plain-alarm) item is)
  where
    by : (item : Item) → Says (codes "alarm") behind item → ⊥
    by (Promised promised) said = promise_alarm promised.is_own (sym said.0)
    by (Watched mark) said = watched_alarm (sym said.0)
    by (Final seen) said = final_alarm (sym said.0)
    by (Alarm alarm) said = refuses alarm said.1
    by (Evidence line) said = said

pub no_final : (behind : List ℕ) → ((seen : FinalSeen) → ¬ IsFinalText behind seen) → (item : Item) → ¬ IsLineOf (codes "final" ++ 32 ∷ behind) item
no_final behind refuses item is = by item (says (codes "final") behind (no_space (codes "final") plain-final) item is)
  where
    by : (item : Item) → Says (codes "final") behind item → ⊥
    by (Promised promised) said = promise_final promised.is_own (sym said.0)
    by (Watched mark) said = watched_final (sym said.0)
    by (Final seen) said = refuses seen said.1
    by (Alarm alarm) said = final_alarm said.0
    by (Evidence line) said = said

pub no_item : (word behind : List ℕ) → HasNoSpace word → word ≢ codes "promise" → word ≢ codes "change" → word ≢ codes "watched" → word ≢ codes "alarm" → word ≢ codes "final"
    → (item : Item) → ¬ IsLineOf (word ++ 32 ∷ behind) item
no_item word behind none promise change watched alarm final item is = by item (says word behind none item is)
  where
    own : (is_own : Bool) → word ≡ promise_word is_own → ⊥
    own true e = change e
    own false e = promise e

    by : (item : Item) → Says word behind item → ⊥
    by (Promised promised) said = own promised.is_own said.0
    by (Watched mark) said = watched said.0
    by (Final seen) said = final said.0
    by (Alarm mark) said = alarm said.0
    by (Evidence line) said = said

-- a line of one word is evidence
pub alone_evidence : (line : List ℕ) → HasNoSpace line → (item : Item) → IsLineOf line item → IsEvidenceLine line
alone_evidence line none (Promised promised) (sound, inl is) = absurd (never_alone (promise_word promised.is_own) _ line none (sym is))
alone_evidence line none (Watched mark) (sound, inl is) = absurd (never_alone (codes "watched") _ line none (sym is))
alone_evidence line none (Watched mark) (sound, inr (at, is)) = absurd (never_alone (codes "watched") _ line none (sym is))
alone_evidence line none (Final seen) (sound, inl is) = absurd (never_alone (codes "final") _ line none (sym is))
alone_evidence line none (Alarm alarm) (sound, inl is) = absurd (never_alone (codes "alarm") _ line none (sym is))
alone_evidence line none (Evidence text) (sound, inl is) = subst IsEvidenceLine (sym is) sound
alone_evidence line none (Promised promised) (sound, inr never) = absurd never
alone_evidence line none (Final seen) (sound, inr never) = absurd never
alone_evidence line none (Alarm alarm) (sound, inr never) = absurd never
alone_evidence line none (Evidence text) (sound, inr never) = absurd never

-- ---- lines by their first words

no_alarm_alone : (line : List ℕ) → HasNoSpace line → (alarm : AlarmMade) → ¬ IsLineOf line (Alarm alarm)
no_alarm_alone line none alarm (sound, inl is) = never_alone (codes "alarm") _ line none (sym is)
no_alarm_alone line none alarm (sound, inr never) = never

-- a line that begins with another word is of no alarm
pub not_alarm : {A : Type 0} (read : A → List ℕ) (line word : List ℕ) (behind : Option A) → HasNoSpace word → MatchOption behind (line ≡ word) (λ b. line ≡ word ++ 32 ∷ read b) → word ≢ codes "alarm"
    → (item : Item) → IsLineOf line item → ¬ IsOfKind Alarms item
not_alarm read line word None none is other (Alarm alarm) of kind = no_alarm_alone word none alarm (subst (λ (l : List ℕ). IsLineOf l (Alarm alarm)) is of)
not_alarm read line word (Some b) none is other (Alarm alarm) of kind = other (says word (read b) none (Alarm alarm) (subst (λ (l : List ℕ). IsLineOf l (Alarm alarm)) is of)).0
not_alarm read line word behind none is other (Promised promised) of kind = kind
not_alarm read line word behind none is other (Watched mark) of kind = kind
not_alarm read line word behind none is other (Final seen) of kind = kind
not_alarm read line word behind none is other (Evidence text) of kind = kind

-- one of more words is no evidence
pub not_evidence : (line word behind : List ℕ) → HasNoSpace word → line ≡ word ++ 32 ∷ behind → (item : Item) → IsLineOf line item → ¬ IsOfKind EvidenceLines item
not_evidence line word behind none is (Evidence text) of kind = says word behind none (Evidence text) (subst (λ (l : List ℕ). IsLineOf l (Evidence text)) is of)
not_evidence line word behind none is (Promised promised) of kind = kind
not_evidence line word behind none is (Watched mark) of kind = kind
not_evidence line word behind none is (Final seen) of kind = kind
not_evidence line word behind none is (Alarm alarm) of kind = kind
