-- A line is of one item.
use Rattle.std.proofs.Common.{◌≡◌, ℕ, Bool, true, false, List, [], ◌∷◌, Option, None, Some, codes, refl, sym, ap, ap₂, subst, ◌∙◌, inl, inr, arith}
use Rattle.std.specs.Fmt.{decimal}
use Rattle.std.specs.List.{AllByRecursion}
use Rattle.auditor.specs.declared.evidence.Evidence.{Evidence as EvidenceMade}
use Rattle.audits.specs.Files.{parts_text}
use Rattle.audits.specs.Parts.{evidence_parts}
use Rattle.audits.proofs.Parts.{IsBytes-first, IsBytes-second}
use Rattle.auditor.specs.declared.evidence.Evidence.TheVariants as made
use Rattle.rootchain.specs.declared.evidence.RootEvidence.TheVariants.{Fork, Link, Skip}
use Rattle.encoding.specs.declared.bound_key.BoundKey.{BoundKey}
use Rattle.hex.specs.Hex.{encode_lower}
use Rattle.rootchain.specs.Promises.{signed_promise_bytes}
use Rattle.memory.specs.Lines.{found_words, item_line, line_of, promise_word, IsEvidenceLine, IsLineOf, IsMark, IsOlderLine, IsSound}
use Rattle.memory.specs.declared.alarm.Alarm.{Alarm as AlarmMade}
use Rattle.memory.specs.declared.final_seen.FinalSeen.{FinalSeen}
use Rattle.memory.specs.declared.item.Item.{Item}
use Rattle.memory.specs.declared.item.Item.TheVariants.{Promised, Watched, Final, Alarm, Evidence}
use Rattle.memory.specs.declared.mark.Mark.{Mark}
use Rattle.memory.proofs.OneWord.{IsBytes-promise, decimal_same, few, found_same, heads, hex_same, other_words, own_same, plain-found, plain-promise_word, plain_word, promise_same}
use Rattle.memory.proofs.Plain.{no_space, plain-append, plain-decimal, plain-hex, IsPlain}
use Rattle.memory.proofs.Splits.{first_same, never_alone}

abbrev pub ArePlain : List (List ℕ) → Type 0
ArePlain = AllByRecursion IsPlain

pub words_same : (w v : List ℕ) (ws vs : List (List ℕ)) → ArePlain (w ∷ ws) → ArePlain (v ∷ vs) → line_of (w ∷ ws) ≡ line_of (v ∷ vs) → (w ≡ v) × (ws ≡ vs)
words_same w v [] [] p q e = (e, refl)
words_same w v [] (y ∷ ys) p q e = absurd (never_alone v (line_of (y ∷ ys)) w (no_space w p.0) (sym e))
words_same w v (x ∷ xs) [] p q e = absurd (never_alone w (line_of (x ∷ xs)) v (no_space v q.0) e)
words_same w v (x ∷ xs) (y ∷ ys) p q e =
    let first = first_same w v (line_of (x ∷ xs)) (line_of (y ∷ ys)) (no_space w p.0) (no_space v q.0) e in
    let rest = words_same x y xs ys p.1 q.1 first.1 in
    (first.0, ap₂ (λ (z : List ℕ) (zs : List (List ℕ)). z ∷ zs) rest.0 rest.1)

pub plain-kind : (evidence : EvidenceMade) → IsPlain (evidence_parts evidence).kind
plain-kind (made.Root (Fork one other)) = plain_word (codes "fork") refl
plain-kind (made.Root (Link one other)) = plain_word (codes "link") refl
plain-kind (made.Root (Skip one other)) = plain_word (codes "skip") refl
plain-kind (made.Broken broken) = plain_word (codes "broken-promise") refl
plain-kind (made.Final broken) = plain_word (codes "broken-final") refl

pub plain-evidence : (line : List ℕ) → IsEvidenceLine line → IsPlain line
unfolding parts_text
plain-evidence line (evidence, formed, is) =
    let parts = evidence_parts evidence in
    subst IsPlain (sym is)
    (plain-append (codes "{\"first\":\"") _ (plain_word (codes "{\"first\":\"") refl)
    (plain-append (encode_lower parts.first) _ (plain-hex parts.first (IsBytes-first evidence formed))
    (plain-append (codes "\",\"kind\":\"") _ (plain_word (codes "\",\"kind\":\"") refl)
    (plain-append parts.kind _ (plain-kind evidence)
    (plain-append (codes "\",\"second\":\"") _ (plain_word (codes "\",\"second\":\"") refl)
    (plain-append (encode_lower parts.second) _ (plain-hex parts.second (IsBytes-second evidence formed))
    (plain_word (codes "\"}") refl)))))))

-- the words of an item, the first of them and the others
abbrev pub first_of : Item → List ℕ
first_of (Promised promised) = promise_word promised.is_own
first_of (Watched mark) = codes "watched"
first_of (Final seen) = codes "final"
first_of (Alarm alarm) = codes "alarm"
first_of (Evidence line) = line

abbrev pub rest_of : Item → List (List ℕ)
rest_of (Promised promised) = encode_lower (signed_promise_bytes promised.signed) ∷ []
rest_of (Watched mark) = encode_lower mark.name ∷ decimal mark.since ∷ decimal mark.epoch ∷ []
rest_of (Final seen) = encode_lower seen.name ∷ decimal seen.epoch ∷ encode_lower seen.reply ∷ []
rest_of (Alarm alarm) = encode_lower alarm.name ∷ decimal alarm.epoch ∷ found_words alarm.found
rest_of (Evidence line) = []

pub line_parts : (item : Item) → item_line item ≡ line_of (first_of item ∷ rest_of item)
line_parts (Promised promised) = refl
line_parts (Watched mark) = refl
line_parts (Final seen) = refl
line_parts (Alarm alarm) = refl
line_parts (Evidence line) = refl

pub plain-watched : IsPlain (codes "watched")
plain-watched = plain_word (codes "watched") refl

pub plain-final : IsPlain (codes "final")
plain-final = plain_word (codes "final") refl

pub plain-alarm : IsPlain (codes "alarm")
plain-alarm = plain_word (codes "alarm") refl

plain-since : (mark : Mark) → IsMark mark → IsPlain (decimal mark.since)
plain-since mark sound = plain-decimal mark.since (omega (arith, sound.1, sound.2))

pub plain-item : (item : Item) → IsSound item → ArePlain (first_of item ∷ rest_of item)
plain-item (Promised promised) sound = (plain-promise_word promised.is_own, (plain-hex (signed_promise_bytes promised.signed) (IsBytes-promise promised.signed sound), tt))
plain-item (Watched mark) sound = (plain-watched, (plain-hex mark.name sound.0.2, (plain-since mark sound, (plain-decimal mark.epoch sound.2, tt))))
plain-item (Final seen) sound = (plain-final, (plain-hex seen.name sound.0.2, (plain-decimal seen.epoch sound.1, (plain-hex seen.reply sound.2.1, tt))))
plain-item (Alarm alarm) sound = (plain-alarm, (plain-hex alarm.name sound.0.2, (plain-decimal alarm.epoch sound.1, plain-found alarm.found sound.2)))
plain-item (Evidence line) sound = (plain-evidence line sound, tt)

-- ---- equal lines

promise_no : (is_own : Bool) (word : List ℕ) → (promise_word true ≡ word → ⊥) → (promise_word false ≡ word → ⊥) → promise_word is_own ≡ word → ⊥
promise_no true word own others = own
promise_no false word own others = others

pub promise_watched : (is_own : Bool) → promise_word is_own ≡ codes "watched" → ⊥
promise_watched is_own = promise_no is_own (codes "watched") (other_words (codes "change") (codes "watched") refl) (other_words (codes "promise") (codes "watched") refl)

pub promise_final : (is_own : Bool) → promise_word is_own ≡ codes "final" → ⊥
promise_final is_own = promise_no is_own (codes "final") (other_words (codes "change") (codes "final") refl) (other_words (codes "promise") (codes "final") refl)

pub promise_alarm : (is_own : Bool) → promise_word is_own ≡ codes "alarm" → ⊥
promise_alarm is_own = promise_no is_own (codes "alarm") (other_words (codes "change") (codes "alarm") refl) (other_words (codes "promise") (codes "alarm") refl)

pub watched_final : codes "watched" ≡ codes "final" → ⊥
watched_final = other_words (codes "watched") (codes "final") refl

pub final_alarm : codes "final" ≡ codes "alarm" → ⊥
final_alarm = other_words (codes "final") (codes "alarm") refl

pub watched_alarm : codes "watched" ≡ codes "alarm" → ⊥
watched_alarm = other_words (codes "watched") (codes "alarm") refl

pub mark_same : (one other : Mark) → one.name ≡ other.name → one.since ≡ other.since → one.epoch ≡ other.epoch → one ≡ other
mark_same one other name since epoch =
    let P : List ℕ → Mark = λ x. record { name = x; since = one.since; epoch = one.epoch } in
    let Q : ℕ → Mark = λ x. record { name = other.name; since = x; epoch = one.epoch } in
    let R : ℕ → Mark = λ x. record { name = other.name; since = other.since; epoch = x } in
    ap P name ∙ ap Q since ∙ ap R epoch

final_same : (one other : FinalSeen) → one.name ≡ other.name → one.epoch ≡ other.epoch → one.reply ≡ other.reply → one ≡ other
final_same one other name epoch reply =
    let P : List ℕ → FinalSeen = λ x. record { name = x; epoch = one.epoch; reply = one.reply } in
    let Q : ℕ → FinalSeen = λ x. record { name = other.name; epoch = x; reply = one.reply } in
    let R : List ℕ → FinalSeen = λ x. record { name = other.name; epoch = other.epoch; reply = x } in
    ap P name ∙ ap Q epoch ∙ ap R reply

alarm_same : (one other : AlarmMade) → one.name ≡ other.name → one.epoch ≡ other.epoch → one.found ≡ other.found → one ≡ other
alarm_same one other name epoch found =
    let P : List ℕ → AlarmMade = λ x. record { name = x; epoch = one.epoch; found = one.found } in
    let Q : ℕ → AlarmMade = λ x. record { name = other.name; epoch = x; found = one.found } in
    let R : Option BoundKey → AlarmMade = λ x. record { name = other.name; epoch = other.epoch; found = x } in
    ap P name ∙ ap Q epoch ∙ ap R found

same_rest : (one other : Item) → IsSound one → IsSound other → first_of one ≡ first_of other → rest_of one ≡ rest_of other → one ≡ other
same_rest (Promised one) (Promised other) p q first rest =
    let signed : one.signed ≡ other.signed = promise_same one.signed other.signed p q (heads _ _ _ _ rest).0 in
    let own : one.is_own ≡ other.is_own = own_same one.is_own other.is_own first in
    ap₂ (λ s o. Promised (record { signed = s; is_own = o })) signed own
same_rest (Watched one) (Watched other) p q first rest =
    let a = heads _ _ _ _ rest in
    let b = heads _ _ _ _ a.1 in
    let c = heads _ _ _ _ b.1 in
    ap Watched (mark_same one other (hex_same one.name other.name p.0.2 q.0.2 a.0)
    (decimal_same one.since other.since (omega (arith, p.1, p.2)) (omega (arith, q.1, q.2)) b.0) (decimal_same one.epoch other.epoch p.2 q.2 c.0))
same_rest (Final one) (Final other) p q first rest =
    let a = heads _ _ _ _ rest in
    let b = heads _ _ _ _ a.1 in
    let c = heads _ _ _ _ b.1 in
    ap Final (final_same one other (hex_same one.name other.name p.0.2 q.0.2 a.0) (decimal_same one.epoch other.epoch p.1 q.1 b.0) (hex_same one.reply other.reply p.2.1 q.2.1 c.0))
same_rest (Alarm one) (Alarm other) p q first rest =
    let a = heads _ _ _ _ rest in
    let b = heads _ _ _ _ a.1 in
    ap Alarm (alarm_same one other (hex_same one.name other.name p.0.2 q.0.2 a.0) (decimal_same one.epoch other.epoch p.1 q.1 b.0) (found_same one.found other.found p.2 q.2 b.1))
same_rest (Evidence one) (Evidence other) p q first rest = ap Evidence first
same_rest (Promised one) (Watched other) p q first rest = absurd (promise_watched one.is_own first)
same_rest (Promised one) (Final other) p q first rest = absurd (promise_final one.is_own first)
same_rest (Promised one) (Alarm other) p q first rest = absurd (promise_alarm one.is_own first)
same_rest (Promised one) (Evidence other) p q first rest = absurd (few _ _ (sym rest))
same_rest (Watched one) (Promised other) p q first rest = absurd (promise_watched other.is_own (sym first))
same_rest (Watched one) (Final other) p q first rest = absurd (watched_final first)
same_rest (Watched one) (Alarm other) p q first rest = absurd (watched_alarm first)
same_rest (Watched one) (Evidence other) p q first rest = absurd (few _ _ (sym rest))
same_rest (Final one) (Promised other) p q first rest = absurd (promise_final other.is_own (sym first))
same_rest (Final one) (Watched other) p q first rest = absurd (watched_final (sym first))
same_rest (Final one) (Alarm other) p q first rest = absurd (final_alarm first)
same_rest (Final one) (Evidence other) p q first rest = absurd (few _ _ (sym rest))
same_rest (Alarm one) (Final other) p q first rest = absurd (final_alarm (sym first))
same_rest (Alarm one) (Promised other) p q first rest = absurd (promise_alarm other.is_own (sym first))
same_rest (Alarm one) (Watched other) p q first rest = absurd (watched_alarm (sym first))
same_rest (Alarm one) (Evidence other) p q first rest = absurd (few _ _ (sym rest))
same_rest (Evidence one) (Promised other) p q first rest = absurd (few _ _ rest)
same_rest (Evidence one) (Watched other) p q first rest = absurd (few _ _ rest)
same_rest (Evidence one) (Final other) p q first rest = absurd (few _ _ rest)
same_rest (Evidence one) (Alarm other) p q first rest = absurd (few _ _ rest)

pub same_line : (one other : Item) → IsSound one → IsSound other → item_line one ≡ item_line other → one ≡ other
same_line one other p q e =
    let words = words_same (first_of one) (first_of other) (rest_of one) (rest_of other) (plain-item one p) (plain-item other q) (sym (line_parts one) ∙ e ∙ line_parts other) in
    same_rest one other p q words.0 words.1

-- ---- the older form

abbrev older_rest : Mark → List (List ℕ)
older_rest mark = encode_lower mark.name ∷ decimal mark.epoch ∷ []

plain-older : (mark : Mark) → IsMark mark → ArePlain (codes "watched" ∷ older_rest mark)
plain-older mark sound = (plain-watched, (plain-hex mark.name sound.0.2, (plain-decimal mark.epoch sound.2, tt)))

other_rest : (one : Item) (mark : Mark) → rest_of one ≡ older_rest mark → ⊥
other_rest (Promised one) mark rest = few _ _ (heads _ _ _ _ rest).1
other_rest (Watched one) mark rest = few _ _ (sym (heads _ _ _ _ (heads _ _ _ _ rest).1).1)
other_rest (Final one) mark rest = few _ _ (sym (heads _ _ _ _ (heads _ _ _ _ rest).1).1)
other_rest (Alarm one) mark rest = none one.found (heads _ _ _ _ (heads _ _ _ _ rest).1).1
  where
    none : (found : Option BoundKey) → found_words found ≡ [] → ⊥
    none None e = few _ _ (sym e)
    none (Some key) e = few _ _ (sym e)
other_rest (Evidence one) mark rest = few _ _ rest

-- a line of the older form is no line of the newer one
pub older_is_other : (line : List ℕ) (one other : Item) → IsSound one → IsSound other → line ≡ item_line one → IsOlderLine line other → ⊥
older_is_other line one (Watched mark) p q is (same, older) =
    let words = words_same (first_of one) (codes "watched") (rest_of one) (older_rest mark) (plain-item one p) (plain-older mark q) (sym (line_parts one) ∙ sym is ∙ older) in
    other_rest one mark words.1
older_is_other line one (Promised other) p q is never = never
older_is_other line one (Final other) p q is never = never
older_is_other line one (Alarm other) p q is never = never
older_is_other line one (Evidence other) p q is never = never

both_older : (line : List ℕ) (one other : Item) → IsSound one → IsSound other → IsOlderLine line one → IsOlderLine line other → one ≡ other
both_older line (Watched one) (Watched other) p q (same, is) (also, be) =
    let words = words_same (codes "watched") (codes "watched") (older_rest one) (older_rest other) (plain-older one p) (plain-older other q) (sym is ∙ be) in
    let a = heads _ _ _ _ words.1 in
    let b = heads _ _ _ _ a.1 in
    let epoch = decimal_same one.epoch other.epoch p.2 q.2 b.0 in
    ap Watched (mark_same one other (hex_same one.name other.name p.0.2 q.0.2 a.0) (same ∙ epoch ∙ sym also) epoch)
both_older line (Promised one) other p q never is = absurd never
both_older line (Final one) other p q never is = absurd never
both_older line (Alarm one) other p q never is = absurd never
both_older line (Evidence one) other p q never is = absurd never
both_older line (Watched one) (Promised other) p q is never = absurd never
both_older line (Watched one) (Final other) p q is never = absurd never
both_older line (Watched one) (Alarm other) p q is never = absurd never
both_older line (Watched one) (Evidence other) p q is never = absurd never

pub one_item : (line : List ℕ) (one other : Item) → IsLineOf line one → IsLineOf line other → one ≡ other
one_item line one other (p, inl is) (q, inl also) = same_line one other p q (sym is ∙ also)
one_item line one other (p, inl is) (q, inr also) = absurd (older_is_other line one other p q is also)
one_item line one other (p, inr is) (q, inl also) = absurd (older_is_other line other one q p also is)
one_item line one other (p, inr is) (q, inr also) = both_older line one other p q is also
