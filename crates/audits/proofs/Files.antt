-- Files of evidence.
use Rattle.std.proofs.Common.{◌≡◌, ◌≢◌, ℕ, ◌<◌, ◌≤◌, ◌/◌, ◌%◌, List, [], ◌∷◌, suc, codes, slice_index, Option, Some, None, option_and_then, true, Ok, Result, Err, IsUtf8, IsAscii, ltb-true, refl, sym, ap, subst, ◌∙◌, arith, append_assoc, append-nil, lit≤}
use Rattle.std.proofs.lemmas.Bool.{and_parts}
use Rattle.std.proofs.lemmas.Str.Ascii.{IsAscii-cons, IsAscii-nil}
use Rattle.std.proofs.lemmas.Str.{IsUtf8-append, IsUtf8-from_ascii}
use Rattle.auditor.specs.declared.evidence.Evidence.{Evidence}
use Rattle.hex.specs.Hex.{encode_lower, encode_with, hex_digit_value, lower_digits, IsBytes}
use Rattle.hex.specs.declared.error.FromHexError.{FromHexError}
use Rattle.hex.proofs.HexLemmas.{decode_of-encode_lower, IsAscii-encode_with, IsDigits-lower_digits}
use Rattle.json.specs.Json as json
use Rattle.json.specs.Lex.{tokens}
use Rattle.json.specs.Print.{escape, escape_byte}
use Rattle.json.specs.Token.{Token}
use Rattle.json.specs.Tree.{json_tokens}
use Rattle.json.proofs.Printed.Strings.{escape_byte_plain}
use Rattle.json.proofs.Printed.Tokens.{tokens-print}
use Rattle.json.proofs.Printed.Trees.{value-json_tokens, ArePrintable-json_tokens}
use Rattle.json.proofs.Printed.Utf8.{are_ascii, IsUtf8-are_ascii}
use Rattle.serde_json.specs.Data.{Data}
use Rattle.serde_json.specs.Read.{of_json, read, max_depth}
use Rattle.serde_json.specs.Written.{compact_text, outline}
use Rattle.serde_json.proofs.Texts.{print-outline}
use Rattle.audits.specs.declared.read_fault.ReadFault.{ReadFault}
use Rattle.audits.specs.declared.read_fault.ReadFault.TheVariants.{NotEvidence, OutOfMemory}
use Rattle.audits.specs.Files.{evidence_text, parts_text, value_of, Finds, IsEvidenceOf, IsFileOf, IsOfParts, ReadsAgain}
use Rattle.audits.specs.Parts.{evidence_parts, EvidenceParts, IsFormed}
use Rattle.audits.proofs.Parts.{are_ascii-kind, escape-kind, same_evidence, IsBytes-first, IsBytes-second}

same_data : (one other : Data) → Some one ≡ Some other → one ≡ other
same_data one other e = cc

-- bytes are read as one value
pub same_value : (bytes : List ℕ) (one other : Data) → read bytes ≡ Some one → read bytes ≡ Some other → one ≡ other
same_value bytes one other e f = same_data one other (sym e ∙ f)

-- ---- hexadecimal digits are written as they are

digit_range : (c v : ℕ) → hex_digit_value c ≡ Some v → (48 ≤ c) × (c ≢ 92)
digit_range c v e = (grind (arith), λ (is : c ≡ 92). let none = ap hex_digit_value (sym is) ∙ e in cc)

escape-digit : (d : ℕ) → d < 16 → escape_byte (slice_index lower_digits d) ≡ slice_index lower_digits d ∷ []
escape-digit d small =
    let range = digit_range (slice_index lower_digits d) d (IsDigits-lower_digits d small) in
    escape_byte_plain _ (λ (is : slice_index lower_digits d ≡ 34). omega (arith, range.0)) range.1 (omega (arith, range.0))

escape-hex : (bytes : List ℕ) → IsBytes bytes → escape (encode_lower bytes) ≡ encode_lower bytes
unfolding encode_with
escape-hex [] small = refl
escape-hex (byte ∷ bytes) small =
    let fits : byte < 256 = small 0 in
    let high = escape-digit (byte / 16) (omega arith) in
    let low = escape-digit (byte % 16) (omega arith) in
    rw (high, low, escape-hex bytes (λ k. small (suc k)))

-- ---- the text is read as an object of the parts

pub text_is_compact : (parts : EvidenceParts) → IsBytes parts.first → IsBytes parts.second → escape parts.kind ≡ parts.kind → compact_text (value_of parts) ≡ parts_text parts
unfolding parts_text escape_byte
text_is_compact parts first second kind = simp (escape-hex parts.first first, escape-hex parts.second second, kind, append_assoc)

-- the text of well-formed evidence is serde_json's of an object of its parts
pub evidence_is_compact : (evidence : Evidence) → IsFormed evidence → evidence_text evidence ≡ compact_text (value_of (evidence_parts evidence))
evidence_is_compact evidence formed = sym (text_is_compact (evidence_parts evidence) (IsBytes-first evidence formed) (IsBytes-second evidence formed) (escape-kind evidence))

read_compact : (parts : EvidenceParts) → read (compact_text (value_of parts)) ≡ Some (value_of parts)
read_compact parts =
    let value = value_of parts in
    let printed = tokens-print (json_tokens (outline value)) (ArePrintable-json_tokens (outline value) (tt, (tt, (tt, tt)))) in
    let told = ap tokens (sym (print-outline value)) ∙ printed ∙ sym (append-nil _) in
    ap (λ (r : Option (json.Json × List Token)). option_and_then of_json (option_and_then (λ p. json.if_last p.0 p.1) r))
    (ap (json.value max_depth) told ∙ value-json_tokens (outline value) max_depth [] (lit≤ tt))

text_is_read : (parts : EvidenceParts) → IsBytes parts.first → IsBytes parts.second → escape parts.kind ≡ parts.kind → read (parts_text parts) ≡ Some (value_of parts)
text_is_read parts first second kind = subst (λ (text : List ℕ). read text ≡ Some (value_of parts)) (text_is_compact parts first second kind) (read_compact parts)

IsAscii-are_ascii : (text : List ℕ) → are_ascii text ≡ true → IsAscii text
IsAscii-are_ascii [] e = IsAscii-nil
IsAscii-are_ascii (c ∷ text) e = let both = and_parts _ _ e in IsAscii-cons c text (ltb-true c 128 both.0) (IsAscii-are_ascii text both.1)

IsUtf8-hex : (bytes : List ℕ) → IsUtf8 (encode_lower bytes)
IsUtf8-hex bytes = IsUtf8-from_ascii _ (IsAscii-encode_with lower_digits bytes (IsAscii-are_ascii lower_digits refl))

IsUtf8-parts_text : (parts : EvidenceParts) → are_ascii parts.kind ≡ true → IsUtf8 (parts_text parts)
unfolding parts_text
IsUtf8-parts_text parts kind =
    IsUtf8-append _ _ (IsUtf8-are_ascii (codes "{\"first\":\"") refl) (IsUtf8-append _ _ (IsUtf8-hex parts.first)
    (IsUtf8-append _ _ (IsUtf8-are_ascii (codes "\",\"kind\":\"") refl) (IsUtf8-append _ _ (IsUtf8-are_ascii parts.kind kind)
    (IsUtf8-append _ _ (IsUtf8-are_ascii (codes "\",\"second\":\"") refl) (IsUtf8-append _ _ (IsUtf8-hex parts.second) (IsUtf8-are_ascii (codes "\"}") refl))))))

is_of_parts : (parts : EvidenceParts) → IsBytes parts.first → IsBytes parts.second → IsOfParts (value_of parts) parts
is_of_parts parts first second = (refl, ap Some (decode_of-encode_lower parts.first first), refl, ap Some (decode_of-encode_lower parts.second second))

-- the text of well-formed evidence is a file of it
pub text_is_file : (evidence : Evidence) → IsFormed evidence → IsFileOf (evidence_text evidence) evidence
text_is_file evidence formed =
    let parts = evidence_parts evidence in
    let first = IsBytes-first evidence formed in
    let second = IsBytes-second evidence formed in
    (value_of parts, (IsUtf8-parts_text parts (are_ascii-kind evidence), text_is_read parts first second (escape-kind evidence)), (parts, is_of_parts parts first second, (refl, formed)))

-- ---- a file is one evidence

abbrev Answer : Type 0
Answer = Result (List ℕ) FromHexError

abbrev bytes_told : Option Answer → List ℕ
bytes_told (Some (Ok bytes)) = bytes
bytes_told (Some (Err fault)) = []
bytes_told None = []

same_bytes : (one other : List ℕ) (o : Option Answer) → o ≡ Some (Ok one) → o ≡ Some (Ok other) → one ≡ other
same_bytes one other o e f = ap bytes_told (sym e ∙ f)

same_text : (one other : List ℕ) (o : Option (List ℕ)) → o ≡ Some one → o ≡ Some other → one ≡ other
same_text one other o e f = let both : Some one ≡ Some other = sym e ∙ f in cc

same_parts : (value : Data) (one other : EvidenceParts) → IsOfParts value one → IsOfParts value other → one ≡ other
same_parts value one other p q =
    let P : List ℕ → EvidenceParts = λ x. record { first = x; kind = one.kind; second = one.second } in
    let Q : List ℕ → EvidenceParts = λ x. record { first = other.first; kind = x; second = one.second } in
    let R : List ℕ → EvidenceParts = λ x. record { first = other.first; kind = other.kind; second = x } in
    ap P (same_bytes one.first other.first _ p.1 q.1) ∙ ap Q (same_text one.kind other.kind _ p.2 q.2) ∙ ap R (same_bytes one.second other.second _ p.3 q.3)

of_one_value : (value : Data) (one other : Evidence) → IsEvidenceOf value one → IsEvidenceOf value other → one ≡ other
of_one_value value one other p q =
    same_evidence one other p.2.1 q.2.1 (p.2.0 ∙ same_parts value p.0 q.0 p.1 q.1 ∙ sym q.2.0)

pub one_evidence : (bytes : List ℕ) (one other : Evidence) → IsFileOf bytes one → IsFileOf bytes other → one ≡ other
one_evidence bytes one other p q =
    of_one_value p.0 one other p.2 (subst (λ (value : Data). IsEvidenceOf value other) (same_value bytes q.0 p.0 q.1.1 p.1.1) q.2)

-- what reading answers, read again
pub read_again : (bytes : List ℕ) (r : Result Evidence ReadFault) → Finds (λ evidence. evidence) (IsFileOf bytes) r → ReadsAgain bytes r
read_again bytes (Ok read) found = λ evidence formed text. one_evidence bytes read evidence found (subst (λ (t : List ℕ). IsFileOf t evidence) (sym text) (text_is_file evidence formed))
read_again bytes (Err NotEvidence) none = λ evidence formed text. absurd (none evidence (subst (λ (t : List ℕ). IsFileOf t evidence) (sym text) (text_is_file evidence formed)))
read_again bytes (Err OutOfMemory) _ = λ evidence formed text. refl
