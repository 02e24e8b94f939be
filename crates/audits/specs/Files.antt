-- Evidence as JSON (the form is this directory's own).
use Rattle.std.specs.Prelude.{◌≡◌, ℕ, List, ◌++◌, codes, Option, Some, Result, Ok, Err, option_map, option_and_then, IsUtf8, MatchResult, ⊤}
use Rattle.auditor.specs.declared.evidence.Evidence.{Evidence}
use Rattle.hex.specs.Hex.{decode_of, encode_lower}
use Rattle.serde_json.specs.Data.{Data, string, object, member, no_members}
use Rattle.serde_json.specs.Events.{members_len}
use Rattle.serde_json.specs.Find.{as_object, as_str, get}
use Rattle.serde_json.specs.Read.{read}
use Rattle.audits.specs.declared.read_fault.ReadFault.{ReadFault}
use Rattle.audits.specs.declared.read_fault.ReadFault.TheVariants.{NotEvidence, OutOfMemory}
use Rattle.audits.specs.Parts.{evidence_parts, EvidenceParts, HasParts, IsFormed}

-- one object with no space: its keys are first, kind and second, and the parts are in hex
unfoldable pub parts_text : EvidenceParts → List ℕ
parts_text parts =
    codes "{\"first\":\"" ++ (encode_lower parts.first ++ (codes "\",\"kind\":\"" ++ (parts.kind
    ++ (codes "\",\"second\":\"" ++ (encode_lower parts.second ++ codes "\"}")))))

-- an object of these three texts, as a value of JSON
abbrev pub object_of : List ℕ → List ℕ → List ℕ → Data
object_of first kind second =
    object (member (codes "first") (string first) (member (codes "kind") (string kind) (member (codes "second") (string second) no_members)))

-- the object of the parts
abbrev pub value_of : EvidenceParts → Data
value_of parts = object_of (encode_lower parts.first) parts.kind (encode_lower parts.second)

-- the text of evidence
abbrev pub evidence_text : Evidence → List ℕ
evidence_text evidence = parts_text (evidence_parts evidence)

-- ---- reading

-- the text at a key of a value
abbrev pub text_at : List ℕ → Data → Option (List ℕ)
text_at key value = option_and_then as_str (get key value)

-- the text at a key is these bytes in hex, of either case
abbrev pub HasHex : List ℕ → Data → List ℕ → Type 0
HasHex key value bytes = option_map decode_of (text_at key value) ≡ Some (Ok bytes)

-- an object of three members
abbrev pub HasThree : Data → Type 0
HasThree value = option_map members_len (as_object value) ≡ Some 3

-- an object of three members: a part in hex at first, the kind at kind, and a part in hex at second
abbrev pub IsOfParts : Data → EvidenceParts → Type 0
IsOfParts value parts =
    HasThree value × HasHex (codes "first") value parts.first × (text_at (codes "kind") value ≡ Some parts.kind) × HasHex (codes "second") value parts.second

-- a value of JSON is this evidence
abbrev pub IsEvidenceOf : Data → Evidence → Type 0
IsEvidenceOf value evidence = (parts : EvidenceParts) × IsOfParts value parts × HasParts parts evidence

-- a file is UTF-8, and `serde_json` reads it as this value
abbrev pub IsJson : List ℕ → Data → Type 0
IsJson bytes value = IsUtf8 bytes × (read bytes ≡ Some value)

-- a file is this evidence
abbrev pub IsFileOf : List ℕ → Evidence → Type 0
IsFileOf bytes evidence = (value : Data) × IsJson bytes value × IsEvidenceOf value evidence

-- What comes of looking for something with a property: it was found, or nothing has the property, or
-- memory ran out. The first argument gives what was found from what was returned.
abbrev pub Finds : {X A : Type 0} → (X → A) → (A → Type 0) → Result X ReadFault → Type 0
Finds seen Is (Ok x) = Is (seen x)
Finds {A = A} seen Is (Err NotEvidence) = (y : A) → ¬ Is y
Finds seen Is (Err OutOfMemory) = ⊤

-- what was written of well-formed evidence is read as that evidence, unless memory runs out
abbrev pub ReadsAgain : List ℕ → Result Evidence ReadFault → Type 0
ReadsAgain bytes result = (evidence : Evidence) → IsFormed evidence → bytes ≡ evidence_text evidence → MatchResult result (λ read. read ≡ evidence) (λ fault. fault ≡ OutOfMemory)
