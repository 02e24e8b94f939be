-- What evidence of some parts is made of.
use Rattle.std.proofs.Common.{◌≡◌, ◌≢◌, ℕ, List, [], ◌++◌, ◌==◌, codes, slice_index, length, lit≤, ◌+◌, arith, true, false, true≢false, eq-eqb, refl, sym, ap, ap₂, subst, ◌∙◌}
use Rattle.encoding.proofs.Fields.{counted_field, one_spelling}
use Rattle.std.proofs.lemmas.List.{length-append}
use Rattle.encoding.specs.Endian.{big_bytes}
use Rattle.encoding.specs.Forms.{counted_bytes}
use Rattle.encoding.specs.Limits.{IsName}
use Rattle.encoding.specs.Reading.{read_counted}
use Rattle.encoding.specs.declared.bounded.TheConstants.{MIN_LEN}
use Rattle.encoding.specs.declared.name.TheConstants.{MAX_NAME_LEN}
use Rattle.auditor.specs.declared.evidence.Evidence.{Evidence}
use Rattle.auditor.specs.declared.evidence.Evidence.TheVariants.{Root, Broken, Final}
use Rattle.proofs.specs.Replies.{SpellsReply}
use Rattle.rootchain.specs.declared.evidence.RootEvidence.TheVariants.{Fork, Link, Skip}
use Rattle.rootchain.specs.declared.signed_root.SignedRoot.{SignedRoot}
use Rattle.rootchain.specs.Readable.{signed_promise_field, signed_root_field}
use Rattle.rootchain.specs.declared.signed_promise.SignedPromise.{SignedPromise}
use Rattle.rootchain.specs.Promises.{read_signed_promise, signed_promise_bytes, IsSignedPromise}
use Rattle.proofs.specs.declared.broken_final.BrokenFinal.{BrokenFinal}
use Rattle.proofs.specs.declared.broken_promise.BrokenPromise.{BrokenPromise}
use Rattle.encoding.specs.Bytes.{IsBytes}
use Rattle.encoding.proofs.ByteLists.{IsBytes-append}
use Rattle.json.specs.Print.{escape, escape_byte}
use Rattle.json.proofs.Printed.Utf8.{are_ascii}
use Rattle.proofs.proofs.Sizes.{reply_few}
use Rattle.rootchain.proofs.Sizes.{counted_few, root_few, signed_promise_few}
use Rattle.rootchain.specs.SignedRoots.{read_signed_root, signed_root_bytes, IsSignedRoot}
use Rattle.audits.specs.Parts.{evidence_parts, EvidenceParts, HasParts, IsFormed}
use Rattle.audits.specs.Steps.{AreRoots, IsNameWithRoot, IsProof, IsRootWithProof}

-- evidence of another kind than these two is two roots
pub roots_of : (first kind second : List ℕ) (evidence : Evidence) → kind ≢ codes "broken-promise" → kind ≢ codes "broken-final" → HasParts (record { first = first; kind = kind; second = second }) evidence
    → (roots : SignedRoot × SignedRoot) × AreRoots first second roots
roots_of first kind second (Root (Fork one other)) no_promise no_final h =
    ((one, other), ((sym (ap (λ (p : EvidenceParts). p.first) h.0), h.1.0), (sym (ap (λ (p : EvidenceParts). p.second) h.0), h.1.1)))
roots_of first kind second (Root (Link one other)) no_promise no_final h =
    ((one, other), ((sym (ap (λ (p : EvidenceParts). p.first) h.0), h.1.0), (sym (ap (λ (p : EvidenceParts). p.second) h.0), h.1.1)))
roots_of first kind second (Root (Skip one other)) no_promise no_final h =
    ((one, other), ((sym (ap (λ (p : EvidenceParts). p.first) h.0), h.1.0), (sym (ap (λ (p : EvidenceParts). p.second) h.0), h.1.1)))
roots_of first kind second (Broken broken) no_promise no_final h = absurd (no_promise (sym (ap (λ (p : EvidenceParts). p.kind) h.0)))
roots_of first kind second (Final broken) no_promise no_final h = absurd (no_final (sym (ap (λ (p : EvidenceParts). p.kind) h.0)))

-- what follows a root is one proof
pub proof_after : (bytes : List ℕ) (root : SignedRoot) (rest : List ℕ) → bytes ≡ signed_root_bytes root ++ rest → IsSignedRoot root
    → (pair : SignedRoot × List ℕ) → IsRootWithProof bytes pair → (proof : List ℕ) × IsProof rest proof
proof_after bytes root rest e formed pair is =
    let same = one_spelling read_signed_root signed_root_bytes IsSignedRoot signed_root_field pair.0 root pair.1 rest is.1 formed (sym is.0 ∙ e) in
    (pair.1, (same.1, (is.2.0, subst (λ (text : List ℕ). SpellsReply text is.2.0) same.1 is.2.1)))

-- two roots that are spelled alike
same_root : (one other : SignedRoot) → IsSignedRoot one → IsSignedRoot other → signed_root_bytes one ≡ signed_root_bytes other → one ≡ other
same_root one other p q e =
    (one_spelling read_signed_root signed_root_bytes IsSignedRoot signed_root_field one other [] [] p q (ap (λ (t : List ℕ). t ++ []) e)).0

same_promise : (one other : SignedPromise) → IsSignedPromise one → IsSignedPromise other → signed_promise_bytes one ≡ signed_promise_bytes other → one ≡ other
same_promise one other p q e =
    (one_spelling read_signed_promise signed_promise_bytes IsSignedPromise signed_promise_field one other [] [] p q (ap (λ (t : List ℕ). t ++ []) e)).0

same_broken : (one other : BrokenPromise) → IsFormed (Broken one) → IsFormed (Broken other) → evidence_parts (Broken one) ≡ evidence_parts (Broken other) → one ≡ other
same_broken one other p q e =
    let second = one_spelling read_signed_root signed_root_bytes IsSignedRoot signed_root_field one.root other.root one.proof other.proof p.1 q.1 (ap (λ (parts : EvidenceParts). parts.second) e) in
    let promise = same_promise one.promise other.promise p.0 q.0 (ap (λ (parts : EvidenceParts). parts.first) e) in
    let P : SignedPromise → BrokenPromise = λ x. record { promise = x; root = one.root; proof = one.proof } in
    let Q : SignedRoot → BrokenPromise = λ x. record { promise = other.promise; root = x; proof = one.proof } in
    let R : List ℕ → BrokenPromise = λ x. record { promise = other.promise; root = other.root; proof = x } in
    ap P promise ∙ ap Q second.0 ∙ ap R second.1

-- a name that is spelled in front of the same bytes
same_name : (one other rest more : List ℕ) → IsName one → IsName other → counted_bytes one ++ rest ≡ counted_bytes other ++ more → (one ≡ other) × (rest ≡ more)
same_name one other rest more p q e =
    one_spelling (read_counted MIN_LEN MAX_NAME_LEN) counted_bytes IsName (counted_field MIN_LEN MAX_NAME_LEN (lit≤ tt)) one other rest more p q e

-- what follows a name is one root and one proof
pub after_name : (bytes name rest : List ℕ) → bytes ≡ counted_bytes name ++ rest → IsName name
    → (parts : List ℕ × (SignedRoot × List ℕ)) → IsNameWithRoot bytes parts → (pair : SignedRoot × List ℕ) × IsRootWithProof rest pair
after_name bytes name rest e named parts is =
    let same = same_name parts.0 name (signed_root_bytes parts.1.0 ++ parts.1.1) rest is.1 named (sym is.0 ∙ e) in
    (parts.1, (sym same.1, is.2, is.3))

pub name_before : (bytes name rest : List ℕ) → bytes ≡ counted_bytes name ++ rest → IsName name → (pair : SignedRoot × List ℕ) → IsRootWithProof rest pair → IsNameWithRoot bytes (name, pair)
name_before bytes name rest e named pair is = (e ∙ ap (λ (end : List ℕ). counted_bytes name ++ end) is.0, named, is.1, is.2)

pub counted_len : (bytes : List ℕ) → length (counted_bytes bytes) ≡ 2 + length bytes
counted_len bytes = let two : length (big_bytes 2 (length bytes)) ≡ 2 = refl in omega (arith, length-append (big_bytes 2 (length bytes)) bytes, two)

same_change : (one other : BrokenFinal) → IsFormed (Final one) → IsFormed (Final other) → evidence_parts (Final one) ≡ evidence_parts (Final other) → one ≡ other
same_change one other p q e =
    let name = same_name one.name other.name (signed_root_bytes one.root ++ one.proof) (signed_root_bytes other.root ++ other.proof) p.0 q.0 (ap (λ (parts : EvidenceParts). parts.first) e) in
    let first = one_spelling read_signed_root signed_root_bytes IsSignedRoot signed_root_field one.root other.root one.proof other.proof p.1 q.1 name.1 in
    let second = one_spelling read_signed_root signed_root_bytes IsSignedRoot signed_root_field one.later_root other.later_root one.later_proof other.later_proof p.3 q.3 (ap (λ (parts : EvidenceParts). parts.second) e) in
    let N : List ℕ → BrokenFinal = λ x. record { name = x; root = one.root; proof = one.proof; later_root = one.later_root; later_proof = one.later_proof } in
    let R : SignedRoot → BrokenFinal = λ x. record { name = other.name; root = x; proof = one.proof; later_root = one.later_root; later_proof = one.later_proof } in
    let P : List ℕ → BrokenFinal = λ x. record { name = other.name; root = other.root; proof = x; later_root = one.later_root; later_proof = one.later_proof } in
    let L : SignedRoot → BrokenFinal = λ x. record { name = other.name; root = other.root; proof = other.proof; later_root = x; later_proof = one.later_proof } in
    let Q : List ℕ → BrokenFinal = λ x. record { name = other.name; root = other.root; proof = other.proof; later_root = other.later_root; later_proof = x } in
    ap N name.0 ∙ ap R first.0 ∙ ap P first.1 ∙ ap L second.0 ∙ ap Q second.1

-- kinds differ in their lengths or their first letters
abbrev first_letter : EvidenceParts → ℕ
first_letter parts = slice_index parts.kind 0

abbrev kind_len : EvidenceParts → ℕ
kind_len parts = length parts.kind

apart : (m n : ℕ) → (m == n) ≡ false → m ≡ n → ⊥
apart m n other same = true≢false (sym (eq-eqb m n same) ∙ other)

-- well-formed evidence of the same parts is the same
pub same_evidence : (one other : Evidence) → IsFormed one → IsFormed other → evidence_parts one ≡ evidence_parts other → one ≡ other
same_evidence (Root (Fork a b)) (Root (Fork c d)) p q e =
    ap₂ (λ x y. Root (Fork x y)) (same_root a c p.0 q.0 (ap (λ (parts : EvidenceParts). parts.first) e)) (same_root b d p.1 q.1 (ap (λ (parts : EvidenceParts). parts.second) e))
same_evidence (Root (Link a b)) (Root (Link c d)) p q e =
    ap₂ (λ x y. Root (Link x y)) (same_root a c p.0 q.0 (ap (λ (parts : EvidenceParts). parts.first) e)) (same_root b d p.1 q.1 (ap (λ (parts : EvidenceParts). parts.second) e))
same_evidence (Root (Skip a b)) (Root (Skip c d)) p q e =
    ap₂ (λ x y. Root (Skip x y)) (same_root a c p.0 q.0 (ap (λ (parts : EvidenceParts). parts.first) e)) (same_root b d p.1 q.1 (ap (λ (parts : EvidenceParts). parts.second) e))
same_evidence (Broken a) (Broken b) p q e = ap Broken (same_broken a b p q e)
same_evidence (Broken a) (Root (Fork c d)) p q e = absurd (apart 98 102 refl (ap first_letter e))
same_evidence (Broken a) (Root (Link c d)) p q e = absurd (apart 98 108 refl (ap first_letter e))
same_evidence (Broken a) (Root (Skip c d)) p q e = absurd (apart 98 115 refl (ap first_letter e))
same_evidence (Final a) (Final b) p q e = ap Final (same_change a b p q e)
same_evidence (Broken a) (Final b) p q e = absurd (apart 14 12 refl (ap kind_len e))
same_evidence (Final a) (Broken b) p q e = absurd (apart 12 14 refl (ap kind_len e))
same_evidence (Final a) (Root (Fork c d)) p q e = absurd (apart 98 102 refl (ap first_letter e))
same_evidence (Final a) (Root (Link c d)) p q e = absurd (apart 98 108 refl (ap first_letter e))
same_evidence (Final a) (Root (Skip c d)) p q e = absurd (apart 98 115 refl (ap first_letter e))
same_evidence one other p q e = absurd (apart (first_letter (evidence_parts one)) (first_letter (evidence_parts other)) refl (ap first_letter e))

-- the parts of well-formed evidence are bytes
pub IsBytes-first : (evidence : Evidence) → IsFormed evidence → IsBytes (evidence_parts evidence).first
IsBytes-first (Root (Fork one other)) h = (root_few one h.0).small
IsBytes-first (Root (Link one other)) h = (root_few one h.0).small
IsBytes-first (Root (Skip one other)) h = (root_few one h.0).small
IsBytes-first (Broken broken) h = (signed_promise_few broken.promise h.0).small
IsBytes-first (Final broken) h =
    IsBytes-append (counted_bytes broken.name) (signed_root_bytes broken.root ++ broken.proof) (counted_few MIN_LEN MAX_NAME_LEN broken.name h.0).small
    (IsBytes-append (signed_root_bytes broken.root) broken.proof (root_few broken.root h.1).small (subst IsBytes (sym h.2.1.0) (reply_few h.2.0 h.2.1.1).small))

pub IsBytes-second : (evidence : Evidence) → IsFormed evidence → IsBytes (evidence_parts evidence).second
IsBytes-second (Root (Fork one other)) h = (root_few other h.1).small
IsBytes-second (Root (Link one other)) h = (root_few other h.1).small
IsBytes-second (Root (Skip one other)) h = (root_few other h.1).small
IsBytes-second (Broken broken) h =
    IsBytes-append (signed_root_bytes broken.root) broken.proof (root_few broken.root h.1).small
    (subst IsBytes (sym h.2.1.0) (reply_few h.2.0 h.2.1.1).small)
IsBytes-second (Final broken) h =
    IsBytes-append (signed_root_bytes broken.later_root) broken.later_proof (root_few broken.later_root h.3).small
    (subst IsBytes (sym h.4.1.0) (reply_few h.4.0 h.4.1.1).small)

-- kinds have no character that JSON escapes
pub escape-kind : (evidence : Evidence) → escape (evidence_parts evidence).kind ≡ (evidence_parts evidence).kind
unfolding escape_byte
escape-kind (Root (Fork one other)) = refl
escape-kind (Root (Link one other)) = refl
escape-kind (Root (Skip one other)) = refl
escape-kind (Broken broken) = refl
escape-kind (Final broken) = refl

pub are_ascii-kind : (evidence : Evidence) → are_ascii (evidence_parts evidence).kind ≡ true
are_ascii-kind (Root (Fork one other)) = refl
are_ascii-kind (Root (Link one other)) = refl
are_ascii-kind (Root (Skip one other)) = refl
are_ascii-kind (Broken broken) = refl
are_ascii-kind (Final broken) = refl
