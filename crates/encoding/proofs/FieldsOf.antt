-- The lemmas of Fields on readers made of readers, with the readers, the spellings and what is allowed
-- as implicit arguments: a form's lemma is then written as its reader is.
use Rattle.std.proofs.Common.{◌≡◌, ℕ, Bool, true, List, ◌++◌}
use Rattle.encoding.specs.Bytes.{IsBytes}
use Rattle.encoding.specs.Fields.{IsField}
use Rattle.encoding.specs.Reading.{Reading, read_as, read_behind, read_both, read_where}
use Rattle.encoding.proofs.Fields.{allowed_field, behind_field, both_field, renamed_field, tested_field}

pub both : {A B : Type 0} {f : List ℕ → Reading A} {g : List ℕ → Reading B} {s : A → List ℕ} {t : B → List ℕ} {P : A → Type 0} {Q : B → Type 0}
    → IsField f s P → IsField g t Q → IsField (read_both f g) (λ x. s x.0 ++ t x.1) (λ x. P x.0 × Q x.1)
both {f = f} {g = g} {s = s} {t = t} {P = P} {Q = Q} first second = both_field f g s t P Q first second

pub renamed : {A B : Type 0} {f : List ℕ → Reading A} {s : A → List ℕ} {P : A → Type 0} (to : A → B) (back : B → A)
    → ((x : A) → back (to x) ≡ x) → IsField f s P → IsField (read_as to f) (λ y. s (back y)) (λ y. P (back y) × (to (back y) ≡ y))
renamed {f = f} {s = s} {P = P} to back there field = renamed_field to back f s P (λ x _. there x) field

pub tested : {A : Type 0} {f : List ℕ → Reading A} {s : A → List ℕ} {P : A → Type 0} (test : A → Bool)
    → IsField f s P → IsField (read_where test f) s (λ x. P x × (test x ≡ true))
tested {f = f} {s = s} {P = P} test field = tested_field test f s P field

pub allowed : {A : Type 0} {f : List ℕ → Reading A} {s : A → List ℕ} {P Q : A → Type 0} → ((x : A) → P x → Q x) → ((x : A) → Q x → P x) → IsField f s P → IsField f s Q
allowed {f = f} {s = s} {P = P} {Q = Q} to back field = allowed_field f s P Q to back field

pub behind : {A : Type 0} {f : List ℕ → Reading A} {s : A → List ℕ} {P : A → Type 0} (head : List ℕ) → IsBytes head → IsField f s P → IsField (read_behind head f) (λ x. head ++ s x) P
behind {f = f} {s = s} {P = P} head small field = behind_field head f s P small field
