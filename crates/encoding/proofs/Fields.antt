-- Readers of forms read spellings alone, and each of them, whatever follows. One lemma for each reader,
-- and one for each way to make a reader of others (FieldsOf has these with fewer arguments to write).
use Rattle.std.proofs.Common.{◌≡◌, ◌≢◌, ℕ, zero, suc, ◌^◌, ◌<◌, ◌⊎◌, ◌≤◌, Bool, true, false, cond, ltb, leb, Option, Some, None, List, [], ◌∷◌, ◌++◌, length, take, drop, flat_map, Result, Ok, Err, refl, sym, ap, subst, ◌∙◌, append_assoc, arith, inl, inr}
use Rattle.std.specs.Prelude.{⊤}
use Rattle.std.specs.List.{AllByRecursion}
use Rattle.std.proofs.lemmas.Bool.{and_parts, ltb-false, le-ltb, leb-true, le-leb, ne_eqb}
use Rattle.std.proofs.lemmas.List.{append-nil, take_at, drop_at, take-append-drop, length-append, length-take}
use Rattle.std.specs.Str.{bytes_eq}
use Rattle.std.proofs.lemmas.Cmp.{nat_list_eq_equiv}
use Rattle.std.proofs.lemmas.Slice.Eq.{bytes_eq-Decides}
use Rattle.byteorder.specs.Endian.{big_bytes, big_number}
use Rattle.byteorder.specs.Numbers.{big_from-lt, length-bytes_high_first}
use Rattle.encoding.specs.declared.fault.Fault.{Fault}
use Rattle.encoding.specs.declared.fault.Fault.TheVariants.{Short, Trailing, OutOfRange}
use Rattle.encoding.specs.declared.policy.Policy.{Policy}
use Rattle.encoding.specs.declared.policy.Policy.TheVariants.{Open, Final}
use Rattle.encoding.specs.Bytes.{IsBytes, HasBytes}
use Rattle.encoding.specs.Reading.{Gives, Reading, ◌>>=◌, is_within, read_bytes, read_byte, read_number, read_counted, read_both, read_as, read_nothing, read_then, read_where, read_behind, read_either, read_policy, read_policy_if, read_version, read_list, whole_of}
use Rattle.encoding.specs.Forms.{counted_bytes}
use Rattle.encoding.specs.Limits.{IsWithin}
use Rattle.encoding.specs.Fields.{Reads, IsField, Spells, BytesAreField, ByteIsField, NumbersAreFields, CountedAreFields, PolicyIsField}
use Rattle.encoding.specs.Policies.{has_policy, policy_byte, policy_bytes, version}
use Rattle.encoding.proofs.ByteLists.{IsBytes-one, IsBytes-back, IsBytes-take, IsBytes-bytes_high_first}
use Rattle.encoding.proofs.NumberBytes.{number-of_bytes, bytes-of_number}

-- ---- what was read

pub bind_ok : {A B : Type 0} (r : Result A Fault) (next : A → Result B Fault) (y : B) → (r >>= next) ≡ Ok y → (x : A) × (r ≡ Ok x) × (next x ≡ Ok y)
bind_ok (Ok x) next y e = (x, refl, e)
bind_ok (Err _) next y e = absurd cc

-- a fault is the first one's, or the second one's
pub bind_err : {A B : Type 0} (r : Result A Fault) (next : A → Result B Fault) (fault : Fault) → (r >>= next) ≡ Err fault
    → (r ≡ Err fault) ⊎ ((x : A) × (r ≡ Ok x) × (next x ≡ Err fault))
bind_err (Ok x) next fault e = inr (x, refl, e)
bind_err (Err f) next fault e = inl (let same : f ≡ fault = cc in ap (λ (x : Fault). Err x) same)

pub short_ok : {A : Type 0} (short : Bool) (fault : Fault) (r : Result A Fault) (y : A) → cond short (Err fault) r ≡ Ok y → (short ≡ false) × (r ≡ Ok y)
short_ok true fault r y e = absurd cc
short_ok false fault r y e = (refl, e)

pub passed_ok : {A : Type 0} (passed : Bool) (fault : Fault) (r : Result A Fault) (y : A) → cond passed r (Err fault) ≡ Ok y → (passed ≡ true) × (r ≡ Ok y)
passed_ok true fault r y e = (refl, e)
passed_ok false fault r y e = absurd cc

abbrev done : {A : Type 0} → A → Result A Fault
done x = Ok x

-- equal answers have equal values
pub ok_is : {A : Type 0} (x y : A) → done x ≡ done y → x ≡ y
ok_is x y e = cc

-- a reader that refuses bytes reads nothing from them
pub refused_read : {A : Type 0} (fault : Fault) (y : A) → Err fault ≡ done y → ⊥
refused_read fault y e = absurd cc

-- two spellings, one after the other
joined : (bytes x middle y rest : List ℕ) → bytes ≡ x ++ middle → middle ≡ y ++ rest → bytes ≡ (x ++ y) ++ rest
joined bytes x middle y rest p q = p ∙ ap (λ (t : List ℕ). x ++ t) q ∙ sym (append_assoc x y rest)

-- what is left of bytes are bytes
left_small : (bytes x rest : List ℕ) → bytes ≡ x ++ rest → IsBytes bytes → IsBytes rest
left_small bytes x rest e small = IsBytes-back x rest (subst IsBytes e small)

-- ---- the readers

pub bytes_field : BytesAreField
bytes_field count =
    record {
      spelled = λ bytes z small e.
          let g = short_ok (ltb (length bytes) count) Short (Ok (take count bytes, drop count bytes)) z e in
          let long : count ≤ length bytes = ltb-false _ _ g.0 in
          subst (λ (w : List ℕ × List ℕ). (bytes ≡ w.0 ++ w.1) × HasBytes count w.0) (ok_is (take count bytes, drop count bytes) z g.1)
          (sym (take-append-drop count bytes), (omega (arith, length-take count bytes), IsBytes-take count bytes small));
      again = λ x rest h.
          let long : ltb (length (x ++ rest)) count ≡ false = le-ltb _ _ (omega (arith, length-append x rest, h.0)) in
          rw (long, take_at x rest count h.0, drop_at x rest count h.0) refl;
    }

pub byte_field : ByteIsField
byte_field = record { spelled = first; again = λ x rest h. refl }
  where
    first : (bytes : List ℕ) (z : ℕ × List ℕ) → IsBytes bytes → read_byte bytes ≡ Ok z → (bytes ≡ (z.0 ∷ []) ++ z.1) × (z.0 < 256)
    first [] z small e = absurd cc
    first (b ∷ rest) z small e = subst (λ (w : ℕ × List ℕ). (b ∷ rest ≡ (w.0 ∷ []) ++ w.1) × (w.0 < 256)) (ok_is (b, rest) z e) (refl, small zero)

pub numbers_field : NumbersAreFields
numbers_field count =
    record {
      spelled = λ bytes z small e.
          let u = bind_ok (read_bytes count bytes) (λ x. Ok (big_number count x.0, x.1)) z e in
          let t = (bytes_field count).spelled bytes u.0 small u.1 in
          let spelling : big_bytes count (big_number count u.0.0) ≡ u.0.0 = bytes-of_number count u.0.0 t.1.0 t.1.1 in
          subst (λ (w : ℕ × List ℕ). (bytes ≡ big_bytes count w.0 ++ w.1) × (w.0 < 256 ^ count)) (ok_is (big_number count u.0.0, u.0.1) z u.2)
          (rw spelling t.0, big_from-lt 0 count u.0.0 t.1.1);
      again = λ n rest h.
          rw ((bytes_field count).again (big_bytes count n) rest (length-bytes_high_first count n, IsBytes-bytes_high_first count n), number-of_bytes count n h) refl;
    }

-- ---- readers made of readers

pub both_field : {A B : Type 0} (f : List ℕ → Reading A) (g : List ℕ → Reading B) (s : A → List ℕ) (t : B → List ℕ) (P : A → Type 0) (Q : B → Type 0)
    → IsField f s P → IsField g t Q → IsField (read_both f g) (λ x. s x.0 ++ t x.1) (λ x. P x.0 × Q x.1)
both_field {A} {B} f g s t P Q first second =
    record {
      spelled = λ bytes z small e.
          let u = bind_ok (f bytes) (λ x. g x.1 >>= λ y. Ok ((x.0, y.0), y.1)) z e in
          let v = bind_ok (g u.0.1) (λ y. Ok ((u.0.0, y.0), y.1)) z u.2 in
          let one = first.spelled bytes u.0 small u.1 in
          let two = second.spelled u.0.1 v.0 (left_small bytes (s u.0.0) u.0.1 one.0 small) v.1 in
          let made : (A × B) × List ℕ = ((u.0.0, v.0.0), v.0.1) in
          subst (λ (w : (A × B) × List ℕ). (bytes ≡ (s w.0.0 ++ t w.0.1) ++ w.1) × (P w.0.0 × Q w.0.1)) (ok_is made z v.2)
          (joined bytes (s u.0.0) u.0.1 (t v.0.0) v.0.1 one.0 two.0, (one.1, two.1));
      again = λ z rest h.
          ap (read_both f g) (append_assoc (s z.0) (t z.1) rest) ∙ rw (first.again z.0 (t z.1 ++ rest) h.0, second.again z.1 rest h.1) refl;
    }

-- each allowed value comes back from the other, and a value of the other kind that has no way back,
-- as a case of an enum that is not read here, is not allowed
pub renamed_field : {A B : Type 0} (to : A → B) (back : B → A) (f : List ℕ → Reading A) (s : A → List ℕ) (P : A → Type 0)
    → ((x : A) → P x → back (to x) ≡ x) → IsField f s P → IsField (read_as to f) (λ y. s (back y)) (λ y. P (back y) × (to (back y) ≡ y))
renamed_field {A} {B} to back f s P there field =
    record {
      spelled = λ bytes z small e.
          let u = bind_ok (f bytes) (λ x. Ok (to x.0, x.1)) z e in
          let one = field.spelled bytes u.0 small u.1 in
          let made : B × List ℕ = (to u.0.0, u.0.1) in
          let same : back (to u.0.0) ≡ u.0.0 = there u.0.0 one.1 in
          subst (λ (w : B × List ℕ). (bytes ≡ s (back w.0) ++ w.1) × (P (back w.0) × (to (back w.0) ≡ w.0))) (ok_is made z u.2)
          (let R : A → Type 0 = λ x. (bytes ≡ s x ++ u.0.1) × (P x × (to x ≡ to u.0.0)) in subst R (sym same) (one.0, (one.1, refl)));
      again = λ y rest h. rw (field.again (back y) rest h.0) (ap (λ (w : B). done (w, rest)) h.1);
    }

pub nothing_field : {A : Type 0} (x : A) → IsField (read_nothing x) (λ _. []) (λ y. x ≡ y)
nothing_field {A} x =
    record {
      spelled = λ bytes z small e. subst (λ (w : A × List ℕ). (bytes ≡ [] ++ w.1) × (x ≡ w.0)) (ok_is (x, bytes) z e) (refl, refl);
      again = λ y rest h. ap (λ (w : A). done (w, rest)) h;
    }

-- what is read first is told by the whole value, as its kind or its length
pub then_field : {K A : Type 0} (told : A → K) (f : List ℕ → Reading K) (g : K → List ℕ → Reading A) (s : K → List ℕ) (t : A → List ℕ) (P : K → Type 0) (Q : A → Type 0)
    → IsField f s P → ((k : K) → P k → IsField (g k) t (λ x. Q x × (told x ≡ k))) → IsField (read_then f g) (λ x. s (told x) ++ t x) (λ x. P (told x) × Q x)
then_field {K} {A} told f g s t P Q first second =
    record {
      spelled = λ bytes z small e.
          let u = bind_ok (f bytes) (λ k. g k.0 k.1) z e in
          let one = first.spelled bytes u.0 small u.1 in
          let two = (second u.0.0 one.1).spelled u.0.1 z (left_small bytes (s u.0.0) u.0.1 one.0 small) u.2 in
          let R : K → Type 0 = λ k. (bytes ≡ (s k ++ t z.0) ++ z.1) × (P k × Q z.0) in
          subst R (sym two.1.1) (joined bytes (s u.0.0) u.0.1 (t z.0) z.1 one.0 two.0, (one.1, two.1.0));
      again = λ x rest h.
          ap (read_then f g) (append_assoc (s (told x)) (t x) rest) ∙ rw (first.again (told x) (t x ++ rest) h.0) ((second (told x) h.0).again x rest (h.1, refl));
    }

pub tested_field : {A : Type 0} (test : A → Bool) (f : List ℕ → Reading A) (s : A → List ℕ) (P : A → Type 0)
    → IsField f s P → IsField (read_where test f) s (λ x. P x × (test x ≡ true))
tested_field {A} test f s P field =
    record {
      spelled = λ bytes z small e.
          let u = bind_ok (f bytes) (λ x. cond (test x.0) (Ok x) (Err OutOfRange)) z e in
          let g = passed_ok (test u.0.0) OutOfRange (Ok u.0) z u.2 in
          let one = field.spelled bytes u.0 small u.1 in
          subst (λ (w : A × List ℕ). (bytes ≡ s w.0 ++ w.1) × (P w.0 × (test w.0 ≡ true))) (ok_is u.0 z g.1) (one.0, (one.1, g.0));
      again = λ x rest h. rw (field.again x rest h.0, h.1) refl;
    }

pub list_field : {A : Type 0} (f : List ℕ → Reading A) (s : A → List ℕ) (P : A → Type 0) (count : ℕ)
    → IsField f s P → IsField (read_list f count) (flat_map s) (λ xs. (length xs ≡ count) × AllByRecursion P xs)
list_field {A} f s P count field = record { spelled = spelled count; again = again count }
  where
    spelled : (n : ℕ) (bytes : List ℕ) (z : List A × List ℕ) → IsBytes bytes → read_list f n bytes ≡ Ok z → (bytes ≡ flat_map s z.0 ++ z.1) × ((length z.0 ≡ n) × AllByRecursion P z.0)
    spelled zero bytes z small e =
        let made : List A × List ℕ = ([], bytes) in
        subst (λ (w : List A × List ℕ). (bytes ≡ flat_map s w.0 ++ w.1) × ((length w.0 ≡ 0) × AllByRecursion P w.0)) (ok_is made z e) (refl, (refl, tt))
    spelled (suc n) bytes z small e =
        let u = bind_ok (f bytes) (λ x. read_list f n x.1 >>= λ xs. Ok (x.0 ∷ xs.0, xs.1)) z e in
        let v = bind_ok (read_list f n u.0.1) (λ xs. Ok (u.0.0 ∷ xs.0, xs.1)) z u.2 in
        let one = field.spelled bytes u.0 small u.1 in
        let two = spelled n u.0.1 v.0 (left_small bytes (s u.0.0) u.0.1 one.0 small) v.1 in
        let made : List A × List ℕ = (u.0.0 ∷ v.0.0, v.0.1) in
        subst (λ (w : List A × List ℕ). (bytes ≡ flat_map s w.0 ++ w.1) × ((length w.0 ≡ suc n) × AllByRecursion P w.0)) (ok_is made z v.2)
        (joined bytes (s u.0.0) u.0.1 (flat_map s v.0.0) v.0.1 one.0 two.0, (omega (arith, two.1.0), (one.1, two.1.1)))

    again : (n : ℕ) (xs : List A) (rest : List ℕ) → (length xs ≡ n) × AllByRecursion P xs → read_list f n (flat_map s xs ++ rest) ≡ Ok (xs, rest)
    again zero [] rest h = refl
    again zero (x ∷ xs) rest h = absurd (omega (arith, h.0))
    again (suc n) [] rest h = absurd (omega (arith, h.0))
    again (suc n) (x ∷ xs) rest h =
        ap (read_list f (suc n)) (append_assoc (s x) (flat_map s xs) rest) ∙ rw (field.again x (flat_map s xs ++ rest) h.1.0, again n xs rest (omega (arith, h.0), h.1.1)) refl

-- the same values, allowed in other words
pub allowed_field : {A : Type 0} (f : List ℕ → Reading A) (s : A → List ℕ) (P Q : A → Type 0) → ((x : A) → P x → Q x) → ((x : A) → Q x → P x) → IsField f s P → IsField f s Q
allowed_field f s P Q to back field =
    record {
      spelled = λ bytes z small e. let t = field.spelled bytes z small e in (t.0, to z.0 t.1);
      again = λ x rest h. field.again x rest (back x h);
    }

-- the same values, which in other words have the same spelling
pub respelled_field : {A : Type 0} (f : List ℕ → Reading A) (s t : A → List ℕ) (P : A → Type 0) → ((x : A) → P x → s x ≡ t x) → IsField f s P → IsField f t P
respelled_field f s t P same field =
    record {
      spelled = λ bytes z small e. let g = field.spelled bytes z small e in (g.0 ∙ ap (λ (w : List ℕ). w ++ z.1) (same z.0 g.1), g.1);
      again = λ x rest h. ap (λ (w : List ℕ). f (w ++ rest)) (sym (same x h)) ∙ field.again x rest h;
    }

pub behind_field : {A : Type 0} (head : List ℕ) (f : List ℕ → Reading A) (s : A → List ℕ) (P : A → Type 0)
    → IsBytes head → IsField f s P → IsField (read_behind head f) (λ x. head ++ s x) P
behind_field {A} head f s P small field =
    let Heads : List ℕ → Type 0 = λ k. HasBytes (length head) k × (bytes_eq head k ≡ true) in
    allowed_field (read_behind head f) (λ x. head ++ s x) (λ x. Heads head × P x) P (λ x h. h.1) (λ x h. (((refl, small), nat_list_eq_equiv.refl head), h))
    (then_field (λ _. head) (read_where (bytes_eq head) (read_bytes (length head))) (λ _. f) (λ k. k) s Heads P
    (tested_field (bytes_eq head) (read_bytes (length head)) (λ k. k) (HasBytes (length head)) (bytes_field (length head)))
    (λ k h. allowed_field f s P (λ x. P x × (head ≡ k)) (λ x p. (p, (bytes_eq-Decides head k).0 h.1)) (λ x p. p.0) field))

-- ---- counted bytes

pub counted_field : CountedAreFields
unfolding read_counted
counted_field least most fits =
    allowed_field (read_counted least most) counted_bytes (λ x. ((length x < 256 ^ 2) × (is_within least most (length x) ≡ true)) × IsBytes x) (IsWithin least most)
    (λ x h. let limits = and_parts (leb least (length x)) (leb (length x) most) h.0.1 in (leb-true _ _ limits.0, leb-true _ _ limits.1, h.1))
    (λ x h. ((omega (arith, h.1, fits), rw (le-leb least (length x) h.0, le-leb (length x) most h.1) refl), h.2))
    (then_field length (read_where (is_within least most) (read_number 2)) read_bytes (big_bytes 2) (λ x. x) (λ n. (n < 256 ^ 2) × (is_within least most n ≡ true)) IsBytes
    (tested_field (is_within least most) (read_number 2) (big_bytes 2) (λ n. n < 256 ^ 2) (numbers_field 2))
    (λ k _. allowed_field (read_bytes k) (λ x. x) (HasBytes k) (λ x. IsBytes x × (length x ≡ k)) (λ x h. (h.1, h.0)) (λ x h. (h.1, h.0)) (bytes_field k)))

-- ---- policies

either_field : {A : Type 0} (first second : A) (number : A → ℕ) → number first ≡ 1 → number second ≡ 2 → ((x : A) (rest : List ℕ) → read_either first second (number x ∷ rest) ≡ Ok (x, rest))
    → IsField (read_either first second) (λ x. number x ∷ []) (λ _. ⊤)
either_field {A} first second number one two again = record { spelled = spelled; again = λ x rest h. again x rest }
  where
    spelled : (bytes : List ℕ) (z : A × List ℕ) → IsBytes bytes → read_either first second bytes ≡ Ok z → (bytes ≡ (number z.0 ∷ []) ++ z.1) × ⊤
    spelled [] z small e = absurd cc
    spelled (zero ∷ rest) z small e = absurd cc
    spelled (suc zero ∷ rest) z small e = subst (λ (w : A × List ℕ). (1 ∷ rest ≡ (number w.0 ∷ []) ++ w.1) × ⊤) (ok_is (first, rest) z e) (rw one refl, tt)
    spelled (suc (suc zero) ∷ rest) z small e = subst (λ (w : A × List ℕ). (2 ∷ rest ≡ (number w.0 ∷ []) ++ w.1) × ⊤) (ok_is (second, rest) z e) (rw two refl, tt)
    spelled (suc (suc (suc n)) ∷ rest) z small e = absurd (refused_read OutOfRange z (sym unknown ∙ e))
      where
        unknown : read_either first second (suc (suc (suc n)) ∷ rest) ≡ Err OutOfRange
        unknown = rw (ne_eqb (suc (suc (suc n))) 1 (λ same. omega (arith, same)), ne_eqb (suc (suc (suc n))) 2 (λ same. omega (arith, same))) refl

pub policy_field : PolicyIsField
policy_field = either_field Open Final policy_byte refl refl again
  where
    again : (policy : Policy) (rest : List ℕ) → read_policy (policy_byte policy ∷ rest) ≡ Ok (policy, rest)
    again Open rest = refl
    again Final rest = refl

pub policy_if_field : (has : Bool) → IsField (read_policy_if has) policy_bytes (λ policy. has_policy policy ≡ has)
policy_if_field false = record { spelled = λ bytes z small e. subst (λ (w : Option Policy × List ℕ). (bytes ≡ policy_bytes w.0 ++ w.1) × (has_policy w.0 ≡ false)) (ok_is (None, bytes) z e) (refl, refl); again = again }
  where
    again : (policy : Option Policy) (rest : List ℕ) → has_policy policy ≡ false → read_policy_if false (policy_bytes policy ++ rest) ≡ Ok (policy, rest)
    again None rest h = refl
    again (Some policy) rest h = absurd cc
policy_if_field true =
    record {
      spelled = λ bytes z small e.
          let u = bind_ok (read_policy bytes) (λ x. Ok (Some x.0, x.1)) z e in
          let one = policy_field.spelled bytes u.0 small u.1 in
          subst (λ (w : Option Policy × List ℕ). (bytes ≡ policy_bytes w.0 ++ w.1) × (has_policy w.0 ≡ true)) (ok_is (Some u.0.0, u.0.1) z u.2) (one.0, refl);
      again = again;
    }
  where
    again : (policy : Option Policy) (rest : List ℕ) → has_policy policy ≡ true → read_policy_if true (policy_bytes policy ++ rest) ≡ Ok (policy, rest)
    again None rest h = absurd cc
    again (Some policy) rest h = rw (policy_field.again policy rest tt) refl

-- a kind and a version
pub version_field : (kind : ℕ) → kind < 256 → IsField (read_version kind) (λ has. kind ∷ version has ∷ []) (λ _. ⊤)
version_field kind small =
    behind_field (kind ∷ []) (read_either false true) (λ has. version has ∷ []) (λ _. ⊤) (IsBytes-one kind small)
    (either_field false true version refl refl again)
  where
    again : (has : Bool) (rest : List ℕ) → read_either false true (version has ∷ rest) ≡ Ok (has, rest)
    again false rest = refl
    again true rest = refl

-- ---- whole bytes

-- what is read with nothing left is spelled by the whole
pub whole-read : {A : Type 0} (f : List ℕ → Reading A) (s : A → List ℕ) (P : A → Type 0) → IsField f s P
    → (bytes : List ℕ) (x : A) → IsBytes bytes → f bytes ≡ Ok (x, []) → Spells s P bytes x
whole-read f s P field bytes x small e =
    let t = field.spelled bytes (x, []) small e in (t.0 ∙ append-nil (s x), t.1)

-- what is spelled by the whole is read, with nothing left
pub whole-spelled : {A : Type 0} (f : List ℕ → Reading A) (s : A → List ℕ) (P : A → Type 0) → IsField f s P
    → (bytes : List ℕ) (x : A) → Spells s P bytes x → f bytes ≡ Ok (x, [])
whole-spelled f s P field bytes x spelled = ap f (spelled.0 ∙ sym (append-nil (s x))) ∙ field.again x [] spelled.1

-- bytes at which the reader refuses, or leaves some, spell nothing
pub whole-refused : {A : Type 0} (f : List ℕ → Reading A) (s : A → List ℕ) (P : A → Type 0) → IsField f s P
    → (bytes : List ℕ) (fault : Fault) → f bytes ≡ Err fault → (x : A) → ¬ Spells s P bytes x
whole-refused f s P field bytes fault e x = λ spelled. refused_read fault (x, []) (sym e ∙ whole-spelled f s P field bytes x spelled)

pub whole-left : {A : Type 0} (f : List ℕ → Reading A) (s : A → List ℕ) (P : A → Type 0) → IsField f s P
    → (bytes : List ℕ) (y : A) (rest : List ℕ) → f bytes ≡ Ok (y, rest) → rest ≢ [] → (x : A) → ¬ Spells s P bytes x
whole-left f s P field bytes y rest e some x = λ spelled.
    some (ap (λ (z : _ × List ℕ). z.1) (ok_is (y, rest) (x, []) (sym e ∙ whole-spelled f s P field bytes x spelled)))

pub whole_of-left : {A : Type 0} (reading : Reading A) (y : A) (rest : List ℕ) → reading ≡ Ok (y, rest) → rest ≢ [] → whole_of reading ≡ Err Trailing
whole_of-left reading y [] e some = absurd (some refl)
whole_of-left reading y (_ ∷ _) e some = ap whole_of e

-- ---- the front of bytes

-- what a call gives by the reader is what it reads
pub gives-reads : {X A : Type 0} (seen : X → A) (f : List ℕ → Reading A) (s : A → List ℕ) (P : A → Type 0) → IsField f s P
    → (bytes : List ℕ) (result : Result X Fault) (rest : List ℕ) → IsBytes bytes → Gives seen result rest (f bytes) → Reads seen s P bytes result rest
gives-reads seen f s P field bytes (Ok x) rest small e = field.spelled bytes (seen x, rest) small e
gives-reads seen f s P field bytes (Err fault) rest small e = λ b. refused_read fault (b.0, b.1) (sym e ∙ ap f b.2 ∙ field.again b.0 b.1 b.3)

-- ---- one spelling

-- each value has one spelling, and none begins another
pub one_spelling : {A : Type 0} (f : List ℕ → Reading A) (s : A → List ℕ) (P : A → Type 0) → IsField f s P
    → (x y : A) (a b : List ℕ) → P x → P y → s x ++ a ≡ s y ++ b → (x ≡ y) × (a ≡ b)
one_spelling {A} f s P field x y a b p q e =
    let same = ok_is (x, a) (y, b) (sym (field.again x a p) ∙ ap f e ∙ field.again y b q) in
    (ap (λ (z : A × List ℕ). z.0) same, ap (λ (z : A × List ℕ). z.1) same)
