-- A reader tells cuts: it says that bytes are short exactly where they are a spelling that was cut short.
-- One lemma for each reader, and one for each way to make a reader of others.
use Rattle.std.proofs.Common.{◌≡◌, ◌≢◌, ◌⊎◌, inl, inr, ℕ, suc, ◌-◌, ◌^◌, ◌<◌, Bool, true, false, cond, ltb, List, [], ◌∷◌, ◌++◌, length, replicate, take, drop, Result, Ok, Err, refl, sym, ap, subst, ◌∙◌, append_assoc, arith, true≢false}
use Rattle.std.specs.Prelude.{◌==◌}
use Rattle.std.proofs.lemmas.Bool.{ltb-true, lt-ltb, eqb-true, eq-eqb}
use Rattle.std.proofs.lemmas.List.{append-nil, length-append, length-replicate}
use Rattle.byteorder.specs.Endian.{big_bytes, big_number}
use Rattle.byteorder.specs.Numbers.{big_from-lt, length-bytes_high_first}
use Rattle.encoding.specs.declared.fault.Fault.{Fault}
use Rattle.encoding.specs.declared.fault.Fault.TheVariants.{Short, OutOfRange}
use Rattle.encoding.specs.Bytes.{IsBytes, HasBytes}
use Rattle.encoding.specs.Fields.{IsField}
use Rattle.encoding.specs.Reading.{Reading, ◌>>=◌, read_as, read_both, read_bytes, read_number, read_then}
use Rattle.encoding.proofs.ByteLists.{IsBytes-append, IsBytes-back, IsBytes-zeros}
use Rattle.encoding.proofs.Fields.{bind_err, refused_read}
use Rattle.encoding.proofs.NumberBytes.{bytes-of_number}
use Rattle.journal.specs.Openings.{IsCut, IsNone}
use Rattle.journal.specs.Records.{read_mark}

pub record TellsCuts {A : Type 0} (read : List ℕ → Reading A) (spelling : A → List ℕ) (Allowed : A → Type 0) : Type 0 where
  pub cut : (bytes : List ℕ) → IsBytes bytes → read bytes ≡ Err Short → (x : A) × (more : List ℕ) × (spelling x ≡ bytes ++ more) × Allowed x
  pub short : (x : A) (bytes more : List ℕ) → spelling x ≡ bytes ++ more → more ≢ [] → Allowed x → read bytes ≡ Err Short

-- ---- what follows for whole records

pub is_cut : {A : Type 0} (f : List ℕ → Reading A) (s : A → List ℕ) (P : A → Type 0) → IsField f s P → TellsCuts f s P
    → (bytes : List ℕ) → IsBytes bytes → f bytes ≡ Err Short → IsCut s P bytes
is_cut f s P field tells bytes small e =
    let c = tells.cut bytes small e in
    (c.0, c.1, c.2, (λ none. refused_read Short (c.0, []) (sym e ∙ ap f (sym (c.2 ∙ ap (λ (m : List ℕ). bytes ++ m) none ∙ append-nil bytes) ∙ sym (append-nil (s c.0))) ∙ field.again c.0 [] c.3)), c.3)

other_fault : {A : Type 0} (fault : Fault) (r : Reading A) → r ≡ Err fault → r ≡ Err Short → fault ≡ Short
other_fault fault r e f = cc

pub is_none : {A : Type 0} (f : List ℕ → Reading A) (s : A → List ℕ) (P : A → Type 0) → IsField f s P → TellsCuts f s P
    → (bytes : List ℕ) (fault : Fault) → fault ≢ Short → f bytes ≡ Err fault → IsNone s P bytes
is_none f s P field tells bytes fault other e = (
  (λ b. refused_read fault (b.0, b.1) (sym e ∙ ap f b.2 ∙ field.again b.0 b.1 b.3)),
  (λ c. other (other_fault fault (f bytes) e (tells.short c.0 bytes c.1 c.2 c.3 c.4))),
)

-- ---- lists

-- one of two equal lists is parted within its first half, or after it
pub parted : (a b c d : List ℕ) → a ++ b ≡ c ++ d → ((m : List ℕ) × (a ≡ c ++ m) × (m ≢ [])) ⊎ ((m : List ℕ) × (c ≡ a ++ m) × (b ≡ m ++ d))
parted [] b c d e = inr (c, refl, e)
parted (x ∷ a) b [] d e = inl (x ∷ a, refl, λ none. absurd cc)
parted (x ∷ a) b (y ∷ c) d e = later (parted a b c d cc)
  where
    same : x ≡ y
    same = cc

    later : ((m : List ℕ) × (a ≡ c ++ m) × (m ≢ [])) ⊎ ((m : List ℕ) × (c ≡ a ++ m) × (b ≡ m ++ d))
        → ((m : List ℕ) × (x ∷ a ≡ (y ∷ c) ++ m) × (m ≢ [])) ⊎ ((m : List ℕ) × (y ∷ c ≡ (x ∷ a) ++ m) × (b ≡ m ++ d))
    later (inl h) = inl (h.0, rw (same, h.1) refl, h.2)
    later (inr h) = inr (h.0, rw (same, h.1) refl, h.2)

pub longer : (bytes more : List ℕ) → more ≢ [] → length bytes < length (bytes ++ more)
longer bytes [] some = absurd (some refl)
longer bytes (m ∷ more) some = omega (arith, length-append bytes (m ∷ more))

-- ---- the readers

pub bytes_cuts : (count : ℕ) → TellsCuts (read_bytes count) (λ bytes. bytes) (HasBytes count)
bytes_cuts count = record { cut = λ bytes small e. by_length bytes small (ltb (length bytes) count) refl e; short = short }
  where
    by_length : (bytes : List ℕ) → IsBytes bytes → (b : Bool) → ltb (length bytes) count ≡ b → read_bytes count bytes ≡ Err Short
        → (x : List ℕ) × (more : List ℕ) × (x ≡ bytes ++ more) × HasBytes count x
    by_length bytes small true b e =
        let zeros = replicate (count - length bytes) 0 in
        let few : length bytes < count = ltb-true _ _ b in
        (bytes ++ zeros, zeros, refl, (omega (arith, length-append bytes zeros, length-replicate {A = ℕ} (count - length bytes) 0, few), IsBytes-append bytes zeros small (IsBytes-zeros (count - length bytes))))
    by_length bytes small false b e = absurd (refused_read Short (take count bytes, drop count bytes) (sym e ∙ rw b refl))

    short : (x bytes more : List ℕ) → x ≡ bytes ++ more → more ≢ [] → HasBytes count x → read_bytes count bytes ≡ Err Short
    short x bytes more e some h = rw (lt-ltb (length bytes) count (omega (arith, longer bytes more some, ap length e, h.0))) refl

pub numbers_cuts : (count : ℕ) → TellsCuts (read_number count) (big_bytes count) (λ n. n < 256 ^ count)
numbers_cuts count = record { cut = cut; short = short }
  where
    cut : (bytes : List ℕ) → IsBytes bytes → read_number count bytes ≡ Err Short → (n : ℕ) × (more : List ℕ) × (big_bytes count n ≡ bytes ++ more) × (n < 256 ^ count)
    cut bytes small e = ended (bind_err (read_bytes count bytes) (λ x. Ok (big_number count x.0, x.1)) Short e)
      where
        ended : (read_bytes count bytes ≡ Err Short) ⊎ ((x : List ℕ × List ℕ) × (read_bytes count bytes ≡ Ok x) × ((let done : Reading ℕ = Ok (big_number count x.0, x.1) in done) ≡ Err Short))
            → (n : ℕ) × (more : List ℕ) × (big_bytes count n ≡ bytes ++ more) × (n < 256 ^ count)
        ended (inl f) =
            let c = (bytes_cuts count).cut bytes small f in
            (big_number count c.0, c.1, bytes-of_number count c.0 c.3.0 c.3.1 ∙ c.2, big_from-lt 0 count c.0 c.3.1)
        ended (inr f) = absurd (refused_read Short _ (sym f.2))

    short : (n : ℕ) (bytes more : List ℕ) → big_bytes count n ≡ bytes ++ more → more ≢ [] → n < 256 ^ count → read_number count bytes ≡ Err Short
    short n bytes more e some h = rw (lt-ltb (length bytes) count (omega (arith, longer bytes more some, ap length e, length-bytes_high_first count n))) refl

-- ---- readers made of readers

-- what is read after the first of two
abbrev goes_on : {A B : Type 0} → (List ℕ → Reading B) → A × List ℕ → Reading (A × B)
goes_on g x = g x.1 >>= λ y. Ok ((x.0, y.0), y.1)

pub both_cuts : {A B : Type 0} {f : List ℕ → Reading A} {g : List ℕ → Reading B} {s : A → List ℕ} {t : B → List ℕ} {P : A → Type 0} {Q : B → Type 0}
    → IsField f s P → TellsCuts f s P → TellsCuts g t Q → (y : B) → Q y → TellsCuts (read_both f g) (λ x. s x.0 ++ t x.1) (λ x. P x.0 × Q x.1)
both_cuts {A} {B} {f} {g} {s} {t} {P} {Q} field first second y ok = record { cut = cut; short = short }
  where
    Ends : List ℕ → Type 0
    Ends bytes = (x : A × B) × (more : List ℕ) × (s x.0 ++ t x.1 ≡ bytes ++ more) × (P x.0 × Q x.1)

    cut : (bytes : List ℕ) → IsBytes bytes → read_both f g bytes ≡ Err Short → Ends bytes
    cut bytes small e = ended (bind_err (f bytes) (goes_on g) Short e)
      where
        later : (x : A × List ℕ) → f bytes ≡ Ok x → g x.1 ≡ Err Short → Ends bytes
        later x read h =
            let one = field.spelled bytes x small read in
            let two = second.cut x.1 (IsBytes-back (s x.0) x.1 (subst IsBytes one.0 small)) h in
            ((x.0, two.0), two.1, ap (λ (w : List ℕ). s x.0 ++ w) two.2 ∙ sym (append_assoc (s x.0) x.1 two.1) ∙ ap (λ (w : List ℕ). w ++ two.1) (sym one.0), (one.1, two.3))

        ended_later : (x : A × List ℕ) → f bytes ≡ Ok x → ((g x.1 ≡ Err Short) ⊎ ((z : B × List ℕ) × (g x.1 ≡ Ok z) × ((let done : Reading (A × B) = Ok ((x.0, z.0), z.1) in done) ≡ Err Short))) → Ends bytes
        ended_later x read (inl h) = later x read h
        ended_later x read (inr h) = absurd (refused_read Short _ (sym h.2))

        ended : (f bytes ≡ Err Short) ⊎ ((x : A × List ℕ) × (f bytes ≡ Ok x) × (goes_on g x ≡ Err Short)) → Ends bytes
        ended (inl h) =
            let c = first.cut bytes small h in
            ((c.0, y), c.1 ++ t y, ap (λ (w : List ℕ). w ++ t y) c.2 ∙ append_assoc bytes c.1 (t y), (c.3, ok))
        ended (inr h) =
            let next : B × List ℕ → Reading (A × B) = λ z. Ok ((h.0.0, z.0), z.1) in
            ended_later h.0 h.1 (bind_err (g h.0.1) next Short h.2)

    short : (x : A × B) (bytes more : List ℕ) → s x.0 ++ t x.1 ≡ bytes ++ more → more ≢ [] → P x.0 × Q x.1 → read_both f g bytes ≡ Err Short
    short x bytes more e some h = within (parted (s x.0) (t x.1) bytes more e)
      where
        within : ((m : List ℕ) × (s x.0 ≡ bytes ++ m) × (m ≢ [])) ⊎ ((m : List ℕ) × (bytes ≡ s x.0 ++ m) × (t x.1 ≡ m ++ more)) → read_both f g bytes ≡ Err Short
        within (inl p) = rw (first.short x.0 bytes p.0 p.1 p.2 h.0) refl
        within (inr p) = ap (read_both f g) p.1 ∙ rw (field.again x.0 p.0 h.0, second.short x.1 p.0 more p.2 some h.1) refl

-- what is read first is told by the whole value; each that may be read first has a value that it goes on to
pub then_cuts : {K A : Type 0} (told : A → K) (f : List ℕ → Reading K) (g : K → List ℕ → Reading A) (s : K → List ℕ) (t : A → List ℕ) (P : K → Type 0) (Q : A → Type 0)
    → IsField f s P → TellsCuts f s P → ((k : K) → P k → TellsCuts (g k) t (λ x. Q x × (told x ≡ k))) → ((k : K) → P k → (x : A) × (Q x × (told x ≡ k)))
    → TellsCuts (read_then f g) (λ x. s (told x) ++ t x) (λ x. P (told x) × Q x)
then_cuts {K} {A} told f g s t P Q field first second some_value = record { cut = cut; short = short }
  where
    Ends : List ℕ → Type 0
    Ends bytes = (x : A) × (more : List ℕ) × (s (told x) ++ t x ≡ bytes ++ more) × (P (told x) × Q x)

    cut : (bytes : List ℕ) → IsBytes bytes → read_then f g bytes ≡ Err Short → Ends bytes
    cut bytes small e = ended (bind_err (f bytes) (λ k. g k.0 k.1) Short e)
      where
        ended : (f bytes ≡ Err Short) ⊎ ((k : K × List ℕ) × (f bytes ≡ Ok k) × (g k.0 k.1 ≡ Err Short)) → Ends bytes
        ended (inl h) =
            let c = first.cut bytes small h in
            let v = some_value c.0 c.3 in
            let R : K → Type 0 = λ k. (s k ++ t v.0 ≡ bytes ++ (c.1 ++ t v.0)) × (P k × Q v.0) in
            let there = subst R (sym v.1.1) (ap (λ (w : List ℕ). w ++ t v.0) c.2 ∙ append_assoc bytes c.1 (t v.0), (c.3, v.1.0)) in
            (v.0, c.1 ++ t v.0, there.0, there.1)
        ended (inr h) =
            let one = field.spelled bytes h.0 small h.1 in
            let two = (second h.0.0 one.1).cut h.0.1 (IsBytes-back (s h.0.0) h.0.1 (subst IsBytes one.0 small)) h.2 in
            let R : K → Type 0 = λ k. (s k ++ t two.0 ≡ bytes ++ two.1) × (P k × Q two.0) in
            let there = subst R (sym two.3.1)
            (ap (λ (w : List ℕ). s h.0.0 ++ w) two.2 ∙ sym (append_assoc (s h.0.0) h.0.1 two.1) ∙ ap (λ (w : List ℕ). w ++ two.1) (sym one.0), (one.1, two.3.0)) in
            (two.0, two.1, there.0, there.1)

    short : (x : A) (bytes more : List ℕ) → s (told x) ++ t x ≡ bytes ++ more → more ≢ [] → P (told x) × Q x → read_then f g bytes ≡ Err Short
    short x bytes more e some h = within (parted (s (told x)) (t x) bytes more e)
      where
        within : ((m : List ℕ) × (s (told x) ≡ bytes ++ m) × (m ≢ [])) ⊎ ((m : List ℕ) × (bytes ≡ s (told x) ++ m) × (t x ≡ m ++ more)) → read_then f g bytes ≡ Err Short
        within (inl p) = rw (first.short (told x) bytes p.0 p.1 p.2 h.0) refl
        within (inr p) = ap (read_then f g) p.1 ∙ rw (field.again (told x) p.0 h.0) ((second (told x) h.0).short x p.0 more p.2 some (h.1, refl))

pub renamed_cuts : {A B : Type 0} (to : A → B) (back : B → A) (f : List ℕ → Reading A) (s : A → List ℕ) (P : A → Type 0)
    → ((x : A) → P x → back (to x) ≡ x) → TellsCuts f s P → TellsCuts (read_as to f) (λ y. s (back y)) (λ y. P (back y) × (to (back y) ≡ y))
renamed_cuts {A} {B} to back f s P there tells = record { cut = cut; short = λ y bytes more e some h. rw (tells.short (back y) bytes more e some h.0) refl }
  where
    Ends : List ℕ → Type 0
    Ends bytes = (y : B) × (more : List ℕ) × (s (back y) ≡ bytes ++ more) × (P (back y) × (to (back y) ≡ y))

    cut : (bytes : List ℕ) → IsBytes bytes → read_as to f bytes ≡ Err Short → Ends bytes
    cut bytes small e = ended (bind_err (f bytes) (λ x. Ok (to x.0, x.1)) Short e)
      where
        ended : (f bytes ≡ Err Short) ⊎ ((x : A × List ℕ) × (f bytes ≡ Ok x) × ((let done : Reading B = Ok (to x.0, x.1) in done) ≡ Err Short)) → Ends bytes
        ended (inl h) =
            let c = tells.cut bytes small h in
            let R : A → Type 0 = λ x. (s x ≡ bytes ++ c.1) × (P x × (to x ≡ to c.0)) in
            let back_there = subst R (sym (there c.0 c.3)) (c.2, (c.3, refl)) in
            (to c.0, c.1, back_there.0, back_there.1)
        ended (inr h) = absurd (refused_read Short _ (sym h.2))

pub allowed_cuts : {A : Type 0} {f : List ℕ → Reading A} {s : A → List ℕ} {P Q : A → Type 0} → ((x : A) → P x → Q x) → ((x : A) → Q x → P x) → TellsCuts f s P → TellsCuts f s Q
allowed_cuts to back tells =
    record {
      cut = λ bytes small e. let c = tells.cut bytes small e in (c.0, c.1, c.2, to c.0 c.3);
      short = λ x bytes more e some h. tells.short x bytes more e some (back x h);
    }

pub respelled_cuts : {A : Type 0} {f : List ℕ → Reading A} {s t : A → List ℕ} {P : A → Type 0} → ((x : A) → P x → s x ≡ t x) → TellsCuts f s P → TellsCuts f t P
respelled_cuts same tells =
    record {
      cut = λ bytes small e. let c = tells.cut bytes small e in (c.0, c.1, sym (same c.0 c.3) ∙ c.2, c.3);
      short = λ x bytes more e some h. tells.short x bytes more (same x h ∙ e) some h;
    }

-- a test of what is read
pub where_is : {A : Type 0} (test : A → Bool) (x : A) (rest : List ℕ) (b : Bool) → test x ≡ b
    → ((let read : Reading A = Ok (x, rest) in read) >>= λ z. cond (test z.0) (Ok z) (Err OutOfRange)) ≡ cond b (Ok (x, rest)) (Err OutOfRange)
where_is {A} test x rest b e = let R : Bool → Reading A = λ t. cond t (Ok (x, rest)) (Err OutOfRange) in ap R e

pub refused : {A : Type 0} → (let left : Result A Fault = Err OutOfRange in left) ≡ Err Short → ⊥
refused h = absurd (true≢false (wrong h))
  where
    wrong : {B : Type 0} → (let left : Result B Fault = Err OutOfRange in left) ≡ Err Short → true ≡ false
    wrong h = absurd cc

-- a value behind one byte
mark_is : {A : Type 0} (mark : ℕ) (f : List ℕ → Reading A) (byte : ℕ) (rest : List ℕ) (b : Bool) → (mark == byte) ≡ b → read_mark mark f (byte ∷ rest) ≡ cond b (f rest) (Err OutOfRange)
mark_is {A} mark f byte rest true e = let R : Bool → Reading A = λ t. (let read : Reading ℕ = cond t (Ok (byte, rest)) (Err OutOfRange) in read) >>= λ k. f k.1 in ap R e
mark_is {A} mark f byte rest false e = let R : Bool → Reading A = λ t. (let read : Reading ℕ = cond t (Ok (byte, rest)) (Err OutOfRange) in read) >>= λ k. f k.1 in ap R e

pub mark_cuts : {A : Type 0} (mark : ℕ) {f : List ℕ → Reading A} {s : A → List ℕ} {P : A → Type 0} → TellsCuts f s P → (x : A) → P x → TellsCuts (read_mark mark f) (λ x. mark ∷ s x) P
mark_cuts {A} mark {f} {s} {P} tells x ok = record { cut = cut; short = short }
  where
    Ends : List ℕ → Type 0
    Ends bytes = (x : A) × (more : List ℕ) × (mark ∷ s x ≡ bytes ++ more) × P x

    behind : (byte : ℕ) (rest : List ℕ) → IsBytes (byte ∷ rest) → (b : Bool) → (mark == byte) ≡ b → read_mark mark f (byte ∷ rest) ≡ Err Short → Ends (byte ∷ rest)
    behind byte rest small true b e =
        let c = tells.cut rest (λ k. small (suc k)) (sym (mark_is mark f byte rest true b) ∙ e) in
        (c.0, c.1, ap (λ (m : ℕ). m ∷ s c.0) (eqb-true mark byte b) ∙ ap (λ (t : List ℕ). byte ∷ t) c.2, c.3)
    behind byte rest small false b e = absurd (refused (sym (mark_is mark f byte rest false b) ∙ e))

    cut : (bytes : List ℕ) → IsBytes bytes → read_mark mark f bytes ≡ Err Short → Ends bytes
    cut [] small e = (x, mark ∷ s x, refl, ok)
    cut (byte ∷ rest) small e = behind byte rest small (mark == byte) refl e

    short : (x : A) (bytes more : List ℕ) → mark ∷ s x ≡ bytes ++ more → more ≢ [] → P x → read_mark mark f bytes ≡ Err Short
    short x [] more e some h = refl
    short x (byte ∷ rest) more e some h =
        let same : mark ≡ byte = cc in
        let left : s x ≡ rest ++ more = cc in
        mark_is mark f byte rest true (eq-eqb mark byte same) ∙ tells.short x rest more left some h
