-- A list of roots is read exactly where one is spelled, and each of its roots can be taken.
use Rattle.std.proofs.Common.{◌≡◌, ℕ, zero, suc, ◌^◌, ◌<◌, ◌≤◌, true, leb, List, [], ◌∷◌, length, Ok, Err, refl, sym, ap, subst, ◌∙◌, arith}
use Rattle.std.specs.List.{flat_map, AllByRecursion}
use Rattle.std.proofs.lemmas.Bool.{and_parts, leb-true, le-leb}
use Rattle.encoding.specs.declared.fault.Fault.{Fault}
use Rattle.encoding.specs.Bytes.{IsBytes}
use Rattle.encoding.specs.Endian.{big_bytes}
use Rattle.encoding.specs.Fields.{IsField, Spells}
use Rattle.encoding.specs.Reading.{◌>>=◌, is_within, read_list, read_number}
use Rattle.encoding.proofs.Fields.{allowed_field, bind_ok, list_field, numbers_field, ok_is, tested_field, then_field, whole-read, whole-refused, whole-spelled}
use Rattle.rootchain.specs.declared.signed_root.SignedRoot.{SignedRoot}
use Rattle.rootchain.specs.Readable.{signed_root_field}
use Rattle.rootchain.specs.SignedRoots.{read_signed_root, signed_root_bytes, IsSignedRoot}
use Rattle.rootchain.specs.RootLists.{roots_in, roots_of, read_root_count, read_root_list, read_roots, root_list_bytes, HasRoots, IsListed, IsRootList}

abbrev IsCount : ℕ → Type 0
IsCount n = (n < 256 ^ 2) × (is_within 0 64 n ≡ true)

few : (count : ℕ) → is_within 0 64 count ≡ true → count ≤ 64
few count e = leb-true count 64 (and_parts (leb 0 count) (leb count 64) e).1

pub count_field : IsField read_root_count (big_bytes 2) IsCount
unfolding read_root_count
count_field = tested_field (is_within 0 64) (read_number 2) (big_bytes 2) (λ n. n < 256 ^ 2) (numbers_field 2)

abbrev AreRoots : ℕ → List SignedRoot → Type 0
AreRoots count roots = AllByRecursion IsSignedRoot roots × (length roots ≡ count)

pub roots_field : (count : ℕ) → IsField (read_roots count) (flat_map signed_root_bytes) (AreRoots count)
unfolding read_roots
roots_field count =
    allowed_field (read_list read_signed_root count) (flat_map signed_root_bytes) (λ roots. (length roots ≡ count) × AllByRecursion IsSignedRoot roots) (AreRoots count)
    (λ roots h. (h.1, h.0)) (λ roots h. (h.1, h.0))
    (list_field read_signed_root signed_root_bytes IsSignedRoot count signed_root_field)

pub root_list_field : IsField read_root_list root_list_bytes IsRootList
unfolding read_root_list
root_list_field =
    allowed_field _ root_list_bytes (λ roots. IsCount (length roots) × AllByRecursion IsSignedRoot roots) IsRootList
    (λ roots h. (few (length roots) h.0.1, h.1))
    (λ roots h. ((omega (arith, h.0), rw (le-leb 0 (length roots) (omega arith), le-leb (length roots) 64 h.0) refl), h.1))
    (then_field length read_root_count read_roots (big_bytes 2) (flat_map signed_root_bytes) IsCount (AllByRecursion IsSignedRoot)
    count_field (λ count _. roots_field count))

-- ---- one root after another

-- reading so many roots here leads to the whole list, up to what these leave; or to a refusal
abbrev pub Leads : ℕ → List ℕ → ℕ → List ℕ → Type 0
Leads count start left now =
    ((more : List SignedRoot) (rest : List ℕ) → read_roots left now ≡ Ok (more, rest) → (roots : List SignedRoot) × (read_roots count start ≡ Ok (roots, rest)))
    × ((fault : Fault) → read_roots left now ≡ Err fault → read_roots count start ≡ Err fault)

pub roots_begin : (count : ℕ) (start : List ℕ) → Leads count start count start
roots_begin count start = ((λ more rest e. (more, e)), (λ fault e. e))

-- the first of the roots that are left, and then the others
pub one_more : (left : ℕ) (now : List ℕ) (root : SignedRoot) (after : List ℕ) (more : List SignedRoot) (rest : List ℕ)
    → read_signed_root now ≡ Ok (root, after) → read_roots left after ≡ Ok (more, rest) → read_roots (suc left) now ≡ Ok (root ∷ more, rest)
unfolding read_roots
one_more left now root after more rest one others = rw (one, others) refl

one_less : (left : ℕ) (now : List ℕ) (root : SignedRoot) (after : List ℕ) (fault : Fault)
    → read_signed_root now ≡ Ok (root, after) → read_roots left after ≡ Err fault → read_roots (suc left) now ≡ Err fault
unfolding read_roots
one_less left now root after fault one others = rw (one, others) refl

pub none_more : (left : ℕ) (now : List ℕ) (fault : Fault) → read_signed_root now ≡ Err fault → read_roots (suc left) now ≡ Err fault
unfolding read_roots
none_more left now fault one = rw one refl

pub roots_step : (count : ℕ) (start : List ℕ) (left next : ℕ) (now : List ℕ) (root : SignedRoot) (after : List ℕ)
    → left ≡ suc next → read_signed_root now ≡ Ok (root, after) → Leads count start left now → Leads count start next after
roots_step count start left next now root after same one leads =
    let L : ℕ → Type 0 = λ n. Leads count start n now in
    let before = subst L same leads in (
      (λ more rest e. before.0 (root ∷ more) rest (one_more next now root after more rest one e)),
      (λ fault e. before.1 fault (one_less next now root after fault one e)),
    )

pub roots_fault : (count : ℕ) (start : List ℕ) (left next : ℕ) (now : List ℕ) (fault : Fault)
    → left ≡ suc next → read_signed_root now ≡ Err fault → Leads count start left now → read_roots count start ≡ Err fault
roots_fault count start left next now fault same one leads =
    let L : ℕ → Type 0 = λ n. Leads count start n now in
    (subst L same leads).1 fault (none_more next now fault one)

pub no_roots : (now : List ℕ) → read_roots 0 now ≡ Ok ([], now)
unfolding read_roots
no_roots now = refl

pub roots_end : (count : ℕ) (start : List ℕ) (left : ℕ) (now : List ℕ) → left ≡ 0 → Leads count start left now → (roots : List SignedRoot) × (read_roots count start ≡ Ok (roots, now))
roots_end count start left now same leads =
    let L : ℕ → Type 0 = λ n. Leads count start n now in
    (subst L same leads).0 [] now (no_roots now)

-- ---- the roots that are left

read_many : (count : ℕ) (bytes : List ℕ) (z : List SignedRoot × List ℕ) → read_list read_signed_root count bytes ≡ Ok z → length z.0 ≡ count
read_many zero bytes z e =
    let none : List SignedRoot × List ℕ = ([], bytes) in
    ap (λ (w : List SignedRoot × List ℕ). length w.0) (sym (ok_is none z e))
read_many (suc count) bytes z e =
    let u = bind_ok (read_signed_root bytes) (λ x. read_list read_signed_root count x.1 >>= λ xs. Ok (x.0 ∷ xs.0, xs.1)) z e in
    let v = bind_ok (read_list read_signed_root count u.0.1) (λ xs. Ok (u.0.0 ∷ xs.0, xs.1)) z u.2 in
    let made : List SignedRoot × List ℕ = (u.0.0 ∷ v.0.0, v.0.1) in
    let many = read_many count u.0.1 v.0 v.1 in
    ap (λ (w : List SignedRoot × List ℕ). length w.0) (sym (ok_is made z v.2)) ∙ (refl ∙ omega (arith, many))

pub roots_many : (count : ℕ) (bytes : List ℕ) (roots : List SignedRoot) (rest : List ℕ) → read_roots count bytes ≡ Ok (roots, rest) → length roots ≡ count
unfolding read_roots
roots_many count bytes roots rest e = read_many count bytes (roots, rest) e

-- so many roots are left
pub listed_many : (count : ℕ) (bytes : List ℕ) → IsListed count bytes → length (roots_in count bytes) ≡ count
unfolding read_roots
listed_many count bytes is = read_many count bytes (roots_in count bytes, []) is.1

-- none is left
pub listed_none : (bytes : List ℕ) → roots_in 0 bytes ≡ []
unfolding read_roots
listed_none bytes = refl

-- one is left at least: it is read, and the others after it
pub listed_some : (count left : ℕ) (bytes : List ℕ) → count ≡ suc left → IsListed count bytes
    → (root : SignedRoot) × (rest : List ℕ) × (read_signed_root bytes ≡ Ok (root, rest)) × IsListed left rest × (roots_in count bytes ≡ root ∷ roots_in left rest)
unfolding read_roots
listed_some count left bytes same is =
    let L : ℕ → Type 0 = λ n. IsListed n bytes in
    let is' = subst L same is in
    let u = bind_ok (read_signed_root bytes) (λ x. read_list read_signed_root left x.1 >>= λ xs. Ok (x.0 ∷ xs.0, xs.1)) _ is'.1 in
    let v = bind_ok (read_list read_signed_root left u.0.1) (λ xs. Ok (u.0.0 ∷ xs.0, xs.1)) _ u.2 in
    let e = ok_is (u.0.0 ∷ v.0.0, v.0.1) (roots_in (suc left) bytes, []) v.2 in
    let over : v.0.1 ≡ [] = ap (λ (z : List SignedRoot × List ℕ). z.1) e in
    let all : u.0.0 ∷ v.0.0 ≡ roots_in (suc left) bytes = ap (λ (z : List SignedRoot × List ℕ). z.0) e in
    let rest : roots_in left u.0.1 ≡ v.0.0 = ap roots_of v.1 in
    let R : ℕ → Type 0 = λ n. roots_in n bytes ≡ u.0.0 ∷ roots_in left u.0.1 in (
      u.0.0,
      u.0.1,
      u.1,
      (omega (arith, is.0, same), v.1 ∙ ap (λ (z : List SignedRoot). Ok (z, v.0.1)) (sym rest) ∙ ap (λ (z : List ℕ). Ok (roots_in left u.0.1, z)) over),
      subst R (sym same) (sym all ∙ ap (λ (z : List SignedRoot). u.0.0 ∷ z) (sym rest)),
    )

-- ---- whole bytes

list_is : (bytes : List ℕ) (count : ℕ) (rest : List ℕ) → read_root_count bytes ≡ Ok (count, rest) → read_root_list bytes ≡ read_roots count rest
unfolding read_root_list
list_is bytes count rest e = rw e refl

refused_is : (bytes : List ℕ) (fault : Fault) → read_root_count bytes ≡ Err fault → read_root_list bytes ≡ Err fault
unfolding read_root_list
refused_is bytes fault e = rw e refl

pub no_count : (bytes : List ℕ) (fault : Fault) → read_root_count bytes ≡ Err fault → (roots : List SignedRoot) → ¬ Spells root_list_bytes IsRootList bytes roots
no_count bytes fault e = whole-refused read_root_list root_list_bytes IsRootList root_list_field bytes fault (refused_is bytes fault e)

pub none_spelled : (bytes : List ℕ) (count : ℕ) (rest : List ℕ) → read_root_count bytes ≡ Ok (count, rest) → ¬ HasRoots count rest
    → (roots : List SignedRoot) → ¬ Spells root_list_bytes IsRootList bytes roots
none_spelled bytes count rest e none roots spelled =
    none (roots, sym (list_is bytes count rest e) ∙ whole-spelled read_root_list root_list_bytes IsRootList root_list_field bytes roots spelled)

-- what was found is what is listed
found_listed : (count : ℕ) (rest : List ℕ) → HasRoots count rest → read_roots count rest ≡ Ok (roots_in count rest, [])
found_listed count rest found =
    let same : roots_in count rest ≡ found.0 = ap roots_of found.1 in
    found.1 ∙ ap (λ (roots : List SignedRoot). Ok (roots, [])) (sym same)

pub is_listed : (bytes : List ℕ) (count : ℕ) (rest : List ℕ) → IsBytes bytes → read_root_count bytes ≡ Ok (count, rest) → HasRoots count rest → IsListed count rest
is_listed bytes count rest small e found = (few count (count_field.spelled bytes (count, rest) small e).1.1, found_listed count rest found)

-- roots that were read are spelled
pub are_spelled : (bytes : List ℕ) (count : ℕ) (rest : List ℕ) (roots : List SignedRoot) → IsBytes bytes → read_root_count bytes ≡ Ok (count, rest) → read_roots count rest ≡ Ok (roots, [])
    → Spells root_list_bytes IsRootList bytes roots
are_spelled bytes count rest roots small e found = whole-read read_root_list root_list_bytes IsRootList root_list_field bytes roots small (list_is bytes count rest e ∙ found)

pub is_spelled : (bytes : List ℕ) (count : ℕ) (rest : List ℕ) → IsBytes bytes → read_root_count bytes ≡ Ok (count, rest) → HasRoots count rest
    → Spells root_list_bytes IsRootList bytes (roots_in count rest)
is_spelled bytes count rest small e found =
    are_spelled bytes count rest (roots_in count rest) small e (found_listed count rest found)
