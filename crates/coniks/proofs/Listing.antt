-- Where the roots of a list stand in its bytes.
use Rattle.std.proofs.Common.{◌≡◌, ◌≢◌, ◌⊎◌, inl, inr, ℕ, zero, suc, ◌+◌, ◌<◌, List, [], ◌∷◌, ◌++◌, length, length-append, length-set, append-nil, append_assoc, slice_get, set, Some, arith, refl, sym, ap, subst, ◌∙◌}
use Rattle.std.proofs.lemmas.List.{nil_from_length}
use Rattle.std.proofs.lemmas.List.Concat.{flat_map-append}
use Rattle.std.specs.List.{flat_map}
use Rattle.encoding.specs.Endian.{big_bytes}
use Rattle.rootchain.specs.RootLists.{root_list_bytes}
use Rattle.rootchain.specs.SignedRoots.{signed_root_bytes}
use Rattle.rootchain.specs.declared.signed_root.SignedRoot.{SignedRoot}
use Rattle.coniks.specs.Hearing.{ArePlaced, AreUnchangedFrom}
use Rattle.coniks.specs.Parts.{IsPart}
use Rattle.coniks.specs.declared.parts.Part.{Part}
use Rattle.coniks.proofs.Cuts.{piece-at}

set-there : (xs : List Part) (n : ℕ) (y : Part) → n < length xs → slice_get (set xs n y) n ≡ Some y
set-there [] n y low = absurd (omega (arith, low))
set-there (x ∷ xs) zero y low = refl
set-there (x ∷ xs) (suc n) y low = set-there xs n y (omega (arith, low))

set-other : (xs : List Part) (n k : ℕ) (y : Part) → k ≢ n → slice_get (set xs n y) k ≡ slice_get xs k
set-other [] n k y other = refl
set-other (x ∷ xs) zero zero y other = absurd (other refl)
set-other (x ∷ xs) zero (suc k) y other = refl
set-other (x ∷ xs) (suc n) zero y other = refl
set-other (x ∷ xs) (suc n) (suc k) y other = set-other xs n k y (λ same. other (ap suc same))

-- one of a list that is one longer
more-roots : (xs : List SignedRoot) (x : SignedRoot) (k : ℕ) (v : SignedRoot) → slice_get (xs ++ x ∷ []) k ≡ Some v → ((k < length xs) × (slice_get xs k ≡ Some v)) ⊎ ((k ≡ length xs) × (v ≡ x))
more-roots [] x zero v at = inr (refl, cc)
more-roots [] x (suc k) v at = absurd cc
more-roots (y ∷ xs) x zero v at = inl (omega arith, at)
more-roots (y ∷ xs) x (suc k) v at = by (more-roots xs x k v at)
  where
    by : ((k < length xs) × (slice_get xs k ≡ Some v)) ⊎ ((k ≡ length xs) × (v ≡ x)) → ((suc k < suc (length xs)) × (slice_get xs k ≡ Some v)) ⊎ ((suc k ≡ suc (length xs)) × (v ≡ x))
    by (inl (low, there)) = inl (omega (arith, low), there)
    by (inr (last, is)) = inr (ap suc last, is)

-- the roots of a list are those done and those left; each that is done stands at its part, and the next one begins here
pub record AreBehind (all : List SignedRoot) (parts : List Part) (done left : List SignedRoot) (n start : ℕ) (now : List Part) : Type 0 where
  pub whole : all ≡ done ++ left
  pub count : length done ≡ n
  pub next : start ≡ 2 + length (flat_map signed_root_bytes done)
  pub still : AreUnchangedFrom n parts now
  pub placed : ArePlaced (root_list_bytes all) done now

pub nothing-yet : (all : List SignedRoot) (parts : List Part) → AreBehind all parts [] all 0 2 parts
nothing-yet all parts = record { whole = refl; count = refl; next = refl; still = (refl, λ k low. refl); placed = λ n root at. absurd cc }

module _ {all : List SignedRoot} {parts : List Part} {done left rest : List SignedRoot} {n start : ℕ} {now : List Part} (are : AreBehind all parts done left n start now) (root : SignedRoot) (is : left ≡ root ∷ rest) (len : ℕ) (size : len ≡ length (signed_root_bytes root)) (room : n < length now) where
  whole-now : all ≡ (done ++ root ∷ []) ++ rest
  whole-now = are.whole ∙ ap (λ (xs : List SignedRoot). done ++ xs) is ∙ sym (append_assoc done (root ∷ []) rest)

  bytes-are : root_list_bytes all ≡ (big_bytes 2 (length all) ++ flat_map signed_root_bytes done) ++ (signed_root_bytes root ++ flat_map signed_root_bytes rest)
  bytes-are = ap (λ (bytes : List ℕ). big_bytes 2 (length all) ++ bytes) (ap (flat_map signed_root_bytes) (are.whole ∙ ap (λ (xs : List SignedRoot). done ++ xs) is) ∙ flat_map-append signed_root_bytes done (root ∷ rest))
      ∙ sym (append_assoc (big_bytes 2 (length all)) (flat_map signed_root_bytes done) (signed_root_bytes root ++ flat_map signed_root_bytes rest))

  here : IsPart (root_list_bytes all) (record { start = start; len = len }) (signed_root_bytes root)
  here = piece-at (root_list_bytes all) (big_bytes 2 (length all) ++ flat_map signed_root_bytes done) (signed_root_bytes root) (flat_map signed_root_bytes rest) start len bytes-are (let next = are.next in omega (arith, next)) size

  pub one-more : AreBehind all parts (done ++ root ∷ []) rest (n + 1) (start + len) (set now n (record { start = start; len = len }))
  one-more = record {
    whole = whole-now;
    count = (let both = length-append done (root ∷ []) in let count = are.count in omega (arith, both, count));
    next = (let next = are.next in let all = ap length (flat_map-append signed_root_bytes done (root ∷ [])) in let both = length-append (flat_map signed_root_bytes done) (signed_root_bytes root ++ []) in let last = length-append (signed_root_bytes root) [] in omega (arith, next, all, both, last, size));
    still = (
      length-set now n (record { start = start; len = len }) ∙ are.still.0,
      λ k low. set-other now n k (record { start = start; len = len }) (λ same. absurd (omega (arith, low, same))) ∙ are.still.1 k (omega (arith, low)),
    );
    placed = λ k v at. by k v (more-roots done root k v at);
  }
    where
      by : (k : ℕ) (v : SignedRoot) → ((k < length done) × (slice_get done k ≡ Some v)) ⊎ ((k ≡ length done) × (v ≡ root))
          → (part : Part) × (slice_get (set now n (record { start = start; len = len })) k ≡ Some part) × IsPart (root_list_bytes all) part (signed_root_bytes v)
      by k v (inl (low, there)) =
          let old = are.placed k v there in
          let count = are.count in
          (old.0, set-other now n k (record { start = start; len = len }) (λ same. absurd (omega (arith, low, count, same))) ∙ old.1, old.2)
      by k v (inr (last, same)) = (
        record { start = start; len = len },
        subst (λ (m : ℕ). slice_get (set now n (record { start = start; len = len })) m ≡ Some (record { start = start; len = len })) (sym (last ∙ are.count)) (set-there now n (record { start = start; len = len }) room),
        subst (λ (r : SignedRoot). IsPart (root_list_bytes all) (record { start = start; len = len }) (signed_root_bytes r)) (sym same) here,
      )

-- all are done
pub all-done : {all : List SignedRoot} {parts : List Part} {done left : List SignedRoot} {n start : ℕ} {now : List Part} → AreBehind all parts done left n start now → n ≡ length all → ArePlaced (root_list_bytes all) all now
all-done {all} {parts} {done} {left} {n} {start} {now} are full = subst (λ (roots : List SignedRoot). ArePlaced (root_list_bytes all) roots now) (sym same) are.placed
  where
    same : all ≡ done
    same =
        let sizes = ap length are.whole in
        let both = length-append done left in
        let count = are.count in
        are.whole ∙ ap (λ (xs : List SignedRoot). done ++ xs) (nil_from_length left (omega (arith, sizes, both, count, full))) ∙ append-nil done

-- not all are
pub more-left : {all : List SignedRoot} {parts : List Part} {done left : List SignedRoot} {n start : ℕ} {now : List Part} → AreBehind all parts done left n start now → n < length all → left ≡ [] → ⊥
more-left {all} {parts} {done} {left} are low none =
    let sizes = ap length are.whole in
    let both = length-append done left in
    let count = are.count in
    let empty = ap length none in
    absurd (omega (arith, sizes, both, count, empty, low))
