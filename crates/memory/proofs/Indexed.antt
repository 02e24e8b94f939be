-- What the index of promises has.
use Rattle.std.proofs.Common.{◌≡◌, ◌≢◌, ◌↔◌, ℕ, ◌<◌, Bool, true, false, ◌||◌, List, [], ◌∷◌, length, get_or, map, All, Any, Option, None, Some, Vec, refl, sym, ap, subst, ◌∙◌, arith}
use Rattle.std.specs.BTreeMap.{is_at}
use Rattle.std.specs.BTreeSet.{contains_by, insert_key, BTreeSet}
use Rattle.std.specs.Prelude.{is_some, IsTrue, MatchOption}
use Rattle.std.specs.List.{list_any, AllByRecursion}
use Rattle.std.specs.Ordering.{match_ordering}
use Rattle.std.specs.declared.cmp.Ordering.{Ordering}
use Rattle.std.specs.declared.cmp.Ordering.TheVariants.{Less, Equal, Greater}
use Rattle.std.proofs.lemmas.Bool.{false≢true}
use Rattle.std.proofs.lemmas.List.{get_or_default}
use Rattle.std.proofs.lemmas.List.Elements.{All-from_recursion}
use Rattle.encoding.specs.Bytes.{bytes_cmp}
use Rattle.rootchain.specs.Promises.{signed_promise_bytes}
use Rattle.rootchain.specs.declared.signed_promise.SignedPromise.{SignedPromise}
use Rattle.memory.specs.Memories.{signed_of}
use Rattle.memory.specs.PromiseIndex.{AreIndexed, IsIndexed}
use Rattle.memory.specs.declared.promised.Promised.{Promised}

-- ---- keys

or-right : (a b : Bool) → b ≡ true → (a || b) ≡ true
or-right true b is = refl
or-right false b is = is

or-either : (a b c : Bool) → (b ≡ true → c ≡ true) → (a || b) ≡ true → (a || c) ≡ true
or-either true b c more is = refl
or-either false b c more is = more is

-- what is found among keys is found when one more is put in
any-insert_key : {K : Type 0} (cmp : K → K → Ordering) (test : K → Bool) (keys : List K) (key : K)
    → list_any test keys ≡ true → list_any test (insert_key cmp keys key) ≡ true
any-insert_key cmp test [] key is = absurd (false≢true is)
any-insert_key {K} cmp test (x ∷ xs) key is = by (any-insert_key cmp test xs key) (cmp key x)
  where
    by : (list_any test xs ≡ true → list_any test (insert_key cmp xs key) ≡ true) → (order : Ordering)
        → list_any test (match_ordering order (key ∷ x ∷ xs) (x ∷ xs) (x ∷ insert_key cmp xs key)) ≡ true
    by more Less = or-right (test key) (list_any test (x ∷ xs)) is
    by more Equal = is
    by more Greater = or-either (test x) (list_any test xs) (list_any test (insert_key cmp xs key)) more is

-- ---- promises

all-more : {X : Type 0} (P Q : X → Type 0) → ((x : X) → P x → Q x) → (xs : List X) → AllByRecursion P xs → AllByRecursion Q xs
all-more P Q more [] all = tt
all-more P Q more (x ∷ xs) all = (more x all.0, all-more P Q more xs all.1)

module _ {A : Type 0} where
  pub has-text : (index : BTreeSet (Vec ℕ A)) (one other : List ℕ) → one ≡ other → contains_by (λ key. bytes_cmp one key.items) index ≡ contains_by (λ key. bytes_cmp other key.items) index
  has-text index one other same = ap (λ (text : List ℕ). contains_by (λ key. bytes_cmp text key.items) index) same

  -- a set that has more keys indexes the same promises
  indexed-keys : (before after : BTreeSet (Vec ℕ A)) (promises : List Promised) → ((test : Vec ℕ A → Bool) → list_any test before.keys ≡ true → list_any test after.keys ≡ true)
      → AreIndexed before promises → AreIndexed after promises
  indexed-keys before after promises more indexed =
      all-more (IsIndexed before) (IsIndexed after) (λ signed. more (is_at (λ (key : Vec ℕ A). bytes_cmp (signed_promise_bytes signed) key.items))) (map signed_of promises) indexed

  pub indexed-same : (before after : BTreeSet (Vec ℕ A)) (promises : List Promised) → after.keys ≡ before.keys → AreIndexed before promises → AreIndexed after promises
  indexed-same before after promises is =
      indexed-keys before after promises (λ test. subst (λ (keys : List (Vec ℕ A)). list_any test keys ≡ true) (sym is))

  pub indexed-insert : (cmp : Vec ℕ A → Vec ℕ A → Ordering) (before after : BTreeSet (Vec ℕ A)) (key : Vec ℕ A) (promises : List Promised)
      → after.keys ≡ insert_key cmp before.keys key → AreIndexed before promises → AreIndexed after promises
  indexed-insert cmp before after key promises is =
      indexed-keys before after promises (λ test has. subst (λ (keys : List (Vec ℕ A)). list_any test keys ≡ true) (sym is) (any-insert_key cmp test before.keys key has))

  -- what the index lacks is no promise of the list
  pub unindexed : (index : BTreeSet (Vec ℕ A)) (promises : List Promised) (signed : SignedPromise) → AreIndexed index promises → ¬ IsIndexed index signed
      → All (λ (kept : Promised). kept.signed ≢ signed) promises
  unindexed index promises signed indexed lacks = All-from_recursion (λ (kept : Promised). kept.signed ≢ signed) promises (apart promises indexed)
    where
      apart : (kept : List Promised) → AreIndexed index kept → AllByRecursion (λ (other : Promised). other.signed ≢ signed) kept
      apart [] all = tt
      apart (x ∷ xs) all = (λ same. lacks (subst (IsIndexed index) same all.0), apart xs all.1)

-- ---- places

found_at : {A K : Type 0} (key : A → K) (k : K) (xs : List A) (place : ℕ) → place < length xs → ((d : A) → key (get_or xs place d) ≡ k) → Any (λ (x : A). key x ≡ k) xs
found_at key k [] place within is = absurd (omega (arith, within))
found_at key k (x ∷ xs) place within is =
    let kept = get_or (x ∷ xs) place x in
    (place, kept, within, get_or_default (x ∷ xs) place kept x within, is x)

-- a place tells that an element has the key
pub any-from_place : {A K : Type 0} (key : A → K) (k : K) (xs : List A) (found : Option ℕ)
    → MatchOption found (All (λ (x : A). key x ≢ k) xs) (λ place. (place < length xs) × ((d : A) → key (get_or xs place d) ≡ k))
    → IsTrue (is_some found) ↔ Any (λ (x : A). key x ≡ k) xs
any-from_place key k xs None none = (λ is. absurd (false≢true is), λ any. absurd (none any.0 any.1 any.2 (ap key any.3 ∙ any.4)))
any-from_place key k xs (Some place) found = (λ is. found_at key k xs place found.0 found.1, λ any. refl)
