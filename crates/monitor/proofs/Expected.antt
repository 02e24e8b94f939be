-- What is expected of an epoch: the key of the last of the changes that are promised before it.
use Rattle.std.proofs.Common.{◌≡◌, ℕ, zero, suc, ◌+◌, ◌<◌, ◌≤◌, List, [], ◌∷◌, ◌++◌, length, get_or, Bool, true, false, Bor, Option, Some, None, All, Contains, ◌⊎◌, IsTrue, ◌↔◌, eqb, inl, inr, refl, sym, ap, arith, ◌∙◌}
use Rattle.std.specs.Prelude.{nat_lt, if◌then◌else◌, option_copied, option_map}
use Rattle.std.specs.List.{AllWithin}
use Rattle.std.specs.List.Sorted.{IsPartitionPoint, IsPartitionedBy}
use Rattle.std.specs.Prelude.{AllPairs}
use Rattle.std.proofs.lemmas.Bool.{cases_lt, eq-eqb, eqb-true, le-ltb, lt-ltb, ltb-false, ltb-true}
use Rattle.encoding.specs.declared.bound_key.BoundKey.{BoundKey}
use Rattle.proofs.specs.Watches.{Watch, expected, expected_from}
use Rattle.std.proofs.lemmas.List.Elements.{All-cons, All-contains, All-nil}
use Rattle.monitor.specs.Expecting.{ExpectsAbove, IsExpected}

abbrev pub Changes : Type 0
Changes = List (ℕ × BoundKey)

abbrev pub Below : ℕ → ℕ × BoundKey → Type 0
Below epoch change = change.0 < epoch

abbrev pub NotBelow : ℕ → ℕ × BoundKey → Type 0
NotBelow epoch change = epoch ≤ change.0

-- where no change is promised before the epoch, it is what it is at the start
pub expected-none : (start : Option BoundKey) (changes : Changes) (epoch : ℕ) → All (NotBelow epoch) changes → expected_from start changes epoch ≡ start
expected-none start [] epoch all = refl
expected-none start (change ∷ changes) epoch all = rw (le-ltb change.0 epoch (all 0 change (omega arith))) (expected-none start changes epoch (λ k d p. all (suc k) d (omega (arith, p))))

-- else the key of the last that is
pub expected-last : (start : Option BoundKey) (changes : Changes) (epoch m : ℕ) (d : ℕ × BoundKey) → m < length changes → AllWithin (Below epoch) changes 0 (m + 1) → AllWithin (NotBelow epoch) changes (m + 1) (length changes)
    → expected_from start changes epoch ≡ Some (get_or changes m d).1
expected-last start [] epoch m d within before behind = absurd (omega (arith, within))
expected-last start (change ∷ changes) epoch zero d within before behind = rw (lt-ltb change.0 epoch (before 0 change (omega arith) (omega arith)))
    (expected-none (Some change.1) changes epoch (λ k e p. behind (suc k) e (omega arith) (omega (arith, p))))
expected-last start (change ∷ changes) epoch (suc m) d within before behind =
    expected-last (if nat_lt change.0 epoch then Some change.1 else start) changes epoch m d (omega (arith, within)) (λ k e low p. before (suc k) e (omega arith) (omega (arith, p))) (λ k e low p. behind (suc k) e (omega (arith, low)) (omega (arith, p)))

-- one more change is expected above its epoch
expected-push : (start : Option BoundKey) (changes : Changes) (change : ℕ × BoundKey) (epoch : ℕ)
    → expected_from start (changes ++ change ∷ []) epoch ≡ (if nat_lt change.0 epoch then Some change.1 else expected_from start changes epoch)
expected-push start [] change epoch = refl
expected-push start (first ∷ changes) change epoch = expected-push (if nat_lt first.0 epoch then Some first.1 else start) changes change epoch

pub expects-above : (watch : Watch) (epoch : ℕ) (key : BoundKey) → ExpectsAbove watch epoch key (record watch { changes = watch.changes ++ (epoch, key) ∷ [] })
expects-above watch epoch key = record {
  above = λ at p. expected-push watch.start watch.changes (epoch, key) at ∙ rw (lt-ltb epoch at p) refl;
  below = λ at p. expected-push watch.start watch.changes (epoch, key) at ∙ rw (le-ltb epoch at p) refl;
}

-- changes that ascend are parted at each epoch
pub changes-parted : (changes : Changes) (epoch : ℕ) → AllPairs (λ earlier later. earlier.0 < later.0) changes → IsPartitionedBy (λ (change : ℕ × BoundKey). nat_lt change.0 epoch) changes
changes-parted changes epoch up i j d p q low = elim (cases_lt i j) [
  | inl less ↦ lt-ltb _ _ (omega (arith, up i j d less q, ltb-true _ _ low))
  | inr same ↦ let e : i ≡ j = omega arith in rw e low
]

-- the changes before the place are promised before the epoch, and those behind it are not
abbrev pub Parts : Changes → ℕ → ℕ → Type 0
Parts changes epoch place = IsPartitionPoint (Below epoch) (NotBelow epoch) changes place

pub parts-from : (changes : Changes) (epoch place : ℕ) → IsPartitionPoint (λ (change : ℕ × BoundKey). nat_lt change.0 epoch ≡ true) (λ (change : ℕ × BoundKey). nat_lt change.0 epoch ≡ false) changes place → Parts changes epoch place
parts-from changes epoch place point = (
  λ k d a b. ltb-true (get_or changes k d).0 epoch (point.0 k d a b),
  λ k d a b. ltb-false (get_or changes k d).0 epoch (point.1 k d a b),
)

pub expected-at_none : (start : Option BoundKey) (changes : Changes) (epoch place : ℕ) → Parts changes epoch place → (1 ≤ place → ⊥) → expected_from start changes epoch ≡ start
expected-at_none start changes epoch place parts none = expected-none start changes epoch (λ k d p. parts.1 k d (elim (cases_lt k place) [ inl some ↦ absurd (none (omega (arith, some))) | inr all ↦ all ]) p)

pub expected-at_last : (start : Option BoundKey) (changes : Changes) (epoch place last : ℕ) (change : ℕ × BoundKey) → Parts changes epoch place → place ≤ length changes → place ≡ last + 1 → change ≡ get_or changes last change
    → expected_from start changes epoch ≡ Some change.1
expected-at_last start changes epoch place last change parts within same at =
    expected-last start changes epoch last change (omega (arith, within, same)) (λ k d low p. parts.0 k d low (omega (arith, same, p))) (λ k d low p. parts.1 k d (omega (arith, same, low)) p)
    ∙ ap (λ (c : ℕ × BoundKey). Some c.1) (sym at)

-- all are promised before the epoch where no place is left behind
pub all-before : (changes : Changes) (epoch place : ℕ) (test : Bool) → Parts changes epoch place → place ≤ length changes → test ≡ eqb place (length changes) → IsTrue test ↔ All (Below epoch) changes
all-before changes epoch place test parts within is = (
  λ yes. λ k d p. parts.0 k d (omega arith) (omega (arith, eqb-true place (length changes) (sym is ∙ yes), p)),
  λ all. elim (cases_lt place (length changes)) [
    | inl less ↦ absurd (before-not less all)
    | inr full ↦ is ∙ eq-eqb place (length changes) (omega (arith, within, full))
  ],
)
  where
    before-not : place < length changes → All (Below epoch) changes → ⊥
    before-not less all = let other : ℕ × BoundKey = (0, record { value = []; policy = None }) in omega (arith, parts.1 place other (omega arith) less, all place other less)

-- the key behind a reference is the key
pub mapped-copied : (found : Option (Bor BoundKey)) (key : Option BoundKey) → option_copied found ≡ key → option_map (λ (k : Bor BoundKey). k.now) found ≡ key
mapped-copied None key is = is
mapped-copied (Some found) key is = is

-- ---- the greatest promise epoch below

tail-ascends : (change : ℕ × BoundKey) (changes : Changes) → AllPairs (λ earlier later. earlier.0 < later.0) (change ∷ changes) → AllPairs (λ earlier later. earlier.0 < later.0) changes
tail-ascends change changes up i j d p q = up (suc i) (suc j) d (omega (arith, p)) (omega (arith, q))

head-least : (change other : ℕ × BoundKey) (changes : Changes) → AllPairs (λ earlier later. earlier.0 < later.0) (change ∷ changes) → Contains changes other → change.0 < other.0
head-least change other changes up has = rw has.2 at (up 0 (suc has.0) other (omega arith) (omega (arith, has.1)))

later-there : (change other : ℕ × BoundKey) (changes : Changes) → Contains changes other → Contains (change ∷ changes) other
later-there change other changes has = (suc has.0, omega (arith, has.1), has.2)

first-or-later : (change other : ℕ × BoundKey) (changes : Changes) → Contains (change ∷ changes) other → (change ≡ other) ⊎ Contains changes other
first-or-later change other changes (zero, within, at) = inl at
first-or-later change other changes (suc k, within, at) = inr (k, omega (arith, within), at)

greatest-from : (start : Option BoundKey) (changes : Changes) (epoch : ℕ) → AllPairs (λ earlier later. earlier.0 < later.0) changes
    → IsExpected (record { start = start; changes = changes }) epoch (expected_from start changes epoch)
greatest-from start [] epoch up = inr (All-nil (NotBelow epoch), refl)
greatest-from start (change ∷ changes) epoch up = by (λ begin. greatest-from begin changes epoch (tail-ascends change changes up)) (cases_lt change.0 epoch)
  where
    by : ((begin : Option BoundKey) → IsExpected (record { start = begin; changes = changes }) epoch (expected_from begin changes epoch)) → (change.0 < epoch) ⊎ (epoch ≤ change.0) → IsExpected (record { start = start; changes = change ∷ changes }) epoch (expected_from start (change ∷ changes) epoch)
    by rest (inl below) = rw (lt-ltb change.0 epoch below) (elim (rest (Some change.1)) [
      | inl last ↦ inl (
        last.0,
        later-there change last.0 changes last.1,
        last.2,
        (λ other has low. elim (first-or-later change other changes has) [
          | inl same ↦ rw (← same) (omega (arith, head-least change last.0 changes up last.1))
          | inr later ↦ last.3 other later low
        ]),
        last.4,
      )
      | inr none ↦ inl (
        change,
        (0, omega arith, refl),
        below,
        (λ other has low. elim (first-or-later change other changes has) [
          | inl same ↦ rw same (omega arith)
          | inr later ↦ absurd (omega (arith, low, All-contains (NotBelow epoch) changes other none.0 later))
        ]),
        none.1,
      )
    ])
    by rest (inr behind) = rw (le-ltb change.0 epoch behind) (elim (rest start) [
      | inl last ↦ absurd (omega (arith, behind, last.2, head-least change last.0 changes up last.1))
      | inr none ↦ inr (All-cons (NotBelow epoch) change changes behind none.0, none.1)
    ])

pub expected-greatest : (watch : Watch) (epoch : ℕ) → AllPairs (λ earlier later. earlier.0 < later.0) watch.changes → IsExpected watch epoch (expected watch epoch)
expected-greatest watch epoch up = greatest-from watch.start watch.changes epoch up
