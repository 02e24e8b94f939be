-- What is stored under the next number comes last in the order of the numbers.
use Rattle.std.proofs.Common.{◌≡◌, ℕ, zero, suc, ◌<◌, ◌≤◌, List, [], ◌∷◌, ◌++◌, length, filter, false, cond, nat_eq, eq-eqb, ne_eqb, Some, None, IsSome, refl, sym, ap, subst, ◌∙◌, arith, inl, inr}
use Rattle.std.specs.BTreeMap.{insert_entry, is_at}
use Rattle.std.specs.List.{AllByRecursion}
use Rattle.std.specs.Map.{lookup, remove_entry}
use Rattle.std.specs.Ordering.{is_eq, match_ordering, nat_cmp, ordering_then}
use Rattle.std.specs.declared.cmp.Ordering.{Ordering}
use Rattle.std.specs.declared.cmp.Ordering.TheVariants.{Less, Equal, Greater}
use Rattle.std.proofs.lemmas.Bool.{cases_lt}
use Rattle.std.proofs.lemmas.Cmp.{ranked}
use Rattle.client.specs.Numbered.{AreNumbered, all_numbered, first_numbered, is_numbered}

-- where a comparison that ends with that of two numbers finds no difference
pub one-number : (before : Ordering) (m n : ℕ) → ordering_then before (nat_cmp m n) ≡ Equal → m ≡ n
one-number Less m n same = absurd cc
one-number Equal m n same = ranked m n Equal (sym same)
one-number Greater m n same = absurd cc

module _ {K X : Type 0} (number : K → ℕ) (cmp : K → K → Ordering) (key : K) (value : X) (one : (other : K) → cmp key other ≡ Equal → number key ≡ number other) where
  abbrev Entries : Type 0
  Entries = List (K × X)

  abbrev After : Entries → Type 0
  After entries = AllByRecursion (λ (entry : K × X). number entry.0 < number key) entries

  abbrev more : Entries → Entries
  more entries = insert_entry cmp entries key value

  length-more : (entries : Entries) → After entries → length (more entries) ≡ suc (length entries)
  length-more [] after = refl
  length-more (entry ∷ entries) after = by (cmp key entry.0) refl (length-more entries after.1)
    where
      by : (order : Ordering) → cmp key entry.0 ≡ order → length (more entries) ≡ suc (length entries)
          → length (match_ordering order ((key, value) ∷ entry ∷ entries) ((entry.0, value) ∷ entries) (entry ∷ more entries)) ≡ suc (suc (length entries))
      by Less is next = refl
      by Equal is next = absurd (omega (arith, one entry.0 is, after.0))
      by Greater is next = ap suc next

  -- at another number
  others-stay : (n : ℕ) (entries : Entries) → nat_eq (number key) n ≡ false → After entries → filter (is_numbered number n) (more entries) ≡ filter (is_numbered number n) entries
  others-stay n [] other after = rw other refl
  others-stay n (entry ∷ entries) other after = by (cmp key entry.0) refl (others-stay n entries other after.1)
    where
      by : (order : Ordering) → cmp key entry.0 ≡ order → filter (is_numbered number n) (more entries) ≡ filter (is_numbered number n) entries
          → filter (is_numbered number n) (match_ordering order ((key, value) ∷ entry ∷ entries) ((entry.0, value) ∷ entries) (entry ∷ more entries)) ≡ filter (is_numbered number n) (entry ∷ entries)
      by Less is next = rw other refl
      by Equal is next = absurd (omega (arith, one entry.0 is, after.0))
      by Greater is next = ap (λ (es : Entries). cond (nat_eq (number entry.0) n) (entry ∷ es) es) next

  none-there : (n : ℕ) (entries : Entries) → number key ≡ n → After entries → filter (is_numbered {X = X} number n) entries ≡ []
  none-there n [] own after = refl
  none-there n (entry ∷ entries) own after =
      let not : nat_eq (number entry.0) n ≡ false = ne_eqb (number entry.0) n (λ same. omega (arith, same, own, after.0)) in
      rw not (none-there n entries own after.1)

  -- and at its own
  own-alone : (n : ℕ) (entries : Entries) → number key ≡ n → After entries → filter (is_numbered number n) (more entries) ≡ (key, value) ∷ []
  own-alone n [] own after = rw (eq-eqb (number key) n own) refl
  own-alone n (entry ∷ entries) own after = by (cmp key entry.0) refl (own-alone n entries own after.1)
    where
      by : (order : Ordering) → cmp key entry.0 ≡ order → filter (is_numbered number n) (more entries) ≡ (key, value) ∷ []
          → filter (is_numbered number n) (match_ordering order ((key, value) ∷ entry ∷ entries) ((entry.0, value) ∷ entries) (entry ∷ more entries)) ≡ (key, value) ∷ []
      by Less is next = rw (eq-eqb (number key) n own) (ap (λ (es : Entries). (key, value) ∷ es) (none-there n (entry ∷ entries) own after))
      by Equal is next = absurd (omega (arith, one entry.0 is, after.0))
      by Greater is next =
          let not : nat_eq (number entry.0) n ≡ false = ne_eqb (number entry.0) n (λ same. omega (arith, same, own, after.0)) in
          rw not next

  all-below : (most : ℕ) (entries : Entries) → number key < most → After entries → AllByRecursion (λ (entry : K × X). number entry.0 < most) (more entries)
  all-below most [] below after = (below, tt)
  all-below most (entry ∷ entries) below after = by (cmp key entry.0) refl (all-below most entries below after.1)
    where
      low : (es : Entries) → After es → AllByRecursion (λ (entry : K × X). number entry.0 < most) es
      low [] a = tt
      low (e ∷ es) a = (omega (arith, a.0, below), low es a.1)

      by : (order : Ordering) → cmp key entry.0 ≡ order → AllByRecursion (λ (entry : K × X). number entry.0 < most) (more entries)
          → AllByRecursion (λ (entry : K × X). number entry.0 < most) (match_ordering order ((key, value) ∷ entry ∷ entries) ((entry.0, value) ∷ entries) (entry ∷ more entries))
      by Less is next = (below, low (entry ∷ entries) after)
      by Equal is next = absurd (omega (arith, one entry.0 is, after.0))
      by Greater is next = (omega (arith, after.0, below), next)

  none-at : (entries : Entries) → After entries → lookup (is_at (cmp key)) entries ≡ None
  none-at [] after = refl
  none-at (entry ∷ entries) after = by (cmp key entry.0) refl (none-at entries after.1)
    where
      by : (order : Ordering) → cmp key entry.0 ≡ order → lookup (is_at (cmp key)) entries ≡ None → cond (is_eq (cmp key entry.0)) (Some entry.1) (lookup (is_at (cmp key)) entries) ≡ None
      by Less is next = rw is next
      by Equal is next = absurd (omega (arith, one entry.0 is, after.0))
      by Greater is next = rw is next

  none-taken : (entries : Entries) → After entries → remove_entry (is_at (cmp key)) entries ≡ entries
  none-taken [] after = refl
  none-taken (entry ∷ entries) after = by (cmp key entry.0) refl (none-taken entries after.1)
    where
      by : (order : Ordering) → cmp key entry.0 ≡ order → remove_entry (is_at (cmp key)) entries ≡ entries → cond (is_eq (cmp key entry.0)) entries (entry ∷ remove_entry (is_at (cmp key)) entries) ≡ entry ∷ entries
      by Less is next = rw is (ap (λ (es : Entries). entry ∷ es) next)
      by Equal is next = absurd (omega (arith, one entry.0 is, after.0))
      by Greater is next = rw is (ap (λ (es : Entries). entry ∷ es) next)

  module _ (entries : Entries) (numbered : AreNumbered number entries) (last : number key ≡ length entries) where
    after-all : After entries
    after-all = rw last numbered.below

    pub still-numbered : AreNumbered number (more entries)
    still-numbered = record {
      each = λ n below. elim (cases_lt n (length entries)) [
        | inl low ↦ rw (others-stay n entries (ne_eqb (number key) n (λ same. omega (arith, same, low, last))) after-all) (numbered.each n low)
        | inr high ↦ rw (own-alone n entries (let full = length-more entries after-all in omega (arith, full, below, high, last)) after-all) refl
      ];
      below = all-below (length (more entries)) entries (let full = length-more entries after-all in omega (arith, full, last)) after-all;
    }

    module _ {L : Type 0} (look : K × X → L) where
      first-same : (n : ℕ) → n ≤ length entries → first_numbered number look (more entries) n ≡ first_numbered number look entries n
      first-same zero few = refl
      first-same (suc n) few =
          rw (first-same n (omega (arith, few)), others-stay n entries (ne_eqb (number key) n (λ same. omega (arith, same, few, last))) after-all) refl

      pub comes-last : all_numbered number look (more entries) ≡ all_numbered number look entries ++ look (key, value) ∷ []
      comes-last =
          rw (length-more entries after-all, first-same (length entries) (omega arith), own-alone (length entries) entries last after-all) refl

      pub comes-last-in : (after mid : Entries) → after ≡ mid → mid ≡ more entries → all_numbered number look after ≡ all_numbered number look entries ++ look (key, value) ∷ []
      comes-last-in after mid same is = ap (all_numbered number look) (same ∙ is) ∙ comes-last

    pub numbered-in : (after mid : Entries) → after ≡ mid → mid ≡ more entries → AreNumbered number after
    numbered-in after mid same is = subst (AreNumbered number) (sym (same ∙ is)) still-numbered

    pub numbered-still : (after mid : Entries) → after ≡ mid → mid ≡ entries → AreNumbered number after
    numbered-still after mid same is = subst (AreNumbered number) (sym (same ∙ is)) numbered

    -- so nothing is lost where it is taken out again
    pub taken-out : remove_entry (is_at (cmp key)) entries ≡ entries
    taken-out = none-taken entries after-all

    -- nothing is stored at its place
    pub not-stored : IsSome (lookup (is_at (cmp key)) entries) → ⊥
    not-stored some = let none = none-at entries after-all in let has = rw none at some in absurd cc

pub through : {A : Type 0} (x y z : A) → x ≡ y → y ≡ z → x ≡ z
through x y z one two = one ∙ two
