-- The entries for one name and epoch, in a map by places.
use Rattle.std.proofs.Common.{◌≡◌, ◌⊎◌, inl, inr, ℕ, ◌<◌, ◌≤◌, ◌&&◌, not, List, [], ◌∷◌, ◌++◌, append_assoc, filter, Bool, true, false, cond, refl, sym, ap, subst, ◌∙◌, arith}
use Rattle.std.specs.List.{AllByRecursion}
use Rattle.std.specs.List.Sorted.{IsStrictlySortedBy}
use Rattle.std.specs.BTreeMap.Range.{entries_between}
use Rattle.std.specs.Map.{keys_of}
use Rattle.std.specs.Cmp.Lexicographic.{slice_cmp}
use Rattle.std.specs.Ordering.{nat_cmp, ordering_then, ordering_reverse, is_le}
use Rattle.std.specs.declared.cmp.Ordering.{Ordering}
use Rattle.std.specs.declared.cmp.Ordering.TheVariants.{Less, Equal, Greater}
use Rattle.std.proofs.lemmas.Cmp.{nat_list_cmp_total, nat_cmp_total, ranked}
use Rattle.std.proofs.lemmas.Map.Lookups.{exact_bytes}
use Rattle.std.specs.declared.ops.Bound.TheVariants.{Included, Excluded, Unbounded}
use Rattle.client.specs.Agreements.{AreBeside}
use Rattle.client.specs.declared.looks.Asked.{Asked}
use Rattle.client.specs.declared.looks.LookPlace.{LookPlace}
use Rattle.client.proofs.Keeping.{one-more}
use Rattle.client.proofs.Numbering.{one-number}

abbrev pub cmp_asked : Asked → Asked → Ordering
cmp_asked a b = ordering_then (nat_cmp a.epoch b.epoch) (slice_cmp nat_cmp a.name.items b.name.items)

abbrev pub cmp_place : LookPlace → LookPlace → Ordering
cmp_place a b = ordering_then (cmp_asked a.asked b.asked) (nat_cmp a.number b.number)

own_reverse : (o : Ordering) → o ≡ ordering_reverse o → o ≡ Equal
own_reverse Less same = absurd cc
own_reverse Equal same = refl
own_reverse Greater same = absurd cc

equal-names : (name : List ℕ) → slice_cmp nat_cmp name name ≡ Equal
equal-names name = own_reverse _ (nat_list_cmp_total.antisymm name name)

equal-numbers : (n : ℕ) → nat_cmp n n ≡ Equal
equal-numbers n = own_reverse _ (nat_cmp_total.antisymm n n)

equal-before : (a b : Ordering) → ordering_then a b ≡ Equal → a ≡ Equal
equal-before Less b same = absurd cc
equal-before Equal b same = refl
equal-before Greater b same = absurd cc

equal-behind : (a b : Ordering) → ordering_then a b ≡ Equal → b ≡ Equal
equal-behind Less b same = absurd cc
equal-behind Equal b same = same
equal-behind Greater b same = absurd cc

pub same-equal : (a b : LookPlace) → AreBeside a b → cmp_asked a.asked b.asked ≡ Equal
same-equal a b same = rw (same.0, same.1, equal-numbers a.asked.epoch) (equal-names a.asked.name.items)

pub equal-same : (a b : LookPlace) → cmp_asked a.asked b.asked ≡ Equal → AreBeside a b
equal-same a b same = (
  sym (exact_bytes a.asked.name.items b.asked.name.items (equal-behind _ _ same)),
  sym (one-number Equal a.asked.epoch b.asked.epoch (equal-before _ _ same)),
)

then-reverse : (x y : Ordering) → ordering_then (ordering_reverse x) (ordering_reverse y) ≡ ordering_reverse (ordering_then x y)
then-reverse Less y = refl
then-reverse Equal y = refl
then-reverse Greater y = refl

asked-reverse : (a b : Asked) → cmp_asked a b ≡ ordering_reverse (cmp_asked b a)
asked-reverse a b =
    ap (λ (o : Ordering). ordering_then o (slice_cmp nat_cmp a.name.items b.name.items)) (nat_cmp_total.antisymm a.epoch b.epoch)
    ∙ ap (λ (o : Ordering). ordering_then (ordering_reverse (nat_cmp b.epoch a.epoch)) o) (nat_list_cmp_total.antisymm a.name.items b.name.items)
    ∙ then-reverse (nat_cmp b.epoch a.epoch) (slice_cmp nat_cmp b.name.items a.name.items)

-- whether a place lies below another, as it compares to it, and whether it lies from it on
abbrev pub is_below : Ordering → Bool
is_below o = not (is_le o)

abbrev pub is_from : Ordering → Bool
is_from o = is_le o && true

pub beside-below : (place other : LookPlace) → AreBeside place other → other.number < place.number → is_below (cmp_place place other) ≡ true
beside-below place other beside low = rw (same-equal place other beside) (by (nat_cmp place.number other.number) refl)
  where
    by : (o : Ordering) → o ≡ nat_cmp place.number other.number → is_below o ≡ true
    by Less is = absurd (omega (arith, low, ranked place.number other.number Less is))
    by Equal is = absurd (omega (arith, low, ranked place.number other.number Equal is))
    by Greater is = refl

pub beside-from : (place other : LookPlace) → AreBeside place other → place.number ≤ other.number → is_from (cmp_place place other) ≡ true
beside-from place other beside high = rw (same-equal place other beside) (by (nat_cmp place.number other.number) refl)
  where
    by : (o : Ordering) → o ≡ nat_cmp place.number other.number → is_from o ≡ true
    by Less is = refl
    by Equal is = refl
    by Greater is = absurd (omega (arith, high, ranked place.number other.number Greater is))

pub below-number : (place other : LookPlace) → AreBeside place other → is_below (cmp_place place other) ≡ true → other.number < place.number
below-number place other beside is = by (nat_cmp place.number other.number) refl (subst (λ (o : Ordering). is_below (ordering_then o (nat_cmp place.number other.number)) ≡ true) (same-equal place other beside) is)
  where
    by : (o : Ordering) → o ≡ nat_cmp place.number other.number → is_below o ≡ true → other.number < place.number
    by Less same below = absurd cc
    by Equal same below = absurd cc
    by Greater same below = ranked place.number other.number Greater same

-- a place beside another compares to a third as that one does
compares-alike : (place other x : LookPlace) → AreBeside place other → cmp_asked other.asked x.asked ≡ cmp_asked place.asked x.asked
compares-alike place other x beside = rw (beside.0, beside.1) refl

-- ---- elements

abbrev pub IsIn : {E : Type 0} → List E → E → Type 0
IsIn [] e = ⊥
IsIn (x ∷ xs) e = (x ≡ e) ⊎ IsIn xs e

module _ {E : Type 0} where
  pub of-each : (P : E → Type 0) (xs : List E) (e : E) → AllByRecursion P xs → IsIn xs e → P e
  of-each P [] e all is = absurd is
  of-each P (x ∷ xs) e all (inl same) = subst P same all.0
  of-each P (x ∷ xs) e all (inr is) = of-each P xs e all.1 is

  pub each-of : (P : E → Type 0) (xs : List E) → ((e : E) → IsIn xs e → P e) → AllByRecursion P xs
  each-of P [] every = tt
  each-of P (x ∷ xs) every = (every x (inl refl), each-of P xs (λ e is. every e (inr is)))

  pub in-filter : (p : E → Bool) (xs : List E) (e : E) → IsIn xs e → p e ≡ true → IsIn (filter p xs) e
  in-filter p [] e is passes = absurd is
  in-filter p (x ∷ xs) e (inl same) passes = rw same (rw passes (inl refl))
  in-filter p (x ∷ xs) e (inr is) passes = by (p x) (in-filter p xs e is passes)
    where
      by : (b : Bool) → IsIn (filter p xs) e → IsIn (cond b (x ∷ filter p xs) (filter p xs)) e
      by true is = inr is
      by false is = is

  pub from-filter : (p : E → Bool) (xs : List E) (e : E) → IsIn (filter p xs) e → IsIn xs e × (p e ≡ true)
  from-filter p [] e is = absurd is
  from-filter p (x ∷ xs) e is = by (p x) refl is (λ more. from-filter p xs e more)
    where
      by : (b : Bool) → p x ≡ b → IsIn (cond b (x ∷ filter p xs) (filter p xs)) e → (IsIn (filter p xs) e → IsIn xs e × (p e ≡ true)) → IsIn (x ∷ xs) e × (p e ≡ true)
      by true passes (inl same) next = (inl same, subst (λ (y : E). p y ≡ true) same passes)
      by true passes (inr is) next = (inr (next is).0, (next is).1)
      by false fails is next = (inr (next is).0, (next is).1)

  pub in-parts : (xs ys : List E) (e : E) → IsIn (xs ++ ys) e → IsIn xs e ⊎ IsIn ys e
  in-parts [] ys e is = inr is
  in-parts (x ∷ xs) ys e (inl same) = inl (inl same)
  in-parts (x ∷ xs) ys e (inr is) = elim (in-parts xs ys e is) [ inl a ↦ inl (inr a) | inr b ↦ inr b ]

  pub in-second : (xs ys : List E) (e : E) → IsIn ys e → IsIn (xs ++ ys) e
  in-second [] ys e is = is
  in-second (x ∷ xs) ys e is = inr (in-second xs ys e is)

-- ---- entries in order

abbrev pub Entries : Type 0 → Type 0
Entries X = List (LookPlace × X)

module _ {X : Type 0} where
  -- each place comes before those after it
  abbrev pub AreSorted : Entries X → Type 0
  AreSorted [] = Unit {0}
  AreSorted (e ∷ es) = AllByRecursion (λ (other : LookPlace × X). cmp_place e.0 other.0 ≡ Less) es × AreSorted es

  keys-less : (e : LookPlace × X) (es : Entries X) → AllByRecursion (λ k. cmp_place e.0 k ≡ Less) (keys_of es) → AllByRecursion (λ (other : LookPlace × X). cmp_place e.0 other.0 ≡ Less) es
  keys-less e [] all = tt
  keys-less e (x ∷ es) all = (all.0, keys-less e es all.1)

  pub sorted : (es : Entries X) → IsStrictlySortedBy cmp_place (keys_of es) → AreSorted es
  unfolding IsStrictlySortedBy
  sorted [] is = tt
  sorted (e ∷ es) is = (keys-less e es is.0, sorted es is.1)

  filter-all : (P : LookPlace × X → Type 0) (p : LookPlace × X → Bool) (es : Entries X) → AllByRecursion P es → AllByRecursion P (filter p es)
  filter-all P p es all = each-of P (filter p es) (λ e is. of-each P es e all (from-filter p es e is).0)

  pub filter-sorted : (p : LookPlace × X → Bool) (es : Entries X) → AreSorted es → AreSorted (filter p es)
  filter-sorted p [] is = tt
  filter-sorted p (e ∷ es) is = by (p e) (filter-all _ p es is.0) (filter-sorted p es is.1)
    where
      by : (b : Bool) → AllByRecursion (λ (other : LookPlace × X). cmp_place e.0 other.0 ≡ Less) (filter p es) → AreSorted (filter p es) → AreSorted (cond b (e ∷ filter p es) (filter p es))
      by true less more = (less, more)
      by false less more = more

  pub sorted-end : (done rest : Entries X) → AreSorted (done ++ rest) → AreSorted rest
  sorted-end [] rest is = is
  sorted-end (e ∷ done) rest is = sorted-end done rest is.1

  pub before-last : (x : LookPlace × X) (more : Entries X) (e : LookPlace × X) → AreSorted (more ++ x ∷ []) → IsIn more e → cmp_place e.0 x.0 ≡ Less
  before-last x [] e is earlier = absurd earlier
  before-last x (y ∷ more) e is (inl same) = subst (λ (z : LookPlace × X). cmp_place z.0 x.0 ≡ Less) same (of-each _ (more ++ x ∷ []) x is.0 (in-second more (x ∷ []) x (inl refl)))
  before-last x (y ∷ more) e is (inr earlier) = before-last x more e is.1 earlier

  front-all : (P : LookPlace × X → Type 0) (done rest : Entries X) → AllByRecursion P (done ++ rest) → AllByRecursion P done
  front-all P [] rest all = tt
  front-all P (e ∷ done) rest all = (all.0, front-all P done rest all.1)

  pub sorted-front : (done rest : Entries X) → AreSorted (done ++ rest) → AreSorted done
  sorted-front [] rest is = tt
  sorted-front (e ∷ done) rest is = (front-all _ done rest is.0, sorted-front done rest is.1)

  -- of one name and epoch, what comes later has a greater number
  pub later-number : (place : LookPlace) (x e : LookPlace × X) (rest : Entries X) → AreSorted (x ∷ rest) → IsIn rest e → AreBeside place x.0 → AreBeside place e.0 → x.0.number < e.0.number
  later-number place x e rest is later one other =
      let same : cmp_asked x.0.asked e.0.asked ≡ Equal = same-equal x.0 e.0 (other.0 ∙ sym one.0, other.1 ∙ sym one.1) in
      let less : cmp_place x.0 e.0 ≡ Less = of-each _ rest e is.0 later in
      let numbers : nat_cmp x.0.number e.0.number ≡ Less = ap (λ (o : Ordering). ordering_then o (nat_cmp x.0.number e.0.number)) (sym same) ∙ less in
      ranked x.0.number e.0.number Less (sym numbers)

module _ {X : Type 0} (place : LookPlace) where
  -- the entries that lie below a place, and those from it on
  abbrev pub below_of : Entries X → Entries X
  below_of es = entries_between cmp_place Unbounded (Excluded place) es

  abbrev pub from_of : Entries X → Entries X
  from_of es = entries_between cmp_place (Included place) Unbounded es

  -- where one that lies from a place on is not beside it, none after it is
  pub none-above : (x : LookPlace × X) (more : Entries X) → AreSorted (x ∷ more) → is_from (cmp_place place x.0) ≡ true → ¬ AreBeside place x.0
      → (e : LookPlace × X) → IsIn (x ∷ more) e → ¬ AreBeside place e.0
  none-above x more is from apart e (inl same) beside = apart (subst (λ (y : LookPlace × X). AreBeside place y.0) (sym same) beside)
  none-above x more is from apart e (inr later) beside =
      by (cmp_asked place.asked x.0.asked) refl from (ap (λ (o : Ordering). ordering_then o (nat_cmp x.0.number e.0.number)) (sym alike) ∙ of-each _ more e is.0 later)
    where
      alike : cmp_asked x.0.asked e.0.asked ≡ ordering_reverse (cmp_asked place.asked x.0.asked)
      alike = asked-reverse x.0.asked e.0.asked ∙ ap ordering_reverse (compares-alike place e.0 x.0 beside)

      by : (o : Ordering) → cmp_asked place.asked x.0.asked ≡ o → is_from (ordering_then o (nat_cmp place.number x.0.number)) ≡ true
          → ordering_then (ordering_reverse o) (nat_cmp x.0.number e.0.number) ≡ Less → ⊥
      by Less o f less = absurd cc
      by Equal o f less = apart (equal-same place x.0 o)
      by Greater o f less = absurd cc

  -- where one that lies below a place is not beside it, none before it is
  pub none-below : (x : LookPlace × X) (more : Entries X) → AreSorted (more ++ x ∷ []) → is_below (cmp_place place x.0) ≡ true → ¬ AreBeside place x.0
      → (e : LookPlace × X) → IsIn more e → ¬ AreBeside place e.0
  none-below x more is below apart e earlier beside =
      by (cmp_asked place.asked x.0.asked) refl below (ap (λ (o : Ordering). ordering_then o (nat_cmp e.0.number x.0.number)) (sym (compares-alike place e.0 x.0 beside)) ∙ before-last x more e is earlier)
    where
      by : (o : Ordering) → cmp_asked place.asked x.0.asked ≡ o → is_below (ordering_then o (nat_cmp place.number x.0.number)) ≡ true
          → ordering_then o (nat_cmp e.0.number x.0.number) ≡ Less → ⊥
      by Less o b less = absurd cc
      by Equal o b less = apart (equal-same place x.0 o)
      by Greater o b less = absurd cc

-- those that were gone through are such
pub record AreGone {X : Type 0} (States : LookPlace × X → Type 0) (group rest : Entries X) : Type 0 where
  pub done : Entries X
  pub parts : done ++ rest ≡ group
  pub each : AllByRecursion States done

pub none-gone : {X : Type 0} (States : LookPlace × X → Type 0) (group rest : Entries X) → rest ≡ group → AreGone States group rest
none-gone States group rest same = record { done = []; parts = same; each = tt }

pub more-gone : {X : Type 0} (States : LookPlace × X → Type 0) (group rest : Entries X) (x : LookPlace × X) (more : Entries X) → AreGone States group rest → rest ≡ x ∷ more → States x → AreGone States group more
more-gone States group rest x more gone is states = record {
  done = gone.done ++ x ∷ [];
  parts = append_assoc gone.done (x ∷ []) more ∙ ap (λ (es : List _). gone.done ++ es) (sym is) ∙ gone.parts;
  each = one-more States gone.done x gone.each states;
}
