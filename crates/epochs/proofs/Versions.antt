-- What pages are chosen from names with their versions, and what one more version changes of it.
use Rattle.std.proofs.Common.{◌≡◌, ◌≢◌, ℕ, suc, ◌<◌, ◌≤◌, List, [], ◌∷◌, ◌++◌, Option, Some, None, Bool, true, false, cond, nat_le, nat_eq, if◌then◌else◌, refl, sym, ap, ◌∙◌, subst, arith}
use Rattle.std.specs.BTreeMap.{is_at}
use Rattle.std.specs.List.{AllByRecursion}
use Rattle.std.specs.List.Sorted.{IsStrictlySortedBy}
use Rattle.std.specs.Map.{keys_of}
use Rattle.std.specs.Option.{IsSome, option_and_then, unwrap_or}
use Rattle.std.specs.Ordering.{is_eq, match_ordering}
use Rattle.std.specs.declared.cmp.Ordering.{Ordering}
use Rattle.std.specs.declared.cmp.Ordering.TheVariants.{Less, Equal, Greater}
use Rattle.std.proofs.lemmas.Bool.{eq-eqb, le-leb, leb-true, lt-leb, ne_eqb}
use Rattle.std.proofs.lemmas.Cmp.{nat_list_cmp_total}
use Rattle.std.proofs.lemmas.Map.{lookup-none}
use Rattle.std.proofs.lemmas.Map.Entries.{none_below_head}
use Rattle.prefixtree.proofs.Order.{same-equal}
use Rattle.book.specs.Books.{Binding}
use Rattle.epochs.specs.Histories.{Version, chosen, or_else, binding_at, waiting, with_some}
use Rattle.encoding.specs.Maps.{Map, at, overwritten, put_at}
use Rattle.epochs.specs.Versions.{AllBefore, AllWithin, AreHistories, Ascends, NamesWithin, versions_of, with_version}
use Rattle.book.proofs.Entries.{Ascends as NamesAscend, ascends_put, at_put_other, at_put_same, first_alone, is_name, rest_ascends}
use Rattle.book.proofs.Turning.{all-push}
use Rattle.epochs.proofs.Histories.{Above, chosen-above, chosen-overwritten, put-front, shown-next}
use Rattle.encoding.specs.Bytes.{bytes_cmp}

-- ---- what holds of the entries' values
module _ {V : Type 0} (Q : V → Type 0) where
  pub all-put : (name : List ℕ) (x : V) (map : Map V) → Q x → AllByRecursion (λ e. Q e.1) map → AllByRecursion (λ e. Q e.1) (put_at map name x)
  all-put name x [] q all = (q, tt)
  all-put name x (e ∷ es) q all = by (bytes_cmp name e.0) (all-put name x es q all.1)
    where
      by : (r : Ordering) → AllByRecursion (λ e. Q e.1) (put_at es name x)
          → AllByRecursion (λ e. Q e.1) (match_ordering r ((name, x) ∷ e ∷ es) ((e.0, x) ∷ es) (e ∷ put_at es name x))
      by Less more = (q, all)
      by Equal more = (q, all.1)
      by Greater more = (all.0, more)

  pub all-at : (map : Map V) (name : List ℕ) (none : V) → Q none → AllByRecursion (λ e. Q e.1) map → Q (unwrap_or (at map name) none)
  all-at [] name none q all = q
  all-at (e ∷ es) name none q all = by (is_at (bytes_cmp name) e.0) (all-at es name none q all.1)
    where
      by : (t : Bool) → Q (unwrap_or (at es name) none) → Q (unwrap_or (cond t (Some e.1) (at es name)) none)
      by true more = all.0
      by false more = more

pub ascends-append : (version : Version) (earlier : List Version) → Ascends earlier → AllBefore version.number earlier → Ascends (earlier ++ version ∷ [])
ascends-append version [] up before = (tt, tt)
ascends-append version (v ∷ vs) up before = (all-push _ vs version up.0 before.0, ascends-append version vs up.1 before.1)

-- ---- of one name
none_or : {X : Type 0} (V : Type 0) (f : List V → Option X) (o : Option (List V)) → f [] ≡ None → f (unwrap_or o []) ≡ option_and_then f o
none_or V f None none = none
none_or V f (Some x) none = refl

shown-append : (p : ℕ) (version : Version) (earlier : List Version) → p < version.number → binding_at p (earlier ++ version ∷ []) ≡ binding_at p earlier
shown-append p version [] late = rw (lt-leb version.number p late) refl
shown-append p version (v ∷ vs) late = ap (λ (o : Option Binding). or_else o (if nat_le v.number p then Some v.binding else None)) (shown-append p version vs late)

waiting-append : (p : ℕ) (version : Version) (earlier : List Version) → version.number ≡ p → waiting p (earlier ++ version ∷ []) ≡ Some version.binding
waiting-append p version [] due = rw (eq-eqb version.number p due) refl
waiting-append p version (v ∷ vs) due = ap (λ (o : Option Binding). or_else o (if nat_eq v.number p then Some v.binding else None)) (waiting-append p version vs due)

waiting-past : (n : ℕ) (versions : List Version) → AllWithin n versions → waiting (suc n) versions ≡ None
waiting-past n [] within = refl
waiting-past n (v ∷ vs) within = rw (waiting-past n vs within.1, ne_eqb v.number (suc n) (omega (arith, within.0))) refl

within-append : (n : ℕ) (version : Version) (earlier : List Version) → version.number ≤ n → AllWithin n earlier → AllWithin n (earlier ++ version ∷ [])
within-append n version earlier le within = all-push _ earlier version within le

shown_later : (p : ℕ) (versions : List Version) → IsSome (binding_at p versions) → IsSome (binding_at (suc p) versions)
shown_later p [] some = some
shown_later p (v ∷ vs) some = by (binding_at p vs) refl (shown_later p vs) some
  where
    kept : {X : Type 0} (o p : Option X) → IsSome o → IsSome (or_else o p)
    kept None p some = absurd (cc some)
    kept (Some x) p some = refl

    last : (o : Option Binding) (t : Bool) → nat_le v.number p ≡ t → IsSome (if t then Some v.binding else None) → IsSome (or_else o (if nat_le v.number (suc p) then Some v.binding else None))
    last (Some x) t is some = refl
    last None true is some = rw (le-leb v.number (suc p) (omega (arith, leb-true v.number p is))) refl
    last None false is some = absurd (cc some)

    by : (o : Option Binding) → binding_at p vs ≡ o → (IsSome o → IsSome (binding_at (suc p) vs)) → IsSome (or_else o (if nat_le v.number p then Some v.binding else None))
        → IsSome (or_else (binding_at (suc p) vs) (if nat_le v.number (suc p) then Some v.binding else None))
    by (Some x) is more some = kept (binding_at (suc p) vs) _ (more refl)
    by None is more some = last (binding_at (suc p) vs) (nat_le v.number p) refl some

-- ---- of all names
module _ {V X : Type 0} (f : V → Option X) where
  pub none_below : (name : List ℕ) (e : List ℕ × V) (es : Map V) → NamesAscend (e ∷ es) → bytes_cmp name e.0 ≡ Less → at (e ∷ es) name ≡ None
  none_below name e es up is = lookup-none (is_at (bytes_cmp name)) (e ∷ es) (none_below_head nat_list_cmp_total name e es up is)

  -- what is chosen of names, where what is put in gives what was chosen before
  pub chosen-put_same : (name : List ℕ) (x : V) (map : Map V) → NamesAscend map → f x ≡ option_and_then f (at map name) → chosen f (put_at map name x) ≡ chosen f map
  chosen-put_same name x [] up same = ap (λ (o : Option X). with_some o name []) same
  chosen-put_same name x (e ∷ es) up same = by (bytes_cmp name e.0) refl (chosen-put_same name x es (rest_ascends e es up))
    where
      by : (r : Ordering) → bytes_cmp name e.0 ≡ r → (f x ≡ option_and_then f (at es name) → chosen f (put_at es name x) ≡ chosen f es)
          → chosen f (match_ordering r ((name, x) ∷ e ∷ es) ((e.0, x) ∷ es) (e ∷ put_at es name x)) ≡ chosen f (e ∷ es)
      by Less is more = ap (λ (o : Option X). with_some o name (chosen f (e ∷ es))) (same ∙ ap (option_and_then f) (none_below name e es up is))
      by Equal is more = ap (λ (o : Option X). with_some o e.0 (chosen f es)) (same ∙ ap (λ (r : Ordering). option_and_then f (cond (is_eq r) (Some e.1) (at es name))) is)
      by Greater is more = ap (with_some (f e.1) e.0) (more (same ∙ ap (λ (r : Ordering). option_and_then f (cond (is_eq r) (Some e.1) (at es name))) is))

  -- and where it gives something else
  pub chosen-put_new : (name : List ℕ) (x : V) (y : X) (map : Map V) → NamesAscend map → f x ≡ Some y → chosen f (put_at map name x) ≡ put_at (chosen f map) name y
  unfolding IsStrictlySortedBy
  chosen-put_new name x y [] up new = ap (λ (o : Option X). with_some o name []) new
  chosen-put_new name x y (e ∷ es) up new = by (bytes_cmp name e.0) refl (chosen-put_new name x y es up.1 new)
    where
      over : (o : Option X) → bytes_cmp name e.0 ≡ Equal → with_some (Some y) e.0 (chosen f es) ≡ put_at (with_some o e.0 (chosen f es)) name y
      over None is =
          let same : e.0 ≡ name = sym (same-equal name e.0 is) in
          ap (λ (n : List ℕ). with_some (Some y) n (chosen f es)) same ∙ sym (put-front name y (chosen f es) (subst (λ (n : List ℕ). Above n (chosen f es)) same (chosen-above f e.0 es up.0)))
      over (Some z) is = sym (ap (λ (r : Ordering). match_ordering r ((name, y) ∷ (e.0, z) ∷ chosen f es) ((e.0, y) ∷ chosen f es) ((e.0, z) ∷ put_at (chosen f es) name y)) is)

      past : (o : Option X) → bytes_cmp name e.0 ≡ Greater → with_some o e.0 (put_at (chosen f es) name y) ≡ put_at (with_some o e.0 (chosen f es)) name y
      past None is = refl
      past (Some z) is = sym (ap (λ (r : Ordering). match_ordering r ((name, y) ∷ (e.0, z) ∷ chosen f es) ((e.0, y) ∷ chosen f es) ((e.0, z) ∷ put_at (chosen f es) name y)) is)

      above : bytes_cmp name e.0 ≡ Less → Above name (e ∷ es)
      above is = (is, past_first (keys_of es) up.0)
        where
          past_first : (names : List (List ℕ)) → AllByRecursion (λ other. bytes_cmp e.0 other ≡ Less) names → AllByRecursion (λ other. bytes_cmp name other ≡ Less) names
          past_first [] all = tt
          past_first (n ∷ names) all = (nat_list_cmp_total.trans name e.0 n is all.0, past_first names all.1)

      by : (r : Ordering) → bytes_cmp name e.0 ≡ r → chosen f (put_at es name x) ≡ put_at (chosen f es) name y
          → chosen f (match_ordering r ((name, x) ∷ e ∷ es) ((e.0, x) ∷ es) (e ∷ put_at es name x)) ≡ put_at (chosen f (e ∷ es)) name y
      by Less is more = ap (λ (o : Option X). with_some o name (chosen f (e ∷ es))) new ∙ sym (put-front name y (chosen f (e ∷ es)) (chosen-above f name (e ∷ es) (above is)))
      by Equal is more = ap (λ (o : Option X). with_some o e.0 (chosen f es)) new ∙ over (f e.1) is
      by Greater is more = ap (with_some (f e.1) e.0) more ∙ past (f e.1) is

  pub chosen_ascends : (map : Map V) → NamesAscend map → NamesAscend (chosen f map)
  unfolding IsStrictlySortedBy
  chosen_ascends [] up = tt
  chosen_ascends (e ∷ es) up = by (f e.1) (chosen-above f e.0 es up.0) (chosen_ascends es up.1)
    where
      by : (o : Option X) → Above e.0 (chosen f es) → NamesAscend (chosen f es) → NamesAscend (with_some o e.0 (chosen f es))
      by None above more = more
      by (Some x) above more = (above, more)

  pub at-chosen : (map : Map V) (name : List ℕ) → NamesAscend map → at (chosen f map) name ≡ option_and_then f (at map name)
  at-chosen [] name up = refl
  at-chosen (e ∷ es) name up = by (f e.1) refl (is_at (bytes_cmp name) e.0) refl (at-chosen es name (rest_ascends e es up))
    where
      by : (o : Option X) → f e.1 ≡ o → (t : Bool) → is_at (bytes_cmp name) e.0 ≡ t → at (chosen f es) name ≡ option_and_then f (at es name)
          → at (with_some o e.0 (chosen f es)) name ≡ option_and_then f (cond t (Some e.1) (at es name))
      by None gives true is more = more ∙ ap (option_and_then f) (ap (at es) (sym (is_name name e.0 is)) ∙ first_alone e es up) ∙ sym gives
      by None gives false is more = more
      by (Some x) gives true is more = rw is (sym gives)
      by (Some x) gives false is more = rw is more

  all_none : (map : Map V) → AllByRecursion (λ e. f e.1 ≡ None) map → chosen f map ≡ []
  all_none [] none = refl
  all_none (e ∷ es) none = rw none.0 (all_none es none.1)

chosen_alike : {V X : Type 0} (f g : V → Option X) (map : Map V) → AllByRecursion (λ e. f e.1 ≡ g e.1) map → chosen f map ≡ chosen g map
chosen_alike f g [] same = refl
chosen_alike f g (e ∷ es) same = rw (same.0, chosen_alike f g es same.1) refl

all_so : {X : Type 0} (P Q : X → Type 0) → ((x : X) → P x → Q x) → (xs : List X) → AllByRecursion P xs → AllByRecursion Q xs
all_so P Q so [] all = tt
all_so P Q so (x ∷ xs) all = (so x all.0, all_so P Q so xs all.1)

-- ---- names with their versions
module _ (names : Map (List Version)) (name : List ℕ) (version : Version) where
  pub histories_with : AreHistories names → AllBefore version.number (versions_of names name) → AreHistories (with_version names name version)
  histories_with are before = record {
    names_ascend = ascends_put names name _ are.names_ascend;
    versions_ascend = all-put Ascends name _ names (ascends-append version (versions_of names name) (all-at Ascends names name [] tt are.versions_ascend) before) are.versions_ascend;
  }

  -- an earlier page stays as it was
  pub shown_stays : (p : ℕ) → NamesAscend names → p < version.number → chosen (binding_at p) (with_version names name version) ≡ chosen (binding_at p) names
  shown_stays p up late =
      chosen-put_same (binding_at p) name (versions_of names name ++ version ∷ []) names up
      (shown-append p version (versions_of names name) late ∙ none_or Version (binding_at p) (at names name) refl)

  -- what waits for the page of the version is as it was, and the version
  pub waiting_added : (p : ℕ) → NamesAscend names → version.number ≡ p → chosen (waiting p) (with_version names name version) ≡ put_at (chosen (waiting p) names) name version.binding
  waiting_added p up due = chosen-put_new (waiting p) name (versions_of names name ++ version ∷ []) version.binding names up (waiting-append p version (versions_of names name) due)

  pub within_with : (n : ℕ) → version.number ≤ n → NamesWithin n names → NamesWithin n (with_version names name version)
  within_with n le within =
      all-put (AllWithin n) name (versions_of names name ++ version ∷ []) names
      (within-append n version (versions_of names name) le (all-at (AllWithin n) names name [] tt within)) within

  -- the versions of that name, and of another
  pub versions_of-with : versions_of (with_version names name version) name ≡ versions_of names name ++ version ∷ []
  versions_of-with = ap (λ (o : Option (List Version)). unwrap_or o []) (at_put_same name (versions_of names name ++ version ∷ []) names)

  pub versions_of-other : (other : List ℕ) → other ≢ name → versions_of (with_version names name version) other ≡ versions_of names other
  versions_of-other other differ = ap (λ (o : Option (List Version)). unwrap_or o []) (at_put_other name (versions_of names name ++ version ∷ []) names other differ)

-- a version after all others comes after those of its name
pub before_within : (n m : ℕ) (names : Map (List Version)) (name : List ℕ) → NamesWithin n names → n < m → AllBefore m (versions_of names name)
before_within n m names name within less =
    all_so (λ v. v.number ≤ n) (λ v. v.number < m) (λ v le. omega arith) (versions_of names name) (all-at (AllWithin n) names name [] tt within)

-- no version is above a greater number
pub within_more : (n m : ℕ) (names : Map (List Version)) → NamesWithin n names → n ≤ m → NamesWithin m names
within_more n m names within le =
    all_so (λ e. AllWithin n e.1) (λ e. AllWithin m e.1) (λ e all. all_so (λ v. v.number ≤ n) (λ v. v.number ≤ m) (λ v less. omega arith) e.1 all) names within

-- nothing waits for a page after all versions
pub nothing_waits : (n : ℕ) (names : Map (List Version)) → NamesWithin n names → chosen (waiting (suc n)) names ≡ []
nothing_waits n names within = all_none (waiting (suc n)) names (all_so _ _ (λ e. waiting-past n e.1) names within)

-- the next page is this one, overwritten by what waits
pub next_shows : (p : ℕ) (names : Map (List Version)) → AreHistories names → chosen (binding_at (suc p)) names ≡ overwritten (chosen (binding_at p) names) (chosen (waiting (suc p)) names)
next_shows p names are =
    chosen_alike (binding_at (suc p)) (λ versions. or_else (waiting (suc p) versions) (binding_at p versions)) names (all_so _ _ (λ e. shown-next p e.1) names are.versions_ascend)
    ∙ sym (chosen-overwritten (binding_at p) (waiting (suc p)) names are.names_ascend)

-- a name that a page has, the next one has too
pub names_stay : (p : ℕ) (names : Map (List Version)) (name : List ℕ) → NamesAscend names → IsSome (at (chosen (binding_at p) names) name) → IsSome (at (chosen (binding_at (suc p)) names) name)
names_stay p names name up some =
    rw (at-chosen (binding_at (suc p)) names name up) (by (at names name) (rw (at-chosen (binding_at p) names name up) at some))
  where
    by : (o : Option (List Version)) → IsSome (option_and_then (binding_at p) o) → IsSome (option_and_then (binding_at (suc p)) o)
    by None some = some
    by (Some versions) some = shown_later p versions some
