-- Maps from bytes, in the order of the bytes: what is put in is found, and nothing else changes.
use Rattle.std.proofs.Common.{◌≡◌, ◌≢◌, ℕ, List, [], ◌∷◌, Some, None, Bool, true, false, cond, refl, sym, ap, inl, inr, ◌⊎◌, ◌∙◌}
use Rattle.std.specs.BTreeMap.{is_at}
use Rattle.std.specs.List.{AllByRecursion}
use Rattle.std.specs.Ordering.{match_ordering, is_eq}
use Rattle.std.specs.declared.cmp.Ordering.{Ordering}
use Rattle.std.specs.declared.cmp.Ordering.TheVariants.{Less, Equal, Greater}
use Rattle.prefixtree.proofs.Order.{same-equal, equal-same, is_at-other}
use Rattle.encoding.specs.Bytes.{bytes_cmp}
use Rattle.encoding.specs.Maps.{Map, at, put_at}

pub same_name : (name : List ℕ) → is_at (bytes_cmp name) name ≡ true
same_name name = ap is_eq (equal-same name name refl)

-- the name of an entry that passes the test, and of one that does not
pub is_name : (name other : List ℕ) → is_at (bytes_cmp name) other ≡ true → other ≡ name
is_name name other is = by (bytes_cmp name other) refl is
  where
    by : (r : Ordering) → bytes_cmp name other ≡ r → is_eq r ≡ true → other ≡ name
    by Less e t = absurd cc
    by Equal e t = sym (same-equal name other e)
    by Greater e t = absurd cc

pub is_no_name : (name other : List ℕ) → is_at (bytes_cmp name) other ≡ false → other ≢ name
is_no_name name other is e = false_true (sym is ∙ ap (λ (x : List ℕ). is_at (bytes_cmp name) x) e ∙ same_name name)
  where
    false_true : false ≡ true → ⊥
    false_true e = absurd cc

module _ {X : Type 0} (name : List ℕ) (x : X) where
  pub at_put_same : (map : Map X) → at (put_at map name x) name ≡ Some x
  at_put_same [] = rw (same_name name) refl
  at_put_same (e ∷ es) = by (bytes_cmp name e.0) refl (at_put_same es)
    where
      by : (r : Ordering) → bytes_cmp name e.0 ≡ r → at (put_at es name x) name ≡ Some x
          → at (match_ordering r ((name, x) ∷ e ∷ es) ((e.0, x) ∷ es) (e ∷ put_at es name x)) name ≡ Some x
      by Less is more = rw (same_name name) refl
      by Equal is more = rw is refl
      by Greater is more = rw is more

  pub at_put_other : (map : Map X) (other : List ℕ) → other ≢ name → at (put_at map name x) other ≡ at map other
  at_put_other [] other differ = rw (is_at-other other name differ) refl
  at_put_other (e ∷ es) other differ = by (bytes_cmp name e.0) refl (at_put_other es other differ)
    where
      by : (r : Ordering) → bytes_cmp name e.0 ≡ r → at (put_at es name x) other ≡ at es other
          → at (match_ordering r ((name, x) ∷ e ∷ es) ((e.0, x) ∷ es) (e ∷ put_at es name x)) other ≡ at (e ∷ es) other
      by Less is more = rw (is_at-other other name differ) refl
      by Equal is more = rw (is_at-other other e.0 (λ same. differ (same ∙ sym (same-equal name e.0 is)))) refl
      by Greater is more = ap (cond (is_at (bytes_cmp other) e.0) (Some e.1)) more

  pub all_put : (P : List ℕ → Type 0) (Q : X → Type 0) (map : Map X) → P name → Q x → AllByRecursion (λ e. P e.0 × Q e.1) map → AllByRecursion (λ e. P e.0 × Q e.1) (put_at map name x)
  all_put P Q [] p q all = ((p, q), tt)
  all_put P Q (e ∷ es) p q all = by (bytes_cmp name e.0) (all_put P Q es p q all.1)
    where
      by : (r : Ordering) → AllByRecursion (λ e. P e.0 × Q e.1) (put_at es name x)
          → AllByRecursion (λ e. P e.0 × Q e.1) (match_ordering r ((name, x) ∷ e ∷ es) ((e.0, x) ∷ es) (e ∷ put_at es name x))
      by Less more = ((p, q), all)
      by Equal more = ((all.0.0, q), all.1)
      by Greater more = (all.0, more)

module _ {X : Type 0} where
  -- what the first entry and the others have to do with what is found
  pub record Misses (name : List ℕ) (e : List ℕ × X) (es : Map X) : Type 0 where
    pub differs : e.0 ≢ name
    pub none : at es name ≡ None

  pub misses : (name : List ℕ) (e : List ℕ × X) (es : Map X) → at (e ∷ es) name ≡ None → Misses name e es
  misses name e es none = by (is_at (bytes_cmp name) e.0) refl none
    where
      by : (t : Bool) → is_at (bytes_cmp name) e.0 ≡ t → cond t (Some e.1) (at es name) ≡ None → Misses name e es
      by true is h = absurd cc
      by false is h = record { differs = is_no_name name e.0 is; none = h }

  pub hits : (name : List ℕ) (x : X) (e : List ℕ × X) (es : Map X) → at (e ∷ es) name ≡ Some x → ((e.0 ≡ name) × (e.1 ≡ x)) ⊎ ((e.0 ≢ name) × (at es name ≡ Some x))
  hits name x e es found = by (is_at (bytes_cmp name) e.0) refl found
    where
      by : (t : Bool) → is_at (bytes_cmp name) e.0 ≡ t → cond t (Some e.1) (at es name) ≡ Some x → ((e.0 ≡ name) × (e.1 ≡ x)) ⊎ ((e.0 ≢ name) × (at es name ≡ Some x))
      by true is h = inl (is_name name e.0 is, cc)
      by false is h = inr (is_no_name name e.0 is, h)

  -- what is found is an entry
  pub found-entry : (P : List ℕ × X → Type 0) (map : Map X) (name : List ℕ) (x : X) → at map name ≡ Some x → AllByRecursion P map → (e : List ℕ × X) × P e × (e.0 ≡ name) × (e.1 ≡ x)
  found-entry P [] name x found all = absurd cc
  found-entry P (e ∷ es) name x found all = elim (hits name x e es found) [
    | inl here ↦ (e, all.0, here.0, here.1)
    | inr later ↦ found-entry P es name x later.1 all.1
  ]
