-- What waits, put over a page, is the next page: of two choices from one map of histories.
use Rattle.std.proofs.Common.{◌≡◌, ℕ, suc, ◌<◌, List, [], ◌∷◌, Option, Some, None, Bool, true, false, nat_le, nat_eq, if◌then◌else◌, refl, sym, ap, ◌∙◌, inl, inr, arith}
use Rattle.std.specs.List.{AllByRecursion}
use Rattle.std.specs.List.Sorted.{IsStrictlySortedBy}
use Rattle.std.specs.Map.{keys_of}
use Rattle.std.specs.Ordering.{match_ordering}
use Rattle.std.specs.declared.cmp.Ordering.{Ordering}
use Rattle.std.specs.declared.cmp.Ordering.TheVariants.{Less}
use Rattle.std.proofs.lemmas.Bool.{cases_lt, eq-eqb, le-leb, leb-true, lt-leb, ne_eqb}
use Rattle.prefixtree.proofs.Order.{equal-same, greater-less}
use Rattle.book.specs.Books.{Binding}
use Rattle.encoding.specs.Maps.{Map, overwritten, put_at}
use Rattle.epochs.specs.Histories.{Version, chosen, or_else, binding_at, waiting, with_some}
use Rattle.epochs.specs.Versions.{Ascends}
use Rattle.encoding.specs.Bytes.{bytes_cmp}

abbrev pub Above : {X : Type 0} → List ℕ → Map X → Type 0
Above name map = AllByRecursion (λ other. bytes_cmp name other ≡ Less) (keys_of map)

pub chosen-above : {V X : Type 0} (f : V → Option X) (name : List ℕ) (hs : Map V) → Above name hs → Above name (chosen f hs)
chosen-above {X = X} f name [] h = tt
chosen-above {X = X} f name (e ∷ es) h = by (f e.1) (chosen-above f name es h.1)
  where
    by : (o : Option X) → Above name (chosen f es) → Above name (with_some o e.0 (chosen f es))
    by None more = more
    by (Some x) more = (h.0, more)

pub put-front : {X : Type 0} (name : List ℕ) (x : X) (map : Map X) → Above name map → put_at map name x ≡ (name, x) ∷ map
put-front name x [] h = refl
put-front name x (e ∷ es) h = ap (λ (o : Ordering). match_ordering o ((name, x) ∷ e ∷ es) ((e.0, x) ∷ es) (e ∷ put_at es name x)) h.0

overwritten-past : {X : Type 0} (name : List ℕ) (x : X) (map more : Map X) → Above name more → overwritten ((name, x) ∷ map) more ≡ (name, x) ∷ overwritten map more
overwritten-past name x map [] h = refl
overwritten-past name x map (e ∷ es) h =
    ap (λ (o : Ordering). overwritten (match_ordering o ((e.0, e.1) ∷ (name, x) ∷ map) ((name, e.1) ∷ map) ((name, x) ∷ put_at map e.0 e.1)) es) (greater-less e.0 name h.0)
    ∙ overwritten-past name x (put_at map e.0 e.1) es h.1

overwritten-front : {X : Type 0} (name : List ℕ) (x : X) (map more : Map X) → Above name map → Above name more → overwritten map ((name, x) ∷ more) ≡ (name, x) ∷ overwritten map more
overwritten-front {X = X} name x map more h k = ap (λ (m : Map X). overwritten m more) (put-front name x map h) ∙ overwritten-past name x map more k

pub chosen-overwritten : {V X : Type 0} (f g : V → Option X) (hs : Map V) → IsStrictlySortedBy bytes_cmp (keys_of hs)
    → overwritten (chosen f hs) (chosen g hs) ≡ chosen (λ v. or_else (g v) (f v)) hs
unfolding IsStrictlySortedBy
chosen-overwritten {X = X} f g [] h = refl
chosen-overwritten {X = X} f g (e ∷ es) h =
    by (f e.1) (g e.1) (chosen-above f e.0 es h.0) (chosen-above g e.0 es h.0) (chosen-overwritten f g es h.1)
  where
    by : (o p : Option X) → Above e.0 (chosen f es) → Above e.0 (chosen g es) → overwritten (chosen f es) (chosen g es) ≡ chosen (λ v. or_else (g v) (f v)) es
        → overwritten (with_some o e.0 (chosen f es)) (with_some p e.0 (chosen g es)) ≡ with_some (or_else p o) e.0 (chosen (λ v. or_else (g v) (f v)) es)
    by None None a b rest = rest
    by (Some x) None a b rest = overwritten-past e.0 x (chosen f es) (chosen g es) b ∙ ap (λ (m : Map X). (e.0, x) ∷ m) rest
    by None (Some y) a b rest = overwritten-front e.0 y (chosen f es) (chosen g es) a b ∙ ap (λ (m : Map X). (e.0, y) ∷ m) rest
    by (Some x) (Some y) a b rest =
        ap (λ (o : Ordering). overwritten (match_ordering o ((e.0, y) ∷ (e.0, x) ∷ chosen f es) ((e.0, y) ∷ chosen f es) ((e.0, x) ∷ put_at (chosen f es) e.0 y)) (chosen g es)) (equal-same e.0 e.0 refl)
        ∙ overwritten-past e.0 y (chosen f es) (chosen g es) b ∙ ap (λ (m : Map X). (e.0, y) ∷ m) rest

-- what a page shows is no older than a version before all
shown-after : (n p : ℕ) (versions : List Version) → AllByRecursion (λ later. n < later.number) versions → (b : Binding) → binding_at p versions ≡ Some b → n < p
shown-after n p [] h b e = absurd cc
shown-after n p (v ∷ vs) h b e = by (λ x is. shown-after n p vs h.1 x is) (binding_at p vs) refl (nat_le v.number p) refl e
  where
    by : ((x : Binding) → binding_at p vs ≡ Some x → n < p) → (o : Option Binding) → binding_at p vs ≡ o → (t : Bool) → nat_le v.number p ≡ t → or_else o (if t then Some v.binding else None) ≡ Some b → n < p
    by later (Some x) is t et e' = later x is
    by later None is true et e' = omega (arith, h.0, leb-true v.number p et)
    by later None is false et e' = absurd cc

-- a page shows what waited for it, else what the page before it shows
pub shown-next : (p : ℕ) (versions : List Version) → Ascends versions → binding_at (suc p) versions ≡ or_else (waiting (suc p) versions) (binding_at p versions)
shown-next p [] h = refl
shown-next p (v ∷ vs) h = by (waiting (suc p) vs) (binding_at p vs) refl (shown-next p vs h.1)
  where
    now : ℕ → Option Binding
    now q = if nat_le v.number q then Some v.binding else None

    due : Option Binding
    due = if nat_eq v.number (suc p) then Some v.binding else None

    alone : or_else due (now p) ≡ now (suc p)
    alone = elim (cases_lt p v.number) [
      | inl later ↦ elim (cases_lt (suc p) v.number) [
        | inl far ↦ rw (ne_eqb v.number (suc p) (omega arith), lt-leb v.number p (omega arith), lt-leb v.number (suc p) (omega arith)) refl
        | inr near ↦ rw (eq-eqb v.number (suc p) (omega arith), le-leb v.number (suc p) (omega arith)) refl
      ]
      | inr before ↦ rw (ne_eqb v.number (suc p) (omega arith), le-leb v.number p (omega arith), le-leb v.number (suc p) (omega arith)) refl
    ]

    by : (w s : Option Binding) → binding_at p vs ≡ s → binding_at (suc p) vs ≡ or_else w (binding_at p vs)
        → or_else (binding_at (suc p) vs) (now (suc p)) ≡ or_else (or_else w due) (or_else (binding_at p vs) (now p))
    by (Some x) s is e = ap (λ (o : Option Binding). or_else o (now (suc p))) e
    by None (Some x) is e =
        let early : v.number < p = shown-after v.number p vs h.0 x is in
        let none : due ≡ None = rw (ne_eqb v.number (suc p) (omega arith)) refl in
        ap (λ (o : Option Binding). or_else o (now (suc p))) (e ∙ is) ∙ (λ i. or_else (sym none i) (or_else (sym is i) (now p)))
    by None None is e = ap (λ (o : Option Binding). or_else o (now (suc p))) (e ∙ is) ∙ sym alone ∙ ap (λ (o : Option Binding). or_else due (or_else o (now p))) (sym is)
