-- Maps in the order of names: what is put in is found, and nothing else changes.
use Rattle.std.proofs.Common.{◌≡◌, ℕ, List, [], ◌∷◌, Some, None, refl, sym, ap, inl, inr, ◌∙◌}
use Rattle.std.specs.List.{AllByRecursion}
use Rattle.std.specs.List.Sorted.{IsStrictlySortedBy}
use Rattle.std.specs.Map.{keys_of}
use Rattle.std.specs.declared.cmp.Ordering.TheVariants.{Less}
use Rattle.std.proofs.lemmas.Cmp.{nat_list_cmp_total}
pub use Rattle.prefixtree.proofs.Entries.{Misses, all_put, at_put_other, at_put_same, found-entry, hits, is_name, is_no_name, misses, same_name}
use Rattle.prefixtree.proofs.Places.{sorted_put}
use Rattle.encoding.specs.Maps.{Map, at, overwritten, put_at}
use Rattle.encoding.specs.Bytes.{bytes_cmp}

-- names ascend, so that none stands twice
abbrev pub Ascends : {X : Type 0} → Map X → Type 0
Ascends map = IsStrictlySortedBy bytes_cmp (keys_of map)

pub ascends_none : (X : Type 0) → Ascends {X = X} []
unfolding IsStrictlySortedBy
ascends_none X = tt

module _ {X : Type 0} where
  pub ascends_put : (map : Map X) (name : List ℕ) (x : X) → Ascends map → Ascends (put_at map name x)
  ascends_put map name x up = sorted_put bytes_cmp name x nat_list_cmp_total map up

  pub ascends_overwritten : (map entries : Map X) → Ascends map → Ascends (overwritten map entries)
  ascends_overwritten map [] up = up
  ascends_overwritten map (e ∷ es) up = ascends_overwritten (put_at map e.0 e.1) es (ascends_put map e.0 e.1 up)

  -- names above this one are other names
  none_above : (name : List ℕ) (map : Map X) → AllByRecursion (λ other. bytes_cmp name other ≡ Less) (keys_of map) → at map name ≡ None
  none_above name [] above = refl
  none_above name (e ∷ es) above = rw above.0 (none_above name es above.1)

  pub first_alone : (e : List ℕ × X) (es : Map X) → Ascends (e ∷ es) → at es e.0 ≡ None
  unfolding IsStrictlySortedBy
  first_alone e es up = none_above e.0 es up.0

  pub rest_ascends : (e : List ℕ × X) (es : Map X) → Ascends (e ∷ es) → Ascends es
  unfolding IsStrictlySortedBy
  rest_ascends e es up = up.1

  -- what is overwritten by nothing stays, and else is what overwrites it
  pub stays : (entries map : Map X) (name : List ℕ) → at entries name ≡ None → at (overwritten map entries) name ≡ at map name
  stays [] map name none = refl
  stays (e ∷ es) map name none =
      let m = misses name e es none in
      stays es (put_at map e.0 e.1) name m.none ∙ at_put_other e.0 e.1 map name (λ same. m.differs (sym same))

  pub overwrites : (entries map : Map X) (name : List ℕ) (x : X) → Ascends entries → at entries name ≡ Some x → at (overwritten map entries) name ≡ Some x
  overwrites [] map name x up found = absurd cc
  overwrites (e ∷ es) map name x up found = elim (hits name x e es found) [
    | inl here ↦
        stays es (put_at map e.0 e.1) name (ap (at es) (sym here.0) ∙ first_alone e es up)
        ∙ ap (at (put_at map e.0 e.1)) (sym here.0) ∙ at_put_same e.0 e.1 map ∙ ap (λ (y : X). Some y) here.1
    | inr later ↦ overwrites es (put_at map e.0 e.1) name x (rest_ascends e es up) later.1
  ]

  pub all_overwritten : (P : List ℕ → Type 0) (Q : X → Type 0) (entries map : Map X) → AllByRecursion (λ e. P e.0 × Q e.1) entries → AllByRecursion (λ e. P e.0 × Q e.1) map
      → AllByRecursion (λ e. P e.0 × Q e.1) (overwritten map entries)
  all_overwritten P Q [] map all also = also
  all_overwritten P Q (e ∷ es) map all also = all_overwritten P Q es (put_at map e.0 e.1) all.1 (all_put e.0 e.1 P Q map all.0.0 all.0.1 also)
