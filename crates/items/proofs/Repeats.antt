-- The first item whose index stands before it.
use Rattle.std.proofs.Common.{◌≡◌, ℕ, suc, ◌+◌, ◌<◌, List, [], ◌∷◌, ◌++◌, Bool, true, false, cond, not, length, take, drop, get_or, refl, sym, ap, ap₂, ◌∙◌, arith, ◌||◌, take-append-drop, length-take-le, drop-cons}
use Rattle.std.specs.BTreeMap.{is_at}
use Rattle.std.specs.List.{list_any, IsDistinct}
use Rattle.std.specs.Map.{keys_of}
use Rattle.std.specs.Str.{bytes_eq}
use Rattle.std.proofs.lemmas.Cmp.{nat_list_eq_equiv}
use Rattle.std.proofs.lemmas.List.{map-append, take_more}
use Rattle.std.proofs.lemmas.List.Folds.{list_any-append}
use Rattle.std.proofs.lemmas.Map.Keys.{IsDistinct-push}
use Rattle.std.proofs.lemmas.Map.Text.{is_eq-slice_cmp}
use Rattle.prefixtree.specs.Placement.{Items, HasDistinctIndices}
use Rattle.items.specs.Items.{is_among}
use Rattle.items.specs.Listing.{IsFirstRepeat}
use Rattle.encoding.specs.Bytes.{bytes_cmp}

-- a set of indices has those of the items
abbrev pub HasSeen : List (List ℕ) → Items → Type 0
HasSeen seen items = (index : List ℕ) → list_any (is_at (bytes_cmp index)) seen ≡ is_among index items

pub HasSeen-none : HasSeen [] []
HasSeen-none index = refl

or-cond : (a b : Bool) → cond a true b ≡ (b || a)
or-cond true true = refl
or-cond true false = refl
or-cond false true = refl
or-cond false false = refl

is_among-push : (index : List ℕ) (items : Items) (item : List ℕ × List ℕ) → is_among index (items ++ item ∷ []) ≡ (is_among index items || bytes_eq index item.0)
is_among-push index items item =
    ap (list_any (bytes_eq index)) (map-append (λ (e : List ℕ × List ℕ). e.0) items (item ∷ []))
    ∙ list_any-append (bytes_eq index) (keys_of items) (item.0 ∷ [])
    ∙ ap (λ b. is_among index items || b) (or-one (bytes_eq index item.0))
  where
    or-one : (b : Bool) → (b || false) ≡ b
    or-one true = refl
    or-one false = refl

pub HasSeen-more : (old new : List (List ℕ)) (items : Items) (item : List ℕ × List ℕ) → HasSeen old items
    → ((index : List ℕ) → list_any (is_at (bytes_cmp index)) new ≡ cond (is_at (bytes_cmp item.0) index) true (list_any (is_at (bytes_cmp index)) old))
    → HasSeen new (items ++ item ∷ [])
HasSeen-more old new items item seen updates index =
    updates index
    ∙ ap₂ (λ (a b : Bool). cond a true b) (is_eq-slice_cmp item.0 index ∙ nat_list_eq_equiv.symm item.0 index) (seen index)
    ∙ or-cond (bytes_eq index item.0) (is_among index items)
    ∙ sym (is_among-push index items item)

pub distinct_more : (items : Items) (item : List ℕ × List ℕ) → HasDistinctIndices items → is_among item.0 items ≡ false → HasDistinctIndices (items ++ item ∷ [])
distinct_more items item distinct new =
    rw (map-append (λ (e : List ℕ × List ℕ). e.0) items (item ∷ [])) (IsDistinct-push nat_list_eq_equiv (keys_of items) item.0 distinct new)

-- the first k + 1 items
pub take_next : (items : Items) (k : ℕ) (item : List ℕ × List ℕ) → k < length items → item ≡ get_or items k item → take (k + 1) items ≡ take k items ++ item ∷ []
take_next items k item h is = take_more items k item h ∙ ap (λ i. take k items ++ i ∷ []) (sym is)

pub first_repeat_at : (items : Items) (k : ℕ) (item : List ℕ × List ℕ) → k < length items → item ≡ get_or items k item
    → HasDistinctIndices (take k items) → is_among item.0 (take k items) ≡ true → IsFirstRepeat k items
first_repeat_at items k item h is distinct among = (
  take k items,
  item,
  drop (suc k) items,
  sym (take-append-drop k items) ∙ ap (λ l. take k items ++ l) (drop-cons items k item h ∙ ap (λ i. i ∷ drop (suc k) items) (sym is)),
  length-take-le k items (omega arith),
  distinct,
  among,
)

pub distinct_none : HasDistinctIndices []
unfolding IsDistinct
distinct_none = tt

pub was_there : (added there : Bool) → added ≡ not there → added ≡ false → there ≡ true
was_there added true e f = refl
was_there added false e f = cc

pub was_added : (added there : Bool) → added ≡ not there → added ≡ true → there ≡ false
was_added added false e f = refl
was_added added true e f = cc
