-- Maps of std behind a hash, at keys of bytes. Their entries stand in any order, so all is shown by what is found at
-- each key.
use Rattle.std.proofs.Common.{◌≡◌, ◌≢◌, ℕ, List, [], ◌∷◌, Option, Some, None, Bool, true, false, refl, sym, ap, ◌∙◌, subst}
use Rattle.std.specs.BTreeMap.{is_at}
use Rattle.std.specs.Cmp.Lexicographic.{pointwise, bytes_decides, nat_list_eq_equiv}
use Rattle.std.specs.HashMap.{HashMap, UpdatesBy}
use Rattle.std.specs.List.{IsDistinct}
use Rattle.std.specs.Map.{KeepsOthers, keys_of, lookup}
use Rattle.std.specs.Option.{option_map}
use Rattle.std.specs.Ordering.{ordering_reverse}
use Rattle.std.specs.Prelude.{is_some, nat_eq}
use Rattle.std.specs.declared.cmp.Ordering.{Ordering}
use Rattle.std.specs.declared.cmp.Ordering.TheVariants.{Less, Equal, Greater}
use Rattle.std.proofs.lemmas.Cmp.{nat_list_cmp_total}
use Rattle.std.proofs.lemmas.Map.{lookup-none}
use Rattle.std.proofs.lemmas.Map.Entries.{none_past_head}
use Rattle.std.proofs.lemmas.Map.Keys.{IsDistinct-tail}
use Rattle.encoding.specs.Bytes.{bytes_cmp}
use Rattle.prefixtree.specs.Placement.{Items, put_all}
use Rattle.prefixtree.proofs.Order.{same-equal}
use Rattle.encoding.specs.Maps.{Map, at, put_at}
use Rattle.book.proofs.Entries.{Ascends, ascends_none, ascends_put, at_put_other, at_put_same, first_alone, is_name, rest_ascends, same_name}
use Rattle.epochs.specs.Histories.{or_else}
use Rattle.epochs.specs.Versions.{at_bytes, in_order}
use Rattle.epochs.proofs.Versions.{none_below}

-- whether a key has these bytes
abbrev pub test : {K : Type 0} → (K → List ℕ) → List ℕ → K → Bool
test bytes name key = pointwise nat_eq name (bytes key)

-- ---- two maps in order with the same at each name are the same
module _ {X : Type 0} where
  first-found : (x : List ℕ × X) (xs : Map X) → at (x ∷ xs) x.0 ≡ Some x.1
  first-found x xs = rw (same_name x.0) refl

  alike : (xs ys : Map X) → Ascends xs → Ascends ys → ((name : List ℕ) → at xs name ≡ at ys name) → xs ≡ ys
  alike [] [] up also same = refl
  alike [] (y ∷ ys) up also same = absurd (cc (same y.0, first-found y ys))
  alike (x ∷ xs) [] up also same = absurd (cc (same x.0, first-found x xs))
  alike (x ∷ xs) (y ∷ ys) up also same = by (bytes_cmp x.0 y.0) refl (alike xs ys (rest_ascends x xs up) (rest_ascends y ys also))
    where
      rest : x.0 ≡ y.0 → (name : List ℕ) (t : Bool) → is_at (bytes_cmp name) x.0 ≡ t → at xs name ≡ at ys name
      rest names name true is =
          let here : x.0 ≡ name = is_name name x.0 is in
          subst (λ (n : List ℕ). at xs n ≡ at ys n) here (first_alone x xs up ∙ sym (subst (λ (n : List ℕ). at ys n ≡ None) (sym names) (first_alone y ys also)))
      rest names name false is =
          let apart : is_at (bytes_cmp name) y.0 ≡ false = subst (λ (n : List ℕ). is_at (bytes_cmp name) n ≡ false) names is in
          rw (is, apart) at (same name)

      by : (r : Ordering) → bytes_cmp x.0 y.0 ≡ r → (((name : List ℕ) → at xs name ≡ at ys name) → xs ≡ ys) → x ∷ xs ≡ y ∷ ys
      by Less is more = absurd (cc (same x.0, first-found x xs, none_below (λ (v : X). Some v) x.0 y ys also is))
      by Equal is more =
          let names : x.0 ≡ y.0 = same-equal x.0 y.0 is in
          let values : Some x.1 ≡ Some y.1 = sym (first-found x xs) ∙ same x.0 ∙ ap (at (y ∷ ys)) names ∙ first-found y ys in
          let values : x.1 ≡ y.1 = cc in
          let rests : xs ≡ ys = more (λ name. rest names name (is_at (bytes_cmp name) x.0) refl) in
          λ i. (names i, values i) ∷ rests i
      by Greater is more = absurd (cc (same y.0, first-found y ys, none_below (λ (v : X). Some v) y.0 x xs up (flipped is)))
        where
          flipped : bytes_cmp x.0 y.0 ≡ Greater → bytes_cmp y.0 x.0 ≡ Less
          flipped is = nat_list_cmp_total.antisymm y.0 x.0 ∙ ap ordering_reverse is

pub put-same : {X : Type 0} (name : List ℕ) (x : X) (map : Map X) → Ascends map → at map name ≡ Some x → put_at map name x ≡ map
put-same name x map up found = alike (put_at map name x) map (ascends_put map name x up) up (λ other. by other (pointwise nat_eq other name) refl)
  where
    by : (other : List ℕ) (t : Bool) → pointwise nat_eq other name ≡ t → at (put_at map name x) other ≡ at map other
    by other true is = subst (λ (n : List ℕ). at (put_at map name x) n ≡ at map n) (sym ((bytes_decides other name).0 is)) (at_put_same name x map ∙ sym found)
    by other false is = at_put_other name x map other (λ same. absurd (cc (is, (bytes_decides other name).1 same)))

-- what was found by a key of these bytes
pub found_at : {K X : Type 0} (bytes : K → List ℕ) (name : List ℕ) (key : K) (es : List (K × X)) (o : Option X) → bytes key ≡ name → lookup (test bytes (bytes key)) es ≡ o → lookup (test bytes name) es ≡ o
found_at bytes name key es o is found = subst (λ (n : List ℕ). lookup (test bytes n) es ≡ o) is found

-- ---- what is at each name
module _ {K X Y : Type 0} (bytes : K → List ℕ) (of : X → Y) where
  pub bytes_ascend : (es : List (K × X)) → Ascends (at_bytes bytes of es)
  unfolding at_bytes
  bytes_ascend [] = ascends_none Y
  bytes_ascend (e ∷ es) = ascends_put (at_bytes bytes of es) (bytes e.0) (of e.1) (bytes_ascend es)

  pub lookup-bytes : (name : List ℕ) (es : List (K × X)) → option_map of (lookup (test bytes name) es) ≡ at (at_bytes bytes of es) name
  unfolding at_bytes
  lookup-bytes name [] = refl
  lookup-bytes name (e ∷ es) = by (pointwise nat_eq name (bytes e.0)) refl (lookup-bytes name es)
    where
      by : (t : Bool) → pointwise nat_eq name (bytes e.0) ≡ t → option_map of (lookup (test bytes name) es) ≡ at (at_bytes bytes of es) name
          → option_map of (lookup (test bytes name) (e ∷ es)) ≡ at (put_at (at_bytes bytes of es) (bytes e.0) (of e.1)) name
      by true is more = rw is (sym (subst (λ (n : List ℕ). at (put_at (at_bytes bytes of es) (bytes e.0) (of e.1)) n ≡ Some (of e.1)) (sym ((bytes_decides name (bytes e.0)).0 is)) (at_put_same (bytes e.0) (of e.1) (at_bytes bytes of es))))
      by false is more = rw is (more ∙ sym (at_put_other (bytes e.0) (of e.1) (at_bytes bytes of es) name (λ same. absurd (cc (is, (bytes_decides name (bytes e.0)).1 same)))))

  -- what has one entry more, or another one at a name
  pub bytes-put : (name : List ℕ) (x : X) (es es_after : List (K × X)) → lookup (test bytes name) es_after ≡ Some x
      → ((other : List ℕ) → other ≢ name → lookup (test bytes other) es_after ≡ lookup (test bytes other) es)
      → at_bytes bytes of es_after ≡ put_at (at_bytes bytes of es) name (of x)
  bytes-put name x es es_after there others =
      alike (at_bytes bytes of es_after) (put_at (at_bytes bytes of es) name (of x)) (bytes_ascend es_after) (ascends_put (at_bytes bytes of es) name (of x) (bytes_ascend es))
      (λ other. by other (pointwise nat_eq other name) refl)
    where
      by : (other : List ℕ) (t : Bool) → pointwise nat_eq other name ≡ t → at (at_bytes bytes of es_after) other ≡ at (put_at (at_bytes bytes of es) name (of x)) other
      by other true is = subst (λ (n : List ℕ). at (at_bytes bytes of es_after) n ≡ at (put_at (at_bytes bytes of es) name (of x)) n) (sym ((bytes_decides other name).0 is))
          (sym (lookup-bytes name es_after) ∙ ap (option_map of) there ∙ sym (at_put_same name (of x) (at_bytes bytes of es)))
      by other false is =
          let differ : other ≢ name = λ same. absurd (cc (is, (bytes_decides other name).1 same)) in
          sym (lookup-bytes other es_after) ∙ ap (option_map of) (others other differ) ∙ lookup-bytes other es ∙ sym (at_put_other name (of x) (at_bytes bytes of es) other differ)

  -- a map in which a value was put at a name
  pub hashed-put : {S : Type 0} (name : List ℕ) (x : X) (map map_after : HashMap K X S)
      → UpdatesBy (λ a b. pointwise nat_eq (bytes a) (bytes b)) (test bytes name) map map_after (Some x) → at_bytes bytes of map_after.entries ≡ put_at (at_bytes bytes of map.entries) name (of x)
  unfolding KeepsOthers
  hashed-put name x map map_after updates = bytes-put name x map.entries map_after.entries updates.1 others
    where
      apart : (other : List ℕ) → other ≢ name → (key : K) (t : Bool) → test bytes other key ≡ t → test bytes name key ≡ true → t ≡ false
      apart other differ key true is here = absurd (differ ((bytes_decides other (bytes key)).0 is ∙ sym ((bytes_decides name (bytes key)).0 here)))
      apart other differ key false is here = refl

      others : (other : List ℕ) → other ≢ name → lookup (test bytes other) map_after.entries ≡ lookup (test bytes other) map.entries
      others other differ = updates.3 (test bytes other) (λ a b. nat_list_eq_equiv.congr other (bytes a) (bytes b)) (λ key here. apart other differ key (test bytes other key) refl here)

  -- the same at a key of these bytes
  pub hashed-put_at : {S : Type 0} (name : List ℕ) (key : K) (x : X) (map map_after : HashMap K X S) → bytes key ≡ name
      → UpdatesBy (λ a b. pointwise nat_eq (bytes a) (bytes b)) (test bytes (bytes key)) map map_after (Some x) → at_bytes bytes of map_after.entries ≡ put_at (at_bytes bytes of map.entries) name (of x)
  hashed-put_at name key x map map_after is updates =
      subst (λ (n : List ℕ). at_bytes bytes of map_after.entries ≡ put_at (at_bytes bytes of map.entries) n (of x)) is (hashed-put (bytes key) x map map_after updates)

-- ---- items at indices

-- whether one is at an index
pub some_in_order : (index : List ℕ) (es : Items) → is_some (lookup (pointwise nat_eq index) es) ≡ is_some (at (in_order es) index)
some_in_order index es = by (lookup (pointwise nat_eq index) es) ∙ ap is_some (lookup-bytes (λ (index : List ℕ). index) (λ (commitment : List ℕ). commitment) index es)
  where
    by : (o : Option (List ℕ)) → is_some o ≡ is_some (option_map (λ commitment. commitment) o)
    by None = refl
    by (Some commitment) = refl

-- a map in which a commitment was put at an index
pub put_in_order : {S : Type 0} (index x commitment : List ℕ) (map map_after : HashMap (List ℕ) (List ℕ) S) (es_after : Items) → x ≡ commitment → es_after ≡ map_after.entries
    → UpdatesBy (pointwise nat_eq) (pointwise nat_eq index) map map_after (Some x) → in_order es_after ≡ put_at (in_order map.entries) index commitment
put_in_order index x commitment map map_after es_after same is updates =
    ap in_order is ∙ hashed-put (λ (index : List ℕ). index) (λ (commitment : List ℕ). commitment) index x map map_after updates ∙ ap (put_at (in_order map.entries) index) same

none-else : {X : Type 0} (o : Option X) → or_else o None ≡ option_map (λ x. x) o
none-else None = refl
none-else (Some x) = refl

at-put_all : (es items : Items) (index : List ℕ) → IsDistinct (pointwise nat_eq) (keys_of es) → at (put_all items es) index ≡ or_else (lookup (pointwise nat_eq index) es) (at items index)
at-put_all [] items index distinct = refl
at-put_all (e ∷ es) items index distinct =
    at-put_all es (put_at items e.0 e.1) index (IsDistinct-tail (pointwise nat_eq) e.0 (keys_of es) distinct) ∙ by (pointwise nat_eq index e.0) refl
  where
    by : (t : Bool) → pointwise nat_eq index e.0 ≡ t
        → or_else (lookup (pointwise nat_eq index) es) (at (put_at items e.0 e.1) index) ≡ or_else (lookup (pointwise nat_eq index) (e ∷ es)) (at items index)
    by true is =
        let none = lookup-none (pointwise nat_eq index) es (none_past_head nat_list_eq_equiv index e es distinct is) in
        let here : at (put_at items e.0 e.1) index ≡ Some e.1 = subst (λ (i : List ℕ). at (put_at items e.0 e.1) i ≡ Some e.1) (sym ((bytes_decides index e.0).0 is)) (at_put_same e.0 e.1 items) in
        rw (is, none, here) refl
    by false is =
        let other : at (put_at items e.0 e.1) index ≡ at items index = at_put_other e.0 e.1 items index (λ same. absurd (cc (is, (bytes_decides index e.0).1 same))) in
        rw (is, other) refl

-- items that were put in in turn
pub in_turn : (es items : Items) → IsDistinct (pointwise nat_eq) (keys_of es) → Ascends items → items ≡ put_all [] es → items ≡ in_order es
in_turn es items distinct up is =
    alike items (in_order es) up (bytes_ascend (λ (index : List ℕ). index) (λ (commitment : List ℕ). commitment) es)
    (λ index. ap (λ (m : Items). at m index) is ∙ at-put_all es [] index distinct ∙ none-else (lookup (pointwise nat_eq index) es) ∙ lookup-bytes (λ (index : List ℕ). index) (λ (commitment : List ℕ). commitment) index es)
