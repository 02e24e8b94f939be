-- How a placement follows the bindings that it is of: what is put in here is put in there.
use Rattle.std.proofs.Common.{◌≡◌, ◌≢◌, ℕ, List, [], ◌∷◌, map, Bool, true, false, cond, not, ◌&&◌, ◌||◌, Option, Some, None, Contains, refl, sym, ap, subst, inl, inr, ◌⊎◌, ◌∙◌}
use Rattle.std.specs.Prelude.{is_some}
use Rattle.std.specs.BTreeMap.{is_at}
use Rattle.std.specs.List.{AllByRecursion, find}
use Rattle.std.specs.Ordering.{match_ordering, ordering_reverse}
use Rattle.std.specs.Str.{bytes_eq}
use Rattle.std.specs.declared.cmp.Ordering.{Ordering}
use Rattle.std.specs.declared.cmp.Ordering.TheVariants.{Less, Equal, Greater}
use Rattle.std.proofs.lemmas.Cmp.{nat_list_cmp_total}
use Rattle.std.proofs.lemmas.Slice.Eq.{bytes_eq-Decides}
use Rattle.prefixtree.specs.Placement.{Item, Items, commitment_of, put_all}
use Rattle.prefixtree.proofs.Order.{equal-same, greater-less, same-equal}
use Rattle.book.specs.Steps.{has_its_index}
use Rattle.book.specs.Books.{Binding}
use Rattle.encoding.specs.Maps.{Map, at, overwritten, put_at}
use Rattle.book.specs.Shows.{Provider, index_of, placement}
use Rattle.book.proofs.Distinct.{AreApart, HasName, entry-named, put-named}
use Rattle.book.proofs.Entries.{Ascends, ascends_none, ascends_put, at_put_other, at_put_same, first_alone, misses, rest_ascends}
use Rattle.book.proofs.Members.{first-there, later-there}
use Rattle.book.proofs.Placed.{Alone, commitment, item}
use Rattle.encoding.specs.Bytes.{bytes_cmp}

-- ---- two puts, one after the other

-- the other way round
less-greater : (i j : List ℕ) → bytes_cmp j i ≡ Greater → bytes_cmp i j ≡ Less
less-greater i j h = nat_list_cmp_total.antisymm i j ∙ ap ordering_reverse h

module _ {X : Type 0} where
  -- at one name the later stays
  pub put-again : (name : List ℕ) (x y : X) (map : Map X) → put_at (put_at map name x) name y ≡ put_at map name y
  put-again name x y [] = rw (equal-same name name refl) refl
  put-again name x y (e ∷ es) = by (bytes_cmp name e.0) refl (put-again name x y es)
    where
      by : (r : Ordering) → bytes_cmp name e.0 ≡ r → put_at (put_at es name x) name y ≡ put_at es name y
          → put_at (match_ordering r ((name, x) ∷ e ∷ es) ((e.0, x) ∷ es) (e ∷ put_at es name x)) name y ≡ match_ordering r ((name, y) ∷ e ∷ es) ((e.0, y) ∷ es) (e ∷ put_at es name y)
      by Less is more = rw (equal-same name name refl) refl
      by Equal is more = rw is refl
      by Greater is more = rw is (ap (λ (l : Map X). e ∷ l) more)

  -- at two names they change places
  module _ (one other : List ℕ) (differ : one ≢ other) (x y : X) where
    -- what the order of the names makes of the pairs in front of a list
    abbrev Ordered : Map X → Type 0
    Ordered map = put_at ((one, x) ∷ map) other y ≡ put_at ((other, y) ∷ map) one x

    pub put-swap : (map : Map X) → put_at (put_at map one x) other y ≡ put_at (put_at map other y) one x
    put-swap [] = by (bytes_cmp other one) refl
      where
        by : (r : Ordering) → bytes_cmp other one ≡ r → Ordered []
        by Less is = rw (is, greater-less one other is) refl
        by Equal is = absurd (differ (sym (same-equal other one is)))
        by Greater is = rw (is, less-greater one other is) refl
    put-swap (e ∷ es) = by (bytes_cmp one e.0) (bytes_cmp other e.0) refl refl (put-swap es)
      where
        first : (r : Ordering) → bytes_cmp other one ≡ r → bytes_cmp one e.0 ≡ Less → bytes_cmp other e.0 ≡ Less → Ordered (e ∷ es)
        first Less is a b = rw (is, greater-less one other is, a) refl
        first Equal is a b = absurd (differ (sym (same-equal other one is)))
        first Greater is a b = rw (is, less-greater one other is, b) refl

        by : (r s : Ordering) → bytes_cmp one e.0 ≡ r → bytes_cmp other e.0 ≡ s → put_at (put_at es one x) other y ≡ put_at (put_at es other y) one x
            → put_at (match_ordering r ((one, x) ∷ e ∷ es) ((e.0, x) ∷ es) (e ∷ put_at es one x)) other y ≡ put_at (match_ordering s ((other, y) ∷ e ∷ es) ((e.0, y) ∷ es) (e ∷ put_at es other y)) one x
        by Less Less a b more = first (bytes_cmp other one) refl a b
        by Less Equal a b more = rw (ap (λ (n : List ℕ). bytes_cmp n one) (same-equal other e.0 b) ∙ greater-less e.0 one a, b, a) refl
        by Less Greater a b more = rw (greater-less other one (nat_list_cmp_total.trans one e.0 other a (less-greater e.0 other b)), b, a) refl
        by Equal Less a b more = rw (ap (λ (n : List ℕ). bytes_cmp n other) (same-equal one e.0 a) ∙ greater-less e.0 other b, a, b) refl
        by Equal Equal a b more = absurd (differ (same-equal one e.0 a ∙ sym (same-equal other e.0 b)))
        by Equal Greater a b more = rw (a, b) refl
        by Greater Less a b more = rw (greater-less one other (nat_list_cmp_total.trans other e.0 one b (less-greater e.0 one a)), a, b) refl
        by Greater Equal a b more = rw (a, b) refl
        by Greater Greater a b more = rw (a, b) (ap (λ (l : Map X). e ∷ l) more)

-- ---- many puts, of what a map's entries become

module _ {X : Type 0} (index : List ℕ → List ℕ) (made : List ℕ → X → List ℕ) where
  abbrev pub paired : List ℕ × X → Item
  paired entry = (index entry.0, made entry.0 entry.1)

  module _ (name : List ℕ) where
    -- no other name has its index
    abbrev pub Sole : Map X → Type 0
    Sole = AllByRecursion (λ entry. index entry.0 ≡ index name → entry.0 ≡ name)

    -- what is put in before pairs of other indices may be put in after them
    past : (entries : Map X) (items : Items) (text : List ℕ) → Sole entries → at entries name ≡ None
        → put_all (put_at items (index name) text) (map paired entries) ≡ put_at (put_all items (map paired entries)) (index name) text
    past [] items text sole none = refl
    past (e ∷ es) items text sole none =
        let m = misses name e es none in
        ap (λ (l : Items). put_all l (map paired es)) (put-swap (index name) (index e.0) (λ same. m.differs (sole.0 (sym same))) text (made e.0 e.1) items)
        ∙ past es (put_at items (index e.0) (made e.0 e.1)) text sole.1 m.none

    pub all-put : (entries : Map X) (items : Items) (x : X) → Ascends entries → Sole entries
        → put_all items (map paired (put_at entries name x)) ≡ put_at (put_all items (map paired entries)) (index name) (made name x)
    all-put [] items x up sole = refl
    all-put (e ∷ es) items x up sole =
        by (bytes_cmp name e.0) refl (ascends_put (e ∷ es) name x up) (all-put es (put_at items (index e.0) (made e.0 e.1)) x (rest_ascends e es up) sole.1)
      where
        by : (r : Ordering) → bytes_cmp name e.0 ≡ r
            → Ascends (match_ordering r ((name, x) ∷ e ∷ es) ((e.0, x) ∷ es) (e ∷ put_at es name x))
            → put_all (put_at items (index e.0) (made e.0 e.1)) (map paired (put_at es name x)) ≡ put_at (put_all (put_at items (index e.0) (made e.0 e.1)) (map paired es)) (index name) (made name x)
            → put_all items (map paired (match_ordering r ((name, x) ∷ e ∷ es) ((e.0, x) ∷ es) (e ∷ put_at es name x))) ≡ put_at (put_all items (map paired (e ∷ es))) (index name) (made name x)
        by Less is above more = past (e ∷ es) items (made name x) sole (first_alone (name, x) (e ∷ es) above)
        by Equal is above more =
            let same : name ≡ e.0 = same-equal name e.0 is in
            ap (λ (n : List ℕ). put_all (put_at items (index n) (made n x)) (map paired es)) (sym same)
            ∙ ap (λ (l : Items). put_all l (map paired es)) (sym (put-again (index name) (made name e.1) (made name x) items))
            ∙ past es (put_at items (index name) (made name e.1)) (made name x) sole.1 (ap (at es) same ∙ first_alone e es up)
            ∙ ap (λ (n : List ℕ). put_at (put_all (put_at items (index n) (made n e.1)) (map paired es)) (index name) (made name x)) same
        by Greater is above more = more

-- ---- pairs that were put together before

all-itself : (name : List ℕ) (pairs : Items) → Sole (λ index. index) (λ index text. text) name pairs
all-itself name [] = tt
all-itself name (pair ∷ pairs) = ((λ same. same), all-itself name pairs)

map-itself : (pairs : Items) → map (paired (λ index. index) (λ index text. text)) pairs ≡ pairs
map-itself [] = refl
map-itself (pair ∷ pairs) = ap (λ (l : Items). pair ∷ l) (map-itself pairs)

-- one pair more among those that are put in
put_all-put : (items pairs : Items) (index text : List ℕ) → Ascends pairs → put_all items (put_at pairs index text) ≡ put_at (put_all items pairs) index text
put_all-put items pairs index text up =
    ap (put_all items) (sym (map-itself (put_at pairs index text)))
    ∙ all-put (λ index. index) (λ index text. text) index pairs items text up (all-itself index pairs)
    ∙ ap (λ (l : Items). put_at (put_all items l) index text) (map-itself pairs)

pub put_all-joined : (items pairs more : Items) → Ascends pairs → put_all items (put_all pairs more) ≡ put_all (put_all items pairs) more
put_all-joined items pairs [] up = refl
put_all-joined items pairs (pair ∷ more) up =
    put_all-joined items (put_at pairs pair.0 pair.1) more (ascends_put pairs pair.0 pair.1 up)
    ∙ ap (λ (l : Items). put_all l more) (put_all-put items pairs pair.0 pair.1 up)

-- ---- names in maps

module _ {X : Type 0} where
  all-there : (P : List ℕ × X → Type 0) (entries : Map X) → ((entry : List ℕ × X) → Contains entries entry → P entry) → AllByRecursion P entries
  all-there P [] are = tt
  all-there P (e ∷ es) are = (are e (first-there e es), all-there P es (λ entry is. are entry (later-there e es entry is)))

named-first : (e : List ℕ × Binding) (es : Map Binding) → HasName (e ∷ es) e.0
named-first e es = entry-named (e ∷ es) e (first-there e es)

named-later : (e : List ℕ × Binding) (es : Map Binding) (name : List ℕ) → HasName es name → HasName (e ∷ es) name
named-later e es name has = by (is_at (bytes_cmp name) e.0)
  where
    by : (t : Bool) → (binding : Binding) × (cond t (Some e.1) (at es name) ≡ Some binding)
    by true = (e.1, refl)
    by false = has

-- ---- placements

module _ (provider : Provider) where
  pub placement_empty : placement provider [] ≡ []
  placement_empty = refl

  -- a name that is put into bindings, in which no other has its index, is put into their placement
  pub placement_put : (bindings : Map Binding) (name : List ℕ) (binding : Binding) → Ascends bindings → Alone provider name bindings
      → placement provider (put_at bindings name binding) ≡ put_at (placement provider bindings) (index_of provider name) (commitment provider name binding)
  placement_put bindings name binding up alone = all-put (index_of provider) (commitment provider) name bindings [] binding up alone

  -- names of one index are one name, in the bindings and what overwrites them
  abbrev pub AreApartIn : Map Binding → Map Binding → Type 0
  AreApartIn bindings pending = AreApart provider (λ name. HasName bindings name ⊎ HasName pending name)

  pub apart-alone : (bindings : Map Binding) (name : List ℕ) → ((other : List ℕ) → HasName bindings other → index_of provider other ≡ index_of provider name → other ≡ name) → Alone provider name bindings
  apart-alone bindings name free =
      all-there (λ entry. index_of provider entry.0 ≡ index_of provider name → entry.0 ≡ name) bindings (λ entry is same. free entry.0 (entry-named bindings entry is) same)

  -- a name of either map is alone in each
  pub apart-alone_first : (bindings pending : Map Binding) (name : List ℕ) → AreApartIn bindings pending → HasName bindings name ⊎ HasName pending name → Alone provider name bindings
  apart-alone_first bindings pending name apart held = apart-alone bindings name (λ other has same. apart other name (inl has) held same)

  pub apart-alone_second : (bindings pending : Map Binding) (name : List ℕ) → AreApartIn bindings pending → HasName bindings name ⊎ HasName pending name → Alone provider name pending
  apart-alone_second bindings pending name apart held = apart-alone pending name (λ other has same. apart other name (inr has) held same)

  apart-put : (bindings : Map Binding) (e : List ℕ × Binding) (es : Map Binding) → AreApartIn bindings (e ∷ es) → AreApartIn (put_at bindings e.0 e.1) es
  apart-put bindings e es apart one other a b same = apart one other (held one a) (held other b) same
    where
      held : (name : List ℕ) → HasName (put_at bindings e.0 e.1) name ⊎ HasName es name → HasName bindings name ⊎ HasName (e ∷ es) name
      held name (inl now) = elim (put-named bindings e.0 name e.1 now) [
        | inl before ↦ inl before
        | inr same ↦ inr (subst (HasName (e ∷ es)) (sym same) (named-first e es))
      ]
      held name (inr later) = inr (named-later e es name later)

  -- the entries that overwrite are put in, one after the other
  overwritten-each : (bindings pending : Map Binding) → Ascends bindings → AreApartIn bindings pending
      → placement provider (overwritten bindings pending) ≡ put_all (placement provider bindings) (map (item provider) pending)
  overwritten-each bindings [] up apart = refl
  overwritten-each bindings (e ∷ es) up apart =
      overwritten-each (put_at bindings e.0 e.1) es (ascends_put bindings e.0 e.1 up) (apart-put bindings e es apart)
      ∙ ap (λ (l : Items). put_all l (map (item provider) es))
      (placement_put bindings e.0 e.1 up (apart-alone_first bindings (e ∷ es) e.0 apart (inr (named-first e es))))

  -- bindings overwritten by others have the placement of the ones with that of the others put in
  pub placement_overwritten : (bindings pending : Map Binding) → Ascends bindings → AreApartIn bindings pending
      → placement provider (overwritten bindings pending) ≡ put_all (placement provider bindings) (placement provider pending)
  placement_overwritten bindings pending up apart =
      overwritten-each bindings pending up apart
      ∙ sym (put_all-joined (placement provider bindings) [] (map (item provider) pending) (ascends_none (List ℕ)))

  -- ---- an index that is taken

  module _ (name : List ℕ) where
    taken : (bindings : Map Binding) (items : Items) → at bindings name ≡ None
        → (is_some (commitment_of items (index_of provider name)) || has_its_index (index_of provider) name bindings)
        ≡ is_some (commitment_of (put_all items (map (item provider) bindings)) (index_of provider name))
    taken [] items none = or-false (is_some (commitment_of items (index_of provider name)))
      where
        or-false : (t : Bool) → (t || false) ≡ t
        or-false true = refl
        or-false false = refl
    taken (e ∷ es) items none =
        by (bytes_eq e.0 name) (bytes_eq (index_of provider e.0) (index_of provider name)) refl refl (misses name e es none).differs
        ∙ taken es (put_at items (index_of provider e.0) (commitment provider e.0 e.1)) (misses name e es none).none
      where
        more : Bool
        more = has_its_index (index_of provider) name es

        before : Bool
        before = is_some (commitment_of items (index_of provider name))

        now : Bool
        now = is_some (commitment_of (put_at items (index_of provider e.0) (commitment provider e.0 e.1)) (index_of provider name))

        or-true : (t : Bool) → (t || true) ≡ true
        or-true true = refl
        or-true false = refl

        by : (s t : Bool) → bytes_eq e.0 name ≡ s → bytes_eq (index_of provider e.0) (index_of provider name) ≡ t → e.0 ≢ name
            → (before || is_some (cond (not s && t) (Some e) (find (λ entry. not (bytes_eq entry.0 name) && bytes_eq (index_of provider entry.0) (index_of provider name)) es)))
            ≡ (now || more)
        by true t is same differs = absurd (differs ((bytes_eq-Decides e.0 name).0 is))
        by false true is same differs =
            or-true before ∙ ap (λ (found : Option (List ℕ)). is_some found || more)
            (sym (at_put_same (index_of provider e.0) (commitment provider e.0 e.1) items)
            ∙ ap (commitment_of (put_at items (index_of provider e.0) (commitment provider e.0 e.1))) ((bytes_eq-Decides (index_of provider e.0) (index_of provider name)).0 same))
        by false false is other differs =
            ap (λ (found : Option (List ℕ)). is_some found || more)
            (sym (at_put_other (index_of provider e.0) (commitment provider e.0 e.1) items (index_of provider name)
            (λ same. false_true (sym other ∙ (bytes_eq-Decides (index_of provider e.0) (index_of provider name)).1 (sym same)))))
          where
            false_true : false ≡ true → ⊥
            false_true e = absurd cc

    -- a name that is not among the bindings: whether another has its index
    pub index_taken : (bindings : Map Binding) → at bindings name ≡ None
        → has_its_index (index_of provider) name bindings ≡ is_some (commitment_of (placement provider bindings) (index_of provider name))
    index_taken bindings none = taken bindings [] none

    -- where the test finds no other name with its index, there is none
    pub untaken_alone : (bindings : Map Binding) → has_its_index (index_of provider) name bindings ≡ false → Alone provider name bindings
    untaken_alone [] none = tt
    untaken_alone (e ∷ es) none = by (bytes_eq e.0 name) (bytes_eq (index_of provider e.0) (index_of provider name)) refl refl none (untaken_alone es)
      where
        by : (s t : Bool) → bytes_eq e.0 name ≡ s → bytes_eq (index_of provider e.0) (index_of provider name) ≡ t
            → is_some (cond (not s && t) (Some e) (find (λ entry. not (bytes_eq entry.0 name) && bytes_eq (index_of provider entry.0) (index_of provider name)) es)) ≡ false
            → (has_its_index (index_of provider) name es ≡ false → Alone provider name es) → Alone provider name (e ∷ es)
        by true t is same none more = ((λ index. (bytes_eq-Decides e.0 name).0 is), more none)
        by false true is same none more = absurd cc
        by false false is other none more = ((λ index. absurd (false_true (sym other ∙ (bytes_eq-Decides (index_of provider e.0) (index_of provider name)).1 index))), more none)
          where
            false_true : false ≡ true → ⊥
            false_true e = absurd cc
