-- What a placement has at the index of a name that no other name has.
use Rattle.std.proofs.Common.{◌≡◌, ℕ, List, [], ◌∷◌, map, Some, None, refl, sym, ap, inl, inr, ◌∙◌}
use Rattle.std.specs.List.{AllByRecursion}
use Rattle.encoding.specs.Bytes.{Is32Bytes}
use Rattle.commit.specs.Commitments.{commitment_bytes}
use Rattle.prefixtree.specs.Placement.{Item, Items, IsPlacement, commitment_of, put, put_all}
use Rattle.prefixtree.proofs.Places.{placement_none, placement_put}
use Rattle.book.specs.Books.{Binding}
use Rattle.encoding.specs.Maps.{Map, at}
use Rattle.book.specs.Shows.{Provider, index_of, placement}
use Rattle.book.proofs.Entries.{at_put_same, all_put, at_put_other, Ascends, first_alone, hits, misses, rest_ascends}

module _ (provider : Provider) where
  abbrev pub commitment : List ℕ → Binding → List ℕ
  commitment name binding = provider.hash (commitment_bytes binding.salt name binding.key)

  abbrev pub item : List ℕ × Binding → Item
  item entry = (index_of provider entry.0, commitment entry.0 entry.1)

  placed : (size : (text : List ℕ) → Is32Bytes (provider.hash text)) (items : Items) (bindings : Map Binding) → IsPlacement items → IsPlacement (put_all items (map item bindings))
  placed size items [] is = is
  placed size items (e ∷ es) is = placed size (put items (item e).0 (item e).1) es (placement_put items (item e).0 (item e).1 (size (provider.value e.0)) is)

  pub is_placement : (size : (text : List ℕ) → Is32Bytes (provider.hash text)) (bindings : Map Binding) → IsPlacement (placement provider bindings)
  is_placement size bindings = placed size [] bindings placement_none

  -- indices and commitments have the size of a hash
  abbrev pub HaveSizes : Items → Type 0
  HaveSizes = AllByRecursion (λ each. Is32Bytes each.0 × Is32Bytes each.1)

  sizes : (size : (text : List ℕ) → Is32Bytes (provider.hash text)) (items : Items) (bindings : Map Binding) → HaveSizes items → HaveSizes (put_all items (map item bindings))
  sizes size items [] are = are
  sizes size items (e ∷ es) are = sizes size (put items (item e).0 (item e).1) es (all_put (item e).0 (item e).1 Is32Bytes Is32Bytes items (size (provider.value e.0)) (size (commitment_bytes e.1.salt e.0 e.1.key)) are)

  pub have_sizes : (size : (text : List ℕ) → Is32Bytes (provider.hash text)) (bindings : Map Binding) → HaveSizes (placement provider bindings)
  have_sizes size bindings = sizes size [] bindings tt

  module _ (name : List ℕ) where
    -- no other name has its index
    abbrev pub Alone : Map Binding → Type 0
    Alone = AllByRecursion (λ entry. index_of provider entry.0 ≡ index_of provider name → entry.0 ≡ name)

    absent : (bindings : Map Binding) (items : Items) → Alone bindings → at bindings name ≡ None → commitment_of (put_all items (map item bindings)) (index_of provider name) ≡ commitment_of items (index_of provider name)
    absent [] items alone none = refl
    absent (e ∷ es) items alone none =
        let m = misses name e es none in
        absent es (put items (item e).0 (item e).1) alone.1 m.none
        ∙ at_put_other (item e).0 (item e).1 items (index_of provider name) (λ same. m.differs (alone.0 (sym same)))

    present : (bindings : Map Binding) (items : Items) (binding : Binding) → Ascends bindings → Alone bindings → at bindings name ≡ Some binding
        → commitment_of (put_all items (map item bindings)) (index_of provider name) ≡ Some (commitment name binding)
    present [] items binding up alone found = absurd cc
    present (e ∷ es) items binding up alone found = elim (hits name binding e es found) [
      | inl here ↦
          absent es (put items (item e).0 (item e).1) alone.1 (ap (at es) (sym here.0) ∙ first_alone e es up)
          ∙ ap (λ (n : List ℕ). commitment_of (put items (item e).0 (item e).1) (index_of provider n)) (sym here.0)
          ∙ at_put_same (item e).0 (item e).1 items
          ∙ ap (λ (n : List ℕ). Some (commitment n e.1)) here.0 ∙ ap (λ (b : Binding). Some (commitment name b)) here.1
      | inr later ↦ present es (put items (item e).0 (item e).1) binding (rest_ascends e es up) alone.1 later.1
    ]

    pub placed_none : (bindings : Map Binding) → Alone bindings → at bindings name ≡ None → commitment_of (placement provider bindings) (index_of provider name) ≡ None
    placed_none bindings alone none = absent bindings [] alone none

    pub placed_some : (bindings : Map Binding) (binding : Binding) → Ascends bindings → Alone bindings → at bindings name ≡ Some binding
        → commitment_of (placement provider bindings) (index_of provider name) ≡ Some (commitment name binding)
    placed_some bindings binding up alone found = present bindings [] binding up alone found
