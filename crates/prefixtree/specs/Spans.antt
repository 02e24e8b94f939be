-- The places of one level below which more than one item stands, and what their hashes are computed from.
use Rattle.std.specs.Prelude.{◌≡◌, ℕ, zero, suc, ◌+◌, ◌-◌, ◌<◌, ◌≤◌, List, [], ◌∷◌, ◌++◌, length, map, take, drop, slice_index_or}
use Rattle.std.specs.List.{AllByRecursion}
use Rattle.encoding.specs.Bits.{with_one}
use Rattle.nodehash.specs.NodeTexts.{empty_bytes, leaf_bytes, interior_bytes}
use Rattle.prefixtree.specs.Placement.{Items}
use Rattle.prefixtree.specs.Node.{half, node, node_count}
use Rattle.prefixtree.specs.Under.{IsUnder}
use Rattle.prefixtree.specs.declared.spans.Span.{Span}

-- a place: its prefix, and the items below it
abbrev pub Site : Type 0
Site = List ℕ × Items

-- so many items of all, from a place on
abbrev pub part : Items → ℕ → ℕ → Items
part all start count = take count (drop start all)

-- the place of a span, and those of its two sides
abbrev pub site_of : Items → Span → Site
site_of all span = (span.prefix, part all span.start (span.zeros + span.ones))

abbrev pub sides_of : ℕ → Items → List Span → List Site
sides_of level all [] = []
sides_of level all (span ∷ spans) =
    (span.prefix, part all span.start span.zeros) ∷ (with_one span.prefix level, part all (span.start + span.zeros) span.ones) ∷ sides_of level all spans

-- a span of this level: more than one item of all, those of bit 0 before those of bit 1
pub record IsSpan (level : ℕ) (all : Items) (span : Span) : Type 0 where
  pub within : span.start + span.zeros + span.ones ≤ length all
  pub many : 1 < span.zeros + span.ones
  pub under : IsUnder span.prefix level (part all span.start (span.zeros + span.ones))
  pub zero_side : part all span.start span.zeros ≡ half 0 level (part all span.start (span.zeros + span.ones))
  pub one_side : part all (span.start + span.zeros) span.ones ≡ half 1 level (part all span.start (span.zeros + span.ones))

abbrev pub AreSpans : ℕ → Items → List Span → Type 0
AreSpans level all spans = AllByRecursion (IsSpan level all) spans

-- the text that is hashed at a place with at most one item; and the place where there are more
abbrev pub few_text : List ℕ → ℕ → List ℕ → Items → List (List ℕ)
few_text nonce level prefix [] = empty_bytes nonce prefix level ∷ []
few_text nonce level prefix (item ∷ []) = leaf_bytes nonce item.0 level item.1 ∷ []
few_text nonce level prefix (first ∷ second ∷ more) = []

abbrev pub many_site : List ℕ → Items → List Site
many_site prefix [] = []
many_site prefix (item ∷ []) = []
many_site prefix (first ∷ second ∷ more) = (prefix, first ∷ second ∷ more) ∷ []

-- those of some places, in order
abbrev pub few_texts : List ℕ → ℕ → List Site → List (List ℕ)
few_texts nonce level [] = []
few_texts nonce level (site ∷ sites) = few_text nonce level site.0 site.1 ++ few_texts nonce level sites

abbrev pub many_sites : List Site → List Site
many_sites [] = []
many_sites (site ∷ sites) = many_site site.0 site.1 ++ many_sites sites

-- how many items each side of some spans has
abbrev pub counts_of : List Span → List ℕ
counts_of [] = []
counts_of (span ∷ spans) = span.zeros ∷ span.ones ∷ counts_of spans

-- whether a place with so many items is one with at most one, as a number, or one with more
abbrev pub few_of : ℕ → ℕ
few_of zero = 1
few_of (suc zero) = 1
few_of (suc (suc n)) = 0

abbrev pub many_of : ℕ → ℕ
many_of zero = 0
many_of (suc zero) = 0
many_of (suc (suc n)) = 1

-- how many of some places are so
abbrev pub few_count : List ℕ → ℕ
few_count [] = 0
few_count (count ∷ counts) = few_of count + few_count counts

abbrev pub many_count : List ℕ → ℕ
many_count [] = 0
many_count (count ∷ counts) = many_of count + many_count counts

-- the hash of a place with so many items: the next one of its kind
abbrev pub picked : ℕ → List (List ℕ) → List (List ℕ) → List ℕ
picked zero few many = slice_index_or few 0 []
picked (suc zero) few many = slice_index_or few 0 []
picked (suc (suc n)) few many = slice_index_or many 0 []

-- the hashes of places with so many items, from those of either kind
abbrev pub merged : List ℕ → List (List ℕ) → List (List ℕ) → List (List ℕ)
merged [] few many = []
merged (count ∷ counts) few many = picked count few many ∷ merged counts (drop (few_of count) few) (drop (many_of count) many)

-- the texts of the nodes over each two of these hashes
abbrev pub joined : List (List ℕ) → List (List ℕ)
joined [] = []
joined (hash ∷ []) = []
joined (zero_side ∷ one_side ∷ hashes) = interior_bytes zero_side one_side ∷ joined hashes

-- the hashes of places of one level, and how many nodes there are at and below them
abbrev pub site_hashes : (List ℕ → List ℕ) → List ℕ → ℕ → List Site → List (List ℕ)
site_hashes hash nonce level sites = map (λ site. node hash nonce site.0 (256 - level) site.1) sites

abbrev pub site_count : ℕ → List Site → ℕ
site_count level [] = 0
site_count level (site ∷ sites) = node_count (256 - level) site.1 + site_count level sites
