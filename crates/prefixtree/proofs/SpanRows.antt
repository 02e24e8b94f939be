-- Spans of items, and the hashes of a row of them.
use Rattle.std.proofs.Common.{◌≡◌, ℕ, zero, suc, ◌+◌, ◌-◌, ◌<◌, ◌≤◌, List, [], ◌∷◌, ◌++◌, length, get_or, map, take, drop, refl, sym, ap, subst, ◌∙◌, arith, length-append}
use Rattle.std.specs.List.{AllByRecursion}
use Rattle.std.proofs.lemmas.List.{append_assoc, drop-drop, drop_at, drop_more, take_at, take-take, drop-take, length-take-le, length-drop, length-map}
use Rattle.encoding.specs.Bits.{with_one}
use Rattle.nodehash.specs.NodeTexts.{empty_bytes, leaf_bytes, interior_bytes}
use Rattle.prefixtree.specs.Placement.{Item, Items}
use Rattle.prefixtree.specs.Node.{half, level_of, node, node_count}
use Rattle.prefixtree.specs.Under.{IsUnder}
use Rattle.prefixtree.specs.Spans.{counts_of, few_count, few_of, few_text, few_texts, joined, many_count, many_of, many_site, many_sites, merged, part, picked, sides_of, site_count, site_hashes, site_of, AreSpans, IsSpan, Site}
use Rattle.prefixtree.specs.declared.spans.Span.{Span}
use Rattle.nodehash.specs.Digests.{after_digests}
use Rattle.nodehash.proofs.Counting.{after_digests-join}
use Rattle.prefixtree.proofs.Built.{node-more}
use Rattle.prefixtree.proofs.Counts.{node_count-few, node_count-halves}
use Rattle.prefixtree.proofs.Halves.{level-below, under-ones, under-zeros}

pub all-more : {X : Type 0} (P : X → Type 0) (xs ys : List X) → AllByRecursion P xs → AllByRecursion P ys → AllByRecursion P (xs ++ ys)
all-more P [] ys h k = k
all-more P (x ∷ xs) ys h k = (h.0, all-more P xs ys h.1 k)

-- the spans from one on begin with it
pub front_of : (spans : List Span) (i : ℕ) (span : Span) → i < length spans → span ≡ get_or spans i span → drop i spans ≡ span ∷ drop (i + 1) spans
front_of spans i span h is = drop_more spans i span h ∙ ap (λ (s : Span). s ∷ drop (i + 1) spans) (sym is)

-- ---- parts of the items

pub length-part : (all : Items) (start count : ℕ) → start + count ≤ length all → length (part all start count) ≡ count
length-part all start count within = length-take-le count (drop start all) (omega (arith, length-drop start all))

part-count : (all zs os : Items) (start count : ℕ) → start + count ≤ length all → part all start count ≡ zs ++ os → length zs + length os ≡ count
part-count all zs os start count within is = sym (length-append zs os) ∙ sym (ap length is) ∙ length-part all start count within

part-first : (all zs os : Items) (start count : ℕ) → start + count ≤ length all → part all start count ≡ zs ++ os → part all start (length zs) ≡ zs
part-first all zs os start count within is =
    let room : length zs ≤ count = omega (arith, part-count all zs os start count within is) in
    sym (take-take (length zs) count (drop start all) room) ∙ ap (take (length zs)) is ∙ take_at zs os (length zs) refl

part-second : (all zs os : Items) (start count : ℕ) → start + count ≤ length all → part all start count ≡ zs ++ os → part all (start + length zs) (length os) ≡ os
part-second all zs os start count within is =
    ap (take (length os)) (sym (drop-drop (length zs) start all)) ∙ sym (drop-take (length zs) (length os) (drop start all))
    ∙ ap (λ (k : ℕ). drop (length zs) (take k (drop start all))) (part-count all zs os start count within is) ∙ ap (drop (length zs)) is ∙ drop_at zs os (length zs) refl

-- the span of some items and their halves
pub span-halves : (all : Items) (level start count : ℕ) (prefix : List ℕ) (here zs os : Items) (span : Span) → start + count ≤ length all → 1 < count → IsUnder prefix level (part all start count)
    → here ≡ part all start count → zs ≡ half 0 level here → os ≡ half 1 level here → here ≡ zs ++ os
    → span.prefix ≡ prefix → span.start ≡ start → span.zeros ≡ length zs → span.ones ≡ length os → IsSpan level all span
span-halves all level start count prefix here zs os span within many under eh ez eo whole ep es en em =
    let is : part all start count ≡ zs ++ os = sym eh ∙ whole in
    let counted : span.zeros + span.ones ≡ count = (λ i. en i + em i) ∙ part-count all zs os start count within is in
    let same : part all span.start (span.zeros + span.ones) ≡ part all start count = λ i. part all (es i) (counted i) in
    record {
      within = omega (arith, counted, es);
      many = omega (arith, counted);
      under = subst (λ (p : List ℕ). IsUnder p level (part all span.start (span.zeros + span.ones))) (sym ep) (subst (λ (l : Items). IsUnder prefix level l) (sym same) under);
      zero_side = (λ i. part all (es i) (en i)) ∙ part-first all zs os start count within is ∙ ez ∙ ap (half 0 level) (eh ∙ sym same);
      one_side = (λ i. part all (es i + en i) (em i)) ∙ part-second all zs os start count within is ∙ eo ∙ ap (half 1 level) (eh ∙ sym same);
    }

pub span-site : (all : Items) (level start count : ℕ) (prefix : List ℕ) (here zs os : Items) (span : Span) → start + count ≤ length all
    → here ≡ part all start count → here ≡ zs ++ os → span.prefix ≡ prefix → span.start ≡ start → span.zeros ≡ length zs → span.ones ≡ length os
    → site_of all span ≡ (prefix, part all start count)
span-site all level start count prefix here zs os span within eh whole ep es en em =
    let counted : span.zeros + span.ones ≡ count = (λ i. en i + em i) ∙ part-count all zs os start count within (sym eh ∙ whole) in
    λ i. (ep i, part all (es i) (counted i))

-- more than one item of a span, and those of its sides
pub span-long : (level : ℕ) (all : Items) (span : Span) → IsSpan level all span → 1 < length (part all span.start (span.zeros + span.ones))
span-long level all span is = omega (arith, is.many, length-part all span.start (span.zeros + span.ones) (omega (arith, is.within)))

pub under-zero_side : (level : ℕ) (all : Items) (span : Span) → level < 256 → IsSpan level all span → IsUnder span.prefix (level + 1) (part all span.start span.zeros)
under-zero_side level all span p is = subst (λ (l : Items). IsUnder span.prefix (level + 1) l) (sym is.zero_side) (under-zeros span.prefix level _ p is.under)

pub under-one_side : (level : ℕ) (all : Items) (span : Span) → level < 256 → IsSpan level all span → IsUnder (with_one span.prefix level) (level + 1) (part all (span.start + span.zeros) span.ones)
under-one_side level all span p is = subst (λ (l : Items). IsUnder (with_one span.prefix level) (level + 1) l) (sym is.one_side) (under-ones span.prefix level _ p is.under)

pub below-256 : (level : ℕ) (all : Items) (spans : List Span) → level ≤ 256 → AreSpans level all spans → 0 < length spans → level < 256
below-256 level all [] p are some = absurd (omega arith)
below-256 level all (span ∷ spans) p are some = level-below span.prefix level _ p (span-long level all span are.0) are.0.under

-- two more parts of a list that is completed by what is left
pub two-more : {X : Type 0} (xs ys zs a b rest whole : List X) → ys ≡ xs ++ a → zs ≡ ys ++ b → xs ++ (a ++ (b ++ rest)) ≡ whole → zs ++ rest ≡ whole
two-more xs ys zs a b rest whole ey ez held =
    ap (λ l. l ++ rest) (ez ∙ ap (λ l. l ++ b) ey) ∙ append_assoc (xs ++ a) b rest ∙ append_assoc xs a (b ++ rest) ∙ held

-- ---- places with few items, and with many

pub few-none : (nonce : List ℕ) (level : ℕ) (prefix : List ℕ) (items : Items) → 1 < length items → few_text nonce level prefix items ≡ []
few-none nonce level prefix [] h = absurd (omega arith)
few-none nonce level prefix (x ∷ []) h = absurd (omega arith)
few-none nonce level prefix (x ∷ y ∷ items) h = refl

pub many-one : (prefix : List ℕ) (items : Items) → 1 < length items → many_site prefix items ≡ (prefix, items) ∷ []
many-one prefix [] h = absurd (omega arith)
many-one prefix (x ∷ []) h = absurd (omega arith)
many-one prefix (x ∷ y ∷ items) h = refl

pub many-none : (prefix : List ℕ) (items : Items) → length items ≤ 1 → many_site prefix items ≡ []
many-none prefix [] h = refl
many-none prefix (x ∷ []) h = refl
many-none prefix (x ∷ y ∷ items) h = absurd (omega arith)

abbrev pub lengths : List Site → List ℕ
lengths sites = map (λ site. length site.1) sites

pub length-few : (nonce : List ℕ) (level : ℕ) (sites : List Site) → length (few_texts nonce level sites) ≡ few_count (lengths sites)
length-few nonce level [] = refl
length-few nonce level ((prefix, []) ∷ sites) = omega (arith, length-few nonce level sites)
length-few nonce level ((prefix, x ∷ []) ∷ sites) = omega (arith, length-few nonce level sites)
length-few nonce level ((prefix, x ∷ y ∷ items) ∷ sites) = omega (arith, length-few nonce level sites)

pub length-many : (sites : List Site) → length (many_sites sites) ≡ many_count (lengths sites)
length-many [] = refl
length-many ((prefix, []) ∷ sites) = omega (arith, length-many sites)
length-many ((prefix, x ∷ []) ∷ sites) = omega (arith, length-many sites)
length-many ((prefix, x ∷ y ∷ items) ∷ sites) = omega (arith, length-many sites)

pub counts-sides : (level : ℕ) (all : Items) (spans : List Span) → AreSpans level all spans → counts_of spans ≡ lengths (sides_of level all spans)
counts-sides level all [] are = refl
counts-sides level all (span ∷ spans) are =
    let zeros = length-part all span.start span.zeros (omega (arith, are.0.within)) in
    let ones = length-part all (span.start + span.zeros) span.ones are.0.within in
    let rest = counts-sides level all spans are.1 in
    λ i. sym zeros i ∷ sym ones i ∷ rest i

-- ---- the hashes of places

-- one more node, over the next two hashes
pub joined-next : (texts : List (List ℕ)) (z o : ℕ) (cs : List ℕ) (few many whole : List (List ℕ)) (fu mu fu1 mu1 fu2 mu2 : ℕ) (x y t : List ℕ)
    → fu1 ≡ fu + few_of z → mu1 ≡ mu + many_of z → fu2 ≡ fu1 + few_of o → mu2 ≡ mu1 + many_of o
    → x ≡ picked z (drop fu few) (drop mu many) → y ≡ picked o (drop fu1 few) (drop mu1 many) → t ≡ interior_bytes x y
    → texts ++ joined (merged (z ∷ o ∷ cs) (drop fu few) (drop mu many)) ≡ whole
    → (texts ++ t ∷ []) ++ joined (merged cs (drop fu2 few) (drop mu2 many)) ≡ whole
joined-next texts z o cs few many whole fu mu fu1 mu1 fu2 mu2 x y t ef1 em1 ef2 em2 ex ey et held =
    let f1 : drop (few_of z) (drop fu few) ≡ drop fu1 few = drop-drop (few_of z) fu few ∙ ap (λ n. drop n few) (sym ef1) in
    let m1 : drop (many_of z) (drop mu many) ≡ drop mu1 many = drop-drop (many_of z) mu many ∙ ap (λ n. drop n many) (sym em1) in
    let f2 : drop (few_of o) (drop fu1 few) ≡ drop fu2 few = drop-drop (few_of o) fu1 few ∙ ap (λ n. drop n few) (sym ef2) in
    let m2 : drop (many_of o) (drop mu1 many) ≡ drop mu2 many = drop-drop (many_of o) mu1 many ∙ ap (λ n. drop n many) (sym em2) in
    let first : joined (merged (z ∷ o ∷ cs) (drop fu few) (drop mu many))
    ≡ interior_bytes (picked z (drop fu few) (drop mu many)) (picked o (drop fu1 few) (drop mu1 many)) ∷ joined (merged cs (drop (few_of o) (drop fu1 few)) (drop (many_of o) (drop mu1 many))) =
    λ i. interior_bytes (picked z (drop fu few) (drop mu many)) (picked o (f1 i) (m1 i)) ∷ joined (merged cs (drop (few_of o) (f1 i)) (drop (many_of o) (m1 i))) in
    let second : interior_bytes (picked z (drop fu few) (drop mu many)) (picked o (drop fu1 few) (drop mu1 many)) ∷ joined (merged cs (drop (few_of o) (drop fu1 few)) (drop (many_of o) (drop mu1 many)))
    ≡ interior_bytes x y ∷ joined (merged cs (drop fu2 few) (drop mu2 many)) =
    λ i. interior_bytes (sym ex i) (sym ey i) ∷ joined (merged cs (f2 i) (m2 i)) in
    append_assoc texts (t ∷ []) (joined (merged cs (drop fu2 few) (drop mu2 many)))
    ∙ ap (λ l. texts ++ l) (ap (λ w. w ∷ joined (merged cs (drop fu2 few) (drop mu2 many))) et ∙ sym second ∙ sym first) ∙ held

module _ (of : List ℕ → List ℕ) (nonce : List ℕ) where
  pub node-none : (prefix : List ℕ) (level : ℕ) → level ≤ 256 → node of nonce prefix (256 - level) [] ≡ of (empty_bytes nonce prefix level)
  unfolding node
  node-none prefix level p =
      let at : level_of (256 - level) ≡ level = omega arith in
      ap (λ l. of (empty_bytes nonce prefix l)) at

  one : (prefix : List ℕ) (below : ℕ) (item : Item) → node of nonce prefix below (item ∷ []) ≡ of (leaf_bytes nonce item.0 (level_of below) item.1)
  unfolding node
  one prefix zero item = refl
  one prefix (suc below) item = refl

  pub node-one : (prefix : List ℕ) (level : ℕ) (item : Item) → level ≤ 256 → node of nonce prefix (256 - level) (item ∷ []) ≡ of (leaf_bytes nonce item.0 level item.1)
  node-one prefix level item p =
      let at : level_of (256 - level) ≡ level = omega arith in
      one prefix (256 - level) item ∙ ap (λ l. of (leaf_bytes nonce item.0 l item.1)) at

  pub node-few : (prefix : List ℕ) (level : ℕ) (items : Items) (text : List ℕ) → level ≤ 256 → length items ≤ 1 → few_text nonce level prefix items ≡ text ∷ [] → node of nonce prefix (256 - level) items ≡ of text
  node-few prefix level [] text p few is = node-none prefix level p ∙ ap of (ap (λ l. get_or l 0 []) is)
  node-few prefix level (x ∷ []) text p few is = node-one prefix level x p ∙ ap of (ap (λ l. get_or l 0 []) is)
  node-few prefix level (x ∷ y ∷ items) text p few is = absurd (omega arith)

  pub node-halves : (prefix : List ℕ) (level : ℕ) (items : Items) → level < 256 → 1 < length items → node of nonce prefix (256 - level) items
      ≡ of (interior_bytes (node of nonce prefix (256 - (level + 1)) (half 0 level items)) (node of nonce (with_one prefix level) (256 - (level + 1)) (half 1 level items)))
  node-halves prefix level items p many =
      let room : 256 - level ≡ suc (256 - (level + 1)) = omega arith in
      let at : level_of (suc (256 - (level + 1))) ≡ level = omega arith in
      ap (λ n. node of nonce prefix n items) room ∙ node-more of nonce prefix (256 - (level + 1)) items many
      ∙ ap (λ l. of (interior_bytes (node of nonce prefix (256 - (level + 1)) (half 0 l items)) (node of nonce (with_one prefix l) (256 - (level + 1)) (half 1 l items)))) at

  pub merged-sites : (level : ℕ) (sites : List Site) → level ≤ 256 → merged (lengths sites) (map of (few_texts nonce level sites)) (site_hashes of nonce level (many_sites sites)) ≡ site_hashes of nonce level sites
  merged-sites level [] p = refl
  merged-sites level ((prefix, []) ∷ sites) p =
      let here = node-none prefix level p in
      let rest = merged-sites level sites p in
      λ i. sym here i ∷ rest i
  merged-sites level ((prefix, x ∷ []) ∷ sites) p =
      let here = node-one prefix level x p in
      let rest = merged-sites level sites p in
      λ i. sym here i ∷ rest i
  merged-sites level ((prefix, x ∷ y ∷ items) ∷ sites) p = ap (λ l. node of nonce prefix (256 - level) (x ∷ y ∷ items) ∷ l) (merged-sites level sites p)

  pub joined-sides : (level : ℕ) (all : Items) (spans : List Span) → level < 256 → AreSpans level all spans
      → map of (joined (site_hashes of nonce (level + 1) (sides_of level all spans))) ≡ site_hashes of nonce level (map (site_of all) spans)
  joined-sides level all [] p are = refl
  joined-sides level all (span ∷ spans) p are =
      let here = node-halves span.prefix level (part all span.start (span.zeros + span.ones)) p (span-long level all span are.0) in
      let rest = joined-sides level all spans p are.1 in
      let sides : of (interior_bytes (node of nonce span.prefix (256 - (level + 1)) (part all span.start span.zeros)) (node of nonce (with_one span.prefix level) (256 - (level + 1)) (part all (span.start + span.zeros) span.ones)))
      ≡ of (interior_bytes (node of nonce span.prefix (256 - (level + 1)) (half 0 level (part all span.start (span.zeros + span.ones)))) (node of nonce (with_one span.prefix level) (256 - (level + 1)) (half 1 level (part all span.start (span.zeros + span.ones))))) =
      λ i. of (interior_bytes (node of nonce span.prefix (256 - (level + 1)) (are.0.zero_side i)) (node of nonce (with_one span.prefix level) (256 - (level + 1)) (are.0.one_side i))) in
      λ i. (sides ∙ sym here) i ∷ rest i

  -- the hashes of a row
  pub row-hashes : (level : ℕ) (all : Items) (spans : List Span) (few many hashes : List (List ℕ)) → level < 256 → AreSpans level all spans
      → few ≡ map of (few_texts nonce (level + 1) (sides_of level all spans)) → many ≡ site_hashes of nonce (level + 1) (many_sites (sides_of level all spans))
      → hashes ≡ map of (joined (merged (counts_of spans) few many)) → hashes ≡ site_hashes of nonce level (map (site_of all) spans)
  row-hashes level all spans few many hashes p are ef em eh =
      let counts = counts-sides level all spans are in
      eh ∙ (λ i. map of (joined (merged (counts i) (ef i) (em i))))
      ∙ ap (λ l. map of (joined l)) (merged-sites (level + 1) (sides_of level all spans) (omega (arith, p)))
      ∙ joined-sides level all spans p are

-- how many hashes there are of either kind of sides of a row
pub row-few : (of : List ℕ → List ℕ) (nonce : List ℕ) (level : ℕ) (all : Items) (spans : List Span) (few : List (List ℕ)) → AreSpans level all spans
    → few ≡ map of (few_texts nonce (level + 1) (sides_of level all spans)) → length few ≡ few_count (counts_of spans)
row-few of nonce level all spans few are is =
    ap length is ∙ length-map (few_texts nonce (level + 1) (sides_of level all spans)) of ∙ length-few nonce (level + 1) (sides_of level all spans) ∙ ap few_count (sym (counts-sides level all spans are))

pub row-many : (level : ℕ) (all : Items) (spans below : List Span) → AreSpans level all spans
    → map (site_of all) below ≡ many_sites (sides_of level all spans) → length below ≡ many_count (counts_of spans)
row-many level all spans below are is =
    sym (length-map below (site_of all)) ∙ ap length is ∙ length-many (sides_of level all spans) ∙ ap many_count (sym (counts-sides level all spans are))

-- ---- how many digests are taken for a row

pub length-joined : (spans : List Span) (few many : List (List ℕ)) → length (joined (merged (counts_of spans) few many)) ≡ length spans
length-joined [] few many = refl
length-joined (span ∷ spans) few many =
    ap suc (length-joined spans (drop (few_of span.ones) (drop (few_of span.zeros) few)) (drop (many_of span.ones) (drop (many_of span.zeros) many)))

sides-count : (nonce : List ℕ) (level : ℕ) (sites : List Site) → site_count level sites ≡ length (few_texts nonce level sites) + site_count level (many_sites sites)
sides-count nonce level [] = refl
sides-count nonce level ((prefix, []) ∷ sites) = omega (arith, sides-count nonce level sites, node_count-few (256 - level) [] (omega arith))
sides-count nonce level ((prefix, x ∷ []) ∷ sites) = omega (arith, sides-count nonce level sites, node_count-few (256 - level) (x ∷ []) (omega arith))
sides-count nonce level ((prefix, x ∷ y ∷ items) ∷ sites) = omega (arith, sides-count nonce level sites)

spans-count : (level : ℕ) (all : Items) (spans : List Span) → level < 256 → AreSpans level all spans
    → site_count level (map (site_of all) spans) ≡ site_count (level + 1) (sides_of level all spans) + length spans
spans-count level all [] p are = refl
spans-count level all (span ∷ spans) p are =
    let whole : Items = part all span.start (span.zeros + span.ones) in
    omega (
      arith,
      node_count-halves level whole p (span-long level all span are.0),
      ap (node_count (256 - (level + 1))) are.0.zero_side,
      ap (node_count (256 - (level + 1))) are.0.one_side,
      spans-count level all spans p are.1,
    )

pub row-count : (nonce : List ℕ) (level : ℕ) (all : Items) (spans : List Span) → level < 256 → AreSpans level all spans
    → site_count level (map (site_of all) spans) ≡ length (few_texts nonce (level + 1) (sides_of level all spans)) + site_count (level + 1) (many_sites (sides_of level all spans)) + length spans
row-count nonce level all spans p are = omega (arith, spans-count level all spans p are, sides-count nonce (level + 1) (sides_of level all spans))

-- after the digests of the sides with few items, of the row below and of the row itself
pub after-row : (few many here count old mid low new : ℕ) → count ≡ few + many + here → mid ≡ after_digests few old → low ≡ after_digests many mid
    → new ≡ after_digests here low → new ≡ after_digests count old
after-row few many here count old mid low new counted ef em eh =
    eh ∙ ap (after_digests here) (em ∙ ap (after_digests many) ef ∙ after_digests-join few many old) ∙ after_digests-join (few + many) here old
    ∙ ap (λ (n : ℕ). after_digests n old) (sym counted)
