-- The first two texts that differ, from the ends of two ways up.
use Rattle.std.proofs.Common.{◌≡◌, ◌≢◌, ℕ, zero, suc, ◌+◌, ◌<◌, ◌≤◌, ◌⊎◌, inl, inr, Bool, true, false, cond, List, [], ◌∷◌, ◌++◌, length, get_or, drop, Option, Some, None, refl, sym, ap, subst, ◌∙◌, min, arith}
use Rattle.std.specs.Prelude.{MatchOption, IsSomeAnd, ◌==◌}
use Rattle.std.specs.List.{AllByRecursion}
use Rattle.std.proofs.lemmas.Bool.{cases_lt}
use Rattle.std.proofs.lemmas.List.{drop_more, length-append}
use Rattle.encoding.specs.Bits.{bit}
use Rattle.encoding.specs.Bytes.{Is32Bytes}
use Rattle.prefixtree.specs.Paths.{parent_text}
use Rattle.prefixtree.specs.Paths.{node_text}
use Rattle.proofs.specs.WayTexts.{way_texts, AreFirstToDiffer}
use Rattle.prefixtree.proofs.Climbs.{climbed, text_below}

abbrev pub Pair : Type 0
Pair = List ℕ × List ℕ

abbrev pub AreHashes : List (List ℕ) → Type 0
AreHashes = AllByRecursion Is32Bytes

-- what was found of two lists of texts
abbrev pub Found : List (List ℕ) → List (List ℕ) → Option Pair → Type 0
Found texts others found = MatchOption found (texts ≡ others) (λ pair. AreFirstToDiffer texts others pair.0 pair.1)

-- what one more pair of texts answers
abbrev pub Chosen : List ℕ → List ℕ → Option Pair → Option Pair → Type 0
Chosen text other before after = ((text ≡ other) × (after ≡ before)) ⊎ ((text ≢ other) × IsSomeAnd after (λ pair. (pair.0 ≡ text) × (pair.1 ≡ other)))

chosen_up : (texts others : List (List ℕ)) (text other : List ℕ) (before after : Option Pair) → Found texts others before → Chosen text other before after → Found (text ∷ texts) (other ∷ others) after
chosen_up texts others text other None after found (inl (e, kept)) = subst (Found (text ∷ texts) (other ∷ others)) (sym kept) cc
chosen_up texts others text other (Some pair) after found (inl (e, kept)) = subst (Found (text ∷ texts) (other ∷ others)) (sym kept) (inr (e, found))
chosen_up texts others text other before None found (inr (differ, is)) = absurd is
chosen_up texts others text other before (Some pair) found (inr (differ, is)) = inl (differ, is.0, is.1)

chosen_first : (texts others : List (List ℕ)) (text other : List ℕ) (after : Option Pair) → (text ≡ other → text ∷ texts ≡ other ∷ others) → Chosen text other None after → Found (text ∷ texts) (other ∷ others) after
chosen_first texts others text other after alike (inl (e, kept)) = subst (Found (text ∷ texts) (other ∷ others)) (sym kept) (alike e)
chosen_first texts others text other None alike (inr (differ, is)) = absurd is
chosen_first texts others text other (Some pair) alike (inr (differ, is)) = inl (differ, is.0, is.1)

pub hashes_left : (k : ℕ) (hashes : List (List ℕ)) → AreHashes hashes → AreHashes (drop k hashes)
hashes_left zero hashes all = all
hashes_left (suc k) [] all = tt
hashes_left (suc k) (hash ∷ hashes) all = hashes_left k hashes all.1

nothing_left : (k : ℕ) (hashes : List (List ℕ)) → length hashes ≤ k → drop k hashes ≡ []
nothing_left zero [] le = refl
nothing_left zero (hash ∷ hashes) le = absurd (omega (arith, le))
nothing_left (suc k) [] le = refl
nothing_left (suc k) (hash ∷ hashes) le = nothing_left k hashes (omega (arith, le))

-- the text of an interior node has 64 bytes
pub length-parent_text : (index : List ℕ) (k : ℕ) (below beside : List ℕ) → length below ≡ 32 → length beside ≡ 32 → length (parent_text index k below beside) ≡ 64
length-parent_text index k below beside p q = by (bit index k == 0)
  where
    by : (b : Bool) → length (cond b (below ++ beside) (beside ++ below)) ≡ 64
    by true = omega (arith, length-append below beside, p, q)
    by false = omega (arith, length-append beside below, p, q)

module _ (hash : List ℕ → List ℕ) (size : (text : List ℕ) → Is32Bytes (hash text)) (index : List ℕ) where
  -- the texts below the topmost
  abbrev below : ℕ → List (List ℕ) → List ℕ → List (List ℕ)
  below k [] text = []
  below k (beside ∷ siblings) text = way_texts hash index (k + 1) siblings text

  top_text : (k : ℕ) (siblings : List (List ℕ)) (text : List ℕ) → way_texts hash index k siblings text ≡ node_text hash index k siblings text ∷ below k siblings text
  top_text k [] text = refl
  top_text k (beside ∷ siblings) text = refl

  -- where one of the two ways ends and the texts are the same, both end
  end_alike : (k : ℕ) (siblings others : List (List ℕ)) (text other : List ℕ) → (siblings ≡ []) ⊎ (others ≡ []) → AreHashes siblings → AreHashes others
      → length text ≢ 64 → length other ≢ 64 → node_text hash index k siblings text ≡ node_text hash index k others other → way_texts hash index k siblings text ≡ way_texts hash index k others other
  end_alike k [] [] text other ended p q no_text no_other e = ap (λ (t : List ℕ). t ∷ []) e
  end_alike k [] (u ∷ us) text other ended p q no_text no_other e =
      absurd (no_text (ap length e ∙ length-parent_text index k (hash (node_text hash index (k + 1) us other)) u (size (node_text hash index (k + 1) us other)).0 q.0.0))
  end_alike k (s ∷ ss) [] text other ended p q no_text no_other e =
      absurd (no_other (ap length (sym e) ∙ length-parent_text index k (hash (node_text hash index (k + 1) ss text)) s (size (node_text hash index (k + 1) ss text)).0 p.0.0))
  end_alike k (s ∷ ss) (u ∷ us) text other (inl ended) p q no_text no_other e = absurd cc
  end_alike k (s ∷ ss) (u ∷ us) text other (inr ended) p q no_text no_other e = absurd cc

  -- both ways from level k down
  pub record Compared (siblings others : List (List ℕ)) (end other_end : List ℕ) (k : ℕ) (text other : List ℕ) (found : Option Pair) : Type 0 where
    pub first_long : k ≤ length siblings
    pub second_long : k ≤ length others
    pub first_is : text ≡ node_text hash index k (drop k siblings) end
    pub second_is : other ≡ node_text hash index k (drop k others) other_end
    pub found_is : Found (way_texts hash index k (drop k siblings) end) (way_texts hash index k (drop k others) other_end) found

  text_up : (siblings : List (List ℕ)) (end text above : List ℕ) (j k : ℕ) → k ≡ j + 1 → j < length siblings → text ≡ node_text hash index k (drop k siblings) end
      → above ≡ parent_text index j (hash text) (get_or siblings j [])
      → way_texts hash index j (drop j siblings) end ≡ above ∷ way_texts hash index (j + 1) (drop (j + 1) siblings) end
  text_up siblings end text above j k next inside is now =
      let made : above ≡ parent_text index j (hash (node_text hash index (j + 1) (drop (j + 1) siblings) end)) (get_or siblings j []) =
      now ∙ ap (λ (t : List ℕ). parent_text index j (hash t) (get_or siblings j [])) (text_below hash index siblings end text j k next is) in
      ap (λ (s : List (List ℕ)). way_texts hash index j s end) (drop_more siblings j [] inside)
      ∙ ap (λ (t : List ℕ). t ∷ way_texts hash index (j + 1) (drop (j + 1) siblings) end) (sym made)

  pub goes_up : (siblings others : List (List ℕ)) (end other_end text other above other_above : List ℕ) (before after : Option Pair) (j k : ℕ)
      → k ≡ j + 1 → j < length siblings → j < length others → Compared siblings others end other_end k text other before
      → above ≡ parent_text index j (hash text) (get_or siblings j []) → other_above ≡ parent_text index j (hash other) (get_or others j [])
      → Chosen above other_above before after → Compared siblings others end other_end j above other_above after
  goes_up siblings others end other_end text other above other_above before after j k next inside other_inside so_far first second chosen =
      record {
        first_long = omega arith;
        second_long = omega arith;
        first_is = first ∙ climbed hash index siblings end text j k next inside so_far.first_is;
        second_is = second ∙ climbed hash index others other_end other j k next other_inside so_far.second_is;
        found_is =
            rw (text_up siblings end text above j k next inside so_far.first_is first, text_up others other_end other other_above j k next other_inside so_far.second_is second)
            (chosen_up (way_texts hash index (j + 1) (drop (j + 1) siblings) end) (way_texts hash index (j + 1) (drop (j + 1) others) other_end) above other_above before after
            (subst (λ (m : ℕ). Found (way_texts hash index m (drop m siblings) end) (way_texts hash index m (drop m others) other_end) before) next so_far.found_is) chosen);
      }

  pub starts : (siblings others : List (List ℕ)) (end other_end text other : List ℕ) (after : Option Pair) (k : ℕ) → AreHashes siblings → AreHashes others
      → k ≡ min (length siblings) (length others) → length end ≢ 64 → length other_end ≢ 64
      → text ≡ node_text hash index k (drop k siblings) end → other ≡ node_text hash index k (drop k others) other_end
      → Chosen text other None after → Compared siblings others end other_end k text other after
  starts siblings others end other_end text other after k all other_all common no_end no_other first second chosen =
      let ended : (drop k siblings ≡ []) ⊎ (drop k others ≡ []) =
      elim (cases_lt (length siblings) (length others)) [ inl lt ↦ inl (nothing_left k siblings (omega (arith, common, lt))) | inr le ↦ inr (nothing_left k others (omega (arith, common, le))) ] in
      let top : way_texts hash index k (drop k siblings) end ≡ text ∷ below k (drop k siblings) end =
      top_text k (drop k siblings) end ∙ ap (λ (t : List ℕ). t ∷ below k (drop k siblings) end) (sym first) in
      let other_top : way_texts hash index k (drop k others) other_end ≡ other ∷ below k (drop k others) other_end =
      top_text k (drop k others) other_end ∙ ap (λ (t : List ℕ). t ∷ below k (drop k others) other_end) (sym second) in
      record {
        first_long = omega (arith, common);
        second_long = omega (arith, common);
        first_is = first;
        second_is = second;
        found_is =
            rw (top, other_top)
            (chosen_first (below k (drop k siblings) end) (below k (drop k others) other_end) text other after
            (λ same. sym top ∙ end_alike k (drop k siblings) (drop k others) end other_end ended (hashes_left k siblings all) (hashes_left k others other_all) no_end no_other (sym first ∙ same ∙ second) ∙ other_top) chosen);
      }
