-- The texts of the nodes on a way, one level up.
use Rattle.std.proofs.Common.{◌≡◌, ℕ, ◌+◌, ◌<◌, List, [], length, get_or, drop, sym, ap, subst, ◌∙◌}
use Rattle.std.proofs.lemmas.List.{drop_more}
use Rattle.prefixtree.specs.Paths.{node_text, parent_text}

module _ (hash : List ℕ → List ℕ) (index : List ℕ) where
  -- the text one level below j
  pub text_below : (siblings : List (List ℕ)) (end text : List ℕ) (j k : ℕ) → k ≡ j + 1 → text ≡ node_text hash index k (drop k siblings) end
      → text ≡ node_text hash index (j + 1) (drop (j + 1) siblings) end
  text_below siblings end text j k next is = subst (λ (m : ℕ). text ≡ node_text hash index m (drop m siblings) end) next is

  -- one level up, from its hash and the sibling
  pub climbed : (siblings : List (List ℕ)) (end text : List ℕ) (j k : ℕ) → k ≡ j + 1 → j < length siblings
      → text ≡ node_text hash index k (drop k siblings) end
      → parent_text index j (hash text) (get_or siblings j []) ≡ node_text hash index j (drop j siblings) end
  climbed siblings end text j k next inside is =
      ap (λ (t : List ℕ). parent_text index j (hash t) (get_or siblings j [])) (text_below siblings end text j k next is)
      ∙ ap (λ (s : List (List ℕ)). node_text hash index j s end) (sym (drop_more siblings j [] inside))
