-- The texts of the nodes on a way (CONIKS, section 3), and the first two at which two ways differ.
use Rattle.std.specs.Prelude.{◌≡◌, ◌≢◌, ℕ, ◌+◌, ◌⊎◌, List, [], ◌∷◌}
use Rattle.prefixtree.specs.Paths.{node_text}

module _ (hash : List ℕ → List ℕ) (index : List ℕ) where
  -- the texts of the nodes from level k down
  abbrev pub way_texts : ℕ → List (List ℕ) → List ℕ → List (List ℕ)
  way_texts k [] text = text ∷ []
  way_texts k (beside ∷ siblings) text = node_text hash index k (beside ∷ siblings) text ∷ way_texts (k + 1) siblings text

-- x and y are the first two texts that differ, x of the first list and y of the second
abbrev pub AreFirstToDiffer : List (List ℕ) → List (List ℕ) → List ℕ → List ℕ → Type 0
AreFirstToDiffer [] others x y = ⊥
AreFirstToDiffer (text ∷ texts) [] x y = ⊥
AreFirstToDiffer (text ∷ texts) (other ∷ others) x y =
    ((text ≢ other) × (x ≡ text) × (y ≡ other)) ⊎ ((text ≡ other) × AreFirstToDiffer texts others x y)
