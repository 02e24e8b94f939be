-- What `prove` answers.
use Rattle.std.specs.Prelude.{◌≡◌, ℕ, List, [], ◌∷◌, ◌++◌, Option, Some, Result, Ok, Err, length, codes, decimal}
use Rattle.textio.specs.Hex.{encode_lower}
use Rattle.prefixtree.specs.Placement.{Items}
use Rattle.prefixtree.specs.Node.{root_of}
use Rattle.prefixtree.specs.Paths.{IsPath}
use Rattle.prefixtree.specs.declared.path.End.{End}
use Rattle.prefixtree.specs.declared.path.End.TheVariants.{Present, Empty, Other}
use Rattle.textio.specs.declared.program_fault.ProgramFault.{ProgramFault}
use Rattle.textio.specs.declared.program_fault.ProgramFault.TheVariants.{BadHex}
use Rattle.items.specs.declared.orders.HashChoice.{HashChoice}
use Rattle.items.specs.Items.{placement_of}
use Rattle.items.specs.Root.{digest_of, root_line}

-- the line that tells a path's level
abbrev pub level_line : ℕ → List ℕ
level_line level = codes "level " ++ decimal level ++ 10 ∷ []

-- the line that tells what stands at a path's end
abbrev pub end_line : End → List ℕ
end_line (Present commitment) = codes "present " ++ encode_lower commitment ++ 10 ∷ []
end_line Empty = codes "empty\n"
end_line (Other index commitment) = codes "other " ++ encode_lower index ++ 32 ∷ [] ++ encode_lower commitment ++ 10 ∷ []

-- a line for each sibling, from the root down
abbrev pub sibling_lines : List (List ℕ) → List ℕ
sibling_lines [] = []
sibling_lines (sibling ∷ siblings) = codes "sibling " ++ encode_lower sibling ++ 10 ∷ [] ++ sibling_lines siblings

-- the lines that tell a path and its root
abbrev pub path_lines : List (List ℕ) → End → List ℕ → List ℕ
path_lines siblings end root = level_line (length siblings) ++ end_line end ++ sibling_lines siblings ++ root_line root

-- the text tells the path of the index in the placement
abbrev pub TellsPath : (List ℕ → List ℕ) → List ℕ → List ℕ → Items → List ℕ → Type 0
TellsPath hash nonce index items text = (siblings : List (List ℕ)) × (end : End)
    × IsPath hash nonce items index siblings end × (text ≡ path_lines siblings end (root_of hash nonce items))

-- what is told of the placement that an input gives, or the input's fault
abbrev pub PathTold : (List ℕ → List ℕ) → List ℕ → List ℕ → Result Items ProgramFault → Result (List ℕ) ProgramFault → Type 0
PathTold hash nonce index (Ok items) (Ok text) = TellsPath hash nonce index items text
PathTold hash nonce index (Err fault) said = said ≡ Err fault
PathTold hash nonce index (Ok items) (Err fault) = ⊥

-- what is said to an order and an input
abbrev pub Proves : HashChoice → Option (List ℕ) → Option (List ℕ) → List ℕ → Result (List ℕ) ProgramFault → Type 0
Proves choice (Some nonce) (Some index) input said = PathTold (digest_of choice) nonce index (placement_of input) said
Proves choice _ _ input said = said ≡ Err BadHex
