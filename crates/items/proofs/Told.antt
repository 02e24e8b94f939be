-- The lines that tell a path tell it from the root of the items.
use Rattle.std.proofs.Common.{◌≡◌, ◌∙◌, ap, List, ℕ, Result, Ok, Err, IfOk, Vec, Global}
use Rattle.prefixtree.specs.Node.{root_of}
use Rattle.prefixtree.specs.Paths.{IsPath}
use Rattle.prefixtree.specs.Placement.{Items}
use Rattle.prefixtree.specs.declared.path.End.{End}
use Rattle.items.specs.Prove.{path_lines, TellsPath}

pub told : {E : Type 0} (of : List ℕ → List ℕ) (nonce index : List ℕ) (items : Items) (siblings : List (List ℕ)) (end : End) (root : List ℕ) (lines : Result (Vec ℕ Global) E)
    → IfOk lines (λ text. text.items ≡ path_lines siblings end root) → IsPath of nonce items index siblings end → root ≡ root_of of nonce items
    → IfOk lines (λ text. TellsPath of nonce index items text.items)
told of nonce index items siblings end root (Ok text) is path same = (siblings, end, path, is ∙ ap (path_lines siblings end) same)
told of nonce index items siblings end root (Err e) is path same = tt
