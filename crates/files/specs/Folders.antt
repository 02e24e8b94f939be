-- The folder of a file.
use Rattle.std.specs.Prelude.{ℕ, List, [], ◌∷◌, Option, None, Some, codes}
use Rattle.std.specs.Path.{path_parent}

-- the current folder, where a path names no other
abbrev pub or_here : Option (List ℕ) → List ℕ
or_here None = codes "."
or_here (Some []) = codes "."
or_here (Some (byte ∷ more)) = byte ∷ more

-- the folder that has the file of this path: what std's `parent` gives, or the current one
abbrev pub folder_of : List ℕ → List ℕ
folder_of path = or_here (path_parent path)
