-- A script on the limits of names and keys: each line beside the lines that it prints. `scripts/questions/script_specs.py` writes this file.
use Rattle.std.specs.Prelude.{List, [], ◌∷◌, ◌++◌, codes}
use Rattle.play.specs.Rows.{Row, repeated}

-- A name has 1 to 255 bytes, and a key 1 to 2,048. The name is tested first.
abbrev pub limits_of_names_and_keys : List Row
limits_of_names_and_keys =
    (codes "register " ++ repeated 255 (codes "61") ++ codes " 6b", codes "promise 1" ∷ [])
    ∷ (codes "register " ++ repeated 256 (codes "61") ++ codes " 6b", codes "refused 4" ∷ [])
    ∷ (codes "register - 6b", codes "refused 4" ∷ [])
    ∷ (codes "register 61 " ++ repeated 2048 (codes "6b"), codes "promise 1" ∷ [])
    ∷ (codes "register 62 " ++ repeated 2049 (codes "6b"), codes "refused 5" ∷ [])
    ∷ (codes "register 62 -", codes "refused 5" ∷ [])
    ∷ (codes "register - -", codes "refused 4" ∷ [])
    ∷ (codes "change " ++ repeated 256 (codes "61") ++ codes " -", codes "refused 4" ∷ [])
    ∷ (codes "change 62 -", codes "refused 5" ∷ [])
    ∷ (codes "promise " ++ repeated 256 (codes "61"), codes "refused 4" ∷ [])
    ∷ (codes "promise -", codes "refused 4" ∷ [])
    ∷ (codes "lookup - 9", codes "refused 4" ∷ [])
    ∷ (codes "lookup " ++ repeated 256 (codes "61") ++ codes " 1", codes "refused 4" ∷ [])
    ∷ (codes "promise " ++ repeated 255 (codes "61"), codes "promise 1" ∷ [])
    ∷ (codes "promise 61", codes "promise 1" ∷ [])
    ∷ (codes "watch " ++ repeated 255 (codes "61") ++ codes " 6b", (codes "alarm " ++ repeated 255 (codes "61") ++ codes " 1 absent") ∷ [])
    ∷ (codes "close 2", codes "root 2 after 1" ∷ (codes "kept " ++ repeated 255 (codes "61") ++ codes " 2") ∷ [])
    ∷ (codes "lookup " ++ repeated 255 (codes "61") ++ codes " 0", codes "present 2 6b" ∷ [])
    ∷ (codes "lookup 61 2", (codes "present 2 " ++ repeated 2048 (codes "6b")) ∷ [])
    ∷ (codes "change " ++ repeated 255 (codes "61") ++ codes " 6c", codes "promise 2" ∷ [])
    ∷ (codes "close 3", codes "root 3 after 2" ∷ (codes "kept " ++ repeated 255 (codes "61") ++ codes " 3") ∷ [])
    ∷ (codes "lookup " ++ repeated 255 (codes "61") ++ codes " 3", codes "present 3 6c" ∷ [])
    ∷ []
