-- Scripts on the words of lines, and on old epochs: each line beside the lines that it prints. `scripts/questions/script_specs.py` writes this file.
use Rattle.std.specs.Prelude.{List, [], ◌∷◌, codes}
use Rattle.play.specs.Rows.{Row}

-- Empty lines and notes print nothing; hexadecimal digits are read in both cases.
abbrev pub words_of_lines : List Row
words_of_lines =
    (codes "", [])
    ∷ (codes "#", [])
    ∷ (codes "#register 61 6b", [])
    ∷ (codes "# end", [])
    ∷ (codes "register 4a 6A", codes "promise 1" ∷ [])
    ∷ (codes "promise 4A", codes "promise 1" ∷ [])
    ∷ (codes "close 2", codes "root 2 after 1" ∷ [])
    ∷ (codes "", [])
    ∷ (codes "lookup 4a 0", codes "present 2 6a" ∷ [])
    ∷ (codes "lookup 4A 2", codes "present 2 6a" ∷ [])
    ∷ (codes "bytes 4294967295 0000000106", codes "4294967295: root 2 after 1" ∷ [])
    ∷ (codes "bytes 7 -", [])
    ∷ (codes "end 7", [])
    ∷ (codes "end 8", [])
    ∷ (codes "end 4294967295", [])
    ∷ (codes "history 0 1", codes "roots 1" ∷ [])
    ∷ (codes "head", codes "root 2 after 1" ∷ [])
    ∷ []

-- Each epoch keeps its keys.
abbrev pub old_epochs : List Row
old_epochs =
    (codes "register 61 6b", codes "promise 1" ∷ [])
    ∷ (codes "close 3", codes "root 3 after 1" ∷ [])
    ∷ (codes "change 61 6c", codes "promise 3" ∷ [])
    ∷ (codes "register 62 6d", codes "promise 3" ∷ [])
    ∷ (codes "lookup 61 0", codes "present 3 6b" ∷ [])
    ∷ (codes "head", codes "root 3 after 1" ∷ [])
    ∷ (codes "close 7", codes "root 7 after 3" ∷ [])
    ∷ (codes "close 8", codes "root 8 after 7" ∷ [])
    ∷ (codes "lookup 61 1", codes "absent 1" ∷ [])
    ∷ (codes "lookup 61 3", codes "present 3 6b" ∷ [])
    ∷ (codes "lookup 62 3", codes "absent 3" ∷ [])
    ∷ (codes "lookup 61 7", codes "present 7 6c" ∷ [])
    ∷ (codes "lookup 61 8", codes "present 8 6c" ∷ [])
    ∷ (codes "lookup 62 0", codes "present 8 6d" ∷ [])
    ∷ (codes "lookup 63 8", codes "absent 8" ∷ [])
    ∷ (codes "lookup 61 2", codes "refused 10" ∷ [])
    ∷ (codes "lookup 61 9", codes "refused 10" ∷ [])
    ∷ (codes "head", codes "root 8 after 7" ∷ [])
    ∷ []
