-- Scripts on bindings with a policy: each line beside the lines that it prints. `scripts/questions/script_specs.py` writes this file.
use Rattle.std.specs.Prelude.{List, [], ◌∷◌, codes}
use Rattle.play.specs.Rows.{Row}

-- A binding is shown with its policy. One that is final is never changed.
abbrev pub policies : List Row
policies =
    (codes "watch 61 -", codes "kept 61 1" ∷ [])
    ∷ (codes "register2 61 6b open", codes "promise 1" ∷ [])
    ∷ (codes "close 2", codes "root 2 after 1" ∷ codes "kept 61 2" ∷ [])
    ∷ (codes "change2 61 6c final", codes "promise 2" ∷ [])
    ∷ (codes "lookup 61 0", codes "present 2 6b open" ∷ [])
    ∷ (codes "close 3", codes "root 3 after 2" ∷ codes "kept 61 3" ∷ [])
    ∷ (codes "lookup 61 0", codes "present 3 6c final" ∷ [])
    ∷ (codes "change 61 6d", codes "refused 25" ∷ [])
    ∷ (codes "lookup 61 2", codes "present 2 6b open" ∷ [])
    ∷ []

-- Any byte may stand in the place of a policy, and one that is none is refused. No message is of the kind 09.
abbrev pub policies_in_frames : List Row
policies_in_frames =
    (codes "bytes 1 000000080a0300016100016b", codes "1: refused 26" ∷ [])
    ∷ (codes "bytes 1 000000080a0100016100016b", codes "1: promise 1" ∷ [])
    ∷ (codes "bytes 1 0000000109", codes "1: refused 2" ∷ [])
    ∷ []

-- Who registers a name first may make it final. Neither its owner nor others change it then.
abbrev pub final_bindings : List Row
final_bindings =
    (codes "register2 61 6b final", codes "promise 1" ∷ [])
    ∷ (codes "change2 61 6c open", codes "refused 7" ∷ [])
    ∷ (codes "close 2", codes "root 2 after 1" ∷ [])
    ∷ (codes "watch2 61 6b final", codes "kept 61 2" ∷ [])
    ∷ (codes "register 61 6c", codes "refused 6" ∷ [])
    ∷ (codes "register2 61 6c open", codes "refused 6" ∷ [])
    ∷ (codes "change 61 6c", codes "refused 25" ∷ [])
    ∷ (codes "change2 61 6b final", codes "refused 25" ∷ [])
    ∷ (codes "bytes 1 000000070200016100016c000000080b0100016100016c", codes "1: refused 25" ∷ codes "1: refused 25" ∷ [])
    ∷ (codes "close 3", codes "root 3 after 2" ∷ codes "kept 61 3" ∷ [])
    ∷ (codes "lookup 61 0", codes "present 3 6b final" ∷ [])
    ∷ (codes "lookup 61 1", codes "absent 1" ∷ [])
    ∷ (codes "# An open one changes, also to one of the first version, which has no policy, and back.", [])
    ∷ (codes "register2 62 6b open", codes "promise 3" ∷ [])
    ∷ (codes "watch 62 -", codes "kept 62 3" ∷ [])
    ∷ (codes "close 4", codes "root 4 after 3" ∷ codes "kept 61 4" ∷ codes "alarm 62 4 6b open" ∷ [])
    ∷ (codes "change 62 6b", codes "promise 4" ∷ [])
    ∷ (codes "close 5", codes "root 5 after 4" ∷ codes "kept 61 5" ∷ codes "kept 62 5" ∷ [])
    ∷ (codes "lookup 62 4", codes "present 4 6b open" ∷ [])
    ∷ (codes "lookup 62 0", codes "present 5 6b" ∷ [])
    ∷ (codes "change2 62 6b open", codes "promise 5" ∷ [])
    ∷ (codes "close 6", codes "root 6 after 5" ∷ codes "kept 61 6" ∷ codes "kept 62 6" ∷ [])
    ∷ (codes "change2 62 6b final", codes "promise 6" ∷ [])
    ∷ (codes "change 62 6c", codes "refused 8" ∷ [])
    ∷ (codes "close 7", codes "root 7 after 6" ∷ codes "kept 61 7" ∷ codes "kept 62 7" ∷ [])
    ∷ (codes "change 62 6c", codes "refused 25" ∷ [])
    ∷ (codes "lookup 62 0", codes "present 7 6b final" ∷ [])
    ∷ []
