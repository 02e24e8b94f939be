-- Scripts on rotations: each line beside the lines that it prints. `scripts/questions/script_specs.py` writes this file.
use Rattle.std.specs.Prelude.{List, [], ◌∷◌, ◌++◌, codes}
use Rattle.play.specs.Rows.{Row, repeated}

-- The page of an epoch may have another nonce. Proofs of the pages before keep theirs.
abbrev pub rotations : List Row
rotations =
    (codes "register 61 6b", codes "promise 1" ∷ [])
    ∷ (codes "rotate 2 01" ++ repeated 31 (codes "00"), codes "root 2 after 1" ∷ [])
    ∷ (codes "lookup 61 2", codes "present 2 6b" ∷ [])
    ∷ (codes "lookup 61 1", codes "absent 1" ∷ [])
    ∷ (codes "rotate 2 01" ++ repeated 31 (codes "00"), codes "refused 11" ∷ [])
    ∷ (codes "bytes 1 0000004908" ++ repeated 39 (codes "00") ++ codes "03" ++ repeated 32 (codes "00"), codes "1: root 3 after 2" ∷ [])
    ∷ (codes "bytes 1 0000004908" ++ repeated 39 (codes "00") ++ codes "0301" ++ repeated 31 (codes "00"), codes "1: refused 11" ∷ [])
    ∷ (codes "bytes 1 0000004908" ++ repeated 32 (codes "74") ++ codes "000000000000000301" ++ repeated 31 (codes "00"), codes "1: refused 12" ∷ [])
    ∷ (codes "bytes 1 0000004908" ++ repeated 39 (codes "00") ++ codes "0401" ++ repeated 26 (codes "00"), [])
    ∷ (codes "# A closing keeps the nonce, and an equal one is no fault.", [])
    ∷ (codes "watch 61 6b", codes "kept 61 3" ∷ [])
    ∷ (codes "change 61 6c", codes "promise 3" ∷ [])
    ∷ (codes "close 5", codes "root 5 after 3" ∷ codes "kept 61 5" ∷ [])
    ∷ (codes "lookup 61 5", codes "present 5 6c" ∷ [])
    ∷ (codes "lookup 61 3", codes "present 3 6b" ∷ [])
    ∷ (codes "rotate 6 " ++ repeated 32 (codes "00"), codes "root 6 after 5" ∷ codes "kept 61 6" ∷ [])
    ∷ (codes "rotate 7 " ++ repeated 32 (codes "00"), codes "root 7 after 6" ∷ codes "kept 61 7" ∷ [])
    ∷ (codes "lookup 61 0", codes "present 7 6c" ∷ [])
    ∷ (codes "lookup 61 2", codes "present 2 6b" ∷ [])
    ∷ (codes "history 0 64", codes "roots 1 2 3 5 6 7" ∷ [])
    ∷ []

-- Only the operator rotates, as a session is told.
abbrev pub rotations_in_frames : List Row
rotations_in_frames =
    (codes "bytes 1 0000004908" ++ repeated 39 (codes "00") ++ codes "02" ++ repeated 32 (codes "00"), codes "1: root 2 after 1" ∷ [])
    ∷ (codes "bytes 1 0000004908" ++ repeated 31 (codes "00") ++ codes "010000000000000003" ++ repeated 32 (codes "00"), codes "1: refused 12" ∷ [])
    ∷ (codes "head", codes "root 2 after 1" ∷ [])
    ∷ []
