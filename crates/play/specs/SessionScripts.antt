-- Scripts of other sessions: each line beside the lines that it prints. `scripts/questions/script_specs.py` writes this file.
use Rattle.std.specs.Prelude.{List, [], ◌∷◌, ◌++◌, codes}
use Rattle.play.specs.Rows.{Row, repeated}

-- Two sessions and a closing between their messages. Look-ups of epoch 0 show the latest page of their moment.
abbrev pub two_sessions : List Row
two_sessions =
    (codes "bytes 1 0000000c010005616c69636500026b31000000", codes "1: promise 1" ∷ [])
    ∷ (codes "bytes 2 00000001060000000106000000100400000000000000000005616c696365", codes "2: root 1 after 0" ∷ codes "2: root 1 after 0" ∷ codes "2: proof 1" ∷ [])
    ∷ (codes "bytes 1 100400000000000000000005616c696365", codes "1: proof 1" ∷ [])
    ∷ (codes "bytes 2 0000002907" ++ repeated 39 (codes "00") ++ codes "02", codes "2: root 2 after 1" ∷ [])
    ∷ (codes "bytes 2 0000002907" ++ repeated 31 (codes "00") ++ codes "010000000000000003", codes "2: refused 12" ∷ [])
    ∷ (codes "bytes 1 000000100400000000000000000005616c696365000000100400000000000000010005616c6963650000000e0400000000000000020003626f620000000b0500000000000000010040", codes "1: proof 2" ∷ codes "1: proof 1" ∷ codes "1: proof 2" ∷ codes "1: roots 1 2" ∷ [])
    ∷ (codes "bytes 2 0000000109", codes "2: refused 2" ∷ [])
    ∷ (codes "bytes 2 0000000c020005616c69636500026b32", codes "2: promise 2" ∷ [])
    ∷ (codes "end 1", [])
    ∷ (codes "bytes 1 0000002907" ++ repeated 39 (codes "00") ++ codes "05000000100400000000000000000005616c6963650000000b0500000000000000020002", codes "1: root 5 after 2" ∷ codes "1: proof 5" ∷ codes "1: roots 2 5" ∷ [])
    ∷ (codes "# What the client accepts of each page.", [])
    ∷ (codes "lookup 616c696365 1", codes "absent 1" ∷ [])
    ∷ (codes "lookup 616c696365 2", codes "present 2 6b31" ∷ [])
    ∷ (codes "lookup 616c696365 5", codes "present 5 6b32" ∷ [])
    ∷ (codes "lookup 616c696365 0", codes "present 5 6b32" ∷ [])
    ∷ (codes "lookup 626f62 1", codes "absent 1" ∷ [])
    ∷ (codes "lookup 626f62 2", codes "absent 2" ∷ [])
    ∷ (codes "lookup 626f62 5", codes "absent 5" ∷ [])
    ∷ (codes "lookup 626f62 0", codes "absent 5" ∷ [])
    ∷ []

-- Each refusal of the directory, as another session is told.
abbrev pub refusals_in_frames : List Row
refusals_in_frames =
    (codes "bytes 1 000000070100016100016b", codes "1: promise 1" ∷ [])
    ∷ (codes "bytes 1 000000070100016100016c", codes "1: refused 8" ∷ [])
    ∷ (codes "bytes 1 000000070200016100016b", codes "1: refused 7" ∷ [])
    ∷ (codes "bytes 1 0000000403000161", codes "1: promise 1" ∷ [])
    ∷ (codes "bytes 1 0000000403000162", codes "1: refused 13" ∷ [])
    ∷ (codes "bytes 1 00000003030000", codes "1: refused 4" ∷ [])
    ∷ (codes "bytes 1 00000006010001620000", codes "1: refused 5" ∷ [])
    ∷ (codes "bytes 1 0000000c040000000000000009000161", codes "1: refused 10" ∷ [])
    ∷ (codes "bytes 1 0000000b0500000000000000000041", codes "1: refused 15" ∷ [])
    ∷ (codes "bytes 1 0000000b0500000000000000000000", codes "1: refused 15" ∷ [])
    ∷ (codes "bytes 1 0000002907" ++ repeated 39 (codes "00") ++ codes "01", codes "1: refused 11" ∷ [])
    ∷ (codes "bytes 1 0000002907" ++ repeated 32 (codes "74") ++ codes "0000000000000002", codes "1: refused 12" ∷ [])
    ∷ (codes "bytes 1 0000002907" ++ repeated 39 (codes "00") ++ codes "02", codes "1: root 2 after 1" ∷ [])
    ∷ (codes "bytes 1 000000070100016100016b", codes "1: refused 6" ∷ [])
    ∷ (codes "bytes 1 0000000c040000000000000002000161", codes "1: proof 2" ∷ [])
    ∷ (codes "bytes 1 0000000c040000000000000000000162", codes "1: proof 2" ∷ [])
    ∷ (codes "bytes 1 0000000b0500000000000000000040", codes "1: roots 1 2" ∷ [])
    ∷ (codes "bytes 1 0000000106", codes "1: root 2 after 1" ∷ [])
    ∷ (codes "bytes 1 00000106010100" ++ repeated 256 (codes "61") ++ codes "00016b", codes "1: refused 4" ∷ [])
    ∷ (codes "bytes 1 00000807010001620801" ++ repeated 2049 (codes "6b"), codes "1: refused 5" ∷ [])
    ∷ (codes "bytes 1 000000070200016100016b", codes "1: promise 2" ∷ [])
    ∷ (codes "bytes 1 000000070200016100016c", codes "1: refused 8" ∷ [])
    ∷ []

-- The token is tested before the epoch.
abbrev pub only_the_operator_closes : List Row
only_the_operator_closes =
    (codes "bytes 1 0000002907" ++ repeated 31 (codes "00") ++ codes "010000000000000002", codes "1: refused 12" ∷ [])
    ∷ (codes "bytes 1 000000290701" ++ repeated 38 (codes "00") ++ codes "02", codes "1: refused 12" ∷ [])
    ∷ (codes "bytes 1 0000002907" ++ repeated 31 (codes "00") ++ codes "010000000000000001", codes "1: refused 12" ∷ [])
    ∷ (codes "bytes 1 0000002907" ++ repeated 39 (codes "00") ++ codes "01", codes "1: refused 11" ∷ [])
    ∷ (codes "bytes 1 0000002907" ++ repeated 39 (codes "00") ++ codes "02", codes "1: root 2 after 1" ∷ [])
    ∷ (codes "bytes 1 0000002907" ++ repeated 39 (codes "00") ++ codes "02", codes "1: refused 11" ∷ [])
    ∷ (codes "bytes 1 0000002907" ++ repeated 32 (codes "ff") ++ codes "0000000000000002", codes "1: refused 12" ∷ [])
    ∷ (codes "head", codes "root 2 after 1" ∷ [])
    ∷ []
