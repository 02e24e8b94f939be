-- Scripts with monitors: each line beside the lines that it prints. `scripts/questions/script_specs.py` writes this file.
use Rattle.std.specs.Prelude.{List, [], ◌∷◌, ◌++◌, codes}
use Rattle.play.specs.Rows.{Row, repeated}

-- A change that the owner did not ask for.
abbrev pub alarm : List Row
alarm =
    (codes "watch 61 -", codes "kept 61 1" ∷ [])
    ∷ (codes "register 61 6b", codes "promise 1" ∷ [])
    ∷ (codes "close 2", codes "root 2 after 1" ∷ codes "kept 61 2" ∷ [])
    ∷ (codes "bytes 1 000000070200016100016c", codes "1: promise 2" ∷ [])
    ∷ (codes "close 5", codes "root 5 after 2" ∷ codes "alarm 61 5 6c" ∷ [])
    ∷ (codes "# The change stays an alarm in each epoch, until the owner changes the key.", [])
    ∷ (codes "close 6", codes "root 6 after 5" ∷ codes "alarm 61 6 6c" ∷ [])
    ∷ (codes "change 61 6b", codes "promise 6" ∷ [])
    ∷ (codes "close 7", codes "root 7 after 6" ∷ codes "kept 61 7" ∷ [])
    ∷ (codes "close 8", codes "root 8 after 7" ∷ codes "kept 61 8" ∷ [])
    ∷ []

-- The owner's change waits, so nobody else's is taken.
abbrev pub change_by_another_session : List Row
change_by_another_session =
    (codes "watch 61 -", codes "kept 61 1" ∷ [])
    ∷ (codes "register 61 6b", codes "promise 1" ∷ [])
    ∷ (codes "close 2", codes "root 2 after 1" ∷ codes "kept 61 2" ∷ [])
    ∷ (codes "change 61 6c", codes "promise 2" ∷ [])
    ∷ (codes "bytes 1 000000070200016100016d", codes "1: refused 8" ∷ [])
    ∷ (codes "close 4", codes "root 4 after 2" ∷ codes "kept 61 4" ∷ [])
    ∷ []

-- Monitors begin at the head of their line, and print in the order of their lines.
abbrev pub monitors : List Row
monitors =
    (codes "register 61 6b", codes "promise 1" ∷ [])
    ∷ (codes "watch 61 -", codes "kept 61 1" ∷ [])
    ∷ (codes "close 2", codes "root 2 after 1" ∷ codes "alarm 61 2 6b" ∷ [])
    ∷ (codes "watch 61 6b", codes "kept 61 2" ∷ [])
    ∷ (codes "watch 62 -", codes "kept 62 2" ∷ [])
    ∷ (codes "watch 61 -", codes "alarm 61 2 6b" ∷ [])
    ∷ (codes "close 3", codes "root 3 after 2" ∷ codes "alarm 61 3 6b" ∷ codes "kept 61 3" ∷ codes "kept 62 3" ∷ codes "alarm 61 3 6b" ∷ [])
    ∷ (codes "# A promise goes to the monitors that are there, and only where it is new.", [])
    ∷ (codes "change 61 6c", codes "promise 3" ∷ [])
    ∷ (codes "watch 61 6b", codes "kept 61 3" ∷ [])
    ∷ (codes "promise 61", codes "promise 3" ∷ [])
    ∷ (codes "close 4", codes "root 4 after 3" ∷ codes "kept 61 4" ∷ codes "kept 61 4" ∷ codes "kept 62 4" ∷ codes "kept 61 4" ∷ codes "alarm 61 4 6c" ∷ [])
    ∷ (codes "register 62 6d", codes "promise 4" ∷ [])
    ∷ (codes "close 9", codes "root 9 after 4" ∷ codes "kept 61 9" ∷ codes "kept 61 9" ∷ codes "kept 62 9" ∷ codes "kept 61 9" ∷ codes "alarm 61 9 6c" ∷ [])
    ∷ (codes "watch 62 6d", codes "kept 62 9" ∷ [])
    ∷ (codes "lookup 62 0", codes "present 9 6d" ∷ [])
    ∷ (codes "close 10", codes "root 10 after 9" ∷ codes "kept 61 10" ∷ codes "kept 61 10" ∷ codes "kept 62 10" ∷ codes "kept 61 10" ∷ codes "alarm 61 10 6c" ∷ codes "kept 62 10" ∷ [])
    ∷ []

-- The promise that another session got is told again, but handed to no monitor.
abbrev pub promise_of_another_session : List Row
promise_of_another_session =
    (codes "watch 61 -", codes "kept 61 1" ∷ [])
    ∷ (codes "bytes 1 000000070100016100016b", codes "1: promise 1" ∷ [])
    ∷ (codes "promise 61", codes "promise 1" ∷ [])
    ∷ (codes "close 2", codes "root 2 after 1" ∷ codes "alarm 61 2 6b" ∷ [])
    ∷ (codes "watch 61 6b", codes "kept 61 2" ∷ [])
    ∷ (codes "change 61 6c", codes "promise 2" ∷ [])
    ∷ (codes "close 3", codes "root 3 after 2" ∷ codes "kept 61 3" ∷ codes "kept 61 3" ∷ [])
    ∷ (codes "lookup 61 3", codes "present 3 6c" ∷ [])
    ∷ []

-- The replies come first, then each monitor goes through all new epochs.
abbrev pub several_closings_in_one_piece : List Row
several_closings_in_one_piece =
    (codes "watch 61 -", codes "kept 61 1" ∷ [])
    ∷ (codes "watch 62 -", codes "kept 62 1" ∷ [])
    ∷ (codes "register 61 6b", codes "promise 1" ∷ [])
    ∷ (codes "bytes 1 0000002907" ++ repeated 39 (codes "00") ++ codes "02000000070200016100016c0000002907" ++ repeated 39 (codes "00") ++ codes "040000002907" ++ repeated 39 (codes "00") ++ codes "040000002907" ++ repeated 39 (codes "00") ++ codes "05", codes "1: root 2 after 1" ∷ codes "1: promise 2" ∷ codes "1: root 4 after 2" ∷ codes "1: refused 11" ∷ codes "1: root 5 after 4" ∷ codes "kept 61 2" ∷ codes "alarm 61 4 6c" ∷ codes "alarm 61 5 6c" ∷ codes "kept 62 2" ∷ codes "kept 62 4" ∷ codes "kept 62 5" ∷ [])
    ∷ (codes "lookup 61 2", codes "present 2 6b" ∷ [])
    ∷ (codes "lookup 61 4", codes "present 4 6c" ∷ [])
    ∷ (codes "head", codes "root 5 after 4" ∷ [])
    ∷ []
