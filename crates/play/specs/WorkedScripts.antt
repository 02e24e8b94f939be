-- Worked scripts: each line beside the lines that it prints. `scripts/questions/script_specs.py` writes this file.
use Rattle.std.specs.Prelude.{List, [], ◌∷◌, ◌++◌, codes}
use Rattle.play.specs.Rows.{Row, repeated}

-- A name is shown from the next epoch on.
abbrev pub two_epochs : List Row
two_epochs =
    (codes "register 616c696365 6b31", codes "promise 1" ∷ [])
    ∷ (codes "lookup 616c696365 0", codes "absent 1" ∷ [])
    ∷ (codes "close 2", codes "root 2 after 1" ∷ [])
    ∷ (codes "lookup 616c696365 0", codes "present 2 6b31" ∷ [])
    ∷ (codes "lookup 616c696365 1", codes "absent 1" ∷ [])
    ∷ []

-- A name is registered once, and its promise is told again while it waits.
abbrev pub promises : List Row
promises =
    (codes "register 61 6b", codes "promise 1" ∷ [])
    ∷ (codes "register 61 6b", codes "refused 8" ∷ [])
    ∷ (codes "promise 61", codes "promise 1" ∷ [])
    ∷ (codes "close 2", codes "root 2 after 1" ∷ [])
    ∷ (codes "register 61 6b", codes "refused 6" ∷ [])
    ∷ (codes "promise 61", codes "refused 13" ∷ [])
    ∷ []

-- Only a name that the latest page has is changed, and once in an epoch.
abbrev pub changes : List Row
changes =
    (codes "change 62 6b", codes "refused 7" ∷ [])
    ∷ (codes "register 61 6b", codes "promise 1" ∷ [])
    ∷ (codes "change 61 6c", codes "refused 7" ∷ [])
    ∷ (codes "close 2", codes "root 2 after 1" ∷ [])
    ∷ (codes "change 61 6c", codes "promise 2" ∷ [])
    ∷ (codes "change 61 6d", codes "refused 8" ∷ [])
    ∷ (codes "register 61 6d", codes "refused 6" ∷ [])
    ∷ []

-- Epochs only rise, up to the greatest. Nothing is asked for behind it.
abbrev pub greatest_epoch : List Row
greatest_epoch =
    (codes "watch 61 -", codes "kept 61 1" ∷ [])
    ∷ (codes "close 0", codes "refused 11" ∷ [])
    ∷ (codes "close 1", codes "refused 11" ∷ [])
    ∷ (codes "close 18446744073709551615", codes "root 18446744073709551615 after 1" ∷ codes "kept 61 18446744073709551615" ∷ [])
    ∷ (codes "close 18446744073709551615", codes "refused 11" ∷ [])
    ∷ (codes "close 2", codes "refused 11" ∷ [])
    ∷ (codes "register 61 6b", codes "promise 18446744073709551615" ∷ [])
    ∷ (codes "promise 61", codes "promise 18446744073709551615" ∷ [])
    ∷ (codes "lookup 61 18446744073709551615", codes "absent 18446744073709551615" ∷ [])
    ∷ (codes "lookup 61 0", codes "absent 18446744073709551615" ∷ [])
    ∷ (codes "lookup 61 18446744073709551614", codes "refused 10" ∷ [])
    ∷ (codes "history 18446744073709551615 64", codes "roots 18446744073709551615" ∷ [])
    ∷ (codes "history 18446744073709551614 1", codes "roots 18446744073709551615" ∷ [])
    ∷ (codes "history 0 1", codes "roots 1" ∷ [])
    ∷ (codes "history 2 1", codes "roots 18446744073709551615" ∷ [])
    ∷ (codes "head", codes "root 18446744073709551615 after 1" ∷ [])
    ∷ (codes "watch 62 6b", codes "alarm 62 18446744073709551615 absent" ∷ [])
    ∷ (codes "bytes 1 0000002907" ++ repeated 32 (codes "00") ++ codes "ffffffffffffffff", codes "1: refused 11" ∷ [])
    ∷ []

-- From 1 to 64 roots are asked for, and fewer told only where there are no more.
abbrev pub limits_of_histories : List Row
limits_of_histories =
    (codes "history 0 65", codes "refused 15" ∷ [])
    ∷ (codes "history 0 0", codes "refused 15" ∷ [])
    ∷ (codes "history 0 65535", codes "refused 15" ∷ [])
    ∷ (codes "history 0 64", codes "roots 1" ∷ [])
    ∷ (codes "history 9 1", codes "roots" ∷ [])
    ∷ (codes "lookup 61 5", codes "refused 10" ∷ [])
    ∷ (codes "close 5", codes "root 5 after 1" ∷ [])
    ∷ (codes "close 9", codes "root 9 after 5" ∷ [])
    ∷ (codes "history 0 2", codes "roots 1 5" ∷ [])
    ∷ (codes "history 2 64", codes "roots 5 9" ∷ [])
    ∷ (codes "history 9 1", codes "roots 9" ∷ [])
    ∷ (codes "history 10 64", codes "roots" ∷ [])
    ∷ (codes "history 5 1", codes "roots 5" ∷ [])
    ∷ (codes "history 6 1", codes "roots 9" ∷ [])
    ∷ (codes "history 18446744073709551615 64", codes "roots" ∷ [])
    ∷ []

-- A message takes its place when its last byte arrives, whatever other sessions send between.
abbrev pub half_messages : List Row
half_messages =
    (codes "bytes 1 0000000701", [])
    ∷ (codes "bytes 2 0000002907" ++ repeated 39 (codes "00") ++ codes "02", codes "2: root 2 after 1" ∷ [])
    ∷ (codes "bytes 1 00016100016b", codes "1: promise 2" ∷ [])
    ∷ (codes "lookup 61 2", codes "absent 2" ∷ [])
    ∷ (codes "close 3", codes "root 3 after 2" ∷ [])
    ∷ (codes "lookup 61 3", codes "present 3 6b" ∷ [])
    ∷ (codes "# A look-up and a history that are cut, around a closing.", [])
    ∷ (codes "bytes 3 0000000c0400000000000000000001", [])
    ∷ (codes "bytes 4 0000000b0500000000", [])
    ∷ (codes "bytes 2 0000002907" ++ repeated 39 (codes "00") ++ codes "07", codes "2: root 7 after 3" ∷ [])
    ∷ (codes "bytes 3 61", codes "3: proof 7" ∷ [])
    ∷ (codes "bytes 4 000000020040", codes "4: roots 2 3 7" ∷ [])
    ∷ []

-- A bad length is refused once. Then the session prints nothing, until it is ended and opened again.
abbrev pub failed_streams : List Row
failed_streams =
    (codes "bytes 1 00000000", codes "1: refused 1" ∷ [])
    ∷ (codes "bytes 1 0000000106", [])
    ∷ (codes "bytes 2 0000000106", codes "2: root 1 after 0" ∷ [])
    ∷ (codes "bytes 3 00010001", codes "3: refused 1" ∷ [])
    ∷ (codes "bytes 4 000000010600000000", codes "4: root 1 after 0" ∷ codes "4: refused 1" ∷ [])
    ∷ (codes "bytes 4 0000000106", [])
    ∷ (codes "bytes 5 00010000", [])
    ∷ (codes "bytes 1 -", [])
    ∷ (codes "end 1", [])
    ∷ (codes "bytes 1 0000000106", codes "1: root 1 after 0" ∷ [])
    ∷ (codes "end 4", [])
    ∷ (codes "end 4", [])
    ∷ (codes "bytes 4 00", [])
    ∷ (codes "bytes 4 000001", [])
    ∷ (codes "bytes 4 06", codes "4: root 1 after 0" ∷ [])
    ∷ (codes "bytes 5 06", [])
    ∷ (codes "bytes 6 ffffffff06", codes "6: refused 1" ∷ [])
    ∷ (codes "bytes 6 0000000106", [])
    ∷ (codes "head", codes "root 1 after 0" ∷ [])
    ∷ []

-- Each message of a piece is answered. One of another kind or form is refused, and the session goes on.
abbrev pub messages_in_one_piece : List Row
messages_in_one_piece =
    (codes "bytes 1 000000010600000001060000000106", codes "1: root 1 after 0" ∷ codes "1: root 1 after 0" ∷ codes "1: root 1 after 0" ∷ [])
    ∷ (codes "bytes 1 0000000109", codes "1: refused 2" ∷ [])
    ∷ (codes "bytes 1 000000020600", codes "1: refused 3" ∷ [])
    ∷ (codes "bytes 1 0000000106", codes "1: root 1 after 0" ∷ [])
    ∷ (codes "bytes 1 000000010000000001810000000109", codes "1: refused 2" ∷ codes "1: refused 2" ∷ codes "1: refused 2" ∷ [])
    ∷ (codes "bytes 1 00000001ff0000000106", codes "1: refused 2" ∷ codes "1: root 1 after 0" ∷ [])
    ∷ []

-- Three messages, a byte a piece.
abbrev pub messages_byte_by_byte : List Row
messages_byte_by_byte =
    (codes "bytes 1 00", [])
    ∷ (codes "bytes 1 00", [])
    ∷ (codes "bytes 1 00", [])
    ∷ (codes "bytes 1 01", [])
    ∷ (codes "bytes 1 06", codes "1: root 1 after 0" ∷ [])
    ∷ (codes "bytes 1 00", [])
    ∷ (codes "bytes 1 00", [])
    ∷ (codes "bytes 1 00", [])
    ∷ (codes "bytes 1 01", [])
    ∷ (codes "bytes 1 06", codes "1: root 1 after 0" ∷ [])
    ∷ (codes "bytes 1 00", [])
    ∷ (codes "bytes 1 00", [])
    ∷ (codes "bytes 1 00", [])
    ∷ (codes "bytes 1 01", [])
    ∷ (codes "bytes 1 06", codes "1: root 1 after 0" ∷ [])
    ∷ []
