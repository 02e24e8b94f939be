-- Scripts that no directory with real indices can play, and one more with a monitor: each line beside the lines
-- that it prints.
use Rattle.std.specs.Prelude.{List, [], ◌∷◌, codes}
use Rattle.play.specs.Rows.{Row}

-- Two names have one index. The second is not registered while the first is there. That a page lacks it, no
-- reply shows, and a monitor of it does not come past the page.
abbrev pub one_index : List Row
one_index =
    (codes "watch 62 -", codes "kept 62 1" ∷ [])
    ∷ (codes "register 61 6b", codes "promise 1" ∷ [])
    ∷ (codes "register 62 6b", codes "refused 9" ∷ [])
    ∷ (codes "lookup 62 0", codes "absent 1" ∷ [])
    ∷ (codes "close 2", codes "root 2 after 1" ∷ codes "client refuses proof 5" ∷ [])
    ∷ (codes "lookup 62 0", codes "client refuses proof 5" ∷ [])
    ∷ (codes "lookup 61 0", codes "present 2 6b" ∷ [])
    ∷ (codes "bytes 1 0000000c040000000000000000000162", codes "1: proof 2" ∷ [])
    ∷ (codes "watch 62 -", codes "client refuses proof 5" ∷ [])
    ∷ (codes "watch 61 6b", codes "kept 61 2" ∷ [])
    ∷ (codes "close 3", codes "root 3 after 2" ∷ codes "client refuses proof 5" ∷ codes "client refuses proof 5" ∷ codes "kept 61 3" ∷ [])
    ∷ []

-- The owner expects a key that is not there yet.
abbrev pub absence : List Row
absence =
    (codes "watch 61 6b", codes "alarm 61 1 absent" ∷ [])
    ∷ (codes "close 2", codes "root 2 after 1" ∷ codes "alarm 61 2 absent" ∷ [])
    ∷ (codes "register 61 6b", codes "promise 2" ∷ [])
    ∷ (codes "close 3", codes "root 3 after 2" ∷ codes "kept 61 3" ∷ [])
    ∷ []
