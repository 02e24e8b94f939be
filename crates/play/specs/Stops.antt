-- Lines that are no commands.
use Rattle.std.specs.Prelude.{ℕ, List, [], ◌∷◌, ◌++◌, codes}
use Rattle.play.specs.Rows.{repeated}

abbrev pub other_lines : List (List ℕ)
other_lines =
    codes "look 61 0" ∷ codes "Head" ∷ codes " " ∷ codes " head" ∷ codes "head " ∷ codes "lookup  61 0" ∷ codes "lookup\t61 0"
    ∷ codes "head\r" ∷ codes "\r" ∷ codes " # note" ∷ codes "register 61" ∷ codes "head 0" ∷ codes "watch 61"
    ∷ codes "register 616 6b" ∷ codes "register 6g 6b" ∷ codes "register -- 6b"
    ∷ codes "close 02" ∷ codes "close +2" ∷ codes "close -2" ∷ codes "close 0x2" ∷ codes "close -"
    ∷ codes "close 18446744073709551616" ∷ codes "history 18446744073709551616 1" ∷ codes "history 0 65536"
    ∷ codes "rotate 2" ∷ codes "rotate 2 -" ∷ codes "rotate 2 00" ∷ (codes "rotate 2 " ++ repeated 33 (codes "00")) ∷ (codes "rotate " ++ repeated 32 (codes "00"))
    ∷ codes "bytes 0 0000000106" ∷ codes "bytes 4294967296 0000000106" ∷ codes "end 0"
    ∷ (codes "watch " ++ repeated 256 (codes "61") ++ codes " 6b") ∷ codes "watch - 6b"
    ∷ codes "register2 61 6b" ∷ codes "change2 61 6b Open" ∷ codes "watch2 61 6b" ∷ codes "watch2 61 - open"
    ∷ []

-- a key of 2,049 bytes
abbrev pub long_key_line : List ℕ
long_key_line = codes "watch 61 " ++ repeated 2049 (codes "6b")

-- a name and a key of which each fits in a frame, but not both
abbrev pub long_line : List ℕ
long_line = codes "register 61 " ++ repeated 65531 (codes "6b")
