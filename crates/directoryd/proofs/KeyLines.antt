-- A loop over the lines of a file of keys, by the lines that are left.
use Rattle.std.proofs.Common.{subst, ◌≡◌, refl, sym, List, [], ◌∷◌, true, false, Some, None}
use Rattle.std.specs.Prelude.{All}
use Rattle.std.specs.Borrow.{Bor}
use Rattle.std.specs.declared.str.Lines.{Lines}
use Rattle.std.specs.Str.Iter.{lines_steps}
use Rattle.clap.specs.Words.{Text}
use Rattle.std.proofs.lemmas.Iterator.{YieldsList}
use Rattle.std.proofs.lemmas.List.Elements.{All-cons, All-head, All-nil, All-tail}
use Rattle.directoryd.specs.KeyFiles.{gives, is_key_line, key_among, value_in}

-- the lines that such a loop has before it
abbrev pub Leaves : Lines → List Text → Type 0
Leaves = YieldsList lines_steps (λ line. line.now)

-- The next of them is the one that comes, and the others are left.
pub next : (run after : Lines) (line : Bor Text) (left : List Text) → Leaves run left → lines_steps run (Some line) after
    → (more : List Text) × Leaves after more × (left ≡ line.now ∷ more)
next run after line [] leaves comes = absurd (leaves.runs line after comes)
next run after line (first ∷ more) leaves comes =
    let both = leaves.runs.1 line after comes in
    (more, record { runs = both.1 }, λ i. sym both.0 i ∷ more)

-- At the end none is left.
pub ended : (run after : Lines) (left : List Text) → Leaves run left → lines_steps run None after → left ≡ []
ended run after [] leaves ends = refl
ended run after (first ∷ more) leaves ends = absurd (leaves.runs.0 after ends)

-- what they have for an option: the value of the next one, if that gives it one, else what the others have
pub key_next : (option line : Text) (left more : List Text) → left ≡ line ∷ more → gives option line ≡ true → Some (value_in line) ≡ key_among option left
key_next option line left more is given = rw (is, given) refl

pub key_later : (option line : Text) (left more : List Text) → left ≡ line ∷ more → gives option line ≡ false → key_among option left ≡ key_among option more
key_later option line left more is other = rw (is, other) refl

-- each is a line of a key, if the next one is, and the others are
pub all_next : (line : Text) (left more : List Text) → left ≡ line ∷ more → is_key_line line ≡ true → All (λ l. is_key_line l ≡ true) more → All (λ l. is_key_line l ≡ true) left
all_next line left more is key others = rw is (All-cons (λ l. is_key_line l ≡ true) line more key others)

pub all_later : (line : Text) (left more : List Text) → left ≡ line ∷ more → All (λ l. is_key_line l ≡ true) left → (is_key_line line ≡ true) × All (λ l. is_key_line l ≡ true) more
all_later line left more is keys =
    let both : All (λ l. is_key_line l ≡ true) (line ∷ more) = subst (All (λ l. is_key_line l ≡ true)) is keys in
    (All-head (λ l. is_key_line l ≡ true) line more both, All-tail (λ l. is_key_line l ≡ true) line more both)

-- none is not one
pub all_none : (left : List Text) → left ≡ [] → All (λ l. is_key_line l ≡ true) left
all_none left is = rw is (All-nil (λ l. is_key_line l ≡ true))
