-- Lines behind whole lines.
use Rattle.std.proofs.Common.{◌≡◌, ℕ, ◌+◌, Bool, true, false, List, [], ◌∷◌, ◌++◌, map, Result, Ok, refl, sym, ap, subst, ◌∙◌, inl, inr, append_assoc, append-nil}
use Rattle.std.specs.Prelude.{◌==◌, if◌then◌else◌}
use Rattle.textio.specs.Lines.{lines_of, onto_first}
use Rattle.memory.specs.Lines.{item_line}
use Rattle.memory.specs.Memories.{Memory, nothing}
use Rattle.memory.specs.Texts.{items_text, HasWholeLines, Recalls, Spells, TakesAll}
use Rattle.memory.specs.declared.item.Item.{Item}
use Rattle.memory.specs.declared.read_fault.ReadFault.{ReadFault}
use Rattle.memory.proofs.Recalled.{lines-items, recalls-item}
use Rattle.memory.proofs.Taken.{sound-taken}

-- ---- lines

-- there is a line
abbrev IsSome : List (List ℕ) → Type 0
IsSome lines = (line : List ℕ) × (rest : List (List ℕ)) × (lines ≡ line ∷ rest)

some-first : (is_lf : Bool) (byte : ℕ) (lines : List (List ℕ)) → IsSome lines → IsSome (if is_lf then [] ∷ lines else onto_first byte lines)
some-first true byte lines some = ([], lines, refl)
some-first false byte lines (line, rest, is) = (byte ∷ line, rest, ap (onto_first byte) is)

some-whole : (front : List ℕ) → IsSome (lines_of (front ++ 10 ∷ []))
some-whole [] = ([], [], refl)
some-whole (byte ∷ front) = some-first (byte == 10) byte (lines_of (front ++ 10 ∷ [])) (some-whole front)

first-append : (is_lf : Bool) (byte : ℕ) (lines more all : List (List ℕ)) → IsSome lines → all ≡ lines ++ more
    → (if is_lf then [] ∷ all else onto_first byte all) ≡ (if is_lf then [] ∷ lines else onto_first byte lines) ++ more
first-append true byte lines more all some is = ap (λ (ls : List (List ℕ)). [] ∷ ls) is
first-append false byte lines more all (line, rest, one) is =
    let P = λ (ls : List (List ℕ)). onto_first byte (ls ++ more) in
    let Q = λ (ls : List (List ℕ)). onto_first byte ls ++ more in
    ap (onto_first byte) is ∙ ap P one ∙ sym (ap Q one)

lines-whole : (front more : List ℕ) → lines_of (front ++ 10 ∷ more) ≡ lines_of (front ++ 10 ∷ []) ++ lines_of more
lines-whole [] more = refl
lines-whole (byte ∷ front) more =
    first-append (byte == 10) byte (lines_of (front ++ 10 ∷ [])) (lines_of more) (lines_of (front ++ 10 ∷ more)) (some-whole front) (lines-whole front more)

pub lines-behind : (text more : List ℕ) → HasWholeLines text → lines_of (text ++ more) ≡ lines_of text ++ lines_of more
lines-behind text more (inl none) =
    let P = λ (t : List ℕ). lines_of (t ++ more) in
    let Q = λ (t : List ℕ). lines_of t ++ lines_of more in
    ap P none ∙ sym (ap Q none)
lines-behind text more (inr (front, is)) =
    let P = λ (t : List ℕ). lines_of (t ++ more) in
    let Q = λ (t : List ℕ). lines_of t ++ lines_of more in
    ap P is ∙ ap lines_of (append_assoc front (10 ∷ []) more) ∙ lines-whole front more ∙ sym (ap Q is)

-- ---- whole lines

pub whole-items : (items : List Item) → HasWholeLines (items_text items)
whole-items [] = inl refl
whole-items (item ∷ items) = by (whole-items items)
  where
    line : List ℕ
    line = item_line item ++ 10 ∷ []

    by : HasWholeLines (items_text items) → HasWholeLines (line ++ items_text items)
    by (inl none) = inr (item_line item, ap (λ (t : List ℕ). line ++ t) none ∙ append-nil line)
    by (inr (front, is)) = inr (line ++ front, ap (λ (t : List ℕ). line ++ t) is ∙ sym (append_assoc line front (10 ∷ [])))

pub whole-more : (text : List ℕ) (items : List Item) → HasWholeLines text → HasWholeLines (text ++ items_text items)
whole-more text items whole = by (whole-items items)
  where
    by : HasWholeLines (items_text items) → HasWholeLines (text ++ items_text items)
    by (inl none) = subst HasWholeLines (sym (ap (λ (t : List ℕ). text ++ t) none ∙ append-nil text)) whole
    by (inr (front, is)) = inr (text ++ front, ap (λ (t : List ℕ). text ++ t) is ∙ sym (append_assoc text front (10 ∷ [])))

-- ---- what more lines spell

recalls-more : (lines more : List (List ℕ)) (number : ℕ) (before middle : Memory) (result : Result Memory ReadFault) → Recalls number lines before (Ok middle)
    → ((n : ℕ) → Recalls n more middle result) → Recalls number (lines ++ more) before result
recalls-more [] more number before middle result same behind =
    let is : middle ≡ before = cc in
    subst (λ (m : Memory). Recalls number more m result) is (behind number)
recalls-more ([] ∷ lines) more number before middle result recalls behind = recalls-more lines more (number + 1) before middle result recalls behind
recalls-more ((byte ∷ line) ∷ lines) more number before middle result (inl (item, after, is, takes, rest)) behind =
    inl (item, after, is, takes, recalls-more lines more (number + 1) after middle result rest behind)
recalls-more ((byte ∷ line) ∷ lines) more number before middle result (inr (none, same)) behind = absurd cc

recalls-news : (news : List Item) (number : ℕ) (before after : Memory) → TakesAll news before after → Recalls number (map item_line news) before (Ok after)
recalls-news [] number before after same = ap Ok same
recalls-news (item ∷ news) number before after (middle, sound, takes, more) =
    recalls-item number (item_line item) (map item_line news) item before middle (Ok after) (sound, inl refl) takes (recalls-news news (number + 1) middle after more)

pub spells-more : (text : List ℕ) (before after : Memory) (news : List Item) → HasWholeLines text → Spells text (Ok before) → TakesAll news before after
    → Spells (text ++ items_text news) (Ok after)
spells-more text before after news whole spells takes =
    let lines : lines_of (text ++ items_text news) ≡ lines_of text ++ map item_line news =
    lines-behind text (items_text news) whole ∙ ap (λ (ls : List (List ℕ)). lines_of text ++ ls) (lines-items news (sound-taken news before after takes)) in
    subst (λ (ls : List (List ℕ)). Recalls 1 ls nothing (Ok after)) (sym lines)
    (recalls-more (lines_of text) (map item_line news) 1 nothing before (Ok after) spells (λ n. recalls-news news n before after takes))
