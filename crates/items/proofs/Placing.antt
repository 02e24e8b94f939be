-- The listed items say what the lines say.
use Rattle.std.proofs.Common.{◌≡◌, ℕ, ◌+◌, List, [], ◌∷◌, ◌++◌, Option, None, Some, IfSome, Result, Ok, Err, Bool, true, false, cond, length, refl, sym, ap, subst, ◌∙◌, append_assoc, append-nil}
use Rattle.std.specs.List.{AllByRecursion, IsDistinct}
use Rattle.std.specs.Map.{keys_of}
use Rattle.std.specs.Str.{bytes_eq}
use Rattle.std.proofs.lemmas.Cmp.{nat_list_eq_equiv}
use Rattle.prefixtree.specs.Placement.{Items, put_all, HasDistinctIndices}
use Rattle.textio.specs.declared.program_fault.ProgramFault.{ProgramFault}
use Rattle.textio.specs.declared.program_fault.ProgramFault.TheVariants.{BadItem, IndexRepeated}
use Rattle.items.specs.Items.{after_line, in_place, is_among, item_of, items_from, placement_of}
use Rattle.textio.specs.Lines.{lines_of}
use Rattle.items.specs.Listing.{ItemList, item_list, onto_item_list, IsFirstRepeat}

-- in a list of distinct indices none stands among those before it
apart_at : (P : List ℕ → Type 0) (items : Items) (item : List ℕ × List ℕ) (rest : Items) → AllByRecursion P (keys_of (items ++ item ∷ rest)) → P item.0
apart_at P [] item rest all = all.0
apart_at P (x ∷ items) item rest all = apart_at P items item rest all.1

is_among-apart : (before : Items) (item : List ℕ × List ℕ) (rest : Items) → HasDistinctIndices (before ++ item ∷ rest) → is_among item.0 before ≡ false
unfolding IsDistinct
is_among-apart [] item rest distinct = refl
is_among-apart (x ∷ before) item rest distinct =
    let apart : bytes_eq item.0 x.0 ≡ false = nat_list_eq_equiv.symm item.0 x.0 ∙ apart_at (λ y. bytes_eq x.0 y ≡ false) before item rest distinct.0 in
    rw apart (is_among-apart before item rest distinct.1)

one_more : (before : Items) (item : List ℕ × List ℕ) (rest : Items) → (before ++ item ∷ []) ++ rest ≡ before ++ item ∷ rest
one_more before item rest = append_assoc before (item ∷ []) rest

-- what is said of distinct items: all of them, or the malformed line after them
abbrev said : Items → Bool → Result Items ProgramFault
said items is_cut = cond is_cut (Err (BadItem (length items + 1))) (Ok items)

items_from-distinct : (before : Items) (lines : List (List ℕ)) → HasDistinctIndices (before ++ (item_list lines).items)
    → items_from before lines ≡ said (before ++ (item_list lines).items) (item_list lines).is_cut
items_from-distinct before [] distinct = ap (λ (items : Items). Ok items) (sym (append-nil before))
items_from-distinct before (line ∷ lines) distinct = by (item_of line) distinct (λ more. items_from-distinct more lines)
  where
    by : (item : Option (List ℕ × List ℕ)) → HasDistinctIndices (before ++ (onto_item_list item (item_list lines)).items)
        → ((more : Items) → HasDistinctIndices (more ++ (item_list lines).items) → items_from more lines ≡ said (more ++ (item_list lines).items) (item_list lines).is_cut)
        → after_line before item (λ items. items_from items lines) ≡ said (before ++ (onto_item_list item (item_list lines)).items) (onto_item_list item (item_list lines)).is_cut
    by None distinct again = ap (λ (items : Items). Err (BadItem (length items + 1))) (sym (append-nil before))
    by (Some item) distinct again =
        let new : is_among item.0 before ≡ false = is_among-apart before item (item_list lines).items distinct in
        let joined : (before ++ item ∷ []) ++ (item_list lines).items ≡ before ++ item ∷ (item_list lines).items = one_more before item (item_list lines).items in
        rw new (again (before ++ item ∷ []) (subst HasDistinctIndices (sym joined) distinct)
        ∙ ap (λ (items : Items). said items (item_list lines).is_cut) joined)

-- what is said where an index stands twice
items_from-repeat : (before : Items) (lines : List (List ℕ)) (front : Items) (item : List ℕ × List ℕ) (after : Items)
    → (item_list lines).items ≡ front ++ item ∷ after → HasDistinctIndices (before ++ front) → is_among item.0 (before ++ front) ≡ true
    → items_from before lines ≡ Err (IndexRepeated (length (before ++ front) + 1))
items_from-repeat before [] [] item after is distinct among = cc
items_from-repeat before [] (x ∷ front) item after is distinct among = cc
items_from-repeat before (line ∷ lines) front item after is distinct among = by (item_of line) front is distinct among (λ more rest. items_from-repeat more lines rest item after)
  where
    by : (found : Option (List ℕ × List ℕ)) (front : Items) → (onto_item_list found (item_list lines)).items ≡ front ++ item ∷ after
        → HasDistinctIndices (before ++ front) → is_among item.0 (before ++ front) ≡ true
        → ((more rest : Items) → (item_list lines).items ≡ rest ++ item ∷ after → HasDistinctIndices (more ++ rest) → is_among item.0 (more ++ rest) ≡ true
        → items_from more lines ≡ Err (IndexRepeated (length (more ++ rest) + 1)))
        → after_line before found (λ items. items_from items lines) ≡ Err (IndexRepeated (length (before ++ front) + 1))
    by None [] is distinct among again = cc
    by None (x ∷ front) is distinct among again = cc
    by (Some found) [] is distinct among again =
        let same : found ≡ item = cc in
        let here : is_among found.0 before ≡ true = rw (same, ← append-nil before) among in
        rw (here, append-nil before) refl
    by (Some found) (x ∷ front) is distinct among again =
        let same : found ≡ x = cc in
        let rest : (item_list lines).items ≡ front ++ item ∷ after = cc in
        let joined : (before ++ found ∷ []) ++ front ≡ before ++ x ∷ front = one_more before found front ∙ ap (λ i. before ++ i ∷ front) same in
        let new : is_among found.0 before ≡ false = is_among-apart before found front (subst HasDistinctIndices (sym (ap (λ i. before ++ i ∷ front) same)) distinct) in
        rw new (again (before ++ found ∷ []) front rest (subst HasDistinctIndices (sym joined) distinct) (ap (is_among item.0) joined ∙ among)
        ∙ ap (λ (items : Items). Err (IndexRepeated (length items + 1))) joined)

pub placing-ok : (input : Option (List ℕ)) (items placed : Items) (is_cut : Bool) → IfSome input (λ text. item_list (lines_of text) ≡ record { items = items; is_cut = is_cut })
    → is_cut ≡ false → HasDistinctIndices items → placed ≡ put_all [] items → IfSome input (λ text. placement_of text ≡ Ok placed)
placing-ok None items placed is_cut list whole distinct is = tt
placing-ok (Some text) items placed is_cut list whole distinct is =
    let same : (item_list (lines_of text)).items ≡ items = ap (λ (l : ItemList). l.items) list in
    let uncut : (item_list (lines_of text)).is_cut ≡ false = ap (λ (l : ItemList). l.is_cut) list ∙ whole in
    ap in_place (items_from-distinct [] (lines_of text) (subst HasDistinctIndices (sym same) distinct)) ∙ rw (uncut, same) (ap (λ (p : Items). Ok p) (sym is))

pub placing-cut : (input : Option (List ℕ)) (items : Items) (is_cut : Bool) → IfSome input (λ text. item_list (lines_of text) ≡ record { items = items; is_cut = is_cut })
    → is_cut ≡ true → HasDistinctIndices items → IfSome input (λ text. placement_of text ≡ Err (BadItem (length items + 1)))
placing-cut None items is_cut list cut distinct = tt
placing-cut (Some text) items is_cut list cut distinct =
    let same : (item_list (lines_of text)).items ≡ items = ap (λ (l : ItemList). l.items) list in
    let ends : (item_list (lines_of text)).is_cut ≡ true = ap (λ (l : ItemList). l.is_cut) list ∙ cut in
    ap in_place (items_from-distinct [] (lines_of text) (subst HasDistinctIndices (sym same) distinct)) ∙ rw (ends, same) refl

pub placing-repeat : (input : Option (List ℕ)) (items : Items) (is_cut : Bool) (place : ℕ) → IfSome input (λ text. item_list (lines_of text) ≡ record { items = items; is_cut = is_cut })
    → IsFirstRepeat place items → IfSome input (λ text. placement_of text ≡ Err (IndexRepeated (place + 1)))
placing-repeat None items is_cut place list repeat = tt
placing-repeat (Some text) items is_cut place list (front, item, after, split, at, distinct, among) =
    ap in_place (items_from-repeat [] (lines_of text) front item after (ap (λ (l : ItemList). l.items) list ∙ split) distinct among) ∙ rw at refl
