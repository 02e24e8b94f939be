-- Items are listed line by line.
use Rattle.std.proofs.Common.{◌≡◌, ℕ, List, [], ◌∷◌, ◌++◌, Option, None, Some, IfSome, true, false, length, take, refl, sym, ap, ◌∙◌, arith, append_assoc, append-nil, ne_eqb, take_all, length-take-le, inl, inr}
use Rattle.std.proofs.lemmas.Bool.{cases_lt}
use Rattle.std.specs.Prelude.{⊤, IsSomeAnd}
use Rattle.prefixtree.specs.Placement.{Items}
use Rattle.items.specs.Items.{item_of}
use Rattle.std.specs.Io.KnownBytes.{Keeps}
use Rattle.textio.specs.Lines.{lines_of, TakesLine}
use Rattle.items.specs.NextLine.{TakesNext}
use Rattle.items.specs.declared.listing.NextLine.TheVariants.{Item, Malformed, End}
use Rattle.items.specs.Listing.{ItemList, item_list, onto_item_list}

-- the items before, and then those of the lines that are left
abbrev pub onto_all : Items → ItemList → ItemList
onto_all before rest = record { items = before ++ rest.items; is_cut = rest.is_cut }

-- the items so far and those of what is left are those of the input
abbrev pub IsListedSoFar : Option (List ℕ) → Option (List ℕ) → Items → Type 0
IsListedSoFar None left items = ⊤
IsListedSoFar (Some input) left items = IsSomeAnd left (λ rest. item_list (lines_of input) ≡ onto_all items (item_list (lines_of rest)))

pub IsListedSoFar-none : (input : Option (List ℕ)) → IsListedSoFar input input []
IsListedSoFar-none None = tt
IsListedSoFar-none (Some input) = refl

not_item : (line : List ℕ) → (length line ≡ 129 → ⊥) → item_of line ≡ None
unfolding item_of
not_item line h = rw (ne_eqb (length line) 129 h) refl

-- a line is an item exactly where its first 130 bytes are: one that is longer is none, nor are they
item_of-take : (line : List ℕ) → item_of (take 130 line) ≡ item_of line
item_of-take line = elim (cases_lt (length line) 131) [
  | inl h ↦ ap item_of (take_all 130 line (omega arith))
  | inr h ↦
      let kept : length (take 130 line) ≡ 130 = length-take-le 130 line (omega arith) in
      not_item (take 130 line) (λ e. omega arith) ∙ sym (not_item line (λ e. omega arith))
]

-- ---- a line that was copied

pub TakesNext-item : (input mid left : Option (List ℕ)) (kept : List ℕ) (item : List ℕ × List ℕ) → Keeps input mid
    → TakesLine 130 mid left (Some kept) → item_of kept ≡ Some item → TakesNext input left (Item item)
TakesNext-item None mid left kept item keeps line is = tt
TakesNext-item (Some input) None left kept item keeps line is = absurd keeps
TakesNext-item (Some input) (Some same) None kept item keeps line is = absurd line
TakesNext-item (Some input) (Some same) (Some rest) kept item keeps (whole, first, beginning) is =
    (whole, ap lines_of (sym keeps) ∙ first, sym (item_of-take whole) ∙ ap item_of (sym beginning) ∙ is)

pub TakesNext-malformed : (input mid left : Option (List ℕ)) (kept : List ℕ) → Keeps input mid
    → TakesLine 130 mid left (Some kept) → item_of kept ≡ None → TakesNext input left Malformed
TakesNext-malformed None mid left kept keeps line is = tt
TakesNext-malformed (Some input) None left kept keeps line is = absurd keeps
TakesNext-malformed (Some input) (Some same) None kept keeps line is = absurd line
TakesNext-malformed (Some input) (Some same) (Some rest) kept keeps (whole, first, beginning) is =
    (whole, lines_of rest, ap lines_of (sym keeps) ∙ first, sym (item_of-take whole) ∙ ap item_of (sym beginning) ∙ is)

pub TakesNext-end : (input mid left : Option (List ℕ)) → Keeps input mid → TakesLine 130 mid left None → TakesNext input left End
TakesNext-end None mid left keeps line = tt
TakesNext-end (Some input) None left keeps line = absurd keeps
TakesNext-end (Some input) (Some same) left keeps line = sym keeps ∙ line.0

-- ---- the items so far, and one more line

pub IsListedSoFar-more : (input mid left : Option (List ℕ)) (items : Items) (item : List ℕ × List ℕ)
    → IsListedSoFar input mid items → TakesNext mid left (Item item) → IsListedSoFar input left (items ++ item ∷ [])
IsListedSoFar-more None mid left items item so_far next = tt
IsListedSoFar-more (Some input) None left items item so_far next = absurd so_far
IsListedSoFar-more (Some input) (Some rest) None items item so_far next = absurd next
IsListedSoFar-more (Some input) (Some rest) (Some after) items item so_far (line, first, is) =
    so_far ∙ ap (λ lines. onto_all items (item_list lines)) first ∙ ap (λ i. onto_all items (onto_item_list i (item_list (lines_of after)))) is
    ∙ ap (λ (i : Items). record { items = i; is_cut = (item_list (lines_of after)).is_cut }) (sym (append_assoc items (item ∷ []) (item_list (lines_of after)).items))

pub listed-end : (input mid left : Option (List ℕ)) (items : Items) → IsListedSoFar input mid items → TakesNext mid left End
    → IfSome input (λ text. item_list (lines_of text) ≡ record { items = items; is_cut = false })
listed-end None mid left items so_far next = tt
listed-end (Some input) None left items so_far next = absurd so_far
listed-end (Some input) (Some rest) left items so_far next =
    so_far ∙ ap (λ text. onto_all items (item_list (lines_of text))) next ∙ ap (λ (i : Items). record { items = i; is_cut = false }) (append-nil items)

pub listed-cut : (input mid left : Option (List ℕ)) (items : Items) → IsListedSoFar input mid items → TakesNext mid left Malformed
    → IfSome input (λ text. item_list (lines_of text) ≡ record { items = items; is_cut = true })
listed-cut None mid left items so_far next = tt
listed-cut (Some input) None left items so_far next = absurd so_far
listed-cut (Some input) (Some rest) left items so_far (line, lines, first, is) =
    so_far ∙ ap (λ l. onto_all items (item_list l)) first ∙ ap (λ i. onto_all items (onto_item_list i (item_list lines))) is
    ∙ ap (λ (i : Items). record { items = i; is_cut = true }) (append-nil items)
