-- An item's line that is read where it stands.
use Rattle.std.proofs.Common.{◌≡◌, ℕ, ◌+◌, ◌<◌, ◌==◌, ◌&&◌, nat_lt, ltb-true, Bool, true, false, cond, List, [], ◌∷◌, ◌++◌, length, get_or, take, drop, slice_index, Option, None, Some, refl, sym, ap, ◌∙◌, arith, append_assoc, take-append-drop, drop-cons}
use Rattle.std.proofs.lemmas.Bool.{and_parts, eqb-true}
use Rattle.std.specs.Prelude.{option_and_then, option_map}
use Rattle.std.specs.Io.KnownBytes.{Consumes}
use Rattle.textio.specs.Digits.{hex32}
use Rattle.textio.specs.Lines.{lines_of}
use Rattle.textio.specs.Pieces.{IsInLine}
use Rattle.textio.proofs.InLine.{hex32-in_line, IsInLine-append, take-through}
use Rattle.textio.proofs.NextLine.{lines_of-ended}
use Rattle.items.specs.Items.{item_of}
use Rattle.items.specs.NextLine.{item_in_front, TakesNext}
use Rattle.items.specs.declared.listing.NextLine.TheVariants.{Item}

-- the text of an item has no LF
item-in_line : (line : List ℕ) (item : List ℕ × List ℕ) → item_of line ≡ Some item → IsInLine line
unfolding item_of
item-in_line line item h =
    by (length line == 129) refl (slice_index line 64 == 32) refl (hex32 (take 64 line)) refl (hex32 (drop 65 line)) refl h
  where
    by : (long : Bool) → (length line == 129) ≡ long → (space : Bool) → (slice_index line 64 == 32) ≡ space
        → (first : Option (List ℕ)) → hex32 (take 64 line) ≡ first → (second : Option (List ℕ)) → hex32 (drop 65 line) ≡ second
        → cond long (cond space (option_and_then (λ index. option_map (λ commitment. (index, commitment)) second) first) None) None ≡ Some item → IsInLine line
    by false long space at first e second f h = absurd (cc h)
    by true long false at first e second f h = absurd (cc h)
    by true long true at None e second f h = absurd (cc h)
    by true long true at (Some index) e None f h = absurd (cc h)
    by true long true at (Some index) e (Some commitment) f h =
        let size : length line ≡ 129 = eqb-true (length line) 129 long in
        let space : slice_index line 64 ≡ 32 = eqb-true (slice_index line 64) 32 at in
        let split : line ≡ take 64 line ++ 32 ∷ drop 65 line =
        sym (take-append-drop 64 line) ∙ ap (λ l. take 64 line ++ l) (drop-cons line 64 0 (omega arith) ∙ ap (λ b. b ∷ drop 65 line) space) in
        rw split (IsInLine-append (take 64 line) (32 ∷ drop 65 line) (hex32-in_line (take 64 line) index e) ((λ e. cc e), hex32-in_line (drop 65 line) commitment f))

-- it is the first line of known bytes that lose it and its LF
pub TakesNext-shown : (input left : Option (List ℕ)) (shown : List ℕ) (item : List ℕ × List ℕ) → item_in_front shown ≡ Some item
    → Consumes input left (take 130 shown) → TakesNext input left (Item item)
TakesNext-shown None left shown item front taken = tt
TakesNext-shown (Some xs) None shown item front taken = absurd taken
TakesNext-shown (Some xs) (Some ys) shown item front taken =
    by (nat_lt 129 (length shown) && (slice_index shown 129 == 10)) refl front
  where
    by : (stands : Bool) → (nat_lt 129 (length shown) && (slice_index shown 129 == 10)) ≡ stands → cond stands (item_of (take 129 shown)) None ≡ Some item → TakesNext (Some xs) (Some ys) (Item item)
    by false e h = absurd (cc h)
    by true e h =
        let parts = and_parts (nat_lt 129 (length shown)) (slice_index shown 129 == 10) e in
        let lf : get_or shown 129 0 ≡ 10 = eqb-true (slice_index shown 129) 10 parts.1 in
        let within : 129 < length shown = ltb-true 129 (length shown) parts.0 in
        let whole : xs ≡ take 129 shown ++ 10 ∷ ys =
        taken ∙ ap (λ l. l ++ ys) (take-through shown 129 within lf) ∙ append_assoc (take 129 shown) (10 ∷ []) ys in (
          take 129 shown,
          ap lines_of whole ∙ lines_of-ended (take 129 shown) ys (item-in_line (take 129 shown) item h),
          h,
        )

pub front-long : (shown : List ℕ) (item : List ℕ × List ℕ) → item_in_front shown ≡ Some item → 129 < length shown
front-long shown item front = by (nat_lt 129 (length shown)) refl (slice_index shown 129 == 10) front
  where
    by : (long : Bool) → nat_lt 129 (length shown) ≡ long → (lf : Bool) → cond (long && lf) (item_of (take 129 shown)) None ≡ Some item → 129 < length shown
    by true e lf h = ltb-true 129 (length shown) e
    by false e lf h = absurd (cc h)
