-- A text spells its memory.
use Rattle.std.proofs.Common.{◌≡◌, ◌≢◌, ℕ, ◌+◌, ◌<◌, false, List, [], ◌∷◌, ◌++◌, length, map, All, Result, Ok, refl, sym, ap, subst, ◌∙◌, inl, inr, arith, append_assoc, append-nil}
use Rattle.std.specs.Prelude.{◌==◌}
use Rattle.std.specs.List.{AllByRecursion}
use Rattle.std.proofs.lemmas.Bool.{ne_eqb}
use Rattle.std.proofs.lemmas.List.{map-id}
use Rattle.std.proofs.lemmas.List.Elements.{All-cons, All-nil}
use Rattle.textio.specs.Lines.{lines_of, onto_first}
use Rattle.audits.specs.Files.{parts_text}
use Rattle.memory.specs.Lines.{item_line, line_of, IsLineOf, IsSound}
use Rattle.memory.specs.Lists.{HasNoRepeat, Puts}
use Rattle.memory.specs.Memories.{Memory, final_name, name_of, nothing, signed_of, HoldsEachOnce}
use Rattle.memory.specs.Taking.{either, former, later, Takes}
use Rattle.memory.specs.Texts.{items_text, memory_items, memory_text, HoldsSound, Recalls, Spells, TakesLine}
use Rattle.memory.specs.declared.alarm.Alarm.{Alarm as AlarmMade}
use Rattle.memory.specs.declared.item.Item.{Item}
use Rattle.memory.specs.declared.item.Item.TheVariants.{Promised, Watched, Final, Alarm, Evidence}
use Rattle.memory.specs.declared.read_fault.ReadFault.{ReadFault}
use Rattle.memory.proofs.OneItem.{first_of, line_parts, plain-item, rest_of, ArePlain}
use Rattle.memory.proofs.Plain.{IsPlain}
use Rattle.memory.proofs.SaidLines.{alone_evidence}

-- ---- lines

abbrev HasNoLf : List ℕ → Type 0
HasNoLf = AllByRecursion (λ byte. byte ≢ 10)

lf-append : (xs ys : List ℕ) → HasNoLf xs → HasNoLf ys → HasNoLf (xs ++ ys)
lf-append [] ys p q = q
lf-append (x ∷ xs) ys p q = (p.0, lf-append xs ys p.1 q)

lf-plain : (xs : List ℕ) → IsPlain xs → HasNoLf xs
lf-plain [] p = tt
lf-plain (x ∷ xs) p = (λ is. absurd (omega (arith, p.0, is)), lf-plain xs p.1)

lf-line : (word : List ℕ) (words : List (List ℕ)) → ArePlain (word ∷ words) → HasNoLf (line_of (word ∷ words))
lf-line word [] p = lf-plain word p.0
lf-line word (next ∷ more) p = lf-append word (32 ∷ line_of (next ∷ more)) (lf-plain word p.0) ((λ is. absurd (omega (arith, is))), lf-line next more p.1)

lf-item : (item : Item) → IsSound item → HasNoLf (item_line item)
lf-item item sound = subst HasNoLf (sym (line_parts item)) (lf-line (first_of item) (rest_of item) (plain-item item sound))

-- a line, its LF, and what stands behind it
pub lines-one : (line rest : List ℕ) → HasNoLf line → lines_of (line ++ 10 ∷ rest) ≡ line ∷ lines_of rest
lines-one [] rest none = refl
lines-one (byte ∷ line) rest none =
    let other : (byte == 10) ≡ false = ne_eqb byte 10 none.0 in
    rw other (ap (onto_first byte) (lines-one line rest none.1))

-- a line with no LF behind it
pub lines-last : (line : List ℕ) → HasNoLf line → 0 < length line → lines_of line ≡ line ∷ []
lines-last [] none some = absurd (omega (arith, some))
lines-last (byte ∷ []) none some = let other : (byte == 10) ≡ false = ne_eqb byte 10 none.0 in rw other refl
lines-last (byte ∷ next ∷ line) none some =
    let other : (byte == 10) ≡ false = ne_eqb byte 10 none.0 in
    rw other (ap (onto_first byte) (lines-last (next ∷ line) none.1 (omega arith)))

pub lines-items : (items : List Item) → AllByRecursion IsSound items → lines_of (items_text items) ≡ map item_line items
lines-items [] sound = refl
lines-items (item ∷ items) sound =
    ap lines_of (append_assoc (item_line item) (10 ∷ []) (items_text items))
    ∙ lines-one (item_line item) (items_text items) (lf-item item sound.0)
    ∙ ap (λ (ls : List (List ℕ)). item_line item ∷ ls) (lines-items items sound.1)

-- ---- one line

pub never_empty : (item : Item) → IsLineOf [] item → ⊥
unfolding parts_text
never_empty item is = let (evidence, formed, same) = alone_evidence [] tt item is in cc

pub recalls-item : (number : ℕ) (line : List ℕ) (lines : List (List ℕ)) (item : Item) (before after : Memory) (result : Result Memory ReadFault)
    → IsLineOf line item → Takes item before after → Recalls (number + 1) lines after result → Recalls number (line ∷ lines) before result
recalls-item number [] lines item before after result is takes rest = absurd (never_empty item is)
recalls-item number (byte ∷ line) lines item before after result is takes rest = inl (item, after, is, takes, rest)

-- ---- items one after another

abbrev Gathers : List Item → Memory → Memory → Type 0
Gathers [] before after = after ≡ before
Gathers (item ∷ items) before after = (mid : Memory) × Takes item before mid × Gathers items mid after

gathers-append : (xs ys : List Item) (a b c : Memory) → Gathers xs a b → Gathers ys b c → Gathers (xs ++ ys) a c
gathers-append [] ys a b c same rest = subst (λ (m : Memory). Gathers ys m c) same rest
gathers-append (x ∷ xs) ys a b c (mid, takes, more) rest = (mid, takes, gathers-append xs ys mid b c more rest)

recalls-all : (items : List Item) (number : ℕ) (before after : Memory) → AllByRecursion IsSound items → Gathers items before after
    → Recalls number (map item_line items) before (Ok after)
recalls-all [] number before after sound same = ap Ok same
recalls-all (item ∷ items) number before after sound (mid, takes, rest) =
    recalls-item number (item_line item) (map item_line items) item before mid (Ok after) (sound.0, inl refl) takes (recalls-all items (number + 1) mid after sound.1 rest)

module _ {A K : Type 0} (key : A → K) where
  all-at : (P : K → Type 0) (xs : List A) (y : A) (ys : List A) → AllByRecursion P (map key (xs ++ y ∷ ys)) → P (key y)
  all-at P [] y ys all = all.0
  all-at P (x ∷ xs) y ys all = all-at P xs y ys all.1

  no_repeat-apart : (xs : List A) (y : A) (ys : List A) → HasNoRepeat (map key (xs ++ y ∷ ys)) → All (λ (kept : A). key kept ≢ key y) xs
  no_repeat-apart [] y ys once = All-nil (λ (kept : A). key kept ≢ key y)
  no_repeat-apart (x ∷ xs) y ys once =
      All-cons (λ (kept : A). key kept ≢ key y) x xs (all-at (λ (other : K). key x ≢ other) xs y ys once.0) (no_repeat-apart xs y ys once.1)

  module _ (joined : A → A → A) (item : A → Item) (part : Memory → List A) (with_part : Memory → List A → Memory)
      (takes : (new : A) (memory : Memory) (xs : List A) → Puts key joined new (part memory) xs → Takes (item new) memory (with_part memory xs))
      (part-with : (memory : Memory) (xs : List A) → part (with_part memory xs) ≡ xs)
      (with-with : (memory : Memory) (xs ys : List A) → with_part (with_part memory xs) ys ≡ with_part memory ys)
      (with-same : (memory : Memory) → with_part memory (part memory) ≡ memory) where
    gathers-part : (new old : List A) (memory : Memory) → HasNoRepeat (map key (old ++ new)) → part memory ≡ old → Gathers (map item new) memory (with_part memory (old ++ new))
    gathers-part [] old memory once is = ap (with_part memory) (append-nil old ∙ sym is) ∙ with-same memory
    gathers-part (x ∷ xs) old memory once is =
        let mid = with_part memory (old ++ x ∷ []) in
        let none = no_repeat-apart old x xs once in
        let puts : Puts key joined x (part memory) (old ++ x ∷ []) = subst (λ (zs : List A). Puts key joined x zs (old ++ x ∷ [])) (sym is) (inr (none, refl)) in
        let whole : old ++ x ∷ [] ++ xs ≡ old ++ x ∷ xs = append_assoc old (x ∷ []) xs in
        let later_once = subst (λ (zs : List A). HasNoRepeat (map key zs)) (sym whole) once in
        let rest = gathers-part xs (old ++ x ∷ []) mid later_once (part-with memory (old ++ x ∷ [])) in
        let end : with_part mid (old ++ x ∷ [] ++ xs) ≡ with_part memory (old ++ x ∷ xs) = with-with memory (old ++ x ∷ []) (old ++ x ∷ [] ++ xs) ∙ ap (with_part memory) whole in
        (mid, takes x memory (old ++ x ∷ []) puts, subst (λ (m : Memory). Gathers (map item xs) mid m) end rest)

gathers-memory : (memory : Memory) → HoldsEachOnce memory → Gathers (memory_items memory) nothing memory
gathers-memory memory once =
    let a : Memory = record nothing { promises = memory.promises } in
    let b : Memory = record a { marks = memory.marks } in
    let f : Memory = record b { finals = memory.finals } in
    let c : Memory = record f { alarms = memory.alarms } in
    let promises = gathers-part signed_of either Promised (λ m. m.promises) (λ m xs. record m { promises = xs }) (λ new m xs puts. (puts, refl)) (λ m xs. refl) (λ m xs ys. refl) (λ m. refl) memory.promises [] nothing once.promised refl in
    let marks = gathers-part name_of later Watched (λ m. m.marks) (λ m xs. record m { marks = xs }) (λ new m xs puts. (puts, refl)) (λ m xs. refl) (λ m xs ys. refl) (λ m. refl) memory.marks [] a once.watched refl in
    let finals = gathers-part final_name former Final (λ m. m.finals) (λ m xs. record m { finals = xs }) (λ new m xs puts. (puts, refl)) (λ m xs. refl) (λ m xs ys. refl) (λ m. refl) memory.finals [] b once.pinned refl in
    let alarmed = subst HasNoRepeat (sym (map-id memory.alarms)) once.alarmed in
    let alarms = gathers-part (λ (x : AlarmMade). x) later Alarm (λ m. m.alarms) (λ m xs. record m { alarms = xs }) (λ new m xs puts. (puts, refl)) (λ m xs. refl) (λ m xs ys. refl) (λ m. refl) memory.alarms [] f alarmed refl in
    let shown = subst HasNoRepeat (sym (map-id memory.evidence)) once.shown in
    let evidence = gathers-part (λ (x : List ℕ). x) later Evidence (λ m. m.evidence) (λ m xs. record m { evidence = xs }) (λ new m xs puts. (puts, refl)) (λ m xs. refl) (λ m xs ys. refl) (λ m. refl) memory.evidence [] c shown refl in
    gathers-append (map Promised memory.promises) _ nothing a memory promises
    (gathers-append (map Watched memory.marks) _ a b memory marks
    (gathers-append (map Final memory.finals) _ b f memory finals
    (gathers-append (map Alarm memory.alarms) _ f c memory alarms evidence)))

pub spells-memory : (memory : Memory) → HoldsEachOnce memory → HoldsSound memory → Spells (memory_text memory) (Ok memory)
spells-memory memory once sound =
    subst (λ (lines : List (List ℕ)). Recalls 1 lines nothing (Ok memory)) (sym (lines-items (memory_items memory) sound))
    (recalls-all (memory_items memory) 1 nothing memory sound (gathers-memory memory once))

-- ---- a line that was read

pub nonempty : (line : List ℕ) → (line ≡ [] → ⊥) → (byte : ℕ) × (more : List ℕ) × (line ≡ byte ∷ more)
nonempty [] some = absurd (some refl)
nonempty (byte ∷ more) some = (byte, more, refl)

pub recalls-taken : (number : ℕ) (line : List ℕ) (lines : List (List ℕ)) (before after : Memory) (result : Result Memory ReadFault)
    → TakesLine line number before after (Ok tt) → Recalls (number + 1) lines after result → Recalls number (line ∷ lines) before result
recalls-taken number line lines before after result (inl (none, same)) rest =
    subst (λ (l : List ℕ). Recalls number (l ∷ lines) before result) (sym none) (subst (λ (m : Memory). Recalls (number + 1) lines m result) same rest)
recalls-taken number line lines before after result (inr (item, is, takes)) rest = recalls-item number line lines item before after result is takes rest
