-- The marks that are remembered: none is above the chain's head, and no name is there twice.
use Rattle.std.proofs.Common.{◌≡◌, ◌∙◌, ℕ, ◌+◌, List, [], ◌∷◌, ◌++◌, map, Contains, Result, Ok, Err, ap, arith, inl, inr, subst, sym}
use Rattle.std.proofs.lemmas.List.{map-append}
use Rattle.std.proofs.lemmas.List.Elements.{Contains-append_cases, Contains-append_left, Contains-append_right, Contains-push_cases}
use Rattle.textio.specs.Lines.{lines_of}
use Rattle.rootchain.specs.Chains.{KeyedRoots}
use Rattle.memory.specs.Lists.{HasNoRepeat}
use Rattle.memory.specs.Memories.{name_of, nothing, Memory}
use Rattle.memory.specs.Taking.{PutsMark, Takes}
use Rattle.memory.specs.Texts.{Recalls, Spells}
use Rattle.memory.specs.declared.item.Item.{Item}
use Rattle.memory.specs.declared.item.Item.TheVariants.{Promised, Watched, Final, Alarm, Evidence}
use Rattle.memory.specs.declared.mark.Mark.{Mark}
use Rattle.memory.specs.declared.read_fault.ReadFault.{ReadFault}
use Rattle.memory.proofs.Joined.{push-no_repeat}
use Rattle.runs.specs.Remembering.{AreWithin, IsWithin}

-- ---- none is above the head

-- what is true of each mark, and of the one that is put, is true of each mark after it
puts-all : (P : Mark → Type 0) (new : Mark) (before after : List Mark) → PutsMark new before after → P new → ((mark : Mark) → Contains before mark → P mark)
    → (mark : Mark) → Contains after mark → P mark
puts-all P new before after (inl (front, kept, behind, is, same, be)) fits all mark has = elim (Contains-append_cases front (new ∷ behind) mark (subst (λ (marks : List Mark). Contains marks mark) be has)) [
  | inl old ↦ there (Contains-append_left front (kept ∷ behind) mark old)
  | inr rest ↦ elim (Contains-append_cases (new ∷ []) behind mark rest) [
    | inl one ↦ elim (Contains-push_cases [] new mark one) [
      | inl none ↦ absurd (omega (arith, none.1))
      | inr this ↦ subst P this fits
    ]
    | inr old ↦ there (Contains-append_right front (kept ∷ behind) mark (Contains-append_right (kept ∷ []) behind mark old))
  ]
]
  where
    there : Contains (front ++ kept ∷ behind) mark → P mark
    there old = all mark (subst (λ (marks : List Mark). Contains marks mark) (sym is) old)
puts-all P new before after (inr (none, be)) fits all mark has = elim (Contains-push_cases before new mark (subst (λ (marks : List Mark). Contains marks mark) be has)) [
  | inl old ↦ all mark old
  | inr this ↦ subst P this fits
]

same-within : (chain : KeyedRoots) (before after : Memory) → after.marks ≡ before.marks → AreWithin chain before → AreWithin chain after
same-within chain before after same all = λ mark has. all mark (subst (λ (marks : List Mark). Contains marks mark) same has)

pub within_taken : (chain : KeyedRoots) (item : Item) (before after : Memory) → IsWithin chain item → Takes item before after → AreWithin chain before → AreWithin chain after
within_taken chain (Watched mark) before after fits (puts, is) all = puts-all (λ (m : Mark). IsWithin chain (Watched m)) mark before.marks after.marks puts fits all
within_taken chain (Promised promised) before after fits (puts, is) all = same-within chain before after (ap (λ (m : Memory). m.marks) is) all
within_taken chain (Final seen) before after fits (puts, is) all = same-within chain before after (ap (λ (m : Memory). m.marks) is) all
within_taken chain (Alarm alarm) before after fits (puts, is) all = same-within chain before after (ap (λ (m : Memory). m.marks) is) all
within_taken chain (Evidence line) before after fits (puts, is) all = same-within chain before after (ap (λ (m : Memory). m.marks) is) all

-- the chain stays, and one line more is taken
pub within_on : (first now : KeyedRoots) (before after : Memory) → now ≡ first → (AreWithin now before → AreWithin now after) → AreWithin first before → AreWithin first after
within_on first now before after same leads all = subst (λ (chain : KeyedRoots). AreWithin chain after) same (leads (subst (λ (chain : KeyedRoots). AreWithin chain before) (sym same) all))

-- ---- no name is there twice

abbrev HasEachOnce : Memory → Type 0
HasEachOnce memory = HasNoRepeat (map name_of memory.marks)

puts-once : (new : Mark) (before after : List Mark) → PutsMark new before after → HasNoRepeat (map name_of before) → HasNoRepeat (map name_of after)
puts-once new before after (inl (front, kept, behind, is, same, be)) once =
    let with_name = λ (name : List ℕ). map name_of front ++ name ∷ map name_of behind in
    let names : map name_of after ≡ map name_of before =
    ap (map name_of) be ∙ map-append name_of front (new ∷ behind) ∙ ap with_name (sym same) ∙ sym (map-append name_of front (kept ∷ behind)) ∙ ap (map name_of) (sym is) in
    subst HasNoRepeat (sym names) once
puts-once new before after (inr (none, be)) once = subst (λ (all : List Mark). HasNoRepeat (map name_of all)) (sym be) (push-no_repeat name_of before new none once)

takes-once : (item : Item) (before after : Memory) → Takes item before after → HasEachOnce before → HasEachOnce after
takes-once (Watched mark) before after (puts, is) once = puts-once mark before.marks after.marks puts once
takes-once (Promised promised) before after (puts, is) once = subst HasEachOnce (sym is) once
takes-once (Final seen) before after (puts, is) once = subst HasEachOnce (sym is) once
takes-once (Alarm alarm) before after (puts, is) once = subst HasEachOnce (sym is) once
takes-once (Evidence line) before after (puts, is) once = subst HasEachOnce (sym is) once

one-read : (one other : Memory) → ◌≡◌ {A = Result Memory ReadFault} (Ok one) (Ok other) → one ≡ other
one-read one other e = cc

none-read : (one : Memory) (fault : ReadFault) → ◌≡◌ {A = Result Memory ReadFault} (Ok one) (Err fault) → ⊥
none-read one fault e = cc

recalls-once : (number : ℕ) (lines : List (List ℕ)) (before memory : Memory) → Recalls number lines before (Ok memory) → HasEachOnce before → HasEachOnce memory
recalls-once number [] before memory is once = subst HasEachOnce (sym (one-read memory before is)) once
recalls-once number ([] ∷ lines) before memory recalls once = recalls-once (number + 1) lines before memory recalls once
recalls-once number ((byte ∷ line) ∷ lines) before memory (inl (item, after, is, takes, recalls)) once = recalls-once (number + 1) lines after memory recalls (takes-once item before after takes once)
recalls-once number ((byte ∷ line) ∷ lines) before memory (inr (none, is)) once = absurd (none-read memory _ is)

pub spelled_once : (text : List ℕ) (memory : Memory) → Spells text (Ok memory) → HasNoRepeat (map name_of memory.marks)
spelled_once text memory spells = recalls-once 1 (lines_of text) nothing memory spells tt
