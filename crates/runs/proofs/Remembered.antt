-- What lines of earlier runs have of the owner's own changes.
use Rattle.std.proofs.Common.{◌≡◌, ◌∙◌, ◌⊎◌, ℕ, ◌+◌, ◌||◌, Bool, true, false, List, [], ◌∷◌, ◌++◌, Contains, Result, Ok, Err, refl, sym, ap, arith, inl, inr, subst, append_assoc, append-nil}
use Rattle.std.proofs.lemmas.List.Elements.{All-contains, All-from_recursion, Contains-append_cases, Contains-append_left, Contains-append_right, Contains-push, Contains-push_cases}
use Rattle.textio.specs.Lines.{lines_of}
use Rattle.std.specs.Prelude.{if◌then◌else◌}
use Rattle.std.specs.List.{AllByRecursion}
use Rattle.std.specs.List.Sorted.{IsNonDecreasingBy, IsPermutation}
use Rattle.std.proofs.lemmas.List.Sorted.{Contains-permutation, IsPermutation-sym}
use Rattle.rootchain.specs.Promises.{IsSignedPromise}
use Rattle.rootchain.specs.declared.signed_promise.SignedPromise.{SignedPromise}
use Rattle.memory.specs.Lines.{IsSound}
use Rattle.memory.specs.Memories.{nothing, Memory}
use Rattle.memory.specs.Taking.{either, Takes}
use Rattle.memory.specs.Texts.{Recalls, Spells}
use Rattle.memory.specs.declared.item.Item.{Item}
use Rattle.memory.specs.declared.item.Item.TheVariants.{Promised, Watched, Final, Alarm, Evidence}
use Rattle.memory.specs.declared.promised.Promised.{Promised as PromisedMade}
use Rattle.memory.specs.declared.read_fault.ReadFault.{ReadFault}
use Rattle.memory.proofs.OneItem.{one_item}
use Rattle.play.proofs.Lists.{all-in}
use Rattle.runs.specs.Remembering.{own_of, AreOwnOf, IsOwnOf}
use Rattle.runs.specs.Runs.{IsSameAsker}
use Rattle.runs.specs.Saves.{AreEarlier, WasOwn}
use Rattle.asking.specs.declared.asker.Asker.{Asker}
use Rattle.runs.proofs.AskedOwn.{takes-one}

-- one line more
pub own-more : (done : List (List ℕ)) (line : List ℕ) (own one : List SignedPromise) → AreOwnOf done own → IsOwnOf line one → AreOwnOf (done ++ line ∷ []) (own ++ one)
own-more [] line own one none is = (one, [], is, refl, ap (λ (all : List SignedPromise). all ++ one) none ∙ sym (append-nil one))
own-more (first ∷ done) line own one (here, rest, has, more, whole) is =
    (here, rest ++ one, has, own-more done line rest one more is, ap (λ (all : List SignedPromise). all ++ one) whole ∙ append_assoc here rest one)

-- as far as the lines were read
abbrev pub OwnSoFar : List (List ℕ) → List (List ℕ) → List SignedPromise → List SignedPromise → Type 0
OwnSoFar lines left first now = (done : List (List ℕ)) × (own : List SignedPromise) × (lines ≡ done ++ left) × AreOwnOf done own × (now ≡ first ++ own)

pub own_on : (lines left : List (List ℕ)) (line : List ℕ) (rest : List (List ℕ)) (first middle last one : List SignedPromise) → left ≡ line ∷ rest → IsOwnOf line one → last ≡ middle ++ one
    → OwnSoFar lines left first middle → OwnSoFar lines rest first last
own_on lines left line rest first middle last one at is grown (done, own, parts, all, here) = (
  done ++ line ∷ [],
  own ++ one,
  parts ∙ ap (λ (more : List (List ℕ)). done ++ more) at ∙ sym (append_assoc done (line ∷ []) rest),
  own-more done line own one all is,
  grown ∙ ap (λ (xs : List SignedPromise). xs ++ one) here ∙ append_assoc first own one,
)

-- each of them is well formed
abbrev AreFormed : List SignedPromise → Type 0
AreFormed = AllByRecursion IsSignedPromise

formed-append : (some more : List SignedPromise) → AreFormed some → AreFormed more → AreFormed (some ++ more)
formed-append [] more none formed = formed
formed-append (signed ∷ some) more (is, rest) formed = (is, formed-append some more rest formed)

formed-if : (is_own : Bool) (signed : SignedPromise) → IsSignedPromise signed → AreFormed (if is_own then signed ∷ [] else [])
formed-if true signed is = (is, tt)
formed-if false signed is = tt

formed-item : (item : Item) → IsSound item → AreFormed (own_of item)
formed-item (Promised promised) sound = formed-if promised.is_own promised.signed sound
formed-item (Watched mark) sound = tt
formed-item (Final seen) sound = tt
formed-item (Alarm alarm) sound = tt
formed-item (Evidence line) sound = tt

formed-line : (line : List ℕ) (own : List SignedPromise) → IsOwnOf line own → AreFormed own
formed-line [] own none = subst AreFormed (sym none) tt
formed-line (byte ∷ line) own (item, is, same) = subst AreFormed (sym same) (formed-item item is.0)

formed-lines : (lines : List (List ℕ)) (own : List SignedPromise) → AreOwnOf lines own → AreFormed own
formed-lines [] own none = subst AreFormed (sym none) tt
formed-lines (line ∷ lines) own (first, rest, here, more, whole) = subst AreFormed (sym whole) (formed-append first rest (formed-line line first here) (formed-lines lines rest more))

pub formed_on : (lines : List (List ℕ)) (before after : List SignedPromise) → (own : List SignedPromise) × AreOwnOf lines own × (after ≡ before ++ own)
    → AllByRecursion IsSignedPromise before → AllByRecursion IsSignedPromise after
formed_on lines before after (own, are, grown) formed = subst AreFormed (sym grown) (formed-append before own formed (formed-lines lines own are))

-- the same keys, token and monitors, twice
pub same_on : {H V S : Type 0} (first middle last : Asker H V S) → IsSameAsker first middle → IsSameAsker middle last → IsSameAsker first last
same_on first middle last (key, token, monitors, chain) (key', token', monitors', chain') = (key' ∙ key, token' ∙ token, monitors' ∙ monitors, chain' ∙ chain)

-- ---- each of them is remembered as that

-- one more is remembered
stays-own : (item : Item) (before after : Memory) (signed : SignedPromise) → Takes item before after → WasOwn before signed → WasOwn after signed
stays-own (Promised new) before after signed (inl (front, kept, behind, was, same, be), is) (promised, has, this, own) =
    elim (Contains-append_cases front (kept ∷ behind) promised (subst (λ (all : List PromisedMade). Contains all promised) was has)) [
      | inl early ↦ (promised, there (Contains-append_left front (either kept new ∷ behind) promised early), this, own)
      | inr late ↦ elim (Contains-append_cases (kept ∷ []) behind promised late) [
        | inl one ↦ elim (Contains-push_cases [] kept promised one) [
          | inl none ↦ absurd (omega (arith, none.1))
          | inr at ↦ (
            either kept new,
            there (Contains-append_right front (either kept new ∷ behind) (either kept new) (0, omega arith, refl)),
            ap (λ (p : PromisedMade). p.signed) at ∙ this,
            ap (λ (b : Bool). b || new.is_own) (ap (λ (p : PromisedMade). p.is_own) at ∙ own),
          )
        ]
        | inr more ↦ (promised, there (Contains-append_right front (either kept new ∷ behind) promised (Contains-append_right (either kept new ∷ []) behind promised more)), this, own)
      ]
    ]
  where
    there : {p : PromisedMade} → Contains (front ++ either kept new ∷ behind) p → Contains after.promises p
    there {p} at = subst (λ (all : List PromisedMade). Contains all p) (sym be) at
stays-own (Promised new) before after signed (inr (none, be), is) (promised, has, this, own) =
    (promised, subst (λ (all : List PromisedMade). Contains all promised) (sym be) (Contains-append_left before.promises (new ∷ []) promised has), this, own)
stays-own (Watched mark) before after signed (puts, is) (promised, has, this, own) = (promised, subst (λ (memory : Memory). Contains memory.promises promised) (sym is) has, this, own)
stays-own (Final seen) before after signed (puts, is) (promised, has, this, own) = (promised, subst (λ (memory : Memory). Contains memory.promises promised) (sym is) has, this, own)
stays-own (Alarm alarm) before after signed (puts, is) (promised, has, this, own) = (promised, subst (λ (memory : Memory). Contains memory.promises promised) (sym is) has, this, own)
stays-own (Evidence line) before after signed (puts, is) (promised, has, this, own) = (promised, subst (λ (memory : Memory). Contains memory.promises promised) (sym is) has, this, own)

or-true : (b : Bool) → b || true ≡ true
or-true true = refl
or-true false = refl

-- one that is taken is
takes-own : (new : PromisedMade) (before after : Memory) → Takes (Promised new) before after → new.is_own ≡ true → WasOwn after new.signed
takes-own new before after (inl (front, kept, behind, was, same, be), is) own = (
  either kept new,
  subst (λ (all : List PromisedMade). Contains all (either kept new)) (sym be) (Contains-append_right front (either kept new ∷ behind) (either kept new) (0, omega arith, refl)),
  same,
  ap (λ (b : Bool). kept.is_own || b) own ∙ or-true kept.is_own,
)
takes-own new before after (inr (none, be), is) own = (new, subst (λ (all : List PromisedMade). Contains all new) (sym be) (Contains-push before.promises new), refl, own)

own-if : (memory : Memory) (is_own : Bool) (signed : SignedPromise) → (is_own ≡ true → WasOwn memory signed) → AllByRecursion (WasOwn memory) (if is_own then signed ∷ [] else [])
own-if memory true signed is = (is refl, tt)
own-if memory false signed is = tt

own-item : (item : Item) (before after : Memory) → Takes item before after → AllByRecursion (WasOwn after) (own_of item)
own-item (Promised new) before after takes = own-if after new.is_own new.signed (takes-own new before after takes)
own-item (Watched mark) before after takes = tt
own-item (Final seen) before after takes = tt
own-item (Alarm alarm) before after takes = tt
own-item (Evidence line) before after takes = tt

one-read : (one other : Memory) → ◌≡◌ {A = Result Memory ReadFault} (Ok one) (Ok other) → one ≡ other
one-read one other e = cc

none-read : (one : Memory) (fault : ReadFault) → ◌≡◌ {A = Result Memory ReadFault} (Ok one) (Err fault) → ⊥
none-read one fault e = cc

recalls-stay : (number : ℕ) (lines : List (List ℕ)) (before memory : Memory) (signed : SignedPromise) → Recalls number lines before (Ok memory) → WasOwn before signed → WasOwn memory signed
recalls-stay number [] before memory signed is own = subst (λ (m : Memory). WasOwn m signed) (sym (one-read memory before is)) own
recalls-stay number ([] ∷ lines) before memory signed recalls own = recalls-stay (number + 1) lines before memory signed recalls own
recalls-stay number ((byte ∷ line) ∷ lines) before memory signed (inl (item, after, is, takes, recalls)) own = recalls-stay (number + 1) lines after memory signed recalls (stays-own item before after signed takes own)
recalls-stay number ((byte ∷ line) ∷ lines) before memory signed (inr (none, is)) own = absurd (none-read memory _ is)

all-stay : (number : ℕ) (lines : List (List ℕ)) (before memory : Memory) (own : List SignedPromise) → Recalls number lines before (Ok memory) → AllByRecursion (WasOwn before) own → AllByRecursion (WasOwn memory) own
all-stay number lines before memory [] recalls all = tt
all-stay number lines before memory (signed ∷ own) recalls all = (recalls-stay number lines before memory signed recalls all.0, all-stay number lines before memory own recalls all.1)

own-append : (memory : Memory) (some more : List SignedPromise) → AllByRecursion (WasOwn memory) some → AllByRecursion (WasOwn memory) more → AllByRecursion (WasOwn memory) (some ++ more)
own-append memory [] more none all = all
own-append memory (signed ∷ some) more (is, rest) all = (is, own-append memory some more rest all)

recalls-own : (number : ℕ) (lines : List (List ℕ)) (before memory : Memory) (own : List SignedPromise) → Recalls number lines before (Ok memory) → AreOwnOf lines own → AllByRecursion (WasOwn memory) own
recalls-own number [] before memory own is none = subst (AllByRecursion (WasOwn memory)) (sym none) tt
recalls-own number ([] ∷ lines) before memory own recalls (first, rest, none, more, whole) =
    let rest-own = recalls-own (number + 1) lines before memory rest recalls more in
    subst (AllByRecursion (WasOwn memory)) (sym (whole ∙ ap (λ (all : List SignedPromise). all ++ rest) none)) rest-own
recalls-own number ((byte ∷ line) ∷ lines) before memory own (inl (item, after, is, takes, recalls)) (first, rest, (read, also, here), more, whole) =
    let one : first ≡ own_of item = here ∙ ap own_of (one_item (byte ∷ line) read item also is) in
    let first-own = all-stay (number + 1) lines after memory first recalls (subst (AllByRecursion (WasOwn after)) (sym one) (own-item item before after takes)) in
    subst (AllByRecursion (WasOwn memory)) (sym whole) (own-append memory first rest first-own (recalls-own (number + 1) lines after memory rest recalls more))
recalls-own number ((byte ∷ line) ∷ lines) before memory own (inr (none, is)) are = absurd (none-read memory _ is)

-- ---- and no other is

one-more : (is_own : Bool) (signed other : SignedPromise) → is_own ≡ true → signed ≡ other → Contains (if is_own then signed ∷ [] else []) other
one-more true signed other is same = (0, omega arith, same)
one-more false signed other is same = cc

same-promises : (before after : Memory) (signed : SignedPromise) → after.promises ≡ before.promises → WasOwn after signed → WasOwn before signed
same-promises before after signed same (promised, has, this, own) = (promised, subst (λ (all : List PromisedMade). Contains all promised) same has, this, own)

item-from : (item : Item) (before after : Memory) (signed : SignedPromise) → Takes item before after → WasOwn after signed → WasOwn before signed ⊎ Contains (own_of item) signed
item-from (Promised new) before after signed takes was = elim (takes-one new.is_own new.signed before after takes signed was) [
  | inl old ↦ inl old
  | inr (own, same) ↦ inr (one-more new.is_own new.signed signed own same)
]
item-from (Watched mark) before after signed (puts, is) was = inl (same-promises before after signed (ap (λ (m : Memory). m.promises) is) was)
item-from (Final seen) before after signed (puts, is) was = inl (same-promises before after signed (ap (λ (m : Memory). m.promises) is) was)
item-from (Alarm alarm) before after signed (puts, is) was = inl (same-promises before after signed (ap (λ (m : Memory). m.promises) is) was)
item-from (Evidence line) before after signed (puts, is) was = inl (same-promises before after signed (ap (λ (m : Memory). m.promises) is) was)

recalls-from : (number : ℕ) (lines : List (List ℕ)) (before memory : Memory) (own : List SignedPromise) (signed : SignedPromise) → Recalls number lines before (Ok memory) → AreOwnOf lines own → WasOwn memory signed → WasOwn before signed ⊎ Contains own signed
recalls-from number [] before memory own signed is none was = inl (subst (λ (m : Memory). WasOwn m signed) (one-read memory before is) was)
recalls-from number ([] ∷ lines) before memory own signed recalls (first, rest, none, more, whole) was = elim (recalls-from (number + 1) lines before memory rest signed recalls more was) [
  | inl old ↦ inl old
  | inr has ↦ inr (subst (λ (all : List SignedPromise). Contains all signed) (sym whole) (Contains-append_right first rest signed has))
]
recalls-from number ((byte ∷ line) ∷ lines) before memory own signed (inl (item, after, is, takes, recalls)) (first, rest, (read, also, here), more, whole) was =
    let one : first ≡ own_of item = here ∙ ap own_of (one_item (byte ∷ line) read item also is) in
    elim (recalls-from (number + 1) lines after memory rest signed recalls more was) [
      | inr has ↦ inr (subst (λ (all : List SignedPromise). Contains all signed) (sym whole) (Contains-append_right first rest signed has))
      | inl there ↦ elim (item-from item before after signed takes there) [
        | inl old ↦ inl old
        | inr new ↦ inr (subst (λ (all : List SignedPromise). Contains all signed) (sym whole) (Contains-append_left first rest signed (subst (λ (all : List SignedPromise). Contains all signed) (sym one) new)))
      ]
    ]
recalls-from number ((byte ∷ line) ∷ lines) before memory own signed (inr (none, is)) are was = absurd (none-read memory _ is)

-- what all elements are, they are in another order
pub sorted-all : {A : Type 0} (P : A → Type 0) (xs ys : List A) → IsPermutation xs ys → AllByRecursion P xs → AllByRecursion P ys
sorted-all P xs ys moved all = all-in P ys (λ y has. All-contains P xs y (All-from_recursion P xs all) (Contains-permutation ys xs y (IsPermutation-sym xs ys moved) has))

-- nothing has no promise
none-own : (signed : SignedPromise) → WasOwn nothing signed → ⊥
none-own signed (promised, has, this, own) = omega (arith, has.1)

-- what was remembered as the owner's own is what was read
pub remembered_own : (text : List ℕ) (memory : Memory) (before middle after : List SignedPromise) → Spells text (Ok memory) → (own : List SignedPromise) × AreOwnOf (lines_of text) own × (middle ≡ before ++ own)
    → before ≡ [] → IsPermutation middle after → IsNonDecreasingBy (λ (signed : SignedPromise). signed.promise.epoch) after → AreEarlier memory after
remembered_own text memory before middle after spells (own, are, grown) empty moved ascend =
    let all : middle ≡ own = grown ∙ ap (λ (xs : List SignedPromise). xs ++ own) empty in record {
      were = sorted-all (WasOwn memory) middle after moved (subst (AllByRecursion (WasOwn memory)) (sym all) (recalls-own 1 (lines_of text) nothing memory own spells are));
      all = λ signed was. elim (recalls-from 1 (lines_of text) nothing memory own signed spells are was) [
        | inl none ↦ absurd (none-own signed none)
        | inr has ↦ Contains-permutation middle after signed moved (subst (λ (xs : List SignedPromise). Contains xs signed) (sym all) has)
      ];
      ascend = ascend;
    }
