-- Items that a memory takes one after another.
use Rattle.std.proofs.Common.{◌≡◌, ℕ, zero, suc, ◌+◌, List, [], ◌∷◌, ◌++◌, map, take, Bool, Ok, refl, sym, subst, inl, inr}
use Rattle.std.specs.List.{AllByRecursion}
use Rattle.rootchain.specs.Promises.{IsSignedPromise}
use Rattle.rootchain.specs.declared.signed_promise.SignedPromise.{SignedPromise}
use Rattle.textio.specs.Lines.{lines_of}
use Rattle.memory.specs.Learning.{promised_item, Each, LearnsLine, LearnsOne}
use Rattle.memory.specs.Lines.{item_line, IsSound}
use Rattle.memory.specs.Memories.{Memory, nothing}
use Rattle.memory.specs.Texts.{items_text, Recalls, Spells, TakesAll}
use Rattle.memory.specs.declared.item.Item.{Item}
use Rattle.memory.specs.declared.kind.Kind.{Kind}
use Rattle.memory.proofs.Learned.{text_grows, EachSoFar}

-- ---- items

pub taken-append : (xs ys : List Item) (a b c : Memory) → TakesAll xs a b → TakesAll ys b c → TakesAll (xs ++ ys) a c
taken-append [] ys a b c same rest = subst (λ (m : Memory). TakesAll ys m c) same rest
taken-append (x ∷ xs) ys a b c (middle, sound, takes, more) rest = (middle, sound, takes, taken-append xs ys middle b c more rest)

pub sound-taken : (items : List Item) (before after : Memory) → TakesAll items before after → AllByRecursion IsSound items
sound-taken [] before after same = tt
sound-taken (item ∷ items) before after (middle, sound, takes, more) = (sound, sound-taken items middle after more)

none-taken : (news : List Item) (before after : Memory) → news ≡ [] → after ≡ before → TakesAll news before after
none-taken news before after none same = subst (λ (items : List Item). TakesAll items before after) (sym none) same

-- ---- what is learned is taken

-- if the item is sound
pub learned-taken : (item : Item) (before after : Memory) (news : List Item) → IsSound item → LearnsOne item before news after → TakesAll news before after
learned-taken item before after news sound (takes, inl (same, none)) = none-taken news before after none same
learned-taken item before after news sound (takes, inr (differs, one)) =
    subst (λ (items : List Item). TakesAll items before after) (sym one) (after, sound, takes, refl)

line-taken : (kind : Kind) (line : List ℕ) (before after : Memory) (news : List Item) → LearnsLine kind line before news after → TakesAll news before after
line-taken kind line before after news (inl (item, is, of, learns)) = learned-taken item before after news is.0 learns
line-taken kind line before after news (inr (other, none, same)) = none-taken news before after none same

module _ {X : Type 0} (Does : X → Memory → List Item → Memory → Type 0) (P : X → Type 0)
    (takes : (x : X) (before after : Memory) (news : List Item) → P x → Does x before news after → TakesAll news before after) where
  each-taken : (xs : List X) (before after : Memory) (news : List Item) → AllByRecursion P xs → Each Does xs before news after → TakesAll news before after
  each-taken [] before after news all (none, same) = none-taken news before after none same
  each-taken (x ∷ xs) before after news all (first, middle, rest, does, more, is) =
      let here = takes x before middle first all.0 does in
      let behind = each-taken xs middle after rest all.1 more in
      subst (λ (items : List Item). TakesAll items before after) (sym is) (taken-append first rest before middle after here behind)

-- ---- as far as it came

-- items were taken, and their lines are appended
abbrev pub TakenSoFar : Memory → Memory → List ℕ → List ℕ → Type 0
TakenSoFar a b first now = (news : List Item) × TakesAll news a b × (now ≡ first ++ items_text news)

pub taken_more : (a b c : Memory) (first middle last : List ℕ) → TakenSoFar a b first middle → TakenSoFar b c middle last → TakenSoFar a c first last
taken_more a b c first middle last (news, takes, is) (more, took, grown) = (news ++ more, taken-append news more a b c takes took, text_grows first middle last news more is grown)

pub taken_some : (a b c : Memory) (first now : List ℕ) → TakenSoFar a b first now → c ≡ b → (news : List Item) × TakesAll news a c
taken_some a b c first now (news, takes, is) same = (news, subst (λ (m : Memory). TakesAll news a m) (sym same) takes)

-- the first promises were learned
pub promises-taken : (own : Bool) (promises : List SignedPromise) (count : ℕ) (a b : Memory) (first now : List ℕ) → AllByRecursion IsSignedPromise promises
    → EachSoFar LearnsOne (map (promised_item own) (take count promises)) a b first now → TakenSoFar a b first now
promises-taken own promises count a b first now sound (news, each, is) =
    (news, each-taken LearnsOne IsSound learned-taken (map (promised_item own) (take count promises)) a b news (some count promises sound) each, is)
  where
    some : (n : ℕ) (ps : List SignedPromise) → AllByRecursion IsSignedPromise ps → AllByRecursion IsSound (map (promised_item own) (take n ps))
    some zero ps all = tt
    some (suc n) [] all = tt
    some (suc n) (p ∷ ps) all = (all.0, some n ps all.1)

-- lines were learned
pub lines-taken : (kind : Kind) (lines : List (List ℕ)) (a b : Memory) (first now : List ℕ) → EachSoFar (LearnsLine kind) lines a b first now → TakenSoFar a b first now
lines-taken kind lines a b first now (news, each, is) =
    (news, each-taken (LearnsLine kind) (λ (line : List ℕ). Unit {0}) (λ line x y n any. line-taken kind line x y n) lines a b news (any lines) each, is)
  where
    any : (ls : List (List ℕ)) → AllByRecursion (λ (line : List ℕ). Unit {0}) ls
    any [] = tt
    any (l ∷ ls) = (tt, any ls)

-- ---- lines of items

-- without lines nothing is taken
pub unchanged-taken : (news : List Item) (before after : Memory) → TakesAll news before after → items_text news ≡ [] → after ≡ before
unchanged-taken [] before after same none = same
unchanged-taken (item ∷ news) before after takes none = absurd (some (item_line item) (items_text news) none)
  where
    some : (line rest : List ℕ) → line ++ 10 ∷ [] ++ rest ≡ [] → ⊥
    some [] rest is = cc
    some (byte ∷ line) rest is = cc

-- ---- what a text spells was taken

recalled-taken : (number : ℕ) (lines : List (List ℕ)) (before after : Memory) → Recalls number lines before (Ok after) → (news : List Item) × TakesAll news before after
recalled-taken number [] before after same = let is : after ≡ before = cc in ([], is)
recalled-taken number ([] ∷ lines) before after recalls = recalled-taken (number + 1) lines before after recalls
recalled-taken number ((byte ∷ line) ∷ lines) before after (inl (item, middle, is, takes, recalls)) =
    let (news, more) = recalled-taken (number + 1) lines middle after recalls in
    (item ∷ news, (middle, is.0, takes, more))
recalled-taken number ((byte ∷ line) ∷ lines) before after (inr (none, same)) = absurd cc

pub spelled-taken : (text : List ℕ) (memory : Memory) → Spells text (Ok memory) → (news : List Item) × TakesAll news nothing memory
spelled-taken text memory spells = recalled-taken 1 (lines_of text) nothing memory spells
