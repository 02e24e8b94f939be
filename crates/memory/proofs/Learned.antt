-- What is learned, one after another.
use Rattle.std.proofs.Common.{◌≡◌, ◌∙◌, ℕ, zero, suc, ◌<◌, ◌≤◌, List, [], ◌∷◌, ◌++◌, arith, drop, get_or, length, map, take, Result, Ok, Err, refl, sym, ap, inr, subst, append_assoc, append-nil, take-append-drop}
use Rattle.std.specs.Prelude.{OnErr, OnOk}
use Rattle.std.proofs.lemmas.List.{map-append}
use Rattle.std.proofs.lemmas.List.Concat.{flat_map-append}
use Rattle.memory.specs.Learning.{Each, EachOfSome, IsOfKind, LearnsLine}
use Rattle.memory.specs.Lines.{item_line, IsLineOf}
use Rattle.memory.specs.Memories.{Memory}
use Rattle.memory.specs.Texts.{items_text}
use Rattle.memory.specs.declared.item.Item.{Item}
use Rattle.memory.specs.declared.kind.Kind.{Kind}
use Rattle.memory.proofs.OneItem.{one_item}

-- ---- what comes of a call

pub err_so : {A E P : Type 0} (result : Result A E) → P → OnErr result P
err_so (Ok done) holds = tt
err_so (Err why) holds = holds

pub on_ok : {A E P Q : Type 0} (result : Result A E) → (P → Q) → OnOk result P → OnOk result Q
on_ok (Ok done) leads holds = leads holds
on_ok (Err why) leads holds = tt

-- ---- lines

-- the lines of one item
pub one_text : (item : Item) → items_text (item ∷ []) ≡ item_line item ++ 10 ∷ []
one_text item = append-nil (item_line item ++ 10 ∷ [])

-- lines that grow by those of items, twice
pub text_grows : (first middle last : List ℕ) (news more : List Item) → middle ≡ first ++ items_text news → last ≡ middle ++ items_text more → last ≡ first ++ items_text (news ++ more)
text_grows first middle last news more is then =
    then ∙ ap (λ (t : List ℕ). t ++ items_text more) is ∙ append_assoc first (items_text news) (items_text more)
    ∙ ap (λ (t : List ℕ). first ++ t) (sym (flat_map-append (λ (item : Item). item_line item ++ 10 ∷ []) news more))

-- ---- one after another

module _ {X : Type 0} (Does : X → Memory → List Item → Memory → Type 0) where
  -- one more does something
  pub each-more : (xs : List X) (x : X) (a b c : Memory) (news more : List Item) → Each Does xs a news b → Does x b more c → Each Does (xs ++ x ∷ []) a (news ++ more) c
  each-more [] x a b c news more (none, same) one =
      (more, c, [], subst (λ (m : Memory). Does x m more c) same one, (refl, refl), ap (λ (n : List Item). n ++ more) none ∙ sym (append-nil more))
  each-more (y ∷ xs) x a b c news more (first, middle, rest, does, then, is) one =
      (first, middle, rest ++ more, does, each-more xs x middle b c rest more then one, ap (λ (n : List Item). n ++ more) is ∙ append_assoc first rest more)

  -- as far as it came, and the text
  abbrev pub EachSoFar : List X → Memory → Memory → List ℕ → List ℕ → Type 0
  EachSoFar xs a b first now = (news : List Item) × Each Does xs a news b × (now ≡ first ++ items_text news)

  pub none_yet : (a : Memory) (text : List ℕ) → EachSoFar [] a a text text
  none_yet a text = ([], (refl, refl), sym (append-nil text))

  pub one_more : (xs : List X) (x : X) (a b c : Memory) (first middle last : List ℕ) → EachSoFar xs a b first middle
      → (more : List Item) × Does x b more c × (last ≡ middle ++ items_text more) → EachSoFar (xs ++ x ∷ []) a c first last
  one_more xs x a b c first middle last (news, each, is) (more, one, then) = (news ++ more, each-more xs x a b c news more each one, text_grows first middle last news more is then)

  -- as far as it came, they did something
  pub some_did : (xs : List X) (count : ℕ) (a b c : Memory) (first now : List ℕ) → EachSoFar (take count xs) a b first now → c ≡ b → EachOfSome Does xs a c
  some_did xs count a b c first now (news, each, is) same =
      (take count xs, drop count xs, news, sym (take-append-drop count xs), subst (λ (m : Memory). Each Does (take count xs) a news m) (sym same) each)

  pub some_mapped : {A : Type 0} (item : A → X) (xs : List A) (count : ℕ) (a b c : Memory) (first now : List ℕ) → EachSoFar (map item (take count xs)) a b first now → c ≡ b
      → EachOfSome Does (map item xs) a c
  some_mapped {A} item xs count a b c first now (news, each, is) same =
      let parts : map item xs ≡ map item (take count xs) ++ map item (drop count xs) = sym (ap (map item) (take-append-drop count xs)) ∙ map-append item (take count xs) (drop count xs) in
      (map item (take count xs), map item (drop count xs), news, parts, subst (λ (m : Memory). Each Does (map item (take count xs)) a news m) (sym same) each)

  pub some_before : (xs done left : List X) (a b c : Memory) (first now : List ℕ) → xs ≡ done ++ left → EachSoFar done a b first now → c ≡ b → EachOfSome Does xs a c
  some_before xs done left a b c first now parts (news, each, is) same = (done, left, news, parts, subst (λ (m : Memory). Each Does done a news m) (sym same) each)

-- ---- a line

pub nothing_learned : (kind : Kind) (line : List ℕ) (memory : Memory) (text : List ℕ) → ((item : Item) → IsLineOf line item → ¬ IsOfKind kind item)
    → (news : List Item) × LearnsLine kind line memory news memory × (text ≡ text ++ items_text news)
nothing_learned kind line memory text none = ([], inr (none, refl, refl), sym (append-nil text))

pub other_kind : (kind : Kind) (line : List ℕ) (item : Item) → IsLineOf line item → ¬ IsOfKind kind item → (other : Item) → IsLineOf line other → ¬ IsOfKind kind other
other_kind kind line item is not other also of = not (subst (IsOfKind kind) (one_item line other item also is) of)

-- ---- the end of a list

pub drop-one : {A : Type 0} (xs : List A) (count : ℕ) (d : A) → count < length xs → drop count xs ≡ get_or xs count d ∷ drop (suc count) xs
drop-one [] count d within = absurd (omega (arith, within))
drop-one (x ∷ xs) zero d within = refl
drop-one (x ∷ xs) (suc count) d within = drop-one xs count d (omega (arith, within))

-- from the element before on
pub drop-before : {A : Type 0} (xs : List A) (before start : ℕ) (x : A) → suc before ≡ start → start ≤ length xs → get_or xs before x ≡ x → drop before xs ≡ x ∷ drop start xs
drop-before {A} xs before start x is within at =
    drop-one xs before x (omega (arith, is, within)) ∙ ap (λ (y : A). y ∷ drop (suc before) xs) at ∙ ap (λ (n : ℕ). x ∷ drop n xs) is
