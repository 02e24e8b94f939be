-- What is left of a list.
use Rattle.std.proofs.Common.{◌≡◌, ◌≢◌, ℕ, Bool, true, false, List, [], ◌∷◌, ◌++◌, ◌+◌, length, length-append, append_assoc, map, refl, sym, ap, subst, ◌∙◌, inl, inr, arith}
use Rattle.std.specs.Bool.{MatchBool}
use Rattle.std.specs.List.{items_where_true, AllByRecursion}
use Rattle.std.specs.List.Retain.{IsFiltered, ReturnsInTurn}
use Rattle.std.proofs.lemmas.List.{map-append, map-id}
use Rattle.memory.specs.Lines.{item_line}
use Rattle.memory.specs.Lists.{HasNoRepeat, IsLeft}
use Rattle.memory.specs.Texts.{items_text, TellsAgain}
use Rattle.memory.specs.declared.alarm.Alarm.{Alarm as AlarmMade}
use Rattle.memory.specs.declared.item.Item.{Item}
use Rattle.memory.specs.declared.item.Item.TheVariants.{Alarm}

-- what `retain` leaves, where the closure tells whether an element stays
pub left_from_retain : {X F : Type 0} (R : F → X → Bool → F → Type 0) (Stays : X → Type 0) (f : F)
    → ((x : X) (b : Bool) (g : F) → R f x b g → MatchBool b (Stays x) (¬ Stays x) × (g ≡ f)) → (xs ys : List X) → IsFiltered R f xs ys → IsLeft Stays xs ys
left_from_retain {X} {F} R Stays f tells xs ys (bools, last, len, turns, is) = by bools xs ys len turns is
  where
    by : (bs : List Bool) (zs after : List X) → length bs ≡ length zs → ReturnsInTurn R f bs zs last → after ≡ items_where_true bs zs → IsLeft Stays zs after
    by [] [] after len turns is = is
    by [] (x ∷ zs) after len turns is = absurd (omega (arith, len))
    by (b ∷ bs) [] after len turns is = absurd turns
    by (true ∷ bs) (x ∷ zs) after len (g, call, turns) is =
        let told = tells x true g call in
        let rest : ReturnsInTurn R f bs zs last = subst (λ (k : F). ReturnsInTurn R k bs zs last) told.1 turns in
        inl (told.0, (items_where_true bs zs, is, by bs zs (items_where_true bs zs) (omega (arith, len)) rest refl))
    by (false ∷ bs) (x ∷ zs) after len (g, call, turns) is =
        let told = tells x false g call in
        let rest : ReturnsInTurn R f bs zs last = subst (λ (k : F). ReturnsInTurn R k bs zs last) told.1 turns in
        inr (told.0, by bs zs after (omega (arith, len)) rest is)

module _ {A K : Type 0} (Stays : A → Type 0) (key : A → K) where
  pub left-all : (P : K → Type 0) (xs ys : List A) → IsLeft Stays xs ys → AllByRecursion P (map key xs) → AllByRecursion P (map key ys)
  left-all P [] ys left all = subst (λ (zs : List A). AllByRecursion P (map key zs)) (sym left) tt
  left-all P (x ∷ xs) ys (inl (stays, (rest, is, left))) all =
      subst (λ (zs : List A). AllByRecursion P (map key zs)) (sym is) (all.0, left-all P xs rest left all.1)
  left-all P (x ∷ xs) ys (inr (goes, left)) all = left-all P xs ys left all.1

  pub left-no_repeat : (xs ys : List A) → IsLeft Stays xs ys → HasNoRepeat (map key xs) → HasNoRepeat (map key ys)
  left-no_repeat [] ys left once = subst (λ (zs : List A). HasNoRepeat (map key zs)) (sym left) tt
  left-no_repeat (x ∷ xs) ys (inl (stays, (rest, is, left))) once =
      subst (λ (zs : List A). HasNoRepeat (map key zs)) (sym is) (left-all (λ (other : K). key x ≢ other) xs rest left once.0, left-no_repeat xs rest left once.1)
  left-no_repeat (x ∷ xs) ys (inr (goes, left)) once = left-no_repeat xs ys left once.1

-- the same of the elements themselves
pub left-once : {A : Type 0} (Stays : A → Type 0) (xs ys : List A) → IsLeft Stays xs ys → HasNoRepeat xs → HasNoRepeat ys
left-once {A} Stays xs ys left once =
    subst HasNoRepeat (map-id ys) (left-no_repeat Stays (λ (x : A). x) xs ys left (subst HasNoRepeat (sym (map-id xs)) once))

left-append : {A : Type 0} (Stays : A → Type 0) (xs ys zs ws : List A) → IsLeft Stays xs zs → IsLeft Stays ys ws → IsLeft Stays (xs ++ ys) (zs ++ ws)
left-append {A} Stays [] ys zs ws none left = subst (λ (vs : List A). IsLeft Stays ys (vs ++ ws)) (sym none) left
left-append {A} Stays (x ∷ xs) ys zs ws (inl (stays, (rest, is, more))) left =
    inl (stays, (rest ++ ws, ap (λ (vs : List A). vs ++ ws) is, left-append Stays xs ys rest ws more left))
left-append Stays (x ∷ xs) ys zs ws (inr (goes, more)) left = inr (goes, left-append Stays xs ys zs ws more left)

items_text-append : (xs ys : List Item) → items_text (xs ++ ys) ≡ items_text xs ++ items_text ys
items_text-append [] ys = refl
items_text-append (x ∷ xs) ys =
    ap (λ (t : List ℕ). item_line x ++ 10 ∷ [] ++ t) (items_text-append xs ys) ∙ sym (append_assoc (item_line x ++ 10 ∷ []) (items_text xs) (items_text ys))

pub tells-append : (name : List ℕ) (xs ys : List AlarmMade) (one other : List ℕ) (m n : ℕ) → TellsAgain name xs one m → TellsAgain name ys other n → TellsAgain name (xs ++ ys) (one ++ other) (m + n)
tells-append name xs ys one other m n (a, left, is, many) (b, also, be, few) =
    let texts : one ++ other ≡ items_text (map Alarm (a ++ b)) =
    ap (λ (t : List ℕ). t ++ other) is ∙ ap (λ (t : List ℕ). items_text (map Alarm a) ++ t) be ∙ sym (items_text-append (map Alarm a) (map Alarm b)) ∙ ap items_text (sym (map-append Alarm a b)) in
    (a ++ b, left-append (λ (alarm : AlarmMade). alarm.name ≡ name) xs ys a b left also, texts, omega (arith, many, few, length-append a b))

-- one more, that stays or does not
pub left-more : {A : Type 0} (Stays : A → Type 0) (xs : List A) (x : A) (after : List A) → Stays x → IsLeft Stays xs after → IsLeft Stays (xs ++ x ∷ []) (after ++ x ∷ [])
left-more Stays [] x after stays same = inl (stays, ([], ap (λ (ys : List _). ys ++ x ∷ []) same, refl))
left-more Stays (y ∷ xs) x after stays (inl (here, (rest, is, left))) = inl (here, (rest ++ x ∷ [], ap (λ (ys : List _). ys ++ x ∷ []) is, left-more Stays xs x rest stays left))
left-more Stays (y ∷ xs) x after stays (inr (goes, left)) = inr (goes, left-more Stays xs x after stays left)

pub left-skip : {A : Type 0} (Stays : A → Type 0) (xs : List A) (x : A) (after : List A) → ¬ Stays x → IsLeft Stays xs after → IsLeft Stays (xs ++ x ∷ []) after
left-skip Stays [] x after goes same = inr (goes, same)
left-skip Stays (y ∷ xs) x after goes (inl (here, (rest, is, left))) = inl (here, (rest, is, left-skip Stays xs x rest goes left))
left-skip Stays (y ∷ xs) x after goes (inr (out, left)) = inr (out, left-skip Stays xs x after goes left)
