-- Lists that take an element.
use Rattle.std.proofs.Common.{◌≡◌, ◌≢◌, ℕ, suc, Bool, true, false, ◌<◌, List, [], ◌∷◌, ◌++◌, length, map, get_or, set, take, drop, All, Any, Contains, refl, sym, ap, subst, ◌∙◌, inl}
use Rattle.std.specs.Bool.{MatchBool}
use Rattle.std.specs.List.{AllByRecursion}
use Rattle.std.proofs.lemmas.List.{get_or_default, get_or-map, get_or-set_same, map-id, map-set, set-get_or, set_split}
use Rattle.std.proofs.lemmas.List.Elements.{All-head, All-tail}
use Rattle.memory.specs.Lists.{HasNoRepeat, Puts}
use Rattle.memory.specs.Taking.{former, later}

pub set_differs : {A : Type 0} (xs : List A) (place : ℕ) (kept new : A) → place < length xs → get_or xs place kept ≡ kept → kept ≢ new → set xs place new ≢ xs
set_differs {A} xs place kept new within at differs is =
    let read = λ (zs : List A). get_or zs place kept in
    differs (sym at ∙ ap read (sym is) ∙ get_or-set_same xs place new kept within)

pub set_same : {A : Type 0} (xs : List A) (place : ℕ) (kept new : A) → get_or xs place kept ≡ kept → new ≡ kept → set xs place new ≡ xs
set_same xs place kept new at same = ap (set xs place) (same ∙ sym at) ∙ set-get_or xs place kept

split_at : {A : Type 0} (xs : List A) (place : ℕ) (kept : A) → place < length xs → get_or xs place kept ≡ kept → xs ≡ take place xs ++ kept ∷ drop (suc place) xs
split_at {A} xs place kept within at = sym (set_same xs place kept kept at refl) ∙ set_split xs place kept within

module _ {A K : Type 0} (key : A → K) where
  pub puts-at : (joined : A → A → A) (new : A) (xs : List A) (place : ℕ) (kept : A) → place < length xs → get_or xs place kept ≡ kept → key kept ≡ key new
      → Puts key joined new xs (set xs place (joined kept new))
  puts-at joined new xs place kept within at same =
      inl (take place xs, kept, drop (suc place) xs, split_at xs place kept within at, same, set_split xs place (joined kept new) within)

  pub set-keys : (xs : List A) (place : ℕ) (kept new : A) → place < length xs → get_or xs place kept ≡ kept → key new ≡ key kept → map key (set xs place new) ≡ map key xs
  set-keys xs place kept new within at same =
      let read : get_or (map key xs) place (key kept) ≡ key kept = get_or-map key xs place kept (key kept) within ∙ ap key at in
      map-set key xs place new ∙ set_same (map key xs) place (key kept) (key new) read same

  pub set-no_repeat : (xs : List A) (place : ℕ) (kept new : A) → place < length xs → get_or xs place kept ≡ kept → key new ≡ key kept
      → HasNoRepeat (map key xs) → HasNoRepeat (map key (set xs place new))
  set-no_repeat xs place kept new within at same once =
      subst HasNoRepeat (sym (set-keys xs place kept new within at same)) once

  pub all-push : (P : K → Type 0) (xs : List A) (new : A) → AllByRecursion P (map key xs) → P (key new) → AllByRecursion P (map key (xs ++ new ∷ []))
  all-push P [] new all here = (here, tt)
  all-push P (x ∷ xs) new all here = (all.0, all-push P xs new all.1 here)

  pub push-no_repeat : (xs : List A) (new : A) → All (λ (kept : A). key kept ≢ key new) xs → HasNoRepeat (map key xs) → HasNoRepeat (map key (xs ++ new ∷ []))
  push-no_repeat [] new none once = (tt, tt)
  push-no_repeat (x ∷ xs) new none once = (
    all-push (λ (other : K). key x ≢ other) xs new once.0 (All-head (λ (kept : A). key kept ≢ key new) x xs none),
    push-no_repeat xs new (All-tail (λ (kept : A). key kept ≢ key new) x xs none) once.1,
  )

-- the same of the elements themselves
pub push-once : {A : Type 0} (xs : List A) (new : A) → All (λ (kept : A). kept ≢ new) xs → HasNoRepeat xs → HasNoRepeat (xs ++ new ∷ [])
push-once {A} xs new none once =
    subst HasNoRepeat (map-id (xs ++ new ∷ [])) (push-no_repeat (λ (x : A). x) xs new none (subst HasNoRepeat (sym (map-id xs)) once))

-- what is there stays so
pub puts-contained : {A : Type 0} (new : A) (xs : List A) → Contains xs new → Puts (λ (x : A). x) later new xs xs
puts-contained {A} new xs (place, within, at) =
    let puts = puts-at (λ (x : A). x) later new xs place new within at refl in
    subst (Puts (λ (x : A). x) later new xs) (set_same xs place new new at refl) puts

-- one that has the key stays where the earlier of two counts
pub puts-former : {A K : Type 0} (key : A → K) (new : A) (xs : List A) → Any (λ (kept : A). key kept ≡ key new) xs → Puts key former new xs xs
puts-former key new xs (place, kept, within, at, same) =
    let split = split_at xs place kept within at in
    inl (take place xs, kept, drop (suc place) xs, split, same, split)

pub none-contained : {A : Type 0} (xs : List A) (new : A) → ¬ Contains xs new → All (λ (kept : A). kept ≢ new) xs
none-contained {A} xs new none = λ k d within is. none (k, within, get_or_default xs k new d within ∙ is)

pub put_at : {A K : Type 0} (key : A → K) (joined : A → A → A) (new : A) (xs : List A) (place : ℕ) (kept : A) (is_new : Bool) → place < length xs → get_or xs place kept ≡ kept
    → key kept ≡ key new → MatchBool is_new (kept ≢ joined kept new) (kept ≡ joined kept new)
    → Puts key joined new xs (set xs place (joined kept new)) × MatchBool is_new (set xs place (joined kept new) ≢ xs) (set xs place (joined kept new) ≡ xs)
put_at key joined new xs place kept true within at same tells = (puts-at key joined new xs place kept within at same, set_differs xs place kept (joined kept new) within at tells)
put_at key joined new xs place kept false within at same tells = (puts-at key joined new xs place kept within at same, set_same xs place kept (joined kept new) at (sym tells))
