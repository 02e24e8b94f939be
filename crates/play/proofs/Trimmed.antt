-- A line of a script is what stands before the first LF.
use Rattle.std.proofs.Common.{◌≡◌, ℕ, ◌<◌, List, [], ◌∷◌, ◌++◌, length, Bool, true, false, Option, Some, None, cond, refl, sym, ap, ap₂, subst, ◌∙◌, inl, inr, arith, eqb}
use Rattle.std.proofs.lemmas.Bool.{eqb-true, eqb-false}
use Rattle.std.specs.Prelude.{IfSome}
use Rattle.std.specs.Io.BufRead.{drop_through, take_through, DropsThrough}
use Rattle.textio.specs.Lines.{lines_of, onto_first}
use Rattle.play.specs.Reading.{IsTrimmed, TakesWholeLine}

heads : (x y : ℕ) (xs ys : List ℕ) → x ∷ xs ≡ y ∷ ys → (x ≡ y) × (xs ≡ ys)
heads x y xs ys e = (cc, cc)

none_push : (xs : List ℕ) (x : ℕ) → [] ≡ xs ++ x ∷ [] → ⊥
none_push [] x e = absurd cc
none_push (y ∷ ys) x e = absurd cc

-- a line that an LF ends
ended : (xs line : List ℕ) → take_through 10 xs ≡ line ++ 10 ∷ [] → lines_of xs ≡ line ∷ lines_of (drop_through 10 xs)
ended [] line e = absurd (none_push line 10 e)
ended (x ∷ xs) line e = by_test (eqb x 10) refl line e (ended xs)
  where
    by_test : (b : Bool) → eqb x 10 ≡ b → (line : List ℕ) → cond b (x ∷ []) (x ∷ take_through 10 xs) ≡ line ++ 10 ∷ []
        → ((line : List ℕ) → take_through 10 xs ≡ line ++ 10 ∷ [] → lines_of xs ≡ line ∷ lines_of (drop_through 10 xs))
        → cond b ([] ∷ lines_of xs) (onto_first x (lines_of xs)) ≡ line ∷ lines_of (cond b xs (drop_through 10 xs))
    by_test true is [] e next = refl
    by_test true is (y ∷ ys) e next = absurd (none_push ys 10 (heads x y [] (ys ++ 10 ∷ []) e).1)
    by_test false is [] e next = absurd (eqb-false x 10 is (heads x 10 (take_through 10 xs) [] e).0)
    by_test false is (y ∷ ys) e next =
        let parts = heads x y (take_through 10 xs) (ys ++ 10 ∷ []) e in
        ap (onto_first x) (next ys parts.1) ∙ ap (λ (z : ℕ). (z ∷ ys) ∷ lines_of (drop_through 10 xs)) parts.0

-- the last line, without one
last : (xs : List ℕ) → 0 < length xs → ((front : List ℕ) → ¬ (take_through 10 xs ≡ front ++ 10 ∷ [])) → (lines_of xs ≡ take_through 10 xs ∷ []) × (drop_through 10 xs ≡ [])
last [] some not = absurd (omega (arith, some))
last (x ∷ xs) some not = by_test (eqb x 10) refl not (last xs)
  where
    by_test : (b : Bool) → eqb x 10 ≡ b → ((front : List ℕ) → ¬ (cond b (x ∷ []) (x ∷ take_through 10 xs) ≡ front ++ 10 ∷ []))
        → (0 < length xs → ((front : List ℕ) → ¬ (take_through 10 xs ≡ front ++ 10 ∷ [])) → (lines_of xs ≡ take_through 10 xs ∷ []) × (drop_through 10 xs ≡ []))
        → (cond b ([] ∷ lines_of xs) (onto_first x (lines_of xs)) ≡ cond b (x ∷ []) (x ∷ take_through 10 xs) ∷ []) × (cond b xs (drop_through 10 xs) ≡ [])
    by_test true is not next = absurd (not [] (ap (λ (z : ℕ). z ∷ []) (eqb-true x 10 is)))
    by_test false is not next = by_rest xs next not
      where
        by_rest : (xs : List ℕ)
            → (0 < length xs → ((front : List ℕ) → ¬ (take_through 10 xs ≡ front ++ 10 ∷ [])) → (lines_of xs ≡ take_through 10 xs ∷ []) × (drop_through 10 xs ≡ []))
            → ((front : List ℕ) → ¬ (x ∷ take_through 10 xs ≡ front ++ 10 ∷ []))
            → (onto_first x (lines_of xs) ≡ (x ∷ take_through 10 xs) ∷ []) × (drop_through 10 xs ≡ [])
        by_rest [] next not = (refl, refl)
        by_rest (y ∷ ys) next not =
            let t = next (omega arith) (λ front e. not (x ∷ front) (ap (λ (l : List ℕ). x ∷ l) e)) in
            (ap (onto_first x) t.0, t.1)

-- what was read, without its LF, is the first line
pub taken : (input left : Option (List ℕ)) (read line : List ℕ) → IfSome input (λ xs. read ≡ take_through 10 xs) → DropsThrough input left 10 → 0 < length read → IsTrimmed read line → TakesWholeLine input left true line
taken None left read line is drops some trimmed = tt
taken (Some xs) left read line is drops some (inl ends) =
    subst (λ (l : Option (List ℕ)). TakesWholeLine (Some xs) l true line) (sym drops) (ended xs line (sym is ∙ ends))
taken (Some []) left read line is drops some (inr whole) = absurd (omega (arith, some, ap length is))
taken (Some (x ∷ xs)) left read line is drops some (inr (same, not)) =
    let t = last (x ∷ xs) (omega arith) (λ front e. not front (is ∙ e)) in
    subst (λ (l : Option (List ℕ)). TakesWholeLine (Some (x ∷ xs)) l true line) (sym drops)
    (t.0 ∙ ap₂ (λ (l : List ℕ) (rest : List ℕ). l ∷ lines_of rest) (sym is ∙ sym same) (sym t.1))

-- appended to nothing
pub onto_nothing : (input : Option (List ℕ)) (read old : List ℕ) → old ≡ [] → IfSome input (λ xs. read ≡ old ++ take_through 10 xs) → IfSome input (λ xs. read ≡ take_through 10 xs)
onto_nothing None read old none is = tt
onto_nothing (Some xs) read old none is = is ∙ ap (λ (l : List ℕ). l ++ take_through 10 xs) none
