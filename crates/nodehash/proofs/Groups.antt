-- Lists of digests that grow, one by one and by groups. A place beyond the end is not written.
use Rattle.std.proofs.Common.{◌≡◌, ℕ, zero, suc, ◌+◌, ◌<◌, ◌≤◌, List, [], ◌∷◌, ◌++◌, length, take, map, min, get_or, slice_set, sym, ap, subst, ◌∙◌, inl, inr, arith, add-zero}
use Rattle.std.specs.List.{AllByRecursion}
use Rattle.std.proofs.lemmas.Bool.{cases_lt}
use Rattle.std.proofs.lemmas.List.{take_all, take_more_set, map_more}

-- the digests of the first texts stand in the first places
abbrev pub IsDigested : {X Y : Type 0} → (X → Y) → List X → ℕ → List Y → Type 0
IsDigested f xs n ys = take n ys ≡ map f (take n xs)

module _ {X Y : Type 0} (f : X → Y) (xs : List X) (d : X) where
  -- one more, where there is one
  pub one_written : (ys : List Y) (i : ℕ) (y : Y) → i < length xs → length ys ≡ length xs → y ≡ f (get_or xs i d)
      → IsDigested f xs i ys → IsDigested f xs (i + 1) (slice_set ys i y)
  one_written ys i y lt same is held =
      take_more_set ys i y (omega arith) ∙ (λ k. held k ++ is k ∷ []) ∙ sym (map_more f xs i d lt)

  -- as many places as up to j
  pub all_written : (ys : List Y) (i j : ℕ) → length ys ≡ length xs → min i (length xs) ≡ min j (length xs) → IsDigested f xs i ys → IsDigested f xs j ys
  all_written ys i j same least held = elim (cases_lt i (length xs)) [
    | inl within ↦
        let e : i ≡ j = omega (arith, least, within) in
        subst (λ (n : ℕ). IsDigested f xs n ys) e held
    | inr past ↦
        let far : length xs ≤ j = omega (arith, least, past) in
        take_all j ys (omega arith) ∙ sym (take_all i ys (omega arith)) ∙ held ∙ ap (map f) (take_all i xs past ∙ sym (take_all j xs far))
  ]

  pub written : (ys : List Y) (i : ℕ) → length ys ≡ length xs → length xs ≤ i → IsDigested f xs i ys → ys ≡ map f xs
  written ys i same end held = sym (take_all i ys (omega arith)) ∙ held ∙ ap (map f) (take_all i xs end)

-- what holds at each place holds of all
pub all-from : {X : Type 0} (P : X → Type 0) (d : X) (xs : List X) → ((k : ℕ) → k < length xs → P (get_or xs k d)) → AllByRecursion P xs
all-from P d [] at = tt
all-from P d (x ∷ xs) at = (at 0 (omega arith), all-from P d xs (λ k below. at (suc k) (omega arith)))

-- what holds of the first four numbers, and of the first eight
pub below-four : (P : ℕ → Type 0) → P 0 → P 1 → P 2 → P 3 → (k : ℕ) → k < 4 → P k
below-four P a b c d zero lt = a
below-four P a b c d (suc zero) lt = b
below-four P a b c d (suc (suc zero)) lt = c
below-four P a b c d (suc (suc (suc zero))) lt = d
below-four P a b c d (suc (suc (suc (suc k)))) lt = absurd (omega arith)

pub below-eight : (P : ℕ → Type 0) → P 0 → P 1 → P 2 → P 3 → P 4 → P 5 → P 6 → P 7 → (k : ℕ) → k < 8 → P k
below-eight P a b c d e f g h zero lt = a
below-eight P a b c d e f g h (suc zero) lt = b
below-eight P a b c d e f g h (suc (suc zero)) lt = c
below-eight P a b c d e f g h (suc (suc (suc zero))) lt = d
below-eight P a b c d e f g h (suc (suc (suc (suc zero)))) lt = e
below-eight P a b c d e f g h (suc (suc (suc (suc (suc zero))))) lt = f
below-eight P a b c d e f g h (suc (suc (suc (suc (suc (suc zero)))))) lt = g
below-eight P a b c d e f g h (suc (suc (suc (suc (suc (suc (suc zero))))))) lt = h
below-eight P a b c d e f g h (suc (suc (suc (suc (suc (suc (suc (suc k)))))))) lt = absurd (omega arith)

-- digests that are put into the places from `first` on, where `first` of them are right
module _ {X Y : Type 0} (f : X → Y) (d : X) (e : Y) (xs : List X) (first : ℕ) (out : List Y) where
  abbrev pub Puts : List Y → Type 0
  Puts ys = ((k : ℕ) → k < length ys → first + k < length xs → get_or ys k e ≡ f (get_or xs (first + k) d)) → IsDigested f xs (first + length ys) out

  -- the text is the one at this place, if there is one
  abbrev pub IsAt : ℕ → X → Type 0
  IsAt n x = n < length xs → x ≡ get_or xs n d

  at_first : (x : X) → IsAt first x → first + 0 < length xs → f x ≡ f (get_or xs (first + 0) d)
  at_first x is within = ap f (is (omega (arith, within, add-zero first))) ∙ ap (λ (n : ℕ). f (get_or xs n d)) (sym (add-zero first))

  pub puts-four : (ys : List Y) (a b c g : X) → ys ≡ f a ∷ f b ∷ f c ∷ f g ∷ [] → IsAt first a → IsAt (first + 1) b → IsAt (first + 2) c → IsAt (first + 3) g
      → Puts ys → IsDigested f xs (first + 4) out
  puts-four ys a b c g is ea eb ec eg put =
      subst (λ (zs : List Y). Puts zs → IsDigested f xs (first + 4) out) (sym is)
      (λ puts. puts (below-four (λ k. first + k < length xs → get_or (f a ∷ f b ∷ f c ∷ f g ∷ []) k e ≡ f (get_or xs (first + k) d))
      (at_first a ea) (λ lt. ap f (eb lt)) (λ lt. ap f (ec lt)) (λ lt. ap f (eg lt)))) put

  pub puts-eight : (ys : List Y) (a b c g h i j k : X) → ys ≡ f a ∷ f b ∷ f c ∷ f g ∷ f h ∷ f i ∷ f j ∷ f k ∷ []
      → IsAt first a → IsAt (first + 1) b → IsAt (first + 2) c → IsAt (first + 3) g → IsAt (first + 4) h → IsAt (first + 5) i → IsAt (first + 6) j → IsAt (first + 7) k
      → Puts ys → IsDigested f xs (first + 8) out
  puts-eight ys a b c g h i j k is ea eb ec eg eh ei ej ek put =
      subst (λ (zs : List Y). Puts zs → IsDigested f xs (first + 8) out) (sym is)
      (λ puts. puts (below-eight (λ n. first + n < length xs → get_or (f a ∷ f b ∷ f c ∷ f g ∷ f h ∷ f i ∷ f j ∷ f k ∷ []) n e ≡ f (get_or xs (first + n) d))
      (at_first a ea) (λ lt. ap f (eb lt)) (λ lt. ap f (ec lt)) (λ lt. ap f (eg lt)) (λ lt. ap f (eh lt)) (λ lt. ap f (ei lt)) (λ lt. ap f (ej lt)) (λ lt. ap f (ek lt)))) put
