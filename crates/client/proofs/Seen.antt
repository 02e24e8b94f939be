-- What is stored under a number stands at that place of the list that is seen.
use Rattle.std.proofs.Common.{◌≡◌, ℕ, zero, suc, ◌<◌, ◌≤◌, inl, inr, List, [], ◌∷◌, ◌++◌, length, map, filter, slice_get, Some, true, false, nat_eq, eq-eqb, ne_eqb, length-append, refl, sym, ap, subst, ◌∙◌, arith}
use Rattle.std.proofs.lemmas.Bool.{cases_eq, cases_lt}
use Rattle.std.proofs.lemmas.Option.{slice_get_within}
use Rattle.client.specs.Numbered.{AreNumbered, all_numbered, first_numbered, is_numbered}
use Rattle.client.proofs.Groups.{IsIn, from-filter, in-filter, of-each}

get-front : {X : Type 0} (xs ys : List X) (n : ℕ) → n < length xs → slice_get (xs ++ ys) n ≡ slice_get xs n
get-front [] ys n low = absurd (omega (arith, low))
get-front (x ∷ xs) ys zero low = refl
get-front (x ∷ xs) ys (suc n) low = get-front xs ys n (omega (arith, low))

get-end : {X : Type 0} (xs : List X) (y : X) → slice_get (xs ++ y ∷ []) (length xs) ≡ Some y
get-end [] y = refl
get-end (x ∷ xs) y = get-end xs y

record IsSole {X : Type 0} (xs : List X) : Type 0 where
  pub x : X
  pub is : xs ≡ x ∷ []

sole : {X : Type 0} (xs : List X) → length xs ≡ 1 → IsSole xs
sole [] one = absurd (omega (arith, one))
sole (x ∷ []) one = record { x = x; is = refl }
sole (x ∷ y ∷ xs) one = absurd (omega (arith, one))

own-number : {K : Type 0} {X : Type 0} (number : K → ℕ) (n : ℕ) (e : K × X) → is_numbered number n e ≡ true → number e.0 ≡ n
own-number number n e is = elim (cases_eq (number e.0) n) [
  | inl same ↦ same
  | inr differ ↦ let not : nat_eq (number e.0) n ≡ false = ne_eqb (number e.0) n differ in absurd cc
]

module _ {K X L : Type 0} (number : K → ℕ) (look : K × X → L) (entries : List (K × X)) (numbered : AreNumbered number entries) where
  the-sole : (n : ℕ) → n < length entries → IsSole (filter (is_numbered number n) entries)
  the-sole n low = sole (filter (is_numbered number n) entries) (numbered.each n low)

  length-first : (m : ℕ) → m ≤ length entries → length (first_numbered number look entries m) ≡ m
  length-first zero few = refl
  length-first (suc m) few =
      let one = the-sole m few in
      let more = length-append (first_numbered number look entries m) (look one.x ∷ []) in
      let before = length-first m (omega (arith, few)) in
      rw one.is (omega (arith, more, before))

  at-first : (m n : ℕ) (few : m ≤ length entries) (low : n < m) (e : K × X) → filter (is_numbered number n) entries ≡ e ∷ [] → slice_get (first_numbered number look entries m) n ≡ Some (look e)
  at-first zero n few low e is = absurd (omega (arith, low))
  at-first (suc m) n few low e is = elim (cases_lt n m) [
    | inl before ↦ get-front (first_numbered number look entries m) (map look (filter (is_numbered number m) entries)) n (rw (length-first m (omega (arith, few))) before) ∙ at-first m n (omega (arith, few)) before e is
    | inr not ↦
        let same : n ≡ m = omega (arith, low, not) in
        let alone : filter (is_numbered number m) entries ≡ e ∷ [] = subst (λ (k : ℕ). filter (is_numbered number k) entries ≡ e ∷ []) same is in
        let last : slice_get (first_numbered number look entries m ++ look e ∷ []) n ≡ Some (look e) =
        subst (λ (k : ℕ). slice_get (first_numbered number look entries m ++ look e ∷ []) k ≡ Some (look e)) (length-first m (omega (arith, few)) ∙ sym same) (get-end (first_numbered number look entries m) (look e)) in
        rw alone last
  ]

  pub seen : (e : K × X) → IsIn entries e → slice_get (all_numbered number look entries) (number e.0) ≡ Some (look e)
  seen e is =
      let low : number e.0 < length entries = of-each _ entries e numbered.below is in
      let one = the-sole (number e.0) low in
      let there : IsIn (one.x ∷ []) e = subst (λ (es : List (K × X)). IsIn es e) one.is (in-filter (is_numbered number (number e.0)) entries e is (eq-eqb (number e.0) (number e.0) refl)) in
      let same : one.x ≡ e = elim there [ inl own ↦ own | inr never ↦ absurd never ] in
      at-first (length entries) (number e.0) (omega arith) low e (one.is ∙ ap (λ (x : K × X). x ∷ []) same)

  -- what stands at a place of the list is stored under its number
  pub record IsStored (n : ℕ) (l : L) : Type 0 where
    pub entry : K × X
    pub in_entries : IsIn entries entry
    pub numbered_so : number entry.0 ≡ n
    pub same : look entry ≡ l

  pub stored : (n : ℕ) (l : L) → slice_get (all_numbered number look entries) n ≡ Some l → IsStored n l
  stored n l at =
      let within : n < length (all_numbered number look entries) = slice_get_within _ n l at in
      let low : n < length entries = subst (λ (k : ℕ). n < k) (length-first (length entries) (omega arith)) within in
      let one = the-sole n low in
      let own : IsIn (filter (is_numbered number n) entries) one.x = subst (λ (es : List (K × X)). IsIn es one.x) (sym one.is) (inl refl) in
      let from = from-filter (is_numbered number n) entries one.x own in
      let here : slice_get (all_numbered number look entries) n ≡ Some (look one.x) = at-first (length entries) n (omega arith) low one.x one.is in
      let both : Some (look one.x) ≡ Some l = sym here ∙ at in
      record { entry = one.x; in_entries = from.0; numbered_so = own-number number n one.x from.1; same = cc }
