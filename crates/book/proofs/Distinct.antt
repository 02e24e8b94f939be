-- No two names of a page have one index, since a register is refused where another name has its index.
use Rattle.std.proofs.Common.{◌≡◌, ℕ, List, [], ◌∷◌, Option, Some, None, Bool, true, false, cond, not, ◌&&◌, Contains, refl, sym, ap, subst, inl, inr, ◌⊎◌, ◌∙◌}
use Rattle.std.specs.Prelude.{is_some, is_none}
use Rattle.std.specs.BTreeMap.{is_at}
use Rattle.std.specs.List.{AllByRecursion, find}
use Rattle.std.specs.Str.{bytes_eq}
use Rattle.std.proofs.lemmas.Bool.{not-false, or_parts}
use Rattle.std.proofs.lemmas.Cmp.{nat_list_eq_equiv}
use Rattle.std.proofs.lemmas.Slice.Eq.{bytes_eq-Decides}
use Rattle.book.specs.Steps.{Answer, bad_index, bad_verb, has_its_index, next_page, refusal, with_page, with_pending}
use Rattle.commands.specs.declared.edit.Verb.{Verb}
use Rattle.commands.specs.declared.edit.Verb.TheVariants.{Register, Change}
use Rattle.commands.specs.Operations.{bound_key, Operation, Query, Edit, Put, Turn}
use Rattle.book.specs.Books.{Binding, Book, pages}
use Rattle.encoding.specs.declared.bound_key.BoundKey.{BoundKey}
use Rattle.encoding.specs.Maps.{Map, at, overwritten, put_at}
use Rattle.book.specs.Shows.{Provider, index_of}
use Rattle.book.proofs.Entries.{at_put_other, found-entry, is_name, is_no_name, same_name, stays}
use Rattle.book.proofs.Members.{first-or-later, none-there}
use Rattle.book.proofs.Stepping.{Does, put_passed}
use Rattle.book.proofs.Turning.{all-push}
use Rattle.encoding.specs.Bytes.{bytes_cmp}

-- the map has the name
abbrev pub HasName : Map Binding → List ℕ → Type 0
HasName map name = (binding : Binding) × (at map name ≡ Some binding)

pub named-or-not : (map : Map Binding) (name : List ℕ) → HasName map name ⊎ (at map name ≡ None)
named-or-not map name = by (at map name) refl
  where
    by : (found : Option Binding) → at map name ≡ found → HasName map name ⊎ (at map name ≡ None)
    by None is = inr is
    by (Some binding) is = inl (binding, is)

-- an entry's name is found
pub entry-named : (map : Map Binding) (entry : List ℕ × Binding) → Contains map entry → HasName map entry.0
entry-named [] entry is = absurd (none-there entry is)
entry-named (e ∷ es) entry is = elim (first-or-later e es entry is) [
  | inl same ↦ subst (λ (x : List ℕ × Binding). HasName (e ∷ es) x.0) same (e.1, ap (λ (t : Bool). cond t (Some e.1) (at es e.0)) (same_name e.0))
  | inr later ↦ by (is_at (bytes_cmp entry.0) e.0) (entry-named es entry later)
]
  where
    by : (t : Bool) → HasName es entry.0 → (binding : Binding) × (cond t (Some e.1) (at es entry.0) ≡ Some binding)
    by true more = (e.1, refl)
    by false more = more

pub put-named : (map : Map Binding) (name other : List ℕ) (binding : Binding) → HasName (put_at map name binding) other → HasName map other ⊎ (other ≡ name)
put-named map name other binding has = by (is_at (bytes_cmp name) other) refl
  where
    by : (t : Bool) → is_at (bytes_cmp name) other ≡ t → HasName map other ⊎ (other ≡ name)
    by true is = inr (is_name name other is)
    by false is = inl (has.0, sym (at_put_other name binding map other (is_no_name name other is)) ∙ has.1)

overwritten-named : (entries map : Map Binding) (name : List ℕ) → HasName (overwritten map entries) name → HasName map name ⊎ HasName entries name
overwritten-named entries map name has = elim (named-or-not entries name) [
  | inl there ↦ inr there
  | inr none ↦ inl (has.0, sym (stays entries map name none) ∙ has.1)
]

none-passes : {X : Type 0} (p : X → Bool) (xs : List X) → is_some (find p xs) ≡ false → AllByRecursion (λ x. p x ≡ false) xs
none-passes p [] none = tt
none-passes p (x ∷ xs) none = by (p x) refl none (none-passes p xs)
  where
    by : (t : Bool) → p x ≡ t → is_some (cond t (Some x) (find p xs)) ≡ false → (is_some (find p xs) ≡ false → AllByRecursion (λ y. p y ≡ false) xs) → AllByRecursion (λ y. p y ≡ false) (x ∷ xs)
    by true test none more = absurd cc
    by false test none more = (test, more none)

module _ (provider : Provider) where
  -- no two of these names have one index
  abbrev pub AreApart : (List ℕ → Type 0) → Type 0
  AreApart Has = (one other : List ℕ) → Has one → Has other → index_of provider one ≡ index_of provider other → one ≡ other

  -- of the last page, or waiting
  abbrev Holds : Book → List ℕ → Type 0
  Holds book name = HasName book.last.bindings name ⊎ HasName book.pending name

  pub record IsApart (book : Book) : Type 0 where
    pub now : AreApart (Holds book)
    pub pages : AllByRecursion (λ page. AreApart (HasName page.bindings)) (pages book)

  -- what the test says of a map
  untaken : (name : List ℕ) (map : Map Binding) → has_its_index (index_of provider) name map ≡ false → (other : List ℕ) → HasName map other → index_of provider other ≡ index_of provider name → other ≡ name
  untaken name map none other has same =
      let e = found-entry (λ entry. (not (bytes_eq entry.0 name) && bytes_eq (index_of provider entry.0) (index_of provider name)) ≡ false) map other has.0 has.1 (none-passes _ map none) in
      let i : bytes_eq (index_of provider e.0.0) (index_of provider name) ≡ true
      = ap (bytes_eq (index_of provider e.0.0)) (sym (ap (index_of provider) e.2 ∙ same)) ∙ nat_list_eq_equiv.refl (index_of provider e.0.0) in
      sym e.2 ∙ (bytes_eq-Decides e.0.0 name).0 (not-false _ (sole (not (bytes_eq e.0.0 name)) (bytes_eq (index_of provider e.0.0) (index_of provider name)) e.1 i))
    where
      sole : (a b : Bool) → (a && b) ≡ false → b ≡ true → a ≡ false
      sole false b none is = refl
      sole true b none is = let e : true ≡ false = sym is ∙ none in absurd cc

  -- a name that is put in, where all others with its index are itself
  apart-pending : (book : Book) (name : List ℕ) (key : BoundKey) → IsApart book → ((other : List ℕ) → Holds book other → index_of provider other ≡ index_of provider name → other ≡ name) → IsApart (with_pending book name key)
  apart-pending book name key apart free = record { now = now; pages = apart.pages }
    where
      held : (other : List ℕ) → Holds (with_pending book name key) other → Holds book other ⊎ (other ≡ name)
      held other (inl last) = inl (inl last)
      held other (inr waits) = elim (put-named book.pending name other (record { key = key; salt = book.salt }) waits) [ inl before ↦ inl (inr before) | inr same ↦ inr same ]

      by : (one other : List ℕ) → Holds book one ⊎ (one ≡ name) → Holds book other ⊎ (other ≡ name) → index_of provider one ≡ index_of provider other → one ≡ other
      by one other (inl a) (inl b) same = apart.now one other a b same
      by one other (inl a) (inr b) same = free one a (same ∙ ap (index_of provider) b) ∙ sym b
      by one other (inr a) (inl b) same = a ∙ sym (free other b (sym same ∙ ap (index_of provider) a))
      by one other (inr a) (inr b) same = a ∙ sym b

      now : AreApart (Holds (with_pending book name key))
      now one other a b same = by one other (held one a) (held other b) same

  apart-page : (book : Book) (epoch : ℕ) (nonce : Option (List ℕ)) → IsApart book → IsApart (with_page book (next_page book epoch nonce))
  apart-page book epoch nonce apart = record { now = now; pages = all-push (λ page. AreApart (HasName page.bindings)) (pages book) (next_page book epoch nonce) apart.pages page }
    where
      page : AreApart (HasName (next_page book epoch nonce).bindings)
      page one other a b same = apart.now one other (overwritten-named book.pending book.last.bindings one a) (overwritten-named book.pending book.last.bindings other b) same

      shown : (name : List ℕ) → Holds (with_page book (next_page book epoch nonce)) name → HasName (next_page book epoch nonce).bindings name
      shown name (inl last) = last
      shown name (inr waits) = absurd (never waits.1)
        where
          never : {x : Binding} → None ≡ Some x → ⊥
          never e = absurd cc

      now : AreApart (Holds (with_page book (next_page book epoch nonce)))
      now one other a b same = page one other (shown one a) (shown other b) same

  pub apart-after : (book after : Book) (asked : Operation) (answer : Answer) → IsApart book → refusal (index_of provider) book asked ≡ None → Does book asked answer after → IsApart after
  apart-after book after (Query question) answer apart none does = subst IsApart (sym does.1) apart
  apart-after book after (Edit (Put verb name key)) answer apart none does =
      let has = put_passed (index_of provider) book verb name key none in
      subst IsApart (sym does.1) (apart-pending book name (bound_key key) apart (free verb has.page has.index))
    where
      there : (found : Option Binding) → is_none found ≡ false → (binding : Binding) × (found ≡ Some binding)
      there None e = absurd cc
      there (Some binding) e = (binding, refl)

      free : (verb : Verb) → (bad_verb verb (at book.last.bindings name)).0 ≡ false → (bad_index (index_of provider) verb book name).0 ≡ false
          → (other : List ℕ) → Holds book other → index_of provider other ≡ index_of provider name → other ≡ name
      free Register new none other (inl last) same = untaken name book.last.bindings (or_parts _ (has_its_index (index_of provider) name book.pending) none).0 other last same
      free Register new none other (inr waits) same = untaken name book.pending (or_parts (has_its_index (index_of provider) name book.last.bindings) _ none).1 other waits same
      free Change shown none other held same = apart.now other name held (inl (there (at book.last.bindings name) shown)) same
  apart-after book after (Edit (Turn epoch nonce)) answer apart none does = subst IsApart (sym does.1) (apart-page book epoch nonce apart)
