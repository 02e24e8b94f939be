-- A sound book stays sound: where a binding begins to wait, and where a page comes.
use Rattle.std.proofs.Common.{◌≡◌, ℕ, ◌+◌, ◌<◌, ◌^◌, List, [], ◌∷◌, ◌++◌, length, get_or, Bool, true, false, Option, Some, None, All, AllPairs, IsSome, refl, sym, ap, subst, inl, inr, ◌⊎◌, ◌∙◌, arith, leb}
use Rattle.std.specs.Prelude.{is_some, IfSome}
use Rattle.std.specs.BTreeMap.{is_at}
use Rattle.std.specs.List.{AllAdjacentBelow, AllByRecursion}
use Rattle.std.proofs.lemmas.Bool.{leb-true, leb-false}
use Rattle.std.proofs.lemmas.List.{get_or_append_left, get_or_push, length_push}
use Rattle.std.proofs.lemmas.List.Elements.{All-from_recursion, All-push, All-weaker, recursion_from_All}
use Rattle.rand_core.specs.Stream.{Stream, fill_bytes}
use Rattle.encoding.specs.declared.bound_key.BoundKey.{BoundKey}
use Rattle.encoding.specs.Bytes.{bytes_cmp, Is32Bytes}
use Rattle.encoding.specs.Limits.{IsKeyData, IsName}
use Rattle.rootchain.specs.Promises.{IsEpoch}
use Rattle.book.specs.Steps.{is_final_binding, next_page, with_page, with_pending}
use Rattle.book.specs.Books.{Binding, Book, Page, pages}
use Rattle.book.specs.Fresh.{fresh}
use Rattle.encoding.specs.Maps.{Map, at, overwritten, put_at}
use Rattle.book.specs.Sound.{AreBindings, HasFinalsOf, HasNamesOf, HoldsName, IsEntry, IsPage, IsSound}
use Rattle.book.proofs.Entries.{all_overwritten, all_put, ascends_none, ascends_overwritten, ascends_put, at_put_other, at_put_same, is_name, is_no_name, stays}
use Rattle.book.proofs.Turning.{next-sized, the-last}

-- ---- lists with one element more

module _ {X : Type 0} (R : X → X → Type 0) where
  pub pairs-push : (xs : List X) (x : X) → AllPairs R xs → All (λ y. R y x) xs → AllPairs R (xs ++ x ∷ [])
  pairs-push xs x all below i j d less within = by (leb (length xs) j) refl
    where
      by : (t : Bool) → leb (length xs) j ≡ t → R (get_or (xs ++ x ∷ []) i d) (get_or (xs ++ x ∷ []) j d)
      by true is =
          let e : length xs ≡ j = omega (arith, within, length_push xs x, leb-true (length xs) j is) in
          subst (λ (y : X). R y (get_or (xs ++ x ∷ []) j d)) (sym (get_or_append_left xs (x ∷ []) d i (omega (arith, e, less))))
          (subst (R (get_or xs i d)) (sym (get_or_push xs x d j e)) (below i d (omega (arith, e, less))))
      by false is =
          let p : j < length xs = leb-false (length xs) j is in
          subst (λ (y : X). R y (get_or (xs ++ x ∷ []) j d)) (sym (get_or_append_left xs (x ∷ []) d i (omega (arith, p, less))))
          (subst (R (get_or xs i d)) (sym (get_or_append_left xs (x ∷ []) d j p)) (all i j d less p))

  pub adjacent-push : (xs : List X) (last x : X) → AllAdjacentBelow R (xs ++ last ∷ []) (length (xs ++ last ∷ [])) → R last x
      → AllAdjacentBelow R ((xs ++ last ∷ []) ++ x ∷ []) (length ((xs ++ last ∷ []) ++ x ∷ []))
  adjacent-push xs last x all next k d within = by (leb (length (xs ++ last ∷ [])) (k + 1)) refl
    where
      before : k < length (xs ++ last ∷ [])
      before = omega (arith, within, length_push (xs ++ last ∷ []) x)

      by : (t : Bool) → leb (length (xs ++ last ∷ [])) (k + 1) ≡ t → R (get_or ((xs ++ last ∷ []) ++ x ∷ []) k d) (get_or ((xs ++ last ∷ []) ++ x ∷ []) (k + 1) d)
      by true is =
          let e : length (xs ++ last ∷ []) ≡ k + 1 = omega (arith, before, leb-true (length (xs ++ last ∷ [])) (k + 1) is) in
          let f : length xs ≡ k = omega (arith, e, length_push xs last) in
          subst (λ (y : X). R y (get_or ((xs ++ last ∷ []) ++ x ∷ []) (k + 1) d)) (sym (get_or_append_left (xs ++ last ∷ []) (x ∷ []) d k before ∙ get_or_push xs last d k f))
          (subst (R last) (sym (get_or_push (xs ++ last ∷ []) x d (k + 1) e)) next)
      by false is =
          let p : k + 1 < length (xs ++ last ∷ []) = leb-false (length (xs ++ last ∷ [])) (k + 1) is in
          subst (λ (y : X). R y (get_or ((xs ++ last ∷ []) ++ x ∷ []) (k + 1) d)) (sym (get_or_append_left (xs ++ last ∷ []) (x ∷ []) d k before))
          (subst (R (get_or (xs ++ last ∷ []) k d)) (sym (get_or_append_left (xs ++ last ∷ []) (x ∷ []) d (k + 1) p)) (all k d p))

-- ---- pages that ascend

abbrev pub IsBefore : Page → Page → Type 0
IsBefore earlier later = earlier.epoch < later.epoch

pub ascend-push : (earlier : List Page) (last page : Page) → AllPairs IsBefore (earlier ++ last ∷ []) → last.epoch < page.epoch → AllPairs IsBefore ((earlier ++ last ∷ []) ++ page ∷ [])
ascend-push earlier last page all above = pairs-push IsBefore (earlier ++ last ∷ []) page all below
  where
    below : All (λ (each : Page). each.epoch < page.epoch) (earlier ++ last ∷ [])
    below k d within = by (leb (length earlier) k) refl
      where
        by : (t : Bool) → leb (length earlier) k ≡ t → (get_or (earlier ++ last ∷ []) k d).epoch < page.epoch
        by true is =
            let e : length earlier ≡ k = omega (arith, within, length_push earlier last, leb-true (length earlier) k is) in
            subst (λ (each : Page). each.epoch < page.epoch) (sym (get_or_push earlier last d k e)) above
        by false is =
            let p : k < length earlier = leb-false (length earlier) k is in
            let h : (get_or (earlier ++ last ∷ []) k d).epoch < (get_or (earlier ++ last ∷ []) (length earlier) d).epoch = all k (length earlier) d p (omega (arith, length_push earlier last)) in
            let e : (get_or (earlier ++ last ∷ []) (length earlier) d).epoch ≡ last.epoch = ap (λ (each : Page). each.epoch) (get_or_push earlier last d (length earlier) refl) in
            omega (arith, h, e)

-- ---- bindings

abbrev IsLimited : Binding → Type 0
IsLimited binding = IsKeyData binding.key.value × Is32Bytes binding.salt

abbrev AreLimited : Map Binding → Type 0
AreLimited = AllByRecursion (λ entry. IsName entry.0 × IsLimited entry.1)

limited : (map : Map Binding) → All IsEntry map → AreLimited map
limited map all = recursion_from_All (λ entry. IsName entry.0 × IsLimited entry.1) map
    (All-weaker IsEntry (λ entry. IsName entry.0 × IsLimited entry.1) (λ entry is. (is.name, (is.key, is.salt))) map all)

are-entries : (map : Map Binding) → AreLimited map → All IsEntry map
are-entries map all = All-weaker (λ entry. IsName entry.0 × IsLimited entry.1) IsEntry (λ entry is. record { name = is.0; key = is.1.0; salt = is.1.1 }) map
    (All-from_recursion (λ entry. IsName entry.0 × IsLimited entry.1) map all)

bindings-put : (map : Map Binding) (name : List ℕ) (binding : Binding) → AreBindings map → IsName name → IsLimited binding → AreBindings (put_at map name binding)
bindings-put map name binding are named within = record {
  ascend = ascends_put map name binding are.ascend;
  entries = are-entries (put_at map name binding) (all_put name binding IsName IsLimited map named within (limited map are.entries));
}

bindings-overwritten : (map entries : Map Binding) → AreBindings map → AreBindings entries → AreBindings (overwritten map entries)
bindings-overwritten map entries are also = record {
  ascend = ascends_overwritten map entries are.ascend;
  entries = are-entries (overwritten map entries) (all_overwritten IsName IsLimited entries map (limited entries also.entries) (limited map are.entries));
}

no-bindings : AreBindings []
no-bindings = record { ascend = ascends_none Binding; entries = are-entries [] tt }

-- ---- names

has-put : (map : Map Binding) (name : List ℕ) (binding : Binding) (other : List ℕ) → IsSome (at map other) → IsSome (at (put_at map name binding) other)
has-put map name binding other has = by (is_at (bytes_cmp name) other) refl
  where
    by : (t : Bool) → is_at (bytes_cmp name) other ≡ t → IsSome (at (put_at map name binding) other)
    by true is = ap is_some (ap (at (put_at map name binding)) (is_name name other is) ∙ at_put_same name binding map)
    by false is = ap is_some (at_put_other name binding map other (is_no_name name other is)) ∙ has

put-has : (map : Map Binding) (name : List ℕ) (binding : Binding) (other : List ℕ) → IsSome (at (put_at map name binding) other) → IsSome (at map other) ⊎ (other ≡ name)
put-has map name binding other has = by (is_at (bytes_cmp name) other) refl
  where
    by : (t : Bool) → is_at (bytes_cmp name) other ≡ t → IsSome (at map other) ⊎ (other ≡ name)
    by true is = inr (is_name name other is)
    by false is = inl (ap is_some (sym (at_put_other name binding map other (is_no_name name other is))) ∙ has)

has-overwritten : (entries map : Map Binding) (name : List ℕ) → IsSome (at map name) → IsSome (at (overwritten map entries) name)
has-overwritten [] map name has = has
has-overwritten (entry ∷ entries) map name has = has-overwritten entries (put_at map entry.0 entry.1) name (has-put map entry.0 entry.1 name has)

overwritten-has : (entries map : Map Binding) (name : List ℕ) → IsSome (at (overwritten map entries) name) → IsSome (at map name) ⊎ IsSome (at entries name)
overwritten-has entries map name has = by (at entries name) refl
  where
    by : (found : Option Binding) → at entries name ≡ found → IsSome (at map name) ⊎ IsSome (at entries name)
    by None is = inl (ap is_some (sym (stays entries map name is)) ∙ has)
    by (Some binding) is = inr (ap is_some is)

nobody : IsSome {T = Binding} None → ⊥
nobody has = absurd cc

-- ---- a sound book

module _ (index_of : List ℕ → List ℕ) where
  -- a book begins sound
  pub sound_fresh : (epoch : ℕ) (nonce : List ℕ) (salts : Stream) → IsEpoch epoch → Is32Bytes nonce → Is32Bytes (fill_bytes 32 salts).0 → IsSound index_of (fresh epoch nonce salts)
  sound_fresh epoch nonce salts is size salted = record {
    ascend = λ i j d less within. absurd (omega (arith, less, within));
    stay = λ k d within. absurd (omega (arith, within));
    finals = λ k d within. absurd (omega (arith, within));
    settled = λ name final. refl;
    pending = no-bindings;
    salt = salted;
    apart = λ one other a b same. absurd (none one a);
    pages = All-from_recursion IsPage (first ∷ []) (record { epoch = is; nonce = size; bindings = no-bindings }, tt);
  }
    where
      first : Page
      first = (fresh epoch nonce salts).last

      none : (name : List ℕ) → HoldsName (fresh epoch nonce salts) name → ⊥
      none name (inl has) = nobody has
      none name (inr has) = nobody has

  -- a binding waits, where the last page has no final one for the name, and no other name that is held has its index
  pub sound_pending : (book : Book) (name : List ℕ) (key : BoundKey) → IsSound index_of book → IsName name → IsKeyData key.value → Is32Bytes (fill_bytes 32 book.left).0
      → is_final_binding (at book.last.bindings name) ≡ false → ((other : List ℕ) → HoldsName book other → index_of other ≡ index_of name → other ≡ name) → IsSound index_of (with_pending book name key)
  sound_pending book name key sound named keyed salted changeable free = record {
    pages = sound.pages;
    ascend = sound.ascend;
    stay = sound.stay;
    finals = sound.finals;
    settled = settled;
    pending = bindings-put book.pending name (record { key = key; salt = book.salt }) sound.pending named (keyed, sound.salt);
    salt = salted;
    apart = λ one other a b same. by one other (held one a) (held other b) same;
  }
    where
      binding : Binding
      binding = record { key = key; salt = book.salt }

      settled : (other : List ℕ) → is_final_binding (at book.last.bindings other) ≡ true → at (put_at book.pending name binding) other ≡ None
      settled other final = by (is_at (bytes_cmp name) other) refl
        where
          by : (t : Bool) → is_at (bytes_cmp name) other ≡ t → at (put_at book.pending name binding) other ≡ None
          by true is =
              let e : true ≡ false = sym final ∙ ap (λ (each : List ℕ). is_final_binding (at book.last.bindings each)) (is_name name other is) ∙ changeable in
              absurd cc
          by false is = at_put_other name binding book.pending other (is_no_name name other is) ∙ sound.settled other final

      held : (other : List ℕ) → HoldsName (with_pending book name key) other → HoldsName book other ⊎ (other ≡ name)
      held other (inl last) = inl (inl last)
      held other (inr waits) = elim (put-has book.pending name binding other waits) [ inl before ↦ inl (inr before) | inr same ↦ inr same ]

      by : (one other : List ℕ) → HoldsName book one ⊎ (one ≡ name) → HoldsName book other ⊎ (other ≡ name) → index_of one ≡ index_of other → one ≡ other
      by one other (inl a) (inl b) same = sound.apart one other a b same
      by one other (inl a) (inr b) same = free one a (same ∙ ap index_of b) ∙ sym b
      by one other (inr a) (inl b) same = a ∙ sym (free other b (sym same ∙ ap index_of a))
      by one other (inr a) (inr b) same = a ∙ sym b

  -- a page comes
  pub sound_page : (book : Book) (epoch : ℕ) (nonce : Option (List ℕ)) → IsSound index_of book → book.last.epoch < epoch → epoch < 2 ^ 64 → IfSome nonce Is32Bytes → IsSound index_of (with_page book (next_page book epoch nonce))
  sound_page book epoch nonce sound above fits sized = record {
    pages = All-push IsPage (pages book) (next_page book epoch nonce) sound.pages page;
    ascend = ascend-push book.earlier book.last (next_page book epoch nonce) sound.ascend above;
    stay = adjacent-push HasNamesOf book.earlier book.last (next_page book epoch nonce) sound.stay (λ name has. has-overwritten book.pending book.last.bindings name has);
    finals = adjacent-push HasFinalsOf book.earlier book.last (next_page book epoch nonce) sound.finals (λ name final. stays book.pending book.last.bindings name (sound.settled name final));
    settled = λ name final. refl;
    pending = no-bindings;
    salt = sound.salt;
    apart = λ one other a b same. sound.apart one other (held one a) (held other b) same;
  }
    where
      last : IsPage book.last
      last = the-last IsPage book.earlier book.last (recursion_from_All IsPage (pages book) sound.pages)

      page : IsPage (next_page book epoch nonce)
      page = record { epoch = (omega (arith, above), fits); nonce = next-sized nonce _ last.nonce sized; bindings = bindings-overwritten book.last.bindings book.pending last.bindings sound.pending }

      held : (name : List ℕ) → HoldsName (with_page book (next_page book epoch nonce)) name → HoldsName book name
      held name (inl last) = overwritten-has book.pending book.last.bindings name last
      held name (inr waits) = absurd (nobody waits)
