-- The extremes of the replies with each index, as one more reply is put behind the others.
use Rattle.std.proofs.Common.{◌≡◌, ◌≢◌, ◌⊎◌, ◌↔◌, inl, inr, ℕ, zero, suc, List, [], ◌∷◌, ◌++◌, Bool, true, false, IsTrue, length, slice_get, arith, Option, Some, None, MatchOption, option_map, refl, sym, ap, subst, ◌∙◌}
use Rattle.std.specs.BTreeMap.{is_at}
use Rattle.std.specs.List.{AllByRecursion}
use Rattle.encoding.specs.Bytes.{bytes_cmp}
use Rattle.encoding.specs.Maps.{Map, at, put_at}
use Rattle.prefixtree.proofs.Entries.{at_put_other, at_put_same, is_name, is_no_name}
use Rattle.client.specs.Agreements.{SpellsOne}
use Rattle.client.specs.Finality.{IndexedReply, IsChangedByReply, SomeStandSo}
use Rattle.client.specs.Extremes.{AreByIndex, AreExtremes, ChangesAmong, HasNoSuch, IsChangedAmong, IsGreatest}
use Rattle.client.specs.declared.extremes.Extremes.{Extremes}
use Rattle.client.specs.declared.extremes.Greatest.{Greatest}
use Rattle.client.proofs.Breaking.{all-at}
use Rattle.client.proofs.Keeping.{one-more}
use Rattle.client.proofs.Greatest.{at-end, at-front, passed}

-- the bytes of the greatest spell a reply
pub greatest-spelled : {Is : IndexedReply → Type 0} {number : IndexedReply → ℕ} {replies : List IndexedReply} {greatest : Greatest} → IsGreatest Is number replies greatest → SpellsOne greatest.bytes.value.items
greatest-spelled is = (is.states.0, is.states.1)

-- a reply with another index changes nothing
pub still : {replies : List IndexedReply} {index : List ℕ} {extremes : Extremes} (x : IndexedReply) → AreExtremes replies index extremes → x.index ≢ index → AreExtremes (replies ++ x ∷ []) index extremes
still x (latest, earliest) apart = (
  record { statement = latest.statement; states = latest.states; are = passed latest.are x apart },
  record { statement = earliest.statement; states = earliest.states; are = passed earliest.are x (λ is. apart is.0) },
)

-- ---- whether one of the replies changes another

-- no reply changes itself
unchanged : (x : IndexedReply) → ¬ IsChangedByReply x x
unchanged x is = let low = is.0 in absurd (omega (arith, low))

-- an element of a longer list
at-more : {A : Type 0} (xs : List A) (x : A) (k : ℕ) (v : A) → slice_get (xs ++ x ∷ []) k ≡ Some v → (slice_get xs k ≡ Some v) ⊎ (v ≡ x)
at-more [] x zero v at = inr cc
at-more [] x (suc k) v at = absurd cc
at-more (y ∷ xs) x zero v at = inl at
at-more (y ∷ xs) x (suc k) v at = at-more xs x k v at

module _ (replies : List IndexedReply) (x : IndexedReply) where
  some-before : SomeStandSo IsChangedByReply replies → SomeStandSo IsChangedByReply (replies ++ x ∷ [])
  some-before (k, l, v, w, here, there, is) = (k, l, v, w, at-front replies (x ∷ []) k v here, at-front replies (x ∷ []) l w there, is)

  some-new : IsChangedAmong replies x ⊎ ChangesAmong replies x → SomeStandSo IsChangedByReply (replies ++ x ∷ [])
  some-new (inl (k, w, here, is)) = (length replies, k, x, w, at-end replies x, at-front replies (x ∷ []) k w here, is)
  some-new (inr (k, w, here, is)) = (k, length replies, w, x, at-front replies (x ∷ []) k w here, at-end replies x, is)

  some-split : SomeStandSo IsChangedByReply (replies ++ x ∷ []) → SomeStandSo IsChangedByReply replies ⊎ (IsChangedAmong replies x ⊎ ChangesAmong replies x)
  some-split (k, l, v, w, here, there, is) = by (at-more replies x k v here) (at-more replies x l w there)
    where
      by : (slice_get replies k ≡ Some v) ⊎ (v ≡ x) → (slice_get replies l ≡ Some w) ⊎ (w ≡ x) → SomeStandSo IsChangedByReply replies ⊎ (IsChangedAmong replies x ⊎ ChangesAmong replies x)
      by (inl one) (inl two) = inl (k, l, v, w, one, two, is)
      by (inl one) (inr last) = inr (inr (k, v, one, subst (IsChangedByReply v) last is))
      by (inr last) (inl two) = inr (inl (l, w, two, subst (λ (y : IndexedReply). IsChangedByReply y w) last is))
      by (inr last) (inr also) = absurd (unchanged x (subst (IsChangedByReply x) also (subst (λ (y : IndexedReply). IsChangedByReply y w) last is)))

  pub some-kept : (before : Bool) → IsTrue before ↔ SomeStandSo IsChangedByReply replies → before ≡ true → IsTrue before ↔ SomeStandSo IsChangedByReply (replies ++ x ∷ [])
  some-kept before exact holds = (λ is. some-before (exact.0 is), λ some. holds)

  pub some-more : (before more : Bool) → IsTrue before ↔ SomeStandSo IsChangedByReply replies → before ≡ false → IsTrue more ↔ (IsChangedAmong replies x ⊎ ChangesAmong replies x)
      → IsTrue more ↔ SomeStandSo IsChangedByReply (replies ++ x ∷ [])
  some-more before more exact never tells = (λ is. some-new (tells.0 is), λ some. by (some-split some))
    where
      by : SomeStandSo IsChangedByReply replies ⊎ (IsChangedAmong replies x ⊎ ChangesAmong replies x) → IsTrue more
      by (inl some) = let holds : before ≡ true = exact.1 some in absurd cc
      by (inr new) = tells.1 new

  -- where none has the index
  pub some-alone : (before : Bool) → IsTrue before ↔ SomeStandSo IsChangedByReply replies → HasNoSuch replies x.index → IsTrue before ↔ SomeStandSo IsChangedByReply (replies ++ x ∷ [])
  some-alone before exact none = (λ is. some-before (exact.0 is), λ some. by (some-split some))
    where
      by : SomeStandSo IsChangedByReply replies ⊎ (IsChangedAmong replies x ⊎ ChangesAmong replies x) → IsTrue before
      by (inl some) = exact.1 some
      by (inr (inl (k, w, here, is))) = absurd (all-at (λ (reply : IndexedReply). reply.index ≢ x.index) replies k w none here (sym is.1))
      by (inr (inr (k, w, here, is))) = absurd (all-at (λ (reply : IndexedReply). reply.index ≢ x.index) replies k w none here is.1)

-- those of one reply
pub one-alone : (x : IndexedReply) → SpellsOne x.bytes → (own : Extremes) → AreExtremes (x ∷ []) x.index own → AreByIndex (x ∷ []) x.index own [] false
one-alone x spelled own is = record {
  spelled = (spelled, tt);
  first = is;
  apart = refl;
  rest = λ other extremes found. absurd cc;
  whole = ((λ none. refl), tt);
  changed = (λ never. absurd cc, λ some. no-two (some-split [] x some));
}
  where
    no-two : SomeStandSo IsChangedByReply [] ⊎ (IsChangedAmong [] x ⊎ ChangesAmong [] x) → IsTrue false
    no-two (inl (k, l, v, w, here, there, is)) = absurd cc
    no-two (inr (inl (k, w, here, is))) = absurd cc
    no-two (inr (inr (k, w, here, is))) = absurd cc

-- ---- the extremes of each index

module _ (replies : List IndexedReply) (index : List ℕ) (own : Extremes) (others : Map Extremes) (is_changed : Bool) (are : AreByIndex replies index own others is_changed) where
  pub own-there : (k : ℕ) (x : IndexedReply) → slice_get replies k ≡ Some x → at others x.index ≡ None → AreExtremes replies x.index own
  own-there k x there none = subst (λ (i : List ℕ). AreExtremes replies i own) (sym (all-at _ replies k x are.whole there none)) are.first

  module _ (x : IndexedReply) where
    pub own-known : x.index ≡ index → AreExtremes replies x.index own
    own-known same = subst (λ (i : List ℕ). AreExtremes replies i own) (sym same) are.first

    pub no-such : x.index ≢ index → at others x.index ≡ None → HasNoSuch replies x.index
    no-such apart none = by replies are.whole
      where
        by : (rs : List IndexedReply) → AllByRecursion (λ reply. at others reply.index ≡ None → reply.index ≡ index) rs → HasNoSuch rs x.index
        by [] all = tt
        by (r ∷ rs) all = ((λ same. apart (sym same ∙ all.0 (ap (at others) same ∙ none))), by rs all.1)

    pub found-extremes : x.index ≢ index → {R : Type 0} (now : R → Extremes) (found : Option R) → option_map now found ≡ at others x.index → MatchOption found (HasNoSuch replies x.index) (λ r. AreExtremes replies x.index (now r))
    found-extremes apart now None is = no-such apart (sym is)
    found-extremes apart now (Some r) is = are.rest x.index (now r) (sym is)

    module _ (spelled : SpellsOne x.bytes) (extremes : Extremes) (is : AreExtremes (replies ++ x ∷ []) x.index extremes) (changed : Bool) (exact : IsTrue changed ↔ SomeStandSo IsChangedByReply (replies ++ x ∷ [])) where
      pub own-more : x.index ≡ index → AreByIndex (replies ++ x ∷ []) index extremes others changed
      own-more same = record {
        spelled = one-more _ replies x are.spelled spelled;
        first = subst (λ (i : List ℕ). AreExtremes (replies ++ x ∷ []) i extremes) same is;
        apart = are.apart;
        rest = λ other known found. still x (are.rest other known found) (λ both. let none : at others other ≡ None = ap (at others) (sym both ∙ same) ∙ are.apart in absurd cc);
        whole = one-more _ replies x are.whole (λ none. same);
        changed = exact;
      }

      pub other-more : x.index ≢ index → AreByIndex (replies ++ x ∷ []) index own (put_at others x.index extremes) changed
      other-more apart = record {
        spelled = one-more _ replies x are.spelled spelled;
        first = still x are.first apart;
        apart = at_put_other x.index extremes others index (λ same. apart (sym same)) ∙ are.apart;
        rest = rest;
        whole = one-more _ replies x (whole replies are.whole) (λ none. absurd (here none));
        changed = exact;
      }
        where
          here : at (put_at others x.index extremes) x.index ≡ None → ⊥
          here none = let some = at_put_same x.index extremes others in absurd cc

          rest : (other : List ℕ) (known : Extremes) → at (put_at others x.index extremes) other ≡ Some known → AreExtremes (replies ++ x ∷ []) other known
          rest other known found = by (is_at (bytes_cmp x.index) other) refl
            where
              by : (test : Bool) → is_at (bytes_cmp x.index) other ≡ test → AreExtremes (replies ++ x ∷ []) other known
              by true at-it =
                  let same = is_name x.index other at-it in
                  let both : Some extremes ≡ Some known = sym (at_put_same x.index extremes others) ∙ ap (at (put_at others x.index extremes)) (sym same) ∙ found in
                  let one : extremes ≡ known = cc in
                  subst (λ (i : List ℕ). AreExtremes (replies ++ x ∷ []) i known) (sym same) (subst (AreExtremes (replies ++ x ∷ []) x.index) one is)
              by false beside =
                  let differ = is_no_name x.index other beside in
                  still x (are.rest other known (sym (at_put_other x.index extremes others other differ) ∙ found)) (λ same. differ (sym same))

          whole : (rs : List IndexedReply) → AllByRecursion (λ reply. at others reply.index ≡ None → reply.index ≡ index) rs
              → AllByRecursion (λ reply. at (put_at others x.index extremes) reply.index ≡ None → reply.index ≡ index) rs
          whole [] all = tt
          whole (r ∷ rs) all = ((λ none. all.0 (sym (at_put_other x.index extremes others r.index (λ same. here (ap (at (put_at others x.index extremes)) (sym same) ∙ none))) ∙ none)), whole rs all.1)
