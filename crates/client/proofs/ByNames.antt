-- The replies for each name, as one more is put in and taken out again.
use Rattle.std.proofs.Common.{◌≡◌, ◌≢◌, ℕ, List, [], ◌∷◌, ◌++◌, Bool, true, false, cond, map, bytes_eq, Option, Some, None, Result, Ok, Err, OnErr, OnOk, MatchOption, option_map, refl, sym, ap, subst, ◌∙◌}
use Rattle.std.specs.BTreeMap.{insert_entry, is_at}
use Rattle.std.specs.List.{AllByRecursion}
use Rattle.std.specs.Map.{lookup, set_value}
use Rattle.std.specs.Ordering.{match_ordering}
use Rattle.std.specs.declared.cmp.Ordering.{Ordering}
use Rattle.std.specs.declared.cmp.Ordering.TheVariants.{Less, Equal, Greater}
use Rattle.std.proofs.lemmas.List.{append-nil, map-append}
use Rattle.std.proofs.lemmas.List.Elements.{filter-append}
use Rattle.std.proofs.lemmas.Map.Steps.{set_value_same}
use Rattle.std.proofs.lemmas.Slice.Eq.{bytes_eq-Decides}
use Rattle.encoding.specs.Bytes.{bytes_cmp}
use Rattle.encoding.specs.Maps.{Map, at, put_at}
use Rattle.prefixtree.proofs.Entries.{at_put_other, at_put_same, is_name}
use Rattle.client.specs.Clients.{Look}
use Rattle.client.specs.Finality.{all_of, keyed, look_of, looks_for, replies_for, AreByName, ByName, HasOneMore, HaveTheSame, IndexedReply, IsIndexed}
use Rattle.client.proofs.Keeping.{one-more}

module _ {X : Type 0} where
  set-own : (entries : Map X) (name : List ℕ) (old new : X) → at entries name ≡ Some old → at (set_value (is_at (bytes_cmp name)) entries new) name ≡ Some new
  set-own [] name old new found = absurd cc
  set-own (e ∷ more) name old new found = by (is_at (bytes_cmp name) e.0) refl found (set-own more name old new)
    where
      by : (test : Bool) → is_at (bytes_cmp name) e.0 ≡ test → cond test (Some e.1) (at more name) ≡ Some old
          → (at more name ≡ Some old → at (set_value (is_at (bytes_cmp name)) more new) name ≡ Some new)
          → at (cond test ((e.0, new) ∷ more) (e ∷ set_value (is_at (bytes_cmp name)) more new)) name ≡ Some new
      by true is here next = rw is refl
      by false is here next = rw is (next here)

  set-other : (entries : Map X) (name : List ℕ) (new : X) (other : List ℕ) → other ≢ name → at (set_value (is_at (bytes_cmp name)) entries new) other ≡ at entries other
  set-other [] name new other differ = refl
  set-other (e ∷ more) name new other differ = by (is_at (bytes_cmp name) e.0) (is_at (bytes_cmp other) e.0) refl refl (set-other more name new other differ)
    where
      by : (test also : Bool) → is_at (bytes_cmp name) e.0 ≡ test → is_at (bytes_cmp other) e.0 ≡ also → at (set_value (is_at (bytes_cmp name)) more new) other ≡ at more other
          → at (cond test ((e.0, new) ∷ more) (e ∷ set_value (is_at (bytes_cmp name)) more new)) other ≡ at (e ∷ more) other
      by true true is too next = absurd (differ (sym (is_name other e.0 too) ∙ is_name name e.0 is))
      by true false is too next = rw too refl
      by false true is too next = rw too refl
      by false false is too next = rw too next

-- a map under the bytes of its keys
abbrev pub is_named : {K : Type 0} → (K → List ℕ) → List ℕ → K → Bool
is_named bytes name = is_at (λ key. bytes_cmp name (bytes key))

module _ {K X : Type 0} (bytes : K → List ℕ) where
  pub at-keyed : (name : List ℕ) (entries : List (K × X)) → lookup (is_named bytes name) entries ≡ at (keyed bytes entries) name
  at-keyed name [] = refl
  at-keyed name (e ∷ entries) = ap (cond (is_at (bytes_cmp name) (bytes e.0)) (Some e.1)) (at-keyed name entries)

  pub set-keyed : (name : List ℕ) (entries : List (K × X)) (x : X) → keyed bytes (set_value (is_named bytes name) entries x) ≡ set_value (is_at (bytes_cmp name)) (keyed bytes entries) x
  set-keyed name [] x = refl
  set-keyed name (e ∷ entries) x = by (is_at (bytes_cmp name) (bytes e.0)) (set-keyed name entries x)
    where
      by : (test : Bool) → keyed bytes (set_value (is_named bytes name) entries x) ≡ set_value (is_at (bytes_cmp name)) (keyed bytes entries) x
          → keyed bytes (cond test ((e.0, x) ∷ entries) (e ∷ set_value (is_named bytes name) entries x))
          ≡ cond test ((bytes e.0, x) ∷ keyed bytes entries) ((bytes e.0, e.1) ∷ set_value (is_at (bytes_cmp name)) (keyed bytes entries) x)
      by true next = refl
      by false next = ap (λ (es : Map X). (bytes e.0, e.1) ∷ es) next

  pub put-keyed : (key : K) (x : X) (entries : List (K × X)) → keyed bytes (insert_entry (λ a b. bytes_cmp (bytes a) (bytes b)) entries key x) ≡ put_at (keyed bytes entries) (bytes key) x
  put-keyed key x [] = refl
  put-keyed key x (e ∷ entries) = by (bytes_cmp (bytes key) (bytes e.0)) (put-keyed key x entries)
    where
      more : List (K × X)
      more = insert_entry (λ a b. bytes_cmp (bytes a) (bytes b)) entries key x

      by : (order : Ordering) → keyed bytes more ≡ put_at (keyed bytes entries) (bytes key) x
          → keyed bytes (match_ordering order ((key, x) ∷ e ∷ entries) ((e.0, x) ∷ entries) (e ∷ more))
          ≡ match_ordering order ((bytes key, x) ∷ (bytes e.0, e.1) ∷ keyed bytes entries) ((bytes e.0, x) ∷ keyed bytes entries) ((bytes e.0, e.1) ∷ put_at (keyed bytes entries) (bytes key) x)
      by Less next = refl
      by Equal next = refl
      by Greater next = ap (λ (es : Map X). (bytes e.0, e.1) ∷ es) next

-- where nothing was put in
pub same-if : {A E : Type 0} (result : Result A E) (before after : ByName) → after ≡ before → OnErr result (HaveTheSame before after)
same-if (Ok x) before after is = tt
same-if (Err e) before after is = λ name. ap (λ (entries : ByName). replies_for entries name) is

module _ (entries : ByName) (name : List ℕ) where
  module _ (old new : List IndexedReply) (found : at entries name ≡ Some old) where
    -- where the replies for a name are changed in their place
    set-replies : replies_for (set_value (is_at (bytes_cmp name)) entries new) name ≡ new
    set-replies = ap all_of (set-own entries name old new found)

    set-others : (other : List ℕ) → other ≢ name → replies_for (set_value (is_at (bytes_cmp name)) entries new) other ≡ replies_for entries other
    set-others other differ = ap all_of (set-other entries name new other differ)

    pub set-more : (reply : IndexedReply) → new ≡ old ++ reply ∷ [] → HasOneMore entries name reply (set_value (is_at (bytes_cmp name)) entries new)
    set-more reply is = record {
      own = set-replies ∙ is ∙ ap (λ (replies : List IndexedReply). replies ++ reply ∷ []) (sym (ap all_of found));
      others = set-others;
    }

    pub set-same : new ≡ old → HaveTheSame entries (set_value (is_at (bytes_cmp name)) entries new)
    set-same is other = ap (λ (es : ByName). replies_for es other) (ap (set_value (is_at (bytes_cmp name)) entries) is ∙ set_value_same (is_at (bytes_cmp name)) entries old found)

    pub set-more-if : {A E : Type 0} (result : Result A E) (reply : IndexedReply) → OnOk result (new ≡ old ++ reply ∷ []) → OnOk result (HasOneMore entries name reply (set_value (is_at (bytes_cmp name)) entries new))
    set-more-if (Ok x) reply is = set-more reply is
    set-more-if (Err e) reply is = tt

    pub set-same-if : {A E : Type 0} (result : Result A E) → OnErr result (new ≡ old) → OnErr result (HaveTheSame entries (set_value (is_at (bytes_cmp name)) entries new))
    set-same-if (Ok x) is = tt
    set-same-if (Err e) is = set-same is

  -- the first reply for a name
  pub put-more : (reply : IndexedReply) (new : List IndexedReply) → at entries name ≡ None → new ≡ reply ∷ [] → HasOneMore entries name reply (put_at entries name new)
  put-more reply new none is = record {
    own = ap all_of (at_put_same name new entries) ∙ is ∙ ap (λ (replies : List IndexedReply). replies ++ reply ∷ []) (sym (ap all_of none));
    others = λ other differ. ap all_of (at_put_other name new entries other differ);
  }

-- ---- looks

module _ (hash : List ℕ → List ℕ) (looks : List Look) (before : ByName) (are : AreByName hash looks before) where
  -- where each name has the same
  pub still : (after : ByName) → HaveTheSame before after → AreByName hash looks after
  still after same = record {
    same = λ name. ap (map (look_of name)) (same name) ∙ are.same name;
    indexed = λ name. subst (AllByRecursion (IsIndexed hash)) (sym (same name)) (are.indexed name);
  }

  -- where one more look is kept
  module _ (name : List ℕ) (reply : IndexedReply) (after : ByName) (more : HasOneMore before name reply after) where
    own-looks : looks_for name (looks ++ look_of name reply ∷ []) ≡ looks_for name looks ++ look_of name reply ∷ []
    own-looks =
        filter-append (λ (look : Look). bytes_eq look.name name) looks (look_of name reply ∷ [])
        ∙ ap (λ (test : Bool). looks_for name looks ++ cond test (look_of name reply ∷ []) []) ((bytes_eq-Decides name name).1 refl)

    other-looks : (other : List ℕ) → bytes_eq name other ≡ false → looks_for other (looks ++ look_of name reply ∷ []) ≡ looks_for other looks
    other-looks other differ =
        filter-append (λ (look : Look). bytes_eq look.name other) looks (look_of name reply ∷ [])
        ∙ ap (λ (test : Bool). looks_for other looks ++ cond test (look_of name reply ∷ []) []) differ ∙ append-nil (looks_for other looks)

    differs : (other : List ℕ) → bytes_eq name other ≡ false → other ≢ name
    differs other apart same = let yes : bytes_eq name other ≡ true = (bytes_eq-Decides name other).1 (sym same) in absurd cc

    same-looks : (other : List ℕ) → map (look_of other) (replies_for after other) ≡ looks_for other (looks ++ look_of name reply ∷ [])
    same-looks other = by (bytes_eq name other) refl
      where
        by : (test : Bool) → bytes_eq name other ≡ test → map (look_of other) (replies_for after other) ≡ looks_for other (looks ++ look_of name reply ∷ [])
        by true is =
            subst (λ (n : List ℕ). map (look_of n) (replies_for after n) ≡ looks_for n (looks ++ look_of name reply ∷ [])) ((bytes_eq-Decides name other).0 is)
            (ap (map (look_of name)) more.own ∙ map-append (look_of name) (replies_for before name) (reply ∷ []) ∙ ap (λ (ls : List Look). ls ++ look_of name reply ∷ []) (are.same name) ∙ sym own-looks)
        by false is = ap (map (look_of other)) (more.others other (differs other is)) ∙ are.same other ∙ sym (other-looks other is)

    all-indexed : IsIndexed hash reply → (other : List ℕ) → AllByRecursion (IsIndexed hash) (replies_for after other)
    all-indexed is other = by (bytes_eq name other) refl
      where
        by : (test : Bool) → bytes_eq name other ≡ test → AllByRecursion (IsIndexed hash) (replies_for after other)
        by true own =
            subst (λ (n : List ℕ). AllByRecursion (IsIndexed hash) (replies_for after n)) ((bytes_eq-Decides name other).0 own)
            (subst (AllByRecursion (IsIndexed hash)) (sym more.own) (one-more (IsIndexed hash) (replies_for before name) reply (are.indexed name) is))
        by false apart = subst (AllByRecursion (IsIndexed hash)) (sym (more.others other (differs other apart))) (are.indexed other)

    pub grown : IsIndexed hash reply → AreByName hash (looks ++ look_of name reply ∷ []) after
    grown is = record { same = same-looks; indexed = all-indexed is }

  -- what is kept after a look that was kept or refused
  pub kept-after : {A E : Type 0} (result : Result A E) (looks' : List Look) (name : List ℕ) (reply : IndexedReply) (after : ByName) → IsIndexed hash reply
      → OnOk result (looks' ≡ looks ++ look_of name reply ∷ []) → OnOk result (HasOneMore before name reply after) → OnErr result (looks' ≡ looks) → OnErr result (HaveTheSame before after) → AreByName hash looks' after
  kept-after (Ok x) looks' name reply after is more own stays same = subst (λ (ls : List Look). AreByName hash ls after) (sym more) (grown name reply after own is)
  kept-after (Err e) looks' name reply after is more own stays same = subst (λ (ls : List Look). AreByName hash ls after) (sym stays) (still after same)

-- no looks
pub none-by-name : (hash : List ℕ → List ℕ) → AreByName hash [] []
none-by-name hash = record { same = λ name. refl; indexed = λ name. tt }

-- what is found of a name
module _ (hash : List ℕ → List ℕ) (looks : List Look) (entries : ByName) (are : AreByName hash looks entries) (name : List ℕ) where
  pub found-none : at entries name ≡ None → looks_for name looks ≡ []
  found-none none = sym (are.same name) ∙ ap (λ (found : Option (List IndexedReply)). map (look_of name) (all_of found)) none

  pub found-looks : (replies : List IndexedReply) → at entries name ≡ Some replies → map (look_of name) replies ≡ looks_for name looks
  found-looks replies some = sym (ap (λ (found : Option (List IndexedReply)). map (look_of name) (all_of found)) some) ∙ are.same name

  pub found-indexed : (replies : List IndexedReply) → at entries name ≡ Some replies → AllByRecursion (IsIndexed hash) replies
  found-indexed replies some = subst (λ (found : Option (List IndexedReply)). AllByRecursion (IsIndexed hash) (all_of found)) some (are.indexed name)

  module _ {R : Type 0} (now : R → List IndexedReply) where
    pub of-looks : (found : Option R) → option_map now found ≡ at entries name → MatchOption found (looks_for name looks ≡ []) (λ r. map (look_of name) (now r) ≡ looks_for name looks)
    of-looks None is = found-none (sym is)
    of-looks (Some r) is = found-looks (now r) (sym is)

    pub of-indexed : (found : Option R) → option_map now found ≡ at entries name → MatchOption found (looks_for name looks ≡ []) (λ r. AllByRecursion (IsIndexed hash) (now r))
    of-indexed None is = found-none (sym is)
    of-indexed (Some r) is = found-indexed (now r) (sym is)
