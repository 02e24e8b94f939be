-- Which reply changes what an earlier one states to be final, among those for one name.
use Rattle.std.proofs.Common.{◌≡◌, ◌≢◌, ◌↔◌, inl, inr, ℕ, zero, suc, ◌+◌, ◌<◌, ◌≤◌, List, [], ◌∷◌, Bool, true, false, cond, IsTrue, length, map, filter, slice_get, Option, Some, refl, sym, ap, subst, ◌∙◌, arith}
use Rattle.std.specs.List.{AllByRecursion}
use Rattle.std.proofs.lemmas.Bool.{cases_lt}
use Rattle.std.proofs.lemmas.List.Elements.{All-contains}
use Rattle.std.proofs.lemmas.Option.{slice_get_within}
use Rattle.encoding.specs.declared.bound_key.BoundKey.{BoundKey}
use Rattle.rootchain.specs.Chains.{Ascend, IsAt, IsChain, KeyedRoots, Verifies}
use Rattle.rootchain.specs.declared.signed_root.SignedRoot.{SignedRoot}
use Rattle.rootchain.proofs.Agreement.{unique}
use Rattle.rootchain.proofs.Chains.{ascend-linked}
use Rattle.proofs.specs.Accepts.{stated, Accepts, HasIndex, States}
use Rattle.proofs.specs.BrokenFinals.{states_final, IsBrokenFinal}
use Rattle.proofs.specs.Replies.{Reply, SpellsReply}
use Rattle.proofs.specs.declared.broken_final.BrokenFinal.{BrokenFinal}
use Rattle.proofs.proofs.Passing.{one_reply}
use Rattle.client.specs.Agreements.{SpellsOne}
use Rattle.client.specs.Clients.{IsAcceptedLook, Look}
use Rattle.client.specs.Finality.{look_of, looks_for, AreFirst, IndexedReply, IsChangedBy, IsChangedByReply, IsIndexed, NoneStandSo, StateAChange}
use Rattle.client.proofs.Breaking.{all-at}

-- what a reply that was read states is what each reply does that the bytes spell
pub reads-so : (bytes : List ℕ) (read : Reply) → SpellsReply bytes read → (s : Option BoundKey) → s ≡ stated read.end → (other : Reply) → SpellsReply bytes other → s ≡ stated other.end
reads-so bytes read spelled s is other other_spelled = is ∙ ap (λ (reply : Reply). stated reply.end) (one_reply bytes read other spelled other_spelled)

-- what the statements of two replies show
module _ (reply later : List ℕ) (one : SpellsOne reply) (two : SpellsOne later) (s t : Option BoundKey)
    (says : (read : Reply) → SpellsReply reply read → s ≡ stated read.end) (says-later : (read : Reply) → SpellsReply later read → t ≡ stated read.end) where
  pub change_where : (test : Bool) → IsTrue test ↔ ((states_final s ≡ true) × (t ≢ s)) → IsTrue test ↔ StateAChange reply later
  change_where test tells = (
    λ yes.
        let is = tells.0 yes in
        let own : s ≡ stated one.0.end = says one.0 one.1 in
        let other : t ≡ stated two.0.end = says-later two.0 two.1 in
        record {
          one = one.0;
          spelled = one.1;
          final = sym (ap states_final own) ∙ is.0;
          other = two.0;
          later_spelled = two.1;
          changed = λ same. is.1 (other ∙ same ∙ sym own);
        },
    λ is.
        let own : s ≡ stated is.one.end = says is.one is.spelled in
        let other : t ≡ stated is.other.end = says-later is.other is.later_spelled in
        tells.1 (ap states_final own ∙ is.final, λ same. is.changed (sym other ∙ same ∙ own)),
  )

-- ---- the first of a list

-- where none of the first ones has a property, nor has the next
pub more-apart : {A : Type 0} (P : A → Type 0) (xs : List A) (n : ℕ) (x : A) → ((k : ℕ) (w : A) → k < n → slice_get xs k ≡ Some w → ¬ P w) → slice_get xs n ≡ Some x → ¬ P x
    → (k : ℕ) (w : A) → k < n + 1 → slice_get xs k ≡ Some w → ¬ P w
more-apart P xs n x none at not k w low here = elim (cases_lt k n) [
  | inl below ↦ none k w below here
  | inr above ↦
      let same : k ≡ n = omega (arith, low, above) in
      let both : Some x ≡ Some w = sym at ∙ subst (λ (m : ℕ). slice_get xs m ≡ Some w) same here in
      let own : x ≡ w = cc in
      λ is. not (subst P (sym own) is)
]

pub all-apart : {A : Type 0} (P : A → Type 0) (xs : List A) (n : ℕ) → length xs ≤ n → ((k : ℕ) (w : A) → k < n → slice_get xs k ≡ Some w → ¬ P w) → (k : ℕ) (w : A) → slice_get xs k ≡ Some w → ¬ P w
all-apart P xs n whole none k w here = none k w (let low : k < length xs = slice_get_within xs k w here in omega (arith, low, whole)) here

module _ {A : Type 0} (So : A → A → Type 0) (xs : List A) where
  -- none of the first ones stands so to one of the list
  abbrev pub NoneBelow : ℕ → Type 0
  NoneBelow n = (k l : ℕ) (v w : A) → k < n → slice_get xs k ≡ Some v → slice_get xs l ≡ Some w → ¬ So v w

  abbrev pub NotTo : A → Type 0
  NotTo x = (l : ℕ) (w : A) → slice_get xs l ≡ Some w → ¬ So x w

  at-most-one : (k : ℕ) (x y : A) → slice_get xs k ≡ Some x → slice_get xs k ≡ Some y → x ≡ y
  at-most-one k x y one two = let both : Some x ≡ Some y = sym one ∙ two in cc

  pub more-none : (n : ℕ) (x : A) → NoneBelow n → slice_get xs n ≡ Some x → NotTo x → NoneBelow (n + 1)
  more-none n x none at not = λ k l v w low here there so. elim (cases_lt k n) [
    | inl below ↦ none k l v w below here there so
    | inr above ↦
        let same : k ≡ n = omega (arith, low, above) in
        let own : x ≡ v = at-most-one n x v at (subst (λ (m : ℕ). slice_get xs m ≡ Some v) same here) in
        not l w there (subst (λ (y : A). So y w) (sym own) so)
  ]

  pub all-none : (n : ℕ) → length xs ≤ n → NoneBelow n → NoneStandSo So xs
  all-none n whole none = λ k l v w here there. none k l v w (let low : k < length xs = slice_get_within xs k v here in omega (arith, low, whole)) here there

  pub is-first : (n j : ℕ) (x y : A) → NoneBelow n → slice_get xs n ≡ Some x → slice_get xs j ≡ Some y → So x y → ((l : ℕ) (w : A) → slice_get xs l ≡ Some w → l < j → ¬ So x w) → AreFirst So xs x y
  is-first n j x y none at at-other so first = record {
    i = n;
    j = j;
    at-one = at;
    at-other = at-other;
    so = so;
    before = λ k l v w here there earlier. elim earlier [
      | inl low ↦ none k l v w low here there
      | inr same ↦
          let own : x ≡ v = at-most-one n x v at (subst (λ (m : ℕ). slice_get xs m ≡ Some v) same.0 here) in
          λ holds. first l w there same.1 (subst (λ (z : A). So z w) (sym own) holds)
    ];
  }

module _ {A B : Type 0} (f : A → B) where
  pub get-map : (xs : List A) (k : ℕ) (x : A) → slice_get xs k ≡ Some x → slice_get (map f xs) k ≡ Some (f x)
  get-map [] k x at = absurd cc
  get-map (y ∷ xs) zero x at = let same : y ≡ x = cc in ap (λ (z : A). Some (f z)) same
  get-map (y ∷ xs) (suc k) x at = get-map xs k x at

  record Came (xs : List A) (k : ℕ) (b : B) : Type 0 where
    pub x : A
    pub at : slice_get xs k ≡ Some x
    pub is : f x ≡ b

  came : (xs : List A) (k : ℕ) (b : B) → slice_get (map f xs) k ≡ Some b → Came xs k b
  came [] k b at = absurd cc
  came (y ∷ xs) zero b at = record { x = y; at = refl; is = cc }
  came (y ∷ xs) (suc k) b at = let c = came xs k b at in record { x = c.x; at = c.at; is = c.is }

  module _ (R : A → A → Type 0) (S : B → B → Type 0) (xs : List A) (to : (x y : A) → R x y → (k l : ℕ) → slice_get xs k ≡ Some x → slice_get xs l ≡ Some y → S (f x) (f y))
      (from : (x y : A) → S (f x) (f y) → (k l : ℕ) → slice_get xs k ≡ Some x → slice_get xs l ≡ Some y → R x y) where
    back : (k l : ℕ) (v w : B) (one : Came xs k v) (two : Came xs l w) → S v w → R one.x two.x
    back k l v w one two holds =
        from one.x two.x (subst (λ (b : B). S b (f two.x)) (sym one.is) (subst (S v) (sym two.is) holds)) k l one.at two.at

    pub none-mapped : NoneStandSo R xs → NoneStandSo S (map f xs)
    none-mapped none = λ k l v w here there holds.
        let one = came xs k v here in
        let two = came xs l w there in
        none k l one.x two.x one.at two.at (back k l v w one two holds)

    pub first-mapped : (x y : A) → AreFirst R xs x y → AreFirst S (map f xs) (f x) (f y)
    first-mapped x y first = record {
      i = first.i;
      j = first.j;
      at-one = get-map xs first.i x first.at-one;
      at-other = get-map xs first.j y first.at-other;
      so = to x y first.so first.i first.j first.at-one first.at-other;
      before = λ k l v w here there earlier holds.
          let one = came xs k v here in
          let two = came xs l w there in
          first.before k l one.x two.x one.at two.at earlier (back k l v w one two holds);
    }

-- ---- the replies for a name

filter-all : {A : Type 0} (P : A → Type 0) (p : A → Bool) (xs : List A) → AllByRecursion P xs → AllByRecursion P (filter p xs)
filter-all P p [] all = tt
filter-all P p (x ∷ xs) all = by (p x) (filter-all P p xs all.1)
  where
    by : (test : Bool) → AllByRecursion P (filter p xs) → AllByRecursion P (cond test (x ∷ filter p xs) (filter p xs))
    by true more = (all.0, more)
    by false more = more

of-map : {A B : Type 0} (P : B → Type 0) (f : A → B) (xs : List A) → AllByRecursion P (map f xs) → AllByRecursion (λ x. P (f x)) xs
of-map P f [] all = tt
of-map P f (x ∷ xs) all = (all.0, of-map P f xs all.1)

one-index : (hash : List ℕ → List ℕ) (bytes i j : List ℕ) → HasIndex hash bytes i → HasIndex hash bytes j → i ≡ j
one-index hash bytes i j one two = sym one.2 ∙ ap (λ (r : Reply). hash r.value) (one_reply bytes one.0 two.0 one.1 two.1) ∙ two.2

module _ (hash : List ℕ → List ℕ) (name : List ℕ) (replies : List IndexedReply) (indexed : AllByRecursion (IsIndexed hash) replies) where
  index-at : (k : ℕ) (x : IndexedReply) → slice_get replies k ≡ Some x → HasIndex hash x.bytes x.index
  index-at k x at = all-at (IsIndexed hash) replies k x indexed at

  to-looks : (x y : IndexedReply) → IsChangedByReply x y → (k l : ℕ) → slice_get replies k ≡ Some x → slice_get replies l ≡ Some y → IsChangedBy hash (look_of name x) (look_of name y)
  to-looks x y is k l here there =
      (is.0, record { index = x.index; has_index = index-at k x here; later_has_index = subst (HasIndex hash y.bytes) (sym is.1) (index-at l y there) }, is.2)

  from-looks : (x y : IndexedReply) → IsChangedBy hash (look_of name x) (look_of name y) → (k l : ℕ) → slice_get replies k ≡ Some x → slice_get replies l ≡ Some y → IsChangedByReply x y
  from-looks x y is k l here there = (
    is.0,
    one-index hash x.bytes x.index is.1.index (index-at k x here) is.1.has_index ∙ sym (one-index hash y.bytes y.index is.1.index (index-at l y there) is.1.later_has_index),
    is.2,
  )

  module _ (looks : List Look) (same : map (look_of name) replies ≡ looks_for name looks) where
    pub none-changed : NoneStandSo IsChangedByReply replies → NoneStandSo (IsChangedBy hash) (looks_for name looks)
    none-changed none = subst (NoneStandSo (IsChangedBy hash)) same (none-mapped (look_of name) IsChangedByReply (IsChangedBy hash) replies to-looks from-looks none)

    pub first-changed : (x y : IndexedReply) → AreFirst IsChangedByReply replies x y → AreFirst (IsChangedBy hash) (looks_for name looks) (look_of name x) (look_of name y)
    first-changed x y first =
        subst (λ (ls : List Look). AreFirst (IsChangedBy hash) ls (look_of name x) (look_of name y)) same
        (first-mapped (look_of name) IsChangedByReply (IsChangedBy hash) replies to-looks from-looks x y first)

    module _ (accepted verified : List ℕ → List ℕ → List ℕ → Type 0) (chain : KeyedRoots) (all : AllByRecursion (IsAcceptedLook hash accepted chain) looks) where
      abbrev IsAcceptedFor : IndexedReply → Type 0
      IsAcceptedFor reply = IsAcceptedLook hash accepted chain (look_of name reply)

      are-accepted : AllByRecursion IsAcceptedFor replies
      are-accepted = of-map (IsAcceptedLook hash accepted chain) (look_of name) replies (subst (AllByRecursion (IsAcceptedLook hash accepted chain)) (sym same) (filter-all _ _ looks all))

      accepted-at : (k : ℕ) (x : IndexedReply) → slice_get replies k ≡ Some x → IsAcceptedFor x
      accepted-at k x at = all-at IsAcceptedFor replies k x are-accepted at

      pub root-there : (k : ℕ) (x : IndexedReply) → slice_get replies k ≡ Some x → (root : SignedRoot) × IsAt chain x.epoch root
      root-there k x at = let is = accepted-at k x at in (is.root, is.at)

      -- under the root of its epoch, such a reply states this for the name
      accepts : Ascend chain.roots → (k : ℕ) (x : IndexedReply) → slice_get replies k ≡ Some x → (root : SignedRoot) → IsAt chain x.epoch root → (named bytes : List ℕ) → named ≡ name → bytes ≡ x.bytes
          → (read : Reply) → SpellsReply x.bytes read → Accepts hash accepted root.body named bytes (stated read.end)
      accepts up k x at root rooted named bytes name-is bytes-is read spelled =
          let is = accepted-at k x at in
          let own : is.root ≡ root = unique chain up x.epoch is.root root is.at rooted in
          let reply : is.reply ≡ read = one_reply x.bytes is.reply read is.is.0 spelled in
          rw (name-is, bytes-is, ← own, ← reply) (is.reply, is.is.0, subst (λ b. States hash accepted b name is.reply (stated is.reply.end)) is.is.1 is.is.2)

      module _ (is_chain : IsChain hash verified chain) (x y : IndexedReply) (first : AreFirst IsChangedByReply replies x y) (broken : BrokenFinal)
          (named : broken.name ≡ name) (rooted : IsAt chain x.epoch broken.root) (proof : broken.proof ≡ x.bytes) (later_rooted : IsAt chain y.epoch broken.later_root) (later_proof : broken.later_proof ≡ y.bytes) where
        has-index : (k : ℕ) (z : IndexedReply) → slice_get replies k ≡ Some z → (bytes : List ℕ) → bytes ≡ z.bytes → HasIndex hash bytes z.index
        has-index k z at bytes same-bytes = subst (λ (b : List ℕ). HasIndex hash b z.index) (sym same-bytes) (index-at k z at)

        pub is-broken : IsBrokenFinal hash accepted verified chain.key broken
        is-broken =
            let up = ascend-linked hash chain.roots is_chain.linked in
            let change = first.so.2 in record {
              signed = All-contains (Verifies verified chain.key) chain.roots broken.root is_chain.signed rooted.0;
              later_signed = All-contains (Verifies verified chain.key) chain.roots broken.later_root is_chain.signed later_rooted.0;
              later = (let e = rooted.1 in let e' = later_rooted.1 in let low = first.so.0 in omega (arith, e, e', low));
              changes = record {
                statement = stated change.one.end;
                passes = accepts up first.i x first.at-one broken.root rooted broken.name broken.proof named proof change.one change.spelled;
                final = change.final;
                later_statement = stated change.other.end;
                later_passes = accepts up first.j y first.at-other broken.later_root later_rooted broken.name broken.later_proof named later_proof change.other change.later_spelled;
                changed = change.changed;
                index = x.index;
                has_index = has-index first.i x first.at-one broken.proof proof;
                later_has_index = subst (HasIndex hash broken.later_proof) (sym first.so.1) (has-index first.j y first.at-other broken.later_proof later_proof);
              };
            }
