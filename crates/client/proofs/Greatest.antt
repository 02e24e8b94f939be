-- The greatest number of some replies, and of those of them that do not state the same.
use Rattle.std.proofs.Common.{◌≡◌, ◌≢◌, ◌⊎◌, ◌↔◌, inl, inr, ℕ, zero, suc, ◌<◌, ◌≤◌, ◌^◌, List, [], ◌∷◌, ◌++◌, Bool, true, false, IsTrue, length, length-append, nat_lt, ltb-true, rules, slice_get, Option, Some, refl, sym, ap, subst, ◌∙◌, arith}
use Rattle.std.specs.List.{AllByRecursion}
use Rattle.encoding.specs.declared.bound_key.BoundKey.{BoundKey}
use Rattle.proofs.specs.Accepts.{stated}
use Rattle.proofs.specs.BrokenFinals.{states_final}
use Rattle.proofs.specs.Replies.{Reply, SpellsReply}
use Rattle.proofs.proofs.Passing.{one_reply}
use Rattle.client.specs.Agreements.{SpellsOne}
use Rattle.client.specs.Extremes.{below_last, AreGreatest, BytesState, ChangesAmong, HasNoSuch, IsChangedAmong, IsEarliest, IsGreatest, IsLatest, IsReached, IsReachedByOther, NoneStatesFinal, StatesFinal}
use Rattle.client.specs.Finality.{IndexedReply, StateAChange}
use Rattle.client.specs.declared.extremes.Greatest.{Greatest}
use Rattle.client.proofs.Breaking.{all-at}
use Rattle.client.proofs.Keeping.{one-more}

pub at-front : {A : Type 0} (xs ys : List A) (k : ℕ) (x : A) → slice_get xs k ≡ Some x → slice_get (xs ++ ys) k ≡ Some x
at-front [] ys k x at = absurd cc
at-front (y ∷ xs) ys zero x at = at
at-front (y ∷ xs) ys (suc k) x at = at-front xs ys k x at

pub at-end : {A : Type 0} (xs : List A) (y : A) → slice_get (xs ++ y ∷ []) (length xs) ≡ Some y
at-end [] y = refl
at-end (x ∷ xs) y = at-end xs y

-- bytes state one thing
pub one-statement : (bytes : List ℕ) (s t : Option BoundKey) → BytesState bytes s → BytesState bytes t → s ≡ t
one-statement bytes s t one two = sym one.2 ∙ ap (λ (r : Reply). stated r.end) (one_reply bytes one.0 two.0 one.1 two.1) ∙ two.2

pub says-it : {bytes own : List ℕ} (t : Option BoundKey) → own ≡ bytes → SpellsOne bytes → ((read : Reply) → SpellsReply own read → t ≡ stated read.end) → BytesState bytes t
says-it t same spelled says = (spelled.0, spelled.1, sym (says spelled.0 (subst (λ (b : List ℕ). SpellsReply b spelled.0) (sym same) spelled.1)))

-- what the greatest are does not depend on how it is known what they state
pub restated : {Is : IndexedReply → Type 0} {number : IndexedReply → ℕ} {replies : List IndexedReply} {greatest : Greatest} (s : Option BoundKey) → IsGreatest Is number replies greatest → BytesState greatest.bytes.value.items s
    → AreGreatest Is number replies greatest.number s greatest.other
restated {Is} {number} {replies} {greatest} s is says =
    subst (λ (t : Option BoundKey). AreGreatest Is number replies greatest.number t greatest.other) (one-statement greatest.bytes.value.items is.statement s is.states says) is.are

-- where there was none before
module _ (Is : IndexedReply → Type 0) (number : IndexedReply → ℕ) (before : List IndexedReply) (none : AllByRecursion (λ reply. ¬ Is reply) before) (x : IndexedReply) (t : Option BoundKey) where
  abbrev IsAtMost : ℕ → IndexedReply → Type 0
  IsAtMost n reply = Is reply → (number reply ≤ n) × (¬ BytesState reply.bytes t → number reply ≤ 0)

  others : (n : ℕ) (xs : List IndexedReply) → AllByRecursion (λ reply. ¬ Is reply) xs → AllByRecursion (IsAtMost n) xs
  others n [] all = tt
  others n (y ∷ xs) all = ((λ same. absurd (all.0 same)), others n xs all.1)

  pub begins : Is x → BytesState x.bytes t → AreGreatest Is number (before ++ x ∷ []) (number x) t 0
  begins own says = record {
    upper = one-more (IsAtMost (number x)) before x (others (number x) before none) (λ _. (omega arith, λ not. absurd (not says)));
    reached = λ n low. record { place = length before; reply = x; at = at-end before x; is = own; above = low; states = says };
    other_reached = λ n low. absurd (omega (arith, low));
  }

  pub begins-without : ¬ Is x → AreGreatest Is number (before ++ x ∷ []) 0 t 0
  begins-without not = record {
    upper = one-more (IsAtMost 0) before x (others 0 before none) (λ is. absurd (not is));
    reached = λ n low. absurd (omega (arith, low));
    other_reached = λ n low. absurd (omega (arith, low));
  }

module _ {Is : IndexedReply → Type 0} {number : IndexedReply → ℕ} {done : List IndexedReply} {greatest : ℕ} {s : Option BoundKey} {other : ℕ} (are : AreGreatest Is number done greatest s other) (x : IndexedReply) where
  longer : (t : Option BoundKey) (n : ℕ) → IsReached Is number done t n → IsReached Is number (done ++ x ∷ []) t n
  longer t n is = record { place = is.place; reply = is.reply; at = at-front done (x ∷ []) is.place is.reply is.at; is = is.is; above = is.above; states = is.states }

  longer-other : (t : Option BoundKey) (n : ℕ) → IsReachedByOther Is number done t n → IsReachedByOther Is number (done ++ x ∷ []) t n
  longer-other t n is = record { place = is.place; reply = is.reply; at = at-front done (x ∷ []) is.place is.reply is.at; is = is.is; above = is.above; other = is.other }

  abbrev IsWithin : ℕ → Option BoundKey → ℕ → IndexedReply → Type 0
  IsWithin greatest s other reply = Is reply → (number reply ≤ greatest) × (¬ BytesState reply.bytes s → number reply ≤ other)

  -- nothing new
  pub stays : IsWithin greatest s other x → AreGreatest Is number (done ++ x ∷ []) greatest s other
  stays within = record {
    upper = one-more (IsWithin greatest s other) done x are.upper within;
    reached = λ n low. longer s n (are.reached n low);
    other_reached = λ n low. longer-other s n (are.other_reached n low);
  }

  pub passed : ¬ Is x → AreGreatest Is number (done ++ x ∷ []) greatest s other
  passed not = stays (λ is. absurd (not is))

  module _ (own : Is x) (t : Option BoundKey) (says : BytesState x.bytes t) where
    pub lower : t ≡ s → number x ≤ greatest → AreGreatest Is number (done ++ x ∷ []) greatest s other
    lower same low = stays (λ _. (low, λ not. absurd (not (subst (BytesState x.bytes) same says))))

    pub between : number x ≤ greatest → number x ≤ other → AreGreatest Is number (done ++ x ∷ []) greatest s other
    between low under = stays (λ _. (low, λ not. under))

    -- the same stated at a greater number
    pub higher : t ≡ s → greatest ≤ number x → AreGreatest Is number (done ++ x ∷ []) (number x) s other
    higher same high = record {
      upper = one-more (IsWithin (number x) s other) done x (weaker done are.upper) (λ _. (omega arith, λ not. absurd (not (subst (BytesState x.bytes) same says))));
      reached = λ n low. record { place = length done; reply = x; at = at-end done x; is = own; above = low; states = subst (BytesState x.bytes) same says };
      other_reached = λ n low. longer-other s n (are.other_reached n low);
    }
      where
        weaker : (xs : List IndexedReply) → AllByRecursion (IsWithin greatest s other) xs → AllByRecursion (IsWithin (number x) s other) xs
        weaker [] all = tt
        weaker (y ∷ xs) all = ((λ is. let w = all.0 is in (let low = w.0 in omega (arith, low, high), w.1)), weaker xs all.1)

    -- anything else stated at a greater number
    pub newer : t ≢ s → greatest < number x → AreGreatest Is number (done ++ x ∷ []) (number x) t greatest
    newer apart high = record {
      upper = one-more (IsWithin (number x) t greatest) done x (weaker done are.upper) (λ _. (omega arith, λ not. absurd (not says)));
      reached = λ n low. record { place = length done; reply = x; at = at-end done x; is = own; above = low; states = says };
      other_reached = λ n low.
          let before = are.reached n low in
          record {
            place = before.place;
            reply = before.reply;
            at = at-front done (x ∷ []) before.place before.reply before.at;
            is = before.is;
            above = before.above;
            other = λ it. apart (one-statement before.reply.bytes t s it before.states);
          };
    }
      where
        weaker : (xs : List IndexedReply) → AllByRecursion (IsWithin greatest s other) xs → AllByRecursion (IsWithin (number x) t greatest) xs
        weaker [] all = tt
        weaker (y ∷ xs) all = ((λ is. let w = all.0 is in (let low = w.0 in omega (arith, low, high), λ not. w.0)), weaker xs all.1)

    -- anything else stated, not above the greatest
    pub other-newer : t ≢ s → number x ≤ greatest → other ≤ number x → AreGreatest Is number (done ++ x ∷ []) greatest s (number x)
    other-newer apart low high = record {
      upper = one-more (IsWithin greatest s (number x)) done x (weaker done are.upper) (λ _. (low, λ not. omega arith));
      reached = λ n under. longer s n (are.reached n under);
      other_reached = λ n under. record { place = length done; reply = x; at = at-end done x; is = own; above = under; other = λ it. apart (one-statement x.bytes t s says it) };
    }
      where
        weaker : (xs : List IndexedReply) → AllByRecursion (IsWithin greatest s other) xs → AllByRecursion (IsWithin greatest s (number x)) xs
        weaker [] all = tt
        weaker (y ∷ xs) all = ((λ is. let w = all.0 is in (w.0, λ not. let under = w.1 not in omega (arith, under, high))), weaker xs all.1)

-- the same of the greatest as they are kept, of which a reply has this number
module _ {Is : IndexedReply → Type 0} {number : IndexedReply → ℕ} {done : List IndexedReply} {greatest : Greatest} (is : IsGreatest Is number done greatest) (s : Option BoundKey) (states : BytesState greatest.bytes.value.items s)
    (x : IndexedReply) (own : Is x) (t : Option BoundKey) (says : BytesState x.bytes t) (n : ℕ) (of : n ≡ number x) (after : Greatest) where
  are : AreGreatest Is number done greatest.number s greatest.other
  are = restated s is states

  module _ (same : after.bytes.value.items ≡ greatest.bytes.value.items) (top : after.number ≡ greatest.number) where
    stated-so : BytesState after.bytes.value.items s
    stated-so = subst (λ (b : List ℕ). BytesState b s) (sym same) states

    pub with-no-more : after.other ≡ greatest.other → n ≤ greatest.number → (t ≡ s) ⊎ (n ≤ greatest.other) → IsGreatest Is number (done ++ x ∷ []) after
    with-no-more beside low (inl stated) = record { statement = s; states = stated-so; are = rw (top, beside) (lower are x own t says stated (omega (arith, low, of))) }
    with-no-more beside low (inr under) = record { statement = s; states = stated-so; are = rw (top, beside) (between are x own t says (omega (arith, low, of)) (omega (arith, under, of))) }

    pub with-other : after.other ≡ n → t ≢ s → n ≤ greatest.number → greatest.other ≤ n → IsGreatest Is number (done ++ x ∷ []) after
    with-other beside apart low high = record { statement = s; states = stated-so; are = rw (top, beside, of) (other-newer are x own t says apart (omega (arith, low, of)) (omega (arith, high, of))) }

  module _ (new : after.bytes.value.items ≡ x.bytes) (top : after.number ≡ n) where
    pub with-higher : after.other ≡ greatest.other → t ≡ s → greatest.number ≤ n → IsGreatest Is number (done ++ x ∷ []) after
    with-higher beside stated high = record {
      statement = s;
      states = subst (λ (b : List ℕ). BytesState b s) (sym new) (subst (BytesState x.bytes) stated says);
      are = rw (top, beside, of) (higher are x own t says stated (omega (arith, high, of)));
    }

    pub with-newer : after.other ≡ greatest.number → t ≢ s → greatest.number < n → IsGreatest Is number (done ++ x ∷ []) after
    with-newer beside apart high = record {
      statement = t;
      states = subst (λ (b : List ℕ). BytesState b t) (sym new) says;
      are = rw (top, beside, of) (newer are x own t says apart (omega (arith, high, of)));
    }

-- where none of the replies is one
pub begun : {Is : IndexedReply → Type 0} {number : IndexedReply → ℕ} (before : List IndexedReply) → AllByRecursion (λ reply. ¬ Is reply) before → (x : IndexedReply) → Is x → (t : Option BoundKey) → BytesState x.bytes t → (n : ℕ) → n ≡ number x → (after : Greatest)
    → (after.number ≡ n) × (after.bytes.value.items ≡ x.bytes) × (after.other ≡ 0) → IsGreatest Is number (before ++ x ∷ []) after
begun {Is} {number} before none x own t says n of after (top, new, beside) = record {
  statement = t;
  states = subst (λ (b : List ℕ). BytesState b t) (sym new) says;
  are = rw (top, beside, of) (begins Is number before none x t own says);
}

pub begun-without : {Is : IndexedReply → Type 0} {number : IndexedReply → ℕ} (before : List IndexedReply) → AllByRecursion (λ reply. ¬ Is reply) before → (x : IndexedReply) → ¬ Is x → (t : Option BoundKey) → BytesState x.bytes t → (n : ℕ) → n ≡ 0 → (after : Greatest)
    → (after.number ≡ n) × (after.bytes.value.items ≡ x.bytes) × (after.other ≡ 0) → IsGreatest Is number (before ++ x ∷ []) after
begun-without {Is} {number} before none x not t says n of after (top, new, beside) = record {
  statement = t;
  states = subst (λ (b : List ℕ). BytesState b t) (sym new) says;
  are = rw (top, beside, of) (begins-without Is number before none x t not);
}

-- the same of a copy
pub again : {Is : IndexedReply → Type 0} {number : IndexedReply → ℕ} {done : List IndexedReply} {greatest : Greatest} (x : IndexedReply) → ¬ Is x → IsGreatest Is number done greatest → (after : Greatest)
    → (after.number ≡ greatest.number) × (after.bytes.value.items ≡ greatest.bytes.value.items) × (after.other ≡ greatest.other) → IsGreatest Is number (done ++ x ∷ []) after
again {Is} {number} {done} {greatest} x not is after (top, same, beside) = record {
  statement = is.statement;
  states = subst (λ (b : List ℕ). BytesState b is.statement) (sym same) is.states;
  are = rw (top, beside) (passed is.are x not);
}

-- a reply that states no key with Final
pub no-final : (x : IndexedReply) (t : Option BoundKey) → BytesState x.bytes t → (final : Bool) → final ≡ states_final t → final ≡ false → ¬ StatesFinal x
no-final x t says final is never (s, states, holds) = let yes : states_final t ≡ true = ap states_final (one-statement x.bytes t s says states) ∙ holds in absurd cc

-- one more of which none states a key with Final
pub plain-more : (xs : List IndexedReply) (x : IndexedReply) → AllByRecursion (λ reply. SpellsOne reply.bytes) xs → NoneStatesFinal xs → SpellsOne x.bytes → ¬ StatesFinal x
    → (0 < length (xs ++ x ∷ [])) × AllByRecursion (λ reply. SpellsOne reply.bytes) (xs ++ x ∷ []) × NoneStatesFinal (xs ++ x ∷ [])
plain-more xs x spelled none reads not = (
  (let both = length-append xs (x ∷ []) in omega (arith, both)),
  one-more (λ (reply : IndexedReply). SpellsOne reply.bytes) xs x spelled reads,
  one-more (λ (reply : IndexedReply). ¬ StatesFinal reply) xs x none not,
)

pub none-final : (index : List ℕ) (xs : List IndexedReply) → HasNoSuch xs index → AllByRecursion (λ reply. ¬ ((reply.index ≡ index) × StatesFinal reply)) xs
none-final index [] none = tt
none-final index (x ∷ xs) none = ((λ is. none.0 is.0), none-final index xs none.1)

pub lt-tells : (n m : ℕ) → IsTrue (nat_lt n m) ↔ (n < m)
lt-tells n m = (λ is. ltb-true n m is, λ low. search rules)

-- ---- one of these that does not state what a reply does, above a number

-- a test tells whether there is one
abbrev pub TellsAbove : Greatest → ℕ → Option BoundKey → Option BoundKey → Bool → Type 0
TellsAbove greatest n t s test = ((t ≡ s) × (IsTrue test ↔ (n < greatest.other))) ⊎ ((t ≢ s) × (IsTrue test ↔ (n < greatest.number)))

has-other : {Is : IndexedReply → Type 0} {number : IndexedReply → ℕ} {replies : List IndexedReply} {greatest : Greatest} (n : ℕ) (t : Option BoundKey) (test : Bool) → (is : IsGreatest Is number replies greatest)
    → TellsAbove greatest n t is.statement test → IsTrue test ↔ IsReachedByOther Is number replies t n
has-other {Is} {number} {replies} {greatest} n t test is (inl (same, tells)) = (
  λ yes. let r = is.are.other_reached n (tells.0 yes) in record { place = r.place; reply = r.reply; at = r.at; is = r.is; above = r.above; other = λ it. r.other (subst (BytesState r.reply.bytes) same it) },
  λ has.
      let high = (all-at _ replies has.place has.reply is.are.upper has.at has.is).1 (λ it. has.other (subst (BytesState has.reply.bytes) (sym same) it)) in
      let above = has.above in
      tells.1 (omega (arith, high, above)),
)
has-other {Is} {number} {replies} {greatest} n t test is (inr (apart, tells)) = (
  λ yes. let r = is.are.reached n (tells.0 yes) in record { place = r.place; reply = r.reply; at = r.at; is = r.is; above = r.above; other = λ it. apart (one-statement r.reply.bytes t is.statement it r.states) },
  λ has.
      let high = (all-at _ replies has.place has.reply is.are.upper has.at has.is).0 in
      let above = has.above in
      tells.1 (omega (arith, high, above)),
)

-- ---- whether a reply is changed by one of these, or changes one

module _ (replies : List IndexedReply) (spelled : AllByRecursion (λ reply. SpellsOne reply.bytes) replies) (x : IndexedReply) (t : Option BoundKey) (says : BytesState x.bytes t) where
  -- a reply that states a key with Final, and one that does not state it
  states-change : (v w : IndexedReply) (s : Option BoundKey) → BytesState v.bytes s → states_final s ≡ true → SpellsOne w.bytes → ¬ BytesState w.bytes s → StateAChange v.bytes w.bytes
  states-change v w s own final read not = record {
    one = own.0;
    spelled = own.1;
    final = ap states_final own.2 ∙ final;
    other = read.0;
    later_spelled = read.1;
    changed = λ same. not (read.0, read.1, same ∙ own.2);
  }

  read-at : (k : ℕ) (w : IndexedReply) → slice_get replies k ≡ Some w → SpellsOne w.bytes
  read-at k w at = all-at (λ (reply : IndexedReply). SpellsOne reply.bytes) replies k w spelled at

  pub changed-among : (latest : Greatest) → IsLatest replies x.index latest → (final test : Bool) → final ≡ states_final t → ((own : Option BoundKey) → BytesState latest.bytes.value.items own → TellsAbove latest x.epoch t own test)
      → IsTrue final → IsTrue test ↔ IsChangedAmong replies x
  changed-among latest is final test final-is tells holds =
      let exact = has-other x.epoch t test is (tells is.statement is.states) in (
        λ so. let h = exact.0 so in (h.place, h.reply, h.at, (h.above, sym h.is, states-change x h.reply t says (sym final-is ∙ holds) (read-at h.place h.reply h.at) h.other)),
        λ (k, w, at, (later, index, change)). exact.1 (record {
          place = k;
          reply = w;
          at = at;
          is = sym index;
          above = later;
          other = λ it. change.changed (one-statement w.bytes (stated change.other.end) t (change.other, change.later_spelled, refl) it ∙ one-statement x.bytes t (stated change.one.end) says (change.one, change.spelled, refl));
        }),
      )

  -- where it is not final
  pub not-final : (final : Bool) → final ≡ states_final t → final ≡ false → ¬ IsChangedAmong replies x
  not-final final is not (k, w, at, (later, index, change)) =
      let yes : states_final t ≡ true = ap states_final (one-statement x.bytes t (stated change.one.end) says (change.one, change.spelled, refl)) ∙ change.final in
      absurd cc

  pub changes-among : (earliest : Greatest) → IsEarliest replies x.index earliest → x.epoch < 2 ^ 64 → (n : ℕ) → n ≡ below_last x.epoch → (test : Bool)
      → ((own : Option BoundKey) → BytesState earliest.bytes.value.items own → TellsAbove earliest n t own test) → IsTrue test ↔ ChangesAmong replies x
  changes-among earliest is fits n n-is test tells =
      let exact = has-other n t test is (tells is.statement is.states) in (
        λ so.
            let h = exact.0 so in
            let (index, (s, own, final)) = h.is in
            let above = h.above in
            (h.place, h.reply, h.at, (omega (arith, above, n-is), index, states-change h.reply x s own final (says.0, says.1) (λ it. h.other (subst (BytesState h.reply.bytes) (one-statement x.bytes s t it says) own)))),
        λ (k, w, at, (later, index, change)). exact.1 (record {
          place = k;
          reply = w;
          at = at;
          is = (index, (stated change.one.end, (change.one, change.spelled, refl), change.final));
          above = omega (arith, later, n-is, fits);
          other = λ it. change.changed (one-statement x.bytes (stated change.other.end) t (change.other, change.later_spelled, refl) says ∙ one-statement w.bytes t (stated change.one.end) it (change.one, change.spelled, refl));
        }),
      )

-- none is earlier than the earliest
pub none-earlier : (replies : List IndexedReply) (x : IndexedReply) (earliest : Greatest) → IsEarliest replies x.index earliest → x.epoch < 2 ^ 64 → (n : ℕ) → n ≡ below_last x.epoch → earliest.number ≤ n
    → IsTrue false ↔ ChangesAmong replies x
none-earlier replies x earliest is fits n n-is low = (
  λ never. absurd cc,
  λ (k, w, at, (later, index, change)).
      let final : StatesFinal w = (stated change.one.end, (change.one, change.spelled, refl), change.final) in
      let high = (all-at _ replies k w is.are.upper at (index, final)).0 in
      absurd (omega (arith, high, low, later, n-is, fits)),
)
