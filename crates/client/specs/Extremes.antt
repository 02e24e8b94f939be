-- The latest of the replies with one index, and the earliest of those that state a key with Final.
use Rattle.std.specs.Prelude.{◌≡◌, ◌≢◌, ◌↔◌, ℕ, ◌<◌, ◌≤◌, ◌-◌, ◌^◌, Bool, true, IsTrue, List, Option, Some, None, slice_get}
use Rattle.std.specs.List.{AllByRecursion}
use Rattle.encoding.specs.Maps.{Map, at}
use Rattle.encoding.specs.declared.bound_key.BoundKey.{BoundKey}
use Rattle.proofs.specs.Accepts.{stated}
use Rattle.proofs.specs.BrokenFinals.{states_final}
use Rattle.proofs.specs.Replies.{Reply, SpellsReply}
use Rattle.client.specs.Agreements.{SpellsOne}
use Rattle.client.specs.Finality.{IndexedReply, IsChangedByReply, SomeStandSo}
use Rattle.client.specs.declared.extremes.Extremes.{Extremes}
use Rattle.client.specs.declared.extremes.Greatest.{Greatest}

-- what the reply that the bytes spell states
abbrev pub BytesState : List ℕ → Option BoundKey → Type 0
BytesState bytes statement = (reply : Reply) × SpellsReply bytes reply × (stated reply.end ≡ statement)

-- a reply of some, which have numbers
module _ (Is : IndexedReply → Type 0) (number : IndexedReply → ℕ) (replies : List IndexedReply) (statement : Option BoundKey) (n : ℕ) where
  -- one of these, of a number above this one, states this
  pub record IsReached : Type 0 where
    pub place : ℕ
    pub reply : IndexedReply
    pub at : slice_get replies place ≡ Some reply
    pub is : Is reply
    pub above : n < number reply
    pub states : BytesState reply.bytes statement

  -- or anything else
  pub record IsReachedByOther : Type 0 where
    pub place : ℕ
    pub reply : IndexedReply
    pub at : slice_get replies place ≡ Some reply
    pub is : Is reply
    pub above : n < number reply
    pub other : ¬ BytesState reply.bytes statement

-- Of these replies none has a number above the greatest, which one has that states this; and none that states anything else
-- has one above the other number, which one of these has. A number is 0 where there is none.
pub record AreGreatest (Is : IndexedReply → Type 0) (number : IndexedReply → ℕ) (replies : List IndexedReply) (greatest : ℕ) (statement : Option BoundKey) (other : ℕ) : Type 0 where
  pub upper : AllByRecursion (λ reply. Is reply → (number reply ≤ greatest) × (¬ BytesState reply.bytes statement → number reply ≤ other)) replies
  pub reached : (n : ℕ) → n < greatest → IsReached Is number replies statement n
  pub other_reached : (n : ℕ) → n < other → IsReachedByOther Is number replies statement n

-- these are the greatest, with what they state
pub record IsGreatest (Is : IndexedReply → Type 0) (number : IndexedReply → ℕ) (replies : List IndexedReply) (greatest : Greatest) : Type 0 where
  pub statement : Option BoundKey
  pub states : BytesState greatest.bytes.value.items statement
  pub are : AreGreatest Is number replies greatest.number statement greatest.other

-- the latest of those with this index
abbrev pub IsLatest : List IndexedReply → List ℕ → Greatest → Type 0
IsLatest replies index = IsGreatest (λ reply. reply.index ≡ index) (λ reply. reply.epoch) replies

-- the reply states a key with Final
abbrev pub StatesFinal : IndexedReply → Type 0
StatesFinal reply = (statement : Option BoundKey) × BytesState reply.bytes statement × (states_final statement ≡ true)

-- no reply of these states a key with Final
abbrev pub NoneStatesFinal : List IndexedReply → Type 0
NoneStatesFinal = AllByRecursion (λ reply. ¬ StatesFinal reply)

-- how far an epoch lies below the last one that a number of 64 bits has
abbrev pub below_last : ℕ → ℕ
below_last epoch = 2 ^ 64 - 1 - epoch

-- the earliest of those with this index that state a key with Final
abbrev pub IsEarliest : List IndexedReply → List ℕ → Greatest → Type 0
IsEarliest replies index = IsGreatest (λ reply. (reply.index ≡ index) × StatesFinal reply) (λ reply. below_last reply.epoch) replies

-- both of them
abbrev pub AreExtremes : List IndexedReply → List ℕ → Extremes → Type 0
AreExtremes replies index extremes = IsLatest replies index extremes.latest × IsEarliest replies index extremes.earliest

-- none of the replies has this index
abbrev pub HasNoSuch : List IndexedReply → List ℕ → Type 0
HasNoSuch replies index = AllByRecursion (λ reply. reply.index ≢ index) replies

-- The extremes of the replies with one index, and of those with each other index. Those with an index that is not among
-- the others have the one. And whether one of the replies changes another.
pub record AreByIndex (replies : List IndexedReply) (index : List ℕ) (own : Extremes) (others : Map Extremes) (is_changed : Bool) : Type 0 where
  pub spelled : AllByRecursion (λ reply. SpellsOne reply.bytes) replies
  pub first : AreExtremes replies index own
  pub apart : at others index ≡ None
  pub rest : (other : List ℕ) (extremes : Extremes) → at others other ≡ Some extremes → AreExtremes replies other extremes
  pub whole : AllByRecursion (λ reply. at others reply.index ≡ None → reply.index ≡ index) replies
  pub changed : IsTrue is_changed ↔ SomeStandSo IsChangedByReply replies

-- one of the replies changes this one
abbrev pub IsChangedAmong : List IndexedReply → IndexedReply → Type 0
IsChangedAmong replies reply = (k : ℕ) × (w : IndexedReply) × (slice_get replies k ≡ Some w) × IsChangedByReply reply w

-- this one changes one of the replies
abbrev pub ChangesAmong : List IndexedReply → IndexedReply → Type 0
ChangesAmong replies reply = (k : ℕ) × (w : IndexedReply) × (slice_get replies k ≡ Some w) × IsChangedByReply w reply
