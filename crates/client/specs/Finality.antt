-- Whether a final binding was changed among the looks of a client (policies are this directory's own).
use Rattle.std.specs.Prelude.{◌≡◌, ◌≢◌, ◌⊎◌, ℕ, ◌<◌, true, List, [], ◌∷◌, ◌++◌, map, filter, Option, Some, None, slice_get}
use Rattle.std.specs.List.{AllByRecursion}
use Rattle.std.specs.Str.{bytes_eq}
use Rattle.encoding.specs.Maps.{Map, at}
use Rattle.rootchain.specs.Chains.{IsAt}
use Rattle.proofs.specs.Accepts.{stated, HasIndex}
use Rattle.proofs.specs.BrokenFinals.{states_final}
use Rattle.proofs.specs.Replies.{Reply, SpellsReply}
use Rattle.proofs.specs.declared.broken_final.BrokenFinal.{BrokenFinal}
use Rattle.client.specs.Clients.{Client, Look}

-- ---- what is asked

-- the looks for a name, in order of acceptance
abbrev pub looks_for : List ℕ → List Look → List Look
looks_for name looks = filter (λ look. bytes_eq look.name name) looks

-- one reply states a key with Final, and another anything else
pub record StateAChange (reply later : List ℕ) : Type 0 where
  pub one : Reply
  pub spelled : SpellsReply reply one
  pub final : states_final (stated one.end) ≡ true
  pub other : Reply
  pub later_spelled : SpellsReply later other
  pub changed : stated other.end ≢ stated one.end

-- both replies have one index
pub record HaveOneIndex (hash : List ℕ → List ℕ) (reply later : List ℕ) : Type 0 where
  pub index : List ℕ
  pub has_index : HasIndex hash reply index
  pub later_has_index : HasIndex hash later index

-- a look at a later epoch, with the index of this one, changes what this one states to be final
abbrev pub IsChangedBy : (List ℕ → List ℕ) → Look → Look → Type 0
IsChangedBy hash look later = (look.epoch < later.epoch) × HaveOneIndex hash look.reply later.reply × StateAChange look.reply later.reply

-- no element of a list stands so to one of them
abbrev pub NoneStandSo : {A : Type 0} → (A → A → Type 0) → List A → Type 0
NoneStandSo {A} So xs = (k l : ℕ) (v w : A) → slice_get xs k ≡ Some v → slice_get xs l ≡ Some w → ¬ So v w

-- one does
abbrev pub SomeStandSo : {A : Type 0} → (A → A → Type 0) → List A → Type 0
SomeStandSo {A} So xs = (k l : ℕ) × (v w : A) × (slice_get xs k ≡ Some v) × (slice_get xs l ≡ Some w) × So v w

-- the first element of a list that stands so to one of them, and the first to which it does
pub record AreFirst {A : Type 0} (So : A → A → Type 0) (xs : List A) (x y : A) : Type 0 where
  pub i : ℕ
  pub j : ℕ
  pub at-one : slice_get xs i ≡ Some x
  pub at-other : slice_get xs j ≡ Some y
  pub so : So x y
  pub before : (k l : ℕ) (v w : A) → slice_get xs k ≡ Some v → slice_get xs l ≡ Some w → (k < i) ⊎ ((k ≡ i) × (l < j)) → ¬ So v w

-- The first look for the name that a later one changes, and the first that changes it, each with the root of its
-- epoch.
pub record IsFirstChange (hash : List ℕ → List ℕ) (client : Client) (name : List ℕ) (broken : BrokenFinal) : Type 0 where
  pub look : Look
  pub later : Look
  pub first : AreFirst (IsChangedBy hash) (looks_for name client.looks) look later
  pub named : broken.name ≡ name
  pub rooted : IsAt client.chain look.epoch broken.root
  pub proof : broken.proof ≡ look.reply
  pub later_rooted : IsAt client.chain later.epoch broken.later_root
  pub later_proof : broken.later_proof ≡ later.reply

-- ---- how the looks for a name are kept

-- an accepted reply, with the epoch of its root and its index
pub record IndexedReply : Type 0 where
  pub epoch : ℕ
  pub index : List ℕ
  pub bytes : List ℕ

abbrev pub ByName : Type 0
ByName = Map (List IndexedReply)

-- a map under the bytes of its keys
abbrev pub keyed : {K X : Type 0} → (K → List ℕ) → List (K × X) → Map X
keyed bytes entries = map (λ entry. (bytes entry.0, entry.1)) entries

abbrev pub all_of : Option (List IndexedReply) → List IndexedReply
all_of None = []
all_of (Some replies) = replies

-- the replies for a name
abbrev pub replies_for : ByName → List ℕ → List IndexedReply
replies_for map name = all_of (at map name)

-- each name has the same replies
abbrev pub HaveTheSame : ByName → ByName → Type 0
HaveTheSame before after = (name : List ℕ) → replies_for after name ≡ replies_for before name

-- this name has one more, and each other the same
pub record HasOneMore (before : ByName) (name : List ℕ) (reply : IndexedReply) (after : ByName) : Type 0 where
  pub own : replies_for after name ≡ replies_for before name ++ reply ∷ []
  pub others : (other : List ℕ) → other ≢ name → replies_for after other ≡ replies_for before other

-- the look for a name of which this was kept
abbrev pub look_of : List ℕ → IndexedReply → Look
look_of name reply = record { name = name; epoch = reply.epoch; reply = reply.bytes }

abbrev pub IsIndexed : (List ℕ → List ℕ) → IndexedReply → Type 0
IsIndexed hash reply = HasIndex hash reply.bytes reply.index

-- the replies for each name are those of its looks, with their indices
pub record AreByName (hash : List ℕ → List ℕ) (looks : List Look) (by_name : ByName) : Type 0 where
  pub same : (name : List ℕ) → map (look_of name) (replies_for by_name name) ≡ looks_for name looks
  pub indexed : (name : List ℕ) → AllByRecursion (IsIndexed hash) (replies_for by_name name)

-- the same of a later reply, where the indices are known
abbrev pub IsChangedByReply : IndexedReply → IndexedReply → Type 0
IsChangedByReply reply later = (reply.epoch < later.epoch) × (reply.index ≡ later.index) × StateAChange reply.bytes later.bytes

-- no reply of these changes this one
abbrev pub IsUnchangedBy : List IndexedReply → IndexedReply → Type 0
IsUnchangedBy replies reply = (l : ℕ) (w : IndexedReply) → slice_get replies l ≡ Some w → ¬ IsChangedByReply reply w

-- the first of these that does
pub record IsFirstToChange (replies : List IndexedReply) (reply later : IndexedReply) : Type 0 where
  pub j : ℕ
  pub at-other : slice_get replies j ≡ Some later
  pub so : IsChangedByReply reply later
  pub before : (l : ℕ) (w : IndexedReply) → slice_get replies l ≡ Some w → l < j → ¬ IsChangedByReply reply w
