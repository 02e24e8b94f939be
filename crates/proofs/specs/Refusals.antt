-- Why a reply is refused, and which refusal comes first.
use Rattle.std.specs.Prelude.{◌≡◌, ◌≢◌, ℕ, ◌<◌, List, [], ◌++◌, length, Result, Ok, Err, ⊤}
use Rattle.encoding.specs.Bits.{Agree}
use Rattle.prefixtree.specs.Paths.{Way}
use Rattle.rootchain.specs.declared.body.Body.{Body}
use Rattle.proofs.specs.declared.reply_refusal.Refusal.{Refusal}
use Rattle.proofs.specs.declared.reply_refusal.Refusal.TheVariants.{Malformed, Trailing, OtherRoot, BadVuf, SameIndex, OtherPrefix, PathMismatch}
use Rattle.proofs.specs.PathEnds.{end_text}
use Rattle.proofs.specs.Replies.{End, Present, Empty, Other, Reply, SpellsReply}

-- the number of a refusal
abbrev pub reply_refusal_number : Refusal → ℕ
reply_refusal_number Malformed = 1
reply_refusal_number Trailing = 2
reply_refusal_number OtherRoot = 3
reply_refusal_number BadVuf = 4
reply_refusal_number SameIndex = 5
reply_refusal_number OtherPrefix = 6
reply_refusal_number PathMismatch = 7

-- ---- reading

-- a proper beginning of the bytes spells a reply
abbrev pub BeginsWithReply : List ℕ → Type 0
BeginsWithReply bytes = (reply : Reply) × (front : List ℕ) × (rest : List ℕ) × (bytes ≡ front ++ rest) × (rest ≢ []) × SpellsReply front reply

-- what reading all of the bytes answers
abbrev pub ReadsReply : List ℕ → Result Reply Refusal → Type 0
ReadsReply bytes (Ok reply) = SpellsReply bytes reply
ReadsReply bytes (Err Malformed) = ((reply : Reply) → ¬ SpellsReply bytes reply) × ¬ BeginsWithReply bytes
ReadsReply bytes (Err Trailing) = BeginsWithReply bytes
ReadsReply bytes (Err OtherRoot) = ⊥
ReadsReply bytes (Err BadVuf) = ⊥
ReadsReply bytes (Err SameIndex) = ⊥
ReadsReply bytes (Err OtherPrefix) = ⊥
ReadsReply bytes (Err PathMismatch) = ⊥

-- ---- checking

-- a leaf that shows absence is that of another index
abbrev pub AbsenceIsByAnother : List ℕ → End → Type 0
AbsenceIsByAnother index (Present salt key) = ⊤
AbsenceIsByAnother index Empty = ⊤
AbsenceIsByAnother index (Other other commitment) = other ≢ index

-- and it agrees with this one in n bits
abbrev pub AbsenceIsOnWay : List ℕ → ℕ → End → Type 0
AbsenceIsOnWay index n (Present salt key) = ⊤
AbsenceIsOnWay index n Empty = ⊤
AbsenceIsOnWay index n (Other other commitment) = Agree index other n

module _ (hash : List ℕ → List ℕ) (accepted : List ℕ → List ℕ → List ℕ → Type 0) where
  -- the test that each refusal stands for, of a reply for a name under a body; a reply that was read has
  -- passed the first two
  abbrev pub Passes : Body → List ℕ → Reply → Refusal → Type 0
  Passes body name reply Malformed = ⊤
  Passes body name reply Trailing = ⊤
  Passes body name reply OtherRoot = reply.body ≡ body
  Passes body name reply BadVuf = accepted body.vuf_key name reply.value
  Passes body name reply SameIndex = AbsenceIsByAnother (hash reply.value) reply.end
  Passes body name reply OtherPrefix = AbsenceIsOnWay (hash reply.value) (length reply.siblings) reply.end
  Passes body name reply PathMismatch =
      Way hash body.root (hash reply.value) reply.siblings (end_text hash body.nonce name (hash reply.value) (length reply.siblings) reply.end)

-- the test of this refusal is not passed, and each before it is
pub record IsFirstToFail (Passed : Refusal → Type 0) (refusal : Refusal) : Type 0 where
  pub fails : ¬ Passed refusal
  pub before : (other : Refusal) → reply_refusal_number other < reply_refusal_number refusal → Passed other
