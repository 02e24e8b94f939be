-- Two clients of one key compared (CONIKS, section 4: clients that compare what they saw find out if their
-- provider told them two things).
use Rattle.std.specs.Prelude.{◌≡◌, ◌≢◌, ◌⊎◌, ℕ, ◌<◌, List, Option, Some, Contains, slice_get}
use Rattle.nodehash.specs.Collisions.{IsCollision}
use Rattle.encoding.specs.declared.bound_key.BoundKey.{BoundKey}
use Rattle.rootchain.specs.Comparisons.{ChainsAgree, IsCompared}
use Rattle.rootchain.specs.Evidence.{BothAre, IsRootEvidence}
use Rattle.rootchain.specs.SignedRoots.{IsSignedRoot}
use Rattle.rootchain.specs.declared.compare.Compare.TheVariants as chains
use Rattle.proofs.specs.Accepts.{stated}
use Rattle.proofs.specs.Comparisons.{Answers}
use Rattle.proofs.specs.Replies.{Reply, SpellsReply}
use Rattle.proofs.specs.declared.comparing.SameOr.{SameOr}
use Rattle.proofs.specs.declared.comparing.SameOr.TheVariants as replies
use Rattle.client.specs.Clients.{Client, Look}
use Rattle.client.specs.declared.looks.LookPlace.{LookPlace}
use Rattle.client.specs.declared.outcome.Outcome.{Outcome}
use Rattle.client.specs.declared.outcome.Outcome.TheVariants.{Agree, Evidence, Collision, TwoValues}

-- ---- looks

-- what the reply of a look states of the name: a key, or none
abbrev pub LookStates : Look → Option BoundKey → Type 0
LookStates look statement = (reply : Reply) × SpellsReply look.reply reply × (stated reply.end ≡ statement)

-- two looks for one name and epoch
abbrev pub AreOfOne : Look → Look → Type 0
AreOfOne look also = (look.name ≡ also.name) × (look.epoch ≡ also.epoch)

-- both looks have one statement
abbrev pub HaveOneStatement : Look → Look → Type 0
HaveOneStatement look also = (statement : Option BoundKey) × LookStates look statement × LookStates also statement

-- two looks for one name and epoch that do not have one statement (CONIKS, section 4: what equivocation shows to two
-- clients)
abbrev pub AreUnlike : Look → Look → Type 0
AreUnlike look also = AreOfOne look also × ¬ HaveOneStatement look also

-- each look of the one and each look of the other for one name and epoch have one statement
abbrev pub LooksAgree : List Look → List Look → Type 0
LooksAgree ones others = (look also : Look) → Contains ones look → Contains others also → AreOfOne look also → HaveOneStatement look also

-- The first two looks for one name and epoch that do not have one statement: the first look of the one client
-- that has such a partner, and its first partner.
pub record AreFirstUnlike (ones others : List Look) (look also : Look) : Type 0 where
  pub i : ℕ
  pub j : ℕ
  pub at-one : slice_get ones i ≡ Some look
  pub at-other : slice_get others j ≡ Some also
  pub unlike : AreUnlike look also
  pub before : (k l : ℕ) (x y : Look) → slice_get ones k ≡ Some x → slice_get others l ≡ Some y → AreOfOne x y → (k < i) ⊎ ((k ≡ i) × (l < j)) → HaveOneStatement x y

-- ---- agreement

-- two clients agree: their chains do, and so do their looks
pub record ClientsAgree (hash : List ℕ → List ℕ) (one other : Client) : Type 0 where
  pub chains : ChainsAgree hash one.chain other.chain
  pub looks : LooksAgree one.looks other.looks

-- ---- the answer

module _ (hash : List ℕ → List ℕ) (accepted : List ℕ → List ℕ → List ℕ → Type 0) where
  -- what the comparison of the replies of two looks answers
  abbrev pub RepliesAnswer : Look → Look → SameOr → Type 0
  RepliesAnswer look also answer = (reply other : Reply) × SpellsReply look.reply reply × SpellsReply also.reply other
      × Answers hash accepted (record { name = look.name; reply = reply }) (record { name = also.name; reply = other }) answer

  -- what the chains of two clients compare to, if they do not agree
  abbrev pub IsToldByChains : Client → Client → Outcome → Type 0
  IsToldByChains one other Agree = ⊥
  IsToldByChains one other (Evidence evidence) = IsCompared hash one.chain other.chain (chains.Evidence evidence)
  IsToldByChains one other (Collision x y) = IsCompared hash one.chain other.chain (chains.Collision x y)
  IsToldByChains one other TwoValues = ⊥

  module _ (ones others : List Look) where
    -- of the pairs of looks for one name and epoch, in their order, the first that is not the same has this
    -- answer
    abbrev pub IsToldByLooks : SameOr → Type 0
    IsToldByLooks answer = (look also : Look) × AreFirstUnlike ones others look also × RepliesAnswer look also answer

    -- the outcome for the looks of two clients whose chains agree
    abbrev pub AreReconciled : Outcome → Type 0
    AreReconciled Agree = LooksAgree ones others
    AreReconciled (Evidence evidence) = ⊥
    AreReconciled (Collision x y) = IsToldByLooks (replies.Collision x y)
    AreReconciled TwoValues = IsToldByLooks replies.TwoValues

  -- First what the chains compare to. If they agree, then what the looks show.
  abbrev pub IsReconciled : Client → Client → Outcome → Type 0
  IsReconciled one other outcome =
      IsToldByChains one other outcome ⊎ (IsCompared hash one.chain other.chain chains.Equal × AreReconciled one.looks other.looks outcome)

-- ---- what an answer is

-- two different values were accepted for one key and name
abbrev pub AreTwoValuesFor : (List ℕ → List ℕ → List ℕ → Type 0) → Type 0
AreTwoValuesFor accepted = (key name value other : List ℕ) × accepted key name value × accepted key name other × (value ≢ other)

-- if it is evidence, it holds under the key; if it is a collision, it is of two different texts with one
-- digest; and if it is two values, there are such
abbrev pub OutcomeHolds : (List ℕ → List ℕ) → (List ℕ → List ℕ → List ℕ → Type 0) → (List ℕ → List ℕ → List ℕ → Type 0) → List ℕ → Outcome → Type 0
OutcomeHolds hash accepted verified key Agree = Unit
OutcomeHolds hash accepted verified key (Evidence evidence) = IsRootEvidence hash verified key evidence
OutcomeHolds hash accepted verified key (Collision x y) = IsCollision hash x y
OutcomeHolds hash accepted verified key TwoValues = AreTwoValuesFor accepted

-- if it is evidence, both its roots have spellings
abbrev pub OutcomeIsSpelled : Outcome → Type 0
OutcomeIsSpelled Agree = Unit
OutcomeIsSpelled (Evidence evidence) = BothAre IsSignedRoot evidence
OutcomeIsSpelled (Collision x y) = Unit
OutcomeIsSpelled TwoValues = Unit

-- ---- of looks as they are compared

-- the bytes spell a reply
abbrev pub SpellsOne : List ℕ → Type 0
SpellsOne bytes = (reply : Reply) × SpellsReply bytes reply

-- two places are for one name and epoch
abbrev pub AreBeside : LookPlace → LookPlace → Type 0
AreBeside place other = (other.asked.name.items ≡ place.asked.name.items) × (other.asked.epoch ≡ place.asked.epoch)

module _ (looks : List Look) (name : List ℕ) (epoch : ℕ) (statement : Option BoundKey) where
  -- each look for the name and epoch states this
  abbrev pub AllState : Type 0
  AllState = (n : ℕ) (look : Look) → slice_get looks n ≡ Some look → look.name ≡ name → look.epoch ≡ epoch → LookStates look statement

  -- each of them that was accepted before the look of this number
  abbrev pub AllStateBelow : ℕ → Type 0
  AllStateBelow number = (n : ℕ) (look : Look) → n < number → slice_get looks n ≡ Some look → look.name ≡ name → look.epoch ≡ epoch → LookStates look statement

  -- the reply of the first look for the name and epoch that does not
  pub record IsFirstOther (reply : List ℕ) : Type 0 where
    pub number : ℕ
    pub look : Look
    pub at : slice_get looks number ≡ Some look
    pub named : look.name ≡ name
    pub of_epoch : look.epoch ≡ epoch
    pub is : look.reply ≡ reply
    pub other : ¬ LookStates look statement
    pub before : AllStateBelow number
