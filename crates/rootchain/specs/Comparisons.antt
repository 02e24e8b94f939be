-- Two chains of one key compared: they agree, or two of their roots are evidence, or two of their
-- bodies have one digest (after CONIKS, section 4).
use Rattle.std.specs.Prelude.{◌≡◌, ◌≢◌, ◌⊎◌, ℕ, ◌+◌, ◌<◌, ◌≤◌, List, Contains}
use Rattle.nodehash.specs.Collisions.{IsCollision}
use Rattle.rootchain.specs.declared.chain.placing.Place.{Place}
use Rattle.rootchain.specs.declared.chain.placing.Place.TheVariants as place
use Rattle.rootchain.specs.declared.compare.Compare.{Compare}
use Rattle.rootchain.specs.declared.compare.Compare.TheVariants.{Equal, Evidence, Collision}
use Rattle.rootchain.specs.declared.evidence.RootEvidence.TheVariants.{Fork, Link, Skip}
use Rattle.rootchain.specs.declared.signed_root.SignedRoot.{SignedRoot}
use Rattle.rootchain.specs.Bodies.{body_bytes}
use Rattle.rootchain.specs.Chains.{IsAt, IsHead, KeyedRoots}
use Rattle.rootchain.specs.Evidence.{BothAre, IsLink, IsRootEvidence, IsSkip}
use Rattle.rootchain.specs.Places.{IsFirst, IsMissing, IsNextAfter, IsPlace}

-- ---- agreement

-- the epoch lies in the range of the chain, from its first root to its head
pub record Spans (chain : KeyedRoots) (epoch : ℕ) : Type 0 where
  pub low : SignedRoot
  pub high : SignedRoot
  pub has-low : Contains chain.roots low
  pub has-high : Contains chain.roots high
  pub not-later : low.body.epoch ≤ epoch
  pub not-earlier : epoch ≤ high.body.epoch

-- the epoch lies in the common range, from the later first root to the earlier head
abbrev pub IsCommon : KeyedRoots → KeyedRoots → ℕ → Type 0
IsCommon one other epoch = Spans one epoch × Spans other epoch

-- if the one chain has a root of the epoch, the other has one with the same body
abbrev pub HasAlso : KeyedRoots → KeyedRoots → ℕ → Type 0
HasAlso other one epoch = (root : SignedRoot) → IsAt one epoch root → (also : SignedRoot) × IsAt other epoch also × (root.body ≡ also.body)

-- at the epoch both chains have no root, or one body
abbrev pub AreAlikeAt : KeyedRoots → KeyedRoots → ℕ → Type 0
AreAlikeAt one other epoch = HasAlso other one epoch × HasAlso one other epoch

-- the one chain ends before the other starts: these are its head and the other's first root
abbrev pub LiesBelow : KeyedRoots → KeyedRoots → SignedRoot → SignedRoot → Type 0
LiesBelow lower upper head first = IsHead lower head × IsFirst upper first × (head.body.epoch < first.body.epoch)

module _ (hash : List ℕ → List ℕ) where
  -- if the one chain lies below the other, its head and the other's first root are no evidence
  abbrev pub MayMeet : KeyedRoots → KeyedRoots → Type 0
  MayMeet lower upper = (head first : SignedRoot) → LiesBelow lower upper head first → ¬ IsSkip head first × ¬ IsLink hash head first

  -- both chains have the same epochs and bodies in the common range; and if there is no such range, the
  -- lower one's head and the upper one's first root are no evidence
  pub record ChainsAgree (one other : KeyedRoots) : Type 0 where
    pub alike : (epoch : ℕ) → IsCommon one other epoch → AreAlikeAt one other epoch
    pub may-meet : MayMeet one other
    pub may-meet-below : MayMeet other one

-- ---- the answer

-- what the place of the upper chain's first root beside the lower chain says
abbrev pub told_by_place : Place → Compare
told_by_place (place.Evidence evidence) = Evidence evidence
told_by_place place.Known = Equal
told_by_place place.Next = Equal
told_by_place place.Ahead = Equal
told_by_place place.BeforeStart = Equal

-- both chains have one body at the epoch
abbrev pub AreOneAt : KeyedRoots → KeyedRoots → ℕ → Type 0
AreOneAt one other epoch = (root also : SignedRoot) × IsAt one epoch root × IsAt other epoch also × (root.body ≡ also.body)

-- the greatest epoch at which both chains have one body
pub record IsLastOne (one other : KeyedRoots) (epoch : ℕ) : Type 0 where
  pub here : AreOneAt one other epoch
  pub none-later : (later : ℕ) → epoch < later → ¬ AreOneAt one other later

-- the two bodies at the greatest epoch at which the chains differ below the last one body
pub record IsLastApart (one other : KeyedRoots) (root also : SignedRoot) : Type 0 where
  pub epoch : ℕ
  pub last : ℕ
  pub is-last : IsLastOne one other last
  pub below : epoch < last
  pub at-one : IsAt one epoch root
  pub at-other : IsAt other epoch also
  pub differ : root.body ≢ also.body
  pub alike : (between : ℕ) → epoch < between → between < last → IsCommon one other between → AreAlikeAt one other between

-- if the chains are alike below the last one body, the epochs above it decide; and if they have no one
-- body, all epochs do
abbrev pub IsDecidedFrom : KeyedRoots → KeyedRoots → ℕ → Type 0
IsDecidedFrom one other start =
    ((last : ℕ) × IsLastOne one other last × ((epoch : ℕ) → epoch < last → IsCommon one other epoch → AreAlikeAt one other epoch) × (start ≡ last + 1))
    ⊎ (((epoch : ℕ) → ¬ AreOneAt one other epoch) × (start ≡ 0))

-- the smallest epoch of the common range, from the start on, at which either chain has a root
pub record IsFirstHeld (one other : KeyedRoots) (start epoch : ℕ) : Type 0 where
  pub common : IsCommon one other epoch
  pub from : start ≤ epoch
  pub none-before : (before : ℕ) → start ≤ before → before < epoch → IsCommon one other before → IsMissing one before × IsMissing other before

-- the one chain has the root, and the other has none of its epoch and then this one
abbrev pub IsPassedOver : KeyedRoots → KeyedRoots → ℕ → SignedRoot → SignedRoot → Type 0
IsPassedOver one other epoch root over = IsAt one epoch root × IsMissing other epoch × IsNextAfter other epoch over

-- what two chains with a common range compare to
abbrev pub IsComparedWithin : KeyedRoots → KeyedRoots → Compare → Type 0
IsComparedWithin one other (Collision x y) = (root also : SignedRoot) × IsLastApart one other root also × (x ≡ body_bytes root.body) × (y ≡ body_bytes also.body)
IsComparedWithin one other (Evidence (Fork root also)) =
    (start epoch : ℕ) × IsDecidedFrom one other start × IsFirstHeld one other start epoch × IsAt one epoch root × IsAt other epoch also × (root.body ≢ also.body)
IsComparedWithin one other (Evidence (Skip root over)) =
    (start epoch : ℕ) × IsDecidedFrom one other start × IsFirstHeld one other start epoch × (IsPassedOver one other epoch root over ⊎ IsPassedOver other one epoch root over)
IsComparedWithin one other (Evidence (Link root over)) = ⊥
IsComparedWithin one other Equal =
    (start : ℕ) × IsDecidedFrom one other start × ((epoch : ℕ) → IsCommon one other epoch → start ≤ epoch → IsMissing one epoch × IsMissing other epoch)

module _ (hash : List ℕ → List ℕ) where
  -- what two chains compare to of which the one lies below the other: the place of the upper one's first
  -- root in the lower one
  abbrev pub IsComparedApart : KeyedRoots → SignedRoot → Compare → Type 0
  IsComparedApart lower first answer = (place : Place) × IsPlace hash lower first place × (answer ≡ told_by_place place)

  -- what two chains compare to
  pub record IsCompared (one other : KeyedRoots) (answer : Compare) : Type 0 where
    pub below : (head first : SignedRoot) → LiesBelow one other head first → IsComparedApart one first answer
    pub above : (head first : SignedRoot) → LiesBelow other one head first → IsComparedApart other first answer
    pub within : (epoch : ℕ) → IsCommon one other epoch → IsComparedWithin one other answer

-- ---- what an answer is

-- it is a collision
abbrev pub IsCollided : Compare → Type 0
IsCollided (Collision x y) = Unit
IsCollided Equal = ⊥
IsCollided (Evidence evidence) = ⊥

-- if it is a collision, it is of two different texts with one digest: a body of the first chain, and one
-- of the second
abbrev pub CollisionHolds : (List ℕ → List ℕ) → KeyedRoots → KeyedRoots → Compare → Type 0
CollisionHolds hash one other (Collision x y) = IsCollision hash x y
    × ((root also : SignedRoot) × Contains one.roots root × Contains other.roots also × (x ≡ body_bytes root.body) × (y ≡ body_bytes also.body))
CollisionHolds hash one other Equal = Unit
CollisionHolds hash one other (Evidence evidence) = Unit

-- if it is evidence, it holds under the key
abbrev pub ComparedHolds : (List ℕ → List ℕ) → (List ℕ → List ℕ → List ℕ → Type 0) → List ℕ → Compare → Type 0
ComparedHolds hash verified key (Evidence evidence) = IsRootEvidence hash verified key evidence
ComparedHolds hash verified key Equal = Unit
ComparedHolds hash verified key (Collision x y) = Unit

-- one root is of the one chain, and one is of the other
abbrev pub AreOfBoth : KeyedRoots → KeyedRoots → SignedRoot → SignedRoot → Type 0
AreOfBoth one other root also = (Contains one.roots root × Contains other.roots also) ⊎ (Contains other.roots root × Contains one.roots also)

-- if it is evidence, it is of one root of each chain: in a fork that of the first chain comes first
abbrev pub IsOfBoth : KeyedRoots → KeyedRoots → Compare → Type 0
IsOfBoth one other (Evidence (Fork root also)) = Contains one.roots root × Contains other.roots also
IsOfBoth one other (Evidence (Link root also)) = AreOfBoth one other root also
IsOfBoth one other (Evidence (Skip root also)) = AreOfBoth one other root also
IsOfBoth one other Equal = Unit
IsOfBoth one other (Collision x y) = Unit

-- if it is evidence, both its roots are such
abbrev pub EvidenceIs : (SignedRoot → Type 0) → Compare → Type 0
EvidenceIs P (Evidence evidence) = BothAre P evidence
EvidenceIs P Equal = Unit
EvidenceIs P (Collision x y) = Unit

-- the one chain lies below the other, whose first root names the epoch of its head
abbrev pub IsHashNeeded : KeyedRoots → KeyedRoots → Type 0
IsHashNeeded lower upper = (head first : SignedRoot) × LiesBelow lower upper head first × (first.body.previous_epoch ≡ head.body.epoch)
