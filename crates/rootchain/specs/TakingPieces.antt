-- A piece of a list of roots, of which a chain takes each root that it makes whole (after CONIKS, section 3).
use Rattle.std.specs.Prelude.{◌≡◌, ◌≢◌, ◌⊎◌, ℕ, ◌+◌, ◌^◌, ◌<◌, ◌≤◌, List, [], ◌∷◌, ◌++◌, length, Result, Ok, Err}
use Rattle.std.specs.List.{flat_map, AllByRecursion}
use Rattle.encoding.specs.Bytes.{joined, IsBytes}
use Rattle.encoding.specs.Endian.{big_bytes}
use Rattle.encoding.specs.Fields.{Begins}
use Rattle.rootchain.specs.declared.chain.taking_pieces.Outcome.{Outcome}
use Rattle.rootchain.specs.declared.chain.taking_pieces.Outcome.TheVariants as outcome
use Rattle.rootchain.specs.declared.root_list.TheConstants.{COUNT_LEN, MAX_LIST_LEN, MAX_ROOTS}
use Rattle.rootchain.specs.declared.signed_root.SignedRoot.{SignedRoot}
use Rattle.rootchain.specs.declared.signed_root.TheConstants.{FIXED_LEN}
use Rattle.rootchain.specs.declared.list_refusal.ListRefusal.{ListRefusal}
use Rattle.rootchain.specs.declared.list_refusal.ListRefusal.TheVariants as list
use Rattle.rootchain.specs.declared.piece_refusal.PieceRefusal.{PieceRefusal}
use Rattle.rootchain.specs.declared.piece_refusal.PieceRefusal.TheVariants.{Malformed, Root, Memory}
use Rattle.rootchain.specs.Chains.{KeyedRoots}
use Rattle.rootchain.specs.RootFeeds.{told_from, FeedState, Counts, Done, Failed}
use Rattle.rootchain.specs.RootLists.{SpellsRoots}
use Rattle.rootchain.specs.SignedRoots.{signed_root_bytes, IsSignedRoot}
use Rattle.rootchain.specs.TakingLists.{ListRefusalHolds, ListRefusalIsSpelled, StopsAt, Takes}

-- the refusal of a piece, or of a list in bytes, for that of one of its roots
abbrev pub of_piece : ListRefusal → PieceRefusal
of_piece list.Memory = Memory
of_piece list.BadSignature = Root list.BadSignature
of_piece list.BeforeStart = Root list.BeforeStart
of_piece list.Ahead = Root list.Ahead
of_piece (list.Evidence evidence) = Root (list.Evidence evidence)

-- what comes of a piece, or of a list in bytes: it is taken, or refused in this way
abbrev pub piece_answer : Outcome → ListRefusal → Result Unit PieceRefusal
piece_answer outcome.Taken why = Ok tt
piece_answer outcome.Malformed why = Err Malformed
piece_answer outcome.Refused why = Err (of_piece why)

-- the first refusal among answers, if there is one
abbrev pub first_refusal : {E : Type 0} → List (Result Unit E) → Result Unit E
first_refusal [] = Ok tt
first_refusal (Ok _ ∷ answers) = first_refusal answers
first_refusal (Err why ∷ answers) = Err why

-- one byte more than the longest list has, with one more root behind it whose signature is as long as its two bytes
-- of length can say
abbrev pub too_many_bytes : ℕ
too_many_bytes = MAX_LIST_LEN + FIXED_LEN + 2 ^ 16

-- the bytes are a number of roots, then these roots, and then others, which begin with no root that is to come
abbrev pub HasWholeRoots : ℕ → List SignedRoot → List ℕ → List ℕ → Type 0
HasWholeRoots count roots rest bytes = (count ≤ MAX_ROOTS) × AllByRecursion IsSignedRoot roots × (bytes ≡ big_bytes COUNT_LEN count ++ (flat_map signed_root_bytes roots ++ rest))
    × ((length roots ≡ count) ⊎ ((length roots < count) × ¬ Begins signed_root_bytes IsSignedRoot rest))

module _ (hash : List ℕ → List ℕ) (verified : List ℕ → List ℕ → List ℕ → Type 0) where
  -- What comes of a piece: the roots that it makes whole are taken in order, each before the next one is looked
  -- at, up to the first that is refused. A feed that had failed makes none whole. Any refusal but for want of
  -- memory leaves the feed failed; want of memory changes nothing, and comes of no feed that failed or is done.
  abbrev pub TakesPiece : {A : Type 0} → KeyedRoots → FeedState → List ℕ → Result A PieceRefusal → KeyedRoots → FeedState → Type 0
  TakesPiece chain held piece (Ok _) after held' = Takes hash verified chain (told_from held piece).0 after × (held' ≡ (told_from held piece).1) × (held' ≢ Failed)
  TakesPiece chain held piece (Err Malformed) after held' = Takes hash verified chain (told_from held piece).0 after × ((told_from held piece).1 ≡ Failed) × (held' ≡ Failed)
  TakesPiece chain held piece (Err (Root why)) after held' = StopsAt hash verified chain (told_from held piece).0 why after × (why ≢ list.Memory) × (held' ≡ Failed)
  TakesPiece chain held piece (Err Memory) after held' = (held ≢ Failed) × (held ≢ Done) × (after ≡ chain) × (held' ≡ held)

  -- the same, but where memory runs out some roots may have been taken
  abbrev pub TakesTold : {A : Type 0} → KeyedRoots → FeedState → List ℕ → Result A PieceRefusal → KeyedRoots → FeedState → Type 0
  TakesTold chain held piece (Ok _) after held' = Takes hash verified chain (told_from held piece).0 after × (held' ≡ (told_from held piece).1) × (held' ≢ Failed)
  TakesTold chain held piece (Err Malformed) after held' = Takes hash verified chain (told_from held piece).0 after × ((told_from held piece).1 ≡ Failed) × (held' ≡ Failed)
  TakesTold chain held piece (Err (Root why)) after held' = StopsAt hash verified chain (told_from held piece).0 why after × (why ≢ list.Memory)
  TakesTold chain held piece (Err Memory) after held' = StopsAt hash verified chain (told_from held piece).0 list.Memory after

  -- if evidence is told, it is evidence under the key
  abbrev pub PieceRefusalHolds : List ℕ → PieceRefusal → Type 0
  PieceRefusalHolds key (Root why) = ListRefusalHolds hash verified key why
  PieceRefusalHolds key Malformed = Unit
  PieceRefusalHolds key Memory = Unit

  -- ---- call after call

  -- the pieces as they come, each with its answer; none is refused for want of memory
  abbrev pub TakesPieces : KeyedRoots → FeedState → List (List ℕ) → List (Result Unit PieceRefusal) → KeyedRoots → FeedState → Type 0
  TakesPieces chain held [] [] after held' = (after ≡ chain) × (held' ≡ held)
  TakesPieces chain held [] (answer ∷ answers) after held' = ⊥
  TakesPieces chain held (piece ∷ pieces) [] after held' = ⊥
  TakesPieces chain held (piece ∷ pieces) (answer ∷ answers) after held' = (middle : KeyedRoots) × (between : FeedState)
      × TakesPiece chain held piece answer middle between × (answer ≢ Err Memory) × TakesPieces middle between pieces answers after held'

  -- each root of the list is taken, and the feed is done; or those before the first that is refused, and it
  -- has failed
  abbrev pub TakesUpTo : KeyedRoots → List SignedRoot → KeyedRoots → FeedState → Type 0
  TakesUpTo chain roots after held' = (Takes hash verified chain roots after × (held' ≡ Done))
      ⊎ ((why : ListRefusal) × StopsAt hash verified chain roots why after × (why ≢ list.Memory) × (held' ≡ Failed))

  -- Where the bytes of a list are cut does not matter.
  abbrev pub CuttingDoesNotMatter : Type 0
  CuttingDoesNotMatter = (chain : KeyedRoots) (roots : List SignedRoot) (pieces : List (List ℕ)) (answers : List (Result Unit PieceRefusal)) (after : KeyedRoots) (held' : FeedState)
      → SpellsRoots (joined pieces) roots → TakesPieces chain (Counts []) pieces answers after held' → TakesUpTo chain roots after held'

  -- Nor where any other bytes are cut: pieces come to the refusal, the chain and the feed to which they come as
  -- one piece.
  abbrev pub PiecesComeToOne : Type 0
  PiecesComeToOne = (chain : KeyedRoots) (pieces : List (List ℕ)) (answers : List (Result Unit PieceRefusal)) (after : KeyedRoots) (held' : FeedState)
      → TakesPieces chain (Counts []) pieces answers after held'
      → TakesPiece chain (Counts []) (joined pieces) (first_refusal answers) after held' × (first_refusal answers ≢ Err Memory)

  -- ---- what the bytes come to

  -- Where the feed is done, the pieces are the bytes of a list, and each of its roots was taken.
  abbrev pub DoneIsAList : Type 0
  DoneIsAList = (chain : KeyedRoots) (pieces : List (List ℕ)) (answers : List (Result Unit PieceRefusal)) (after : KeyedRoots)
      → IsBytes (joined pieces) → TakesPieces chain (Counts []) pieces answers after Done
      → (roots : List SignedRoot) × SpellsRoots (joined pieces) roots × Takes hash verified chain roots after

  -- Pieces of which the first refusal is for their bytes begin no list, whatever follows.
  abbrev pub MalformedBeginsNoList : Type 0
  MalformedBeginsNoList = (chain : KeyedRoots) (pieces : List (List ℕ)) (answers : List (Result Unit PieceRefusal)) (after : KeyedRoots) (held' : FeedState)
      → TakesPieces chain (Counts []) pieces answers after held' → first_refusal answers ≡ Err Malformed
      → (more : List ℕ) (roots : List SignedRoot) → ¬ SpellsRoots (joined pieces ++ more) roots

  -- Each root is taken once it is whole, or those before the first that is refused; and no other one.
  abbrev pub TakesWholeRoots : Type 0
  TakesWholeRoots = (chain : KeyedRoots) (count : ℕ) (roots : List SignedRoot) (rest : List ℕ) (pieces : List (List ℕ)) (answers : List (Result Unit PieceRefusal)) (after : KeyedRoots) (held' : FeedState)
      → IsBytes (joined pieces) → HasWholeRoots count roots rest (joined pieces) → TakesPieces chain (Counts []) pieces answers after held'
      → Takes hash verified chain roots after ⊎ ((why : ListRefusal) × StopsAt hash verified chain roots why after × (why ≢ list.Memory) × (held' ≡ Failed))

  -- Bytes behind a list are refused.
  abbrev pub FailsBehindAList : Type 0
  FailsBehindAList = (chain : KeyedRoots) (bytes : List ℕ) (roots : List SignedRoot) (byte : ℕ) (more : List ℕ) (pieces : List (List ℕ)) (answers : List (Result Unit PieceRefusal)) (after : KeyedRoots) (held' : FeedState)
      → SpellsRoots bytes roots → joined pieces ≡ bytes ++ (byte ∷ more) → TakesPieces chain (Counts []) pieces answers after held' → held' ≡ Failed

  -- So is a number of roots that no list has.
  abbrev pub FailsAtTooMany : Type 0
  FailsAtTooMany = (chain : KeyedRoots) (count : ℕ) (more : List ℕ) (pieces : List (List ℕ)) (answers : List (Result Unit PieceRefusal)) (after : KeyedRoots) (held' : FeedState)
      → MAX_ROOTS < count → count < 2 ^ 16 → joined pieces ≡ big_bytes COUNT_LEN count ++ more → TakesPieces chain (Counts []) pieces answers after held'
      → (first_refusal answers ≡ Err Malformed) × (after ≡ chain) × (held' ≡ Failed)

  -- No feed takes bytes without end: pieces of which none is refused have fewer than these.
  abbrev pub TakesFewBytes : Type 0
  TakesFewBytes = (chain : KeyedRoots) (pieces : List (List ℕ)) (answers : List (Result Unit PieceRefusal)) (after : KeyedRoots) (held' : FeedState)
      → IsBytes (joined pieces) → TakesPieces chain (Counts []) pieces answers after held' → first_refusal answers ≡ Ok tt
      → length (joined pieces) < too_many_bytes

-- if evidence is told, its roots have a spelling
abbrev pub PieceRefusalIsSpelled : PieceRefusal → Type 0
PieceRefusalIsSpelled (Root why) = ListRefusalIsSpelled why
PieceRefusalIsSpelled Malformed = Unit
PieceRefusalIsSpelled Memory = Unit
