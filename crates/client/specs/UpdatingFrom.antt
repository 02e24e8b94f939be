-- What comes of a list of roots in pieces: each root is taken once it is whole (after CONIKS, section 4).
use Rattle.std.specs.Prelude.{◌≡◌, ◌≢◌, ℕ, List, [], ◌∷◌, map, Result, Ok, Err}
use Rattle.encoding.specs.Bytes.{joined}
use Rattle.rootchain.specs.Chains.{KeyedRoots}
use Rattle.rootchain.specs.RootFeeds.{FeedState, Counts}
use Rattle.rootchain.specs.RootLists.{SpellsRoots}
use Rattle.rootchain.specs.TakingPieces.{first_refusal, TakesPiece, TakesPieces, TakesUpTo}
use Rattle.rootchain.specs.declared.signed_root.SignedRoot.{SignedRoot}
use Rattle.rootchain.specs.declared.piece_refusal.PieceRefusal.{PieceRefusal}
use Rattle.rootchain.specs.declared.piece_refusal.PieceRefusal.TheVariants as piece
use Rattle.client.specs.Clients.{Client}
use Rattle.client.specs.Updating.{told_as}
use Rattle.client.specs.declared.client_refusal.Refusal.{Refusal}
use Rattle.client.specs.declared.client_refusal.RootRefusal.TheVariants as root
use Rattle.client.specs.declared.client_refusal.Refusal.TheVariants.{Root, Memory}

-- the client's refusal for its chain's refusal of a piece
abbrev pub piece_told_as : PieceRefusal → Refusal
piece_told_as piece.Malformed = Root root.Malformed
piece_told_as (piece.Root why) = told_as why
piece_told_as piece.Memory = Memory

-- and its answer
abbrev pub answer_told_as : Result Unit PieceRefusal → Result Unit Refusal
answer_told_as (Ok done) = Ok done
answer_told_as (Err why) = Err (piece_told_as why)

abbrev pub with_chain : Client → KeyedRoots → Client
with_chain client chain = record client { chain = chain }

module _ (hash : List ℕ → List ℕ) (verified : List ℕ → List ℕ → List ℕ → Type 0) where
  -- the answer to a piece, and the client and the feed after it: its chain takes the piece
  abbrev pub UpdatesFrom : {A : Type 0} → Client → FeedState → List ℕ → Result A Refusal → Client → FeedState → Type 0
  UpdatesFrom {A} before held bytes (Ok done) after held' = (chain : KeyedRoots) × TakesPiece hash verified {A = A} before.chain held bytes (Ok done) chain held' × (after ≡ with_chain before chain)
  UpdatesFrom {A} before held bytes (Err why) after held' = (chain : KeyedRoots) × (reason : PieceRefusal) × TakesPiece hash verified {A = A} before.chain held bytes (Err reason) chain held'
      × (after ≡ with_chain before chain) × (why ≡ piece_told_as reason)

  -- the pieces as they come, each with its answer; none is refused for want of memory
  abbrev pub UpdatesInPieces : Client → FeedState → List (List ℕ) → List (Result Unit Refusal) → Client → FeedState → Type 0
  UpdatesInPieces before held [] [] after held' = (after ≡ before) × (held' ≡ held)
  UpdatesInPieces before held [] (answer ∷ answers) after held' = ⊥
  UpdatesInPieces before held (piece ∷ pieces) [] after held' = ⊥
  UpdatesInPieces before held (piece ∷ pieces) (answer ∷ answers) after held' = (middle : Client) × (between : FeedState)
      × UpdatesFrom before held piece answer middle between × (answer ≢ Err Memory) × UpdatesInPieces middle between pieces answers after held'

  -- Where the bytes of a list are cut does not matter: the chain takes each root up to the first that is refused.
  abbrev pub UpdatesMayBeCut : Type 0
  UpdatesMayBeCut = (before : Client) (roots : List SignedRoot) (pieces : List (List ℕ)) (answers : List (Result Unit Refusal)) (after : Client) (held' : FeedState)
      → SpellsRoots (joined pieces) roots → UpdatesInPieces before (Counts []) pieces answers after held'
      → TakesUpTo hash verified before.chain roots after.chain held' × (after ≡ with_chain before after.chain)

  -- Nor where any other bytes are cut: pieces come to the refusal, the client and the feed to which they come as
  -- one piece.
  abbrev pub UpdatesComeToOne : Type 0
  UpdatesComeToOne = (before : Client) (pieces : List (List ℕ)) (answers : List (Result Unit Refusal)) (after : Client) (held' : FeedState)
      → UpdatesInPieces before (Counts []) pieces answers after held'
      → UpdatesFrom before (Counts []) (joined pieces) (first_refusal answers) after held' × (first_refusal answers ≢ Err Memory)

  -- Pieces come to what they come to for the client's chain, with the client's numbers for its refusals, so that
  -- each law on these holds.
  abbrev pub UpdatesAsItsChain : Type 0
  UpdatesAsItsChain = (before : Client) (held : FeedState) (pieces : List (List ℕ)) (answers : List (Result Unit Refusal)) (after : Client) (held' : FeedState)
      → UpdatesInPieces before held pieces answers after held'
      → (own : List (Result Unit PieceRefusal)) × (answers ≡ map answer_told_as own) × TakesPieces hash verified before.chain held pieces own after.chain held' × (after ≡ with_chain before after.chain)
