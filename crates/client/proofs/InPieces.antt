-- A list of roots in pieces: the client's chain takes them, and the rest of the client stays.
use Rattle.std.proofs.Common.{◌≡◌, ◌≢◌, ℕ, List, [], ◌∷◌, map, Result, Ok, Err, refl, sym, ap, subst, ◌∙◌}
use Rattle.encoding.specs.Bytes.{joined}
use Rattle.rootchain.specs.Chains.{KeyedRoots}
use Rattle.rootchain.specs.RootFeeds.{FeedState, Counts}
use Rattle.rootchain.specs.TakingPieces.{first_refusal, TakesPiece, TakesPieces}
use Rattle.rootchain.specs.declared.list_refusal.ListRefusal.TheVariants as list
use Rattle.rootchain.specs.declared.piece_refusal.PieceRefusal.{PieceRefusal}
use Rattle.rootchain.specs.declared.piece_refusal.PieceRefusal.TheVariants as piece
use Rattle.rootchain.proofs.TakingPieces.{cuts, to-one}
use Rattle.client.specs.Clients.{Client}
use Rattle.client.specs.UpdatingFrom.{answer_told_as, piece_told_as, with_chain, UpdatesAsItsChain, UpdatesComeToOne, UpdatesFrom, UpdatesInPieces, UpdatesMayBeCut}
use Rattle.client.specs.declared.client_refusal.Refusal.{Refusal}
use Rattle.client.specs.declared.client_refusal.Refusal.TheVariants.{Memory}

abbrev refused : Refusal → Result Unit Refusal
refused why = Err why

abbrev piece_refused : PieceRefusal → Result Unit PieceRefusal
piece_refused why = Err why

module _ (hash : List ℕ → List ℕ) (verified : List ℕ → List ℕ → List ℕ → Type 0) where
  some-room : (why : Refusal) (reason : PieceRefusal) → why ≡ piece_told_as reason → refused why ≢ refused Memory → piece_refused reason ≢ piece_refused piece.Memory
  some-room why reason told other e = other (ap refused (told ∙ ap piece_told_as (same e)))
    where
      same : piece_refused reason ≡ piece_refused piece.Memory → reason ≡ piece.Memory
      same e = cc

  pub chain-takes : (pieces : List (List ℕ)) (answers : List (Result Unit Refusal)) (before : Client) (held : FeedState) (after : Client) (held' : FeedState)
      → UpdatesInPieces hash verified before held pieces answers after held'
      → (own : List (Result Unit PieceRefusal)) × (first_refusal answers ≡ answer_told_as (first_refusal own)) × TakesPieces hash verified before.chain held pieces own after.chain held'
      × (after ≡ with_chain before after.chain) × (answers ≡ map answer_told_as own)
  chain-takes [] [] before held after held' calls = ([], refl, (ap (λ (c : Client). c.chain) calls.0, calls.1), calls.0 ∙ ap (with_chain before) (sym (ap (λ (c : Client). c.chain) calls.0)), refl)
  chain-takes [] (answer ∷ answers) before held after held' calls = absurd calls
  chain-takes (piece ∷ pieces) [] before held after held' calls = absurd calls
  chain-takes (piece ∷ pieces) (Ok done ∷ answers) before held after held' (middle, between, one, some, later) =
      let more = chain-takes pieces answers middle between after held' later in
      let chain : one.0 ≡ middle.chain = sym (ap (λ (c : Client). c.chain) one.2) in (
        Ok done ∷ more.0,
        more.1,
        (middle.chain, between, subst (λ (c : KeyedRoots). TakesPiece hash verified {A = Unit} before.chain held piece (Ok done) c between) chain one.1, (λ e. cc), more.2),
        more.3 ∙ ap (λ (c : Client). with_chain c after.chain) one.2,
        ap (λ (all : List (Result Unit Refusal)). Ok done ∷ all) more.4,
      )
  chain-takes (piece ∷ pieces) (Err why ∷ answers) before held after held' (middle, between, one, some, later) =
      let more = chain-takes pieces answers middle between after held' later in
      let chain : one.0 ≡ middle.chain = sym (ap (λ (c : Client). c.chain) one.3) in (
        Err one.1 ∷ more.0,
        ap refused one.4,
        (
          middle.chain,
          between,
          subst (λ (c : KeyedRoots). TakesPiece hash verified {A = Unit} before.chain held piece (Err one.1) c between) chain one.2,
          some-room why one.1 one.4 some,
          more.2,
        ),
        more.3 ∙ ap (λ (c : Client). with_chain c after.chain) one.3,
        ap (λ (w : Refusal). refused w ∷ answers) one.4 ∙ ap (λ (all : List (Result Unit Refusal)). refused (piece_told_as one.1) ∷ all) more.4,
      )

  pub cuts-of : UpdatesMayBeCut hash verified
  cuts-of before roots pieces answers after held' spelled calls =
      let t = chain-takes pieces answers before _ after held' calls in
      (cuts hash verified before.chain roots pieces t.0 after.chain held' spelled t.2, t.3)

  pub as-chain : UpdatesAsItsChain hash verified
  as-chain before held pieces answers after held' calls =
      let t = chain-takes pieces answers before held after held' calls in
      (t.0, t.4, t.2, t.3)

  -- ---- what comes of one piece

  one-update : (before : Client) (held : FeedState) (piece : List ℕ) (own : Result Unit PieceRefusal) (after : Client) (held' : FeedState)
      → TakesPiece hash verified before.chain held piece own after.chain held' → after ≡ with_chain before after.chain → UpdatesFrom hash verified before held piece (answer_told_as own) after held'
  one-update before held piece (Ok done) after held' takes same = (after.chain, takes, same)
  one-update before held piece (Err why) after held' takes same = (after.chain, why, takes, same, refl)

  has-room : (chain : KeyedRoots) (held : FeedState) (bytes : List ℕ) (own : Result Unit PieceRefusal) (after : KeyedRoots) (held' : FeedState)
      → TakesPiece hash verified chain held bytes own after held' → own ≢ Err piece.Memory → answer_told_as own ≢ Err Memory
  has-room chain held bytes (Ok done) after held' takes some e = cc
  has-room chain held bytes (Err piece.Malformed) after held' takes some e = cc
  has-room chain held bytes (Err (piece.Root list.BadSignature)) after held' takes some e = cc
  has-room chain held bytes (Err (piece.Root list.BeforeStart)) after held' takes some e = cc
  has-room chain held bytes (Err (piece.Root list.Ahead)) after held' takes some e = cc
  has-room chain held bytes (Err (piece.Root (list.Evidence evidence))) after held' takes some e = cc
  has-room chain held bytes (Err (piece.Root list.Memory)) after held' takes some e = takes.1 refl
  has-room chain held bytes (Err piece.Memory) after held' takes some e = some refl

  pub to-one-update : UpdatesComeToOne hash verified
  to-one-update before pieces answers after held' calls =
      let t = chain-takes pieces answers before _ after held' calls in
      let one = to-one hash verified before.chain pieces t.0 after.chain held' t.2 in (
        subst (λ (answer : Result Unit Refusal). UpdatesFrom hash verified before (Counts []) (joined pieces) answer after held') (sym t.1)
            (one-update before (Counts []) (joined pieces) (first_refusal t.0) after held' one.0 t.3),
        λ e. has-room before.chain (Counts []) (joined pieces) (first_refusal t.0) after.chain held' one.0 one.1 (sym t.1 ∙ e),
      )
