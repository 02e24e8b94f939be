-- A list of roots in bytes: the client's chain takes it, and the rest of the client stays.
use Rattle.std.proofs.Common.{◌≡◌, ℕ, List, Err, refl, ap, ◌∙◌, inl, inr}
use Rattle.rootchain.specs.Chains.{KeyedRoots}
use Rattle.rootchain.specs.TakingBytes.{TakesBytes}
use Rattle.rootchain.specs.TakingPieces.{of_piece}
use Rattle.rootchain.specs.declared.list_refusal.ListRefusal.{ListRefusal}
use Rattle.rootchain.specs.declared.list_refusal.ListRefusal.TheVariants as list
use Rattle.rootchain.specs.declared.piece_refusal.PieceRefusal.{PieceRefusal}
use Rattle.client.specs.Clients.{Client}
use Rattle.client.specs.Updating.{told_as, Updates}
use Rattle.client.specs.UpdatingFrom.{piece_told_as, with_chain}
use Rattle.client.specs.declared.client_refusal.Refusal.{Refusal}

told-piece : (reason : ListRefusal) → piece_told_as (of_piece reason) ≡ told_as reason
told-piece list.Memory = refl
told-piece list.BadSignature = refl
told-piece list.BeforeStart = refl
told-piece list.Ahead = refl
told-piece (list.Evidence evidence) = refl

pub bytes-refused : (hash : List ℕ → List ℕ) (verified : List ℕ → List ℕ → List ℕ → Type 0) (before : Client) (bytes : List ℕ) (why : PieceRefusal) (after : KeyedRoots) (told : Refusal)
    → TakesBytes hash verified {A = Unit} before.chain bytes (Err why) after → told ≡ piece_told_as why → Updates hash verified before bytes {A = Unit} (Err told) (with_chain before after)
bytes-refused hash verified before bytes why after told takes is = (
  ap (with_chain before) takes.0,
  elim takes.1 [
    | inl none ↦ inl (none.0, is ∙ ap piece_told_as none.1)
    | inr stop ↦ inr (stop.0, stop.1, stop.2, stop.3, is ∙ ap piece_told_as stop.4 ∙ told-piece stop.1)
  ],
)
