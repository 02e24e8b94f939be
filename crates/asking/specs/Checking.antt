-- What the client makes of the reply to what was asked, and the lines that tell it.
use Rattle.std.specs.Prelude.{◌≡◌, ◌≢◌, ◌⊎◌, nat_lt, if◌then◌else◌, ℕ, List, [], ◌∷◌, Option, None, Some, Result, Ok, Err, codes, ⊤}
use Rattle.commands.specs.Operations.{Lookup, History}
use Rattle.rootchain.specs.Chains.{KeyedRoots, Verifies}
use Rattle.rootchain.specs.Places.{IsPlace}
use Rattle.rootchain.specs.declared.chain.placing.Place.{Place}
use Rattle.rootchain.specs.declared.chain.placing.Place.TheVariants.{Known, Evidence, Next, Ahead, BeforeStart}
use Rattle.rootchain.specs.declared.root_refusal.Refusal.{Refusal as RootRefusal}
use Rattle.rootchain.specs.declared.root_refusal.Refusal.TheVariants as root
use Rattle.rootchain.specs.declared.signed_root.SignedRoot.{SignedRoot}
use Rattle.proofs.specs.Views.{key_stated}
use Rattle.proofs.specs.declared.statement.Statement.{Statement}
use Rattle.wire.specs.Frames.{Frame}
use Rattle.wire.specs.Refusals.{read_refusal_number}
use Rattle.wire.specs.Requests.{RequestContent, Query}
use Rattle.wire.specs.Responses.{ResponseContent, Proof, Roots, Root, Refused, Responds, ReadsResponse}
use Rattle.wire.specs.Responses as response
use Rattle.wire.specs.declared.message_refusals.ReadRefusal.{ReadRefusal}
use Rattle.client.specs.Clients.{Client}
use Rattle.client.specs.Looking.{Looks}
use Rattle.client.specs.Promising.{KeepsPromise}
use Rattle.client.specs.Refusals.{of_root}
use Rattle.client.specs.declared.client_refusal.Refusal.{Refusal}
use Rattle.client.specs.declared.client_refusal.Refusal.TheVariants.{Memory, RootDiffers}
use Rattle.play.specs.Hearing.{response_text}
use Rattle.play.specs.Lines.{statement_text}
use Rattle.asking.specs.Answering.{IsAnswerAt}
use Rattle.asking.specs.Refused.{client_refuses, other_reply, refuses_text}
use Rattle.asking.specs.Reports.{Report, fine, refused}
use Rattle.asking.specs.Wanted.{AreWanted}
use Rattle.asking.specs.declared.wanted.Wanted.{Wanted}

-- an answer that is told: that memory ran out is none
abbrev pub IsTellable : {A : Type 0} → Result A Refusal → Type 0
IsTellable (Ok _) = ⊤
IsTellable (Err why) = why ≢ Memory

-- what is told of a look at a reply that is of an epoch
abbrev pub look_told : ℕ → Result Statement Refusal → Report
look_told epoch (Ok statement) = fine (statement_text epoch (key_stated statement))
look_told epoch (Err why) = client_refuses (codes "client refuses proof") why

-- what is told of a response that the client accepts or refuses
abbrev pub promise_told : {A : Type 0} → ResponseContent → Result A Refusal → Report
promise_told responded (Ok _) = fine (response_text responded)
promise_told responded (Err why) = client_refuses (codes "client refuses promise") why

-- what is told of a latest root that the chain has: it is not older than the head that was held when it was asked for
abbrev pub known_told : ℕ → SignedRoot → Report
known_told held told = if nat_lt told.body.epoch held then client_refuses (codes "client refuses root") (of_root root.NotLater) else fine (response_text (Root told))

-- what is told of the latest root, by where it stands: the chain has to have it
abbrev pub place_told : ℕ → SignedRoot → Result Place RootRefusal → Report
place_told held told (Ok Known) = known_told held told
place_told held told (Ok Next) = client_refuses (codes "client refuses root") (of_root root.BadLink)
place_told held told (Ok Ahead) = client_refuses (codes "client refuses root") (of_root root.BadLink)
place_told held told (Ok BeforeStart) = client_refuses (codes "client refuses root") (of_root root.NotLater)
place_told held told (Ok (Evidence roots)) = client_refuses (codes "client refuses root") (RootDiffers roots)
place_told held told (Err why) = client_refuses (codes "client refuses root") (of_root why)

-- why a root is refused that comes with others: it does not verify, or is evidence
abbrev pub refusal_at : Result Place RootRefusal → Option Refusal
refusal_at (Ok (Evidence roots)) = Some (RootDiffers roots)
refusal_at (Ok Known) = None
refusal_at (Ok Next) = None
refusal_at (Ok Ahead) = None
refusal_at (Ok BeforeStart) = None
refusal_at (Err why) = Some (of_root why)

-- behind a root that is not refused the others follow; one that is refused is told
abbrev pub FollowsUnlessRefused : Type 0 → Option Refusal → Report → Type 0
FollowsUnlessRefused later None told = later
FollowsUnlessRefused later (Some why) told = told ≡ client_refuses (codes "client refuses root") why

module _ (hash : List ℕ → List ℕ) (verified : List ℕ → List ℕ → List ℕ → Type 0) where
  -- where a root stands to a chain, if it verifies
  abbrev pub Places : KeyedRoots → SignedRoot → Result Place RootRefusal → Type 0
  Places chain told (Ok place) = Verifies verified chain.key told × IsPlace hash chain told place
  Places chain told (Err why) = (¬ Verifies verified chain.key told) × (why ≡ root.BadSignature)

  module _ (chain : KeyedRoots) (wanted : Wanted) (all : List SignedRoot) where
    -- what is told of roots of which none is refused: they are what was asked for, or a reply to something else
    abbrev pub IsComparedAs : Report → Type 0
    IsComparedAs told = (AreWanted hash chain wanted all × (told ≡ fine (response_text (Roots all)))) ⊎ ((¬ AreWanted hash chain wanted all) × (told ≡ other_reply))

    -- what is told of roots of which these are left: the first that is refused, or all of them
    abbrev pub AreTold : List SignedRoot → Report → Type 0
    AreTold [] told = IsComparedAs told
    AreTold (first ∷ more) told = (place : Result Place RootRefusal) × Places chain first place × FollowsUnlessRefused (AreTold more told) (refusal_at place) told

module _ (hash : List ℕ → List ℕ) (accepted verified : List ℕ → List ℕ → List ℕ → Type 0) where
  module _ (held : ℕ) (before : Client) (body : List ℕ) where
    -- a reply to a look-up, a promise, the latest root, or roots, and the client after it: it looks under the root of
    -- the reply's own epoch, or keeps the promise
    abbrev pub IsCheckedAs : RequestContent → ResponseContent → Report → Client → Type 0
    IsCheckedAs (Query (Lookup name epoch)) (Proof reply) told after =
        (answer : Result Statement Refusal) × (Looks hash accepted before name reply.body.epoch body answer after × IsTellable answer) × (told ≡ look_told reply.body.epoch answer)
    IsCheckedAs asked (response.Promise signed) told after =
        (answer : Result (Unit {0}) Refusal) × (KeepsPromise hash verified before body answer after × IsTellable answer) × (told ≡ promise_told (response.Promise signed) answer)
    IsCheckedAs asked (Root latest) told after = (after ≡ before)
        × ((place : Result Place RootRefusal) × Places hash verified before.chain latest place × (told ≡ place_told held latest place))
    IsCheckedAs (Query (History from count)) (Roots roots) told after = (after ≡ before)
        × AreTold hash verified before.chain (record { held = held; from = from; count = count }) roots roots told
    IsCheckedAs _ _ told after = ⊥

    -- a response to what was asked: a refusal of the directory is told, any other is checked if it answers
    abbrev pub HearsResponse : RequestContent → ResponseContent → Report → Client → Type 0
    HearsResponse asked (Refused code) told after = (told ≡ refused (response_text (Refused code))) × (after ≡ before)
    HearsResponse asked responded told after =
        ((¬ IsAnswerAt held asked responded) × (told ≡ other_reply) × (after ≡ before))
        ⊎ (IsAnswerAt held asked responded × IsCheckedAs asked responded told after)

  -- A frame that comes back, whatever it has: a response, or none. The chain had a head of this epoch when the line
  -- was asked.
  abbrev pub HearsFrame : ℕ → Client → RequestContent → Frame → Report → Client → Type 0
  HearsFrame held before asked frame told after =
      ((responded : ResponseContent) × Responds frame.kind frame.body responded × HearsResponse held before frame.body asked responded told after)
      ⊎ ((why : ReadRefusal) × ReadsResponse frame.kind frame.body (Err why) × (told ≡ refused (refuses_text (codes "client refuses reply") (read_refusal_number why))) × (after ≡ before))
