-- What a directory responds, and how it is spelled in a frame (the bytes are this directory's own).
use Rattle.std.specs.Prelude.{◌≡◌, ℕ, ◌≤◌, List, [], ◌∷◌, length, Result, Ok, Err, ⊤}
use Rattle.encoding.specs.Fields.{Spells}
use Rattle.proofs.specs.Replies.{Reply, reply_bytes}
use Rattle.rootchain.specs.declared.signed_promise.SignedPromise.{SignedPromise}
use Rattle.rootchain.specs.declared.signed_root.SignedRoot.{SignedRoot}
use Rattle.rootchain.specs.declared.root_list.TheConstants.{MAX_ROOTS}
use Rattle.wire.specs.Tables as form
use Rattle.wire.specs.Tables.{KindRow, MessageParts, Of, parts_frame, IsCounted, MayHave}
use Rattle.wire.specs.Frames.{Frame}
use Rattle.wire.specs.declared.answer.Answer.{Answer}
use Rattle.wire.specs.declared.answer.Answer.TheVariants as answer
use Rattle.wire.specs.declared.response.TheConstants.{PROMISED, PROOF, ROOTS, ROOT, REFUSED}
use Rattle.wire.specs.declared.message_refusals.ReadRefusal.{ReadRefusal}
use Rattle.wire.specs.declared.message_refusals.ReadRefusal.TheVariants.{BadKind, BadBody}
use Rattle.wire.specs.declared.response.Response.{Response}
use Rattle.wire.specs.declared.response.Response.TheVariants as response

-- a response, regardless of where its bytes lie
pub data ResponseContent : Type 0 where
  Promise : SignedPromise → ResponseContent
  Proof : Reply → ResponseContent
  Roots : List SignedRoot → ResponseContent
  Root : SignedRoot → ResponseContent
  Refused : ℕ → ResponseContent

abbrev pub response_seen : Response → ResponseContent
response_seen (response.Promise promise) = Promise promise
response_seen (response.Proof proof) = Proof proof
response_seen (response.Roots roots) = Roots roots
response_seen (response.Root root) = Root root
response_seen (response.Refused code) = Refused code

pub data ResponseKind : Type 0 where
  PromiseKind : ResponseKind
  ProofKind : ResponseKind
  RootsKind : ResponseKind
  RootKind : ResponseKind
  RefusedKind : ResponseKind

-- the kinds of responses: the byte of each, the form of its bodies, and the response with what a body holds
abbrev pub response_row : ResponseKind → KindRow ResponseContent
response_row PromiseKind = record { byte = PROMISED; form = form.Promise; message = Promise }
response_row ProofKind = record { byte = PROOF; form = form.Reply; message = Proof }
response_row RootsKind = record { byte = ROOTS; form = form.Roots; message = Roots }
response_row RootKind = record { byte = ROOT; form = form.Root; message = Root }
response_row RefusedKind = record { byte = REFUSED; form = form.Byte; message = Refused }

abbrev pub response_kinds : List ResponseKind
response_kinds = PromiseKind ∷ ProofKind ∷ RootsKind ∷ RootKind ∷ RefusedKind ∷ []

-- the kind of a response, with what its body holds
abbrev pub response_parts : ResponseContent → MessageParts response_row
response_parts (Promise promise) = Of PromiseKind promise
response_parts (Proof proof) = Of ProofKind proof
response_parts (Roots roots) = Of RootsKind roots
response_parts (Root root) = Of RootKind root
response_parts (Refused code) = Of RefusedKind code

-- a response as a frame
abbrev pub response_frame : ResponseContent → Frame
response_frame responded = parts_frame response_row (response_parts responded)

-- the frame of a reply to a look-up, by its bytes
abbrev pub proof_frame : List ℕ → Frame
proof_frame text = record { kind = PROOF; body = text }

abbrev pub response_kind : ResponseContent → ℕ
response_kind responded = (response_frame responded).kind

abbrev pub response_body : ResponseContent → List ℕ
response_body responded = (response_frame responded).body

-- what a response may hold
abbrev pub IsResponse : ResponseContent → Type 0
IsResponse responded = MayHave response_row IsCounted (response_parts responded)

-- the body spells this response, which is of the kind
abbrev pub Responds : ℕ → List ℕ → ResponseContent → Type 0
Responds kind body responded = (response_kind responded ≡ kind) × Spells response_body IsResponse body responded

-- some response is of the kind
abbrev pub IsResponseKind : ℕ → Type 0
IsResponseKind kind = (responded : ResponseContent) × (response_kind responded ≡ kind)

-- What reading answers: the response that the body spells; BadKind where no response is of the kind,
-- and BadBody where some is, but the body spells none of them.
abbrev pub ReadsResponse : ℕ → List ℕ → Result Response ReadRefusal → Type 0
ReadsResponse kind body (Ok read) = Responds kind body (response_seen read)
ReadsResponse kind body (Err BadKind) = ¬ IsResponseKind kind
ReadsResponse kind body (Err BadBody) = IsResponseKind kind × ((responded : ResponseContent) → ¬ Responds kind body responded)

-- ---- writing

-- the frame of an answer, whose proof is any text
abbrev pub answer_frame : Answer → Frame
answer_frame (answer.Promise promise) = response_frame (Promise promise.now)
answer_frame (answer.Proof text) = proof_frame text.now
answer_frame (answer.Roots roots) = response_frame (Roots roots.now)
answer_frame (answer.Root root) = response_frame (Root root.now)
answer_frame (answer.Refused code) = response_frame (Refused code)

-- the response that has an answer's parts; the text of a proof is that of a reply
abbrev pub Means : Answer → ResponseContent → Type 0
Means (answer.Promise promise) responded = responded ≡ Promise promise.now
Means (answer.Proof text) responded = (reply : Reply) × (text.now ≡ reply_bytes reply) × (responded ≡ Proof reply)
Means (answer.Roots roots) responded = responded ≡ Roots roots.now
Means (answer.Root root) responded = responded ≡ Root root.now
Means (answer.Refused code) responded = responded ≡ Refused code

-- a list of roots has at most 64
abbrev pub HasFewRoots : Answer → Type 0
HasFewRoots (answer.Promise promise) = ⊤
HasFewRoots (answer.Proof text) = ⊤
HasFewRoots (answer.Roots roots) = length roots.now ≤ MAX_ROOTS
HasFewRoots (answer.Root root) = ⊤
HasFewRoots (answer.Refused code) = ⊤
