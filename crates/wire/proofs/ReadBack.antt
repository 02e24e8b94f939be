-- The frame of a well-formed response is a frame, and is read as this response.
use Rattle.std.proofs.Common.{◌≡◌, ℕ, ◌<◌, List, Result, Ok, Err, IsOkAnd, refl, sym, ap, subst, ◌∙◌, arith, lit≤}
use Rattle.proofs.proofs.Sizes.{reply_few}
use Rattle.rootchain.proofs.Sizes.{one_few, root_few, roots_few, signed_promise_few, AreFew}
use Rattle.wire.specs.declared.answer.Answer.{Answer}
use Rattle.wire.specs.declared.answer.Answer.TheVariants as answer
use Rattle.wire.specs.declared.message_refusals.ReadRefusal.{ReadRefusal}
use Rattle.wire.specs.declared.message_refusals.ReadRefusal.TheVariants.{BadKind, BadBody}
use Rattle.wire.specs.declared.response.Response.{Response}
use Rattle.wire.specs.Tables.{MessageParts, Of, Content, spelling, parts_frame, Allowed, IsCounted, MayHave}
use Rattle.wire.specs.Frames.{Frame, IsFrame}
use Rattle.wire.specs.Laws.{IsReadAs}
use Rattle.wire.specs.Responses.{ResponseContent, PromiseKind, ProofKind, RootsKind, RootKind, RefusedKind, ResponseKind, response_parts, response_row, answer_frame, proof_frame, response_frame, response_seen, IsResponse, Means, ReadsResponse, Responds}
use Rattle.wire.proofs.Responses.{is_byte, one_response}
use Rattle.wire.specs.declared.frame.TheConstants.{MAX_FRAME_LEN}

-- ---- frames

within : {body : List ℕ} (most : ℕ) → most < MAX_FRAME_LEN → AreFew most body → AreFew 65535 body
within most fits h = record { few = omega (arith, fits, h.few); small = h.small }

-- the body of a response is not too long for a frame
fits : (kind : ResponseKind) (content : Content (response_row kind).form) → Allowed (response_row kind).form content → AreFew 65535 (spelling (response_row kind).form content)
fits PromiseKind content h = within 2640 (lit≤ tt) (signed_promise_few content h)
fits ProofKind content h = within 10682 (lit≤ tt) (reply_few content h)
fits RootsKind content h = within 25858 (lit≤ tt) (roots_few content h)
fits RootKind content h = within 404 (lit≤ tt) (root_few content h)
fits RefusedKind content h = within 1 (lit≤ tt) (one_few content h)

is_frame : (responded : ResponseContent) → IsResponse responded → IsFrame (response_frame responded)
is_frame responded h = by (response_parts responded) h (is_byte responded)
  where
    by : (parts : MessageParts response_row) → MayHave response_row IsCounted parts → (parts_frame response_row parts).kind < 256 → IsFrame (parts_frame response_row parts)
    by (Of kind content) h byte = let short = fits kind content h in (omega (arith, short.few), byte, short.small)

-- ---- reading

-- what a body spells is read, and nothing else
read_as_it : (kind : ℕ) (body : List ℕ) (responded : ResponseContent) → Responds kind body responded → (result : Result Response ReadRefusal) → ReadsResponse kind body result
    → IsOkAnd result (λ read. response_seen read ≡ responded)
read_as_it kind body responded spelled (Ok read) reads = one_response kind body (response_seen read) responded reads spelled
read_as_it kind body responded spelled (Err BadKind) reads = absurd (reads (responded, spelled.0))
read_as_it kind body responded spelled (Err BadBody) reads = absurd (reads.1 responded spelled)

pub responses_read : (responded : ResponseContent) → IsResponse responded → IsReadAs (response_frame responded) responded
responses_read responded h =
    let spelled : Responds (response_frame responded).kind (response_frame responded).body responded = (refl, (refl, h)) in
    (is_frame responded h, spelled, read_as_it (response_frame responded).kind (response_frame responded).body responded spelled)

-- the frame of an answer is that of the response with its parts
same_frame : (answer : Answer) (responded : ResponseContent) → Means answer responded → answer_frame answer ≡ response_frame responded
same_frame (answer.Promise promise) responded means = ap response_frame (sym means)
same_frame (answer.Proof text) responded (reply, is, means) = ap proof_frame is ∙ ap response_frame (sym means)
same_frame (answer.Roots roots) responded means = ap response_frame (sym means)
same_frame (answer.Root root) responded means = ap response_frame (sym means)
same_frame (answer.Refused code) responded means = ap response_frame (sym means)

pub answers_read : (answer : Answer) (responded : ResponseContent) → Means answer responded → IsResponse responded → IsReadAs (answer_frame answer) responded
answers_read answer responded means h = subst (λ (frame : Frame). IsReadAs frame responded) (sym (same_frame answer responded means)) (responses_read responded h)
