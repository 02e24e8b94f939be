-- A reply has at most 25,863 bytes.
use Rattle.std.proofs.Common.{ℕ, ◌≤◌, List, [], ◌∷◌, length, sym, ap, subst, arith, inl, inr}
use Rattle.std.specs.List.{AllByRecursion}
use Rattle.proofs.proofs.Sizes.{reply_few}
use Rattle.rootchain.proofs.Sizes.{one_few, root_few, roots_few, signed_promise_few}
use Rattle.book.specs.declared.reply.Reply.{Reply}
use Rattle.commands.specs.Operations.{Operation}
use Rattle.wire.specs.declared.answer.TheConstants.{MAX_ANSWER_LEN}
use Rattle.wire.specs.Frames.{Frame, frame_bytes}
use Rattle.wire.specs.Laws.{IsReadAs}
use Rattle.wire.specs.Responses.{ResponseContent, PromiseKind, ProofKind, RootsKind, RootKind, RefusedKind, ResponseKind, response_body, response_parts, response_row, IsResponse}
use Rattle.wire.specs.Tables.{MessageParts, Of, Content, parts_frame, spelling, Allowed, IsCounted, MayHave}
use Rattle.wire.proofs.Frames.{length-frame_bytes}
use Rattle.hub.specs.DeskRuns.{AreResponses, ShowReplies}
use Rattle.hub.specs.Runs.{Line}

body_short : (kind : ResponseKind) (content : Content (response_row kind).form) → Allowed (response_row kind).form content → length (spelling (response_row kind).form content) ≤ 25858
body_short PromiseKind content h = omega (arith, (signed_promise_few content h).few)
body_short ProofKind content h = omega (arith, (reply_few content h).few)
body_short RootsKind content h = omega (arith, (roots_few content h).few)
body_short RootKind content h = omega (arith, (root_few content h).few)
body_short RefusedKind content h = omega (arith, (one_few content h).few)

response_short : (responded : ResponseContent) → IsResponse responded → length (response_body responded) ≤ 25858
response_short responded h = by (response_parts responded) h
  where
    by : (parts : MessageParts response_row) → MayHave response_row IsCounted parts → length (parts_frame response_row parts).body ≤ 25858
    by (Of kind content) h = body_short kind content h

frame_short : (frame : Frame) (responded : ResponseContent) → IsReadAs frame responded → length (frame_bytes frame) ≤ MAX_ANSWER_LEN
frame_short frame responded (is_frame, (same_kind, (spelled, allowed)), read) =
    omega (arith, length-frame_bytes frame, ap length spelled, response_short responded allowed)

-- the reply of each line has at most so many bytes
abbrev pub AreShort : List Line → Type 0
AreShort = AllByRecursion (λ line. length line.reply ≤ MAX_ANSWER_LEN)

pub lines_short : (token : List ℕ) (lines : List Line) (commands : List Operation) (replies : List Reply) (shown : ShowReplies token lines commands replies) → AreResponses token lines commands replies shown → AreShort lines
lines_short token [] commands replies shown read = tt
lines_short token (line ∷ more) commands replies (inl (code, away, says, shown)) (one, read) =
    (subst (λ (bytes : List ℕ). length bytes ≤ MAX_ANSWER_LEN) (sym says) (frame_short _ _ one), lines_short token more commands replies shown read)
lines_short token (line ∷ more) commands replies (inr (asked, told, later, others, reaches, says, is, are, shown)) ((responded, means, one), read) =
    (subst (λ (bytes : List ℕ). length bytes ≤ MAX_ANSWER_LEN) (sym says) (frame_short _ _ one), lines_short token more later others shown read)
