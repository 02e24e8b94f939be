-- The table of responses: a body that spells nothing of the form of its kind is no response.
use Rattle.std.proofs.Common.{◌≡◌, ◌≢◌, ℕ, ◌<◌, List, [], ◌∷◌, ◌++◌, Err, Some, refl, sym, ap, ◌∙◌}
use Rattle.std.proofs.lemmas.List.{append-nil}
use Rattle.encoding.specs.Fields.{Spells}
use Rattle.encoding.proofs.Fields.{one_spelling}
use Rattle.proofs.specs.declared.reply_refusal.Refusal.{Refusal as ReplyRefusal}
use Rattle.proofs.specs.declared.reply_refusal.Refusal.TheVariants.{Malformed, Trailing, OtherRoot, BadVuf, SameIndex, OtherPrefix, PathMismatch}
use Rattle.proofs.specs.Reading.{read_reply}
use Rattle.proofs.specs.Refusals.{ReadsReply}
use Rattle.proofs.specs.Replies.{Reply, reply_bytes, IsReply}
use Rattle.proofs.proofs.Replies.{reply_field}
use Rattle.wire.specs.declared.response.TheConstants.{PROOF, REFUSED}
use Rattle.wire.specs.Tables.{Content, Of, spelling, kind_among, parts_message, Allowed}
use Rattle.wire.specs.Laws.{ResponsesAreOne, ResponsesHaveKinds}
use Rattle.wire.specs.Responses.{ResponseContent, Promise, Proof, Roots, Root, Refused, ResponseKind, response_kind, PromiseKind, ProofKind, RootsKind, RootKind, RefusedKind, response_kinds, response_parts, response_row, Responds, IsResponseKind}
use Rattle.wire.proofs.Tables as tables
use Rattle.wire.proofs.Tables.{IsTable}

is_kind : (kind : ResponseKind) → (kind_among response_row response_kinds (response_row kind).byte ≡ Some kind)
    × ((content : Content (response_row kind).form) → response_parts ((response_row kind).message content) ≡ Of kind content)
is_kind PromiseKind = (refl, λ _. refl)
is_kind ProofKind = (refl, λ _. refl)
is_kind RootsKind = (refl, λ _. refl)
is_kind RootKind = (refl, λ _. refl)
is_kind RefusedKind = (refl, λ _. refl)

made : (responded : ResponseContent) → parts_message response_row (response_parts responded) ≡ responded
made (Promise promise) = refl
made (Proof proof) = refl
made (Roots roots) = refl
made (Root root) = refl
made (Refused code) = refl

table : IsTable response_row response_kinds response_parts
table = record { found = λ kind. (is_kind kind).0; taken = λ kind. (is_kind kind).1; made = made }

pub have_kinds : ResponsesHaveKinds
have_kinds = (refl, tables.of_kind response_row response_kinds response_parts table)

pub one_response : ResponsesAreOne
one_response = tables.one_message response_row response_kinds response_parts table

pub is_byte : (responded : ResponseContent) → response_kind responded < 256
is_byte = tables.is_byte response_row response_kinds response_parts table refl

-- of the kind there are responses, and the body spells none
abbrev pub IsNone : ℕ → List ℕ → Type 0
IsNone kind body = IsResponseKind kind × ((responded : ResponseContent) → ¬ Responds kind body responded)

pub no_response : (is : ResponseKind) (body : List ℕ) → ((content : Content (response_row is).form) → ¬ Spells (spelling (response_row is).form) (Allowed (response_row is).form) body content) → IsNone (response_row is).byte body
no_response is body = tables.no_message response_row response_kinds response_parts table is (response_row is).byte body refl

-- a proof that is refused is none, also where a proof stands in front
not_spelled : (body : List ℕ) (refusal : ReplyRefusal) → ReadsReply body (Err refusal) → (x : Reply) → ¬ Spells reply_bytes IsReply body x
not_spelled body Malformed refused x spelled = refused.0 x spelled
not_spelled body Trailing (reply, front, rest, parts, some, is) x spelled =
    let same : reply_bytes reply ++ rest ≡ reply_bytes x ++ [] = ap (λ (w : List ℕ). w ++ rest) (sym is.0) ∙ sym parts ∙ spelled.0 ∙ sym (append-nil (reply_bytes x)) in
    some (one_spelling read_reply reply_bytes IsReply reply_field reply x rest [] is.1 spelled.1 same).1
not_spelled body OtherRoot refused x spelled = absurd refused
not_spelled body BadVuf refused x spelled = absurd refused
not_spelled body SameIndex refused x spelled = absurd refused
not_spelled body OtherPrefix refused x spelled = absurd refused
not_spelled body PathMismatch refused x spelled = absurd refused

pub no_proof : (body : List ℕ) (refusal : ReplyRefusal) → ReadsReply body (Err refusal) → IsNone PROOF body
no_proof body refusal refused = no_response ProofKind body (not_spelled body refusal refused)

pub no_code : (body : List ℕ) → ((code : ℕ) → body ≢ code ∷ []) → IsNone REFUSED body
no_code body none = no_response RefusedKind body (λ code spelled. none code spelled.0)
