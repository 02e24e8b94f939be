-- What is asked of a directory, and how it is spelled in a frame (the bytes are this directory's own).
use Rattle.std.specs.Prelude.{◌≡◌, ℕ, List, [], ◌∷◌, map, Option, None, Some, Result, Ok, Err}
use Rattle.encoding.specs.Fields.{Spells}
use Rattle.commands.specs.declared.edit.Verb.{Verb}
use Rattle.commands.specs.declared.edit.Verb.TheVariants.{Register, Change}
use Rattle.commands.specs.Operations.{AskedKey, Question, Promise, Lookup, History, Head, question}
use Rattle.wire.specs.Tables.{KindRow, MessageParts, Of, Nothing, Byte, Number, Bytes, Text, Both, kind_among, parts_frame, read_by, IsCounted, MayHave}
use Rattle.wire.specs.Frames.{Frame}
use Rattle.wire.specs.declared.request.TheConstants.{REGISTER, CHANGE, PROMISE, LOOKUP, HISTORY, HEAD, CLOSE, ROTATE, REGISTER_WITH_POLICY, CHANGE_WITH_POLICY}
use Rattle.wire.specs.declared.request.Request.{Request}
use Rattle.wire.specs.declared.request.Request.TheVariants as request
use Rattle.wire.specs.declared.message_refusals.ReadRefusal.{ReadRefusal}
use Rattle.wire.specs.declared.message_refusals.ReadRefusal.TheVariants.{BadKind, BadBody}

-- a request, regardless of where its bytes lie: a command, where a new page has the operator's token beside it
pub data RequestContent : Type 0 where
  Query : Question → RequestContent
  Put : Verb → List ℕ → AskedKey → RequestContent
  Turn : List ℕ → ℕ → Option (List ℕ) → RequestContent

abbrev pub request_seen : Request → RequestContent
request_seen (request.Query query) = Query (question query)
request_seen (request.Put put) = Put put.verb put.name.now (put.key.now, put.policy)
request_seen (request.Turn token epoch nonce) = Turn token epoch nonce

-- ---- kinds

pub data RequestKind : Type 0 where
  PutKind : Verb → RequestKind
  PolicyKind : Verb → RequestKind
  PromiseKind : RequestKind
  LookupKind : RequestKind
  HistoryKind : RequestKind
  HeadKind : RequestKind
  TurnKind : RequestKind
  RotateKind : RequestKind

-- the kind byte of a registration, or of a change
abbrev pub put_kind : Verb → ℕ
put_kind Register = REGISTER
put_kind Change = CHANGE

-- and of one with a policy
abbrev pub policy_kind : Verb → ℕ
policy_kind Register = REGISTER_WITH_POLICY
policy_kind Change = CHANGE_WITH_POLICY

-- the kinds of requests: the byte of each, the form of its bodies, and the request with what a body holds
abbrev pub request_row : RequestKind → KindRow RequestContent
request_row (PutKind verb) = record { byte = put_kind verb; form = Both Text Text; message = λ held. Put verb held.0 (held.1, None) }
request_row (PolicyKind verb) = record { byte = policy_kind verb; form = Both Byte (Both Text Text); message = λ held. Put verb held.1.0 (held.1.1, Some held.0) }
request_row PromiseKind = record { byte = PROMISE; form = Text; message = λ name. Query (Promise name) }
request_row LookupKind = record { byte = LOOKUP; form = Both (Number 8) Text; message = λ held. Query (Lookup held.1 held.0) }
request_row HistoryKind = record { byte = HISTORY; form = Both (Number 8) (Number 2); message = λ held. Query (History held.0 held.1) }
request_row HeadKind = record { byte = HEAD; form = Nothing; message = λ _. Query Head }
request_row TurnKind = record { byte = CLOSE; form = Both (Bytes 32) (Number 8); message = λ held. Turn held.0 held.1 None }
request_row RotateKind = record { byte = ROTATE; form = Both (Bytes 32) (Both (Number 8) (Bytes 32)); message = λ held. Turn held.0 held.1.0 (Some held.1.1) }

abbrev pub request_kinds : List RequestKind
request_kinds = PutKind Register ∷ PutKind Change ∷ PromiseKind ∷ LookupKind ∷ HistoryKind ∷ HeadKind ∷ TurnKind ∷ RotateKind ∷ PolicyKind Register ∷ PolicyKind Change ∷ []

-- Each kind has this byte.
abbrev pub ReadKinds : Type 0
ReadKinds = map {B = RequestKind × ℕ} (λ kind. (kind, (request_row kind).byte)) request_kinds
    ≡ (PutKind Register, 1) ∷ (PutKind Change, 2) ∷ (PromiseKind, 3) ∷ (LookupKind, 4) ∷ (HistoryKind, 5) ∷ (HeadKind, 6) ∷ (TurnKind, 7) ∷ (RotateKind, 8)
    ∷ (PolicyKind Register, 10) ∷ (PolicyKind Change, 11) ∷ []

-- the kind of a request, with what its body holds
abbrev pub request_parts : RequestContent → MessageParts request_row
request_parts (Put verb name (key, None)) = Of (PutKind verb) (name, key)
request_parts (Put verb name (key, Some policy)) = Of (PolicyKind verb) (policy, (name, key))
request_parts (Query (Promise name)) = Of PromiseKind name
request_parts (Query (Lookup name epoch)) = Of LookupKind (epoch, name)
request_parts (Query (History from count)) = Of HistoryKind (from, count)
request_parts (Query Head) = Of HeadKind tt
request_parts (Turn token epoch None) = Of TurnKind (token, epoch)
request_parts (Turn token epoch (Some nonce)) = Of RotateKind (token, (epoch, nonce))

-- a request as a frame
abbrev pub request_frame : RequestContent → Frame
request_frame requested = parts_frame request_row (request_parts requested)

abbrev pub request_kind : RequestContent → ℕ
request_kind requested = (request_frame requested).kind

abbrev pub request_body : RequestContent → List ℕ
request_body requested = (request_frame requested).body

-- a request with such names and keys, whose numbers fit in their bytes, and whose token and nonce have 32
abbrev pub MayRequest : (List ℕ → Type 0) → RequestContent → Type 0
MayRequest OfText requested = MayHave request_row OfText (request_parts requested)

-- what a request may hold. Whether a name or a key is allowed is the directory's answer
abbrev pub IsAsked : RequestContent → Type 0
IsAsked = MayRequest IsCounted

-- the body spells this request, which is of the kind
abbrev pub Asks : ℕ → List ℕ → RequestContent → Type 0
Asks kind body requested = (request_kind requested ≡ kind) × Spells request_body IsAsked body requested

-- some request is of the kind
abbrev pub IsRequestKind : ℕ → Type 0
IsRequestKind kind = (requested : RequestContent) × (request_kind requested ≡ kind)

-- What reading answers: the request that the body spells; BadKind where no request is of the kind, and
-- BadBody where some is, but the body spells none of them.
abbrev pub ReadsContent : ℕ → List ℕ → Result RequestContent ReadRefusal → Type 0
ReadsContent kind body (Ok requested) = Asks kind body requested
ReadsContent kind body (Err BadKind) = ¬ IsRequestKind kind
ReadsContent kind body (Err BadBody) = IsRequestKind kind × ((requested : RequestContent) → ¬ Asks kind body requested)

-- the same, where the request lies in the bytes
abbrev pub ReadsRequest : ℕ → List ℕ → Result Request ReadRefusal → Type 0
ReadsRequest kind body (Ok read) = ReadsContent kind body (Ok (request_seen read))
ReadsRequest kind body (Err refusal) = ReadsContent kind body (Err refusal)

-- ---- reading

-- the request of a kind at the front of the bytes, with the bytes that are left, or the refusal
unfoldable pub read_request : ℕ → List ℕ → Result (RequestContent × List ℕ) ReadRefusal
read_request kind bytes = read_by request_row (kind_among request_row request_kinds kind) bytes

-- what a call returned, and the bytes that it left, are what was read
abbrev pub GivesRequest : Result Request ReadRefusal → List ℕ → Result (RequestContent × List ℕ) ReadRefusal → Type 0
GivesRequest (Ok request) rest reading = reading ≡ Ok (request_seen request, rest)
GivesRequest (Err refusal) rest reading = reading ≡ Err refusal
