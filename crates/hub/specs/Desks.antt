-- What is answered to a frame at a desk: a directory, its keeper, and the token of its operator.
use Rattle.std.specs.Prelude.{◌≡◌, ℕ, List, Option, Some, None, Result, Ok, Err, if◌then◌else◌}
use Rattle.std.specs.Str.{bytes_eq}
use Rattle.rand_core.specs.Stream.{Stream}
use Rattle.proofs.specs.Replies.{Reply as Spelled, SpellsReply}
use Rattle.book.specs.declared.record.Record.{Record}
use Rattle.book.specs.declared.reply.Reply.{Reply}
use Rattle.book.specs.declared.reply.Reply.TheVariants as reply
use Rattle.commands.specs.Operations.{Operation, Query, Edit, Put}
use Rattle.commands.specs.Operations as ask
use Rattle.book.specs.Refusals.{book_refusal_number}
use Rattle.book.specs.Turns.{Turn}
use Rattle.epochs.specs.DirectoryStates.{DirectoryState, book, provider, HasKeysOf}
use Rattle.wire.specs.declared.message_refusals.ReadRefusal.{ReadRefusal}
use Rattle.wire.specs.Frames.{Frame, frame_bytes}
use Rattle.wire.specs.Refusals.{read_refusal_number}
use Rattle.wire.specs.Requests.{ReadsContent}
use Rattle.wire.specs.Requests as request
use Rattle.wire.specs.Responses as response
use Rattle.wire.specs.Responses.{proof_frame, response_frame}
use Rattle.hub.specs.Exchanges.{refused_frame}
use Rattle.hub.specs.declared.desk.TheConstants.{NOT_OPERATOR}

pub record DeskState (R K : Type 0) : Type 0 where
  pub directory : DirectoryState R
  pub keeper : K
  pub token : List ℕ

-- what a request asks of the directory: a new page only with the operator's token
abbrev pub command : List ℕ → request.RequestContent → Option Operation
command token (request.Query question) = Some (Query question)
command token (request.Put verb name key) = Some (Edit (Put verb name key))
command token (request.Turn given epoch nonce) = if bytes_eq given token then Some (Edit (ask.Turn epoch nonce)) else None

-- what is asked, or the number of the refusal where the token is not the operator's
abbrev pub or_not_operator : Option Operation → Result Operation ℕ
or_not_operator None = Err NOT_OPERATOR
or_not_operator (Some asked) = Ok asked

-- the frame of a reply; that of a look-up has the reply's own bytes
abbrev pub reply_frame : Reply → Frame
reply_frame (reply.Promised signed) = response_frame (response.Promise signed)
reply_frame (reply.Found text) = proof_frame text
reply_frame (reply.Told told) = response_frame (response.Roots told.items)
reply_frame (reply.Last root) = response_frame (response.Root root)
reply_frame (reply.Refused why) = response_frame (response.Refused (book_refusal_number why))

-- the response that a reply is; the text of a look-up's reply spells it
abbrev pub IsResponseOf : Reply → response.ResponseContent → Type 0
IsResponseOf (reply.Promised signed) responded = responded ≡ response.Promise signed
IsResponseOf (reply.Found text) responded = (found : Spelled) × SpellsReply text found × (responded ≡ response.Proof found)
IsResponseOf (reply.Told told) responded = responded ≡ response.Roots told.items
IsResponseOf (reply.Last root) responded = responded ≡ response.Root root
IsResponseOf (reply.Refused why) responded = responded ≡ response.Refused (book_refusal_number why)

module _ {R K : Type 0} (digest_of : List ℕ → List ℕ) (value_of signature_of : List ℕ → List ℕ → List ℕ) (stream : R → Stream) (kept failed : K → Record → K → Type 0) where
  -- the directory takes the turn of a command, and the frame of its reply is told; whoever closes an epoch
  -- without the token is not the operator
  abbrev pub TakesTurn : DeskState R K → Option Operation → List ℕ → DeskState R K → Type 0
  TakesTurn before None text after = (text ≡ refused_frame NOT_OPERATOR) × (after ≡ before)
  TakesTurn before (Some asked) text after = (told : Reply)
      × Turn (provider digest_of value_of signature_of before.directory) kept failed (book stream before.directory) before.keeper asked told (book stream after.directory) after.keeper
      × (text ≡ frame_bytes (reply_frame told)) × HasKeysOf before.directory after.directory × (after.token ≡ before.token)

  -- a request is served
  abbrev pub ServesRequest : DeskState R K → request.RequestContent → List ℕ → DeskState R K → Type 0
  ServesRequest before requested text after = TakesTurn before (command before.token requested) text after

  -- what was read is served, or refused
  abbrev pub TellsRead : DeskState R K → Result request.RequestContent ReadRefusal → List ℕ → DeskState R K → Type 0
  TellsRead before (Ok requested) text after = ServesRequest before requested text after
  TellsRead before (Err refusal) text after = (text ≡ refused_frame (read_refusal_number refusal)) × (after ≡ before)

  abbrev pub DeskAnswers : DeskState R K → Frame → List ℕ → DeskState R K → Type 0
  DeskAnswers before frame text after = (read : Result request.RequestContent ReadRefusal) × ReadsContent frame.kind frame.body read × TellsRead before read text after
