-- What the messages of sessions ask of the directory of a desk, and the run that their replies show.
use Rattle.std.specs.Prelude.{◌≡◌, ◌≢◌, ◌↔◌, ◌⊎◌, ℕ, List, [], ◌∷◌, Some, None, Ok, Err, ⊤}
use mathlib.Core.Logic.{inl, inr}
use Rattle.rand_core.specs.Stream.{Stream}
use Rattle.book.specs.declared.record.Record.{Record}
use Rattle.book.specs.declared.reply.Reply.{Reply}
use Rattle.commands.specs.Operations.{Operation}
use Rattle.book.specs.declared.directory_refusal.Refusal.TheVariants.{Memory, KeepFailed}
use Rattle.book.specs.Honest.{IsHonestRun}
use Rattle.book.specs.ProviderLaws.{KeepsLaws}
use Rattle.book.specs.Refusals.{book_refusal_number}
use Rattle.book.specs.Shows.{index_of}
use Rattle.book.specs.Sound.{IsSound}
use Rattle.book.specs.Turns.{Run}
use Rattle.epochs.specs.DirectoryStates.{book, provider, HasKeysOf}
use Rattle.wire.specs.declared.message_refusals.FeedRefusal.TheVariants as feed
use Rattle.wire.specs.declared.message_refusals.ReadRefusal.{ReadRefusal}
use Rattle.wire.specs.Frames.{frame_bytes}
use Rattle.wire.specs.Laws.{IsReadAs}
use Rattle.wire.specs.Refusals.{feed_refusal_number, read_refusal_number}
use Rattle.wire.specs.Requests as request
use Rattle.wire.specs.Requests.{ReadsContent}
use Rattle.wire.specs.Responses as response
use Rattle.wire.specs.Responses.{response_frame}
use Rattle.wire.specs.Streams.{Message, Whole, BadFrame}
use Rattle.hub.specs.Desks.{command, reply_frame, DeskState, IsResponseOf}
use Rattle.hub.specs.Exchanges.{refused_frame}
use Rattle.hub.specs.Runs.{Line}
use Rattle.hub.specs.declared.desk.TheConstants.{NOT_OPERATOR}

-- the message reaches the directory, and asks this of it, where the operator has this token
abbrev pub Reaches : List ℕ → Message → Operation → Type 0
Reaches token (Whole frame) asked = (requested : request.RequestContent) × ReadsContent frame.kind frame.body (Ok requested) × (command token requested ≡ Some asked)
Reaches token BadFrame asked = ⊥

-- the message does not reach the directory, and this is the number of its refusal: it has a length that no
-- frame has, it is no request, or it closes an epoch without the token
abbrev pub IsTurnedAway : List ℕ → Message → ℕ → Type 0
IsTurnedAway token (Whole frame) code =
    ((refusal : ReadRefusal) × ReadsContent frame.kind frame.body (Err refusal) × (code ≡ read_refusal_number refusal))
    ⊎ ((requested : request.RequestContent) × ReadsContent frame.kind frame.body (Ok requested) × (command token requested ≡ None) × (code ≡ NOT_OPERATOR))
IsTurnedAway token BadFrame code = code ≡ feed_refusal_number feed.BadFrame

-- the messages that reach the directory ask these commands and are told these replies; the others are refused
abbrev pub ShowReplies : List ℕ → List Line → List Operation → List Reply → Type 0
ShowReplies token [] commands replies = (commands ≡ []) × (replies ≡ [])
ShowReplies token (line ∷ more) commands replies =
    ((code : ℕ) × IsTurnedAway token line.message code × (line.reply ≡ refused_frame code) × ShowReplies token more commands replies)
    ⊎ ((asked : Operation) × (told : Reply) × (later : List Operation) × (others : List Reply) × Reaches token line.message asked
    × (line.reply ≡ frame_bytes (reply_frame told)) × (commands ≡ asked ∷ later) × (replies ≡ told ∷ others) × ShowReplies token more later others)

-- each frame is read as one response: that of the reply, or the refusal
abbrev pub AreResponses : (token : List ℕ) (lines : List Line) (commands : List Operation) (replies : List Reply) → ShowReplies token lines commands replies → Type 0
AreResponses token [] commands replies shown = ⊤
AreResponses token (line ∷ more) commands replies (inl (code, away, says, shown)) =
    IsReadAs (response_frame (response.Refused code)) (response.Refused code) × AreResponses token more commands replies shown
AreResponses token (line ∷ more) commands replies (inr (asked, told, later, others, reaches, says, is, are, shown)) =
    ((responded : response.ResponseContent) × IsResponseOf told responded × IsReadAs (reply_frame told) responded) × AreResponses token more later others shown

-- neither reply refuses because memory ran out; and both refuse because a record was not kept, or neither does
abbrev pub RefuseAlike : Line → Line → Type 0
RefuseAlike line other = (line.reply ≢ refused_frame (book_refusal_number Memory)) × (other.reply ≢ refused_frame (book_refusal_number Memory))
    × ((line.reply ≡ refused_frame (book_refusal_number KeepFailed)) ↔ (other.reply ≡ refused_frame (book_refusal_number KeepFailed)))

-- what the types keep of each desk: its book is sound, and the functions of its provider keep their laws
pub record IsSoundDesk {R K : Type 0} (digest_of : List ℕ → List ℕ) (value_of signature_of : List ℕ → List ℕ → List ℕ) (stream : R → Stream) (accepted verified : List ℕ → List ℕ → List ℕ → Type 0) (desk : DeskState R K) : Type 0 where
  pub sound : IsSound (index_of (provider digest_of value_of signature_of desk.directory)) (book stream desk.directory)
  pub laws : KeepsLaws accepted verified desk.directory.signing_key (provider digest_of value_of signature_of desk.directory)

-- What the lines show: a run of the directory, in which each message is answered as the book stands after
-- the commands of all messages before it. Each frame is read as its response, and the users see of this very run
-- what those of an honest provider see.
pub record ShowHonestRun {R K : Type 0} (digest_of : List ℕ → List ℕ) (value_of signature_of : List ℕ → List ℕ → List ℕ) (stream : R → Stream) (kept failed : K → Record → K → Type 0)
    (accepted verified : List ℕ → List ℕ → List ℕ → Type 0) (before : DeskState R K) (lines : List Line) (after : DeskState R K) : Type 0 where
  pub commands : List Operation
  pub replies : List Reply
  pub shown : ShowReplies before.token lines commands replies
  pub run : Run (provider digest_of value_of signature_of before.directory) kept failed (book stream before.directory) before.keeper commands replies (book stream after.directory) after.keeper
  pub read : AreResponses before.token lines commands replies shown
  pub honest : IsHonestRun (provider digest_of value_of signature_of before.directory) accepted verified before.directory.signing_key (book stream before.directory) (book stream after.directory) commands replies
  pub keys : HasKeysOf before.directory after.directory
  pub token : after.token ≡ before.token
