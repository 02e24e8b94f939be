-- Messages of one session, each answered.
use Rattle.std.specs.Prelude.{◌≡◌, ◌≢◌, ◌+◌, ◌<◌, ℕ, List, [], ◌∷◌, ◌++◌, map, ⊤, Bool, true, false, Result, Ok, Err}
use Rattle.std.specs.declared.alloc.AllocError.{AllocError}
use Rattle.wire.specs.declared.message_refusals.FeedRefusal.TheVariants as feed
use Rattle.wire.specs.Frames.{Frame, frame_bytes}
use Rattle.wire.specs.Refusals.{feed_refusal_number}
use Rattle.wire.specs.Responses.{response_frame, Refused}
use Rattle.wire.specs.Streams.{Remainder, Message, Failed, Whole, BadFrame, with_more, IsSpent, TakesMessage}
use Rattle.hub.specs.declared.hub_refusal.HubRefusal.{HubRefusal}
use Rattle.hub.specs.declared.hub_refusal.HubRefusal.TheVariants.{TooManySessions, SessionOpen, NoSession, Memory}
use Rattle.wire.specs.declared.answer.TheConstants.{MAX_ANSWER_LEN}

-- a message, and the bytes of its reply
pub record Exchange : Type 0 where
  pub message : Message
  pub reply : List ℕ

-- the messages, without their replies
abbrev pub exchange_messages : List Exchange → List Message
exchange_messages = map (λ exchange. exchange.message)

-- the replies, joined
abbrev pub replies : List Exchange → List ℕ
replies [] = []
replies (exchange ∷ more) = exchange.reply ++ replies more

abbrev pub refused_frame : ℕ → List ℕ
refused_frame code = frame_bytes (response_frame (Refused code))

-- an output of this length and room has no room for the longest reply, if that is why messages wait
abbrev pub LacksRoom : Result (Unit {0}) HubRefusal → ℕ → ℕ → Type 0
LacksRoom (Ok done) length room = ⊤
LacksRoom (Err (Memory true)) length room = room < length + MAX_ANSWER_LEN
LacksRoom (Err (Memory false)) length room = ⊤
LacksRoom (Err TooManySessions) length room = ⊤
LacksRoom (Err SessionOpen) length room = ⊤
LacksRoom (Err NoSession) length room = ⊤

module _ {S : Type 0} (answers : S → Frame → List ℕ → S → Type 0) where
  -- the reply to a message; a length that no frame has is refused
  abbrev pub Replies : S → Message → List ℕ → S → Type 0
  Replies service (Whole frame) reply after = answers service frame reply after
  Replies service BadFrame reply after = (reply ≡ refused_frame (feed_refusal_number feed.BadFrame)) × (after ≡ service)

  -- messages taken from what a session holds, each answered at its place
  abbrev pub Exchanges : S → Remainder → List Exchange → S → Remainder → Type 0
  Exchanges service held [] service_after after = (service_after ≡ service) × (after ≡ held)
  Exchanges service held (exchange ∷ more) service_after after = (middle : S) × (between : Remainder)
      × TakesMessage held exchange.message between × Replies service exchange.message exchange.reply middle × Exchanges middle between more service_after after

  -- some messages are answered: all that are held, unless memory runs out while a whole one waits
  abbrev pub Drained : S → Remainder → List ℕ → Result (Unit {0}) AllocError → S → Remainder → List ℕ → Type 0
  Drained service held before (Ok done) service_after after output =
      (exchanges : List Exchange) × Exchanges service held exchanges service_after after × IsSpent after × (output ≡ before ++ replies exchanges)
  Drained service held before (Err no_memory) service_after after output =
      (exchanges : List Exchange) × Exchanges service held exchanges service_after after × (¬ IsSpent after) × (output ≡ before ++ replies exchanges)

  -- where memory ran out nothing was done, the piece was not empty, and the stream had not failed; or the
  -- piece was taken, and a whole message waits
  abbrev pub Wants : S → Remainder → List ℕ → List ℕ → Bool → S → Remainder → List ℕ → Type 0
  Wants service held piece before false service_after after output = ((piece ≢ []) × (held ≢ Failed)) × (service_after ≡ service) × (after ≡ held) × (output ≡ before)
  Wants service held piece before true service_after after output =
      (exchanges : List Exchange) × Exchanges service (with_more held piece) exchanges service_after after × (¬ IsSpent after) × (output ≡ before ++ replies exchanges)

  -- a piece is taken and all its messages are answered, unless memory runs out
  abbrev pub HearsPiece : S → Remainder → List ℕ → List ℕ → Result (Unit {0}) HubRefusal → S → Remainder → List ℕ → Type 0
  HearsPiece service held piece before (Ok done) service_after after output =
      (exchanges : List Exchange) × Exchanges service (with_more held piece) exchanges service_after after × IsSpent after × (output ≡ before ++ replies exchanges)
  HearsPiece service held piece before (Err (Memory taken)) service_after after output = Wants service held piece before taken service_after after output
  HearsPiece service held piece before (Err TooManySessions) service_after after output = ⊥
  HearsPiece service held piece before (Err SessionOpen) service_after after output = ⊥
  HearsPiece service held piece before (Err NoSession) service_after after output = ⊥
