-- What the frames that sessions get say, in the words of a script.
use Rattle.std.specs.Prelude.{◌≡◌, ◌≢◌, ℕ, List, ◌++◌, map, Ok, Err, codes, decimal, ⊤}
use Rattle.std.specs.List.{flat_map, AllZip}
use Rattle.encoding.specs.Bytes.{IsBytes}
use Rattle.rootchain.specs.declared.signed_root.SignedRoot.{SignedRoot}
use Rattle.wire.specs.Frames.{Frame, frame_bytes}
use Rattle.wire.specs.Laws.{IsReadAs}
use Rattle.wire.specs.Requests.{RequestContent, request_frame, IsAsked}
use Rattle.wire.specs.Responses.{ResponseContent, Promise, Proof, Roots, Root, Refused as Refusing}
use Rattle.wire.specs.Streams.{Message, Whole, BadFrame}
use Rattle.book.specs.declared.directory_refusal.Refusal.TheVariants.{Memory, KeepFailed}
use Rattle.book.specs.declared.reply.Reply.{Reply}
use Rattle.book.specs.Replies.{reply_content, Refused}
use Rattle.commands.specs.Operations.{Operation}
use Rattle.book.specs.Books.{Book}
use Rattle.hub.specs.DeskRuns.{IsTurnedAway, Reaches}
use Rattle.hub.specs.Events.{Happening, HubState}
use Rattle.hub.specs.Runs.{Line, Runs}
use Rattle.play.specs.Messages.{asks, heard, held_after, request_asks}
use Rattle.play.specs.Played.{answered}
use Rattle.play.specs.Scripts.{token}

-- the line that tells a response, by its own fields
abbrev pub response_text : ResponseContent → List ℕ
response_text (Promise signed) = codes "promise " ++ decimal signed.promise.epoch
response_text (Proof reply) = codes "proof " ++ decimal reply.body.epoch
response_text (Roots roots) = codes "roots" ++ flat_map (λ (root : SignedRoot). codes " " ++ decimal root.body.epoch) roots
response_text (Root root) = codes "root " ++ decimal root.body.epoch ++ codes " after " ++ decimal root.body.previous_epoch
response_text (Refusing code) = codes "refused " ++ decimal code

-- the frame of a line of a hub is read as one response, which this line of a script tells
abbrev pub IsHeardAs : Line → List ℕ → Type 0
IsHeardAs line text = (frame : Frame) × (responded : ResponseContent) × (line.reply ≡ frame_bytes frame) × IsReadAs frame responded × (text ≡ response_text responded)

-- the frame of a message has bytes
abbrev pub HasFrameBytes : Message → Type 0
HasFrameBytes (Whole frame) = IsBytes frame.body
HasFrameBytes BadFrame = ⊤

abbrev pub IsOfBytes : Line → Type 0
IsOfBytes line = HasFrameBytes line.message

-- memory did not run out, and what was to be kept was
abbrev pub IsGranted : Reply → Type 0
IsGranted reply = (reply_content reply ≢ Refused Memory) × (reply_content reply ≢ Refused KeepFailed)

-- what a message asks of the directory is what reaches it, and what does not reach it has the number of its
-- refusal
abbrev pub AsksWhatReaches : Type 0
AsksWhatReaches = (message : Message) → HasFrameBytes message
    → ((asked : Operation) → Reaches token message asked → asks message ≡ Ok asked) × ((code : ℕ) → IsTurnedAway token message code → asks message ≡ Err code)

-- the frame of a request asks what the request does
abbrev pub FramesAsk : Type 0
FramesAsk = (requested : RequestContent) → IsAsked requested → HasFrameBytes (Whole (request_frame requested)) → asks (Whole (request_frame requested)) ≡ request_asks requested

-- the definition leads from a book to another by the messages of these lines, and tells what their frames say
abbrev pub AreHeardAs : (List ℕ → List ℕ) → Book → List Line → Book → Type 0
AreHeardAs index_of before lines after =
    let told = answered index_of before (map (λ (line : Line). line.message) lines) in
    (told.1 ≡ after) × AllZip IsHeardAs lines told.0

-- the messages of a run of a hub are those that the definition hears, and the sessions then hold what it says
abbrev pub RunsAreHeard : {S : Type 0} → (S → Frame → List ℕ → S → Type 0) → Type 0
RunsAreHeard {S} answers = (before after : HubState S) (events : List Happening) (lines : List Line) → Runs answers before events lines after
    → (map (λ (line : Line). line.message) lines ≡ heard before.sessions events) × (after.sessions ≡ held_after before.sessions events)
