-- Where a client stands between two exchanges, and what comes of one.
use Rattle.std.specs.Prelude.{◌≡◌, ◌≢◌, ◌⊎◌, ℕ, List, Option, Some, None, Err, Ok, codes}
use Rattle.client.specs.Clients.{Client}
use Rattle.client.specs.Starting.{Starts}
use Rattle.client.specs.declared.client_refusal.Refusal.{Refusal}
use Rattle.client.specs.declared.client_refusal.Refusal.TheVariants.{Memory}
use Rattle.commands.specs.Operations.{Head}
use Rattle.monitor.specs.Monitors.{Monitor}
use Rattle.wire.specs.Frames.{Frame}
use Rattle.wire.specs.Refusals.{read_refusal_number}
use Rattle.wire.specs.Requests.{RequestContent, Query}
use Rattle.wire.specs.Responses.{ResponseContent, Promise, Proof, Roots, Root, Refused, Responds, ReadsResponse}
use Rattle.wire.specs.declared.message_refusals.ReadRefusal.{ReadRefusal}
use Rattle.play.specs.Hearing.{response_text}
use Rattle.asking.specs.declared.asker.Asker.{Asker}
use Rattle.asking.specs.declared.ask_fault.AskFault.{AskFault}
use Rattle.asking.specs.declared.ask_fault.AskFault.TheVariants.{NoReply}
use Rattle.asking.specs.declared.said.Said.{Said}
use Rattle.asking.specs.Answering.{IsAnswerTo}
use Rattle.asking.specs.FinalBindings.{Finals}
use Rattle.asking.specs.Refused.{client_refuses, other_reply, refuses_text}
use Rattle.asking.specs.Reports.{Report, Tells, refused, report_of, told_after}

-- the client and the monitors, what is known of final bindings, what was told so far, and the stream to the directory
pub record Scene (T : Type 0) : Type 0 where
  pub client : Client
  pub monitors : List Monitor
  pub finals : Finals
  pub told : Report
  pub stream : T

abbrev pub scene : {H V S T : Type 0} → Asker H V S → Said → T → Scene T
scene asker said stream = record { client = asker.client; monitors = asker.monitors.items; finals = asker.finals; told = report_of said; stream = stream }

-- a frame that is a response, and answers what was asked
abbrev pub FrameAnswers : RequestContent → Frame → Type 0
FrameAnswers asked frame = (responded : ResponseContent) × Responds frame.kind frame.body responded × IsAnswerTo asked responded

-- what is told of a response that is no answer: a refusal of the directory, or one to something else
abbrev pub miss_told : ResponseContent → Report
miss_told (Refused code) = refused (response_text (Refused code))
miss_told (Promise signed) = other_reply
miss_told (Proof reply) = other_reply
miss_told (Roots roots) = other_reply
miss_told (Root root) = other_reply

-- what is told of a frame that is no answer to what was asked
abbrev pub IsUnanswered : RequestContent → Frame → Report → Type 0
IsUnanswered asked frame told =
    ((responded : ResponseContent) × Responds frame.kind frame.body responded × (¬ IsAnswerTo asked responded) × (told ≡ miss_told responded))
    ⊎ ((why : ReadRefusal) × ReadsResponse frame.kind frame.body (Err why) × (told ≡ refused (refuses_text (codes "client refuses reply") (read_refusal_number why))))

-- the body of a frame that answers what was asked, with nothing told; or none, and why
abbrev pub GivesBody : RequestContent → Frame → Said → Option (List ℕ) → Said → Type 0
GivesBody asked frame before (Some body) after = FrameAnswers asked frame × (body ≡ frame.body) × (after ≡ before)
GivesBody asked frame before None after = (told : Report) × IsUnanswered asked frame told × Tells before told after

-- what no answer changes, and what changes only by a promise that is kept for a change of the client's own
abbrev pub Remains : {H V S : Type 0} → Asker H V S → Asker H V S → Type 0
Remains before after = (after.key ≡ before.key) × (after.token ≡ before.token) × (after.marks ≡ before.marks) × (after.earlier ≡ before.earlier) × (after.known ≡ before.known)

abbrev pub StaysWhole : {H V S : Type 0} → Asker H V S → Asker H V S → Type 0
StaysWhole before after = (after.key ≡ before.key) × (after.token ≡ before.token) × (after.marks ≡ before.marks) × (after.earlier ≡ before.earlier) × (after.changes ≡ before.changes) × (after.known ≡ before.known)

-- The latest root is asked for, and a frame comes back whose body spells a root with a good signature. With this the
-- client starts.
abbrev pub StartsAtHead : {T : Type 0} → (List ℕ → List ℕ → List ℕ → Type 0) → (T → RequestContent → Frame → T → Type 0) → List ℕ → T → Client → T → Type 0
StartsAtHead verified exchanged key before client after =
    (frame : Frame) × exchanged before (Query Head) frame after × FrameAnswers (Query Head) frame × Starts verified key frame.body (Ok client)

-- what is told of a frame with which no client starts: it is no answer, or its root is refused
abbrev pub StartsNone : (List ℕ → List ℕ → List ℕ → Type 0) → List ℕ → Frame → Report → Type 0
StartsNone verified key frame told = IsUnanswered (Query Head) frame told
    ⊎ (FrameAnswers (Query Head) frame × ((why : Refusal) × (why ≢ Memory) × Starts verified key frame.body (Err why) × (told ≡ client_refuses (codes "client refuses root") why)))

-- the latest root is asked for, and such a frame comes back
abbrev pub StopsAtHead : {T : Type 0} → (List ℕ → List ℕ → List ℕ → Type 0) → (T → RequestContent → Frame → T → Type 0) → List ℕ → T → Report → T → Report → Type 0
StopsAtHead verified exchanged key before told after told' =
    (frame : Frame) × exchanged before (Query Head) frame after × ((now : Report) × StartsNone verified key frame now × (told' ≡ told_after told now))

-- A fault comes that nothing tells: all that was told so far was told in this scene. If no reply came, the client,
-- the monitors and what is known of final bindings are also those of the scene; memory may run out between a change of
-- theirs and what is told of it.
abbrev pub HaltsIn : {H V S T : Type 0} → AskFault → Scene T → Asker H V S → Said → Type 0
HaltsIn fault reached asker said = (report_of said ≡ reached.told) × (fault ≡ NoReply → (asker.client ≡ reached.client) × (asker.monitors.items ≡ reached.monitors) × (asker.finals ≡ reached.finals))

-- it comes in a scene to which completed steps lead
abbrev pub HaltsAfter : {H V S T : Type 0} → (Scene T → Type 0) → AskFault → Asker H V S → Said → Type 0
HaltsAfter {H} {V} {S} {T} IsReached fault asker said = (reached : Scene T) × IsReached reached × HaltsIn fault reached asker said
