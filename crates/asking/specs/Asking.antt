-- What comes of a line that asks.
use Rattle.std.specs.Prelude.{◌≡◌, ◌≢◌, ◌⊎◌, ℕ, ◌<◌, ◌≤◌, ◌-◌, List, [], ◌∷◌, ◌++◌, length, Option, None, Some, Ok, Err, codes, slice_get, ⊤}
use Rattle.rootchain.specs.Chains.{IsHead}
use Rattle.rootchain.specs.declared.signed_promise.SignedPromise.{SignedPromise}
use Rattle.rootchain.specs.declared.signed_root.SignedRoot.{SignedRoot}
use Rattle.client.specs.declared.client_refusal.Refusal.TheVariants.{Memory}
use Rattle.monitor.specs.Expecting.{Expects}
use Rattle.monitor.specs.Monitors.{Monitor}
use Rattle.monitor.specs.Refusals.{monitor_refusal_number}
use Rattle.monitor.specs.declared.monitor_refusal.Refusal.{Refusal}
use Rattle.monitor.specs.declared.monitor_refusal.Refusal.TheVariants as monitor
use Rattle.commands.specs.Operations.{Head}
use Rattle.wire.specs.Frames.{Frame}
use Rattle.wire.specs.Requests.{RequestContent, Put, Query, Turn}
use Rattle.wire.specs.Responses.{ResponseContent, Promise, Proof, Roots, Root, Refused, Responds, ReadsResponse}
use Rattle.wire.specs.declared.message_refusals.ReadRefusal.{ReadRefusal}
use Rattle.play.specs.Scripts.{with_token}
use Rattle.memory.specs.declared.mark.Mark.{Mark}
use Rattle.asking.specs.declared.ask_fault.AskFault.{AskFault}
use Rattle.asking.specs.declared.ask_fault.AskFault.TheVariants.{OutOfMemory}
use Rattle.asking.specs.Answering.{IsAnswerAt}
use Rattle.asking.specs.Catching.{CatchesSome, CatchesUp, StopsBelow}
use Rattle.asking.specs.Checking.{HearsFrame}
use Rattle.asking.specs.Exchanges.{HoldsFrame}
use Rattle.asking.specs.FinalBindings.{NotesHeard}
use Rattle.asking.specs.Scenes.{Scene}
use Rattle.asking.specs.declared.reply.Reply.{Reply}
use Rattle.client.specs.Clients.{Client}
use Rattle.asking.specs.Refused.{refuses_text}
use Rattle.asking.specs.Reports.{Report, refused, silent, told_after, unless_fine}
use Rattle.asking.specs.Wanted.{last_epoch}
use Rattle.asking.specs.Watching.{GoesOn, GoesSome}

-- the epoch of a response, and of roots that of the last
abbrev pub response_epoch : ResponseContent → ℕ
response_epoch (Promise signed) = signed.promise.epoch
response_epoch (Proof reply) = reply.body.epoch
response_epoch (Root root) = root.body.epoch
response_epoch (Roots roots) = last_epoch 0 roots
response_epoch (Refused code) = 0

-- the epoch of a frame that answers what was asked when the chain had a head of some epoch, or 0
abbrev pub SpeaksOf : ℕ → RequestContent → Frame → ℕ → Type 0
SpeaksOf held asked frame epoch =
    ((responded : ResponseContent) × Responds frame.kind frame.body responded
    × ((IsAnswerAt held asked responded × (epoch ≡ response_epoch responded)) ⊎ ((¬ IsAnswerAt held asked responded) × (epoch ≡ 0))))
    ⊎ (((why : ReadRefusal) × ReadsResponse frame.kind frame.body (Err why)) × (epoch ≡ 0))

-- The line is asked, with this token of the operator, and a frame comes back, which speaks of an epoch. The
-- chain has a head before.
pub record GetsReply {T : Type 0} (exchanged : T → RequestContent → Frame → T → Type 0) (token : List ℕ) (asked : RequestContent) (before : Scene T) : Type 0 where
  pub head : SignedRoot
  pub is : IsHead before.client.chain head
  pub frame : Frame
  pub stream : T
  pub exchange : exchanged before.stream (with_token token asked) frame stream
  pub epoch : ℕ
  pub speaks : SpeaksOf head.body.epoch asked frame epoch

-- the line is sent, and this reply, of one frame, comes back
abbrev pub Sends : {T : Type 0} → (T → RequestContent → Frame → T → Type 0) → List ℕ → RequestContent → Client → T → Reply → T → Type 0
Sends exchanged token asked client before reply after = (head : SignedRoot) × IsHead client.chain head × (reply.held ≡ head.body.epoch)
    × ((frame : Frame) × HoldsFrame reply.bytes.items frame × exchanged before (with_token token asked) frame after × SpeaksOf reply.held asked frame reply.epoch)

-- the scene once the frame has come
abbrev pub replied : {T : Type 0} {exchanged : T → RequestContent → Frame → T → Type 0} {token : List ℕ} {asked : RequestContent} {before : Scene T} → GetsReply exchanged token asked before → Scene T
replied {T} {exchanged} {token} {asked} {before} reply = record before { stream = reply.stream }

-- the line asks for a change of the client's own
abbrev pub IsChange : RequestContent → Type 0
IsChange (Put verb name key) = ⊤
IsChange (Query query) = ⊥
IsChange (Turn token epoch _) = ⊥

-- the last of these promises is noted behind the others
abbrev pub NotesLast : List SignedPromise → List SignedPromise → List SignedPromise → Type 0
NotesLast promises noted noted' = (signed : SignedPromise) × (slice_get promises (length promises - 1) ≡ Some signed) × (noted' ≡ noted ++ signed ∷ [])

-- what the client notes of its own changes: a promise that it kept for one, the last of those it has, and
-- nothing else
abbrev pub Notes : RequestContent → List SignedPromise → List SignedPromise → List SignedPromise → List SignedPromise → Type 0
Notes (Put verb name key) before after noted noted' =
    ((length after ≤ length before) × (noted' ≡ noted)) ⊎ ((length before < length after) × NotesLast after noted noted')
Notes asked before after noted noted' = noted' ≡ noted

-- what is told of a promise that a monitor is given: nothing, or that it refuses it
abbrev pub handed_told : Option Refusal → Report
handed_told None = silent
handed_told (Some why) = refused (refuses_text (codes "client refuses promise") (monitor_refusal_number why))

module _ (hash : List ℕ → List ℕ) (accepted verified : List ℕ → List ℕ → List ℕ → Type 0) where
  -- a monitor of the promise's name is given it, and may refuse it; the others are left alone
  abbrev pub HandsTo : SignedPromise → List ℕ → Monitor → Option Refusal → Monitor → Type 0
  HandsTo signed promise before None after =
      ((before.name ≡ signed.promise.name) × Expects hash verified before signed.promise.key promise {A = Unit {0}} (Ok tt) after)
      ⊎ ((before.name ≢ signed.promise.name) × (after ≡ before))
  HandsTo signed promise before (Some why) after =
      (before.name ≡ signed.promise.name) × (why ≢ monitor.Client Memory) × Expects hash verified before signed.promise.key promise {A = Unit {0}} (Err why) after

  -- each of these monitors is given it, and what they refuse is told behind what was
  abbrev pub HandsAll : SignedPromise → List ℕ → List Monitor → Report → Report → List Monitor → Type 0
  HandsAll signed promise [] told told' [] = told' ≡ told
  HandsAll signed promise [] told told' (monitor' ∷ more') = ⊥
  HandsAll signed promise (monitor ∷ more) told told' [] = ⊥
  HandsAll signed promise (monitor ∷ more) told told' (monitor' ∷ more') =
      (why : Option Refusal) × HandsTo signed promise monitor why monitor' × HandsAll signed promise more (told_after told (handed_told why)) told' more'

  -- a promise for a change of the client's own that it kept, the last of those it has, is handed to the monitors
  abbrev pub Hands : RequestContent → List ℕ → List SignedPromise → List SignedPromise → List Monitor → Report → List Monitor → Type 0
  Hands (Put verb name key) promise before after monitors told monitors' =
      ((length after ≤ length before) × (told ≡ silent) × (monitors' ≡ monitors))
      ⊎ ((length before < length after) × ((signed : SignedPromise) × (slice_get after (length after - 1) ≡ Some signed) × HandsAll signed promise monitors silent told monitors'))
  Hands asked promise before after monitors told monitors' = (told ≡ silent) × (monitors' ≡ monitors)

  module _ {T : Type 0} (exchanged : T → RequestContent → Frame → T → Type 0) where
    -- what the client makes of a frame, what it shows of final bindings, and what the monitors are given of it and refuse
    pub record HearsOne (held : ℕ) (asked : RequestContent) (frame : Frame) (before after : Scene T) : Type 0 where
      pub told : Report
      pub hears : HearsFrame hash accepted verified held before.client asked frame told after.client
      pub shown : Report
      pub notes : NotesHeard hash accepted after.client asked frame told.status before.finals shown after.finals
      pub handed : Report
      pub hands : Hands asked frame.body before.client.promises after.client.promises before.monitors handed after.monitors
      pub tells : after.told ≡ told_after (told_after before.told (told_after told shown)) handed
      pub stream : after.stream ≡ before.stream

    -- if the chain has epochs above this one, the monitors watch, and the promises are tested
    abbrev pub GoesOnAbove : List Mark → ℕ → Scene T → Scene T → Type 0
    GoesOnAbove marks epoch before after = (head : SignedRoot) × IsHead before.client.chain head
        × (((head.body.epoch ≤ epoch) × (after ≡ before)) ⊎ ((epoch < head.body.epoch) × GoesOn hash accepted exchanged marks before after))

    -- what the client makes of a frame is told and noted, and of new epochs what monitors and promises say
    pub record HearsReply (marks : List Mark) (held : ℕ) (asked : RequestContent) (frame : Frame) (noted noted' : List SignedPromise) (before after : Scene T) : Type 0 where
      pub heard : Scene T
      pub hears : HearsOne held asked frame before heard
      pub notes : Notes asked before.client.promises heard.client.promises noted noted'
      pub goes : GoesOnAbove marks held heard after

    -- the line gets a reply, the chain gets as far as that, and it is heard
    pub record AsksDirectory (marks : List Mark) (token : List ℕ) (asked : RequestContent) (noted noted' : List SignedPromise) (before after : Scene T) : Type 0 where
      pub reply : GetsReply exchanged token asked before
      pub ready : Scene T
      pub catches : CatchesUp hash accepted verified exchanged reply.epoch (replied reply) ready
      pub hears : HearsReply marks reply.head.body.epoch asked reply.frame noted noted' ready after

    -- what the client makes of the latest root, which is told only if it is refused
    pub record HearsHead (held : ℕ) (frame : Frame) (before after : Scene T) : Type 0 where
      pub told : Report
      pub hears : HearsFrame hash accepted verified held before.client (Query Head) frame told after.client
      pub tells : after.told ≡ told_after before.told (unless_fine told)
      pub same : (after.monitors ≡ before.monitors) × (after.stream ≡ before.stream) × (after.finals ≡ before.finals)

    -- the latest root is asked for, the chain gets as far as that, and it is heard
    pub record FindsHead (token : List ℕ) (before after : Scene T) : Type 0 where
      pub reply : GetsReply exchanged token (Query Head) before
      pub ready : Scene T
      pub catches : CatchesUp hash accepted verified exchanged reply.epoch (replied reply) ready
      pub hears : HearsHead reply.head.body.epoch reply.frame ready after

    -- the line gets a reply, and the chain does not get as far as it
    pub record StopsAsking (token : List ℕ) (asked : RequestContent) (before after : Scene T) : Type 0 where
      pub reply : GetsReply exchanged token asked before
      pub stops : StopsBelow hash accepted verified exchanged reply.epoch (replied reply) after

    -- what the client makes of a frame is told, and the monitors are given nothing of it yet; it is noted only where the fault is
    -- that memory ran out
    abbrev pub HearsOnly : AskFault → ℕ → RequestContent → Frame → List SignedPromise → List SignedPromise → Scene T → Scene T → Type 0
    HearsOnly fault held asked frame noted noted' before after = ((noted' ≡ noted) ⊎ ((fault ≡ OutOfMemory) × Notes asked before.client.promises after.client.promises noted noted')) × (told : Report) × HearsFrame hash accepted verified held before.client asked frame told after.client
        × ((shown : Report) × NotesHeard hash accepted after.client asked frame told.status before.finals shown after.finals × (after.told ≡ told_after before.told (told_after told shown))) × (after.monitors ≡ before.monitors) × (after.stream ≡ before.stream)

    -- the chain has epochs above this one, and monitors and promises are at some point
    abbrev pub GoesSomeAbove : List Mark → ℕ → Scene T → Scene T → Type 0
    GoesSomeAbove marks held before after = (head : SignedRoot) × IsHead before.client.chain head × (held < head.body.epoch) × GoesSome hash accepted exchanged marks before after

    -- a frame is heard, up to some point: it is not told yet; it is told; or monitors and promises go on
    abbrev pub HearsSome : AskFault → List Mark → ℕ → RequestContent → Frame → List SignedPromise → List SignedPromise → Scene T → Scene T → Type 0
    HearsSome fault marks held asked frame noted noted' before after = ((noted' ≡ noted) × (after ≡ before)) ⊎ (HearsOnly fault held asked frame noted noted' before after
        ⊎ ((heard : Scene T) × HearsOne held asked frame before heard × Notes asked before.client.promises heard.client.promises noted noted' × GoesSomeAbove marks held heard after))

    -- The line gets a reply. Then the steps of AsksDirectory, up to some point.
    pub record AsksOn (fault : AskFault) (marks : List Mark) (token : List ℕ) (asked : RequestContent) (noted noted' : List SignedPromise) (before after : Scene T) : Type 0 where
      pub reply : GetsReply exchanged token asked before
      pub steps : ((noted' ≡ noted) × CatchesSome hash accepted verified exchanged reply.epoch (replied reply) after)
          ⊎ ((ready : Scene T) × CatchesUp hash accepted verified exchanged reply.epoch (replied reply) ready × HearsSome fault marks reply.head.body.epoch asked reply.frame noted noted' ready after)

    -- no frame comes back, or the chain is on its way to the latest root, or is there
    abbrev pub FindsSome : List ℕ → Scene T → Scene T → Type 0
    FindsSome token before after = (after ≡ before)
        ⊎ ((reply : GetsReply exchanged token (Query Head) before) × (CatchesSome hash accepted verified exchanged reply.epoch (replied reply) after ⊎ CatchesUp hash accepted verified exchanged reply.epoch (replied reply) after))

    -- no frame comes back, or the steps of a line are at some point, where a fault comes
    abbrev pub AsksSome : AskFault → List Mark → List ℕ → RequestContent → List SignedPromise → List SignedPromise → Scene T → Scene T → Type 0
    AsksSome fault marks token asked noted noted' before after = ((noted' ≡ noted) × (after ≡ before)) ⊎ AsksOn fault marks token asked noted noted' before after
