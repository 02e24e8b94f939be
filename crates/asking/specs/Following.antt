-- How all take a list of the roots that are new.
use Rattle.std.specs.Prelude.{◌≡◌, ◌≢◌, ◌⊎◌, ℕ, ◌+◌, ◌-◌, ◌<◌, ◌≤◌, ◌^◌, Bool, true, false, List, [], ◌∷◌, Ok, Err, codes}
use Rattle.std.specs.List.{AllZip}
use Rattle.commands.specs.Operations.{History}
use Rattle.rootchain.specs.Chains.{IsHead}
use Rattle.rootchain.specs.declared.root_list.TheConstants.{MAX_ROOTS}
use Rattle.rootchain.specs.declared.signed_root.SignedRoot.{SignedRoot}
use Rattle.client.specs.Clients.{Client}
use Rattle.client.specs.Updating.{Updates}
use Rattle.client.specs.declared.client_refusal.Refusal.{Refusal}
use Rattle.client.specs.declared.client_refusal.Refusal.TheVariants.{Memory}
use Rattle.monitor.specs.Monitors.{Monitor}
use Rattle.wire.specs.Frames.{Frame}
use Rattle.wire.specs.Requests.{RequestContent, Query}
use Rattle.asking.specs.declared.said.Said.{Said}
use Rattle.asking.specs.Refused.{client_refuses, other_reply}
use Rattle.asking.specs.Scenes.{Scene, FrameAnswers, IsUnanswered}
use Rattle.asking.specs.Reports.{Report, Tells, told_after}

-- the roots above a head, as many as a list has
abbrev pub asks_roots : SignedRoot → RequestContent
asks_roots head = Query (History (head.body.epoch + 1) MAX_ROOTS)

-- the refusal of a root is told, for a reason that holds
abbrev pub TellsRootRefusal : (Refusal → Type 0) → Said → Said → Type 0
TellsRootRefusal Holds before after = (why : Refusal) × Holds why × Tells before (client_refuses (codes "client refuses root") why) after

-- the head of a client's chain is of a later epoch than before
abbrev pub IsAbove : Client → Client → Type 0
IsAbove before after = (head : SignedRoot) × (latest : SignedRoot) × IsHead before.chain head × IsHead after.chain latest × (head.body.epoch < latest.body.epoch)

-- it is of no later epoch
abbrev pub IsNotAbove : Client → Client → Type 0
IsNotAbove before after = (head : SignedRoot) × (latest : SignedRoot) × IsHead before.chain head × IsHead after.chain latest × (latest.body.epoch ≤ head.body.epoch)

-- the head is not below an epoch; it is
abbrev pub HasGotTo : ℕ → Client → Type 0
HasGotTo epoch client = (head : SignedRoot) × IsHead client.chain head × (epoch ≤ head.body.epoch)

abbrev pub IsBelow : ℕ → Client → Type 0
IsBelow epoch client = (head : SignedRoot) × IsHead client.chain head × (head.body.epoch < epoch)

-- the bytes of a list of no root
abbrev pub no_roots : List ℕ
no_roots = 0 ∷ 0 ∷ []

module _ (hash : List ℕ → List ℕ) (verified : List ℕ → List ℕ → List ℕ → Type 0) where
  -- a monitor takes the roots of a list, and so do the client and each monitor
  abbrev pub MonitorUpdates : List ℕ → Monitor → Monitor → Type 0
  MonitorUpdates list before after = Updates hash verified before.client list {A = Unit {0}} (Ok tt) after.client × (after ≡ record before { client = after.client })

  abbrev pub AllUpdate : List ℕ → Client → List Monitor → Client → List Monitor → Type 0
  AllUpdate list client monitors client' monitors' = Updates hash verified client list {A = Unit {0}} (Ok tt) client' × AllZip (MonitorUpdates list) monitors monitors'

  -- a client refuses a list of roots, and not for want of memory
  abbrev pub RefusesList : List ℕ → Client → Refusal → Type 0
  RefusesList list client why = Updates hash verified client list {A = Unit {0}} (Err why) client × (why ≢ Memory)

  -- one of the monitors does: those before it take the list, and it and those behind it stay as they were
  abbrev pub OneRefuses : List ℕ → List Monitor → Refusal → List Monitor → Type 0
  OneRefuses list [] why monitors' = ⊥
  OneRefuses list (monitor ∷ more) why [] = ⊥
  OneRefuses list (monitor ∷ more) why (monitor' ∷ more') = (RefusesList list monitor.client why × (monitor' ≡ monitor) × (more' ≡ more))
      ⊎ (MonitorUpdates list monitor monitor' × OneRefuses list more why more')

  -- the client does, and nothing changes; or it takes the list, and one of the monitors refuses it
  abbrev pub AnyRefuses : List ℕ → Client → List Monitor → Refusal → Client → List Monitor → Type 0
  AnyRefuses list client monitors why client' monitors' = (RefusesList list client why × (client' ≡ client) × (monitors' ≡ monitors))
      ⊎ (Updates hash verified client list {A = Unit {0}} (Ok tt) client' × OneRefuses list monitors why monitors')

  -- a list that has roots is taken, and the head is not above the one before: no root of it is one that was asked for
  abbrev pub BringsNone : List ℕ → Client → List Monitor → Client → List Monitor → Type 0
  BringsNone list client monitors client' monitors' = (list ≢ no_roots) × AllUpdate list client monitors client' monitors' × IsNotAbove client client'

  -- What comes of a frame that stops it: it is no answer, and nothing changes; or the client or a monitor
  -- refuses its list; or all take it and it brings no root that was asked for, which is told as a reply to
  -- something else.
  abbrev pub StopsFollowing : RequestContent → Client → List Monitor → Frame → Report → Client → List Monitor → Type 0
  StopsFollowing asked client monitors frame told client' monitors' = (IsUnanswered asked frame told × (client' ≡ client) × (monitors' ≡ monitors))
      ⊎ (FrameAnswers asked frame × (((why : Refusal) × AnyRefuses frame.body client monitors why client' monitors' × (told ≡ client_refuses (codes "client refuses root") why))
      ⊎ (BringsNone frame.body client monitors client' monitors' × (told ≡ other_reply))))

  module _ {T : Type 0} (exchanged : T → RequestContent → Frame → T → Type 0) where
    -- the roots above the head are asked for, and this frame comes back
    pub record AsksRoots (before : Scene T) (frame : Frame) (stream : T) : Type 0 where
      pub head : SignedRoot
      pub is : IsHead before.client.chain head
      pub exchange : exchanged before.stream (asks_roots head) frame stream
      pub answered : FrameAnswers (asks_roots head) frame

    -- whether a list of roots is asked for and taken: no more are where none comes, or the head is of the
    -- last epoch that there can be
    abbrev pub TakesList : Scene T → Bool → Scene T → Type 0
    TakesList before false after =
        ((head : SignedRoot) × IsHead before.client.chain head × (head.body.epoch ≡ 2 ^ 64 - 1) × (after ≡ before))
        ⊎ ((frame : Frame) × (stream : T) × AsksRoots before frame stream × (frame.body ≡ no_roots) × (after ≡ record before { stream = stream }))
    TakesList before true after = (frame : Frame) × AsksRoots before frame after.stream
        × AllUpdate frame.body before.client before.monitors after.client after.monitors × (after.told ≡ before.told) × IsAbove before.client after.client × (after.finals ≡ before.finals)

    -- the roots above the head are asked for, and a frame comes that stops it, which is told behind what was
    abbrev pub StopsList : Scene T → Scene T → Type 0
    StopsList before after = (head : SignedRoot) × IsHead before.client.chain head × (frame : Frame) × exchanged before.stream (asks_roots head) frame after.stream
        × (told : Report) × StopsFollowing (asks_roots head) before.client before.monitors frame told after.client after.monitors × (after.told ≡ told_after before.told told) × (after.finals ≡ before.finals)
