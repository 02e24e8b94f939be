-- What replies show of final bindings (policies are this directory's own).
use Rattle.std.specs.Prelude.{◌≡◌, ◌≢◌, ◌⊎◌, ℕ, ◌<◌, true, List, [], ◌∷◌, ◌++◌, Contains, Option, None, Some}
use Rattle.auditor.specs.declared.evidence.Evidence.{Evidence}
use Rattle.auditor.specs.declared.evidence.Evidence.TheVariants as evidence
use Rattle.audits.specs.Files.{evidence_text, IsFileOf}
use Rattle.encoding.specs.Limits.{IsName}
use Rattle.commands.specs.Operations.{Lookup}
use Rattle.rootchain.specs.Chains.{IsAt, KeyedRoots}
use Rattle.rootchain.specs.declared.signed_root.SignedRoot.{SignedRoot}
use Rattle.proofs.specs.Accepts.{stated}
use Rattle.proofs.specs.BrokenFinals.{states_final, Changes}
use Rattle.proofs.specs.Comparisons.{IsAcceptedReply}
use Rattle.proofs.specs.Replies.{Reply, SpellsReply}
use Rattle.proofs.specs.declared.broken_final.BrokenFinal.{BrokenFinal}
use Rattle.wire.specs.Frames.{Frame}
use Rattle.wire.specs.Requests.{RequestContent, Query}
use Rattle.client.specs.Clients.{Client}
use Rattle.client.specs.Finality.{looks_for, IsChangedBy, IsFirstChange, NoneStandSo, StateAChange}
use Rattle.memory.specs.Memories.{Memory}
use Rattle.memory.specs.declared.final_seen.FinalSeen.{FinalSeen}
use Rattle.asking.specs.Reports.{Report, caught, silent, told_after}

-- what is known of them: the reply that is kept for each name, and the names of which a change was told
pub record Finals : Type 0 where
  pub seen : List FinalSeen
  pub changed : List (List ℕ)

abbrev pub no_finals : Finals
no_finals = record { seen = []; changed = [] }

-- the name of which evidence shows that its final binding was changed
abbrev pub changed_name : Evidence → Option (List ℕ)
changed_name (evidence.Root roots) = None
changed_name (evidence.Broken broken) = None
changed_name (evidence.Final broken) = Some broken.name

-- so does a line, if it is evidence
abbrev pub ShowsChange : List ℕ → Option (List ℕ) → Type 0
ShowsChange line found = ((made : Evidence) × IsFileOf line made × (found ≡ changed_name made)) ⊎ (((made : Evidence) → ¬ IsFileOf line made) × (found ≡ None))

abbrev pub listed : Option (List ℕ) → List (List ℕ)
listed None = []
listed (Some name) = name ∷ []

-- these are the names of which lines show it
abbrev pub AreChanged : List (List ℕ) → List (List ℕ) → Type 0
AreChanged [] names = names ≡ []
AreChanged (line ∷ more) names = (found : Option (List ℕ)) × (rest : List (List ℕ)) × ShowsChange line found × AreChanged more rest × (names ≡ listed found ++ rest)

-- this is what a memory of earlier runs knows of them
abbrev pub IsKnownIn : Memory → Finals → Type 0
IsKnownIn known finals = (finals.seen ≡ known.finals) × AreChanged known.evidence finals.changed

-- the first reply that is kept for a name, if there is one
abbrev pub IsKeptFor : List ℕ → List FinalSeen → Option FinalSeen → Type 0
IsKeptFor name [] found = found ≡ None
IsKeptFor name (seen ∷ more) found = ((seen.name ≡ name) × (found ≡ Some seen)) ⊎ ((seen.name ≢ name) × IsKeptFor name more found)

-- the evidence that is told, if there is some
abbrev pub change_told : Option Evidence → Report
change_told None = silent
change_told (Some made) = caught (evidence_text made)

-- once this was told of a name
abbrev pub with_change : List ℕ → Option Evidence → Finals → Finals
with_change name None before = before
with_change name (Some made) before = record before { changed = before.changed ++ name ∷ [] }

-- the first of two replies states a key with Final, and the second, at a later epoch, anything else
abbrev pub MayChange : ℕ → List ℕ → ℕ → List ℕ → Type 0
MayChange epoch reply later_epoch later = (epoch < later_epoch) × StateAChange reply later

-- neither is so of the reply that is kept for a name and this one
abbrev pub StayApart : FinalSeen → ℕ → List ℕ → Type 0
StayApart kept epoch reply = ¬ MayChange kept.epoch kept.reply epoch reply × ¬ MayChange epoch reply kept.epoch kept.reply

-- a reply shows nothing of the one that is kept for its name, or is not one to keep where none is
abbrev pub AddsNothing : ℕ → List ℕ → Option FinalSeen → Type 0
AddsNothing epoch bytes None = (reply : Reply) → SpellsReply bytes reply → states_final (stated reply.end) ≢ true
AddsNothing epoch bytes (Some kept) = StayApart kept epoch bytes

-- nor is anything told of a name of which a change was told before
abbrev pub ShowsNothing : List ℕ → ℕ → List ℕ → Finals → Type 0
ShowsNothing name epoch bytes finals =
    Contains finals.changed name ⊎ ((¬ Contains finals.changed name) × ((found : Option FinalSeen) × IsKeptFor name finals.seen found × AddsNothing epoch bytes found))

module _ (hash : List ℕ → List ℕ) (accepted : List ℕ → List ℕ → List ℕ → Type 0) (chain : KeyedRoots) where
  -- the evidence that the first of two replies for a name states a key with Final, and the second, at a later epoch, changes
  -- it: both with the chain's roots of their epochs
  pub record IsFinalChange (one other : FinalSeen) (broken : BrokenFinal) : Type 0 where
    pub named : broken.name ≡ one.name
    pub rooted : IsAt chain one.epoch broken.root
    pub proof : broken.proof ≡ one.reply
    pub later_rooted : IsAt chain other.epoch broken.later_root
    pub later_proof : broken.later_proof ≡ other.reply
    pub later : broken.root.body.epoch < broken.later_root.body.epoch
    pub changes : Changes hash accepted broken.name broken.root.body broken.proof broken.later_root.body broken.later_proof

  -- what two replies for a name show: that one of them changes the other, or nothing
  abbrev pub Show : FinalSeen → FinalSeen → Option Evidence → Type 0
  Show one other None = (broken : BrokenFinal) → ¬ IsFinalChange one other broken × ¬ IsFinalChange other one broken
  Show one other (Some made) = (broken : BrokenFinal) × (made ≡ evidence.Final broken) × (IsFinalChange one other broken ⊎ IsFinalChange other one broken)

  -- the reply states a key with Final, and is accepted for its name under the chain's root of its epoch
  abbrev pub IsFinalIn : FinalSeen → Type 0
  IsFinalIn seen = (root : SignedRoot) × (reply : Reply) × IsAt chain seen.epoch root × IsAcceptedReply hash accepted root.body seen.name seen.reply reply
      × (states_final (stated reply.end) ≡ true)

  -- such a reply is kept behind the others
  abbrev pub KeepsFinal : FinalSeen → Finals → Finals → Type 0
  KeepsFinal seen before after = (IsFinalIn seen × (after ≡ record before { seen = before.seen ++ seen ∷ [] })) ⊎ ((¬ IsFinalIn seen) × (after ≡ before))

  -- a reply is the first for its name, or is compared with the one that is kept, and this is told
  abbrev pub Compares : FinalSeen → Option FinalSeen → Finals → Report → Finals → Type 0
  Compares seen None before told after = (told ≡ silent) × KeepsFinal seen before after
  Compares seen (Some kept) before told after = (made : Option Evidence) × Show kept seen made × (told ≡ change_told made) × (after ≡ with_change seen.name made before)

  -- what is told of a reply: nothing of a name of which a change was told before
  abbrev pub NotesSeen : FinalSeen → Finals → Report → Finals → Type 0
  NotesSeen seen before told after =
      (Contains before.changed seen.name × (told ≡ silent) × (after ≡ before))
      ⊎ ((¬ Contains before.changed seen.name) × ((found : Option FinalSeen) × IsKeptFor seen.name before.seen found × Compares seen found before told after))

  -- what is told of bytes that came back for a name, which may be a reply
  abbrev pub NotesReply : List ℕ → List ℕ → Finals → Report → Finals → Type 0
  NotesReply name bytes before told after =
      ((reply : Reply) × SpellsReply bytes reply × NotesSeen (record { name = name; epoch = reply.body.epoch; reply = bytes }) before told after)
      ⊎ (((reply : Reply) → ¬ SpellsReply bytes reply) × (told ≡ silent) × (after ≡ before))

-- What the looks of a client for a name show: the first that a later one changes, and the first that changes it; or nothing.
abbrev pub LooksShow : (List ℕ → List ℕ) → Client → List ℕ → Option Evidence → Type 0
LooksShow hash client name None = NoneStandSo (IsChangedBy hash) (looks_for name client.looks)
LooksShow hash client name (Some made) = (broken : BrokenFinal) × (made ≡ evidence.Final broken) × IsFirstChange hash client name broken

module _ (hash : List ℕ → List ℕ) (accepted : List ℕ → List ℕ → List ℕ → Type 0) (client : Client) where
  -- then what the client's looks for the name show is told too, unless a change of it was told
  abbrev pub NotesMore : List ℕ → Finals → Report → Report → Finals → Type 0
  NotesMore name middle first told after =
      ((¬ Contains middle.changed name) × ((made : Option Evidence) × LooksShow hash client name made × (told ≡ told_after first (change_told made)) × (after ≡ with_change name made middle)))
      ⊎ (Contains middle.changed name × (told ≡ first) × (after ≡ middle))

  -- What is told of bytes that came back for a look-up of a name, which the client now has among its looks: what they show with
  -- the reply that is kept, and what the looks show. Nothing is where they were refused, which this status says.
  abbrev pub NotesLooked : List ℕ → List ℕ → ℕ → Finals → Report → Finals → Type 0
  NotesLooked name bytes status before told after =
      ((status ≡ 0) × IsName name × ((first : Report) × (middle : Finals) × NotesReply hash accepted client.chain name bytes before first middle × NotesMore name middle first told after))
      ⊎ (((status ≢ 0) ⊎ (¬ IsName name)) × (told ≡ silent) × (after ≡ before))

  -- what is told of a frame that came back for what was asked, where what was told of it before has this status
  abbrev pub NotesHeard : RequestContent → Frame → ℕ → Finals → Report → Finals → Type 0
  NotesHeard (Query (Lookup name epoch)) frame status before told after = NotesLooked name frame.body status before told after
  NotesHeard asked frame status before told after = (told ≡ silent) × (after ≡ before)
