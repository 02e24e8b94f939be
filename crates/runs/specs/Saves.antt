-- What a run does to the files of its state, and what these say at each time.
use Rattle.std.specs.Prelude.{◌≡◌, ◌⊎◌, ℕ, ◌<◌, ◌≤◌, true, List, [], ◌∷◌, ◌++◌, Any, Contains, Option, None, Some, Ok, ⊤, filter, map, nat_lt}
use Rattle.std.specs.List.{AllByRecursion}
use Rattle.std.specs.List.Sorted.{IsNonDecreasingBy}
use Rattle.encoding.specs.declared.bound_key.BoundKey.{BoundKey}
use Rattle.commands.specs.Operations.{asked_key}
use Rattle.commands.specs.declared.edit.Verb.{Verb}
use Rattle.rootchain.specs.Chains.{IsHead, KeyedRoots}
use Rattle.rootchain.specs.Promises.{IsSignedPromise, PromiseVerifies}
use Rattle.rootchain.specs.declared.signed_promise.SignedPromise.{SignedPromise}
use Rattle.rootchain.specs.declared.signed_root.SignedRoot.{SignedRoot}
use Rattle.memory.specs.Lists.{HasNoRepeat}
use Rattle.memory.specs.Memories.{name_of, Memory}
use Rattle.memory.specs.Texts.{HasWholeLines, Spells}
use Rattle.memory.specs.Watching.{IsAwaited}
use Rattle.memory.specs.declared.alarm.Alarm.{Alarm}
use Rattle.memory.specs.declared.final_seen.FinalSeen.{FinalSeen}
use Rattle.memory.specs.declared.mark.Mark.{Mark}
use Rattle.memory.specs.declared.promised.Promised.{Promised}
use Rattle.play.specs.Scripts.{line_of, Ask, ScriptLine, Watch}
use Rattle.wire.specs.Requests.{Put}
use Rattle.runs.specs.Told.{TellsEpoch}
use Rattle.asking.specs.declared.asker.Asker.{Asker}

-- what the files of a state have: the roots of a chain, and the text of what is remembered
pub record Stored : Type 0 where
  pub roots : List SignedRoot
  pub text : List ℕ

abbrev pub stored_nothing : Stored
stored_nothing = record { roots = []; text = [] }

-- What happens to them, with what was written to the output before it. Roots are added, or lines, or the text is written
-- anew; after a fault they may have what they had.
pub data Act : Type 0 where
  Loads : Stored → Act
  AddsRoots : List SignedRoot → Option (List ℕ) → Act
  AddsLines : List ℕ → Option (List ℕ) → Act
  Writes : List ℕ → Option (List ℕ) → Act

-- what they have after all this, the latest first
abbrev pub stored_after : List Act → Stored
stored_after [] = stored_nothing
stored_after (Loads stored ∷ acts) = stored
stored_after (AddsRoots more out ∷ acts) = record { roots = (stored_after acts).roots ++ more; text = (stored_after acts).text }
stored_after (AddsLines lines out ∷ acts) = record { roots = (stored_after acts).roots; text = (stored_after acts).text ++ lines }
stored_after (Writes text out ∷ acts) = record { roots = (stored_after acts).roots; text = text }

-- what is found in them: the roots, and the memory that the text spells
pub record Found : Type 0 where
  pub roots : List SignedRoot
  pub known : Memory

abbrev pub found_in : Stored → Memory → Found
found_in stored known = record { roots = stored.roots; known = known }

abbrev pub IsFound : Stored → Found → Type 0
IsFound stored found = (stored.roots ≡ found.roots) × Spells stored.text (Ok found.known)

-- what this asks with is loaded: the roots of its chain, and whole lines that spell what it knows
abbrev pub LoadsFor : {H V S : Type 0} → (List Act → Type 0) → (List Act → Type 0) → Asker H V S → Type 0
LoadsFor Before After asker = (text : List ℕ) × HasWholeLines text × Spells text (Ok asker.known)
    × ((acts : List Act) → Before acts → After (Loads (record { roots = asker.client.chain.roots; text = text }) ∷ acts))

-- one of these lines says this; nothing is known of it where they are not
abbrev pub IsSaid : Option (List (List ℕ)) → ScriptLine → Type 0
IsSaid None said = ⊤
IsSaid (Some lines) said = (line : List ℕ) × Contains lines line × (line_of line ≡ Some said)

-- one of these lines asks for the name to be watched, with this key or none
abbrev pub IsAsked : Option (List (List ℕ)) → List ℕ → Option BoundKey → Type 0
IsAsked lines name given = IsSaid lines (Watch name given)

-- one of these lines asks for the change that is promised
abbrev pub IsAskedChange : Option (List (List ℕ)) → SignedPromise → Type 0
IsAskedChange lines signed = (verb : Verb) × IsSaid lines (Ask (Put verb signed.promise.name (asked_key signed.promise.key)))

-- the name is the one whose alarms are settled, if those of one are
abbrev pub IsDropped : Option (List ℕ) → List ℕ → Type 0
IsDropped settled name = settled ≡ Some name

-- the promise is remembered as one for a change of the owner's own
abbrev pub WasOwn : Memory → SignedPromise → Type 0
WasOwn known signed = (promised : Promised) × Contains known.promises promised × (promised.signed ≡ signed) × (promised.is_own ≡ true)

-- the memory with these promises more
abbrev pub with_promises : Memory → List Promised → Memory
with_promises known more = record known { promises = known.promises ++ more }

-- a promise for a change of the owner's own, as it is remembered
abbrev pub own_promised : SignedPromise → Promised
own_promised signed = record { signed = signed; is_own = true }

-- the memory with these more, each of them for such a change
abbrev pub noting : Memory → List SignedPromise → Memory
noting known noted = with_promises known (map own_promised noted)

-- the promises that are held of earlier runs are those that were remembered for changes of the owner's own, by their epochs
pub record AreEarlier (known : Memory) (earlier : List SignedPromise) : Type 0 where
  pub were : AllByRecursion (WasOwn known) earlier
  pub all : (signed : SignedPromise) → WasOwn known signed → Contains earlier signed
  pub ascend : IsNonDecreasingBy (λ (signed : SignedPromise). signed.promise.epoch) earlier

-- the promise is remembered as one for a change of the owner's own, and a mark awaits it
abbrev pub Counts : Memory → SignedPromise → Type 0
Counts known signed = WasOwn known signed × Any (IsAwaited signed) known.marks

-- no epoch above the promise's had been watched for its name when the run began
abbrev pub IsAhead : Memory → SignedPromise → Type 0
IsAhead known signed = (mark : Mark) → Contains known.marks mark → mark.name ≡ signed.promise.name → mark.epoch ≤ signed.promise.epoch

-- so it is, and the promise is for a change of the owner's own
abbrev pub IsOwnAhead : (SignedPromise → Type 0) → Memory → SignedPromise → Type 0
IsOwnAhead Own known signed = Own signed × IsAhead known signed

-- the promise is signed with this key
abbrev pub IsSignedBy : (List ℕ → List ℕ → List ℕ → Type 0) → List ℕ → SignedPromise → Type 0
IsSignedBy verified key signed = IsSignedPromise signed × PromiseVerifies verified key signed

-- and it is for a change of the owner's own: one that is remembered, or that one of these lines asks for
abbrev pub IsOwnPromise : (List ℕ → List ℕ → List ℕ → Type 0) → List ℕ → Option (List (List ℕ)) → Memory → SignedPromise → Type 0
IsOwnPromise verified key lines known signed = IsSignedBy verified key signed × (WasOwn known signed ⊎ IsAskedChange lines signed)

-- the roots of later epochs than this
abbrev pub roots_above : ℕ → List SignedRoot → List SignedRoot
roots_above epoch roots = filter (λ (root : SignedRoot). nat_lt epoch root.body.epoch) roots

-- this is the epoch of the chain's head
abbrev pub IsHeadEpoch : KeyedRoots → ℕ → Type 0
IsHeadEpoch chain epoch = (head : SignedRoot) × IsHead chain head × (epoch ≡ head.body.epoch)

-- no name has two marks
abbrev pub HasOneOfEachName : Memory → Type 0
HasOneOfEachName memory = HasNoRepeat (map name_of memory.marks)

-- each of these roots up to which the first mark is, the second is too
abbrev pub IsAsFar : List SignedRoot → Mark → Mark → Type 0
IsAsFar roots old mark = (root : SignedRoot) → Contains roots root → root.body.epoch ≤ old.epoch → root.body.epoch ≤ mark.epoch

-- a mark of the same name, of which the watching begins no later, and that is as far over these roots
abbrev pub HasMark : List SignedRoot → List Mark → Mark → Type 0
HasMark roots marks old = (mark : Mark) × Contains marks mark × (mark.name ≡ old.name) × (mark.since ≤ old.since) × IsAsFar roots old mark

-- the root is an old one, whose epoch was watched for the name before
abbrev pub WasStored : Found → List ℕ → SignedRoot → Type 0
WasStored before name root = Contains before.roots root
    × ((mark : Mark) × Contains before.known.marks mark × (mark.name ≡ name) × (mark.since < root.body.epoch) × (root.body.epoch ≤ mark.epoch))

module _ (hash : List ℕ → List ℕ) (accepted : List ℕ → List ℕ → List ℕ → Type 0) (Given : List ℕ → Option BoundKey → Type 0) (Own Asked : SignedPromise → Type 0) (Drops : List ℕ → Type 0) where
  -- What is found where something else was before a run, and this text was written in it: roots are only added, and no mark
  -- that was there is lost, or goes back over a root (one between two roots may go to the lower of them); of each root above the
  -- begin of a mark, up to the mark, it was told, or the root's epoch had been watched before. What counts there are the promises
  -- for changes of the owner's own that were remembered or are now, and that a mark of before awaited. Each of them is an old one,
  -- or was asked for; and each old one that a mark awaits is still there. So is each old alarm, unless those of its name are
  -- dropped, and all old evidence, and each old reply that stated a key with Final.
  pub record KeepsTold (before : Found) (text : List ℕ) (after : Found) : Type 0 where
    pub grows : (more : List SignedRoot) × (after.roots ≡ before.roots ++ more)
    pub stays : (old : Mark) → Contains before.known.marks old → HasMark before.roots after.known.marks old
    pub told : (mark : Mark) → Contains after.known.marks mark → (root : SignedRoot) → Contains after.roots root → mark.since < root.body.epoch → root.body.epoch ≤ mark.epoch
        → TellsEpoch Given (IsOwnAhead Own before.known) (Counts (with_promises before.known after.known.promises)) hash accepted text mark.name root ⊎ WasStored before mark.name root
    pub own : (signed : SignedPromise) → WasOwn after.known signed → WasOwn before.known signed ⊎ Asked signed
    pub awaits : (signed : SignedPromise) → WasOwn before.known signed → Any (IsAwaited signed) after.known.marks → WasOwn after.known signed
    pub alarms : (alarm : Alarm) → Contains before.known.alarms alarm → Contains after.known.alarms alarm ⊎ Drops alarm.name
    pub evidence : (line : List ℕ) → Contains before.known.evidence line → Contains after.known.evidence line
    pub finals : (seen : FinalSeen) → Contains before.known.finals seen → Contains after.known.finals seen

  -- the text that is stored spells a memory, with which it is so
  abbrev pub SpellsTold : Found → List ℕ → Stored → Type 0
  SpellsTold before text stored = (known : Memory) × Spells stored.text (Ok known) × KeepsTold before text (found_in stored known)

  -- so it is after each of these acts of a run, the latest first, before which the output had this text
  abbrev pub AllKeepTold : Found → List ℕ → List Act → Type 0
  AllKeepTold before old [] = ⊥
  AllKeepTold before old (Loads stored ∷ acts) = IsFound stored before × (acts ≡ [])
  AllKeepTold before old (AddsRoots more out ∷ acts) =
      AllKeepTold before old acts × ((text : List ℕ) × (out ≡ Some (old ++ text)) × SpellsTold before text (stored_after (AddsRoots more out ∷ acts)))
  AllKeepTold before old (AddsLines lines out ∷ acts) =
      AllKeepTold before old acts × ((text : List ℕ) × (out ≡ Some (old ++ text)) × SpellsTold before text (stored_after (AddsLines lines out ∷ acts)))
  AllKeepTold before old (Writes anew out ∷ acts) =
      AllKeepTold before old acts × ((text : List ℕ) × (out ≡ Some (old ++ text)) × SpellsTold before text (stored_after (Writes anew out ∷ acts)))

-- What happened in a run to what is kept: nothing, or acts after each of which all that it had watched was told. Some lines
-- were asked under this key, the alarms of one name or of none were settled, and the output had this text before.
abbrev pub LeavesTold : (List ℕ → List ℕ) → (List ℕ → List ℕ → List ℕ → Type 0) → (List ℕ → List ℕ → List ℕ → Type 0) → Option (List (List ℕ)) → Option (List ℕ) → List ℕ → List ℕ → (List Act → Type 0) → Type 0
LeavesTold hash accepted verified lines settled key old Happened = (acts : List Act) × Happened acts × ((acts ≡ []) ⊎ ((start : Found) × AllKeepTold hash accepted (IsAsked lines) (IsOwnPromise verified key lines start.known) (IsAskedChange lines) (IsDropped settled) start old acts))
