-- The last epoch of what the words are about, and whether it is as late as an order wants it.
use Rattle.std.specs.Prelude.{◌≡◌, ◌≢◌, ◌⊎◌, ℕ, ◌<◌, ◌≤◌, nat_lt, if◌then◌else◌, List, [], ◌∷◌, ◌++◌, Option, Some, None, IfSome, codes, decimal}
use Rattle.commands.specs.Operations.{Head}
use Rattle.wire.specs.Requests.{Query}
use Rattle.play.specs.Scripts.{ScriptLine, Ask, Watch, line_of}
use Rattle.rootchain.specs.Chains.{IsHead}
use Rattle.rootchain.specs.declared.signed_root.SignedRoot.{SignedRoot}
use Rattle.client.specs.Clients.{Client}
use Rattle.memory.specs.Learning.{BeginsBehind}
use Rattle.memory.specs.Watching.{WatchedUpTo}
use Rattle.memory.specs.declared.mark.Mark.{Mark}
use Rattle.monitor.specs.Monitors.{Monitor}
use Rattle.runs.specs.AskOptions.{AskOptions}
use Rattle.runs.specs.Runs.{words_line}
use Rattle.asking.specs.declared.asker.Asker.{Asker}
use Rattle.runs.specs.declared.lateness.Limit.{Limit}
use Rattle.runs.specs.declared.lateness.Subject.{Subject}
use Rattle.runs.specs.declared.lateness.Subject.TheVariants as subject

-- what a line is about: a name that it watches, or the head that it asks for
abbrev pub subject_of : Option ScriptLine → Option Subject
subject_of (Some (Watch name given)) = Some (subject.Name name)
subject_of (Some (Ask (Query Head))) = Some subject.Head
subject_of _ = None

-- what the words are about; without words it is nothing
abbrev pub subject_in : List (Option (List ℕ)) → Option Subject
subject_in (Some command ∷ more) = subject_of (line_of (words_line (Some command ∷ more)))
subject_in _ = None

-- what the last epoch is wanted of, if it is
abbrev pub wanted_of : Option ℕ → List (Option (List ℕ)) → Option Subject
wanted_of None words = None
wanted_of (Some after) words = subject_in words

-- the first mark of a name is of this epoch, or it has none, and this is 0
abbrev pub IsMarkedTo : List ℕ → ℕ → List Mark → Type 0
IsMarkedTo name epoch [] = epoch ≡ 0
IsMarkedTo name epoch (mark ∷ more) = ((mark.name ≡ name) × (mark.epoch ≡ epoch)) ⊎ ((mark.name ≢ name) × IsMarkedTo name epoch more)

-- a name was watched up to this epoch: by its monitors, or where it has none as its mark says
abbrev pub IsWatchedTo : List Mark → List Monitor → List ℕ → ℕ → Type 0
IsWatchedTo marks monitors name epoch = WatchedUpTo monitors name (Some epoch) ⊎ (WatchedUpTo monitors name None × IsMarkedTo name epoch marks)

-- behind this epoch the watching of a name began: the first mark of it says so, or where it has none its first monitor; it has
-- neither, and this is 0
abbrev pub BeganBehind : List Mark → List Monitor → List ℕ → ℕ → Type 0
BeganBehind (mark ∷ more) monitors name epoch = ((mark.name ≡ name) × (epoch ≡ mark.since)) ⊎ ((mark.name ≢ name) × BeganBehind more monitors name epoch)
BeganBehind [] (monitor ∷ more) name epoch = ((monitor.name ≡ name) × BeginsBehind monitor epoch) ⊎ ((monitor.name ≢ name) × BeganBehind [] more name epoch)
BeganBehind [] [] name epoch = epoch ≡ 0

-- an epoch counts only if it is above the one behind which the watching began; the last is 0 if it does not
abbrev pub last_above : ℕ → ℕ → ℕ
last_above since epoch = if nat_lt since epoch then epoch else 0

-- The last epoch, where earlier runs left these marks: the one up to which a name was watched, if it counts; or the head's.
abbrev pub IsLast : List Mark → Client → List Monitor → Subject → ℕ → Type 0
IsLast marks client monitors (subject.Name name) last =
    (since : ℕ) × (epoch : ℕ) × BeganBehind marks monitors name since × IsWatchedTo marks monitors name epoch × (last ≡ last_above since epoch)
IsLast marks client monitors subject.Head last = (head : SignedRoot) × IsHead client.chain head × (last ≡ head.body.epoch)

-- the limit has noted such an epoch of what it is about
abbrev pub HasNotedAs : (Subject → ℕ → Type 0) → Limit → Type 0
HasNotedAs Is limit = IfSome limit.subject (λ about. (epoch : ℕ) × (limit.last ≡ Some epoch) × Is about epoch)

-- it has noted where what asks stands
abbrev pub HasNoted : {H V S : Type 0} → Asker H V S → Limit → Type 0
HasNoted asker limit = HasNotedAs (IsLast asker.marks.items asker.client asker.monitors.items) limit

-- the same limit, but for what was noted
abbrev pub IsSameLimit : Limit → Limit → Type 0
IsSameLimit before after = (after.subject ≡ before.subject) × (after.above ≡ before.above)

-- it is the limit of an order
abbrev pub IsLimitOf : AskOptions → Limit → Type 0
IsLimitOf options limit = (limit.subject ≡ wanted_of options.after options.words) × ((after : ℕ) → options.after ≡ Some after → limit.above ≡ after)

-- the line that tells the last epoch
abbrev pub stale_line : ℕ → List ℕ
stale_line epoch = codes "stale " ++ decimal epoch ++ 10 ∷ []

-- the order wants a later epoch than this one, of what its words are about
abbrev pub IsStale : AskOptions → ℕ → Type 0
IsStale options epoch = (after : ℕ) × (options.after ≡ Some after) × (epoch ≤ after) × (¬ (subject_in options.words ≡ None))

-- where a last epoch is wanted, there is such a one, and this holds of what it has to be above and of it
abbrev pub HasEpoch : AskOptions → (Subject → ℕ → Type 0) → (ℕ → ℕ → Type 0) → Type 0
HasEpoch options Is Holds = (after : ℕ) → options.after ≡ Some after → (about : Subject) → subject_in options.words ≡ Some about → (epoch : ℕ) × Is about epoch × Holds after epoch

-- what a limit finds: nothing, if none is wanted, or none is known, or the last is above it; or the last
abbrev pub Finds : Limit → Option ℕ → Type 0
Finds limit None = (limit.subject ≡ None) ⊎ ((limit.last ≡ None) ⊎ ((epoch : ℕ) × (limit.last ≡ Some epoch) × (limit.above < epoch)))
Finds limit (Some epoch) = (¬ (limit.subject ≡ None)) × (limit.last ≡ Some epoch) × (epoch ≤ limit.above)
