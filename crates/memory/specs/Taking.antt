-- A memory that takes one item more.
use Rattle.std.specs.Prelude.{◌≡◌, ℕ, ◌||◌, List}
use Rattle.memory.specs.Lists.{Puts}
use Rattle.memory.specs.Memories.{Memory, final_name, name_of, signed_of}
use Rattle.memory.specs.declared.alarm.Alarm.{Alarm as AlarmMade}
use Rattle.memory.specs.declared.final_seen.FinalSeen.{FinalSeen}
use Rattle.memory.specs.declared.item.Item.{Item}
use Rattle.memory.specs.declared.item.Item.TheVariants.{Promised, Watched, Final, Alarm, Evidence}
use Rattle.memory.specs.declared.mark.Mark.{Mark}
use Rattle.memory.specs.declared.promised.Promised.{Promised as PromisedMade}

-- the same promise is the owner's own if either is
abbrev pub either : PromisedMade → PromisedMade → PromisedMade
either kept new = record { signed = kept.signed; is_own = kept.is_own || new.is_own }

-- the later of two for one key
abbrev pub later : {A : Type 0} → A → A → A
later kept new = new

-- the earlier of them
abbrev pub former : {A : Type 0} → A → A → A
former kept new = kept

abbrev pub PutsPromised : PromisedMade → List PromisedMade → List PromisedMade → Type 0
PutsPromised = Puts signed_of either

-- of two marks of one name the later counts
abbrev pub PutsMark : Mark → List Mark → List Mark → Type 0
PutsMark = Puts name_of later

-- of two replies for one name the one that was kept first counts
abbrev pub PutsFinal : FinalSeen → List FinalSeen → List FinalSeen → Type 0
PutsFinal = Puts final_name former

abbrev pub PutsAlarm : AlarmMade → List AlarmMade → List AlarmMade → Type 0
PutsAlarm = Puts (λ alarm. alarm) later

abbrev pub PutsEvidence : List ℕ → List (List ℕ) → List (List ℕ) → Type 0
PutsEvidence = Puts (λ line. line) later

-- the memory with the item
abbrev pub Takes : Item → Memory → Memory → Type 0
Takes (Promised promised) before after = PutsPromised promised before.promises after.promises × (after ≡ record before { promises = after.promises })
Takes (Watched mark) before after = PutsMark mark before.marks after.marks × (after ≡ record before { marks = after.marks })
Takes (Final seen) before after = PutsFinal seen before.finals after.finals × (after ≡ record before { finals = after.finals })
Takes (Alarm alarm) before after = PutsAlarm alarm before.alarms after.alarms × (after ≡ record before { alarms = after.alarms })
Takes (Evidence line) before after = PutsEvidence line before.evidence after.evidence × (after ≡ record before { evidence = after.evidence })
