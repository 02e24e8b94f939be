-- What an owner's client remembers.
use Rattle.std.specs.Prelude.{ℕ, List, [], map}
use Rattle.rootchain.specs.declared.signed_promise.SignedPromise.{SignedPromise}
use Rattle.memory.specs.Lists.{HasNoRepeat}
use Rattle.memory.specs.declared.alarm.Alarm.{Alarm}
use Rattle.memory.specs.declared.final_seen.FinalSeen.{FinalSeen}
use Rattle.memory.specs.declared.mark.Mark.{Mark}
use Rattle.memory.specs.declared.promised.Promised.{Promised}

pub record Memory : Type 0 where
  pub promises : List Promised
  pub marks : List Mark
  -- the first reply for a name that stated a key with Final
  pub finals : List FinalSeen
  pub alarms : List Alarm
  -- the lines of evidence
  pub evidence : List (List ℕ)

abbrev pub nothing : Memory
nothing = record { promises = []; marks = []; finals = []; alarms = []; evidence = [] }

abbrev pub signed_of : Promised → SignedPromise
signed_of promised = promised.signed

abbrev pub name_of : Mark → List ℕ
name_of mark = mark.name

abbrev pub final_name : FinalSeen → List ℕ
final_name seen = seen.name

-- no promise, no name of a mark, no name of a final binding, no alarm and no evidence is there twice
pub record HoldsEachOnce (memory : Memory) : Type 0 where
  pub promised : HasNoRepeat (map signed_of memory.promises)
  pub watched : HasNoRepeat (map name_of memory.marks)
  pub pinned : HasNoRepeat (map final_name memory.finals)
  pub alarmed : HasNoRepeat memory.alarms
  pub shown : HasNoRepeat memory.evidence
