-- What a run adds to what is remembered.
use Rattle.std.proofs.Common.{◌≡◌, ◌≢◌, ℕ, List, drop, length, Option, Some, Result, Err, Ok, refl, subst, sym, ◌∙◌}
use Rattle.std.specs.Prelude.{OnOk}
use Rattle.textio.specs.Lines.{lines_of}
use Rattle.textio.specs.declared.program_fault.ProgramFault.{ProgramFault}
use Rattle.rootchain.specs.declared.signed_promise.SignedPromise.{SignedPromise}
use Rattle.monitor.specs.Monitors.{Monitor}
use Rattle.memory.specs.Learning.{BeginsOne, Each, LearnsLine, MarksOne}
use Rattle.memory.specs.Memories.{Memory}
use Rattle.memory.specs.declared.final_seen.FinalSeen.{FinalSeen}
use Rattle.memory.specs.declared.item.Item.{Item}
use Rattle.memory.specs.declared.kind.Kind.TheVariants.{Alarms, EvidenceLines}
use Rattle.runs.specs.Keeping.{AddsTo, IsNewHead, IsSettled, KeepsUp, LearnsAfter, LearnsBefore, LearnsKept, MayMove, SavesTo}
use Rattle.runs.specs.Saves.{IsHeadEpoch}
use Rattle.asking.specs.declared.ask_fault.AskFault.{AskFault}
use Rattle.asking.specs.declared.ask_fault.AskFault.TheVariants.{OutOfMemory}
use Rattle.runs.specs.declared.run_fault.RunFault.{RunFault}
use Rattle.runs.specs.declared.run_fault.RunFault.TheVariants.{Ask, Program}
use Rattle.asking.specs.declared.asker.Asker.{Asker}
use Rattle.runs.specs.declared.state.State.{State}

pub learned_before : (own own' kept : List SignedPromise) (finals finals' : List FinalSeen) (told : List ℕ) (begun begun' : List Monitor) (a b b' c d d' : Memory) (shown promised marked : List Item)
    → Each (LearnsLine EvidenceLines) (lines_of told) a shown b → b' ≡ b → own' ≡ own → finals' ≡ finals → LearnsKept own' kept finals' b' promised c
    → begun' ≡ begun → Each BeginsOne begun' c marked d → d' ≡ d → LearnsBefore own kept finals told begun a d'
learned_before own own' kept finals finals' told begun begun' a b b' c d d' shown promised marked shows same owns seen learns begins marks last = (
  shown,
  promised,
  marked,
  b,
  c,
  shows,
  subst (λ (m : Memory). LearnsKept own kept finals m promised c) same (subst (λ (os : List SignedPromise). LearnsKept os kept finals b' promised c) owns (subst (λ (fs : List FinalSeen). LearnsKept own' kept fs b' promised c) seen learns)),
  subst (λ (m : Memory). Each BeginsOne begun c marked m) (sym last) (subst (λ (ms : List Monitor). Each BeginsOne ms c marked d) begins marks),
)

pub learned_after : (told : List ℕ) (monitors some : List Monitor) (a b c c' : Memory) (alarms marked : List Item)
    → Each (LearnsLine Alarms) (lines_of told) a alarms b → Each (MarksOne monitors) some b marked c → c' ≡ c → LearnsAfter told monitors some a c'
learned_after told monitors some a b c c' alarms marked tells marks last =
    (alarms, marked, b, tells, subst (λ (m : Memory). Each (MarksOne monitors) some b marked m) (sym last) marks)

-- both halves, around what changes no state
pub kept_up : {H V S : Type 0} (asker : Asker H V S) (told told' : List ℕ) (before first middle last : Option State) → told' ≡ told → AddsTo asker told' before first → middle ≡ first
    → SavesTo asker told' middle last → KeepsUp asker told before last
kept_up asker told told' before first middle last same adds is saves = (
  first,
  subst (λ (t : List ℕ). AddsTo asker t before first) same adds,
  subst (λ (t : List ℕ). SavesTo asker t first last) same (subst (λ (state : Option State). SavesTo asker told' state last) is saves),
)

same_fault : {A : Type 0} (one other : AskFault) → ◌≡◌ {A = Result A AskFault} (Err one) (Err other) → one ≡ other
same_fault one other e = cc

-- what a question stopped that settled was no want of memory
pub not_settled : {A B : Type 0} (asked : Result A AskFault) (result : Result B RunFault) (fault : AskFault) → asked ≡ Err fault → result ≡ Err (Ask fault) → IsSettled result → asked ≢ Err OutOfMemory
not_settled {A} {B} asked result fault is gives settled none =
    let settled' = subst (λ (r : Result B RunFault). IsSettled r) gives settled in
    let same : fault ≡ OutOfMemory = same_fault fault OutOfMemory (sym is ∙ none) in
    subst (λ (f : AskFault). IsSettled {A = B} (Err (Ask f))) same settled'

pub program_not : {B : Type 0} (result : Result B RunFault) (fault : ProgramFault) → result ≡ Err (Program fault) → IsSettled result → ⊥
program_not {B} result fault is settled = subst (λ (r : Result B RunFault). IsSettled r) is settled

all_not_err : {A E : Type 0} (done : A) (fault : E) → ◌≡◌ {A = Result A E} (Ok done) (Err fault) → ⊥
all_not_err done fault e = cc

pub was_asked : {A : Type 0} (asked : Result A AskFault) (done : A) → asked ≡ Ok done → asked ≢ Err OutOfMemory
was_asked asked done is none = all_not_err done OutOfMemory (sym is ∙ none)

-- what a state learned, and how far it looked
pub added : {A E H V S : Type 0} (result : Result A E) (asker : Asker H V S) (told : List ℕ) (before kept : State)
    → OnOk result (LearnsBefore (drop before.changes asker.changes.items) asker.client.promises (drop before.finals asker.finals.seen) told (drop before.monitors asker.monitors.items) before.memory kept.memory)
    → (kept.head ≡ before.head) × (kept.monitors ≡ before.monitors) × (kept.was_new ≡ before.was_new) → OnOk result (kept.changes ≡ length asker.changes.items) → OnOk result (kept.finals ≡ length asker.finals.seen) → OnOk result (AddsTo asker told (Some before) (Some kept))
added (Ok done) asker told before kept learns looked changes finals = (kept, refl, learns, looked.0, looked.1, looked.2, changes, finals)
added (Err fault) asker told before kept learns looked changes finals = tt

pub saved : {A E H V S : Type 0} (Enough : Type 0) (result : Result A E) (asker : Asker H V S) (told : List ℕ) (before kept : State)
    → OnOk result ((some : List Monitor) × MayMove asker.client.chain before.head before.was_new before.monitors asker.monitors.items some × LearnsAfter told asker.monitors.items some before.memory kept.memory)
    → OnOk result ((kept.monitors ≡ length asker.monitors.items) × IsHeadEpoch asker.client.chain kept.head × IsNewHead asker.client.chain before.head kept.was_new) → kept.changes ≡ before.changes → kept.finals ≡ before.finals → OnOk result (Enough → SavesTo asker told (Some before) (Some kept))
saved Enough (Ok done) asker told before kept learns looked changes finals = λ enough. (kept, refl, learns, looked.1, looked.2, looked.0, changes, finals)
saved Enough (Err fault) asker told before kept learns looked changes finals = tt
