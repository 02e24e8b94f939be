-- The status of what is told.
use Rattle.std.proofs.Common.{◌≡◌, ◌≢◌, ◌∙◌, ℕ, ◌≤◌, suc, List, [], ◌∷◌, ap, arith, length, map, refl}
use Rattle.std.proofs.lemmas.Bool.Decides.{nat_tests}
use Rattle.client.specs.declared.client_refusal.Refusal.{Refusal}
use Rattle.client.specs.declared.client_refusal.Refusal.TheVariants.{Root, Proof, UnknownRoot, RootDiffers, Memory, NoPromise}
use Rattle.memory.specs.Memories.{Memory as Remembered}
use Rattle.memory.specs.Texts.{items_text}
use Rattle.memory.specs.declared.alarm.Alarm.{Alarm as AlarmMade}
use Rattle.memory.specs.declared.item.Item.TheVariants.{Alarm}
use Rattle.rootchain.specs.declared.evidence.RootEvidence.{RootEvidence}
use Rattle.asking.specs.Recalled.{evidence_again, status_of, TellsAlarms}
use Rattle.asking.specs.Refused.{client_refuses}
use Rattle.asking.specs.Reports.{told_after, worse, Report}

caught-many : (count : ℕ) → status_of 3 (suc count) ≡ 3
caught-many count = grind (arith, nat_tests)

-- some evidence of an earlier run
caught-some : (evidence : List (List ℕ)) → evidence ≢ [] → status_of 3 (length evidence) ≡ 3
caught-some [] some = absurd (some refl)
caught-some (line ∷ more) some = caught-many (length more)

pub caught-known : (known : Remembered) → known.evidence ≢ [] → (evidence_again known).status ≡ 3
caught-known known some = caught-some known.evidence some

-- some alarms of an earlier run
caught-alarms : (alarms : List AlarmMade) (lines : List ℕ) (count status : ℕ) → lines ≡ items_text (map Alarm alarms) → count ≡ length alarms → status ≡ status_of 3 count → lines ≢ [] → status ≡ 3
caught-alarms [] lines count status text many is some = absurd (some text)
caught-alarms (alarm ∷ more) lines count status text many is some = is ∙ ap (λ (n : ℕ). status_of 3 n) many ∙ caught-many (length more)

pub caught-told : (name : List ℕ) (known : Remembered) (told : Report) → TellsAlarms name known told → told.lines ≢ [] → told.status ≡ 3
caught-told name known told (count, (alarms, left, text, many), is) some = caught-alarms alarms told.lines count told.status text many is some

-- a refusal that is no evidence
pub refused-only : (what : List ℕ) (why : Refusal) → ((roots : RootEvidence) → why ≢ RootDiffers roots) → (client_refuses what why).status ≡ 1
refused-only what (Root why) other = refl
refused-only what (Proof why) other = refl
refused-only what UnknownRoot other = refl
refused-only what (RootDiffers roots) other = absurd (other roots refl)
refused-only what Memory other = refl
refused-only what NoPromise other = refl

-- no refusal has the status 0
pub refused-some : (what : List ℕ) (why : Refusal) → (client_refuses what why).status ≢ 0
refused-some what (Root why) = λ none. cc
refused-some what (Proof why) = λ none. cc
refused-some what UnknownRoot = λ none. cc
refused-some what (RootDiffers roots) = λ none. cc
refused-some what Memory = λ none. cc
refused-some what NoPromise = λ none. cc

-- what is told behind it
worst : (one other : ℕ) → one ≡ 3 → other ≤ 3 → worse one other ≡ 3
worst one other three most = grind arith

pub stays-caught : (before told : Report) → before.status ≡ 3 → told.status ≤ 3 → (told_after before told).status ≡ 3
stays-caught before told three most = worst before.status told.status three most
