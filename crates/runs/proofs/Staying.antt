-- Alarms, evidence and replies that stated keys with Final stay where they are remembered, but for the alarms of a name that is settled. So do promises that are kept.
use Rattle.std.proofs.Common.{◌≡◌, ◌≢◌, ◌∙◌, ◌⊎◌, ℕ, Bool, true, false, List, [], ◌∷◌, ◌++◌, map, Contains, Option, None, Some, ap, arith, inl, inr, refl, subst, sym}
use Rattle.std.specs.Prelude.{nat_eq}
use Rattle.std.specs.Cmp.Lexicographic.{pointwise, bytes_decides}
use Rattle.std.proofs.lemmas.List.Elements.{Contains-append_left}
use Rattle.rootchain.specs.declared.signed_promise.SignedPromise.{SignedPromise}
use Rattle.memory.specs.Leaving.{Leaves, Settles}
use Rattle.memory.specs.Lists.{IsLeft, Puts}
use Rattle.memory.specs.Learning.{AreGone}
use Rattle.memory.specs.Memories.{final_name, signed_of, Memory}
use Rattle.memory.specs.Taking.{former, later, Takes}
use Rattle.memory.specs.Texts.{TakesAll}
use Rattle.memory.specs.declared.alarm.Alarm.{Alarm}
use Rattle.memory.specs.declared.final_seen.FinalSeen.{FinalSeen}
use Rattle.memory.specs.declared.item.Item.{Item}
use Rattle.memory.specs.declared.item.Item.TheVariants as item
use Rattle.runs.proofs.PutMarks.{cons-cases, cons-front}

-- what an element is put into has those of before
puts-all : {A : Type 0} (new : A) (before after : List A) → Puts (λ (x : A). x) later new before after → (x : A) → Contains before x → Contains after x
puts-all {A} new before after (inl (front, kept, behind, was, same, be)) x has =
    subst (λ (xs : List A). Contains xs x) (sym be) (subst (λ (y : A). Contains (front ++ y ∷ behind) x) same (subst (λ (xs : List A). Contains xs x) was has))
puts-all {A} new before after (inr (none, be)) x has = subst (λ (xs : List A). Contains xs x) (sym be) (Contains-append_left before (new ∷ []) x has)

-- also where one stays in the place of the new one
puts-kept : {A K : Type 0} (key : A → K) (new : A) (before after : List A) → Puts key former new before after → (x : A) → Contains before x → Contains after x
puts-kept {A} key new before after (inl (front, kept, behind, was, same, be)) x has = subst (λ (xs : List A). Contains xs x) (was ∙ sym be) has
puts-kept {A} key new before after (inr (none, be)) x has = subst (λ (xs : List A). Contains xs x) (sym be) (Contains-append_left before (new ∷ []) x has)

same-alarms : (before after : Memory) → after.alarms ≡ before.alarms → (alarm : Alarm) → Contains before.alarms alarm → Contains after.alarms alarm
same-alarms before after same alarm has = subst (λ (all : List Alarm). Contains all alarm) (sym same) has

same-evidence : (before after : Memory) → after.evidence ≡ before.evidence → (line : List ℕ) → Contains before.evidence line → Contains after.evidence line
same-evidence before after same line has = subst (λ (all : List (List ℕ)). Contains all line) (sym same) has

same-finals : (before after : Memory) → after.finals ≡ before.finals → (seen : FinalSeen) → Contains before.finals seen → Contains after.finals seen
same-finals before after same seen has = subst (λ (all : List FinalSeen). Contains all seen) (sym same) has

takes-alarms : (taken : Item) (before after : Memory) → Takes taken before after → (alarm : Alarm) → Contains before.alarms alarm → Contains after.alarms alarm
takes-alarms (item.Promised new) before after (puts, is) = same-alarms before after (ap (λ (m : Memory). m.alarms) is)
takes-alarms (item.Watched new) before after (puts, is) = same-alarms before after (ap (λ (m : Memory). m.alarms) is)
takes-alarms (item.Final new) before after (puts, is) = same-alarms before after (ap (λ (m : Memory). m.alarms) is)
takes-alarms (item.Alarm new) before after (puts, is) = puts-all new before.alarms after.alarms puts
takes-alarms (item.Evidence new) before after (puts, is) = same-alarms before after (ap (λ (m : Memory). m.alarms) is)

takes-evidence : (taken : Item) (before after : Memory) → Takes taken before after → (line : List ℕ) → Contains before.evidence line → Contains after.evidence line
takes-evidence (item.Promised new) before after (puts, is) = same-evidence before after (ap (λ (m : Memory). m.evidence) is)
takes-evidence (item.Watched new) before after (puts, is) = same-evidence before after (ap (λ (m : Memory). m.evidence) is)
takes-evidence (item.Final new) before after (puts, is) = same-evidence before after (ap (λ (m : Memory). m.evidence) is)
takes-evidence (item.Alarm new) before after (puts, is) = same-evidence before after (ap (λ (m : Memory). m.evidence) is)
takes-evidence (item.Evidence new) before after (puts, is) = puts-all new before.evidence after.evidence puts

takes-finals : (taken : Item) (before after : Memory) → Takes taken before after → (seen : FinalSeen) → Contains before.finals seen → Contains after.finals seen
takes-finals (item.Promised new) before after (puts, is) = same-finals before after (ap (λ (m : Memory). m.finals) is)
takes-finals (item.Watched new) before after (puts, is) = same-finals before after (ap (λ (m : Memory). m.finals) is)
takes-finals (item.Final new) before after (puts, is) = puts-kept final_name new before.finals after.finals puts
takes-finals (item.Alarm new) before after (puts, is) = same-finals before after (ap (λ (m : Memory). m.finals) is)
takes-finals (item.Evidence new) before after (puts, is) = same-finals before after (ap (λ (m : Memory). m.finals) is)

-- so it is where more is taken
pub taken-alarms : (items : List Item) (before after : Memory) → TakesAll items before after → (alarm : Alarm) → Contains before.alarms alarm → Contains after.alarms alarm
taken-alarms [] before after same alarm has = same-alarms before after (ap (λ (m : Memory). m.alarms) same) alarm has
taken-alarms (one ∷ items) before after (middle, sound, takes, more) alarm has = taken-alarms items middle after more alarm (takes-alarms one before middle takes alarm has)

pub taken-evidence : (items : List Item) (before after : Memory) → TakesAll items before after → (line : List ℕ) → Contains before.evidence line → Contains after.evidence line
taken-evidence [] before after same line has = same-evidence before after (ap (λ (m : Memory). m.evidence) same) line has
taken-evidence (one ∷ items) before after (middle, sound, takes, more) line has = taken-evidence items middle after more line (takes-evidence one before middle takes line has)

pub taken-finals : (items : List Item) (before after : Memory) → TakesAll items before after → (seen : FinalSeen) → Contains before.finals seen → Contains after.finals seen
taken-finals [] before after same seen has = same-finals before after (ap (λ (m : Memory). m.finals) same) seen has
taken-finals (one ∷ items) before after (middle, sound, takes, more) seen has = taken-finals items middle after more seen (takes-finals one before middle takes seen has)

-- and where promises are left out
pub leaves-alarms : (tested : List SignedPromise) (before after : Memory) → Leaves tested before after → (alarm : Alarm) → Contains before.alarms alarm → Contains after.alarms alarm
leaves-alarms tested before after leaves = same-alarms before after (ap (λ (m : Memory). m.alarms) leaves.1)

pub leaves-evidence : (tested : List SignedPromise) (before after : Memory) → Leaves tested before after → (line : List ℕ) → Contains before.evidence line → Contains after.evidence line
leaves-evidence tested before after leaves = same-evidence before after (ap (λ (m : Memory). m.evidence) leaves.1)

pub leaves-finals : (tested : List SignedPromise) (before after : Memory) → Leaves tested before after → (seen : FinalSeen) → Contains before.finals seen → Contains after.finals seen
leaves-finals tested before after leaves = same-finals before after (ap (λ (m : Memory). m.finals) leaves.1)

pub settles-finals : (name : List ℕ) (before after : Memory) → Settles name before after → (seen : FinalSeen) → Contains before.finals seen → Contains after.finals seen
settles-finals name before after settles = same-finals before after (ap (λ (m : Memory). m.finals) settles.1)

pub settles-evidence : (name : List ℕ) (before after : Memory) → Settles name before after → (line : List ℕ) → Contains before.evidence line → Contains after.evidence line
settles-evidence name before after settles = same-evidence before after (ap (λ (m : Memory). m.evidence) settles.1)

not-true : (t : Bool) → t ≡ false → t ≡ true → ⊥
not-true t one other = cc

-- an alarm stays, or is one of the name
left-or : (name : List ℕ) (alarms left : List Alarm) → IsLeft (λ (alarm : Alarm). alarm.name ≢ name) alarms left → (alarm : Alarm) → Contains alarms alarm → Contains left alarm ⊎ (alarm.name ≡ name)
left-or name [] left is alarm (place, within, at) = absurd (omega (arith, within))
left-or name (first ∷ alarms) left (inl (stays, (rest, is, more))) alarm has = elim (cons-cases first alarm alarms has) [
  | inl at ↦ inl (subst (λ (all : List Alarm). Contains all alarm) (sym is) (0, omega arith, at))
  | inr there ↦ elim (left-or name alarms rest more alarm there) [
    | inl still ↦ inl (subst (λ (all : List Alarm). Contains all alarm) (sym is) (cons-front first alarm rest still))
    | inr named ↦ inr named
  ]
]
left-or name (first ∷ alarms) left (inr (goes, more)) alarm has = elim (cons-cases first alarm alarms has) [
  | inl at ↦ inr (subst (λ (a : Alarm). a.name ≡ name) at (by (pointwise nat_eq first.name name) refl))
  | inr there ↦ left-or name alarms left more alarm there
]
  where
    by : (t : Bool) → pointwise nat_eq first.name name ≡ t → first.name ≡ name
    by true is = (bytes_decides first.name name).0 is
    by false is = absurd (goes (λ same. not-true (pointwise nat_eq first.name name) is ((bytes_decides first.name name).1 same)))

pub settles-alarms : (name : List ℕ) (before after : Memory) → Settles name before after → (alarm : Alarm) → Contains before.alarms alarm → Contains after.alarms alarm ⊎ (alarm.name ≡ name)
settles-alarms name before after settles = left-or name before.alarms after.alarms settles.0

pub no-name : (name : List ℕ) → ◌≡◌ {A = Option (List ℕ)} None (Some name) → ⊥
no-name name e = cc

-- where the promises that are remembered are those that are kept, none is gone
pub none-gone : (known : Memory) (kept : List SignedPromise) → map signed_of known.promises ≡ kept → AreGone known kept []
none-gone known kept same = by (map signed_of known.promises) (λ one has. subst (λ (all : List SignedPromise). Contains all one) same has)
  where
    by : (signed : List SignedPromise) → ((one : SignedPromise) → Contains signed one → Contains kept one) → IsLeft (λ (one : SignedPromise). ¬ Contains kept one) signed []
    by [] all = refl
    by (first ∷ more) all = inr ((λ gone. gone (all first (0, omega arith, refl))), by more (λ one has. all one (cons-front first one more has)))
