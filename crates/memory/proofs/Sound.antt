-- What a memory holds has lines, and nothing is there twice.
use Rattle.std.proofs.Common.{◌≢◌, ℕ, List, [], ◌∷◌, ◌++◌, map, Ok, sym, subst, inl, inr}
use Rattle.std.specs.List.{AllByRecursion}
use Rattle.rootchain.specs.declared.signed_promise.SignedPromise.{SignedPromise}
use Rattle.memory.specs.Leaving.{IsNeeded, Leaves, Settles}
use Rattle.memory.specs.Lines.{IsSound}
use Rattle.memory.specs.Lists.{Puts}
use Rattle.memory.specs.Memories.{Memory, final_name, name_of, nothing, signed_of, HoldsEachOnce}
use Rattle.memory.specs.Taking.{either, former, later, Takes}
use Rattle.memory.specs.Texts.{HoldsSound, Spells, TakesAll}
use Rattle.memory.specs.declared.alarm.Alarm.{Alarm as AlarmMade}
use Rattle.memory.specs.declared.item.Item.{Item}
use Rattle.memory.specs.declared.item.Item.TheVariants.{Promised, Watched, Final, Alarm, Evidence}
use Rattle.memory.proofs.Left.{left-all, left-no_repeat, left-once}
use Rattle.memory.proofs.OneMemory.{takes-once}
use Rattle.memory.proofs.Taken.{spelled-taken}

-- ---- lists

module _ {A : Type 0} (P : A → Type 0) where
  all-append : (xs ys : List A) → AllByRecursion P xs → AllByRecursion P ys → AllByRecursion P (xs ++ ys)
  all-append [] ys here there = there
  all-append (x ∷ xs) ys here there = (here.0, all-append xs ys here.1 there)

  all-front : (xs ys : List A) → AllByRecursion P (xs ++ ys) → AllByRecursion P xs
  all-front [] ys all = tt
  all-front (x ∷ xs) ys all = (all.0, all-front xs ys all.1)

  all-back : (xs ys : List A) → AllByRecursion P (xs ++ ys) → AllByRecursion P ys
  all-back [] ys all = all
  all-back (x ∷ xs) ys all = all-back xs ys all.1

-- the elements that were put stand for sound items
module _ {A K : Type 0} (key : A → K) (joined : A → A → A) (item : A → Item) (stays : (kept new : A) → IsSound (item kept) → IsSound (item new) → IsSound (item (joined kept new))) where
  at-place : (new : A) (front : List A) (kept : A) (behind : List A) → IsSound (item new) → AllByRecursion IsSound (map item (front ++ kept ∷ behind))
      → AllByRecursion IsSound (map item (front ++ joined kept new ∷ behind))
  at-place new [] kept behind sound all = (stays kept new all.0 sound, all.1)
  at-place new (x ∷ front) kept behind sound all = (all.0, at-place new front kept behind sound all.1)

  at-end : (new : A) (xs : List A) → IsSound (item new) → AllByRecursion IsSound (map item xs) → AllByRecursion IsSound (map item (xs ++ new ∷ []))
  at-end new [] sound all = (sound, tt)
  at-end new (x ∷ xs) sound all = (all.0, at-end new xs sound all.1)

  puts-sound : (new : A) (before after : List A) → IsSound (item new) → Puts key joined new before after → AllByRecursion IsSound (map item before) → AllByRecursion IsSound (map item after)
  puts-sound new before after sound (inl (front, kept, behind, is, same, be)) all =
      let P = λ (xs : List A). AllByRecursion IsSound (map item xs) in
      subst P (sym be) (at-place new front kept behind sound (subst P is all))
  puts-sound new before after sound (inr (none, be)) all =
      subst (λ (xs : List A). AllByRecursion IsSound (map item xs)) (sym be) (at-end new before sound all)

-- ---- the lists of a memory

record ArePartsSound (memory : Memory) : Type 0 where
  promises : AllByRecursion IsSound (map Promised memory.promises)
  marks : AllByRecursion IsSound (map Watched memory.marks)
  finals : AllByRecursion IsSound (map Final memory.finals)
  alarms : AllByRecursion IsSound (map Alarm memory.alarms)
  evidence : AllByRecursion IsSound (map Evidence memory.evidence)

parts : (memory : Memory) → HoldsSound memory → ArePartsSound memory
parts memory sound =
    let behind = all-back IsSound (map Promised memory.promises) _ sound in
    let middle = all-back IsSound (map Watched memory.marks) _ behind in
    let last = all-back IsSound (map Final memory.finals) _ middle in (
    record {
      promises = all-front IsSound (map Promised memory.promises) _ sound;
      marks = all-front IsSound (map Watched memory.marks) _ behind;
      finals = all-front IsSound (map Final memory.finals) _ middle;
      alarms = all-front IsSound (map Alarm memory.alarms) _ last;
      evidence = all-back IsSound (map Alarm memory.alarms) _ last;
    }
    )

whole : (memory : Memory) → ArePartsSound memory → HoldsSound memory
whole memory part =
    all-append IsSound (map Promised memory.promises) _ part.promises
    (all-append IsSound (map Watched memory.marks) _ part.marks
    (all-append IsSound (map Final memory.finals) _ part.finals
    (all-append IsSound (map Alarm memory.alarms) _ part.alarms part.evidence)))

-- ---- taking

takes-sound : (item : Item) (before after : Memory) → IsSound item → Takes item before after → HoldsSound before → HoldsSound after
takes-sound (Promised promised) before after sound (puts, is) holds =
    let part = parts before holds in
    let now = puts-sound signed_of either Promised (λ kept new here there. here) promised before.promises after.promises sound puts part.promises in
    subst HoldsSound (sym is) (whole (record before { promises = after.promises }) (record { promises = now; marks = part.marks; finals = part.finals; alarms = part.alarms; evidence = part.evidence }))
takes-sound (Watched mark) before after sound (puts, is) holds =
    let part = parts before holds in
    let now = puts-sound name_of later Watched (λ kept new here there. there) mark before.marks after.marks sound puts part.marks in
    subst HoldsSound (sym is) (whole (record before { marks = after.marks }) (record { promises = part.promises; marks = now; finals = part.finals; alarms = part.alarms; evidence = part.evidence }))
takes-sound (Final seen) before after sound (puts, is) holds =
    let part = parts before holds in
    let now = puts-sound final_name former Final (λ kept new here there. here) seen before.finals after.finals sound puts part.finals in
    subst HoldsSound (sym is) (whole (record before { finals = after.finals }) (record { promises = part.promises; marks = part.marks; finals = now; alarms = part.alarms; evidence = part.evidence }))
takes-sound (Alarm alarm) before after sound (puts, is) holds =
    let part = parts before holds in
    let now = puts-sound (λ (x : AlarmMade). x) later Alarm (λ kept new here there. there) alarm before.alarms after.alarms sound puts part.alarms in
    subst HoldsSound (sym is) (whole (record before { alarms = after.alarms }) (record { promises = part.promises; marks = part.marks; finals = part.finals; alarms = now; evidence = part.evidence }))
takes-sound (Evidence line) before after sound (puts, is) holds =
    let part = parts before holds in
    let now = puts-sound (λ (x : List ℕ). x) later Evidence (λ kept new here there. there) line before.evidence after.evidence sound puts part.evidence in
    subst HoldsSound (sym is) (whole (record before { evidence = after.evidence }) (record { promises = part.promises; marks = part.marks; finals = part.finals; alarms = part.alarms; evidence = now }))

pub taken-sound : (news : List Item) (before after : Memory) → TakesAll news before after → HoldsSound before → HoldsSound after
taken-sound [] before after same holds = subst HoldsSound (sym same) holds
taken-sound (item ∷ news) before after (middle, sound, takes, more) holds = taken-sound news middle after more (takes-sound item before middle sound takes holds)

pub taken-once : (news : List Item) (before after : Memory) → TakesAll news before after → HoldsEachOnce before → HoldsEachOnce after
taken-once [] before after same once = subst HoldsEachOnce (sym same) once
taken-once (item ∷ news) before after (middle, sound, takes, more) once = taken-once news middle after more (takes-once item before middle once takes)

pub spelled-sound : (text : List ℕ) (memory : Memory) → Spells text (Ok memory) → HoldsSound memory
spelled-sound text memory spells = let (news, takes) = spelled-taken text memory spells in taken-sound news nothing memory takes tt

pub spelled-once : (text : List ℕ) (memory : Memory) → Spells text (Ok memory) → HoldsEachOnce memory
spelled-once text memory spells =
    let (news, takes) = spelled-taken text memory spells in
    taken-once news nothing memory takes (record { promised = tt; watched = tt; pinned = tt; alarmed = tt; shown = tt })

-- ---- losing

pub leaves-sound : (tested : List SignedPromise) (before after : Memory) → Leaves tested before after → HoldsSound before → HoldsSound after
leaves-sound tested before after (left, is) holds =
    let part = parts before holds in
    let now = left-all (IsNeeded tested before.marks) Promised IsSound before.promises after.promises left part.promises in
    subst HoldsSound (sym is) (whole (record before { promises = after.promises }) (record { promises = now; marks = part.marks; finals = part.finals; alarms = part.alarms; evidence = part.evidence }))

pub leaves-once : (tested : List SignedPromise) (before after : Memory) → Leaves tested before after → HoldsEachOnce before → HoldsEachOnce after
leaves-once tested before after (left, is) once =
    let now = left-no_repeat (IsNeeded tested before.marks) signed_of before.promises after.promises left once.promised in
    subst HoldsEachOnce (sym is) (record { promised = now; watched = once.watched; pinned = once.pinned; alarmed = once.alarmed; shown = once.shown })

pub settles-sound : (name : List ℕ) (before after : Memory) → Settles name before after → HoldsSound before → HoldsSound after
settles-sound name before after (left, is) holds =
    let part = parts before holds in
    let now = left-all (λ (alarm : AlarmMade). alarm.name ≢ name) Alarm IsSound before.alarms after.alarms left part.alarms in
    subst HoldsSound (sym is) (whole (record before { alarms = after.alarms }) (record { promises = part.promises; marks = part.marks; finals = part.finals; alarms = now; evidence = part.evidence }))

pub settles-once : (name : List ℕ) (before after : Memory) → Settles name before after → HoldsEachOnce before → HoldsEachOnce after
settles-once name before after (left, is) once =
    let now = left-once (λ (alarm : AlarmMade). alarm.name ≢ name) before.alarms after.alarms left once.alarmed in
    subst HoldsEachOnce (sym is) (record { promised = once.promised; watched = once.watched; pinned = once.pinned; alarmed = now; shown = once.shown })
