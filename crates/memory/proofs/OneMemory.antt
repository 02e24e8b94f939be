-- A text spells one memory.
use Rattle.std.proofs.Common.{◌≡◌, ◌≢◌, ℕ, ◌+◌, List, [], ◌∷◌, ◌++◌, map, All, Result, refl, sym, ap, ap₂, subst, ◌∙◌, inl, inr}
use Rattle.std.specs.List.{AllByRecursion}
use Rattle.std.proofs.lemmas.List.{map-append, map-id}
use Rattle.std.proofs.lemmas.List.Elements.{recursion_from_All}
use Rattle.textio.specs.Lines.{lines_of}
use Rattle.memory.specs.Lists.{HasNoRepeat, Puts}
use Rattle.memory.specs.Memories.{Memory, final_name, name_of, nothing, signed_of, HoldsEachOnce}
use Rattle.memory.specs.Taking.{either, former, later, Takes}
use Rattle.memory.specs.Texts.{Recalls, Spells}
use Rattle.memory.specs.declared.alarm.Alarm.{Alarm as AlarmMade}
use Rattle.memory.specs.declared.final_seen.FinalSeen.{FinalSeen}
use Rattle.memory.specs.declared.item.Item.{Item}
use Rattle.memory.specs.declared.item.Item.TheVariants.{Promised, Watched, Final, Alarm, Evidence}
use Rattle.memory.specs.declared.mark.Mark.{Mark}
use Rattle.memory.specs.declared.promised.Promised.{Promised as PromisedMade}
use Rattle.memory.specs.declared.read_fault.ReadFault.{ReadFault}
use Rattle.memory.proofs.Joined.{push-no_repeat}
use Rattle.memory.proofs.OneItem.{one_item}

heads_same : {A : Type 0} (x y : A) (xs ys : List A) → x ∷ xs ≡ y ∷ ys → (x ≡ y) × (xs ≡ ys)
heads_same x y xs ys e = (cc, cc)

-- ---- lists

module _ {A K : Type 0} (key : A → K) where
  found_at : (P : K → Type 0) (front : List A) (kept : A) (behind : List A) → AllByRecursion P (map key (front ++ kept ∷ behind)) → P (key kept)
  found_at P [] kept behind all = all.0
  found_at P (x ∷ front) kept behind all = found_at P front kept behind all.1

  none_at : (P : A → Type 0) (front : List A) (kept : A) (behind : List A) → AllByRecursion P (front ++ kept ∷ behind) → P kept
  none_at P [] kept behind all = all.0
  none_at P (x ∷ front) kept behind all = none_at P front kept behind all.1

  -- a list without repetition has one element of a key
  split_one : (front other : List A) (kept also : A) (behind rest : List A) → HasNoRepeat (map key (front ++ kept ∷ behind)) → front ++ kept ∷ behind ≡ other ++ also ∷ rest
      → key kept ≡ key also → (front ≡ other) × (kept ≡ also) × (behind ≡ rest)
  split_one [] [] kept also behind rest once e same = let both = heads_same kept also behind rest e in (refl, both.0, both.1)
  split_one [] (y ∷ other) kept also behind rest once e same =
      let both = heads_same kept y behind (other ++ also ∷ rest) e in
      let P = λ (k : K). key kept ≢ k in
      absurd (found_at P other also rest (subst (λ (zs : List A). AllByRecursion P (map key zs)) both.1 once.0) same)
  split_one (x ∷ front) [] kept also behind rest once e same =
      let both = heads_same x also (front ++ kept ∷ behind) rest e in
      let P = λ (k : K). key x ≢ k in
      absurd (found_at P front kept behind once.0 (ap key both.0 ∙ sym same))
  split_one (x ∷ front) (y ∷ other) kept also behind rest once e same =
      let both = heads_same x y (front ++ kept ∷ behind) (other ++ also ∷ rest) e in
      let more = split_one front other kept also behind rest once.1 both.1 same in
      (ap₂ (λ (z : A) (zs : List A). z ∷ zs) both.0 more.0, more.1, more.2)

  module _ (joined : A → A → A) (new : A) where
    apart : (before front : List A) (kept : A) (behind : List A) → before ≡ front ++ kept ∷ behind → key kept ≡ key new → ¬ All (λ (k : A). key k ≢ key new) before
    apart before front kept behind is same none =
        let P = λ (k : A). key k ≢ key new in
        none_at P front kept behind (subst (AllByRecursion P) is (recursion_from_All P before none)) same

    puts_one : (before one other : List A) → HasNoRepeat (map key before) → Puts key joined new before one → Puts key joined new before other → one ≡ other
    puts_one before one other once (inl (front, kept, behind, is, same, be)) (inl (start, also, rest, this, alike, been)) =
        let split = split_one front start kept also behind rest (subst (λ (zs : List A). HasNoRepeat (map key zs)) is once) (sym is ∙ this) (same ∙ sym alike) in
        let P = λ (zs : List A). zs ++ joined kept new ∷ behind in
        let Q = λ (z : A). start ++ joined z new ∷ behind in
        let R = λ (zs : List A). start ++ joined also new ∷ zs in
        be ∙ ap P split.0 ∙ ap Q split.1 ∙ ap R split.2 ∙ sym been
    puts_one before one other once (inl (front, kept, behind, is, same, be)) (inr (none, been)) = absurd (apart before front kept behind is same none)
    puts_one before one other once (inr (none, be)) (inl (front, kept, behind, is, same, been)) = absurd (apart before front kept behind is same none)
    puts_one before one other once (inr (none, be)) (inr (never, been)) = be ∙ sym been

    puts-once : ((kept : A) → key kept ≡ key new → key (joined kept new) ≡ key kept) → (before after : List A) → HasNoRepeat (map key before) → Puts key joined new before after → HasNoRepeat (map key after)
    puts-once keeps before after once (inl (front, kept, behind, is, same, be)) =
        let P = λ (k : K). map key front ++ k ∷ map key behind in
        let keys : map key after ≡ map key before =
        ap (map key) be ∙ map-append key front (joined kept new ∷ behind) ∙ ap P (keeps kept same) ∙ sym (map-append key front (kept ∷ behind)) ∙ ap (map key) (sym is) in
        subst HasNoRepeat (sym keys) once
    puts-once keeps before after once (inr (none, be)) = subst (λ (zs : List A). HasNoRepeat (map key zs)) (sym be) (push-no_repeat key before new none once)

as_keys : {A : Type 0} (xs : List A) → HasNoRepeat xs → HasNoRepeat (map (λ (x : A). x) xs)
as_keys xs once = subst HasNoRepeat (sym (map-id xs)) once

as_list : {A : Type 0} (xs : List A) → HasNoRepeat (map (λ (x : A). x) xs) → HasNoRepeat xs
as_list xs once = subst HasNoRepeat (map-id xs) once

-- ---- memories

takes_one : (item : Item) (before one other : Memory) → HoldsEachOnce before → Takes item before one → Takes item before other → one ≡ other
takes_one (Promised promised) before one other once (p, is) (q, be) =
    is ∙ ap (λ (xs : List PromisedMade). record before { promises = xs }) (puts_one signed_of either promised before.promises one.promises other.promises once.promised p q) ∙ sym be
takes_one (Watched mark) before one other once (p, is) (q, be) =
    is ∙ ap (λ (xs : List Mark). record before { marks = xs }) (puts_one name_of later mark before.marks one.marks other.marks once.watched p q) ∙ sym be
takes_one (Final seen) before one other once (p, is) (q, be) =
    is ∙ ap (λ (xs : List FinalSeen). record before { finals = xs }) (puts_one final_name former seen before.finals one.finals other.finals once.pinned p q) ∙ sym be
takes_one (Alarm alarm) before one other once (p, is) (q, be) =
    is ∙ ap (λ (xs : List AlarmMade). record before { alarms = xs }) (puts_one (λ (x : AlarmMade). x) later alarm before.alarms one.alarms other.alarms (as_keys before.alarms once.alarmed) p q) ∙ sym be
takes_one (Evidence line) before one other once (p, is) (q, be) =
    is ∙ ap (λ (xs : List (List ℕ)). record before { evidence = xs }) (puts_one (λ (x : List ℕ). x) later line before.evidence one.evidence other.evidence (as_keys before.evidence once.shown) p q) ∙ sym be

pub takes-once : (item : Item) (before after : Memory) → HoldsEachOnce before → Takes item before after → HoldsEachOnce after
takes-once (Promised promised) before after once (p, is) =
    let now = puts-once signed_of either promised (λ kept same. refl) before.promises after.promises once.promised p in
    subst HoldsEachOnce (sym is) (record { promised = now; watched = once.watched; pinned = once.pinned; alarmed = once.alarmed; shown = once.shown })
takes-once (Watched mark) before after once (p, is) =
    let now = puts-once name_of later mark (λ kept same. sym same) before.marks after.marks once.watched p in
    subst HoldsEachOnce (sym is) (record { promised = once.promised; watched = now; pinned = once.pinned; alarmed = once.alarmed; shown = once.shown })
takes-once (Final seen) before after once (p, is) =
    let now = puts-once final_name former seen (λ kept same. refl) before.finals after.finals once.pinned p in
    subst HoldsEachOnce (sym is) (record { promised = once.promised; watched = once.watched; pinned = now; alarmed = once.alarmed; shown = once.shown })
takes-once (Alarm alarm) before after once (p, is) =
    let now = puts-once (λ (x : AlarmMade). x) later alarm (λ kept same. sym same) before.alarms after.alarms (as_keys before.alarms once.alarmed) p in
    subst HoldsEachOnce (sym is) (record { promised = once.promised; watched = once.watched; pinned = once.pinned; alarmed = as_list after.alarms now; shown = once.shown })
takes-once (Evidence line) before after once (p, is) =
    let now = puts-once (λ (x : List ℕ). x) later line (λ kept same. sym same) before.evidence after.evidence (as_keys before.evidence once.shown) p in
    subst HoldsEachOnce (sym is) (record { promised = once.promised; watched = once.watched; pinned = once.pinned; alarmed = once.alarmed; shown = as_list after.evidence now })

recalls_one : (number : ℕ) (lines : List (List ℕ)) (before : Memory) (one other : Result Memory ReadFault) → HoldsEachOnce before
    → Recalls number lines before one → Recalls number lines before other → one ≡ other
recalls_one number [] before one other once p q = p ∙ sym q
recalls_one number ([] ∷ lines) before one other once p q = recalls_one (number + 1) lines before one other once p q
recalls_one number ((byte ∷ line) ∷ lines) before one other once (inl (item, after, is, takes, p)) (inl (also, then_memory, be, took, q)) =
    let same = one_item (byte ∷ line) also item be is in
    let memory = takes_one item before then_memory after once (subst (λ (i : Item). Takes i before then_memory) same took) takes in
    recalls_one (number + 1) lines after one other (takes-once item before after once takes) p (subst (λ (m : Memory). Recalls (number + 1) lines m other) memory q)
recalls_one number ((byte ∷ line) ∷ lines) before one other once (inl (item, after, is, takes, p)) (inr (none, q)) = absurd (none item is)
recalls_one number ((byte ∷ line) ∷ lines) before one other once (inr (none, p)) (inl (item, after, is, takes, q)) = absurd (none item is)
recalls_one number ((byte ∷ line) ∷ lines) before one other once (inr (none, p)) (inr (never, q)) = p ∙ sym q

pub one_memory : (text : List ℕ) (one other : Result Memory ReadFault) → Spells text one → Spells text other → one ≡ other
one_memory text one other p q = recalls_one 1 (lines_of text) nothing one other (record { promised = tt; watched = tt; pinned = tt; alarmed = tt; shown = tt }) p q
