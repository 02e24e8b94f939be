-- How the marks of a memory change in a run: one after another is put among them.
use Rattle.std.proofs.Common.{◌≡◌, ◌≢◌, ◌∙◌, ◌⊎◌, ℕ, zero, suc, ◌<◌, ◌≤◌, Bool, true, false, List, [], ◌∷◌, ◌++◌, map, All, Contains, ap, append-nil, arith, inl, inr, refl, subst, sym}
use Rattle.std.specs.Prelude.{nat_lt, if◌then◌else◌, ⊤}
use Rattle.std.specs.List.{AllByRecursion}
use Rattle.std.proofs.lemmas.Bool.{ltb-false, ltb-true}
use Rattle.std.proofs.lemmas.List.{map-append}
use Rattle.std.proofs.lemmas.List.Elements.{All-contains, Contains-append_cases, Contains-append_left, Contains-append_right}
use Rattle.rootchain.specs.declared.signed_promise.SignedPromise.{SignedPromise}
use Rattle.monitor.specs.Monitors.{Monitor}
use Rattle.memory.specs.Learning.{promised_item, BeginsBehind, BeginsOne, Each, EachOfSome, IsMarkFor, IsOfKind, LearnsLine, LearnsOne, MarksOne}
use Rattle.memory.specs.Lists.{HasNoRepeat}
use Rattle.memory.specs.Memories.{name_of, Memory}
use Rattle.memory.specs.Taking.{PutsMark, Takes}
use Rattle.memory.specs.declared.item.Item.{Item}
use Rattle.memory.specs.declared.item.Item.TheVariants.{Promised, Watched, Final, Alarm, Evidence}
use Rattle.memory.specs.declared.kind.Kind.{Kind}
use Rattle.memory.specs.declared.kind.Kind.TheVariants.{Alarms, EvidenceLines}
use Rattle.memory.specs.declared.mark.Mark.{Mark}
use Rattle.memory.proofs.Joined.{push-no_repeat}
use Rattle.rootchain.specs.declared.signed_root.SignedRoot.{SignedRoot}
use Rattle.runs.specs.Saves.{HasMark, IsAsFar}
use Rattle.runs.specs.Standing.{KeepsMarks}

-- ---- lists

pub cons-cases : {A : Type 0} (x y : A) (xs : List A) → Contains (x ∷ xs) y → (x ≡ y) ⊎ Contains xs y
cons-cases x y xs (zero, within, at) = inl at
cons-cases x y xs (suc place, within, at) = inr (place, omega (arith, within), at)

pub cons-front : {A : Type 0} (x y : A) (xs : List A) → Contains xs y → Contains (x ∷ xs) y
cons-front x y xs (place, within, at) = (suc place, omega (arith, within), at)

pub all-any : {A : Type 0} (xs : List A) → AllByRecursion (λ (x : A). ⊤) xs
all-any [] = tt
all-any (x ∷ xs) = (tt, all-any xs)

-- where no name is there twice, a name has one mark
other-names : (P : List ℕ → Type 0) (marks : List Mark) (mark : Mark) → AllByRecursion P (map name_of marks) → Contains marks mark → P mark.name
other-names P [] mark all (place, within, at) = absurd (omega (arith, within))
other-names P (first ∷ marks) mark all has = elim (cons-cases first mark marks has) [
  | inl same ↦ subst (λ (m : Mark). P m.name) same all.0
  | inr more ↦ other-names P marks mark all.1 more
]

pub one-mark : (marks : List Mark) (one other : Mark) → HasNoRepeat (map name_of marks) → Contains marks one → Contains marks other → one.name ≡ other.name → one ≡ other
one-mark [] one other once (place, within, at) also same = absurd (omega (arith, within))
one-mark (first ∷ marks) one other once has also same = elim (cons-cases first one marks has) [
  | inl is ↦ elim (cons-cases first other marks also) [
    | inl be ↦ sym is ∙ be
    | inr more ↦ absurd (other-names (λ (name : List ℕ). first.name ≢ name) marks other once.0 more (ap name_of is ∙ same))
  ]
  | inr more ↦ elim (cons-cases first other marks also) [
    | inl be ↦ absurd (other-names (λ (name : List ℕ). first.name ≢ name) marks one once.0 more (ap name_of be ∙ sym same))
    | inr others ↦ one-mark marks one other once.1 more others same
  ]
]

-- ---- one mark is put

module _ (new : Mark) (before after : List Mark) where
  -- the marks after it are old ones, or the new one
  pub puts-from : PutsMark new before after → (mark : Mark) → Contains after mark → Contains before mark ⊎ (mark ≡ new)
  puts-from (inl (front, kept, behind, is, same, be)) mark has =
      let old : List Mark = front ++ kept ∷ behind in
      elim (Contains-append_cases front (new ∷ behind) mark (subst (λ (ms : List Mark). Contains ms mark) be has)) [
        | inl first ↦ inl (subst (λ (ms : List Mark). Contains ms mark) (sym is) (Contains-append_left front (kept ∷ behind) mark first))
        | inr more ↦ elim (cons-cases new mark behind more) [
          | inl one ↦ inr (sym one)
          | inr last ↦ inl (subst (λ (ms : List Mark). Contains ms mark) (sym is) (Contains-append_right front (kept ∷ behind) mark (cons-front kept mark behind last)))
        ]
      ]
  puts-from (inr (none, be)) mark has = elim (Contains-append_cases before (new ∷ []) mark (subst (λ (ms : List Mark). Contains ms mark) be has)) [
    | inl old ↦ inl old
    | inr last ↦ elim (cons-cases new mark [] last) [
      | inl one ↦ inr (sym one)
      | inr none ↦ absurd (omega (arith, none.1))
    ]
  ]

  -- an old mark is still there, or the new one took its place
  pub puts-there : PutsMark new before after → (mark : Mark) → Contains before mark → Contains after mark ⊎ ((mark.name ≡ new.name) × Contains after new)
  puts-there (inl (front, kept, behind, is, same, be)) mark has =
      let here : Contains after new = subst (λ (ms : List Mark). Contains ms new) (sym be) (Contains-append_right front (new ∷ behind) new (0, omega arith, refl)) in
      elim (Contains-append_cases front (kept ∷ behind) mark (subst (λ (ms : List Mark). Contains ms mark) is has)) [
        | inl first ↦ inl (subst (λ (ms : List Mark). Contains ms mark) (sym be) (Contains-append_left front (new ∷ behind) mark first))
        | inr more ↦ elim (cons-cases kept mark behind more) [
          | inl one ↦ inr (sym (ap name_of one) ∙ same, here)
          | inr last ↦ inl (subst (λ (ms : List Mark). Contains ms mark) (sym be) (Contains-append_right front (new ∷ behind) mark (cons-front new mark behind last)))
        ]
      ]
  puts-there (inr (none, be)) mark has = inl (subst (λ (ms : List Mark). Contains ms mark) (sym be) (Contains-append_left before (new ∷ []) mark has))

  -- no name is there twice
  pub puts-once : PutsMark new before after → HasNoRepeat (map name_of before) → HasNoRepeat (map name_of after)
  puts-once (inl (front, kept, behind, is, same, be)) once =
      let P = λ (name : List ℕ). map name_of front ++ name ∷ map name_of behind in
      let names : map name_of after ≡ map name_of before =
      ap (map name_of) be ∙ map-append name_of front (new ∷ behind) ∙ ap P (sym same) ∙ sym (map-append name_of front (kept ∷ behind)) ∙ ap (map name_of) (sym is) in
      subst HasNoRepeat (sym names) once
  puts-once (inr (none, be)) once = subst (λ (ms : List Mark). HasNoRepeat (map name_of ms)) (sym be) (push-no_repeat name_of before new none once)

  -- where the new one is of no later beginning than that whose place it takes, and as far as the old one, no mark is lost
  pub puts-stays : (roots : List SignedRoot) → PutsMark new before after → ((mark : Mark) → Contains before mark → mark.name ≡ new.name → new.since ≤ mark.since)
      → (old : Mark) → (old.name ≡ new.name → IsAsFar roots old new) → HasMark roots before old → HasMark roots after old
  puts-stays roots puts earlier old far (mark, has, named, low, up) = elim (puts-there puts mark has) [
    | inl still ↦ (mark, still, named, low, up)
    | inr (same, here) ↦ (new, here, sym same ∙ named, omega (arith, low, earlier mark has same), far (sym named ∙ same))
  ]

-- ---- one after another is put

-- marks stay, or one that is so is put among them
abbrev pub MayPut : (List Mark → Mark → Type 0) → List Mark → List Mark → Type 0
MayPut New before after = (after ≡ before) ⊎ ((new : Mark) × New before new × PutsMark new before after)

abbrev pub EachPuts : {X : Type 0} → (X → List Mark → Mark → Type 0) → List X → List Mark → List Mark → Type 0
EachPuts New [] before after = after ≡ before
EachPuts New (x ∷ more) before after = (middle : List Mark) × MayPut (New x) before middle × EachPuts New more middle after

module _ {X : Type 0} (New : X → List Mark → Mark → Type 0) (Is : X → Type 0) (Holds : List Mark → Type 0)
    (keeps : (x : X) → Is x → (before after : List Mark) (new : Mark) → New x before new → PutsMark new before after → Holds before → Holds after) where
  -- what each keeps so is so after all
  pub each-keeps : (xs : List X) (before after : List Mark) → AllByRecursion Is xs → EachPuts New xs before after → Holds before → Holds after
  each-keeps [] before after all same holds = subst Holds (sym same) holds
  each-keeps (x ∷ xs) before after all (middle, inl same, rest) holds = each-keeps xs middle after all.1 rest (subst Holds (sym same) holds)
  each-keeps (x ∷ xs) before after all (middle, inr (new, is, puts), rest) holds = each-keeps xs middle after all.1 rest (keeps x all.0 before middle new is puts holds)

-- ---- what puts marks

-- the mark that a monitor of a name without one begins: nothing was watched yet
pub record IsBegun (monitor : Monitor) (before : List Mark) (new : Mark) : Type 0 where
  pub named : new.name ≡ monitor.name
  pub none : All (λ (mark : Mark). mark.name ≢ monitor.name) before
  pub behind : BeginsBehind monitor new.epoch
  pub empty : new.since ≡ new.epoch

pub begins-puts : (monitor : Monitor) (before after : Memory) (news : List Item) → BeginsOne monitor before news after → MayPut (IsBegun monitor) before.marks after.marks
begins-puts monitor before after news (inl (none, (epoch, behind, ((puts, is), changes)))) =
    inr (record { name = monitor.name; since = epoch; epoch = epoch }, record { named = refl; none = none; behind = behind; empty = refl }, puts)
begins-puts monitor before after news (inr (has, none, same)) = inl (ap (λ (m : Memory). m.marks) same)

-- the mark of a monitor's name that moves
abbrev pub IsMoved : List Monitor → Monitor → List Mark → Mark → Type 0
IsMoved monitors monitor before new = IsMarkFor monitors before monitor new

pub marks-puts : (monitors : List Monitor) (monitor : Monitor) (before after : Memory) (news : List Item) → MarksOne monitors monitor before news after → MayPut (IsMoved monitors monitor) before.marks after.marks
marks-puts monitors monitor before after news (inl (mark, is, ((puts, same), changes))) = inr (mark, is, puts)
marks-puts monitors monitor before after news (inr (none, nothing, same)) = inl (ap (λ (m : Memory). m.marks) same)

pub each-puts : {X : Type 0} (Does : X → Memory → List Item → Memory → Type 0) (New : X → List Mark → Mark → Type 0)
    → ((x : X) (before after : Memory) (news : List Item) → Does x before news after → MayPut (New x) before.marks after.marks)
    → (xs : List X) (before after : Memory) (news : List Item) → Each Does xs before news after → EachPuts New xs before.marks after.marks
each-puts Does New puts [] before after news (none, same) = ap (λ (m : Memory). m.marks) same
each-puts Does New puts (x ∷ xs) before after news (first, middle, rest, does, each, is) = (middle.marks, puts x before middle first does, each-puts Does New puts xs middle after rest each)

-- ---- what puts none

item-stays : (kind : Kind) (item : Item) (before after : Memory) → IsOfKind kind item → Takes item before after → after.marks ≡ before.marks
item-stays Alarms (Promised promised) before after of (puts, is) = ap (λ (m : Memory). m.marks) is
item-stays Alarms (Watched mark) before after of takes = absurd of
item-stays Alarms (Final seen) before after of (puts, is) = ap (λ (m : Memory). m.marks) is
item-stays Alarms (Alarm alarm) before after of (puts, is) = ap (λ (m : Memory). m.marks) is
item-stays Alarms (Evidence line) before after of (puts, is) = ap (λ (m : Memory). m.marks) is
item-stays EvidenceLines (Promised promised) before after of (puts, is) = ap (λ (m : Memory). m.marks) is
item-stays EvidenceLines (Watched mark) before after of takes = absurd of
item-stays EvidenceLines (Final seen) before after of (puts, is) = ap (λ (m : Memory). m.marks) is
item-stays EvidenceLines (Alarm alarm) before after of (puts, is) = ap (λ (m : Memory). m.marks) is
item-stays EvidenceLines (Evidence line) before after of (puts, is) = ap (λ (m : Memory). m.marks) is

line-stays : (kind : Kind) (line : List ℕ) (before after : Memory) (news : List Item) → LearnsLine kind line before news after → after.marks ≡ before.marks
line-stays kind line before after news (inl (item, is, of, (takes, changes))) = item-stays kind item before after of takes
line-stays kind line before after news (inr (none, nothing, same)) = ap (λ (m : Memory). m.marks) same

pub lines-stay : (kind : Kind) (lines : List (List ℕ)) (before after : Memory) (news : List Item) → Each (LearnsLine kind) lines before news after → after.marks ≡ before.marks
lines-stay kind [] before after news (none, same) = ap (λ (m : Memory). m.marks) same
lines-stay kind (line ∷ lines) before after news (first, middle, rest, learns, each, is) =
    lines-stay kind lines middle after rest each ∙ line-stays kind line before middle first learns

pub promises-stay : (own : Bool) (signed : List SignedPromise) (before after : Memory) (news : List Item) → Each LearnsOne (map (promised_item own) signed) before news after → after.marks ≡ before.marks
promises-stay own [] before after news (none, same) = ap (λ (m : Memory). m.marks) same
promises-stay own (one ∷ signed) before after news (first, middle, rest, ((puts, same), changes), each, is) =
    promises-stay own signed middle after rest each ∙ ap (λ (m : Memory). m.marks) same

-- ---- all that are put

-- no name is there twice
pub begun-once : (begun : List Monitor) (before after : List Mark) → EachPuts IsBegun begun before after → HasNoRepeat (map name_of before) → HasNoRepeat (map name_of after)
begun-once begun before after puts = each-keeps IsBegun (λ _. ⊤) (λ marks. HasNoRepeat (map name_of marks)) (λ monitor _ old now new is. puts-once new old now) begun before after (all-any begun) puts

pub moved-once : (monitors some : List Monitor) (before after : List Mark) → EachPuts (IsMoved monitors) some before after → HasNoRepeat (map name_of before) → HasNoRepeat (map name_of after)
moved-once monitors some before after puts = each-keeps (IsMoved monitors) (λ _. ⊤) (λ marks. HasNoRepeat (map name_of marks)) (λ monitor _ old now new is. puts-once new old now) some before after (all-any some) puts

-- a mark that is new before all is told is of nothing watched, whatever the monitors are, and no mark changes
pub begun-known : (begun : List Monitor) (before after : List Mark) → EachPuts IsBegun begun before after → (mark : Mark) → Contains after mark → Contains before mark ⊎ (mark.since ≡ mark.epoch)
begun-known begun before after puts =
    each-keeps IsBegun (λ _. ⊤) (λ now. (mark : Mark) → Contains now mark → Contains before mark ⊎ (mark.since ≡ mark.epoch))
    (λ monitor _ old now new is puts holds mark has. from-new old now new (is.empty) puts holds mark has) begun before after (all-any begun) puts (λ mark has. inl has)
  where
    from-new : (old now : List Mark) (new : Mark) → new.since ≡ new.epoch → PutsMark new old now → ((mark : Mark) → Contains old mark → Contains before mark ⊎ (mark.since ≡ mark.epoch))
        → (mark : Mark) → Contains now mark → Contains before mark ⊎ (mark.since ≡ mark.epoch)
    from-new old now new empty puts holds mark has = elim (puts-from new old now puts mark has) [
      | inl there ↦ holds mark there
      | inr same ↦ inr (subst (λ (m : Mark). m.since ≡ m.epoch) (sym same) empty)
    ]

pub begun-still : (begun : List Monitor) (before after : List Mark) → EachPuts IsBegun begun before after → (mark : Mark) → Contains before mark → Contains after mark
begun-still begun before after puts mark has =
    each-keeps IsBegun (λ _. ⊤) (λ now. Contains now mark) (λ monitor _ old now new is puts there. still monitor old now new is puts there) begun before after (all-any begun) puts has
  where
    still : (monitor : Monitor) (old now : List Mark) (new : Mark) → IsBegun monitor old new → PutsMark new old now → Contains old mark → Contains now mark
    still monitor old now new is puts there = elim (puts-there new old now puts mark there) [
      | inl stays ↦ stays
      | inr gone ↦ absurd (All-contains (λ (m : Mark). m.name ≢ monitor.name) old mark is.none there (gone.0 ∙ is.named))
    ]

-- of two epochs the earlier
pub earlier-of : (epoch since : ℕ) → ((epoch < since) × ((if nat_lt epoch since then epoch else since) ≡ epoch)) ⊎ ((since ≤ epoch) × ((if nat_lt epoch since then epoch else since) ≡ since))
earlier-of epoch since = by (nat_lt epoch since) refl
  where
    by : (test : Bool) → nat_lt epoch since ≡ test → ((epoch < since) × ((if nat_lt epoch since then epoch else since) ≡ epoch)) ⊎ ((since ≤ epoch) × ((if nat_lt epoch since then epoch else since) ≡ since))
    by true is = inl (ltb-true epoch since is, rw is refl)
    by false is = inr (ltb-false epoch since is, rw is refl)

not-later : (mark : Mark) (since : ℕ) → mark.since ≡ (if nat_lt mark.epoch since then mark.epoch else since) → mark.since ≤ since
not-later mark since is = elim (earlier-of mark.epoch since) [
  | inl early ↦ omega (arith, is, early.0, early.1)
  | inr late ↦ omega (arith, is, late.1)
]

-- the watching of the name begins no later
pub moved-earlier : (monitors : List Monitor) (monitor : Monitor) (before : List Mark) (new : Mark) → HasNoRepeat (map name_of before) → IsMoved monitors monitor before new
    → (mark : Mark) → Contains before mark → mark.name ≡ new.name → new.since ≤ mark.since
moved-earlier monitors monitor before new once (named, up, (since, inl (known, there, also, from), is)) mark has same =
    let one : known ≡ mark = one-mark before known mark once there has (also ∙ sym named ∙ sym same) in
    let low = not-later new since is in
    omega (arith, low, from, ap (λ (m : Mark). m.since) one)
moved-earlier monitors monitor before new once (named, up, (since, inr (none, begins), is)) mark has same =
    absurd (All-contains (λ (m : Mark). m.name ≢ monitor.name) before mark none has (same ∙ named))

-- no mark is lost, where those that move are as far as the old ones of their names
pub moved-stays : (monitors some : List Monitor) (roots : List SignedRoot) (marks before after : List Mark) → EachPuts (IsMoved monitors) some before after → HasNoRepeat (map name_of before)
    → ((monitor : Monitor) (now : List Mark) (new : Mark) → IsMoved monitors monitor now new → (old : Mark) → Contains marks old → old.name ≡ new.name → IsAsFar roots old new)
    → ((old : Mark) → Contains marks old → HasMark roots before old) → (old : Mark) → Contains marks old → HasMark roots after old
moved-stays monitors some roots marks before after puts once far stays =
    (each-keeps (IsMoved monitors) (λ _. ⊤) (λ now. HasNoRepeat (map name_of now) × ((old : Mark) → Contains marks old → HasMark roots now old))
    (λ monitor _ old now new is puts holds. (
      puts-once new old now puts holds.0,
      λ mark has. puts-stays new old now roots puts (moved-earlier monitors monitor old new holds.0 is) mark (λ same. far monitor old new is mark has same) (holds.1 mark has),
    ))
    some before after (all-any some) puts (once, stays)).1

-- ---- what a state learns

pub same-marks : (before after : Memory) → after.marks ≡ before.marks → KeepsMarks before after
same-marks before after same = record {
  known = λ mark has. inl (subst (λ (ms : List Mark). Contains ms mark) same has);
  still = λ mark has. subst (λ (ms : List Mark). Contains ms mark) (sym same) has;
  once = λ once. subst (λ (ms : List Mark). HasNoRepeat (map name_of ms)) (sym same) once;
}

pub begun-marks : (begun : List Monitor) (before after : Memory) → EachPuts IsBegun begun before.marks after.marks → KeepsMarks before after
begun-marks begun before after puts = record {
  known = begun-known begun before.marks after.marks puts;
  still = begun-still begun before.marks after.marks puts;
  once = begun-once begun before.marks after.marks puts;
}

pub marks-then : (before middle after : Memory) → KeepsMarks before middle → KeepsMarks middle after → KeepsMarks before after
marks-then before middle after one other = record {
  known = λ mark has. elim (other.known mark has) [
    | inl there ↦ one.known mark there
    | inr empty ↦ inr empty
  ];
  still = λ mark has. other.still mark (one.still mark has);
  once = λ once. other.once (one.once once);
}

-- the lines and the promises that some of them bring change no mark; nor do those of new monitors, but for new ones
pub lines-marks : (kind : Kind) (lines : List (List ℕ)) (before after : Memory) (news : List Item) → Each (LearnsLine kind) lines before news after → KeepsMarks before after
lines-marks kind lines before after news each = same-marks before after (lines-stay kind lines before after news each)

pub promises-marks : (own : Bool) (signed : List SignedPromise) (before after : Memory) (news : List Item) → Each LearnsOne (map (promised_item own) signed) before news after → KeepsMarks before after
promises-marks own signed before after news each = same-marks before after (promises-stay own signed before after news each)

pub some-lines-marks : (kind : Kind) (lines : List (List ℕ)) (before after : Memory) → EachOfSome (LearnsLine kind) lines before after → after.marks ≡ before.marks
some-lines-marks kind lines before after (done, left, news, parts, each) = lines-stay kind done before after news each

not-cons : {A : Type 0} (x : A) (xs : List A) → [] ≡ x ∷ xs → ⊥
not-cons x xs e = cc

-- each of these items is a promise
abbrev ArePromised : Bool → List Item → Type 0
ArePromised own items = AllByRecursion (λ (item : Item). (signed : SignedPromise) × (item ≡ promised_item own signed)) items

front-promised : (own : Bool) (signed : List SignedPromise) (done left : List Item) → map (promised_item own) signed ≡ done ++ left → ArePromised own done
front-promised own signed [] left parts = tt
front-promised own [] (item ∷ done) left parts = absurd (not-cons item (done ++ left) parts)
front-promised own (one ∷ signed) (item ∷ done) left parts = ((one, sym (same-head parts)), front-promised own signed done left (same-tail parts))
  where
    same-head : promised_item own one ∷ map (promised_item own) signed ≡ item ∷ (done ++ left) → promised_item own one ≡ item
    same-head e = cc

    same-tail : promised_item own one ∷ map (promised_item own) signed ≡ item ∷ (done ++ left) → map (promised_item own) signed ≡ done ++ left
    same-tail e = cc

items-stay : (own : Bool) (items : List Item) → ArePromised own items → (before after : Memory) (news : List Item) → Each LearnsOne items before news after → after.marks ≡ before.marks
items-stay own [] all before after news (none, same) = ap (λ (m : Memory). m.marks) same
items-stay own (item ∷ items) all before after news (first, middle, rest, learns, each, is) =
    items-stay own items all.1 middle after rest each ∙ promises-stay own (all.0.0 ∷ []) before middle first (first, middle, [], subst (λ (i : Item). LearnsOne i before first middle) all.0.1 learns, (refl, refl), sym (append-nil first))

pub some-promises-marks : (own : Bool) (signed : List SignedPromise) (before after : Memory) → EachOfSome LearnsOne (map (promised_item own) signed) before after → after.marks ≡ before.marks
some-promises-marks own signed before after (done, left, news, parts, each) = items-stay own done (front-promised own signed done left parts) before after news each

pub monitors-put : (begun : List Monitor) (before after : Memory) (news : List Item) → Each BeginsOne begun before news after → EachPuts IsBegun begun before.marks after.marks
monitors-put begun before after news each = each-puts BeginsOne IsBegun begins-puts begun before after news each

pub monitors-move : (monitors some : List Monitor) (before after : Memory) (news : List Item) → Each (MarksOne monitors) some before news after → EachPuts (IsMoved monitors) some before.marks after.marks
monitors-move monitors some before after news each = each-puts (MarksOne monitors) (IsMoved monitors) (marks-puts monitors) some before after news each

pub some-monitors-marks : (begun : List Monitor) (before after : Memory) → EachOfSome BeginsOne begun before after → KeepsMarks before after
some-monitors-marks begun before after (done, left, news, parts, each) = begun-marks done before after (monitors-put done before after news each)
