-- Each monitor has a mark, once a state learned what is new.
use Rattle.std.proofs.Common.{◌≡◌, ◌∙◌, ℕ, zero, suc, ◌<◌, ◌≤◌, false, List, [], ◌∷◌, ◌++◌, drop, length, map, Contains, Option, Some, None, Ok, ap, arith, inl, inr, refl, subst, sym}
use Rattle.std.specs.List.{AllByRecursion, AllZip}
use Rattle.std.proofs.lemmas.List.Elements.{Contains-append_right, Contains-push}
use Rattle.textio.specs.Lines.{lines_of}
use Rattle.memory.specs.Learning.{BeginsOne, Each}
use Rattle.memory.specs.Lines.{IsSound}
use Rattle.memory.specs.Lists.{HasNoRepeat}
use Rattle.memory.specs.Memories.{name_of, Memory}
use Rattle.memory.specs.Taking.{PutsMark}
use Rattle.memory.specs.Texts.{HoldsSound, Spells, TakesAll}
use Rattle.memory.specs.declared.item.Item.{Item}
use Rattle.memory.specs.declared.item.Item.TheVariants.{Promised, Watched}
use Rattle.memory.specs.declared.kind.Kind.TheVariants.{Alarms, EvidenceLines}
use Rattle.memory.specs.declared.mark.Mark.{Mark}
use Rattle.memory.proofs.Sound.{spelled-sound, taken-sound}
use Rattle.monitor.specs.Monitors.{Monitor}
use Rattle.wire.specs.Frames.{Frame}
use Rattle.wire.specs.Requests.{RequestContent}
use Rattle.asking.specs.Catching.{Advances}
use Rattle.asking.specs.Following.{MonitorUpdates}
use Rattle.runs.specs.Keeping.{KeepsUp, SavesTo}
use Rattle.runs.specs.Marking.{AreOrdered, BeginsNoLater, HasMarkOf, StateMarks}
use Rattle.asking.specs.Scenes.{Scene}
use Rattle.asking.specs.declared.asker.Asker.{Asker}
use Rattle.runs.specs.declared.state.State.{State}
use Rattle.runs.proofs.Adding.{drop-all, kept-stay}
use Rattle.runs.proofs.GoneOn.{BeginsWell, IsBehind}
use Rattle.runs.proofs.OwnedMarks.{AllGo, GoesAs}
use Rattle.runs.proofs.OwnedRoots.{has-cases}
use Rattle.runs.proofs.PutMarks.{begun-once, begun-still, lines-stay, monitors-move, monitors-put, moved-stays, one-mark, puts-from, EachPuts, IsMoved}
use Rattle.runs.proofs.ToldScenes.{all-map}

-- ---- marks that are spelled

front-all : {A : Type 0} (P : A → Type 0) (xs ys : List A) → AllByRecursion P (xs ++ ys) → AllByRecursion P xs
front-all P [] ys all = tt
front-all P (x ∷ xs) ys all = (all.0, front-all P xs ys all.1)

back-all : {A : Type 0} (P : A → Type 0) (xs ys : List A) → AllByRecursion P (xs ++ ys) → AllByRecursion P ys
back-all P [] ys all = all
back-all P (x ∷ xs) ys all = back-all P xs ys all.1

marks-span : (marks : List Mark) → AllByRecursion IsSound (map Watched marks) → (mark : Mark) → Contains marks mark → mark.since ≤ mark.epoch
marks-span [] all mark has = absurd (omega (arith, has.1))
marks-span (first ∷ marks) all mark has = elim (has-cases first marks mark has) [
  | inl same ↦ subst (λ (m : Mark). m.since ≤ m.epoch) same all.0.1
  | inr later ↦ marks-span marks all.1 mark later
]

-- none begins above where it stands
pub spans-so : (text : List ℕ) (saved known : Memory) (unsaved : List Item) → Spells text (Ok saved) → TakesAll unsaved saved known → (mark : Mark) → Contains known.marks mark → mark.since ≤ mark.epoch
spans-so text saved known unsaved spells takes =
    let sound : HoldsSound known = taken-sound unsaved saved known takes (spelled-sound text saved spells) in
    marks-span known.marks (front-all IsSound (map Watched known.marks) _ (back-all IsSound (map Promised known.promises) _ sound))

-- where no name has two marks, each mark of a monitor's name begins before its first root, if one does
pub have-behind : (marks : List Mark) (monitor : Monitor) → HasNoRepeat (map name_of marks) → HasMarkOf marks monitor → IsBehind marks monitor
have-behind marks monitor once (mark, has, same, low) other also named first at =
    subst (λ (m : Mark). m.since < first.body.epoch) (one-mark marks mark other once has also (same ∙ sym named)) (low first at)

-- ---- new monitors get marks

puts-new : (new : Mark) (before after : List Mark) → PutsMark new before after → Contains after new
puts-new new before after (inl (front, kept, behind, is, same, be)) = subst (λ (ms : List Mark). Contains ms new) (sym be) (Contains-append_right front (new ∷ behind) new (0, omega arith, refl))
puts-new new before after (inr (none, be)) = subst (λ (ms : List Mark). Contains ms new) (sym be) (Contains-push before new)

one-marked : (monitor : Monitor) (before after : Memory) (news : List Item) → BeginsOne monitor before news after → IsBehind before.marks monitor → BeginsWell monitor → HasMarkOf after.marks monitor
one-marked monitor before after news (inl (none, (epoch, behind, ((puts, is), changes)))) low well =
    (record { name = monitor.name; since = epoch; epoch = epoch }, puts-new (record { name = monitor.name; since = epoch; epoch = epoch }) before.marks after.marks puts, refl, λ first at. well.behind epoch behind first at)
one-marked monitor before after news (inr ((mark, has, named), none, same)) low well =
    (mark, subst (λ (m : Memory). Contains m.marks mark) (sym same) has, named, λ first at. low mark has named first at)

-- and these are behind the monitors that are not before it
others-behind : (monitor other : Monitor) (before after : Memory) (news : List Item) → BeginsOne monitor before news after → BeginsWell monitor → BeginsNoLater monitor other → IsBehind before.marks other → IsBehind after.marks other
others-behind monitor other before after news (inl (none, (epoch, behind, ((puts, is), changes)))) well later low mark has same second at =
    elim (puts-from (record { name = monitor.name; since = epoch; epoch = epoch }) before.marks after.marks puts mark has) [
      | inl old ↦ low mark old same second at
      | inr new ↦
          let (first, begins) = well.some in
          let less = well.behind epoch behind first begins in
          let named : other.name ≡ monitor.name = sym same ∙ ap name_of new in
          let high = later named first second begins at in
          let since : mark.since ≡ epoch = ap (λ (m : Mark). m.since) new in
          omega (arith, since, less, high)
    ]
others-behind monitor other before after news (inr (has, none, same)) well later low mark there named second at = low mark (subst (λ (m : Memory). Contains m.marks mark) same there) named second at

rest-behind : (monitor : Monitor) (others : List Monitor) (before after : Memory) (news : List Item) → BeginsOne monitor before news after → BeginsWell monitor → AllByRecursion (BeginsNoLater monitor) others
    → AllByRecursion (IsBehind before.marks) others → AllByRecursion (IsBehind after.marks) others
rest-behind monitor [] before after news begins well later low = tt
rest-behind monitor (other ∷ others) before after news begins well later low =
    (others-behind monitor other before after news begins well later.0 low.0, rest-behind monitor others before after news begins well later.1 low.1)

each-marked : (begun : List Monitor) (before after : Memory) (news : List Item) → Each BeginsOne begun before news after → AllByRecursion (IsBehind before.marks) begun → AreOrdered begun → AllByRecursion BeginsWell begun
    → AllByRecursion (HasMarkOf after.marks) begun
each-marked [] before after news each low ordered well = tt
each-marked (monitor ∷ begun) before after news (first, middle, rest, begins, each, is) low ordered well =
    let (mark, has, named, here) = one-marked monitor before middle first begins low.0 well.0 in (
      (mark, begun-still begun middle.marks after.marks (monitors-put begun middle after rest each) mark has, named, here),
      each-marked begun middle after rest each (rest-behind monitor begun before middle first begins well.0 ordered.0 low.1) ordered.1 well.1,
    )

-- ---- those that had marks still have

kept-marked : (begun : List Monitor) (before after : Memory) (news : List Item) (monitors : List Monitor) → Each BeginsOne begun before news after → AllByRecursion (HasMarkOf before.marks) monitors → AllByRecursion (HasMarkOf after.marks) monitors
kept-marked begun before after news monitors each have =
    all-map (HasMarkOf before.marks) (HasMarkOf after.marks) monitors (λ monitor (mark, has, named, here). (mark, begun-still begun before.marks after.marks (monitors-put begun before after news each) mark has, named, here)) have

moved-marked : (all some : List Monitor) (before after : List Mark) (monitors : List Monitor) → EachPuts (IsMoved all) some before after → HasNoRepeat (map name_of before) → AllByRecursion (HasMarkOf before) monitors → AllByRecursion (HasMarkOf after) monitors
moved-marked all some before after monitors puts once have = all-map (HasMarkOf before) (HasMarkOf after) monitors (λ monitor (mark, has, same, low).
    let (next, there, named, less, far) = moved-stays all some [] before before after puts once (λ monitor now new moves old is same root among. absurd (omega (arith, among.1)))
    (λ old is. (old, is, refl, omega arith, λ root among low. low)) mark has in
    (next, there, named ∙ same, λ first at. let high = low first at in omega (arith, less, high))) have

-- the monitors that were there before, and those that are new
gone-marked : (marks : List Mark) (before after : Monitor) → GoesAs before after → HasMarkOf marks before → HasMarkOf marks after
gone-marked marks before after goes (mark, has, same, low) = (mark, has, same ∙ sym goes.0, λ first at. low first (goes.1 first at))

both-marked : (marks : List Mark) (before after : List Monitor) → AllGo before after → AllByRecursion (HasMarkOf marks) before → AllByRecursion (HasMarkOf marks) (drop (length before) after) → AllByRecursion (HasMarkOf marks) after
both-marked marks [] [] go have more = tt
both-marked marks [] (monitor ∷ after) go have more = more
both-marked marks (monitor ∷ before) [] go have more = absurd go
both-marked marks (monitor ∷ before) (monitor' ∷ after) go have more = (gone-marked marks monitor monitor' go.0 have.0, both-marked marks before after go.1 have.1 more)

-- where none is new
pub same-marked : (marks : List Mark) (before after : List Monitor) → length after ≡ length before → AllGo before after → AllByRecursion (HasMarkOf marks) before → AllByRecursion (HasMarkOf marks) after
same-marked marks [] [] many go have = tt
same-marked marks [] (monitor ∷ after) many go have = absurd (omega (arith, many))
same-marked marks (monitor ∷ before) [] many go have = absurd go
same-marked marks (monitor ∷ before) (monitor' ∷ after) many go have = (gone-marked marks monitor monitor' go.0 have.0, same-marked marks before after (omega (arith, many)) go.1 have.1)

zip-many : (hash : List ℕ → List ℕ) (verified : List ℕ → List ℕ → List ℕ → Type 0) (list : List ℕ) (before after : List Monitor) → AllZip (MonitorUpdates hash verified list) before after → length after ≡ length before
zip-many hash verified list [] [] zip = refl
zip-many hash verified list [] (monitor ∷ after) zip = absurd zip
zip-many hash verified list (monitor ∷ before) [] zip = absurd zip
zip-many hash verified list (monitor ∷ before) (monitor' ∷ after) zip = ap suc (zip-many hash verified list before after zip.1)

-- and none is new where no more lists are needed
pub advances-many : {T : Type 0} (hash : List ℕ → List ℕ) (accepted verified : List ℕ → List ℕ → List ℕ → Type 0) (exchanged : T → RequestContent → Frame → T → Type 0) (marks : List Mark) (epoch : ℕ) (before after : Scene T)
    → Advances hash accepted verified exchanged epoch before false after → length after.monitors ≡ length before.monitors
advances-many {T} hash accepted verified exchanged marks epoch before after (inl (there, same)) = ap (λ (s : Scene T). length s.monitors) same
advances-many {T} hash accepted verified exchanged marks epoch before after (inr (low, inl (inl (head, is, last, same)))) = ap (λ (s : Scene T). length s.monitors) same
advances-many {T} hash accepted verified exchanged marks epoch before after (inr (low, inl (inr (frame, stream, asks, none, same)))) = ap (λ (s : Scene T). length s.monitors) same
advances-many {T} hash accepted verified exchanged marks epoch before after (inr (low, inr ((frame, asks, (client, monitors), same, above, finals), there))) = zip-many hash verified frame.body before.monitors after.monitors monitors

drop-ordered : (count : ℕ) (monitors : List Monitor) → AreOrdered monitors → AreOrdered (drop count monitors)
drop-ordered zero [] ordered = tt
drop-ordered zero (monitor ∷ monitors) ordered = ordered
drop-ordered (suc count) [] ordered = tt
drop-ordered (suc count) (monitor ∷ monitors) ordered = drop-ordered count monitors ordered.1

-- ---- what a question leaves

-- how the monitors of a run stand to those before, and to the marks that are known
pub record AreGone (known : List Mark) (before after : List Monitor) : Type 0 where
  pub go : AllGo before after
  pub behind : AllByRecursion (IsBehind known) after
  pub ordered : AreOrdered after
  pub well : AllByRecursion BeginsWell after

-- once a state learned what is told, it has looked at all monitors, and each has a mark
pub learned-marks : {H V S : Type 0} (asker : Asker H V S) (told : List ℕ) (state : State) (after : Option State) (before : List Monitor) → KeepsUp asker told (Some state) after → HasNoRepeat (map name_of state.memory.marks)
    → AreGone state.memory.marks before asker.monitors.items → StateMarks (Some state) before → StateMarks after asker.monitors.items
learned-marks asker told state after before (middle, (kept, is, (shown, promised, marked, one, two, shows, learns, begins), head, looked, was-new, changes, finals), saves) once gone (count, have, was) =
    let monitors = asker.monitors.items in
    let (last, at, (some, moves, (alarms, moved, three, tells, marks)), heads, was, all, still, seen) = subst (λ (m : Option State). SavesTo asker told m after) is saves in
    let same : two.marks ≡ state.memory.marks = kept-stay _ asker.client.promises _ one two promised learns ∙ lines-stay EvidenceLines (lines_of told) state.memory one shown shows in
    let alike : three.marks ≡ kept.memory.marks = lines-stay Alarms (lines_of told) kept.memory three alarms tells in
    let new = drop state.monitors monitors in
    let low = subst (λ (ms : List Mark). AllByRecursion (IsBehind ms) monitors) (sym same) gone.behind in
    let had = subst (λ (ms : List Mark). AllByRecursion (HasMarkOf ms) before) (sym same) have in
    let fresh = each-marked new two kept.memory marked begins (drop-all (IsBehind two.marks) state.monitors monitors low) (drop-ordered state.monitors monitors gone.ordered) (drop-all BeginsWell state.monitors monitors gone.well) in
    let older = kept-marked new two kept.memory marked before begins had in
    let begun = both-marked kept.memory.marks before monitors gone.go older (subst (λ (n : ℕ). AllByRecursion (HasMarkOf kept.memory.marks) (drop n monitors)) count fresh) in
    let once' = begun-once new two.marks kept.memory.marks (monitors-put new two kept.memory marked begins) (subst (λ (ms : List Mark). HasNoRepeat (map name_of ms)) (sym same) once) in
    let here = moved-marked monitors some three.marks last.memory.marks monitors (monitors-move monitors some three last.memory moved marks)
    (subst (λ (ms : List Mark). HasNoRepeat (map name_of ms)) (sym alike) once') (subst (λ (ms : List Mark). AllByRecursion (HasMarkOf ms) monitors) (sym alike) begun) in
    subst (λ (s : Option State). StateMarks s monitors) (sym at) (all, here, gone.ordered)

-- a state is not lost
pub learned-lasts : {H V S : Type 0} (asker : Asker H V S) (told : List ℕ) (before after : Option State) → KeepsUp asker told before after → after ≡ None → before ≡ None
learned-lasts asker told None after kept none = refl
learned-lasts asker told (Some state) after (middle, (kept, is, learns, head, looked, was-new, changes, finals), saves) none =
    let (last, at, moves, heads, was, all, still, seen) = subst (λ (m : Option State). SavesTo asker told m after) is saves in
    absurd (some-none last after at none)
  where
    some-none : (last : State) (after : Option State) → after ≡ Some last → after ≡ None → ⊥
    some-none last after at none = cc

pub none-marked : {H V S : Type 0} (asker : Asker H V S) (told : List ℕ) (after : Option State) → KeepsUp asker told None after → StateMarks after asker.monitors.items
none-marked asker told after (middle, is, saves) =
    let none = subst (λ (m : Option State). SavesTo asker told m after) is saves in
    subst (λ (s : Option State). StateMarks s asker.monitors.items) (sym none) tt
