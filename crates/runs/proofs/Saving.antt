-- How a state stands once it learned what was told, and handed it on.
use Rattle.std.proofs.Common.{◌≡◌, ◌⊎◌, ◌||◌, ℕ, Bool, if◌then◌else◌, List, [], ◌∷◌, ◌++◌, Contains, Option, subst, sym}
use Rattle.std.specs.List.{AllByRecursion}
use Rattle.rootchain.specs.Chains.{KeyedRoots}
use Rattle.client.specs.Clients.{Client}
use Rattle.memory.specs.Learning.{Each, MarksOne}
use Rattle.memory.specs.Memories.{Memory}
use Rattle.memory.specs.Texts.{items_text, TakesAll}
use Rattle.memory.specs.declared.item.Item.{Item}
use Rattle.monitor.specs.Monitors.{Monitor}
use Rattle.runs.specs.Keeping.{MayMove}
use Rattle.rootchain.specs.declared.signed_promise.SignedPromise.{SignedPromise}
use Rattle.runs.specs.Saves.{Act, AddsLines, Found}
use Rattle.asking.specs.Scenes.{Scene}
use Rattle.runs.specs.Standing.{standing, IsKept, IsUpTo, Stands}
use Rattle.runs.proofs.Adding.{drop-among}
use Rattle.runs.proofs.AskedOwn.{moved-promises}
use Rattle.runs.proofs.PutMarks.{monitors-move, same-marks}
use Rattle.runs.proofs.Stood.{kept-handed, stands-handed, stands-moved, stands-same, unchanged-adds, unchanged-own}

-- the monitors whose marks may move are among all
pub may-among : (chain : KeyedRoots) (head : ℕ) (was_new : Bool) (known : ℕ) (monitors some : List Monitor) → MayMove chain head was_new known monitors some → AllByRecursion (Contains monitors) some
may-among chain head was_new known monitors some (is_new, new, is) = subst (AllByRecursion (Contains monitors)) (sym is) (drop-among (if is_new || was_new then 0 else known) monitors)

-- what is handed on, by the text of it
handed-as : (Before After : List Act → Type 0) (text : List ℕ) (items : List Item) (out : Option (List ℕ)) → text ≡ items_text items
    → ((acts : List Act) → Before acts → ((text ≡ []) × After acts) ⊎ After (AddsLines text out ∷ acts))
    → (acts : List Act) → Before acts → ((items_text items ≡ []) × After acts) ⊎ After (AddsLines (items_text items) out ∷ acts)
handed-as Before After text items out is goes =
    subst (λ (t : List ℕ). (acts : List Act) → Before acts → ((t ≡ []) × After acts) ⊎ After (AddsLines t out ∷ acts)) is goes

module _ (hash : List ℕ → List ℕ) (accepted verified : List ℕ → List ℕ → List ℕ → Type 0) (lines : Option (List (List ℕ))) (key : List ℕ) (start : Found) (old : List ℕ) where
  -- the same epoch and memory
  pub stands-so : (Happened : List Act → Type 0) (epoch epoch' : ℕ) (known known' : Memory) (unsaved : List Item) (out : Option (List ℕ)) (noted : List SignedPromise) (now : Scene (Unit {0})) → epoch' ≡ epoch → known' ≡ known
      → Stands hash accepted verified lines key start old Happened epoch known unsaved out noted now → Stands hash accepted verified lines key start old Happened epoch' known' unsaved out noted now
  stands-so Happened epoch epoch' known known' unsaved out noted now at same stands =
      subst (λ (e : ℕ). Stands hash accepted verified lines key start old Happened e known' unsaved out noted now) (sym at) (subst (λ (m : Memory). Stands hash accepted verified lines key start old Happened epoch m unsaved out noted now) (sym same) stands)

  pub kept-so : (Happened : List Act → Type 0) (epoch epoch' : ℕ) (known known' : Memory) (unsaved : List Item) (out : Option (List ℕ)) → epoch' ≡ epoch → known' ≡ known
      → IsKept hash accepted verified lines key start old Happened epoch known unsaved out → IsKept hash accepted verified lines key start old Happened epoch' known' unsaved out
  kept-so Happened epoch epoch' known known' unsaved out at same kept =
      subst (λ (e : ℕ). IsKept hash accepted verified lines key start old Happened e known' unsaved out) (sym at) (subst (λ (m : Memory). IsKept hash accepted verified lines key start old Happened epoch m unsaved out) (sym same) kept)

  -- alarms were learned, and then some marks moved
  pub stands-saved : (Happened : List Act → Type 0) (epoch : ℕ) (known middle known' : Memory) (out : Option (List ℕ)) (noted : List SignedPromise) (client : Client) (monitors some : List Monitor) (news alarms marks : List Item)
      → Stands hash accepted verified lines key start old Happened epoch known [] out noted (standing client monitors []) → IsUpTo client epoch → middle.marks ≡ known.marks → middle.promises ≡ known.promises → AllByRecursion (Contains monitors) some
      → Each (MarksOne monitors) some middle news known' → TakesAll alarms known middle → TakesAll marks middle known'
      → Stands hash accepted verified lines key start old Happened epoch known' (alarms ++ marks) out noted (standing client monitors [])
  stands-saved Happened epoch known middle known' out noted client monitors some news alarms marks stands up-to same promises among each taken moved =
      stands-moved hash accepted verified lines key start old Happened epoch middle alarms out noted client monitors
      (stands-same hash accepted verified lines key start old Happened epoch known [] out noted (standing client monitors []) stands middle alarms taken same (same-marks known middle same) (unchanged-own lines start.known known middle promises) (unchanged-adds noted known middle promises))
      up-to some among known' (monitors-move monitors some middle known' news each) (moved-promises monitors some middle known' news each) marks moved

  -- and handed on
  pub stands-on : (Happened Happened' : List Act → Type 0) (epoch epoch' : ℕ) (known known' : Memory) (unsaved : List Item) (text : List ℕ) (out : Option (List ℕ)) (noted : List SignedPromise) (now : Scene (Unit {0})) → epoch' ≡ epoch → known' ≡ known → text ≡ items_text unsaved
      → ((acts : List Act) → Happened acts → ((text ≡ []) × Happened' acts) ⊎ Happened' (AddsLines text out ∷ acts))
      → Stands hash accepted verified lines key start old Happened epoch known unsaved out noted now → Stands hash accepted verified lines key start old Happened' epoch' known' [] out noted now
  stands-on Happened Happened' epoch epoch' known known' unsaved text out noted now at same is goes stands =
      stands-so Happened' epoch epoch' known known' [] out noted now at same (stands-handed hash accepted verified lines key start old Happened epoch known unsaved out noted now stands Happened' (handed-as Happened Happened' text unsaved out is goes))

  pub kept-on : (Happened Happened' : List Act → Type 0) (epoch epoch' : ℕ) (known known' : Memory) (unsaved : List Item) (text : List ℕ) (out : Option (List ℕ)) → epoch' ≡ epoch → known' ≡ known → text ≡ items_text unsaved
      → ((acts : List Act) → Happened acts → ((text ≡ []) × Happened' acts) ⊎ Happened' (AddsLines text out ∷ acts))
      → IsKept hash accepted verified lines key start old Happened epoch known unsaved out → IsKept hash accepted verified lines key start old Happened' epoch' known' [] out
  kept-on Happened Happened' epoch epoch' known known' unsaved text out at same is goes kept =
      kept-so Happened' epoch epoch' known known' [] out at same (kept-handed hash accepted verified lines key start old Happened epoch known unsaved out kept Happened' (handed-as Happened Happened' text unsaved out is goes))
