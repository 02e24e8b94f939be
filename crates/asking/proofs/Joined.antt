-- A monitor that joins the others.
use Rattle.std.proofs.Common.{◌≡◌, ◌≢◌, ◌∙◌, ℕ, ◌+◌, ◌<◌, ◌≤◌, Bool, true, false, if◌then◌else◌, List, [], ◌∷◌, ◌++◌, Option, None, Some, ◌↔◌, Result, Ok, Err, Global, Vec, ap, arith, codes, drop, get_or, inl, inr, length, refl, rules, subst, sym}
use Rattle.std.specs.Prelude.{OnOk}
use Rattle.std.specs.List.{list_any}
use Rattle.std.specs.Str.{bytes_eq}
use Rattle.std.proofs.lemmas.List.{drop_all, drop_more}
use Rattle.std.proofs.lemmas.List.Folds.{Any-from_list_any, list_any_at}
use Rattle.std.proofs.lemmas.Slice.Eq.{bytes_eq-Decides}
use Rattle.encoding.specs.declared.bound_key.BoundKey.{BoundKey}
use Rattle.rootchain.specs.Chains.{KeyedRoots}
use Rattle.rootchain.specs.Places.{IsNextAfter}
use Rattle.rootchain.specs.declared.signed_promise.SignedPromise.{SignedPromise}
use Rattle.rootchain.specs.declared.signed_root.SignedRoot.{SignedRoot}
use Rattle.client.specs.Clients.{Client}
use Rattle.client.specs.declared.client_refusal.Refusal.{Refusal}
use Rattle.client.specs.declared.client_refusal.Refusal.TheVariants.{Memory}
use Rattle.monitor.specs.Monitors.{Monitor}
use Rattle.wire.specs.Frames.{Frame}
use Rattle.wire.specs.Requests.{RequestContent}
use Rattle.asking.specs.declared.asker.Asker.{Asker}
use Rattle.memory.specs.declared.mark.Mark.{Mark}
use Rattle.asking.specs.declared.said.Said.{Said}
use Rattle.asking.specs.FinalBindings.{Finals}
use Rattle.asking.specs.Joining.{noted_for, AllHand, BeginsAt, WatchesNew, IsFirstAfter, IsJoined, IsLatest, IsLeftToWatch, IsUnwatched, StartsFrom, watched_told}
use Rattle.asking.specs.declared.joining.ToWatch.{ToWatch}
use Rattle.asking.specs.declared.joining.ToWatch.TheVariants.{FromRoot, Nothing}
use Rattle.asking.specs.Refused.{client_refuses}
use Rattle.asking.specs.Scenes.{Scene, scene}
use Rattle.asking.specs.Reports.{Report, Tells, report_of, told_after}
use Rattle.asking.specs.Visiting.{IsMarked, TestsNamed}
use Rattle.asking.specs.Watching.{StepsThrough}
use Rattle.asking.proofs.Going.{told_onto}

-- loops over a slice: what holds of an item and of those behind it
module _ {X : Type 0} (P : List X → Type 0) (xs : List X) (k : ℕ) where
  pub from_item : (x : X) → k < length xs → x ≡ get_or xs k x → P (x ∷ drop (k + 1) xs) → P (drop k xs)
  from_item x below is holds = subst P (sym (drop_more xs k x below)) (subst (λ (y : X). P (y ∷ drop (k + 1) xs)) is holds)

  pub at_end : length xs ≤ k → P [] → P (drop k xs)
  at_end past holds = subst P (sym (drop_all k xs past)) holds

none-some : (root : SignedRoot) (found : Option SignedRoot) → found ≡ None → found ≡ Some root → ⊥
none-some root found none some = search (rules, sym none ∙ some)

-- a chain that has no root after an epoch
pub no_next : (chain : KeyedRoots) (epoch : ℕ) (found : Option SignedRoot) → ((root : SignedRoot) → (found ≡ Some root) ↔ IsNextAfter chain epoch root) → found ≡ None → IsFirstAfter chain epoch None
no_next chain epoch found next none root after = none-some root found none ((next root).1 after)

-- what is left for the marks behind one of another name
pub left-behind : (chain : KeyedRoots) (name : List ℕ) (mark : Mark) (more : List Mark) (left : ToWatch) → mark.name ≢ name → IsLeftToWatch chain name more left → IsLeftToWatch chain name (mark ∷ more) left
left-behind chain name mark more (FromRoot first) other unwatched = inr (other, unwatched)
left-behind chain name mark more (Nothing epoch) other (unwatched, marked) = (inr (other, unwatched), inr (other, marked))

-- which promises of this run count for a name
pub marked_any : (marks : List Mark) (name : List ℕ) → IsMarked marks name → list_any (λ (mark : Mark). bytes_eq mark.name name) marks ≡ true
marked_any marks name (mark, (k, below, at), same) =
    list_any_at (λ (m : Mark). bytes_eq m.name name) marks k mark below (ap (λ (m : Mark). bytes_eq m.name name) at ∙ (bytes_eq-Decides mark.name name).1 same)

module _ (marks : List Mark) (name : List ℕ) (noted : List SignedPromise) where
  pub noted_marked : IsMarked marks name → noted ≡ noted_for marks name noted
  noted_marked marked = ap (λ (b : Bool). if b then noted else []) (sym (marked_any marks name marked))

  pub noted_unmarked : ¬ IsMarked marks name → [] ≡ noted_for marks name noted
  noted_unmarked unmarked = by (list_any (λ (m : Mark). bytes_eq m.name name) marks) refl
    where
      by : (b : Bool) → list_any (λ (m : Mark). bytes_eq m.name name) marks ≡ b → ◌≡◌ {A = List SignedPromise} [] (if b then noted else [])
      by true is = let (k, mark, below, at, same) = Any-from_list_any (λ (m : Mark). bytes_eq m.name name) marks is in absurd (unmarked (mark, (k, below, at), (bytes_eq-Decides mark.name name).0 same))
      by false is = refl

-- where there are none, none count
pub noted_empty : (marks : List Mark) (name : List ℕ) (noted : List SignedPromise) → length noted ≡ 0 → noted ≡ noted_for marks name noted
noted_empty marks name [] none = by (list_any (λ (m : Mark). bytes_eq m.name name) marks)
  where
    by : (b : Bool) → ◌≡◌ {A = List SignedPromise} [] (if b then [] else [])
    by true = refl
    by false = refl
noted_empty marks name (signed ∷ more) none = absurd (omega (arith, none))

-- the last of two lists of promises, one behind the other
module _ (marks : List Mark) (name : List ℕ) (epoch : ℕ) where
  pub latest_behind : (last middle found : Option SignedPromise) (promises more : List SignedPromise) → IsLatest marks name epoch last promises middle → IsLatest marks name epoch middle more found
      → IsLatest marks name epoch last (promises ++ more) found
  latest_behind last middle found [] more same behind = subst (λ (o : Option SignedPromise). IsLatest marks name epoch o more found) same behind
  latest_behind last middle found (signed ∷ promises) more (inl (later, latest)) behind = inl (later, latest_behind (Some signed) middle found promises more latest behind)
  latest_behind last middle found (signed ∷ promises) more (inr (not, latest)) behind = inr (not, latest_behind last middle found promises more latest behind)

-- what comes of two lists of promises that a monitor is given, one behind the other
module _ (hash : List ℕ → List ℕ) (accepted verified : List ℕ → List ℕ → List ℕ → Type 0) where
  pub hands_behind : (promises more : List SignedPromise) (before middle after : Monitor) → AllHand hash accepted verified promises before middle → AllHand hash accepted verified more middle after
      → AllHand hash accepted verified (promises ++ more) before after
  hands_behind [] more before middle after same behind = subst (λ (m : Monitor). AllHand hash accepted verified more m after) same behind
  hands_behind (signed ∷ promises) more before middle after (why, next, hands, rest) behind = (why, next, hands, hands_behind promises more next middle after rest behind)

pub scene_of : {T : Type 0} (client client' : Client) (monitors monitors' : List Monitor) (finals finals' : Finals) (told told' : Report) (stream : T)
    → client ≡ client' → monitors ≡ monitors' → finals ≡ finals' → told ≡ told'
    → ◌≡◌ {A = Scene T} (record { client = client; monitors = monitors; finals = finals; told = told; stream = stream })
    (record { client = client'; monitors = monitors'; finals = finals'; told = told'; stream = stream })
scene_of {T} client client' monitors monitors' finals finals' told told' stream one other third fourth =
    ap (λ (x : Client). let s : Scene T = record { client = x; monitors = monitors; finals = finals; told = told; stream = stream } in s) one
    ∙ ap (λ (x : List Monitor). let s : Scene T = record { client = client'; monitors = x; finals = finals; told = told; stream = stream } in s) other
    ∙ ap (λ (x : Finals). let s : Scene T = record { client = client'; monitors = monitors'; finals = x; told = told; stream = stream } in s) third
    ∙ ap (λ (x : Report). let s : Scene T = record { client = client'; monitors = monitors'; finals = finals'; told = x; stream = stream } in s) fourth

module _ {H V S T : Type 0} (hash : List ℕ → List ℕ) (accepted verified : List ℕ → List ℕ → List ℕ → Type 0) (exchanged : T → RequestContent → Frame → T → Type 0) where
  module _ (key : List ℕ) (promised : List SignedPromise) (name : List ℕ) (given : Option BoundKey) (asker : Asker H V S) (said : Said) (stream : T) (first : SignedRoot) where
    -- a monitor was added, and stepped
    pub joins : {A E : Type 0} (marks : List Mark) (result : Result A E) (added last : Asker H V S) (said' : Said) (stream' : T) (monitor : Monitor) (place : ℕ) → added.client ≡ asker.client → added.finals ≡ asker.finals
        → added.monitors.items ≡ asker.monitors.items ++ monitor ∷ [] → place ≡ length asker.monitors.items → IsJoined hash accepted verified marks key promised asker.client.chain first name given monitor
        → OnOk result ((count : ℕ) × StepsThrough hash accepted exchanged count (scene added said stream) place (scene last said' stream'))
        → OnOk result (BeginsAt hash accepted verified exchanged marks key promised name given first (scene asker said stream) (scene last said' stream'))
    joins marks (Ok done) added last said' stream' monitor place client finals monitors at begun (count, steps) =
        let same = scene_of added.client asker.client added.monitors.items (asker.monitors.items ++ monitor ∷ []) added.finals asker.finals (report_of said) (report_of said) stream client monitors finals refl in
        let here = subst (λ (n : ℕ). StepsThrough hash accepted exchanged count (scene added said stream) n (scene last said' stream')) at steps in
        inl (monitor, begun, (count, subst (λ (s : Scene T). StepsThrough hash accepted exchanged count s (length asker.monitors.items) (scene last said' stream')) same here))
    joins marks (Err fault) added last said' stream' monitor place client finals monitors at begun steps = tt

    -- a root was refused
    pub joins_not : (marks : List Mark) (last : Asker H V S) (said' : Said) (why : Refusal) → last.client ≡ asker.client → last.monitors.items ≡ asker.monitors.items → last.finals ≡ asker.finals
        → why ≢ Memory → StartsFrom hash verified asker.client.chain key first (Err why) → Tells said (client_refuses (codes "client refuses root") why) said'
        → BeginsAt hash accepted verified exchanged marks key promised name given first (scene asker said stream) (scene last said' stream)
    joins_not marks last said' why client monitors finals known starts tells = inr (
      why,
      known,
      starts,
      scene_of last.client asker.client last.monitors.items asker.monitors.items last.finals asker.finals (report_of said') (told_after (report_of said) (client_refuses (codes "client refuses root") why)) stream client monitors finals
          (told_onto said said' (client_refuses (codes "client refuses root") why) tells),
    )

    -- the watch began, and the promises of the name were tested
    pub begins : {A E : Type 0} (result : Result A E) (marks marks' : Vec Mark Global) (middle after : Scene T) → IsUnwatched asker.client.chain name marks.items (Some first) → marks' ≡ marks
        → BeginsAt hash accepted verified exchanged marks.items key promised name given first (scene asker said stream) middle → OnOk result (TestsNamed hash accepted exchanged marks'.items name middle after)
        → OnOk result (WatchesNew hash accepted verified exchanged marks.items key promised name given (scene asker said stream) after)
    begins (Ok done) marks marks' middle after unwatched same begun tests =
        inr (first, unwatched, (middle, begun, subst (λ (all : Vec Mark Global). TestsNamed hash accepted exchanged all.items name middle after) same tests))
    begins (Err fault) marks marks' middle after unwatched same begun tests = tt

  module _ (key : List ℕ) (promised : List SignedPromise) (name : List ℕ) (given : Option BoundKey) (asker : Asker H V S) (said said' : Said) (stream : T) where
    -- all was watched, which was told
    pub begins_not : (marks : List Mark) (epoch : ℕ) → IsLeftToWatch asker.client.chain name marks (Nothing epoch) → Tells said (watched_told name epoch) said'
        → WatchesNew hash accepted verified exchanged marks key promised name given (scene asker said stream) (scene asker said' stream)
    begins_not marks epoch (unwatched, marked) tells = inl (
      unwatched,
      (
        epoch,
        marked,
        scene_of asker.client asker.client asker.monitors.items asker.monitors.items asker.finals asker.finals (report_of said') (told_after (report_of said) (watched_told name epoch)) stream refl refl refl (told_onto said said' (watched_told name epoch) tells),
      ),
    )
