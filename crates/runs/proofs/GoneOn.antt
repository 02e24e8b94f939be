-- The monitors of a run go on in every step, and one that joins begins no earlier than those of its name, and behind each mark
-- of it.
use Rattle.std.proofs.Common.{◌≡◌, ◌∙◌, ◌⊎◌, ◌<◌, ◌≤◌, ℕ, zero, suc, true, false, Bool, List, [], ◌∷◌, ◌++◌, Contains, Option, Some, None, Ok, arith, ap, inl, inr, refl, slice_set, subst, sym}
use Rattle.std.specs.Prelude.{map, slice_get}
use Rattle.std.specs.List.{AllByRecursion, AllZip}
use Rattle.std.proofs.lemmas.List.Elements.{All-contains}
use Rattle.encoding.specs.declared.bound_key.BoundKey.{BoundKey}
use Rattle.commands.specs.Operations.{Lookup}
use Rattle.rootchain.specs.Chains.{IsChain, IsHead, KeyedRoots}
use Rattle.rootchain.specs.Places.{IsFirst, IsNextAfter}
use Rattle.rootchain.specs.SignedRoots.{IsSignedRoot}
use Rattle.rootchain.specs.declared.body.Body.{Body}
use Rattle.rootchain.specs.declared.signed_promise.SignedPromise.{SignedPromise}
use Rattle.rootchain.specs.declared.signed_root.SignedRoot.{SignedRoot}
use Rattle.rootchain.proofs.Places.{ends}
use Rattle.rootchain.proofs.TakingLists.{takes-chain}
use Rattle.client.specs.Clients.{Client}
use Rattle.client.specs.declared.client_refusal.Refusal.{Refusal}
use Rattle.client.proofs.Unlikes.{is-among}
use Rattle.memory.specs.Learning.{BeginsBehind}
use Rattle.memory.specs.Lists.{HasNoRepeat}
use Rattle.memory.specs.Memories.{name_of, Memory}
use Rattle.memory.specs.declared.mark.Mark.{Mark}
use Rattle.monitor.specs.Monitors.{with_change, with_watched, Monitor}
use Rattle.monitor.specs.declared.monitor_refusal.Refusal.{Refusal as MonitorRefusal}
use Rattle.play.proofs.Lists.{all-in}
use Rattle.wire.specs.Frames.{Frame}
use Rattle.wire.specs.Requests.{RequestContent, Put, Query, Turn}
use Rattle.asking.specs.Asking.{Hands, HandsAll, HandsTo, HearsOne}
use Rattle.asking.specs.Following.{asks_roots, MonitorUpdates, OneRefuses, StopsFollowing, StopsList, TakesList}
use Rattle.asking.specs.Joining.{IsJoined, IsUnwatched, Retraces, StartsFrom}
use Rattle.runs.specs.Marking.{AreOrdered, BeginsNoLater}
use Rattle.runs.specs.Owning.{IsOwn, Owns}
use Rattle.asking.specs.Reports.{Report, told_after}
use Rattle.asking.specs.Scenes.{Scene}
use Rattle.runs.specs.Told.{HasBody}
use Rattle.asking.specs.Watching.{AsksEpoch, ShowsEpoch}
use Rattle.runs.proofs.EveryStep.{EachKeeps}
use Rattle.runs.proofs.JoinedChanges.{all-more}
use Rattle.runs.proofs.OwnRoots.{some-same}
use Rattle.runs.proofs.OwnedMarks.{all-as_before, all-followed, as-before, updated-goes, AllGo, GoesAs}
use Rattle.runs.proofs.OwnedMonitors.{one-spelled}
use Rattle.runs.proofs.OwnedRoots.{all-has, head-high, next-unwatched, one-chain, taken-first, unwatched-there}
use Rattle.runs.proofs.PutMarks.{cons-front}
use Rattle.runs.proofs.ToldScenes.{all-map, all-push, all-zip, stays-change, stays-step}

-- ---- monitors that go on in one step

-- what is so of a monitor and the one that it becomes, where this is so of it
pub record Going (hash : List ℕ → List ℕ) (verified : List ℕ → List ℕ → List ℕ → Type 0) (Goes : Monitor → Monitor → Type 0) (Is : Monitor → Type 0) : Type 0 where
  pub same : (monitor : Monitor) → Goes monitor monitor
  pub updates : (list : List ℕ) (before after : Monitor) → Is before → MonitorUpdates hash verified list before after → Goes before after
  pub changes : (before : Monitor) (signed : SignedPromise) → Goes before (with_change before signed)
  pub watches : (before : Monitor) (epoch : ℕ) (reply : List ℕ) → Goes before (with_watched before epoch reply)

module _ (hash : List ℕ → List ℕ) (accepted verified : List ℕ → List ℕ → List ℕ → Type 0) {Goes : Monitor → Monitor → Type 0} {Is : Monitor → Type 0} (going : Going hash verified Goes Is) where
  still-goes : (before after : Monitor) → after ≡ before → Goes before after
  still-goes before after same = subst (Goes before) (sym same) (going.same before)

  same-go : (monitors : List Monitor) → AllZip Goes monitors monitors
  same-go [] = tt
  same-go (monitor ∷ monitors) = (going.same monitor, same-go monitors)

  pub still-go : (before after : List Monitor) → after ≡ before → AllZip Goes before after
  still-go before after same = subst (AllZip Goes before) (sym same) (same-go before)

  set-goes : (monitors : List Monitor) (place : ℕ) (before after : Monitor) → slice_get monitors place ≡ Some before → Goes before after → AllZip Goes monitors (slice_set monitors place after)
  set-goes [] place before after at goes = tt
  set-goes (monitor ∷ monitors) zero before after at goes =
      let one : monitor ≡ before = cc in
      (subst (λ (m : Monitor). Goes m after) (sym one) goes, same-go monitors)
  set-goes (monitor ∷ monitors) (suc place) before after at goes = (going.same monitor, set-goes monitors place before after at goes)

  zip-goes : (list : List ℕ) (before after : List Monitor) → AllZip (MonitorUpdates hash verified list) before after → AllByRecursion Is before → AllZip Goes before after
  zip-goes list [] [] zip all = tt
  zip-goes list [] (monitor ∷ after) zip all = absurd zip
  zip-goes list (monitor ∷ before) [] zip all = absurd zip
  zip-goes list (monitor ∷ before) (monitor' ∷ after) (updates, zip) all = (going.updates list monitor monitor' all.0 updates, zip-goes list before after zip all.1)

  refused-goes : (list : List ℕ) (before : List Monitor) (why : Refusal) (after : List Monitor) → OneRefuses hash verified list before why after → AllByRecursion Is before → AllZip Goes before after
  refused-goes list [] why after refuses all = absurd refuses
  refused-goes list (monitor ∷ before) why [] refuses all = absurd refuses
  refused-goes list (monitor ∷ before) why (monitor' ∷ after) (inl (refuses, same, rest)) all = (still-goes monitor monitor' same, still-go before after rest)
  refused-goes list (monitor ∷ before) why (monitor' ∷ after) (inr (updates, more)) all = (going.updates list monitor monitor' all.0 updates, refused-goes list before why after more all.1)

  stopped-goes : (asked : RequestContent) (client : Client) (before : List Monitor) (frame : Frame) (told : Report) (client' : Client) (after : List Monitor)
      → StopsFollowing hash verified asked client before frame told client' after → AllByRecursion Is before → AllZip Goes before after
  stopped-goes asked client before frame told client' after (inl (missed, same, others)) all = still-go before after others
  stopped-goes asked client before frame told client' after (inr (answers, inl (why, inl (refuses, same, others), tells))) all = still-go before after others
  stopped-goes asked client before frame told client' after (inr (answers, inl (why, inr (updates, refuses), tells))) all = refused-goes frame.body before why after refuses all
  stopped-goes asked client before frame told client' after (inr (answers, inr ((some, (updates, monitors), none), tells))) all = zip-goes frame.body before after monitors all

  handed-goes : (signed : SignedPromise) (promise : List ℕ) (before : Monitor) (why : Option MonitorRefusal) (after : Monitor) → HandsTo hash accepted verified signed promise before why after → Goes before after
  handed-goes signed promise before None after (inl (named, (given, is, same))) = subst (Goes before) (sym same) (going.changes before given)
  handed-goes signed promise before None after (inr (other, same)) = still-goes before after same
  handed-goes signed promise before (Some why) after (named, enough, expects) = still-goes before after (stays-change hash accepted verified before signed.promise.key promise why after expects)

  all-handed : (signed : SignedPromise) (promise : List ℕ) (before : List Monitor) (told told' : Report) (after : List Monitor) → HandsAll hash accepted verified signed promise before told told' after → AllZip Goes before after
  all-handed signed promise [] told told' [] hands = tt
  all-handed signed promise [] told told' (monitor ∷ after) hands = absurd hands
  all-handed signed promise (monitor ∷ before) told told' [] hands = absurd hands
  all-handed signed promise (monitor ∷ before) told told' (monitor' ∷ after) (why, one, rest) = (handed-goes signed promise monitor why monitor' one, all-handed signed promise before _ told' after rest)

  hands-go : (asked : RequestContent) (promise : List ℕ) (kept kept' : List SignedPromise) (before : List Monitor) (told : Report) (after : List Monitor) → Hands hash accepted verified asked promise kept kept' before told after → AllZip Goes before after
  hands-go (Put verb name key) promise kept kept' before told after (inl (few, silent-is, same)) = still-go before after same
  hands-go (Put verb name key) promise kept kept' before told after (inr (more, (signed, at, hands))) = all-handed signed promise before _ told after hands
  hands-go (Query query) promise kept kept' before told after (silent-is, same) = still-go before after same
  hands-go (Turn token epoch _) promise kept kept' before told after (silent-is, same) = still-go before after same

  shown-goes : (before : Monitor) (epoch : ℕ) (asked : RequestContent) (frame : Frame) (went : Bool) (told : Report) (after : Monitor) → ShowsEpoch hash accepted before epoch asked frame went told after → Goes before after
  shown-goes before epoch asked frame went told after (inl (missed, not, same)) = still-goes before after same
  shown-goes before epoch asked frame true told after (inr (answers, (step, (root, reply, found, says, same), tells))) = subst (Goes before) (sym same) (going.watches before root.body.epoch frame.body)
  shown-goes before epoch asked frame false told after (inr (answers, (why, enough, steps, tells))) = still-goes before after (stays-step hash accepted verified before frame.body why after enough steps)

  module _ {T : Type 0} (exchanged : T → RequestContent → Frame → T → Type 0) (before after : Scene T) where
    pub take-goes : TakesList hash verified exchanged before true after → AllByRecursion Is before.monitors → AllZip Goes before.monitors after.monitors
    take-goes (frame, asks, (client, monitors), same, above, finals) all = zip-goes frame.body before.monitors after.monitors monitors all

    pub stop-goes : StopsList hash verified exchanged before after → AllByRecursion Is before.monitors → AllZip Goes before.monitors after.monitors
    stop-goes (head, is, frame, exchange, told, stops, tells, finals) all = stopped-goes (asks_roots head) before.client before.monitors frame told after.client after.monitors stops all

    pub step-goes : (place : ℕ) (went : Bool) → AsksEpoch hash accepted exchanged before place went after → AllZip Goes before.monitors after.monitors
    step-goes place went asks = subst (AllZip Goes before.monitors) (sym asks.monitors) (set-goes before.monitors place asks.monitor asks.watched asks.at
        (shown-goes asks.monitor asks.epoch (Query (Lookup asks.monitor.name asks.epoch)) asks.frame went asks.told asks.watched asks.shows))

    pub hear-goes : (held : ℕ) (asked : RequestContent) (frame : Frame) → HearsOne hash accepted verified exchanged held asked frame before after → AllZip Goes before.monitors after.monitors
    hear-goes held asked frame hears = hands-go asked frame.body before.client.promises after.client.promises before.monitors hears.handed after.monitors hears.hands

-- ---- each keeps its name, and the first root of its chain

abbrev HasChain : (List ℕ → List ℕ) → (List ℕ → List ℕ → List ℕ → Type 0) → Monitor → Type 0
HasChain hash verified monitor = IsChain hash verified monitor.client.chain

go-as : (hash : List ℕ → List ℕ) (verified : List ℕ → List ℕ → List ℕ → Type 0) → Going hash verified GoesAs (HasChain hash verified)
go-as hash verified = record {
  same = as-before;
  updates = updated-goes hash verified;
  changes = λ before signed. (refl, λ first at. at);
  watches = λ before epoch reply. (refl, λ first at. at);
}

abbrev EachGoes : List Monitor → List Monitor → Type 0
EachGoes = AllZip GoesAs

go-on : (before after : List Monitor) → EachGoes before after → AllGo before after
go-on [] after go = tt
go-on (monitor ∷ before) [] go = absurd go
go-on (monitor ∷ before) (monitor' ∷ after) go = (go.0, go-on before after go.1)

go-then : (before middle after : List Monitor) → AllGo before middle → AllGo middle after → AllGo before after
go-then [] middle after one other = tt
go-then (monitor ∷ before) [] after one other = absurd one
go-then (monitor ∷ before) (monitor' ∷ middle) [] one other = absurd other
go-then (monitor ∷ before) (monitor' ∷ middle) (last ∷ after) one other =
    ((other.0.0 ∙ one.0.0, λ first at. one.0.1 first (other.0.1 first at)), go-then before middle after one.1 other.1)

-- ---- what they keep

-- each of these marks that is of the monitor's name begins before the first root of its chain
abbrev pub IsBehind : List Mark → Monitor → Type 0
IsBehind known monitor = (mark : Mark) → Contains known mark → mark.name ≡ monitor.name → (first : SignedRoot) → IsFirst monitor.client.chain first → mark.since < first.body.epoch

behind-goes : (known : List Mark) (before after : Monitor) → GoesAs before after → IsBehind known before → IsBehind known after
behind-goes known before after goes behind mark has same first at = behind mark has (same ∙ goes.0) first (goes.1 first at)

later-goes : (one one' : Monitor) (before after : List Monitor) → GoesAs one one' → EachGoes before after → AllByRecursion (BeginsNoLater one) before → AllByRecursion (BeginsNoLater one') after
later-goes one one' [] [] goes zip all = tt
later-goes one one' [] (other' ∷ after) goes zip all = absurd zip
later-goes one one' (other ∷ before) [] goes zip all = absurd zip
later-goes one one' (other ∷ before) (other' ∷ after) goes zip all = (
  λ same first second at also. all.0 (sym zip.0.0 ∙ same ∙ goes.0) first second (goes.1 first at) (zip.0.1 second also),
  later-goes one one' before after goes zip.1 all.1,
)

ordered-go : (before after : List Monitor) → EachGoes before after → AreOrdered before → AreOrdered after
ordered-go [] [] zip ordered = tt
ordered-go [] (monitor ∷ after) zip ordered = absurd zip
ordered-go (monitor ∷ before) [] zip ordered = absurd zip
ordered-go (monitor ∷ before) (monitor' ∷ after) zip ordered = (later-goes monitor monitor' before after zip.0 zip.1 ordered.0, ordered-go before after zip.1 ordered.1)

ordered-push : (monitors : List Monitor) (new : Monitor) → AreOrdered monitors → AllByRecursion (λ (monitor : Monitor). BeginsNoLater monitor new) monitors → AreOrdered (monitors ++ new ∷ [])
ordered-push [] new ordered all = (tt, tt)
ordered-push (monitor ∷ monitors) new ordered all = (all-push (BeginsNoLater monitor) monitors new ordered.0 all.0, ordered-push monitors new ordered.1 all.1)

-- it has a first root, and its watching begins before that
pub record BeginsWell (monitor : Monitor) : Type 0 where
  pub some : (first : SignedRoot) × IsFirst monitor.client.chain first
  pub behind : (epoch : ℕ) → BeginsBehind monitor epoch → (first : SignedRoot) → IsFirst monitor.client.chain first → epoch < first.body.epoch

-- ---- a monitor that joins

-- the first root to watch is behind a mark of the name, or it is the head
unwatched-cases : (chain : KeyedRoots) (name : List ℕ) (marks : List Mark) (first : SignedRoot) → IsUnwatched chain name marks (Some first)
    → ((mark : Mark) × Contains marks mark × (mark.name ≡ name) × IsNextAfter chain mark.epoch first) ⊎ IsHead chain first
unwatched-cases chain name [] first (root, at, same) = inr (subst (IsHead chain) (sym (some-same first root same)) at)
unwatched-cases chain name (mark ∷ more) first (inl (named, next)) = inl (mark, (0, omega arith, refl), named, next)
unwatched-cases chain name (mark ∷ more) first (inr (other, rest)) = elim (unwatched-cases chain name more first rest) [
  | inl (one, has, named, next) ↦ inl (one, cons-front mark one more has, named, next)
  | inr at ↦ inr at
]

module _ (hash : List ℕ → List ℕ) (accepted verified : List ℕ → List ℕ → List ℕ → Type 0) (chain : KeyedRoots) where
  -- a client that takes roots begins as before
  retraced-first : (count epoch : ℕ) (before after : Client) → Retraces hash verified chain count epoch before (Ok after) → IsChain hash verified before.chain → (root : SignedRoot) → IsFirst after.chain root → IsFirst before.chain root
  retraced-first zero epoch before after (none, same) is root at = subst (λ (c : Client). IsFirst c.chain root) same at
  retraced-first (suc count) epoch before after (next, middle, (one, is-next, at-epoch, (roots, taken, spells, takes, grown)), rest) is root at =
      let is' : IsChain hash verified middle.chain = subst (λ (c : Client). IsChain hash verified c.chain) (sym grown) (takes-chain hash verified roots before.chain taken is takes) in
      let there = retraced-first count next middle after rest is' root at in
      taken-first hash verified before.chain taken roots root is takes (subst (λ (c : Client). IsFirst c.chain root) grown there)

  started-first : (key : List ℕ) (first : SignedRoot) (own : Client) → IsSignedRoot first → StartsFrom hash verified chain key first (Ok own) → (root : SignedRoot) → IsFirst own.chain root → root ≡ first
  started-first key first own formed (start, (one, (spells, signed), is), (count, retraces)) root at =
      let same : one ≡ first = one-spelled first one formed spells in
      let here = subst (λ (c : Client). IsChain hash verified c.chain) (sym is) (one-chain hash verified key one signed) in
      let there = retraced-first count first.body.epoch start own retraces here root at in
      some-same root one (sym (subst (λ (c : Client). IsFirst c.chain root) is there)) ∙ same

  -- so one that joins begins with the first root that is to be watched
  joined-first : (marks : List Mark) (key : List ℕ) (promised : List SignedPromise) (first : SignedRoot) (name : List ℕ) (given : Option BoundKey) (monitor : Monitor) → IsSignedRoot first
      → IsJoined hash accepted verified marks key promised chain first name given monitor → (monitor.name ≡ name) × ((root : SignedRoot) → IsFirst monitor.client.chain root → root ≡ first)
  joined-first marks key promised first name given monitor formed joined =
      let more = all-more hash accepted verified promised _ monitor joined.hands in
      (more.name, λ root at. started-first key first joined.own formed joined.starts root (subst (λ (c : KeyedRoots). IsFirst c root) more.chain at))

-- ---- scenes

module _ (hash : List ℕ → List ℕ) (accepted verified : List ℕ → List ℕ → List ℕ → Type 0) (Given : List ℕ → Option BoundKey → Type 0) (Own : SignedPromise → Type 0) (start : Memory) (marks : List Mark)
    (text : List ℕ) (stored : List SignedRoot) (known : List Mark) {T : Type 0} (exchanged : T → RequestContent → Frame → T → Type 0) (once : HasNoRepeat (map name_of marks))
    (spans : (mark : Mark) → Contains known mark → mark.since ≤ mark.epoch) where
  abbrev IsOwned : Scene T → Type 0
  IsOwned now = Owns hash accepted verified Given Own start text stored marks known now

  abbrev pub IsGone : Scene T → Type 0
  IsGone now = IsOwned now × AllByRecursion (IsBehind known) now.monitors × AreOrdered now.monitors

  abbrev pub GoesOn : Scene T → Scene T → Type 0
  GoesOn before after = IsGone before → IsGone after × AllGo before.monitors after.monitors

  -- the chains of the monitors
  chains : (now : Scene T) → IsOwned now → AllByRecursion (HasChain hash verified) now.monitors
  chains now owns = all-map (IsOwn hash accepted verified Given Own start (text ++ now.told.lines) now.client.chain marks) (HasChain hash verified) now.monitors (λ monitor own. own.told.chain) owns.watched

  each-goes : (before after : Scene T) → (IsOwned before → IsOwned after) → (IsOwned before → EachGoes before.monitors after.monitors) → GoesOn before after
  each-goes before after owned go (owns, behind, ordered) =
      let zip = go owns in (
        (
          owned owns,
          all-zip (IsBehind known) (IsBehind known) GoesAs before.monitors after.monitors (behind-goes known) zip behind,
          ordered-go before.monitors after.monitors zip ordered,
        ),
        go-on before.monitors after.monitors zip,
      )

  abbrev go : Going hash verified GoesAs (HasChain hash verified)
  go = go-as hash verified

  -- where its monitors are as before
  stays-on : (before after : Scene T) → after.monitors ≡ before.monitors → (IsOwned before → IsOwned after) → GoesOn before after
  stays-on before after same owned = each-goes before after owned (λ owns. still-go hash accepted verified go before.monitors after.monitors same)

  -- the first root of a monitor of the name is no later than the first that is to be watched
  module _ (now : Scene T) (owns : IsOwned now) (name : List ℕ) (first : SignedRoot) (unwatched : IsUnwatched now.client.chain name marks (Some first)) where
    begins-first : (other : Monitor) → Contains now.monitors other → other.name ≡ name → (root : SignedRoot) → IsFirst other.client.chain root → root.body.epoch ≤ first.body.epoch
    begins-first other has named root at =
        let own = all-has (IsOwn hash accepted verified Given Own start (text ++ now.told.lines) now.client.chain marks) now.monitors other owns.watched has in
        elim (unwatched-cases now.client.chain name marks first unwatched) [
          | inl (mark, there, same, next) ↦ own.begins mark there (same ∙ sym named) root at first next.0 next.1
          | inr head ↦
              let (copy, there, same) = all-has (HasBody now.client.chain) other.client.chain.roots root own.own (is-among other.client.chain.roots 0 root at) in
              let high = head-high hash verified now.client.chain copy first owns.chain there head in
              omega (arith, high, ap (λ (b : Body). b.epoch) same)
        ]

    -- and each mark of the name begins before that
    marks-before : AllByRecursion (IsBehind known) now.monitors → (mark : Mark) → Contains known mark → mark.name ≡ name → mark.since < first.body.epoch
    marks-before behind mark has named = elim (owns.held mark has).link [
      | inl old ↦ let next = next-unwatched now.client.chain name marks first mark once unwatched old named in let span = spans mark has in omega (arith, span, next.1)
      | inr (other, there, same, least) ↦
          let own = all-has (IsOwn hash accepted verified Given Own start (text ++ now.told.lines) now.client.chain marks) now.monitors other owns.watched there in
          let both = ends other.client.chain.roots own.told.chain.first in
          let low = all-has (IsBehind known) now.monitors other behind there mark has (sym same) both.first both.at-first in
          let high = begins-first other there (same ∙ named) both.first both.at-first in
          omega (arith, low, high)
    ]

  -- each root of a monitor's chain is above the one that it names
  later-own : (now : Scene T) (owns : IsOwned now) (monitor : Monitor) → AllByRecursion (HasBody now.client.chain) monitor.client.chain.roots → (root : SignedRoot) → Contains monitor.client.chain.roots root → root.body.previous_epoch < root.body.epoch
  later-own now owns monitor own root has =
      let (copy, there, same) = all-has (HasBody now.client.chain) monitor.client.chain.roots root own has in
      let later = (all-has IsSignedRoot now.client.chain.roots copy owns.formed there).0.0.0 in
      subst (λ (b : Body). b.previous_epoch < b.epoch) same later

  well : (now : Scene T) (owns : IsOwned now) (monitor : Monitor) → AllByRecursion (HasBody now.client.chain) monitor.client.chain.roots → (epoch : ℕ) → BeginsBehind monitor epoch → (first : SignedRoot) → IsFirst monitor.client.chain first → epoch < first.body.epoch
  well now owns monitor own epoch (inl (root, next, before)) first at =
      let has = is-among monitor.client.chain.roots 0 first at in
      let later = later-own now owns monitor own first has in
      let some : 0 < first.body.epoch = omega (arith, later) in
      let least = All-contains (λ (r : SignedRoot). 0 < r.body.epoch → root.body.epoch ≤ r.body.epoch) monitor.client.chain.roots first next.2 has some in
      let up = later-own now owns monitor own root next.0 in
      omega (arith, before, up, least)
  well now owns monitor own epoch (inr (none, before)) first at =
      let later = later-own now owns monitor own first (is-among monitor.client.chain.roots 0 first at) in
      omega (arith, before, later)

  pub begin-well : (now : Scene T) → IsOwned now → AllByRecursion BeginsWell now.monitors
  begin-well now owns = all-map (IsOwn hash accepted verified Given Own start (text ++ now.told.lines) now.client.chain marks) BeginsWell now.monitors (λ monitor own. record {
    some = let both = ends monitor.client.chain.roots own.told.chain.first in (both.first, both.at-first);
    behind = well now owns monitor own.own;
  }) owns.watched

  joins-on : (before : Scene T) (key : List ℕ) (promised : List SignedPromise) (name : List ℕ) (given : Option BoundKey) (first : SignedRoot) (monitor : Monitor) → IsUnwatched before.client.chain name marks (Some first)
      → IsJoined hash accepted verified marks key promised before.client.chain first name given monitor → (IsOwned before → IsOwned (record before { monitors = before.monitors ++ monitor ∷ [] }))
      → GoesOn before (record before { monitors = before.monitors ++ monitor ∷ [] })
  joins-on before key promised name given first monitor is joined keeps (owns, behind, ordered) =
      let formed = all-has IsSignedRoot before.client.chain.roots first owns.formed (unwatched-there before.client.chain name marks first is) in
      let (named, begins) = joined-first hash accepted verified before.client.chain marks key promised first name given monitor formed joined in
      let new : IsBehind known monitor = λ mark has same root at. subst (λ (r : SignedRoot). mark.since < r.body.epoch) (sym (begins root at)) (marks-before before owns name first is behind mark has (same ∙ named)) in
      let last = all-in (λ (other : Monitor). BeginsNoLater other monitor) before.monitors (λ other has same root second at also.
      subst (λ (r : SignedRoot). root.body.epoch ≤ r.body.epoch) (sym (begins second also)) (begins-first before owns name first is other has (sym same ∙ named) root at)) in (
        (keeps owns, all-push (IsBehind known) before.monitors monitor behind new, ordered-push before.monitors monitor ordered last),
        all-followed before.monitors (monitor ∷ []),
      )

  -- so every relation between scenes keeps it
  pub each-gone : {MayNote : List SignedPromise → Type 0} {MayJoin : List ℕ → List SignedPromise → List ℕ → Option BoundKey → Type 0} {MayStop : Type 0}
      → EachKeeps hash accepted verified exchanged marks MayNote MayJoin MayStop (λ before after. IsOwned before → IsOwned after) → EachKeeps hash accepted verified exchanged marks MayNote MayJoin MayStop GoesOn
  each-gone owned = record {
    none = λ before gone. (gone, all-as_before before.monitors);
    both = λ before middle after one other gone.
        let (here, go) = one gone in
        let (there, on) = other here in
        (there, go-then before.monitors middle.monitors after.monitors go on);
    sends = λ before stream. stays-on before (record before { stream = stream }) refl (owned.sends before stream);
    tells = λ before told. stays-on before (record before { told = told_after before.told told }) refl (owned.tells before told);
    takes = λ before after takes. each-goes before after (owned.takes before after takes) (λ owns. take-goes hash accepted verified go exchanged before after takes (chains before owns));
    stops = λ before after may stops. each-goes before after (owned.stops before after may stops) (λ owns. stop-goes hash accepted verified go exchanged before after stops (chains before owns));
    tests = λ before name kept after asks. stays-on before after asks.monitors (owned.tests before name kept after asks);
    steps = λ before place went after asks. each-goes before after (owned.steps before place went after asks) (λ owns. step-goes hash accepted verified go exchanged before after place went asks);
    joins = λ before key promised name given first monitor may is joined. joins-on before key promised name given first monitor is joined (owned.joins before key promised name given first monitor may is joined);
    hears = λ before after held asked frame heard told hears says monitors. stays-on before after monitors (owned.hears before after held asked frame heard told hears says monitors);
    hands = λ before after held asked frame noted noted' hears notes may. each-goes before after (owned.hands before after held asked frame noted noted' hears notes may) (λ owns. hear-goes hash accepted verified go exchanged before after held asked frame hears);
  }
