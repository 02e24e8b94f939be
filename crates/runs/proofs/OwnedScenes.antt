-- Every step of a run keeps what is owned: the client's chain, its monitors, and the marks.
use Rattle.std.proofs.Common.{◌≡◌, ◌∙◌, ◌-◌, ◌<◌, ℕ, true, false, Bool, List, [], ◌∷◌, ◌++◌, length, Contains, Option, Some, None, Ok, arith, ap, append_assoc, append-nil, inl, inr, refl, slice_set, subst, sym}
use Rattle.std.specs.Prelude.{map, slice_get, ⊤}
use Rattle.std.specs.List.{AllByRecursion, AllZip}
use Rattle.std.proofs.lemmas.List.Elements.{Contains-push}
use Rattle.encoding.specs.declared.bound_key.BoundKey.{BoundKey}
use Rattle.commands.specs.Operations.{Lookup}
use Rattle.rootchain.specs.Chains.{IsChain, KeyedRoots}
use Rattle.rootchain.specs.Promises.{IsSignedPromise, SpellsPromise}
use Rattle.rootchain.specs.SignedRoots.{IsSignedRoot}
use Rattle.rootchain.specs.declared.promise.Promise.{Promise}
use Rattle.rootchain.specs.declared.signed_promise.SignedPromise.{SignedPromise}
use Rattle.rootchain.specs.declared.signed_root.SignedRoot.{SignedRoot}
use Rattle.rootchain.proofs.TakingLists.{takes-chain}
use Rattle.client.specs.Clients.{Client, HasRootOf}
use Rattle.client.specs.Updating.{Updates}
use Rattle.client.specs.declared.client_refusal.Refusal.{Refusal}
use Rattle.client.proofs.Breaking.{all-at}
use Rattle.memory.specs.Lists.{HasNoRepeat}
use Rattle.memory.specs.Memories.{name_of, Memory}
use Rattle.memory.specs.declared.mark.Mark.{Mark}
use Rattle.monitor.specs.Monitors.{Monitor}
use Rattle.monitor.specs.Stepping.{IsNextEpoch}
use Rattle.monitor.specs.declared.monitor_refusal.Refusal.{Refusal as MonitorRefusal}
use Rattle.wire.specs.Frames.{Frame}
use Rattle.wire.specs.Requests.{RequestContent, Put, Query, Turn}
use Rattle.asking.specs.Checking.{HearsFrame}
use Rattle.asking.specs.Asking.{Hands, HandsAll, HandsTo, HearsOne, Notes}
use Rattle.asking.specs.Following.{asks_roots, MonitorUpdates, OneRefuses, StopsFollowing, StopsList, TakesList}
use Rattle.runs.specs.Owning.{IsHeld, Owns}
use Rattle.asking.specs.Reports.{Report, silent, told_after}
use Rattle.runs.specs.Runs.{emptied}
use Rattle.asking.specs.Scenes.{Scene}
use Rattle.asking.specs.Watching.{AsksEpoch, ShowsEpoch}
use Rattle.runs.proofs.EveryStep.{EachKeeps}
use Rattle.runs.proofs.NotedOwn.{last-spelled}
use Rattle.runs.proofs.OwnRoots.{some-same, taken-there}
use Rattle.runs.proofs.OwnedMarks.{all-as_before, all-but, all-followed, as-before, held-grown, held-more, updated-goes, AllGo, GoesAs}
use Rattle.runs.proofs.OwnedMonitors.{own-grown, own-handed, own-joined, own-more, own-stepped, own-updated, AreGiven, Owned}
use Rattle.runs.proofs.OwnedRoots.{all-has, grows-none, taken-formed, taken-grows, HasGrown}
use Rattle.runs.proofs.SameChain.{frame-chain, shown-chain, step-chain}
use Rattle.runs.proofs.ToldScenes.{all-map, all-push, all-set, stays-change, stays-step}

-- a chain that grows has the root of a promise still
rooted-grown : (hash : List ℕ → List ℕ) (before after : KeyedRoots) (promise : Promise) → HasGrown before after → HasRootOf hash before promise → HasRootOf hash after promise
unfolding HasRootOf
rooted-grown hash before after promise grows (root, (has, at), hashed) = (root, (grows.stays root has, at), hashed)

module _ (hash : List ℕ → List ℕ) (accepted verified : List ℕ → List ℕ → List ℕ → Type 0) (Given : List ℕ → Option BoundKey → Type 0) (Own : SignedPromise → Type 0) (start : Memory) (marks : List Mark) where
  abbrev Owner : List ℕ → KeyedRoots → Monitor → Type 0
  Owner text chain monitor = Owned hash accepted verified Given Own start text chain marks monitor

  -- more is told
  more-owned : (text : List ℕ) (chain : KeyedRoots) (before told : Report) (monitors : List Monitor) → AllByRecursion (Owner (text ++ before.lines) chain) monitors → AllByRecursion (Owner (text ++ (told_after before told).lines) chain) monitors
  more-owned text chain before told monitors all = subst (λ (t : List ℕ). AllByRecursion (Owner t chain) monitors) (append_assoc text before.lines told.lines)
      (all-map (Owner (text ++ before.lines) chain) (Owner ((text ++ before.lines) ++ told.lines) chain) monitors (λ monitor owned. own-more hash accepted verified Given Own start (text ++ before.lines) chain marks told.lines monitor owned) all)

  -- the monitors, or one of them, are as before
  still-owned : (text : List ℕ) (chain : KeyedRoots) (before after : List Monitor) → after ≡ before → AllByRecursion (Owner text chain) before → AllByRecursion (Owner text chain) after × AllGo before after
  still-owned text chain before after same all = (subst (AllByRecursion (Owner text chain)) (sym same) all, subst (AllGo before) (sym same) (all-as_before before))

  stays-owned : (text : List ℕ) (chain : KeyedRoots) (before : Monitor) (told : Report) (after : Monitor) → after ≡ before → Owner text chain before → Owner (text ++ told.lines) chain after × GoesAs before after
  stays-owned text chain before told after same owned =
      (subst (Owner (text ++ told.lines) chain) (sym same) (own-more hash accepted verified Given Own start text chain marks told.lines before owned), subst (GoesAs before) (sym same) (as-before before))

  -- ---- monitors that take a list

  -- the client took it too, and what it brings is known there
  record IsTaken (before after : KeyedRoots) (list : List ℕ) : Type 0 where
    pub is : IsChain hash verified after
    pub grows : HasGrown before after
    pub formed : AllByRecursion IsSignedRoot before.roots → AllByRecursion IsSignedRoot after.roots
    pub each : (text : List ℕ) (monitor monitor' : Monitor) → MonitorUpdates hash verified list monitor monitor' → Owner text before monitor → Owner text after monitor'

  list-taken : (client : Client) (list : List ℕ) (after : Client) → Updates hash verified client list {A = Unit {0}} (Ok tt) after → IsChain hash verified client.chain → IsTaken client.chain after.chain list
  list-taken client list after (roots, chain, spells, takes, same) is =
      let grows = taken-grows hash verified client.chain chain roots is takes in
      let here : IsTaken client.chain chain list = record {
        is = takes-chain hash verified roots client.chain chain is takes;
        grows = grows;
        formed = λ own. taken-formed hash verified client.chain chain roots takes own spells.1.1;
        each = λ text monitor monitor' updates owned. own-updated hash accepted verified Given Own start text client.chain chain marks list roots monitor monitor' grows spells (taken-there hash verified client.chain chain roots is takes) updates owned;
      } in
      subst (λ (c : Client). IsTaken client.chain c.chain list) (sym same) here

  -- each monitor takes it
  zipped : (text list : List ℕ) (chain chain' : KeyedRoots) (before after : List Monitor) → IsTaken chain chain' list → AllZip (MonitorUpdates hash verified list) before after
      → AllByRecursion (Owner text chain) before → AllByRecursion (Owner text chain') after × AllGo before after
  zipped text list chain chain' [] [] taken zip all = (tt, tt)
  zipped text list chain chain' [] (monitor ∷ after) taken zip all = absurd zip
  zipped text list chain chain' (monitor ∷ before) [] taken zip all = absurd zip
  zipped text list chain chain' (monitor ∷ before) (monitor' ∷ after) taken (updates, zip) all =
      let (rest, go) = zipped text list chain chain' before after taken zip all.1 in
      ((taken.each text monitor monitor' updates all.0, rest), (updated-goes hash verified list monitor monitor' all.0.told.chain updates, go))

  -- some monitors take it, and one refuses it
  refused-owned : (text list : List ℕ) (chain chain' : KeyedRoots) (before : List Monitor) (why : Refusal) (after : List Monitor) → IsTaken chain chain' list → OneRefuses hash verified list before why after
      → AllByRecursion (Owner text chain) before → AllByRecursion (Owner text chain') after × AllGo before after
  refused-owned text list chain chain' [] why after taken refuses all = absurd refuses
  refused-owned text list chain chain' (monitor ∷ before) why [] taken refuses all = absurd refuses
  refused-owned text list chain chain' (monitor ∷ before) why (monitor' ∷ after) taken (inl (refuses, same, rest)) all = (
    (
      subst (Owner text chain') (sym same) (stay monitor all.0),
      subst (AllByRecursion (Owner text chain')) (sym rest) (all-map (Owner text chain) (Owner text chain') before stay all.1),
    ),
    (subst (GoesAs monitor) (sym same) (as-before monitor), subst (AllGo before) (sym rest) (all-as_before before)),
  )
    where
      stay : (m : Monitor) → Owner text chain m → Owner text chain' m
      stay m owned = own-grown hash accepted verified Given Own start text chain chain' marks m taken.grows owned
  refused-owned text list chain chain' (monitor ∷ before) why (monitor' ∷ after) taken (inr (updates, more)) all =
      let (rest, go) = refused-owned text list chain chain' before why after taken more all.1 in
      ((taken.each text monitor monitor' updates all.0, rest), (updated-goes hash verified list monitor monitor' all.0.told.chain updates, go))

  -- ---- promises

  handed-goes : (signed : SignedPromise) (promise : List ℕ) (before : Monitor) (why : Option MonitorRefusal) (after : Monitor) → HandsTo hash accepted verified signed promise before why after → GoesAs before after
  handed-goes signed promise before None after (inl (named, (given, is, same))) = subst (GoesAs before) (sym same) (refl, λ first at. at)
  handed-goes signed promise before None after (inr (other, same)) = subst (GoesAs before) (sym same) (as-before before)
  handed-goes signed promise before (Some why) after (named, enough, expects) = subst (GoesAs before) (sym (stays-change hash accepted verified before signed.promise.key promise why after expects)) (as-before before)

  all-handed : start.marks ≡ marks → (text : List ℕ) (chain : KeyedRoots) (signed : SignedPromise) (promise : List ℕ) (before : List Monitor) (told told' : Report) (after : List Monitor) → HandsAll hash accepted verified signed promise before told told' after → Own signed → SpellsPromise promise signed
      → AllByRecursion (Owner text chain) before → AllByRecursion (Owner text chain) after × AllGo before after
  all-handed same-marks text chain signed promise [] told told' [] hands owns spelled all = (tt, tt)
  all-handed same-marks text chain signed promise [] told told' (monitor ∷ after) hands owns spelled all = absurd hands
  all-handed same-marks text chain signed promise (monitor ∷ before) told told' [] hands owns spelled all = absurd hands
  all-handed same-marks text chain signed promise (monitor ∷ before) told told' (monitor' ∷ after) (why, one, rest) owns spelled all =
      let (later, go) = all-handed same-marks text chain signed promise before _ told' after rest owns spelled all.1 in
      ((own-handed hash accepted verified Given Own start text chain marks same-marks signed promise monitor why monitor' one owns spelled all.0, later), (handed-goes signed promise monitor why monitor' one, go))

  -- the promise that is handed is the last that is noted
  noted-own : (kept' noted noted' : List SignedPromise) (signed other : SignedPromise) → slice_get kept' (length kept' - 1) ≡ Some signed → slice_get kept' (length kept' - 1) ≡ Some other → noted' ≡ noted ++ other ∷ [] → AllByRecursion Own noted' → Own signed
  noted-own kept' noted noted' signed other at also is owns =
      let one : other ≡ signed = some-same other signed (sym also ∙ at) in
      let has : Contains noted' signed = subst (λ (xs : List SignedPromise). Contains xs signed) (sym is) (subst (λ (s : SignedPromise). Contains (noted ++ s ∷ []) signed) (sym one) (Contains-push noted signed)) in
      all-has Own noted' signed owns has

  -- a promise that the client keeps for a change that is asked for, the last of those it has, is spelled by these bytes
  abbrev IsLastSpelled : RequestContent → List ℕ → List SignedPromise → List SignedPromise → Type 0
  IsLastSpelled (Put verb name key) promise kept kept' = (signed : SignedPromise) → length kept < length kept' → slice_get kept' (length kept' - 1) ≡ Some signed → SpellsPromise promise signed
  IsLastSpelled (Query query) promise kept kept' = ⊤
  IsLastSpelled (Turn token epoch _) promise kept kept' = ⊤

  heard-spelled : (held : ℕ) (asked : RequestContent) (frame : Frame) (told : Report) (before after : Client) → HearsFrame hash accepted verified held before asked frame told after → IsLastSpelled asked frame.body before.promises after.promises
  heard-spelled held (Put verb name key) frame told before after hears = λ signed more at. last-spelled hash accepted verified held verb name key frame told before after signed hears more at
  heard-spelled held (Query query) frame told before after hears = tt
  heard-spelled held (Turn token epoch _) frame told before after hears = tt

  hands-owned : start.marks ≡ marks → (text : List ℕ) (chain : KeyedRoots) (asked : RequestContent) (promise : List ℕ) (kept kept' noted noted' : List SignedPromise) (before : List Monitor) (told : Report) (after : List Monitor)
      → IsLastSpelled asked promise kept kept' → Hands hash accepted verified asked promise kept kept' before told after → Notes asked kept kept' noted noted' → AllByRecursion Own noted' → AllByRecursion (Owner text chain) before → AllByRecursion (Owner text chain) after × AllGo before after
  hands-owned same-marks text chain (Put verb name key) promise kept kept' noted noted' before told after spelled (inl (few, silent-is, same)) notes owns all = still-owned text chain before after same all
  hands-owned same-marks text chain (Put verb name key) promise kept kept' noted noted' before told after spelled (inr (more, (signed, at, hands))) (inl (few, none)) owns all = absurd (omega (arith, more, few))
  hands-owned same-marks text chain (Put verb name key) promise kept kept' noted noted' before told after spelled (inr (more, (signed, at, hands))) (inr (more', (other, also, is))) owns all =
      all-handed same-marks text chain signed promise before silent told after hands (noted-own kept' noted noted' signed other at also is owns) (spelled signed more at) all
  hands-owned same-marks text chain (Query query) promise kept kept' noted noted' before told after spelled (silent-is, same) notes owns all = still-owned text chain before after same all
  hands-owned same-marks text chain (Turn token epoch _) promise kept kept' noted noted' before told after spelled (silent-is, same) notes owns all = still-owned text chain before after same all

  -- ---- a step

  shown-owned : (text : List ℕ) (chain : KeyedRoots) (before : Monitor) (epoch : ℕ) (asked : RequestContent) (frame : Frame) (went : Bool) (told : Report) (after : Monitor) → IsNextEpoch before (Some epoch)
      → ShowsEpoch hash accepted before epoch asked frame went told after → Owner text chain before → Owner (text ++ told.lines) chain after × GoesAs before after
  shown-owned text chain before epoch asked frame went told after next (inl (missed, not, same)) owned = stays-owned text chain before told after same owned
  shown-owned text chain before epoch asked frame true told after next (inr (answers, (step, steps, tells))) owned = (
    subst (λ (r : Report). Owner (text ++ r.lines) chain after) (sym tells) (own-stepped hash accepted verified Given Own start text chain marks before epoch frame.body step after next steps owned),
    (let (root, reply, found, says, same) = steps in subst (GoesAs before) (sym same) (refl, λ first at. at)),
  )
  shown-owned text chain before epoch asked frame false told after next (inr (answers, (why, enough, steps, tells))) owned =
      stays-owned text chain before told after (stays-step hash accepted verified before frame.body why after enough steps) owned

  -- ---- scenes

  module _ (text : List ℕ) (stored : List SignedRoot) (known : List Mark) where
    abbrev pub IsOwned : {T : Type 0} → Scene T → Type 0
    IsOwned now = Owns hash accepted verified Given Own start text stored marks known now

    -- only the chain, the monitors and the lines matter
    pub owns-like : {T U : Type 0} (one : Scene T) (other : Scene U) → other.client.chain ≡ one.client.chain → other.monitors ≡ one.monitors → other.told.lines ≡ one.told.lines → IsOwned one → IsOwned other
    owns-like one other chain monitors lines owns = record {
      chain = subst (IsChain hash verified) (sym chain) owns.chain;
      formed = subst (λ (c : KeyedRoots). AllByRecursion IsSignedRoot c.roots) (sym chain) owns.formed;
      stores = subst (λ (c : KeyedRoots). AllByRecursion (Contains c.roots) stored) (sym chain) owns.stores;
      rooted = λ signed was. subst (λ (c : KeyedRoots). HasRootOf hash c signed.promise) (sym chain) (owns.rooted signed was);
      watched = subst (λ (ls : List ℕ). AllByRecursion (Owner (text ++ ls) other.client.chain) other.monitors) (sym lines)
          (subst (λ (c : KeyedRoots). AllByRecursion (Owner (text ++ one.told.lines) c) other.monitors) (sym chain)
          (subst (AllByRecursion (Owner (text ++ one.told.lines) one.client.chain)) (sym monitors) owns.watched));
      held = λ mark has. subst (λ (c : KeyedRoots). IsHeld hash accepted verified Given Own start text marks c other.monitors mark) (sym chain)
          (subst (λ (ms : List Monitor). IsHeld hash accepted verified Given Own start text marks one.client.chain ms mark) (sym monitors) (owns.held mark has));
    }

    -- all that was told is written
    pub owns-written : {T : Type 0} (now : Scene T) (status : ℕ) → IsOwned now → Owns hash accepted verified Given Own start (text ++ now.told.lines) stored marks known (record now { told = emptied status })
    owns-written now status owns = record {
      chain = owns.chain;
      formed = owns.formed;
      stores = owns.stores;
      rooted = owns.rooted;
      watched = subst (λ (t : List ℕ). AllByRecursion (Owner t now.client.chain) now.monitors) (sym (append-nil (text ++ now.told.lines))) owns.watched;
      held = λ mark has. held-more hash accepted verified Given Own start marks text now.told.lines now.client.chain now.monitors mark (owns.held mark has);
    }

    module _ {T : Type 0} (exchanged : T → RequestContent → Frame → T → Type 0) (once : HasNoRepeat (map name_of marks)) (spelled : (signed : SignedPromise) → Own signed → IsSignedPromise signed) (same-marks : start.marks ≡ marks) where
      moved : (before after : Scene T) → IsChain hash verified after.client.chain → HasGrown before.client.chain after.client.chain → AllByRecursion IsSignedRoot after.client.chain.roots
          → AllByRecursion (Owner (text ++ after.told.lines) after.client.chain) after.monitors × AllGo before.monitors after.monitors → IsOwned before → IsOwned after
      moved before after is grows formed (all, go) owns = record {
        chain = is;
        formed = formed;
        stores = all-map (Contains before.client.chain.roots) (Contains after.client.chain.roots) stored grows.stays owns.stores;
        rooted = λ signed was. rooted-grown hash before.client.chain after.client.chain signed.promise grows (owns.rooted signed was);
        watched = all;
        held = λ mark has. held-grown hash accepted verified Given Own start marks (text ++ before.told.lines) text before.client.chain after.client.chain before.monitors after.monitors mark grows owns.watched go (owns.held mark has);
      }

      -- the chain is as before
      goes : (before after : Scene T) → after.client.chain ≡ before.client.chain → AllByRecursion (Owner (text ++ after.told.lines) before.client.chain) after.monitors × AllGo before.monitors after.monitors → IsOwned before → IsOwned after
      goes before after same (all, go) owns = moved before after
          (subst (IsChain hash verified) (sym same) owns.chain)
          (subst (HasGrown before.client.chain) (sym same) (grows-none before.client.chain))
          (subst (λ (c : KeyedRoots). AllByRecursion IsSignedRoot c.roots) (sym same) owns.formed)
          (subst (λ (c : KeyedRoots). AllByRecursion (Owner (text ++ after.told.lines) c) after.monitors) (sym same) all, go)
          owns

      -- and so are the monitors
      told-more : (before after : Scene T) (told : Report) → after.client.chain ≡ before.client.chain → after.told ≡ told_after before.told told → after.monitors ≡ before.monitors → IsOwned before → IsOwned after
      told-more before after told same tells monitors owns = goes before after same
          (subst (λ (r : Report). AllByRecursion (Owner (text ++ r.lines) before.client.chain) after.monitors × AllGo before.monitors after.monitors) (sym tells)
          (still-owned (text ++ (told_after before.told told).lines) before.client.chain before.monitors after.monitors monitors (more-owned text before.client.chain before.told told before.monitors owns.watched)))
          owns

      -- the client took a list, and the monitors took it or stayed
      took : (before after : Scene T) (list : List ℕ) (told : Report) → IsTaken before.client.chain after.client.chain list → after.told ≡ told
          → AllByRecursion (Owner (text ++ told.lines) after.client.chain) after.monitors × AllGo before.monitors after.monitors → IsOwned before → IsOwned after
      took before after list told taken tells all owns = moved before after taken.is taken.grows (taken.formed owns.formed)
          (subst (λ (r : Report). AllByRecursion (Owner (text ++ r.lines) after.client.chain) after.monitors × AllGo before.monitors after.monitors) (sym tells) all) owns

      takes-list : (before after : Scene T) → TakesList hash verified exchanged before true after → IsOwned before → IsOwned after
      takes-list before after (frame, asks, (client, monitors), same, above, finals) owns =
          let taken = list-taken before.client frame.body after.client client owns.chain in
          took before after frame.body before.told taken same (zipped (text ++ before.told.lines) frame.body before.client.chain after.client.chain before.monitors after.monitors taken monitors owns.watched) owns

      stops-list : (before after : Scene T) → StopsList hash verified exchanged before after → IsOwned before → IsOwned after
      stops-list before after (head, is, frame, exchange, told, stops, tells, finals) owns = by stops
        where
          more : AllByRecursion (Owner (text ++ (told_after before.told told).lines) before.client.chain) before.monitors
          more = more-owned text before.client.chain before.told told before.monitors owns.watched

          by : StopsFollowing hash verified (asks_roots head) before.client before.monitors frame told after.client after.monitors → IsOwned after
          by (inl (missed, same, others)) = told-more before after told (ap (λ (c : Client). c.chain) same) tells others owns
          by (inr (answers, inl (why, inl (refuses, same, others), is-told))) = told-more before after told (ap (λ (c : Client). c.chain) same) tells others owns
          by (inr (answers, inl (why, inr (updates, refuses), is-told))) =
              let taken = list-taken before.client frame.body after.client updates owns.chain in
              took before after frame.body (told_after before.told told) taken tells
              (refused-owned (text ++ (told_after before.told told).lines) frame.body before.client.chain after.client.chain before.monitors why after.monitors taken refuses more) owns
          by (inr (answers, inr ((some, (updates, monitors), none), is-told))) =
              let taken = list-taken before.client frame.body after.client updates owns.chain in
              took before after frame.body (told_after before.told told) taken tells
              (zipped (text ++ (told_after before.told told).lines) frame.body before.client.chain after.client.chain before.monitors after.monitors taken monitors more) owns

      asks-epoch : (before : Scene T) (place : ℕ) (went : Bool) (after : Scene T) → AsksEpoch hash accepted exchanged before place went after → IsOwned before → IsOwned after
      asks-epoch before place went after asks owns =
          let now = text ++ before.told.lines in
          let chain = before.client.chain in
          let own = all-at (Owner now chain) before.monitors place asks.monitor owns.watched asks.at in
          let told = told_after asks.told (told_after asks.shown asks.found) in
          let (stepped, go) = shown-owned now chain asks.monitor asks.epoch (Query (Lookup asks.monitor.name asks.epoch)) asks.frame went asks.told asks.watched asks.next asks.shows own in
          let watched = subst (λ (t : List ℕ). Owner t chain asks.watched) (append_assoc now asks.told.lines (told_after asks.shown asks.found).lines)
          (own-more hash accepted verified Given Own start (now ++ asks.told.lines) chain marks (told_after asks.shown asks.found).lines asks.watched stepped) in
          let others = all-map (Owner now chain) (Owner (now ++ told.lines) chain) before.monitors (λ monitor owned. own-more hash accepted verified Given Own start now chain marks told.lines monitor owned) owns.watched in
          let both = all-set (Owner (now ++ told.lines) chain) before.monitors place asks.watched others watched in
          let all : AllByRecursion (Owner (text ++ (told_after before.told told).lines) chain) (slice_set before.monitors place asks.watched) =
          subst (λ (t : List ℕ). AllByRecursion (Owner t chain) (slice_set before.monitors place asks.watched)) (append_assoc text before.told.lines told.lines) both in
          let there : AllByRecursion (Owner (text ++ after.told.lines) chain) (slice_set before.monitors place asks.watched) =
          subst (λ (r : Report). AllByRecursion (Owner (text ++ r.lines) chain) (slice_set before.monitors place asks.watched)) (sym asks.tells) all in
          goes before after (step-chain hash accepted verified before.client asks.monitor.name asks.epoch (Query (Lookup asks.monitor.name asks.epoch)) asks.frame asks.told asks.found after.client asks.client)
          (subst (λ (ms : List Monitor). AllByRecursion (Owner (text ++ after.told.lines) chain) ms × AllGo before.monitors ms) (sym asks.monitors) (there, all-but before.monitors place asks.monitor asks.watched asks.at go)) owns

      hears-one : (before after : Scene T) (held : ℕ) (asked : RequestContent) (frame : Frame) (noted noted' : List SignedPromise) → HearsOne hash accepted verified exchanged held asked frame before after
          → Notes asked before.client.promises after.client.promises noted noted' → AllByRecursion Own noted' → IsOwned before → IsOwned after
      hears-one before after held asked frame noted noted' hears notes owner owns =
          let told = told_after hears.told hears.shown in
          let middle = told_after before.told told in
          let chain = before.client.chain in
          let one = more-owned text chain before.told told before.monitors owns.watched in
          let two = more-owned text chain middle hears.handed before.monitors one in
          let given = hands-owned same-marks (text ++ (told_after middle hears.handed).lines) chain asked frame.body before.client.promises after.client.promises noted noted' before.monitors hears.handed after.monitors
          (heard-spelled held asked frame hears.told before.client after.client hears.hears) hears.hands notes owner two in
          goes before after (frame-chain hash accepted verified held before.client after.client asked frame hears.told hears.hears)
          (subst (λ (r : Report). AllByRecursion (Owner (text ++ r.lines) chain) after.monitors × AllGo before.monitors after.monitors) (sym hears.tells) given) owns

      -- so every relation between scenes keeps it
      pub each-owned : EachKeeps hash accepted verified exchanged marks (AllByRecursion Own) (λ key promised name given. Given name given × AreGiven hash accepted verified Given Own start key name promised) ⊤ (λ before after. IsOwned before → IsOwned after)
      each-owned = record {
        none = λ before owns. owns;
        both = λ before middle after one other owns. other (one owns);
        sends = λ before stream owns. owns-like before (record before { stream = stream }) refl refl refl owns;
        tells = λ before told owns. told-more before (record before { told = told_after before.told told }) told refl refl refl owns;
        takes = takes-list;
        stops = λ before after may stops. stops-list before after stops;
        tests = λ before name kept after asks owns. told-more before after (told_after asks.told asks.shown) (shown-chain hash accepted verified before.client name (Query (Lookup name asks.epoch)) asks.frame kept asks.told after.client asks.shows) asks.tells asks.monitors owns;
        steps = asks-epoch;
        joins = λ before key promised name given first monitor may is joined owns. goes before (record before { monitors = before.monitors ++ monitor ∷ [] }) refl (
          all-push (Owner (text ++ before.told.lines) before.client.chain) before.monitors monitor owns.watched
              (own-joined hash accepted verified Given Own start (text ++ before.told.lines) before.client.chain marks key promised first name given monitor owns.chain owns.formed once may.0 spelled may.1 same-marks owns.rooted is joined),
          all-followed before.monitors (monitor ∷ []),
        ) owns;
        hears = λ before after held asked frame heard told hears tells monitors owns. told-more before after told (frame-chain hash accepted verified held before.client after.client asked frame heard hears) tells monitors owns;
        hands = hears-one;
      }
