-- After whole steps each monitor has the roots of the client's chain from its first on, and expects no change above them all.
use Rattle.std.proofs.Common.{◌≡◌, ◌∙◌, ℕ, true, false, Bool, List, [], ◌∷◌, ◌++◌, Contains, Option, Ok, ap, inl, inr, refl, subst, sym}
use Rattle.std.specs.Prelude.{map}
use Rattle.std.specs.List.{AllByRecursion, AllZip}
use Rattle.encoding.specs.declared.bound_key.BoundKey.{BoundKey}
use Rattle.commands.specs.Operations.{Lookup}
use Rattle.rootchain.specs.Chains.{IsChain, KeyedRoots}
use Rattle.rootchain.specs.Places.{IsFirst}
use Rattle.rootchain.specs.Promises.{IsSignedPromise}
use Rattle.rootchain.specs.declared.signed_promise.SignedPromise.{SignedPromise}
use Rattle.rootchain.specs.declared.signed_root.SignedRoot.{SignedRoot}
use Rattle.client.specs.Clients.{Client}
use Rattle.client.specs.Updating.{Updates}
use Rattle.client.proofs.Breaking.{all-at}
use Rattle.memory.specs.Lists.{HasNoRepeat}
use Rattle.memory.specs.Memories.{name_of, Memory}
use Rattle.memory.specs.declared.mark.Mark.{Mark}
use Rattle.monitor.specs.Monitors.{Monitor}
use Rattle.monitor.specs.declared.monitor_refusal.Refusal.{Refusal as MonitorRefusal}
use Rattle.play.proofs.Following.{one-list}
use Rattle.wire.specs.Frames.{Frame}
use Rattle.wire.specs.Requests.{RequestContent, Put, Query, Turn}
use Rattle.asking.specs.Asking.{Hands, HandsAll, HandsTo}
use Rattle.asking.specs.Following.{MonitorUpdates}
use Rattle.runs.specs.Owning.{IsOwn, Owns}
use Rattle.asking.specs.Reports.{Report, told_after}
use Rattle.asking.specs.Scenes.{Scene}
use Rattle.runs.specs.Standing.{IsCurrent}
use Rattle.runs.specs.Told.{HasBody}
use Rattle.asking.specs.Watching.{ShowsEpoch}
use Rattle.runs.proofs.EveryStep.{EachKeeps}
use Rattle.runs.proofs.JoinedChanges.{handed-more}
use Rattle.runs.proofs.OwnRoots.{taken-from, taken-still, taken-there}
use Rattle.runs.proofs.OwnedMonitors.{joined-current, low-handed, AreGiven, Low}
use Rattle.runs.proofs.OwnedRoots.{all-has, taken-first, taken-grows}
use Rattle.runs.proofs.OwnedScenes.{each-owned}
use Rattle.runs.proofs.Ran.{taken-key}
use Rattle.runs.proofs.SameChain.{frame-chain, shown-chain, step-chain}
use Rattle.runs.proofs.ToldScenes.{all-map, all-push, all-set, stays-step}

-- ---- one monitor

module _ (hash : List ℕ → List ℕ) (accepted verified : List ℕ → List ℕ → List ℕ → Type 0) (key : List ℕ) where
  -- the client and the monitor take one list
  current-taken : (list : List ℕ) (client client' : Client) (before after : Monitor) → IsChain hash verified client.chain → IsChain hash verified before.client.chain → Updates hash verified client list {A = Unit {0}} (Ok tt) client'
      → MonitorUpdates hash verified list before after → IsCurrent key client.chain before → IsCurrent key client'.chain after
  current-taken list client client' before after is own (roots, chain, spells, takes, grown) ((listed, taken, spelled, takes', grown'), same) current =
      let one : listed ≡ roots = one-list list listed roots spelled spells in
      let at : client'.chain ≡ chain = ap (λ (c : Client). c.chain) grown in
      let at' : after.client.chain ≡ taken = ap (λ (c : Client). c.chain) grown' in
      let there : AllByRecursion (HasBody taken) roots = subst (AllByRecursion (HasBody taken)) one (taken-there hash verified before.client.chain taken listed own takes') in
      let grows = taken-grows hash verified client.chain chain roots is takes in
      record {
        keyed = ap (λ (c : KeyedRoots). c.key) at' ∙ taken-key hash verified before.client.chain listed taken takes' ∙ current.keyed;
        covers = λ first first-at root has low. subst (λ (c : KeyedRoots). HasBody c root) (sym at') (elim (taken-from hash verified client.chain chain roots root takes (subst (λ (c : KeyedRoots). Contains c.roots root) at has)) [
          | inl old ↦ taken-still hash verified before.client.chain taken listed root takes'
              (current.covers first (taken-first hash verified before.client.chain taken listed first own takes' (subst (λ (c : KeyedRoots). IsFirst c first) at' first-at)) root old low)
          | inr new ↦ all-has (HasBody taken) roots root there new
        ]);
        low = subst (λ (m : Monitor). AllByRecursion (Low client'.chain) m.watch.changes) (sym same)
            (all-map (Low client.chain) (Low client'.chain) before.watch.changes (λ change (root, has, made). (root, subst (λ (c : KeyedRoots). Contains c.roots root) (sym at) (grows.stays root has), made)) current.low);
      }

  all-taken : (list : List ℕ) (client client' : Client) (before after : List Monitor) → IsChain hash verified client.chain → AllByRecursion (λ (m : Monitor). IsChain hash verified m.client.chain) before
      → Updates hash verified client list {A = Unit {0}} (Ok tt) client' → AllZip (MonitorUpdates hash verified list) before after → AllByRecursion (IsCurrent key client.chain) before → AllByRecursion (IsCurrent key client'.chain) after
  all-taken list client client' [] [] is own updates zip all = tt
  all-taken list client client' [] (monitor ∷ after) is own updates zip all = absurd zip
  all-taken list client client' (monitor ∷ before) [] is own updates zip all = absurd zip
  all-taken list client client' (monitor ∷ before) (monitor' ∷ after) is own updates (one, zip) all =
      (current-taken list client client' monitor monitor' is own.0 updates one all.0, all-taken list client client' before after is own.1 updates zip all.1)

  module _ (chain : KeyedRoots) where
    -- it is given a promise
    current-handed : (signed : SignedPromise) (promise : List ℕ) (before : Monitor) (why : Option MonitorRefusal) (after : Monitor) → HandsTo hash accepted verified signed promise before why after
        → AllByRecursion (HasBody chain) before.client.chain.roots → IsCurrent key chain before → IsCurrent key chain after
    current-handed signed promise before why after hands bodies current =
        let more = handed-more hash accepted verified signed promise before why after hands in
        record {
          keyed = ap (λ (c : KeyedRoots). c.key) more.chain ∙ current.keyed;
          covers = λ first at root has low. subst (λ (c : KeyedRoots). HasBody c root) (sym more.chain) (current.covers first (subst (λ (c : KeyedRoots). IsFirst c first) more.chain at) root has low);
          low = low-handed hash accepted verified chain signed promise before why after hands bodies current.low;
        }

    all-handed : (signed : SignedPromise) (promise : List ℕ) (before : List Monitor) (told told' : Report) (after : List Monitor) → HandsAll hash accepted verified signed promise before told told' after
        → AllByRecursion (λ (m : Monitor). AllByRecursion (HasBody chain) m.client.chain.roots) before → AllByRecursion (IsCurrent key chain) before → AllByRecursion (IsCurrent key chain) after
    all-handed signed promise [] told told' [] hands bodies all = tt
    all-handed signed promise [] told told' (monitor ∷ after) hands bodies all = absurd hands
    all-handed signed promise (monitor ∷ before) told told' [] hands bodies all = absurd hands
    all-handed signed promise (monitor ∷ before) told told' (monitor' ∷ after) (why, one, rest) bodies all =
        (current-handed signed promise monitor why monitor' one bodies.0 all.0, all-handed signed promise before _ told' after rest bodies.1 all.1)

    hands-current : (asked : RequestContent) (promise : List ℕ) (kept kept' : List SignedPromise) (before : List Monitor) (told : Report) (after : List Monitor) → Hands hash accepted verified asked promise kept kept' before told after
        → AllByRecursion (λ (m : Monitor). AllByRecursion (HasBody chain) m.client.chain.roots) before → AllByRecursion (IsCurrent key chain) before → AllByRecursion (IsCurrent key chain) after
    hands-current (Put verb name given) promise kept kept' before told after (inl (few, silent-is, same)) bodies all = subst (AllByRecursion (IsCurrent key chain)) (sym same) all
    hands-current (Put verb name given) promise kept kept' before told after (inr (more, (signed, at, hands))) bodies all = all-handed signed promise before _ told after hands bodies all
    hands-current (Query query) promise kept kept' before told after (silent-is, same) bodies all = subst (AllByRecursion (IsCurrent key chain)) (sym same) all
    hands-current (Turn token epoch _) promise kept kept' before told after (silent-is, same) bodies all = subst (AllByRecursion (IsCurrent key chain)) (sym same) all

    -- it watches an epoch, or does not
    shown-current : (before : Monitor) (epoch : ℕ) (asked : RequestContent) (frame : Frame) (went : Bool) (told : Report) (after : Monitor) → ShowsEpoch hash accepted before epoch asked frame went told after
        → IsCurrent key chain before → IsCurrent key chain after
    shown-current before epoch asked frame went told after (inl (missed, not, same)) current = subst (IsCurrent key chain) (sym same) current
    shown-current before epoch asked frame true told after (inr (answers, (step, (root, reply, found, says, same), tells))) current =
        subst (IsCurrent key chain) (sym same) (record { keyed = current.keyed; covers = current.covers; low = current.low })
    shown-current before epoch asked frame false told after (inr (answers, (why, enough, steps, tells))) current =
        subst (IsCurrent key chain) (sym (stays-step hash accepted verified before frame.body why after enough steps)) current

-- ---- scenes

module _ (hash : List ℕ → List ℕ) (accepted verified : List ℕ → List ℕ → List ℕ → Type 0) (Given : List ℕ → Option BoundKey → Type 0) (Own : SignedPromise → Type 0) (start : Memory) (marks : List Mark)
    (text : List ℕ) (stored : List SignedRoot) (known : List Mark) {T : Type 0} (exchanged : T → RequestContent → Frame → T → Type 0) (once : HasNoRepeat (map name_of marks))
    (spelled : (signed : SignedPromise) → Own signed → IsSignedPromise signed) (same-marks : start.marks ≡ marks) (key : List ℕ) where
  abbrev IsOwned : Scene T → Type 0
  IsOwned now = Owns hash accepted verified Given Own start text stored marks known now

  abbrev pub AreCurrent : Scene T → Type 0
  AreCurrent now = AllByRecursion (IsCurrent key now.client.chain) now.monitors

  abbrev pub CurrentOn : Scene T → Scene T → Type 0
  CurrentOn before after = IsOwned before × AreCurrent before → IsOwned after × AreCurrent after

  chains : (now : Scene T) → IsOwned now → AllByRecursion (λ (m : Monitor). IsChain hash verified m.client.chain) now.monitors
  chains now owns = all-map (IsOwn hash accepted verified Given Own start (text ++ now.told.lines) now.client.chain marks) (λ (m : Monitor). IsChain hash verified m.client.chain) now.monitors (λ monitor own. own.told.chain) owns.watched

  bodies : (now : Scene T) → IsOwned now → AllByRecursion (λ (m : Monitor). AllByRecursion (HasBody now.client.chain) m.client.chain.roots) now.monitors
  bodies now owns = all-map (IsOwn hash accepted verified Given Own start (text ++ now.told.lines) now.client.chain marks) (λ (m : Monitor). AllByRecursion (HasBody now.client.chain) m.client.chain.roots) now.monitors (λ monitor own. own.own) owns.watched

  -- the chain and the monitors are as before
  stays-on : (before after : Scene T) → after.client.chain ≡ before.client.chain → after.monitors ≡ before.monitors → (IsOwned before → IsOwned after) → CurrentOn before after
  stays-on before after chain monitors owned (owns, current) = (
    owned owns,
    subst (λ (c : KeyedRoots). AllByRecursion (IsCurrent key c) after.monitors) (sym chain) (subst (AllByRecursion (IsCurrent key before.client.chain)) (sym monitors) current),
  )

  -- the chain is as before
  goes-on : (before after : Scene T) → after.client.chain ≡ before.client.chain → (IsOwned before → IsOwned after) → (IsOwned before → AreCurrent before → AllByRecursion (IsCurrent key before.client.chain) after.monitors) → CurrentOn before after
  goes-on before after chain owned all (owns, current) = (owned owns, subst (λ (c : KeyedRoots). AllByRecursion (IsCurrent key c) after.monitors) (sym chain) (all owns current))

  -- so every whole relation between scenes keeps it
  pub each-current : EachKeeps hash accepted verified exchanged marks (AllByRecursion Own) (λ joins promised name given. (joins ≡ key) × (Given name given × AreGiven hash accepted verified Given Own start joins name promised)) ⊥ CurrentOn
  each-current = let owned = each-owned hash accepted verified Given Own start marks text stored known exchanged once spelled same-marks in record {
    none = λ before now. now;
    both = λ before middle after one other now. other (one now);
    sends = λ before stream. stays-on before (record before { stream = stream }) refl refl (owned.sends before stream);
    tells = λ before told. stays-on before (record before { told = told_after before.told told }) refl refl (owned.tells before told);
    takes = λ before after (frame, asks, (client, monitors), same, above, finals) (owns, current). (
      owned.takes before after (frame, asks, (client, monitors), same, above, finals) owns,
      all-taken hash accepted verified key frame.body before.client after.client before.monitors after.monitors owns.chain (chains before owns) client monitors current,
    );
    stops = λ before after may stops. absurd may;
    tests = λ before name kept after asks.
        stays-on before after (shown-chain hash accepted verified before.client name (Query (Lookup name asks.epoch)) asks.frame kept asks.told after.client asks.shows) asks.monitors (owned.tests before name kept after asks);
    steps = λ before place went after asks. goes-on before after (step-chain hash accepted verified before.client asks.monitor.name asks.epoch (Query (Lookup asks.monitor.name asks.epoch)) asks.frame asks.told asks.found after.client asks.client) (owned.steps before place went after asks) (λ owns current.
        subst (AllByRecursion (IsCurrent key before.client.chain)) (sym asks.monitors) (all-set (IsCurrent key before.client.chain) before.monitors place asks.watched current
        (shown-current hash accepted verified key before.client.chain asks.monitor asks.epoch (Query (Lookup asks.monitor.name asks.epoch)) asks.frame went asks.told asks.watched asks.shows (all-at (IsCurrent key before.client.chain) before.monitors place asks.monitor current asks.at))));
    joins = λ before joins promised name given first monitor may is joined. goes-on before (record before { monitors = before.monitors ++ monitor ∷ [] }) refl (owned.joins before joins promised name given first monitor may.1 is joined) (λ owns current.
        all-push (IsCurrent key before.client.chain) before.monitors monitor current (subst (λ (k : List ℕ). IsCurrent k before.client.chain monitor) may.0
        (joined-current hash accepted verified Given Own start (text ++ before.told.lines) before.client.chain marks joins promised first name given monitor owns.chain owns.formed once may.1.0 spelled may.1.1 same-marks owns.rooted is joined)));
    hears = λ before after held asked frame heard told hears tells monitors.
        stays-on before after (frame-chain hash accepted verified held before.client after.client asked frame heard hears) monitors (owned.hears before after held asked frame heard told hears tells monitors);
    hands = λ before after held asked frame noted noted' hears notes may.
        goes-on before after (frame-chain hash accepted verified held before.client after.client asked frame hears.told hears.hears) (owned.hands before after held asked frame noted noted' hears notes may) (λ owns current.
        hands-current hash accepted verified key before.client.chain asked frame.body before.client.promises after.client.promises before.monitors hears.handed after.monitors hears.hands (bodies before owns) current);
  }
