-- All that the monitors of a scene watched is told, and every step keeps it so.
use Rattle.std.proofs.Common.{◌≡◌, ◌≢◌, ℕ, zero, suc, true, false, Bool, List, [], ◌∷◌, ◌++◌, Option, Some, None, Ok, Err, inl, inr, refl, subst, sym, append_assoc, slice_set}
use Rattle.std.specs.Prelude.{⊤}
use Rattle.std.specs.List.{AllByRecursion, AllZip}
use Rattle.encoding.specs.declared.bound_key.BoundKey.{BoundKey}
use Rattle.rootchain.specs.Chains.{IsChain}
use Rattle.rootchain.specs.Promises.{signed_promise_bytes}
use Rattle.rootchain.specs.declared.signed_promise.SignedPromise.{SignedPromise}
use Rattle.rootchain.specs.declared.signed_root.SignedRoot.{SignedRoot}
use Rattle.rootchain.proofs.TakingLists.{takes-chain}
use Rattle.client.specs.Clients.{Client}
use Rattle.client.specs.Updating.{Updates}
use Rattle.client.specs.declared.client_refusal.Refusal.{Refusal}
use Rattle.client.specs.declared.client_refusal.Refusal.TheVariants.{Root, Proof, UnknownRoot, RootDiffers, Memory, NoPromise}
use Rattle.client.proofs.Breaking.{all-at}
use Rattle.monitor.specs.Expecting.{Expects}
use Rattle.monitor.specs.Monitors.{Monitor}
use Rattle.monitor.specs.Stepping.{IsNextEpoch, Steps}
use Rattle.monitor.specs.declared.monitor_refusal.Refusal.{Refusal as MonitorRefusal}
use Rattle.monitor.specs.declared.monitor_refusal.Refusal.TheVariants as refusal
use Rattle.wire.specs.Frames.{Frame}
use Rattle.commands.specs.Operations.{Lookup}
use Rattle.wire.specs.Requests.{RequestContent, Query, Put, Turn}
use Rattle.memory.specs.declared.mark.Mark.{Mark}
use Rattle.asking.specs.Asking.{Hands, HandsAll, HandsTo, HearsOne}
use Rattle.asking.specs.Following.{asks_roots, MonitorUpdates, OneRefuses, StopsFollowing, StopsList, TakesList}
use Rattle.asking.specs.Joining.{AllHand, IsJoined, Retraces, StartsFrom}
use Rattle.asking.specs.Reports.{Report, silent, told_after}
use Rattle.asking.specs.Scenes.{Scene}
use Rattle.runs.specs.Told.{IsTold}
use Rattle.asking.specs.Watching.{AsksEpoch, ShowsEpoch}
use Rattle.runs.proofs.EveryStep.{EachKeeps}
use Rattle.runs.proofs.OwnedRoots.{one-chain}
use Rattle.runs.proofs.Told.{told-changed, told-grown, told-more, told-new, told-stepped}

-- ---- lists

pub all-map : {A : Type 0} (P Q : A → Type 0) (xs : List A) → ((x : A) → P x → Q x) → AllByRecursion P xs → AllByRecursion Q xs
all-map P Q [] leads all = tt
all-map P Q (x ∷ xs) leads all = (leads x all.0, all-map P Q xs leads all.1)

pub all-push : {A : Type 0} (P : A → Type 0) (xs : List A) (x : A) → AllByRecursion P xs → P x → AllByRecursion P (xs ++ x ∷ [])
all-push P [] x all last = (last, tt)
all-push P (y ∷ xs) x all last = (all.0, all-push P xs x all.1 last)

pub all-set : {A : Type 0} (P : A → Type 0) (xs : List A) (place : ℕ) (x : A) → AllByRecursion P xs → P x → AllByRecursion P (slice_set xs place x)
all-set P [] place x all here = all
all-set P (y ∷ xs) zero x all here = (here, all.1)
all-set P (y ∷ xs) (suc place) x all here = (all.0, all-set P xs place x all.1 here)

pub all-zip : {A : Type 0} (P Q : A → Type 0) (R : A → A → Type 0) (xs ys : List A) → ((x y : A) → R x y → P x → Q y) → AllZip R xs ys → AllByRecursion P xs → AllByRecursion Q ys
all-zip P Q R [] [] leads zip all = tt
all-zip P Q R [] (y ∷ ys) leads zip all = absurd zip
all-zip P Q R (x ∷ xs) [] leads zip all = absurd zip
all-zip P Q R (x ∷ xs) (y ∷ ys) leads zip all = (leads x y zip.0 all.0, all-zip P Q R xs ys leads zip.1 all.1)

module _ (hash : List ℕ → List ℕ) (accepted verified : List ℕ → List ℕ → List ℕ → Type 0) where
  abbrev Told : List ℕ → Monitor → Type 0
  Told = IsTold hash accepted verified

  -- ---- what a refusal leaves

  pub stays-step : (before : Monitor) (reply : List ℕ) (why : Refusal) (after : Monitor) → why ≢ Memory → Steps hash accepted before reply (Err (refusal.Client why)) after → after ≡ before
  stays-step before reply UnknownRoot after enough (none, same) = same
  stays-step before reply (Proof why) after enough (root, is, refuses, same) = same
  stays-step before reply Memory after enough steps = absurd (enough refl)
  stays-step before reply (Root why) after enough steps = absurd steps
  stays-step before reply (RootDiffers evidence) after enough steps = absurd steps
  stays-step before reply NoPromise after enough steps = absurd steps

  pub stays-change : (before : Monitor) (key : BoundKey) (bytes : List ℕ) (why : MonitorRefusal) (after : Monitor) → Expects hash verified before key bytes {A = Unit {0}} (Err why) after → after ≡ before
  stays-change before key bytes refusal.OtherPromise after (reads, same) = same
  stays-change before key bytes (refusal.Client Memory) after (some, same) = same
  stays-change before key bytes (refusal.Client (Root why)) after (reads, same) = same
  stays-change before key bytes (refusal.Client UnknownRoot) after (reads, same) = same
  stays-change before key bytes (refusal.Client (Proof why)) after expects = absurd expects
  stays-change before key bytes (refusal.Client (RootDiffers evidence)) after expects = absurd expects
  stays-change before key bytes (refusal.Client NoPromise) after expects = absurd expects

  -- ---- promises

  told-handed : (text : List ℕ) (signed : SignedPromise) (promise : List ℕ) (before : Monitor) (why : Option MonitorRefusal) (after : Monitor) → HandsTo hash accepted verified signed promise before why after → Told text before → Told text after
  told-handed text signed promise before None after (inl (named, expects)) told = told-changed hash accepted verified text before signed.promise.key promise after expects told
  told-handed text signed promise before None after (inr (other, same)) told = subst (Told text) (sym same) told
  told-handed text signed promise before (Some why) after (named, enough, expects) told = subst (Told text) (sym (stays-change before signed.promise.key promise why after expects)) told

  told-all_handed : (text : List ℕ) (promises : List SignedPromise) (before after : Monitor) → AllHand hash accepted verified promises before after → Told text before → Told text after
  told-all_handed text [] before after same told = subst (Told text) (sym same) told
  told-all_handed text (signed ∷ more) before after (why, middle, hands, rest) told = told-all_handed text more middle after rest (told-handed text signed (signed_promise_bytes signed) before why middle hands told)

  told-hands : (text : List ℕ) (signed : SignedPromise) (promise : List ℕ) (before : List Monitor) (told told' : Report) (after : List Monitor) → HandsAll hash accepted verified signed promise before told told' after
      → AllByRecursion (Told text) before → AllByRecursion (Told text) after
  told-hands text signed promise [] told told' [] hands all = tt
  told-hands text signed promise [] told told' (monitor ∷ after) hands all = absurd hands
  told-hands text signed promise (monitor ∷ before) told told' [] hands all = absurd hands
  told-hands text signed promise (monitor ∷ before) told told' (monitor' ∷ after) (why, one, rest) all =
      (told-handed text signed promise monitor why monitor' one all.0, told-hands text signed promise before _ told' after rest all.1)

  told-given : (text : List ℕ) (asked : RequestContent) (promise : List ℕ) (kept kept' : List SignedPromise) (before : List Monitor) (told : Report) (after : List Monitor) → Hands hash accepted verified asked promise kept kept' before told after
      → AllByRecursion (Told text) before → AllByRecursion (Told text) after
  told-given text (Put verb name key) promise kept kept' before told after (inl (few, silent-is, same)) all = subst (AllByRecursion (Told text)) (sym same) all
  told-given text (Put verb name key) promise kept kept' before told after (inr (more, (signed, at, hands))) all = told-hands text signed promise before silent told after hands all
  told-given text (Query query) promise kept kept' before told after (silent-is, same) all = subst (AllByRecursion (Told text)) (sym same) all
  told-given text (Turn token epoch _) promise kept kept' before told after (silent-is, same) all = subst (AllByRecursion (Told text)) (sym same) all

  -- ---- a monitor that begins

  updated-chain : (client : Client) (list : List ℕ) (after : Client) → Updates hash verified client list {A = Unit {0}} (Ok tt) after → IsChain hash verified client.chain → IsChain hash verified after.chain
  updated-chain client list after (roots, chain, spelled, takes, same) is = subst (λ (c : Client). IsChain hash verified c.chain) (sym same) (takes-chain hash verified roots client.chain chain is takes)

  module _ (chain : _) where
    retraced-chain : (count epoch : ℕ) (before after : Client) → Retraces hash verified chain count epoch before (Ok after) → IsChain hash verified before.chain → IsChain hash verified after.chain
    retraced-chain zero epoch before after (none, same) is = subst (λ (c : Client). IsChain hash verified c.chain) (sym same) is
    retraced-chain (suc count) epoch before after (next, middle, (root, is-next, at, updates), rest) is = retraced-chain count next middle after rest (updated-chain before _ middle updates is)

    started-chain : (key : List ℕ) (first : SignedRoot) (own : Client) → StartsFrom hash verified chain key first (Ok own) → IsChain hash verified own.chain
    started-chain key first own (start, (root, (spells, signed), is), (count, retraces)) =
        retraced-chain count first.body.epoch start own retraces (subst (λ (c : Client). IsChain hash verified c.chain) (sym is) (one-chain hash verified key root signed))

    pub told-joined : (text : List ℕ) (marks : List Mark) (key : List ℕ) (promised : List SignedPromise) (first : SignedRoot) (name : List ℕ) (given : Option BoundKey) (monitor : Monitor)
        → IsJoined hash accepted verified marks key promised chain first name given monitor → Told text monitor
    told-joined text marks key promised first name given monitor joined =
        told-all_handed text promised _ monitor joined.hands (told-new hash accepted verified text joined.own name _ (started-chain key first joined.own joined.starts))

  -- ---- scenes

  module _ {T : Type 0} (exchanged : T → RequestContent → Frame → T → Type 0) where
    -- all that the monitors watched was written before, or is told
    abbrev pub AllTold : List ℕ → Scene T → Type 0
    AllTold text now = AllByRecursion (Told (text ++ now.told.lines)) now.monitors

    abbrev pub Keeps : Scene T → Scene T → Type 0
    Keeps before after = (text : List ℕ) → AllTold text before → AllTold text after

    told-twice : (text : List ℕ) (before told : Report) → (text ++ before.lines) ++ told.lines ≡ text ++ (told_after before told).lines
    told-twice text before told = append_assoc text before.lines told.lines

    -- more is told, and the monitors are the same
    all-more : (text : List ℕ) (before told : Report) (monitors : List Monitor) → AllByRecursion (Told (text ++ before.lines)) monitors → AllByRecursion (Told (text ++ (told_after before told).lines)) monitors
    all-more text before told monitors all = subst (λ (t : List ℕ). AllByRecursion (Told t) monitors) (told-twice text before told)
        (all-map (Told (text ++ before.lines)) (Told ((text ++ before.lines) ++ told.lines)) monitors (λ monitor is. told-more hash accepted verified (text ++ before.lines) told.lines monitor is) all)

    keeps-told : (before after : Scene T) (told : Report) → after.told ≡ told_after before.told told → after.monitors ≡ before.monitors → Keeps before after
    keeps-told before after told tells same text all =
        subst (λ (r : Report). AllByRecursion (Told (text ++ r.lines)) after.monitors) (sym tells)
        (subst (AllByRecursion (Told (text ++ (told_after before.told told).lines))) (sym same) (all-more text before.told told before.monitors all))

    -- ---- roots

    takes-keeps : (before after : Scene T) → TakesList hash verified exchanged before true after → Keeps before after
    takes-keeps before after (frame, asks, (client, monitors), same, above, finals) = λ text all.
        subst (λ (r : Report). AllByRecursion (Told (text ++ r.lines)) after.monitors) (sym same)
        (all-zip (Told (text ++ before.told.lines)) (Told (text ++ before.told.lines)) (MonitorUpdates hash verified frame.body) before.monitors after.monitors
        (λ one other updates told. told-grown hash accepted verified (text ++ before.told.lines) frame.body one other updates told) monitors all)

    told-refused : (text list : List ℕ) (before : List Monitor) (why : Refusal) (after : List Monitor) → OneRefuses hash verified list before why after → AllByRecursion (Told text) before → AllByRecursion (Told text) after
    told-refused text list [] why after refuses all = absurd refuses
    told-refused text list (monitor ∷ before) why [] refuses all = absurd refuses
    told-refused text list (monitor ∷ before) why (monitor' ∷ after) (inl (refuses, same, rest)) all = (subst (Told text) (sym same) all.0, subst (AllByRecursion (Told text)) (sym rest) all.1)
    told-refused text list (monitor ∷ before) why (monitor' ∷ after) (inr (updates, more)) all = (told-grown hash accepted verified text list monitor monitor' updates all.0, told-refused text list before why after more all.1)

    told-stopped : (text : List ℕ) (asked : RequestContent) (client : Client) (before : List Monitor) (frame : Frame) (told : Report) (client' : Client) (after : List Monitor)
        → StopsFollowing hash verified asked client before frame told client' after → AllByRecursion (Told text) before → AllByRecursion (Told text) after
    told-stopped text asked client before frame told client' after (inl (missed, same, others)) all = subst (AllByRecursion (Told text)) (sym others) all
    told-stopped text asked client before frame told client' after (inr (answers, inl (why, inl (refuses, same, others), tells))) all = subst (AllByRecursion (Told text)) (sym others) all
    told-stopped text asked client before frame told client' after (inr (answers, inl (why, inr (updates, refuses), tells))) all = told-refused text frame.body before why after refuses all
    told-stopped text asked client before frame told client' after (inr (answers, inr ((some, (updates, monitors), none), tells))) all =
        all-zip (Told text) (Told text) (MonitorUpdates hash verified frame.body) before after (λ one other update is. told-grown hash accepted verified text frame.body one other update is) monitors all

    stops-keep : (before after : Scene T) → StopsList hash verified exchanged before after → Keeps before after
    stops-keep before after (head, is, frame, exchange, told, stops, tells, finals) = λ text all.
        subst (λ (r : Report). AllByRecursion (Told (text ++ r.lines)) after.monitors) (sym tells)
        (told-stopped (text ++ (told_after before.told told).lines) (asks_roots head) before.client before.monitors frame told after.client after.monitors stops (all-more text before.told told before.monitors all))

    -- ---- monitors

    told-shown : (text : List ℕ) (before : Monitor) (epoch : ℕ) (asked : RequestContent) (frame : Frame) (went : Bool) (told : Report) (after : Monitor) → IsNextEpoch before (Some epoch)
        → ShowsEpoch hash accepted before epoch asked frame went told after → Told text before → Told (text ++ told.lines) after
    told-shown text before epoch asked frame went told after next (inl (missed, not, same)) is = subst (Told (text ++ told.lines)) (sym same) (told-more hash accepted verified text told.lines before is)
    told-shown text before epoch asked frame true told after next (inr (answers, (step, steps, tells))) is =
        subst (λ (r : Report). Told (text ++ r.lines) after) (sym tells) (told-stepped hash accepted verified text before epoch frame.body step after next steps is)
    told-shown text before epoch asked frame false told after next (inr (answers, (why, enough, steps, tells))) is =
        subst (Told (text ++ told.lines)) (sym (stays-step before frame.body why after enough steps)) (told-more hash accepted verified text told.lines before is)

    asks-keeps : (place : ℕ) (went : Bool) (before after : Scene T) → AsksEpoch hash accepted exchanged before place went after → Keeps before after
    asks-keeps place went before after asks text all =
        let now = text ++ before.told.lines in
        let own = all-at (Told now) before.monitors place asks.monitor all asks.at in
        let told = told_after asks.told (told_after asks.shown asks.found) in
        let stepped = told-shown now asks.monitor asks.epoch (Query (Lookup asks.monitor.name asks.epoch)) asks.frame went asks.told asks.watched asks.next asks.shows own in
        let watched = subst (λ (t : List ℕ). Told t asks.watched) (append_assoc now asks.told.lines (told_after asks.shown asks.found).lines) (told-more hash accepted verified (now ++ asks.told.lines) (told_after asks.shown asks.found).lines asks.watched stepped) in
        let others = all-map (Told now) (Told (now ++ told.lines)) before.monitors (λ monitor is. told-more hash accepted verified now told.lines monitor is) all in
        let both = all-set (Told (now ++ told.lines)) before.monitors place asks.watched others watched in
        subst (λ (r : Report). AllByRecursion (Told (text ++ r.lines)) after.monitors) (sym asks.tells)
        (subst (AllByRecursion (Told (text ++ (told_after before.told told).lines))) (sym asks.monitors)
        (subst (λ (t : List ℕ). AllByRecursion (Told t) (slice_set before.monitors place asks.watched)) (told-twice text before.told told) both))

    -- ---- a line

    hears-keeps : (held : ℕ) (asked : RequestContent) (frame : Frame) (before after : Scene T) → HearsOne hash accepted verified exchanged held asked frame before after → Keeps before after
    hears-keeps held asked frame before after hears text all =
        let told = told_after hears.told hears.shown in
        let middle = told_after before.told told in
        let one = all-more text before.told told before.monitors all in
        let two = all-more text middle hears.handed before.monitors one in
        let given = told-given (text ++ (told_after middle hears.handed).lines) asked frame.body before.client.promises after.client.promises before.monitors hears.handed after.monitors hears.hands two in
        subst (λ (r : Report). AllByRecursion (Told (text ++ r.lines)) after.monitors) (sym hears.tells) given

    -- so every relation between scenes keeps it
    pub each-told : (marks : List Mark) → EachKeeps hash accepted verified exchanged marks (λ noted. ⊤) (λ key promised name given. ⊤) ⊤ Keeps
    each-told marks = record {
      none = λ before text all. all;
      both = λ before middle after one other text all. other text (one text all);
      sends = λ before stream text all. all;
      tells = λ before told. keeps-told before (record before { told = told_after before.told told }) told refl refl;
      takes = takes-keeps;
      stops = λ before after may stops. stops-keep before after stops;
      tests = λ before name kept after asks. keeps-told before after (told_after asks.told asks.shown) asks.tells asks.monitors;
      steps = λ before place went after asks. asks-keeps place went before after asks;
      joins = λ before key promised name given first monitor may is joined text all. all-push (Told (text ++ before.told.lines)) before.monitors monitor all
          (told-joined before.client.chain (text ++ before.told.lines) marks key promised first name given monitor joined);
      hears = λ before after held asked frame heard told hears tells monitors. keeps-told before after told tells monitors;
      hands = λ before after held asked frame noted noted' hears notes may. hears-keeps held asked frame before after hears;
    }
