-- What is owned stays so where a promise for a change of the owner's own is noted: it counts from then on.
use Rattle.std.proofs.Common.{◌≡◌, ◌∙◌, ◌⊎◌, ◌-◌, ◌<◌, ◌≤◌, ℕ, true, false, List, [], ◌∷◌, ◌++◌, length, Contains, Option, Some, arith, ap, inl, inr, subst, sym}
use Rattle.std.specs.Prelude.{slice_get}
use Rattle.std.proofs.lemmas.List.Elements.{Contains-push}
use Rattle.encoding.specs.declared.bound_key.BoundKey.{BoundKey}
use Rattle.commands.specs.Operations.{AskedKey}
use Rattle.commands.specs.declared.edit.Verb.{Verb}
use Rattle.play.proofs.Lists.{all-in}
use Rattle.std.specs.List.{AllByRecursion, AllZip}
use Rattle.rootchain.specs.Bodies.{body_bytes}
use Rattle.rootchain.specs.Chains.{IsChain, IsHead, KeyedRoots}
use Rattle.rootchain.specs.Places.{IsFirst}
use Rattle.rootchain.specs.Promises.{PromiseVerifies, SpellsPromise}
use Rattle.rootchain.specs.declared.body.Body.{Body}
use Rattle.rootchain.specs.declared.promise.Promise.{Promise}
use Rattle.rootchain.specs.declared.signed_promise.SignedPromise.{SignedPromise}
use Rattle.rootchain.specs.declared.signed_root.SignedRoot.{SignedRoot}
use Rattle.rootchain.proofs.Places.{ends}
use Rattle.rootchain.proofs.TakingLists.{takes-chain}
use Rattle.client.specs.Clients.{Client, HasRootOf}
use Rattle.memory.specs.Memories.{Memory}
use Rattle.memory.specs.declared.mark.Mark.{Mark}
use Rattle.monitor.specs.Monitors.{Monitor}
use Rattle.monitor.specs.declared.monitor_refusal.Refusal.{Refusal}
use Rattle.proofs.specs.Watches.{Watch}
use Rattle.wire.specs.Frames.{Frame}
use Rattle.wire.specs.Requests.{RequestContent, Put, Query, Turn}
use Rattle.asking.specs.Catching.{Advances}
use Rattle.asking.specs.Asking.{Hands, HandsAll, HandsTo, HearsOne, Notes}
use Rattle.asking.specs.Following.{MonitorUpdates, TakesList}
use Rattle.runs.specs.Owning.{HasChange, IsHeld, IsOwn, IsOwners, Owns}
use Rattle.asking.specs.Reports.{Report, silent}
use Rattle.runs.specs.Saves.{noting, Counts, IsOwnAhead}
use Rattle.asking.specs.Scenes.{Scene}
use Rattle.runs.specs.Standing.{IsCurrent}
use Rattle.runs.specs.Told.{HasBody}
use Rattle.runs.proofs.JoinedChanges.{expects-handed, handed-more}
use Rattle.runs.proofs.NotedOwn.{last-rooted, last-spelled, IsLate}
use Rattle.runs.proofs.Noting.{expects-counted, noted-last, tells-counted}
use Rattle.runs.proofs.OwnRoots.{some-same}
use Rattle.runs.proofs.OwnedMonitors.{own-first, Low}
use Rattle.runs.proofs.OwnedRoots.{all-has, head-high, taken-first}
use Rattle.runs.proofs.SameChain.{frame-chain}
use Rattle.runs.proofs.ToldScenes.{all-map}

-- ---- before a promise comes

module _ (hash : List ℕ → List ℕ) (accepted verified : List ℕ → List ℕ → List ℕ → Type 0) (held : ℕ) where
  -- a monitor that begins no later than this epoch, watched none above it, and expects no change that is above it
  pub record IsBelow (monitor : Monitor) : Type 0 where
    pub chain : IsChain hash verified monitor.client.chain
    pub first : (first : SignedRoot) → IsFirst monitor.client.chain first → first.body.epoch ≤ held
    pub watched : monitor.watched ≤ held
    pub changes : AllByRecursion (λ (change : ℕ × BoundKey). change.0 ≤ held) monitor.watch.changes

  -- it takes a list
  below-taken : (list : List ℕ) (before after : Monitor) → MonitorUpdates hash verified list before after → IsBelow before → IsBelow after
  below-taken list before after ((roots, taken, spells, takes, grown), same) below =
      let at : after.client.chain ≡ taken = ap (λ (c : Client). c.chain) grown in
      record {
        chain = subst (IsChain hash verified) (sym at) (takes-chain hash verified roots before.client.chain taken below.chain takes);
        first = λ first is. below.first first (taken-first hash verified before.client.chain taken roots first below.chain takes (subst (λ (c : KeyedRoots). IsFirst c first) at is));
        watched = subst (λ (m : Monitor). m.watched ≤ held) (sym same) below.watched;
        changes = subst (λ (m : Monitor). AllByRecursion (λ (change : ℕ × BoundKey). change.0 ≤ held) m.watch.changes) (sym same) below.changes;
      }

  all-below : (list : List ℕ) (before after : List Monitor) → AllZip (MonitorUpdates hash verified list) before after → AllByRecursion IsBelow before → AllByRecursion IsBelow after
  all-below list [] [] zip all = tt
  all-below list [] (monitor ∷ after) zip all = absurd zip
  all-below list (monitor ∷ before) [] zip all = absurd zip
  all-below list (monitor ∷ before) (monitor' ∷ after) (one, zip) all = (below-taken list monitor monitor' one all.0, all-below list before after zip all.1)

  module _ {T : Type 0} (exchanged : T → RequestContent → Frame → T → Type 0) where
    abbrev AllBelow : Scene T → Type 0
    AllBelow now = AllByRecursion IsBelow now.monitors

    taken-below : (before after : Scene T) → TakesList hash verified exchanged before true after → AllBelow before → AllBelow after
    taken-below before after (frame, asks, (client, monitors), same, above, finals) all = all-below frame.body before.monitors after.monitors monitors all

    -- no more lists are needed behind this one
    pub waits-below : (marks : List Mark) (epoch : ℕ) (before after : Scene T) → Advances hash accepted verified exchanged epoch before false after → AllBelow before → AllBelow after
    waits-below marks epoch before after (inl (there, same)) all = subst AllBelow (sym same) all
    waits-below marks epoch before after (inr (low, inl (inl (head, is, last, same)))) all = subst AllBelow (sym same) all
    waits-below marks epoch before after (inr (low, inl (inr (frame, stream, asks, none, same)))) all = subst AllBelow (sym same) all
    waits-below marks epoch before after (inr (low, inr (takes, there))) all = taken-below before after takes all

  -- ---- it is handed

  -- a monitor that is current has the root of a promise that the client's chain has, from its first on
  current-rooted : (key : List ℕ) (chain : KeyedRoots) (monitor : Monitor) (first : SignedRoot) (promise : Promise) → IsCurrent key chain monitor → IsFirst monitor.client.chain first → first.body.epoch ≤ promise.epoch → HasRootOf hash chain promise
      → HasRootOf hash monitor.client.chain promise
  unfolding HasRootOf
  current-rooted key chain monitor first promise current at low (root, (has, made), hashed) =
      let (copy, there, same) = current.covers first at root has (omega (arith, low, made)) in
      (copy, (there, ap (λ (b : Body). b.epoch) same ∙ made), hashed ∙ ap (λ (b : Body). hash (body_bytes b)) (sym same))

  module _ (key : List ℕ) (chain : KeyedRoots) (signed : SignedPromise) (promise : List ℕ) (spelled : SpellsPromise promise signed) (verifies : PromiseVerifies verified key signed) (rooted : HasRootOf hash chain signed.promise) (late : held ≤ signed.promise.epoch) where
    -- a monitor begins no later than behind it, and one of its name expects a change of its epoch
    abbrev pub IsExpecting : Monitor → Type 0
    IsExpecting monitor = ((first : SignedRoot) → IsFirst monitor.client.chain first → first.body.epoch ≤ signed.promise.epoch) × (signed.promise.name ≡ monitor.name → HasChange monitor.watch.changes signed.promise.epoch)

    handed-one : (before : Monitor) (why : Option Refusal) (after : Monitor) → HandsTo hash accepted verified signed promise before why after → IsBelow before → IsCurrent key chain before → IsExpecting after
    handed-one before why after hands below current =
        let more = handed-more hash accepted verified signed promise before why after hands in
        let both = ends before.client.chain.roots below.chain.first in
        let low = below.first both.first both.at-first in
        let watched = below.watched in (
          λ first at. let high = below.first first (subst (λ (c : KeyedRoots). IsFirst c first) more.chain at) in omega (arith, high, late),
          λ named. expects-handed hash accepted verified key signed promise spelled verifies before (sym more.name ∙ sym named) current.keyed (omega (arith, watched, late))
              (all-map (λ (change : ℕ × BoundKey). change.0 ≤ held) (λ (change : ℕ × BoundKey). change.0 ≤ signed.promise.epoch) before.watch.changes (λ change high. omega (arith, high, late)) below.changes)
              (current-rooted key chain before both.first signed.promise current both.at-first (omega (arith, low, late)) rooted) why after hands,
        )

    pub all-handed : (before : List Monitor) (told told' : Report) (after : List Monitor) → HandsAll hash accepted verified signed promise before told told' after → AllByRecursion IsBelow before → AllByRecursion (IsCurrent key chain) before
        → AllByRecursion IsExpecting after
    all-handed [] told told' [] hands below current = tt
    all-handed [] told told' (monitor ∷ after) hands below current = absurd hands
    all-handed (monitor ∷ before) told told' [] hands below current = absurd hands
    all-handed (monitor ∷ before) told told' (monitor' ∷ after) (why, one, rest) below current =
        (handed-one monitor why monitor' one below.0 current.0, all-handed before _ told' after rest below.1 current.1)

-- ---- it counts

module _ (hash : List ℕ → List ℕ) (accepted verified : List ℕ → List ℕ → List ℕ → Type 0) (Given : List ℕ → Option BoundKey → Type 0) (Own : SignedPromise → Type 0) (start : Memory) (marks : List Mark) (noted : List SignedPromise) (signed : SignedPromise) where
  abbrev Before : Memory
  Before = noting start noted

  abbrev After : Memory
  After = noting start (noted ++ signed ∷ [])

  -- before epochs that are not above it, nothing else counts than before
  counted : (epoch : ℕ) → epoch ≤ signed.promise.epoch → (other : SignedPromise) → Counts After other → other.promise.epoch < epoch → Counts Before other
  counted epoch low other (was, awaited) early = elim (noted-last start noted signed other was) [
    | inl old ↦ (old, awaited)
    | inr same ↦ absurd (omega (arith, low, early, ap (λ (s : SignedPromise). s.promise.epoch) same))
  ]

  owners-noted : (name : List ℕ) (first : SignedRoot) (watch : Watch) → first.body.epoch ≤ signed.promise.epoch → (signed.promise.name ≡ name → HasChange watch.changes signed.promise.epoch)
      → IsOwners Given Own Before name first watch → IsOwners Given Own After name first watch
  owners-noted name first watch low expecting owners = record {
    begins = expects-counted Given (IsOwnAhead Own Before) (Counts Before) (Counts After) name first.body.epoch watch.start (λ other counts named early. counted first.body.epoch low other counts early) owners.begins;
    changes = owners.changes;
    later = owners.later;
    covers = λ other (was, awaited) named late. elim (noted-last start noted signed other was) [
      | inl old ↦ owners.covers other (old, awaited) named late
      | inr same ↦ subst (λ (s : SignedPromise). HasChange watch.changes s.promise.epoch) same (expecting (ap (λ (s : SignedPromise). s.promise.name) same ∙ named))
    ];
  }

  abbrev Expects : Monitor → Type 0
  Expects monitor = ((first : SignedRoot) → IsFirst monitor.client.chain first → first.body.epoch ≤ signed.promise.epoch) × (signed.promise.name ≡ monitor.name → HasChange monitor.watch.changes signed.promise.epoch)

  own-noted : (text : List ℕ) (chain : KeyedRoots) (monitor : Monitor) → Expects monitor → IsOwn hash accepted verified Given Own Before text chain marks monitor → IsOwn hash accepted verified Given Own After text chain marks monitor
  own-noted text chain monitor (low, expecting) is = record {
    told = is.told;
    own = is.own;
    begins = is.begins;
    above = is.above;
    expects = λ first at. owners-noted monitor.name first monitor.watch (low first at) expecting (is.expects first at);
  }

  abbrev IsLow : Mark → Type 0
  IsLow mark = (mark.epoch ≤ mark.since) ⊎ (mark.epoch ≤ signed.promise.epoch)

  below-low : (mark : Mark) (epoch : ℕ) → IsLow mark → mark.since < epoch → epoch ≤ mark.epoch → epoch ≤ signed.promise.epoch
  below-low mark epoch (inl none) above low = absurd (omega (arith, none, above, low))
  below-low mark epoch (inr high) above low = omega (arith, low, high)

  held-noted : (text : List ℕ) (chain : KeyedRoots) (monitors : List Monitor) (mark : Mark) → IsLow mark → IsHeld hash accepted verified Given Own Before text marks chain monitors mark → IsHeld hash accepted verified Given Own After text marks chain monitors mark
  held-noted text chain monitors mark late is = record {
    low = is.low;
    told = λ root has above low. elim (is.told root has above low) [
      | inl tells ↦ inl (tells-counted Given (IsOwnAhead Own Before) (Counts Before) (Counts After) mark.name hash accepted text root
          (λ other counts named early. counted root.body.epoch (below-low mark root.body.epoch late above low) other counts early) tells)
      | inr watched ↦ inr watched
    ];
    link = is.link;
  }

  pub owns-noted : {T : Type 0} (text : List ℕ) (stored : List SignedRoot) (known : List Mark) (now : Scene T) → HasRootOf hash now.client.chain signed.promise → AllByRecursion Expects now.monitors → ((mark : Mark) → Contains known mark → IsLow mark)
      → Owns hash accepted verified Given Own Before text stored marks known now → Owns hash accepted verified Given Own After text stored marks known now
  owns-noted text stored known now rooted expecting late owns = record {
    chain = owns.chain;
    formed = owns.formed;
    stores = owns.stores;
    rooted = λ other was. elim (noted-last start noted signed other was) [
      | inl old ↦ owns.rooted other old
      | inr same ↦ subst (λ (s : SignedPromise). HasRootOf hash now.client.chain s.promise) same rooted
    ];
    watched = all-in (IsOwn hash accepted verified Given Own After (text ++ now.told.lines) now.client.chain marks) now.monitors (λ monitor has.
        own-noted (text ++ now.told.lines) now.client.chain monitor (all-has Expects now.monitors monitor expecting has) (all-has (IsOwn hash accepted verified Given Own Before (text ++ now.told.lines) now.client.chain marks) now.monitors monitor owns.watched has));
    held = λ mark has. held-noted text now.client.chain now.monitors mark (late mark has) (owns.held mark has);
  }

-- ---- a scene in which it comes

module _ {T : Type 0} (hash : List ℕ → List ℕ) (accepted verified : List ℕ → List ℕ → List ℕ → Type 0) (exchanged : T → RequestContent → Frame → T → Type 0) (Given : List ℕ → Option BoundKey → Type 0) (Own : SignedPromise → Type 0) (start : Memory) (marks : List Mark)
    (text : List ℕ) (stored : List SignedRoot) (known : List Mark) (key : List ℕ) (signs : (signed : SignedPromise) → Own signed → PromiseVerifies verified key signed) where
  -- no monitor and no mark is above an epoch
  module _ (low : ℕ) (marked : (mark : Mark) → Contains known mark → (mark.epoch ≤ mark.since) ⊎ (mark.epoch ≤ low)) where
    up-to : (epoch : ℕ) → low ≤ epoch → (mark : Mark) → Contains known mark → (mark.epoch ≤ mark.since) ⊎ (mark.epoch ≤ epoch)
    up-to epoch late mark has = elim (marked mark has) [
      | inl none ↦ inl none
      | inr high ↦ inr (omega (arith, high, late))
    ]

    hands-one : (verb : Verb) (name : List ℕ) (given : AskedKey) (promise : List ℕ) (chain : KeyedRoots) (kept kept' : List SignedPromise) (before : List Monitor) (told : Report) (after : List Monitor) (last : SignedPromise) → length kept < length kept' → slice_get kept' (length kept' - 1) ≡ Some last
        → Hands hash accepted verified (Put verb name given) promise kept kept' before told after → SpellsPromise promise last → PromiseVerifies verified key last → HasRootOf hash chain last.promise → low ≤ last.promise.epoch
        → AllByRecursion (IsBelow hash accepted verified low) before → AllByRecursion (IsCurrent key chain) before
        → AllByRecursion (λ (monitor : Monitor). ((first : SignedRoot) → IsFirst monitor.client.chain first → first.body.epoch ≤ last.promise.epoch) × (last.promise.name ≡ monitor.name → HasChange monitor.watch.changes last.promise.epoch)) after
    hands-one verb name given promise chain kept kept' before told after last more at (inl (few, silent-is, same)) spelled verifies rooted late below current = absurd (omega (arith, more, few))
    hands-one verb name given promise chain kept kept' before told after last more at (inr (more', (signed, also, hands))) spelled verifies rooted late below current =
        let one : signed ≡ last = some-same signed last (sym also ∙ at) in
        all-handed hash accepted verified low key chain last promise spelled verifies rooted late before silent told after
        (subst (λ (s : SignedPromise). HandsAll hash accepted verified s promise before silent told after) one hands) below current

    pub heard-noted : (held : ℕ) (asked : RequestContent) (before after : Scene T) (frame : Frame) (noted noted' : List SignedPromise) → ((signed : SignedPromise) → IsLate held asked frame signed → low ≤ signed.promise.epoch) → HearsOne hash accepted verified exchanged held asked frame before after
        → Notes asked before.client.promises after.client.promises noted noted' → AllByRecursion Own noted' → AllByRecursion (IsBelow hash accepted verified low) before.monitors → AllByRecursion (IsCurrent key before.client.chain) before.monitors
        → Owns hash accepted verified Given Own (noting start noted) text stored marks known after → Owns hash accepted verified Given Own (noting start noted') text stored marks known after
    heard-noted held (Put verb name given) before after frame noted noted' high hears (inl (few, same)) owner below current owns =
        subst (λ (all : List SignedPromise). Owns hash accepted verified Given Own (noting start all) text stored marks known after) (sym same) owns
    heard-noted held (Put verb name given) before after frame noted noted' high hears (inr (more, (last, at, is))) owner below current owns =
        let own = all-has Own noted' last owner (subst (λ (all : List SignedPromise). Contains all last) (sym is) (Contains-push noted last)) in
        let spelled = last-spelled hash accepted verified held verb name given frame hears.told before.client after.client last hears.hears more at in
        let (timely, rooted) = last-rooted hash accepted verified held verb name given frame hears.told before.client after.client last hears.hears more at in
        let chain = frame-chain hash accepted verified held before.client after.client (Put verb name given) frame hears.told hears.hears in
        let expecting = hands-one verb name given frame.body before.client.chain before.client.promises after.client.promises before.monitors hears.handed after.monitors last more at hears.hands spelled (signs last own) rooted (high last timely) below current in
        subst (λ (all : List SignedPromise). Owns hash accepted verified Given Own (noting start all) text stored marks known after) (sym is)
        (owns-noted hash accepted verified Given Own start marks noted last text stored known after (subst (λ (c : KeyedRoots). HasRootOf hash c last.promise) (sym chain) rooted) expecting (up-to last.promise.epoch (high last timely)) owns)
    heard-noted held (Query query) before after frame noted noted' high hears same owner below current owns =
        subst (λ (all : List SignedPromise). Owns hash accepted verified Given Own (noting start all) text stored marks known after) (sym same) owns
    heard-noted held (Turn token epoch _) before after frame noted noted' high hears same owner below current owns =
        subst (λ (all : List SignedPromise). Owns hash accepted verified Given Own (noting start all) text stored marks known after) (sym same) owns

  -- where a line begins
  pub owned-below : (before : Scene T) (head : SignedRoot) → IsHead before.client.chain head → AllByRecursion (IsCurrent key before.client.chain) before.monitors → Owns hash accepted verified Given Own start text stored marks known before
      → AllByRecursion (IsBelow hash accepted verified head.body.epoch) before.monitors
  owned-below before head is current owns = all-in (IsBelow hash accepted verified head.body.epoch) before.monitors (λ monitor has.
      let own = all-has (IsOwn hash accepted verified Given Own start (text ++ before.told.lines) before.client.chain marks) before.monitors monitor owns.watched has in
      let now = all-has (IsCurrent key before.client.chain) before.monitors monitor current has in record {
        chain = own.told.chain;
        first = λ first at. body-low first (own-first hash accepted verified Given Own start (text ++ before.told.lines) before.client.chain marks monitor first own at);
        watched = elim own.told.is.last [
          | inl none ↦ omega (arith, none)
          | inr (root, (there, at)) ↦ let low = body-low root (all-has (HasBody before.client.chain) monitor.client.chain.roots root own.own there) in omega (arith, at, low)
        ];
        changes = all-map (Low before.client.chain) (λ (change : ℕ × BoundKey). change.0 ≤ head.body.epoch) monitor.watch.changes
            (λ change (root, there, made). let low = head-high hash verified before.client.chain root head owns.chain there is in omega (arith, made, low)) now.low;
      })
    where
      body-low : (root : SignedRoot) → HasBody before.client.chain root → root.body.epoch ≤ head.body.epoch
      body-low root (copy, there, same) =
          let low = head-high hash verified before.client.chain copy head owns.chain there is in
          omega (arith, low, ap (λ (b : Body). b.epoch) same)

  pub owned-marked : (before : Scene T) (head : SignedRoot) → IsHead before.client.chain head → Owns hash accepted verified Given Own start text stored marks known before → (mark : Mark) → Contains known mark → (mark.epoch ≤ mark.since) ⊎ (mark.epoch ≤ head.body.epoch)
  owned-marked before head is owns mark has = elim (owns.held mark has).low [
    | inl none ↦ inl none
    | inr (other, at, low) ↦ inr (subst (λ (root : SignedRoot). mark.epoch ≤ root.body.epoch) (some-same other head (sym at ∙ is)) low)
  ]
