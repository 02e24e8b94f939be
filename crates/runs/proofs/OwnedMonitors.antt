-- A monitor of the owner's stays one: where it or the client's chain takes roots, where it steps, where it is given a
-- promise, and where it joins the others.
use Rattle.std.proofs.Common.{◌≡◌, ◌∙◌, ◌<◌, ◌≤◌, ℕ, zero, suc, List, [], ◌∷◌, ◌++◌, Any, Contains, Option, None, Some, Ok, arith, ap, inl, inr, refl, subst, sym}
use Rattle.std.specs.Prelude.{map, ⊤}
use Rattle.std.specs.List.{AllByRecursion}
use Rattle.std.specs.List.Sorted.{IsNonDecreasingBy}
use Rattle.std.proofs.lemmas.Bool.{cases_lt}
use Rattle.std.proofs.lemmas.List.Elements.{All-contains, Contains-append_left}
use Rattle.encoding.specs.declared.bound_key.BoundKey.{BoundKey}
use Rattle.encoding.proofs.Fields.{one_spelling}
use Rattle.rootchain.specs.Bodies.{body_bytes}
use Rattle.rootchain.specs.Chains.{IsChain, KeyedRoots}
use Rattle.rootchain.specs.Places.{IsFirst, IsNextAfter}
use Rattle.rootchain.specs.Promises.{signed_promise_bytes, IsSignedPromise, SpellsPromise}
use Rattle.rootchain.specs.Readable.{signed_root_field}
use Rattle.rootchain.specs.RootLists.{root_list_bytes, SpellsRoots}
use Rattle.rootchain.specs.SignedRoots.{read_signed_root, signed_root_bytes, IsSignedRoot, SpellsRoot}
use Rattle.rootchain.specs.TakingLists.{Takes}
use Rattle.rootchain.specs.declared.body.Body.{Body}
use Rattle.rootchain.specs.declared.promise.Promise.{Promise}
use Rattle.rootchain.specs.declared.signed_promise.SignedPromise.{SignedPromise}
use Rattle.rootchain.specs.declared.signed_root.SignedRoot.{SignedRoot}
use Rattle.rootchain.proofs.Agreement.{unique}
use Rattle.rootchain.proofs.Chains.{ascend-linked}
use Rattle.rootchain.proofs.TakingLists.{takes-chain}
use Rattle.rootchain.proofs.Walks.{up-to}
use Rattle.client.specs.Clients.{Client, HasRootOf}
use Rattle.client.specs.Updating.{Updates}
use Rattle.client.proofs.Unlikes.{at-place, is-among}
use Rattle.memory.specs.Lists.{HasNoRepeat}
use Rattle.memory.specs.Memories.{name_of, nothing, Memory}
use Rattle.memory.specs.Watching.{IsAwaited}
use Rattle.memory.specs.declared.mark.Mark.{Mark}
use Rattle.monitor.specs.Expecting.{Expects}
use Rattle.monitor.specs.Monitors.{Monitor, new_monitor, with_change}
use Rattle.monitor.specs.Stepping.{IsNextEpoch, Steps}
use Rattle.monitor.specs.declared.monitor_refusal.Refusal.{Refusal}
use Rattle.monitor.specs.declared.step.Step.{Step}
use Rattle.play.proofs.Calling.{one-promise}
use Rattle.play.proofs.Following.{one-list}
use Rattle.play.proofs.Lists.{all-in}
use Rattle.asking.specs.Asking.{HandsTo}
use Rattle.asking.specs.Following.{MonitorUpdates}
use Rattle.asking.specs.Joining.{first_expected, AllHand, IsFirstAfter, IsJoined, IsLaterPromise, IsLatest, IsUnwatched, Retraces, StartsFrom}
use Rattle.runs.specs.Owning.{HasChange, IsLeastAbove, IsOwn, IsOwnChange, IsOwners}
use Rattle.runs.specs.Saves.{Counts, IsAhead, IsOwnAhead, WasOwn}
use Rattle.runs.specs.Standing.{IsCurrent}
use Rattle.runs.specs.Told.{ExpectsAt, HasBody, IsTold}
use Rattle.asking.specs.Watching.{step_told}
use Rattle.runs.proofs.HeldMarks.{least-above}
use Rattle.runs.proofs.JoinedChanges.{all-more, earlier-handed, handed-more, latest-from, HasMore, IsFrom, IsSignedOf}
use Rattle.runs.proofs.OwnRoots.{some-same, taken-from, taken-still, taken-there}
use Rattle.runs.proofs.PutMarks.{one-mark}
use Rattle.runs.proofs.OwnedRoots.{all-has, body-grown, least-grown, next-unwatched, one-chain, taken-first, unwatched-least, unwatched-there, HasGrown}
use Rattle.runs.proofs.Ran.{taken-key}
use Rattle.runs.proofs.Told.{told-changed, told-grown, told-more, told-new, told-stepped}
use Rattle.runs.proofs.ToldScenes.{all-map, all-push, stays-change}

-- the bytes of a root spell it alone
pub one-spelled : (root other : SignedRoot) → IsSignedRoot root → SpellsRoot (signed_root_bytes root) other → other ≡ root
one-spelled root other is spells = (one_spelling read_signed_root signed_root_bytes IsSignedRoot signed_root_field other root [] [] spells.1 is (ap (λ (t : List ℕ). t ++ []) (sym spells.0))).0

-- and so do those of a list of it
one-listed : (root : SignedRoot) (roots : List SignedRoot) → IsSignedRoot root → SpellsRoots (root_list_bytes (root ∷ [])) roots → roots ≡ root ∷ []
one-listed root roots is spells = one-list (root_list_bytes (root ∷ [])) roots (root ∷ []) spells (refl, (omega arith, (is, tt)))

-- ---- a client of its own

module _ (hash : List ℕ → List ℕ) (verified : List ℕ → List ℕ → List ℕ → Type 0) (chain : KeyedRoots) (chain-is : IsChain hash verified chain) (formed : AllByRecursion IsSignedRoot chain.roots) (first : SignedRoot) (key : List ℕ) where
  -- its chain begins with the first root, and has roots of the other chain alone, among them each up to this epoch
  record IsPart (epoch : ℕ) (own : KeyedRoots) : Type 0 where
    pub is : IsChain hash verified own
    pub keyed : own.key ≡ key
    pub roots : AllByRecursion (HasBody chain) own.roots
    pub begins : (root : SignedRoot) → IsFirst own root → root ≡ first
    pub covers : (root : SignedRoot) → Contains chain.roots root → first.body.epoch ≤ root.body.epoch → root.body.epoch ≤ epoch → HasBody own root

  -- the chain has one root of an epoch
  one-root : (root other : SignedRoot) → Contains chain.roots root → Contains chain.roots other → root.body.epoch ≡ other.body.epoch → other ≡ root
  one-root root other has also same = unique chain (ascend-linked hash chain.roots chain-is.linked) root.body.epoch other root (also, sym same) (has, refl)

  part-taken : (epoch : ℕ) (own after : KeyedRoots) (root : SignedRoot) → IsNextAfter chain epoch root → Takes hash verified own (root ∷ []) after → IsPart epoch own → IsPart root.body.epoch after
  part-taken epoch own after root (has, above, least) takes part = record {
    is = takes-chain hash verified (root ∷ []) own after part.is takes;
    keyed = taken-key hash verified own (root ∷ []) after takes ∙ part.keyed;
    roots = all-in (HasBody chain) after.roots (λ r there. elim (taken-from hash verified own after (root ∷ []) r takes there) [
      | inl old ↦ all-has (HasBody chain) own.roots r part.roots old
      | inr new ↦ all-has (HasBody chain) (root ∷ []) r ((root, has, refl), tt) new
    ]);
    begins = λ r at. part.begins r (taken-first hash verified own after (root ∷ []) r part.is takes at);
    covers = λ r there low high. elim (cases_lt epoch r.body.epoch) [
      | inr old ↦ taken-still hash verified own after (root ∷ []) r takes (part.covers r there low old)
      | inl new ↦
          let late = All-contains (λ (other : SignedRoot). epoch < other.body.epoch → root.body.epoch ≤ other.body.epoch) chain.roots r least there new in
          subst (HasBody after) (sym (one-root root r has there (omega (arith, late, high)))) (taken-there hash verified own after (root ∷ []) part.is takes).0
    ];
  }

  part-updated : (epoch : ℕ) (before after : Client) (root : SignedRoot) → IsNextAfter chain epoch root → Updates hash verified before (root_list_bytes (root ∷ [])) {A = Unit {0}} (Ok tt) after → IsPart epoch before.chain → IsPart root.body.epoch after.chain
  part-updated epoch before after root next (roots, own, spelled, takes, same) part =
      let one : roots ≡ root ∷ [] = one-listed root roots (all-has IsSignedRoot chain.roots root formed next.0) spelled in
      let takes' = subst (λ (rs : List SignedRoot). Takes hash verified before.chain rs own) one takes in
      subst (λ (c : Client). IsPart root.body.epoch c.chain) (sym same) (part-taken epoch before.chain own root next takes' part)

  -- at the end it has all
  abbrev IsWhole : KeyedRoots → Type 0
  IsWhole own = (epoch : ℕ) → IsPart epoch own

  part-whole : (epoch : ℕ) (own : KeyedRoots) → IsFirstAfter chain epoch None → IsPart epoch own → IsWhole own
  part-whole epoch own none part up-to = record {
    is = part.is;
    keyed = part.keyed;
    roots = part.roots;
    begins = part.begins;
    covers = λ root has low high. part.covers root has low (below root has);
  }
    where
      below : (root : SignedRoot) → Contains chain.roots root → root.body.epoch ≤ epoch
      below root has = elim (least-above chain.roots epoch) [
        | inl all ↦ All-contains (λ (r : SignedRoot). r.body.epoch ≤ epoch) chain.roots root all has
        | inr (next, there, above, least) ↦ absurd (none next (there, above, least))
      ]

  part-retraced : (count epoch : ℕ) (before after : Client) → Retraces hash verified chain count epoch before (Ok after) → IsPart epoch before.chain → IsWhole after.chain
  part-retraced zero epoch before after (none, same) part = subst (λ (c : Client). IsWhole c.chain) (sym same) (part-whole epoch before.chain none part)
  part-retraced (suc count) epoch before after (next, middle, (root, is-next, at, updates), rest) part =
      part-retraced count next middle after rest (subst (λ (e : ℕ). IsPart e middle.chain) (sym at) (part-updated epoch before middle root is-next updates part))

  part-started : (own : Client) → Contains chain.roots first → StartsFrom hash verified chain key first (Ok own) → IsWhole own.chain
  part-started own has (start, (root, (spells, signed), is), (count, retraces)) =
      let one : root ≡ first = one-spelled first root (all-has IsSignedRoot chain.roots first formed has) spells in
      let here : IsPart first.body.epoch (record { key = key; roots = root ∷ [] }) = record {
        is = one-chain hash verified key root signed;
        keyed = refl;
        roots = ((first, has, ap (λ (r : SignedRoot). r.body) (sym one)), tt);
        begins = λ r at. some-same r root (sym at) ∙ one;
        covers = λ r there low high. (root, (0, omega arith, refl), ap (λ (s : SignedRoot). s.body) (one ∙ sym (one-root first r has there (omega (arith, low, high)))));
      } in
      part-retraced count first.body.epoch start own retraces (subst (λ (c : Client). IsPart first.body.epoch c.chain) (sym is) here)

  -- so it has the root of a promise that the other has, from its first on
  part-rooted : (own : KeyedRoots) (promise : Promise) → IsWhole own → first.body.epoch ≤ promise.epoch → HasRootOf hash chain promise → HasRootOf hash own promise
  unfolding HasRootOf
  part-rooted own promise whole low (root, (has, at), hashed) =
      let part = whole root.body.epoch in
      let (copy, there, same) = part.covers root has (omega (arith, low, at)) (omega arith) in
      (copy, (there, ap (λ (b : Body). b.epoch) same ∙ at), hashed ∙ ap (λ (b : Body). hash (body_bytes b)) (sym same))

-- ---- a monitor

-- more changes are expected
change-more : (changes more : List (ℕ × BoundKey)) (epoch : ℕ) → HasChange changes epoch → HasChange (changes ++ more) epoch
change-more changes more epoch (change, has, at) = (change, Contains-append_left changes more change has, at)

module _ (hash : List ℕ → List ℕ) (accepted verified : List ℕ → List ℕ → List ℕ → Type 0) (Given : List ℕ → Option BoundKey → Type 0) (Own : SignedPromise → Type 0) (start : Memory) where
  abbrev pub Owned : List ℕ → KeyedRoots → List Mark → Monitor → Type 0
  Owned = IsOwn hash accepted verified Given Own start

  -- the root of a promise is no earlier than the first
  rooted-later : (chain : KeyedRoots) (promise : Promise) (first : SignedRoot) → IsChain hash verified chain → IsFirst chain first → HasRootOf hash chain promise → first.body.epoch ≤ promise.epoch
  unfolding HasRootOf
  rooted-later chain promise first is at (root, (has, same), hashed) =
      omega (arith, same, up-to chain.roots (ascend-linked hash chain.roots is.linked) 0 has.0 first root at (at-place chain.roots root has) (omega arith))

  module _ (text : List ℕ) (chain : KeyedRoots) (marks : List Mark) where
    -- its first root is one of the chain
    pub own-first : (monitor : Monitor) (first : SignedRoot) → Owned text chain marks monitor → IsFirst monitor.client.chain first → HasBody chain first
    own-first monitor first is at = all-has (HasBody chain) monitor.client.chain.roots first is.own (is-among monitor.client.chain.roots 0 first at)

    -- more is told
    pub own-more : (more : List ℕ) (monitor : Monitor) → Owned text chain marks monitor → Owned (text ++ more) chain marks monitor
    own-more more monitor is = record { told = told-more hash accepted verified text more monitor is.told; own = is.own; begins = is.begins; above = is.above; expects = is.expects }

    -- it has the chain that it had
    own-same : (now : List ℕ) (before after : Monitor) → after.client.chain ≡ before.client.chain → after.name ≡ before.name → IsTold hash accepted verified now after → ((first : SignedRoot) → IsFirst before.client.chain first → IsOwners Given Own start after.name first after.watch)
        → Owned text chain marks before → Owned now chain marks after
    own-same now before after same named told expects is = record {
      told = told;
      own = subst (λ (c : KeyedRoots). AllByRecursion (HasBody chain) c.roots) (sym same) is.own;
      begins = λ mark has name first at. is.begins mark has (name ∙ named) first (subst (λ (c : KeyedRoots). IsFirst c first) same at);
      above = λ mark has name first at. is.above mark has (name ∙ named) first (subst (λ (c : KeyedRoots). IsFirst c first) same at);
      expects = λ first at. expects first (subst (λ (c : KeyedRoots). IsFirst c first) same at);
    }

    -- it watches an epoch
    pub own-stepped : (before : Monitor) (epoch : ℕ) (bytes : List ℕ) (step : Step) (after : Monitor) → IsNextEpoch before (Some epoch) → Steps hash accepted before bytes (Ok step) after
        → Owned text chain marks before → Owned (text ++ (step_told before.name epoch step).lines) chain marks after
    own-stepped before epoch bytes step after next steps is =
        let (root, reply, found, tells, same) = steps in
        own-same (text ++ (step_told before.name epoch step).lines) before after (ap (λ (m : Monitor). m.client.chain) same) (ap (λ (m : Monitor). m.name) same)
        (told-stepped hash accepted verified text before epoch bytes step after next steps is.told)
        (λ first at. subst (λ (m : Monitor). IsOwners Given Own start m.name first m.watch) (sym same) (is.expects first at)) is

    -- it is given a promise for a change of the owner's
    own-changed : start.marks ≡ marks → (signed : SignedPromise) (bytes : List ℕ) (before after : Monitor) → Own signed → SpellsPromise bytes signed → before.name ≡ signed.promise.name → Expects hash verified before signed.promise.key bytes {A = Unit {0}} (Ok tt) after
        → Owned text chain marks before → Owned text chain marks after
    own-changed same-marks signed bytes before after owns spelled named expects is =
        let (given, (gives, may), same) = expects in
        let one : signed ≡ given = one-promise bytes signed given spelled gives.0.0 in
        let change : ℕ × BoundKey = (given.promise.epoch, given.promise.key) in
        let late : (first : SignedRoot) → IsFirst before.client.chain first → first.body.epoch ≤ given.promise.epoch = λ first at. rooted-later before.client.chain given.promise first is.told.chain at gives.1 in
        let owned : (first : SignedRoot) → IsFirst before.client.chain first → IsOwnChange Given Own start before.name change = λ first at. (
          given,
          (subst Own one owns, λ mark has same. omega (arith, is.above mark (subst (λ (ms : List Mark). Contains ms mark) same-marks has) (same ∙ may.named) first at, late first at)),
          may.named,
          refl,
          refl,
        ) in
        let changed : (first : SignedRoot) → IsFirst before.client.chain first → IsOwners Given Own start before.name first (with_change before given).watch = λ first at. record {
          begins = (is.expects first at).begins;
          changes = all-push (IsOwnChange Given Own start before.name) before.watch.changes change (is.expects first at).changes (owned first at);
          later = all-push (λ (c : ℕ × BoundKey). first.body.epoch ≤ c.0) before.watch.changes change (is.expects first at).later (late first at);
          covers = λ was own alike after-first. change-more before.watch.changes (change ∷ []) was.promise.epoch ((is.expects first at).covers was own alike after-first);
        } in
        own-same text before after (ap (λ (m : Monitor). m.client.chain) same) (ap (λ (m : Monitor). m.name) same)
        (told-changed hash accepted verified text before signed.promise.key bytes after expects is.told)
        (λ first at. subst (λ (m : Monitor). IsOwners Given Own start m.name first m.watch) (sym same) (changed first at)) is

    pub own-handed : start.marks ≡ marks → (signed : SignedPromise) (promise : List ℕ) (before : Monitor) (why : Option Refusal) (after : Monitor) → HandsTo hash accepted verified signed promise before why after → Own signed → SpellsPromise promise signed
        → Owned text chain marks before → Owned text chain marks after
    own-handed same-marks signed promise before None after (inl (named, expects)) owns spelled is = own-changed same-marks signed promise before after owns spelled named expects is
    own-handed same-marks signed promise before None after (inr (other, same)) owns spelled is = subst (Owned text chain marks) (sym same) is
    own-handed same-marks signed promise before (Some why) after (named, enough, expects) owns spelled is =
        subst (Owned text chain marks) (sym (stays-change hash accepted verified before signed.promise.key promise why after expects)) is

    own-all_handed : start.marks ≡ marks → ((signed : SignedPromise) → Own signed → IsSignedPromise signed) → (promises : List SignedPromise) (before after : Monitor) → AllHand hash accepted verified promises before after → AllByRecursion Own promises
        → Owned text chain marks before → Owned text chain marks after
    own-all_handed same-marks formed [] before after same owns is = subst (Owned text chain marks) (sym same) is
    own-all_handed same-marks formed (signed ∷ more) before after (why, middle, hands, rest) owns is =
        own-all_handed same-marks formed more middle after rest owns.1 (own-handed same-marks signed (signed_promise_bytes signed) before why middle hands owns.0 (refl, formed signed owns.0) is)

  -- ---- roots

  -- the client's chain grows
  pub own-grown : (text : List ℕ) (before after : KeyedRoots) (marks : List Mark) (monitor : Monitor) → HasGrown before after → Owned text before marks monitor → Owned text after marks monitor
  own-grown text before after marks monitor grows is = record {
    told = is.told;
    own = all-map (HasBody before) (HasBody after) monitor.client.chain.roots (body-grown before after grows) is.own;
    begins = λ mark has named first at. least-grown before after mark.epoch first grows (own-first text before marks monitor first is at) (is.begins mark has named first at);
    above = is.above;
    expects = is.expects;
  }

  -- the monitor takes a list whose roots the client's chain has
  own-taken : (text : List ℕ) (chain : KeyedRoots) (marks : List Mark) (list : List ℕ) (roots : List SignedRoot) (before after : Monitor) → SpellsRoots list roots → AllByRecursion (HasBody chain) roots → MonitorUpdates hash verified list before after
      → Owned text chain marks before → Owned text chain marks after
  own-taken text chain marks list roots before after spells there (updates, grown) is =
      let (listed, taken, spelled, takes, same) = updates in
      let one : listed ≡ roots = one-list list listed roots spelled spells in
      let is' : IsChain hash verified before.client.chain = is.told.chain in
      let there' : AllByRecursion (HasBody chain) listed = subst (AllByRecursion (HasBody chain)) (sym one) there in
      let at : after.client.chain ≡ taken = ap (λ (c : Client). c.chain) same in
      record {
        told = told-grown hash accepted verified text list before after (updates, grown) is.told;
        own = subst (λ (c : KeyedRoots). AllByRecursion (HasBody chain) c.roots) (sym at) (all-in (HasBody chain) taken.roots (λ root has. elim (taken-from hash verified before.client.chain taken listed root takes has) [
          | inl old ↦ all-has (HasBody chain) before.client.chain.roots root is.own old
          | inr new ↦ all-has (HasBody chain) listed root there' new
        ]));
        begins = λ mark has named first is-first. is.begins mark has (named ∙ ap (λ (m : Monitor). m.name) grown) first
            (taken-first hash verified before.client.chain taken listed first is' takes (subst (λ (c : KeyedRoots). IsFirst c first) at is-first));
        above = λ mark has named first is-first. is.above mark has (named ∙ ap (λ (m : Monitor). m.name) grown) first
            (taken-first hash verified before.client.chain taken listed first is' takes (subst (λ (c : KeyedRoots). IsFirst c first) at is-first));
        expects = λ first is-first. subst (λ (m : Monitor). IsOwners Given Own start m.name first m.watch) (sym grown)
            (is.expects first (taken-first hash verified before.client.chain taken listed first is' takes (subst (λ (c : KeyedRoots). IsFirst c first) at is-first)));
      }

  -- the client and the monitor take one list
  pub own-updated : (text : List ℕ) (chain after : KeyedRoots) (marks : List Mark) (list : List ℕ) (roots : List SignedRoot) (monitor monitor' : Monitor) → HasGrown chain after → SpellsRoots list roots → AllByRecursion (HasBody after) roots
      → MonitorUpdates hash verified list monitor monitor' → Owned text chain marks monitor → Owned text after marks monitor'
  own-updated text chain after marks list roots monitor monitor' grows spells there updates is =
      own-taken text after marks list roots monitor monitor' spells there updates (own-grown text chain after marks monitor grows is)

-- ---- no change above all roots

-- the change is of the epoch of a root of the chain
abbrev pub Low : KeyedRoots → ℕ × BoundKey → Type 0
Low chain change = (root : SignedRoot) × Contains chain.roots root × (change.0 ≡ root.body.epoch)

module _ (hash : List ℕ → List ℕ) (accepted verified : List ℕ → List ℕ → List ℕ → Type 0) (chain : KeyedRoots) where
  low-rooted : (own : KeyedRoots) (promise : Promise) (key : BoundKey) → AllByRecursion (HasBody chain) own.roots → HasRootOf hash own promise → Low chain (promise.epoch, key)
  unfolding HasRootOf
  low-rooted own promise key bodies (root, (has, at), hashed) =
      let (copy, there, same) = all-has (HasBody chain) own.roots root bodies has in
      (copy, there, sym at ∙ ap (λ (b : Body). b.epoch) (sym same))

  pub low-handed : (signed : SignedPromise) (promise : List ℕ) (before : Monitor) (why : Option Refusal) (after : Monitor) → HandsTo hash accepted verified signed promise before why after
      → AllByRecursion (HasBody chain) before.client.chain.roots → AllByRecursion (Low chain) before.watch.changes → AllByRecursion (Low chain) after.watch.changes
  low-handed signed promise before None after (inl (named, (given, (gives, may), same))) bodies low = subst (λ (m : Monitor). AllByRecursion (Low chain) m.watch.changes) (sym same)
      (all-push (Low chain) before.watch.changes (given.promise.epoch, given.promise.key) low (low-rooted before.client.chain given.promise given.promise.key bodies gives.1))
  low-handed signed promise before None after (inr (other, same)) bodies low = subst (λ (m : Monitor). AllByRecursion (Low chain) m.watch.changes) (sym same) low
  low-handed signed promise before (Some why) after (named, enough, expects) bodies low =
      subst (λ (m : Monitor). AllByRecursion (Low chain) m.watch.changes) (sym (stays-change hash accepted verified before signed.promise.key promise why after expects)) low

  low-all_handed : (promises : List SignedPromise) (before after : Monitor) → AllHand hash accepted verified promises before after → AllByRecursion (HasBody chain) before.client.chain.roots
      → AllByRecursion (Low chain) before.watch.changes → AllByRecursion (Low chain) after.watch.changes
  low-all_handed [] before after same bodies low = subst (λ (m : Monitor). AllByRecursion (Low chain) m.watch.changes) (sym same) low
  low-all_handed (signed ∷ more) before after (why, middle, hands, rest) bodies low =
      let stays = handed-more hash accepted verified signed (signed_promise_bytes signed) before why middle hands in
      low-all_handed more middle after rest (subst (λ (c : KeyedRoots). AllByRecursion (HasBody chain) c.roots) (sym stays.chain) bodies) (low-handed signed (signed_promise_bytes signed) before why middle hands bodies low)

-- ---- a monitor that joins

module _ (hash : List ℕ → List ℕ) (accepted verified : List ℕ → List ℕ → List ℕ → Type 0) (Given : List ℕ → Option BoundKey → Type 0) (Own : SignedPromise → Type 0) (start : Memory) where
  -- The promises that a monitor of a name is given: those that are remembered as the owner's own, by their epochs, among them
  -- all that count for the name, and others behind them.
  pub record AreGiven (key name : List ℕ) (promised : List SignedPromise) : Type 0 where
    pub earlier : List SignedPromise
    pub noted : List SignedPromise
    pub parts : promised ≡ earlier ++ noted
    pub owns : AllByRecursion Own promised
    pub signed : AllByRecursion (IsSignedOf verified (WasOwn start) key) earlier
    pub all : (signed : SignedPromise) → Counts start signed → signed.promise.name ≡ name → Contains earlier signed
    pub ascend : IsNonDecreasingBy (λ (signed : SignedPromise). signed.promise.epoch) earlier

  -- what is expected at first is promised for the owner's change, or given
  abbrev IsOwnLast : List ℕ → ℕ → Option SignedPromise → Type 0
  IsOwnLast name epoch None = ⊤
  IsOwnLast name epoch (Some signed) = IsOwnAhead Own start signed × (signed.promise.name ≡ name) × (signed.promise.epoch < epoch)

  module _ (marks : List Mark) (once : HasNoRepeat (map name_of marks)) (same-marks : start.marks ≡ marks) where
    -- what a mark awaits, no mark is above
    awaited-ahead : (signed : SignedPromise) → Any (IsAwaited signed) marks → IsAhead start signed
    awaited-ahead signed (place, one, within, at, (named, low)) mark has same =
        let one-is : one ≡ mark = one-mark marks one mark once (place, within, at) (subst (λ (ms : List Mark). Contains ms mark) same-marks has) (named ∙ sym same) in
        subst (λ (m : Mark). m.epoch ≤ signed.promise.epoch) one-is low

    later-own : (name : List ℕ) (epoch : ℕ) (last : Option SignedPromise) (signed : SignedPromise) → IsLaterPromise marks name epoch last signed → Own signed → IsOwnLast name epoch (Some signed)
    later-own name epoch None signed (named, low, awaits) owns = ((owns, awaited-ahead signed awaits), named, low)
    later-own name epoch (Some last) signed (named, low, awaits, later) owns = ((owns, awaited-ahead signed awaits), named, low)

    latest-own : (name : List ℕ) (epoch : ℕ) (last : Option SignedPromise) (promises : List SignedPromise) (found : Option SignedPromise) → IsLatest marks name epoch last promises found → AllByRecursion Own promises
        → IsOwnLast name epoch last → IsOwnLast name epoch found
    latest-own name epoch last [] found same owns is = subst (IsOwnLast name epoch) (sym same) is
    latest-own name epoch last (signed ∷ more) found (inl (later, latest)) owns is =
        latest-own name epoch (Some signed) more found latest owns.1 (later-own name epoch last signed later owns.0)
    latest-own name epoch last (signed ∷ more) found (inr (not, latest)) owns is = latest-own name epoch last more found latest owns.1 is

  from-none : (epoch : ℕ) → IsFrom epoch None → ⊥
  from-none epoch (signed, none, low) = cc

  from-some : (epoch : ℕ) (last : SignedPromise) → IsFrom epoch (Some last) → epoch ≤ last.promise.epoch
  from-some epoch last (signed, same, low) = subst (λ (s : SignedPromise). epoch ≤ s.promise.epoch) (sym (some-same last signed same)) low

  expects-first : (name : List ℕ) (epoch : ℕ) (last : Option SignedPromise) (given : Option BoundKey) → IsOwnLast name epoch last → Given name given
      → ((other : SignedPromise) → Counts start other → other.promise.name ≡ name → other.promise.epoch < epoch → IsFrom other.promise.epoch last)
      → ExpectsAt Given (IsOwnAhead Own start) (Counts start) name epoch (first_expected last given)
  expects-first name epoch None given is gives from = inr (
    gives,
    λ other counts same. elim (cases_lt other.promise.epoch epoch) [
      | inl early ↦ absurd (from-none other.promise.epoch (from other counts same early))
      | inr late ↦ late
    ],
  )
  expects-first name epoch (Some signed) given (owns, named, low) gives from = inl (signed, owns, named, low, refl, λ other counts same early. from-some other.promise.epoch signed (from other counts same early))

  -- the memory with the same marks, and no promise
  abbrev bare : Memory
  bare = record nothing { marks = start.marks }

  no-own : (signed : SignedPromise) → WasOwn bare signed → ⊥
  no-own signed (promised, has, this, own) = omega (arith, has.1)

  module _ (text : List ℕ) (chain : KeyedRoots) (marks : List Mark) (key : List ℕ) (promised : List SignedPromise) (first : SignedRoot) (name : List ℕ) (given : Option BoundKey) (monitor : Monitor)
      (chain-is : IsChain hash verified chain) (formed : AllByRecursion IsSignedRoot chain.roots) (once : HasNoRepeat (map name_of marks)) (gives : Given name given) (spelled : (signed : SignedPromise) → Own signed → IsSignedPromise signed)
      (are : AreGiven key name promised) (same-marks : start.marks ≡ marks) (rooted : (signed : SignedPromise) → WasOwn start signed → HasRootOf hash chain signed.promise) (unwatched : IsUnwatched chain name marks (Some first))
      (joined : IsJoined hash accepted verified marks key promised chain first name given monitor) where
    abbrev begin : Option BoundKey
    begin = first_expected joined.last given

    abbrev new : Monitor
    new = new_monitor joined.own name begin

    whole : IsWhole hash verified chain chain-is formed first key joined.own.chain
    whole = part-started hash verified chain chain-is formed first key joined.own (unwatched-there chain name marks first unwatched) joined.starts

    latest-there : (other : SignedPromise) → Counts start other → other.promise.name ≡ name → other.promise.epoch < first.body.epoch → IsFrom other.promise.epoch joined.last
    latest-there other (was, awaited) named early = latest-from marks name first.body.epoch None promised joined.last joined.latest other
        (subst (λ (ps : List SignedPromise). Contains ps other) (sym are.parts) (Contains-append_left are.earlier are.noted other (are.all other (was, awaited) named))) named early
        (subst (λ (ms : List Mark). Any (IsAwaited other) ms) same-marks awaited)

    is-last : IsOwnLast name first.body.epoch joined.last
    is-last = latest-own marks once same-marks name first.body.epoch None promised joined.last joined.latest are.owns tt

    -- as if no promise were remembered
    new-owners : IsOwners Given Own bare name first (new.watch)
    new-owners = record {
      begins = elim-last joined.last is-last;
      changes = tt;
      later = tt;
      covers = λ signed counts alike late. absurd (no-own signed counts.0);
    }
      where
        elim-last : (last : Option SignedPromise) → IsOwnLast name first.body.epoch last → ExpectsAt Given (IsOwnAhead Own bare) (Counts bare) name first.body.epoch (first_expected last given)
        elim-last None is = inr (gives, λ other counts same. absurd (no-own other counts.0))
        elim-last (Some signed) (owns, named, low) = inl (signed, owns, named, low, refl, λ other counts same early. absurd (no-own other counts.0))

    handed : IsOwn hash accepted verified Given Own bare text chain marks monitor
    handed =
        let part = whole 0 in
        let before : IsOwn hash accepted verified Given Own bare text chain marks new = record {
          told = told-new hash accepted verified text joined.own name begin part.is;
          own = part.roots;
          begins = λ mark has named root at. subst (IsLeastAbove chain mark.epoch) (sym (part.begins root at)) (unwatched-least chain name marks first mark once unwatched has named);
          above = λ mark has named root at. subst (λ (r : SignedRoot). mark.epoch < r.body.epoch) (sym (part.begins root at)) (next-unwatched chain name marks first mark once unwatched has named).1;
          expects = λ root at. subst (λ (r : SignedRoot). IsOwners Given Own bare name r new.watch) (sym (part.begins root at)) new-owners;
        } in
        own-all_handed hash accepted verified Given Own bare text chain marks same-marks spelled promised new monitor joined.hands are.owns before

    more : HasMore new monitor
    more = all-more hash accepted verified promised new monitor joined.hands

    same-first : (root : SignedRoot) → IsFirst monitor.client.chain root → root ≡ first
    same-first root at = (whole 0).begins root (subst (λ (c : KeyedRoots). IsFirst c root) more.chain at)

    -- of the epoch of each promise that was remembered a change is expected
    covered : (signed : SignedPromise) → Counts start signed → signed.promise.name ≡ name → first.body.epoch ≤ signed.promise.epoch → HasChange monitor.watch.changes signed.promise.epoch
    covered signed was named late = earlier-handed hash accepted verified (WasOwn start) key name are.earlier are.noted new monitor
        (subst (λ (ps : List SignedPromise). AllHand hash accepted verified ps new monitor) are.parts joined.hands) are.signed are.ascend refl (whole 0).keyed refl refl signed (are.all signed was named) named
        (part-rooted hash verified chain chain-is formed first key joined.own.chain signed.promise whole late (rooted signed was.0))

    pub own-joined : IsOwn hash accepted verified Given Own start text chain marks monitor
    own-joined = record { told = handed.told; own = handed.own; begins = handed.begins; above = handed.above; expects = expects }
      where
        expects : (root : SignedRoot) → IsFirst monitor.client.chain root → IsOwners Given Own start monitor.name root monitor.watch
        expects root at =
            let one = same-first root at in
            let there : IsOwners Given Own bare name first monitor.watch = subst (λ (r : SignedRoot). IsOwners Given Own bare name r monitor.watch) one
            (subst (λ (n : List ℕ). IsOwners Given Own bare n root monitor.watch) more.name (handed.expects root at)) in
            let here : IsOwners Given Own start name first monitor.watch = record {
              begins = subst (ExpectsAt Given (IsOwnAhead Own start) (Counts start) name first.body.epoch) (sym more.start) (expects-first name first.body.epoch joined.last given is-last gives latest-there);
              changes = there.changes;
              later = there.later;
              covers = covered;
            } in
            subst (λ (n : List ℕ). IsOwners Given Own start n root monitor.watch) (sym more.name) (subst (λ (r : SignedRoot). IsOwners Given Own start name r monitor.watch) (sym one) here)

    -- it has the roots of the chain from its first on, and expects no change above them
    pub joined-current : IsCurrent key chain monitor
    joined-current = record {
      keyed = ap (λ (c : KeyedRoots). c.key) more.chain ∙ (whole 0).keyed;
      covers = λ root at other has low. subst (λ (c : KeyedRoots). HasBody c other) (sym more.chain)
          ((whole other.body.epoch).covers other has (subst (λ (r : SignedRoot). r.body.epoch ≤ other.body.epoch) (same-first root at) low) (omega arith));
      low = low-all_handed hash accepted verified chain promised new monitor joined.hands (whole 0).roots tt;
    }
