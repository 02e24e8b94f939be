-- All that monitors watched is told.
use Rattle.std.proofs.Common.{◌≡◌, ◌∙◌, ℕ, ◌+◌, ◌<◌, ◌≤◌, List, [], ◌++◌, length, length-append, get_or, Contains, Option, Some, Ok, refl, sym, ap, subst, inl, inr, arith, append-nil, append_assoc}
use Rattle.std.proofs.lemmas.Bool.{cases_lt}
use Rattle.std.proofs.lemmas.List.{get_or_append_left, get_or-append_right, get_or_default}
use Rattle.std.proofs.lemmas.List.Elements.{Contains-append_cases}
use Rattle.encoding.specs.declared.bound_key.BoundKey.{BoundKey}
use Rattle.rootchain.specs.Chains.{Ascend, IsChain, KeyedRoots}
use Rattle.rootchain.specs.declared.signed_promise.SignedPromise.{SignedPromise}
use Rattle.rootchain.specs.declared.signed_root.SignedRoot.{SignedRoot}
use Rattle.rootchain.proofs.Agreement.{unique}
use Rattle.rootchain.proofs.Chains.{ascend-linked}
use Rattle.rootchain.proofs.TakingLists.{takes-chain, takes-grows}
use Rattle.proofs.specs.Watches.{Watch, expected}
use Rattle.client.specs.Clients.{Client}
use Rattle.client.specs.Updating.{Updates}
use Rattle.monitor.specs.Expecting.{Expects}
use Rattle.monitor.specs.Monitors.{new_monitor, with_change, with_watched, IsNext, IsWatched, Monitor}
use Rattle.proofs.specs.Accepts.{stated}
use Rattle.monitor.specs.Stepping.{IsNextEpoch, StepTells, Steps}
use Rattle.monitor.specs.declared.step.Step.{Step}
use Rattle.monitor.specs.declared.step.Step.TheVariants.{Kept, Alarm}
use Rattle.monitor.proofs.Expected.{expects-above}
use Rattle.monitor.proofs.Watching.{begun-watching, change-watching, updated-watching, watched-watching}
use Rattle.asking.specs.Following.{MonitorUpdates}
use Rattle.runs.specs.Told.{always, HasLines, IsTold, IsToldAt, TellsEpoch}
use Rattle.asking.specs.Watching.{step_told}

-- ---- lines

lines-more : (text more lines : List ℕ) → HasLines text lines → HasLines (text ++ more) lines
lines-more text more lines (front, behind, is) =
    (front, behind ++ more, ap (λ (t : List ℕ). t ++ more) is ∙ append_assoc front (lines ++ behind) more ∙ ap (λ (t : List ℕ). front ++ t) (append_assoc lines behind more))

lines-last : (text lines : List ℕ) → HasLines (text ++ lines) lines
lines-last text lines = (text, [], ap (λ (t : List ℕ). text ++ t) (sym (append-nil lines)))

-- ---- roots

-- a root behind others is of a later epoch
pub behind-later : (front back : List SignedRoot) (one other : SignedRoot) → Ascend (front ++ back) → Contains front one → Contains back other → one.body.epoch < other.body.epoch
behind-later front back one other up has also =
    let first : get_or (front ++ back) has.0 other ≡ one = get_or_append_left front back other has.0 has.1 ∙ get_or_default front has.0 other one has.1 ∙ has.2 in
    let second : get_or (front ++ back) (length front + also.0) other ≡ other = get_or-append_right front back (length front) (length front + also.0) other refl (omega arith) ∙ ap (λ k. get_or back k other) (omega arith) ∙ also.2 in
    let less = up has.0 (length front + also.0) other (omega (arith, has.1)) (rw (length-append front back) (omega (arith, also.1))) in
    rw (first, second) at less

-- ---- what a step tells of another watch that expects the same

tells-same : (one other : Watch) (epoch : ℕ) (statement : Option BoundKey) (step : Step) → expected other epoch ≡ expected one epoch → StepTells one epoch statement step → StepTells other epoch statement step
tells-same one other epoch statement Kept same tells = tells ∙ sym same
tells-same one other epoch statement (Alarm at found) same (differs, is, states) = (λ e. differs (e ∙ same), is, states)

-- a key alone, where the watch expects it
pub told-key : (hash : List ℕ → List ℕ) (accepted : List ℕ → List ℕ → List ℕ → Type 0) (text name : List ℕ) (watch : Watch) (root : SignedRoot) → IsToldAt hash accepted text name watch root
    → IsToldAt hash accepted text name (always (expected watch root.body.epoch)) root
told-key hash accepted text name watch root (bytes, reply, step, is, tells, has) =
    (bytes, reply, step, is, tells-same watch (always (expected watch root.body.epoch)) root.body.epoch (stated reply.end) step refl tells, has)

pub told-at_more : (hash : List ℕ → List ℕ) (accepted : List ℕ → List ℕ → List ℕ → Type 0) (text more name : List ℕ) (watch : Watch) (root : SignedRoot) → IsToldAt hash accepted text name watch root → IsToldAt hash accepted (text ++ more) name watch root
told-at_more hash accepted text more name watch root (bytes, reply, step, is, tells, has) = (bytes, reply, step, is, tells, lines-more text more (step_told name root.body.epoch step).lines has)

-- ---- what an owner expects

module _ (Given : List ℕ → Option BoundKey → Type 0) (Own : SignedPromise → Type 0) (Counts : SignedPromise → Type 0) where
  -- more is told
  pub epoch-more : (hash : List ℕ → List ℕ) (accepted : List ℕ → List ℕ → List ℕ → Type 0) (text more name : List ℕ) (root : SignedRoot) → TellsEpoch Given Own Counts hash accepted text name root → TellsEpoch Given Own Counts hash accepted (text ++ more) name root
  epoch-more hash accepted text more name root (key, expects, told) = (key, expects, told-at_more hash accepted text more name (always key) root told)

module _ (hash : List ℕ → List ℕ) (accepted verified : List ℕ → List ℕ → List ℕ → Type 0) where
  abbrev Told : List ℕ → Monitor → Type 0
  Told = IsTold hash accepted verified

  pub told-more : (text more : List ℕ) (monitor : Monitor) → Told text monitor → Told (text ++ more) monitor
  told-more text more monitor told = record {
    chain = told.chain;
    is = told.is;
    tells = λ root watched. told-at_more hash accepted text more monitor.name monitor.watch root (told.tells root watched);
  }

  -- a monitor that begins has watched nothing
  pub told-new : (text : List ℕ) (client : Client) (name : List ℕ) (start : Option BoundKey) → IsChain hash verified client.chain → Told text (new_monitor client name start)
  told-new text client name start chain = record {
    chain = chain;
    is = begun-watching client name start;
    tells = λ root watched. absurd (omega (arith, watched.1, watched.2));
  }

  -- new roots are not watched
  module _ (text : List ℕ) (monitor : Monitor) (told : Told text monitor) where
    old-root : (more : List SignedRoot) (root : SignedRoot) → Ascend (monitor.client.chain.roots ++ more) → Contains (monitor.client.chain.roots ++ more) root → 0 < root.body.epoch → root.body.epoch ≤ monitor.watched
        → Contains monitor.client.chain.roots root
    old-root more root up among some low = elim (Contains-append_cases monitor.client.chain.roots more root among) [
      | inl old ↦ old
      | inr new ↦ elim told.is.last [
        | inl none ↦ absurd (omega (arith, none, some, low))
        | inr last ↦ let less = behind-later monitor.client.chain.roots more last.0 root up last.1.0 new in absurd (omega (arith, less, last.1.1, low))
      ]
    ]

    told-updated : (list : List ℕ) (client : Client) → Updates hash verified monitor.client list {A = Unit {0}} (Ok tt) client → Told text (record monitor { client = client })
    told-updated list client updates =
        let (roots, chain, spelled, takes, same) = updates in
        let grown = takes-grows hash verified roots monitor.client.chain chain takes in
        let is-chain : IsChain hash verified client.chain = subst (λ (c : Client). IsChain hash verified c.chain) (sym same) (takes-chain hash verified roots monitor.client.chain chain told.chain takes) in
        let all : client.chain.roots ≡ monitor.client.chain.roots ++ grown.0 = ap (λ (c : Client). c.chain.roots) same ∙ ap (λ (c : KeyedRoots). c.roots) grown.1 in
        let up : Ascend (monitor.client.chain.roots ++ grown.0) = rw all at (ascend-linked hash client.chain.roots is-chain.linked) in
        record {
          chain = is-chain;
          is = updated-watching hash verified monitor told.is client list (Ok tt) updates is-chain;
          tells = λ root watched. told.tells root (old-root grown.0 root up (rw all at watched.0) watched.1 watched.2, watched.1, watched.2);
        }

  pub told-grown : (text list : List ℕ) (before after : Monitor) → MonitorUpdates hash verified list before after → Told text before → Told text after
  told-grown text list before after (updates, same) told = subst (Told text) (sym same) (told-updated text before told list after.client updates)

  -- two roots that are next have one epoch
  one-next : (monitor : Monitor) (root other : SignedRoot) → IsNext monitor root → IsNext monitor other → root.body.epoch ≤ other.body.epoch
  one-next monitor root other is also = let low = is.2 also.0.0 other also.0.1 (rw also.0.2 also.1) in rw also.0.2 at low

  -- ---- a step

  module _ (text : List ℕ) (before : Monitor) (epoch : ℕ) (bytes : List ℕ) (step : Step) (root : SignedRoot) (told : Told text before) where
    told-last : IsToldAt hash accepted (text ++ (step_told before.name epoch step).lines) before.name before.watch root → (own : SignedRoot) → IsWatched (with_watched before root.body.epoch bytes) own → IsNext before root
        → IsToldAt hash accepted (text ++ (step_told before.name epoch step).lines) before.name before.watch own
    told-last at own watched next = elim (cases_lt before.watched own.body.epoch) [
      | inl new ↦
          let low = next.2 watched.0.0 own watched.0.1 (rw watched.0.2 new) in
          let least : root.body.epoch ≤ own.body.epoch = rw watched.0.2 at low in
          let same : own.body.epoch ≡ root.body.epoch = omega (arith, least, watched.2) in
          let one : own ≡ root = unique before.client.chain (ascend-linked hash before.client.chain.roots told.chain.linked) root.body.epoch own root (watched.0, same) (next.0, refl) in
          subst (IsToldAt hash accepted (text ++ (step_told before.name epoch step).lines) before.name before.watch) (sym one) at
      | inr old ↦ told-at_more hash accepted text (step_told before.name epoch step).lines before.name before.watch own (told.tells own (watched.0, watched.1, old))
    ]

  pub told-stepped : (text : List ℕ) (before : Monitor) (epoch : ℕ) (bytes : List ℕ) (step : Step) (after : Monitor) → IsNextEpoch before (Some epoch) → Steps hash accepted before bytes (Ok step) after
      → Told text before → Told (text ++ (step_told before.name epoch step).lines) after
  told-stepped text before epoch bytes step after (next, is-next, at) (root, reply, (found, accepted-is), tells, same) told =
      let low = one-next before root next found is-next in
      let high = one-next before next root is-next found in
      let one : root.body.epoch ≡ epoch = omega (arith, low, high, at) in
      let line = (step_told before.name epoch step).lines in
      let has = subst (λ (e : ℕ). HasLines (text ++ line) (step_told before.name e step).lines) (sym one) (lines-last text line) in
      let here : IsToldAt hash accepted (text ++ line) before.name before.watch root = (bytes, reply, step, accepted-is, tells, has) in
      subst (Told (text ++ line)) (sym same) (record {
        chain = told.chain;
        is = watched-watching before told.is root.body.epoch bytes root found refl;
        tells = λ own watched. told-last text before epoch bytes step root told here own watched found;
      })

  -- ---- a change

  pub told-changed : (text : List ℕ) (before : Monitor) (key : BoundKey) (bytes : List ℕ) (after : Monitor) → Expects hash verified before key bytes {A = Unit {0}} (Ok tt) after → Told text before → Told text after
  told-changed text before key bytes after (signed, (given, may), same) told =
      let epoch = signed.promise.epoch in
      let above = expects-above before.watch epoch signed.promise.key in
      subst (Told text) (sym same) (record {
        chain = told.chain;
        is = change-watching before told.is signed may.later;
        tells = λ root watched.
            let (reply-bytes, reply, step, is, tells, has) = told.tells root watched in
            let states = tells-same before.watch (with_change before signed).watch root.body.epoch (stated reply.end) step (above.below root.body.epoch (omega (arith, watched.2, may.unwatched))) tells in
            (reply-bytes, reply, step, is, states, has);
      })
