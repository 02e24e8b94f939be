-- Over all runs of a state, it was told of each root up to a mark, and no mark is lost, nor a promise that one awaits, nor
-- evidence, nor an alarm that is not settled.
use Rattle.std.proofs.Common.{◌≡◌, ◌≢◌, ◌∙◌, ℕ, ◌<◌, ◌≤◌, List, [], ◌∷◌, ◌++◌, Any, Contains, Option, Ok, ap, append_assoc, append-nil, arith, inl, inr, refl, subst, sym}
use Rattle.std.specs.List.{AllByRecursion}
use Rattle.std.proofs.lemmas.List.Elements.{Contains-append_left}
use Rattle.encoding.specs.declared.bound_key.BoundKey.{BoundKey}
use Rattle.rootchain.specs.declared.signed_promise.SignedPromise.{SignedPromise}
use Rattle.rootchain.specs.declared.signed_root.SignedRoot.{SignedRoot}
use Rattle.memory.specs.Memories.{Memory}
use Rattle.memory.specs.Texts.{Spells}
use Rattle.memory.specs.Watching.{IsAwaited}
use Rattle.memory.specs.declared.alarm.Alarm.{Alarm}
use Rattle.memory.specs.declared.final_seen.FinalSeen.{FinalSeen}
use Rattle.memory.specs.declared.mark.Mark.{Mark}
use Rattle.memory.proofs.OneMemory.{one_memory}
use Rattle.runs.specs.Saves.{stored_after, Act, AddsLines, AddsRoots, AllKeepTold, Found, HasMark, IsFound, KeepsTold, Loads, SpellsTold, Stored, WasOwn, Writes}
use Rattle.runs.specs.StateRuns.{left_by, AllRun, AreAdded, AreFirst, FirstLoads, LeavesAwaited, StateRun, WasAskedIn, WasTold, WasWritten}
use Rattle.runs.proofs.KeptTold.{loads-kept}

some-left : (front back : List Act) → back ≢ [] → front ++ back ≡ [] → ⊥
some-left [] back some none = some none
some-left (act ∷ front) back some none = cc

-- a text spells one memory
pub one-spelled : (text : List ℕ) (one other : Memory) → Spells text (Ok one) → Spells text (Ok other) → one ≡ other
one-spelled text one other p q = let same = one_memory text (Ok one) (Ok other) p q in cc

module _ (hash : List ℕ → List ℕ) (accepted : List ℕ → List ℕ → List ℕ → Type 0) where
  module _ (Given : List ℕ → Option BoundKey → Type 0) (Own Asked : SignedPromise → Type 0) (Drops : List ℕ → Type 0) (start : Found) (old : List ℕ) where
    -- the first of the acts keep all told too
    first-kept : (later acts : List Act) → acts ≢ [] → AllKeepTold hash accepted Given Own Asked Drops start old (later ++ acts) → AllKeepTold hash accepted Given Own Asked Drops start old acts
    first-kept [] acts some all = all
    first-kept (Loads stored ∷ later) acts some all = absurd (some-left later acts some all.1)
    first-kept (AddsRoots more out ∷ later) acts some all = first-kept later acts some all.0
    first-kept (AddsLines lines out ∷ later) acts some all = first-kept later acts some all.0
    first-kept (Writes anew out ∷ later) acts some all = first-kept later acts some all.0

    -- the first of all loads what the run began with
    first-start : (later : List Act) (stored : Stored) → AllKeepTold hash accepted Given Own Asked Drops start old (later ++ Loads stored ∷ []) → IsFound stored start
    first-start [] stored all = all.0
    first-start (Loads other ∷ later) stored all = absurd (some-left later (Loads stored ∷ []) (λ none. cc) all.1)
    first-start (AddsRoots more out ∷ later) stored all = first-start later stored all.0
    first-start (AddsLines lines out ∷ later) stored all = first-start later stored all.0
    first-start (Writes anew out ∷ later) stored all = first-start later stored all.0

    -- after them, the files keep told what was written before the latest
    kept-after : (acts : List Act) → AllKeepTold hash accepted Given Own Asked Drops start old acts → (text : List ℕ) × WasWritten old acts text × SpellsTold hash accepted Given Own Asked Drops start text (stored_after acts)
    kept-after [] all = absurd all
    kept-after (Loads stored ∷ acts) all = ([], refl, (start.known, all.0.1, loads-kept hash accepted Given Own Asked Drops start [] stored.roots all.0.0))
    kept-after (AddsRoots more out ∷ acts) all = all.1
    kept-after (AddsLines lines out ∷ acts) all = all.1
    kept-after (Writes anew out ∷ acts) all = all.1

  -- it is so too where some of the roots that were added are not there
  module _ (Given : List ℕ → Option BoundKey → Type 0) (Own Asked : SignedPromise → Type 0) (Drops : List ℕ → Type 0) (start : Found) (text : List ℕ) where
    fewer-kept : (after roots : List SignedRoot) (known : Memory) → AreAdded start.roots roots after → KeepsTold hash accepted Given Own Asked Drops start text (record { roots = after; known = known })
        → KeepsTold hash accepted Given Own Asked Drops start text (record { roots = roots; known = known })
    fewer-kept after roots known (more, rest, grown, parts) kept = record {
      grows = (more, grown);
      stays = kept.stays;
      told = λ mark has root among above below. kept.told mark has root (subst (λ (rs : List SignedRoot). Contains rs root) (sym parts) (Contains-append_left roots rest root among)) above below;
      own = kept.own;
      awaits = kept.awaits;
      alarms = kept.alarms;
      evidence = kept.evidence;
      finals = kept.finals;
    }

  module _ {X : Type 0} (Given : X → List ℕ → Option BoundKey → Type 0) (Own : X → Memory → SignedPromise → Type 0) (Asked : X → SignedPromise → Type 0) (Drops : X → List ℕ → Type 0) where
    -- what a run found, and what the next one does
    kept-by : (run : StateRun X) (stored : Stored) → FirstLoads run.acts stored → (start : Found) × AllKeepTold hash accepted (Given run.asked) (Own run.asked start.known) (Asked run.asked) (Drops run.asked) start run.old run.acts → AreFirst run.acts run.left
        → AreAdded stored.roots run.roots (stored_after run.left).roots
        → (start : Found) × IsFound stored start × ((text : List ℕ) × WasWritten run.old run.left text × SpellsTold hash accepted (Given run.asked) (Own run.asked start.known) (Asked run.asked) (Drops run.asked) start text (record { roots = run.roots; text = (stored_after run.left).text }))
    kept-by run stored (later, loads) (start, all) (some, (more, is)) added =
        let Keep = AllKeepTold hash accepted (Given run.asked) (Own run.asked start.known) (Asked run.asked) (Drops run.asked) start run.old in
        let found = first-start (Given run.asked) (Own run.asked start.known) (Asked run.asked) (Drops run.asked) start run.old later stored (subst Keep loads all) in
        let first = first-kept (Given run.asked) (Own run.asked start.known) (Asked run.asked) (Drops run.asked) start run.old more run.left some (subst Keep is all) in
        let (text, was, (known, spells, kept)) = kept-after (Given run.asked) (Own run.asked start.known) (Asked run.asked) (Drops run.asked) start run.old run.left first in
        let added' = subst (λ (rs : List SignedRoot). AreAdded rs run.roots (stored_after run.left).roots) found.0 added in
        (start, found, (text, was, (known, spells, fewer-kept (Given run.asked) (Own run.asked start.known) (Asked run.asked) (Drops run.asked) start text (stored_after run.left).roots run.roots known added' kept)))

    module _ (first : Stored) where
      -- what is saved loads as a memory
      pub spelled-over-runs : (runs : List (StateRun X)) → AllRun hash accepted Given Own Asked Drops first runs → (before : Memory) → Spells first.text (Ok before) → (known : Memory) × Spells (left_by first runs).text (Ok known)
      spelled-over-runs [] all before spells = (before, spells)
      spelled-over-runs (run ∷ earlier) (loads, keeps, prefix, added, all) before spells =
          let (start, found, (text, was, (known, says, kept))) = kept-by run (left_by first earlier) loads keeps prefix added in
          (known, says)

      -- each root up to a mark was told
      pub told-over-runs : (runs : List (StateRun X)) → AllRun hash accepted Given Own Asked Drops first runs → (known : Memory) → Spells (left_by first runs).text (Ok known) → (mark : Mark) → Contains known.marks mark
          → (root : SignedRoot) → Contains (left_by first runs).roots root → mark.since < root.body.epoch → root.body.epoch ≤ mark.epoch → WasTold hash accepted Given Own first runs mark.name root
      told-over-runs [] all known spells mark has root among above below = (known, spells, (among, (mark, has, refl, above, below)))
      told-over-runs (run ∷ earlier) (loads, keeps, prefix, added, all) known spells mark has root among above below =
          let (start, found, (text, was, (saved, says, kept))) = kept-by run (left_by first earlier) loads keeps prefix added in
          let same = one-spelled (stored_after run.left).text known saved spells says in
          elim (kept.told mark (subst (λ (m : Memory). Contains m.marks mark) same has) root among above below) [
            | inl tells ↦ inl (start.known, saved, found.1, says, (text, was, tells))
            | inr (there, (old, knows, named, above', below')) ↦
                inr (subst (λ (name : List ℕ). WasTold hash accepted Given Own first earlier name root) named
                (told-over-runs earlier all start.known found.1 old knows root (subst (λ (rs : List SignedRoot). Contains rs root) (sym found.0) there) above' below'))
          ]

      -- no root is lost, and no mark
      pub roots-over-runs : (later earlier : List (StateRun X)) → AllRun hash accepted Given Own Asked Drops first (later ++ earlier) → (more : List SignedRoot) × ((left_by first (later ++ earlier)).roots ≡ (left_by first earlier).roots ++ more)
      roots-over-runs [] earlier all = ([], sym (append-nil (left_by first earlier).roots))
      roots-over-runs (run ∷ later) earlier (loads, keeps, prefix, (new, rest, grown, parts), all) =
          let (more, is) = roots-over-runs later earlier all in
          (more ++ new, grown ∙ ap (λ (rs : List SignedRoot). rs ++ new) is ∙ append_assoc (left_by first earlier).roots more new)

      still-root : (later earlier : List (StateRun X)) → AllRun hash accepted Given Own Asked Drops first (later ++ earlier) → (roots : List SignedRoot) → (left_by first (later ++ earlier)).roots ≡ roots
          → (root : SignedRoot) → Contains (left_by first earlier).roots root → Contains roots root
      still-root later earlier all roots is root has =
          let (more, grown) = roots-over-runs later earlier all in
          subst (λ (rs : List SignedRoot). Contains rs root) (sym grown ∙ is) (Contains-append_left (left_by first earlier).roots more root has)

      pub marks-over-runs : (later earlier : List (StateRun X)) → AllRun hash accepted Given Own Asked Drops first (later ++ earlier) → (before known : Memory) → Spells (left_by first earlier).text (Ok before)
          → Spells (left_by first (later ++ earlier)).text (Ok known) → (old : Mark) → Contains before.marks old → HasMark (left_by first earlier).roots known.marks old
      marks-over-runs [] earlier all before known was spells old has =
          (old, subst (λ (m : Memory). Contains m.marks old) (one-spelled (left_by first earlier).text before known was spells) has, refl, omega arith, λ root among low. low)
      marks-over-runs (run ∷ later) earlier (loads, keeps, prefix, added, all) before known was spells old has =
          let (start, found, (text, written, (saved, says, kept))) = kept-by run (left_by first (later ++ earlier)) loads keeps prefix added in
          let same = one-spelled (stored_after run.left).text saved known says spells in
          let (mark, there, named, low, far) = marks-over-runs later earlier all before start.known was found.1 old has in
          let (next, there', named', low', far') = kept.stays mark there in (
            next,
            subst (λ (m : Memory). Contains m.marks next) same there',
            named' ∙ named,
            omega (arith, low, low'),
            λ root among up. far' root (still-root later earlier all start.roots found.0 root among) (far root among up),
          )

      -- nor a promise for a change of the owner's own, as long as a mark awaits it
      pub awaited-over-runs : (later earlier : List (StateRun X)) → AllRun hash accepted Given Own Asked Drops first (later ++ earlier) → (before known : Memory) → Spells (left_by first earlier).text (Ok before)
          → Spells (left_by first (later ++ earlier)).text (Ok known) → (signed : SignedPromise) → WasOwn before signed → AllByRecursion (LeavesAwaited signed) later → WasOwn known signed
      awaited-over-runs [] earlier all before known was spells signed own awaited = subst (λ (m : Memory). WasOwn m signed) (one-spelled (left_by first earlier).text before known was spells) own
      awaited-over-runs (run ∷ later) earlier (loads, keeps, prefix, added, all) before known was spells signed own ((now, reads, awaits), awaited) =
          let (start, found, (text, written, (saved, says, kept))) = kept-by run (left_by first (later ++ earlier)) loads keeps prefix added in
          let old = awaited-over-runs later earlier all before start.known was found.1 signed own awaited in
          let here = subst (λ (m : Memory). Any (IsAwaited signed) m.marks) (one-spelled (stored_after run.left).text now saved reads says) awaits in
          subst (λ (m : Memory). WasOwn m signed) (one-spelled (stored_after run.left).text saved known says spells) (kept.awaits signed old here)

      -- no evidence is lost, nor an alarm unless those of its name are dropped
      pub evidence-over-runs : (later earlier : List (StateRun X)) → AllRun hash accepted Given Own Asked Drops first (later ++ earlier) → (before known : Memory) → Spells (left_by first earlier).text (Ok before)
          → Spells (left_by first (later ++ earlier)).text (Ok known) → (line : List ℕ) → Contains before.evidence line → Contains known.evidence line
      evidence-over-runs [] earlier all before known was spells line has = subst (λ (m : Memory). Contains m.evidence line) (one-spelled (left_by first earlier).text before known was spells) has
      evidence-over-runs (run ∷ later) earlier (loads, keeps, prefix, added, all) before known was spells line has =
          let (start, found, (text, written, (saved, says, kept))) = kept-by run (left_by first (later ++ earlier)) loads keeps prefix added in
          subst (λ (m : Memory). Contains m.evidence line) (one-spelled (stored_after run.left).text saved known says spells) (kept.evidence line (evidence-over-runs later earlier all before start.known was found.1 line has))

      -- nor a reply that stated a key with Final
      pub finals-over-runs : (later earlier : List (StateRun X)) → AllRun hash accepted Given Own Asked Drops first (later ++ earlier) → (before known : Memory) → Spells (left_by first earlier).text (Ok before)
          → Spells (left_by first (later ++ earlier)).text (Ok known) → (seen : FinalSeen) → Contains before.finals seen → Contains known.finals seen
      finals-over-runs [] earlier all before known was spells seen has = subst (λ (m : Memory). Contains m.finals seen) (one-spelled (left_by first earlier).text before known was spells) has
      finals-over-runs (run ∷ later) earlier (loads, keeps, prefix, added, all) before known was spells seen has =
          let (start, found, (text, written, (saved, says, kept))) = kept-by run (left_by first (later ++ earlier)) loads keeps prefix added in
          subst (λ (m : Memory). Contains m.finals seen) (one-spelled (stored_after run.left).text saved known says spells) (kept.finals seen (finals-over-runs later earlier all before start.known was found.1 seen has))

      pub alarms-over-runs : (later earlier : List (StateRun X)) → AllRun hash accepted Given Own Asked Drops first (later ++ earlier) → (before known : Memory) → Spells (left_by first earlier).text (Ok before)
          → Spells (left_by first (later ++ earlier)).text (Ok known) → (alarm : Alarm) → Contains before.alarms alarm → AllByRecursion (λ (run : StateRun X). ¬ Drops run.asked alarm.name) later → Contains known.alarms alarm
      alarms-over-runs [] earlier all before known was spells alarm has none = subst (λ (m : Memory). Contains m.alarms alarm) (one-spelled (left_by first earlier).text before known was spells) has
      alarms-over-runs (run ∷ later) earlier (loads, keeps, prefix, added, all) before known was spells alarm has (here, none) =
          let (start, found, (text, written, (saved, says, kept))) = kept-by run (left_by first (later ++ earlier)) loads keeps prefix added in
          subst (λ (m : Memory). Contains m.alarms alarm) (one-spelled (stored_after run.left).text saved known says spells) (elim (kept.alarms alarm (alarms-over-runs later earlier all before start.known was found.1 alarm has none)) [
            | inl there ↦ there
            | inr dropped ↦ absurd (here dropped)
          ])

      -- each promise that is the owner's own was asked for
      pub own-over-runs : (runs : List (StateRun X)) → AllRun hash accepted Given Own Asked Drops first runs → (known : Memory) → Spells (left_by first runs).text (Ok known) → (signed : SignedPromise) → WasOwn known signed → WasAskedIn Asked first runs signed
      own-over-runs [] all known spells signed own = (known, spells, own)
      own-over-runs (run ∷ earlier) (loads, keeps, prefix, added, all) known spells signed own =
          let (start, found, (text, was, (saved, says, kept))) = kept-by run (left_by first earlier) loads keeps prefix added in
          let same = one-spelled (stored_after run.left).text known saved spells says in
          elim (kept.own signed (subst (λ (m : Memory). WasOwn m signed) same own)) [
            | inl old ↦ inr (own-over-runs earlier all start.known found.1 signed old)
            | inr new ↦ inl new
          ]
