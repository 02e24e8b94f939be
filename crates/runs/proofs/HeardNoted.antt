-- What is owned once a reply is heard of which a promise for a change of the owner's own may be noted: it counts from then on.
use Rattle.std.proofs.Common.{◌≡◌, ◌⊎◌, ◌≤◌, ℕ, List, map, Contains, Option, arith, inl, inr, rules, subst, sym}
use Rattle.std.specs.Prelude.{⊤}
use Rattle.std.specs.List.{AllByRecursion}
use Rattle.encoding.specs.declared.bound_key.BoundKey.{BoundKey}
use Rattle.rootchain.specs.Promises.{IsSignedPromise, PromiseVerifies}
use Rattle.rootchain.specs.declared.signed_promise.SignedPromise.{SignedPromise}
use Rattle.rootchain.specs.declared.signed_root.SignedRoot.{SignedRoot}
use Rattle.rootchain.proofs.Places.{ends}
use Rattle.memory.specs.Lists.{HasNoRepeat}
use Rattle.memory.specs.Memories.{name_of, Memory}
use Rattle.memory.specs.declared.mark.Mark.{Mark}
use Rattle.wire.specs.Frames.{Frame}
use Rattle.wire.specs.Requests.{RequestContent}
use Rattle.asking.specs.Asking.{HearsOne, Notes}
use Rattle.asking.specs.Catching.{CatchesUp}
use Rattle.runs.specs.Owning.{Owns}
use Rattle.runs.specs.Runs.{Background}
use Rattle.runs.specs.Saves.{noting, IsAsked}
use Rattle.asking.specs.Reports.{told_after}
use Rattle.asking.specs.Scenes.{Scene}
use Rattle.runs.specs.Standing.{IsCurrent, IsUpTo}
use Rattle.asking.specs.declared.ask_fault.AskFault.TheVariants.{NoReply, OutOfMemory}
use Rattle.runs.proofs.CaughtUp.{advances_by-low}
use Rattle.runs.proofs.Current.{each-current}
use Rattle.runs.proofs.EveryStep.{above-keeps, advances_by-keep, goes_some-keeps, EachKeeps}
use Rattle.runs.proofs.NotedOwn.{IsLate}
use Rattle.runs.proofs.NotedScenes.{heard-noted, owned-below, waits-below, IsBelow}
use Rattle.runs.proofs.OwnedMonitors.{AreGiven}
use Rattle.runs.proofs.OwnedScenes.{each-owned}
use Rattle.runs.proofs.Standing.{HearsAny}
use Rattle.runs.proofs.ToldScenes.{all-map}

not-out : NoReply ≡ OutOfMemory → ⊥
not-out same = search (rules, same)

module _ {T : Type 0} (hash : List ℕ → List ℕ) (accepted verified : List ℕ → List ℕ → List ℕ → Type 0) (exchanged : T → RequestContent → Frame → T → Type 0) (lines : Option (List (List ℕ))) (Own : SignedPromise → Type 0) (start : Memory)
    (background : Background) (text : List ℕ) (stored : List SignedRoot) (known : List Mark) (once : HasNoRepeat (map name_of background.marks)) (spelled : (signed : SignedPromise) → Own signed → IsSignedPromise signed)
    (signs : (signed : SignedPromise) → Own signed → PromiseVerifies verified background.key signed) (same-marks : start.marks ≡ background.marks) where
  abbrev Owned : List SignedPromise → Scene T → Type 0
  Owned noted now = Owns hash accepted verified (IsAsked lines) Own (noting start noted) text stored background.marks known now

  abbrev AreCurrent : Scene T → Type 0
  AreCurrent now = AllByRecursion (IsCurrent background.key now.client.chain) now.monitors

  -- every relation between scenes keeps what is owned, and every whole one that monitors are current too
  abbrev pub owned : (noted : List SignedPromise) → EachKeeps hash accepted verified exchanged background.marks (AllByRecursion Own)
      (λ key promised name given. IsAsked lines name given × AreGiven hash accepted verified (IsAsked lines) Own (noting start noted) key name promised) ⊤ (λ before after. Owned noted before → Owned noted after)
  owned noted = each-owned hash accepted verified (IsAsked lines) Own (noting start noted) background.marks text stored known exchanged once spelled same-marks

  abbrev pub current : (noted : List SignedPromise) → EachKeeps hash accepted verified exchanged background.marks (AllByRecursion Own)
      (λ key promised name given. (key ≡ background.key) × (IsAsked lines name given × AreGiven hash accepted verified (IsAsked lines) Own (noting start noted) key name promised)) ⊥
      (λ before after. Owned noted before × AreCurrent before → Owned noted after × AreCurrent after)
  current noted = each-current hash accepted verified (IsAsked lines) Own (noting start noted) background.marks text stored known exchanged once spelled same-marks background.key

  -- the chain is as far as a reply, and no monitor is above both that and where the chain was before
  pub caught-below : (noted : List SignedPromise) (epoch low : ℕ) (before ready : Scene T) → CatchesUp hash accepted verified exchanged epoch before ready → IsUpTo before.client low → epoch ≤ low → Owned noted before → AreCurrent before
      → AllByRecursion (IsBelow hash accepted verified low) ready.monitors
  caught-below noted epoch low before ready (count, few, (middle, advances, last)) up high owns now =
      let there = advances_by-keep hash accepted verified exchanged background.marks (current noted) epoch count before middle advances (owns, now) in
      let both = ends middle.client.chain.roots there.0.chain.first in
      let under = advances_by-low hash accepted verified exchanged epoch low high count before middle advances up both.head both.at-head in
      let below = owned-below hash accepted verified exchanged (IsAsked lines) Own (noting start noted) background.marks text stored known background.key signs middle both.head both.at-head there.1 there.0 in
      waits-below hash accepted verified low exchanged background.marks epoch middle ready last
      (all-map (IsBelow hash accepted verified both.head.body.epoch) (IsBelow hash accepted verified low) middle.monitors (λ monitor is. record {
        chain = is.chain;
        first = λ first at. let early = is.first first at in omega (arith, early, under);
        watched = let early = is.watched in omega (arith, early, under);
        changes = all-map (λ (change : ℕ × BoundKey). change.0 ≤ both.head.body.epoch) (λ (change : ℕ × BoundKey). change.0 ≤ low) monitor.watch.changes (λ change early. omega (arith, early, under)) is.changes;
      }) below)

  module _ (noted noted' : List SignedPromise) (new' : AllByRecursion Own noted') (held : ℕ) (asked : RequestContent) (frame : Frame) (low : ℕ) (high : (signed : SignedPromise) → IsLate held asked frame signed → low ≤ signed.promise.epoch)
      (marked : (mark : Mark) → Contains known mark → (mark.epoch ≤ mark.since) ⊎ (mark.epoch ≤ low)) where
    noted-as : (now : Scene T) → noted' ≡ noted → Owned noted now → Owned noted' now
    noted-as now same owns = subst (λ (all : List SignedPromise). Owned all now) (sym same) owns

    one-noted : (before heard : Scene T) → HearsOne hash accepted verified exchanged held asked frame before heard → Notes asked before.client.promises heard.client.promises noted noted' → AllByRecursion (IsBelow hash accepted verified low) before.monitors
        → Owned noted before → AreCurrent before → Owned noted' heard
    one-noted before heard hears notes below owns now =
        heard-noted hash accepted verified exchanged (IsAsked lines) Own start background.marks text stored known background.key signs low marked held asked before heard frame noted noted' high hears notes new' below now
        ((owned noted).hands before heard held asked frame noted noted' hears notes new' owns)

    -- wholly or in part, where memory did not run out
    pub hears-noted : (before after : Scene T) → HearsAny hash accepted verified exchanged background NoReply held asked frame noted noted' before after → AllByRecursion (IsBelow hash accepted verified low) before.monitors → Owned noted before → AreCurrent before
        → Owned noted' after
    hears-noted before after (inl hears) below owns now =
        above-keeps hash accepted verified exchanged background.marks (owned noted') held hears.heard after hears.goes (one-noted before hears.heard hears.hears hears.notes below owns now)
    hears-noted before after (inr (inl (none, same))) below owns now = noted-as after none (subst (Owned noted) (sym same) owns)
    hears-noted before after (inr (inr (inl (inl none, told, hears, (shown, shows, tells), monitors, stream)))) below owns now =
        noted-as after none ((owned noted).hears before after held asked frame told (told_after told shown) hears tells monitors owns)
    hears-noted before after (inr (inr (inl (inr (out, notes), told, hears, tells, monitors, stream)))) below owns now = absurd (not-out out)
    hears-noted before after (inr (inr (inr (middle, hears, notes, (head, is, far, goes))))) below owns now =
        goes_some-keeps hash accepted verified exchanged background.marks (owned noted') middle after goes (one-noted before middle hears notes below owns now)
