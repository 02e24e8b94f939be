-- All that the monitors of a run watched is told in what it writes.
use Rattle.std.proofs.Common.{◌≡◌, ◌∙◌, ℕ, List, [], ◌∷◌, ◌++◌, Option, Some, None, ap, subst, sym, append_assoc, append-nil}
use Rattle.std.specs.Prelude.{IfSome}
use Rattle.std.specs.Io.KnownBytes.{Appends}
use Rattle.std.specs.List.{AllByRecursion}
use Rattle.monitor.specs.Monitors.{Monitor}
use Rattle.play.specs.Scripts.{ScriptLine, Pass, Ask, Watch, Piece, End}
use Rattle.wire.specs.Frames.{Frame}
use Rattle.wire.specs.Requests.{RequestContent}
use Rattle.runs.specs.AskOptions.{AskOptions}
use Rattle.runs.specs.Runs.{AsksLine, AsksLines, Background, DoesLine, lines_asked, Prepares, RunsWhole, Writes}
use Rattle.asking.specs.Scenes.{Scene}
use Rattle.runs.specs.Told.{IsTold, TellsWatched}
use Rattle.runs.proofs.EveryStep.{asks_directory-keeps, begins_watch-keeps, prepares-keeps}
use Rattle.runs.proofs.ToldScenes.{all-map, each-told, AllTold, Keeps}

in-one : (old first second : List ℕ) (new : Option (List ℕ)) → new ≡ Some ((old ++ first) ++ second) → new ≡ Some (old ++ (first ++ second))
in-one old first second new is = is ∙ ap Some (append_assoc old first second)

module _ (hash : List ℕ → List ℕ) (accepted verified : List ℕ → List ℕ → List ℕ → Type 0) {T : Type 0} (exchanged : T → RequestContent → Frame → T → Type 0) where
  abbrev Told : List ℕ → Monitor → Type 0
  Told = IsTold hash accepted verified

  abbrev Tells : List ℕ → Scene T → Type 0
  Tells = AllTold hash accepted verified exchanged

  abbrev Goes : Scene T → Scene T → Type 0
  Goes = Keeps hash accepted verified exchanged

  same-keeps : (before after : Scene T) → after ≡ before → Goes before after
  same-keeps before after same text all = subst (Tells text) (sym same) all

  does-keeps : (background : Background) (said : ScriptLine) (before after : Scene T) → DoesLine hash accepted verified exchanged background said before after → Goes before after
  does-keeps background Pass before after same = same-keeps before after same
  does-keeps background (Ask asked) before after (noted, noted', asks) = asks_directory-keeps hash accepted verified exchanged background.marks (each-told hash accepted verified exchanged background.marks) background.token asked noted noted' before after tt asks
  does-keeps background (Watch name given) before after (noted, watches) = begins_watch-keeps hash accepted verified exchanged background.marks (each-told hash accepted verified exchanged background.marks) background.key _ name given tt background.known before after watches
  does-keeps background (Piece session piece) before after none = absurd none
  does-keeps background (End session) before after none = absurd none

  -- all that was told is written, and all that the monitors watched is in it
  abbrev pub AllWritten : List ℕ → Scene T → Type 0
  AllWritten text now = (now.told.lines ≡ []) × AllByRecursion (Told text) now.monitors

  not-yet : (text : List ℕ) (now : Scene T) → AllWritten text now → Tells text now
  not-yet text now (none, all) = subst (λ (t : List ℕ). AllByRecursion (Told t) now.monitors) (sym (ap (λ (ls : List ℕ). text ++ ls) none ∙ append-nil text)) all

  new-contents : (old lines : List ℕ) (now : Option (List ℕ)) → Appends (Some old) now lines → now ≡ Some (old ++ lines)
  new-contents old lines None appends = absurd appends
  new-contents old lines (Some new) appends = ap Some appends

  written-keeps : (Does : Scene T → Scene T → Type 0) (before after : Scene T) (old : List ℕ) (now : Option (List ℕ)) (text : List ℕ) → ((done : Scene T) → Does before done → Goes before done)
      → Writes Does before (Some old) now after → Tells text before → (more : List ℕ) × (now ≡ Some (old ++ more)) × AllWritten (text ++ more) after
  written-keeps Does before after old now text keeps (done, does, appends, same) all = (
    done.told.lines,
    new-contents old done.told.lines now appends,
    (
      ap (λ (s : Scene T). s.told.lines) same,
      subst (λ (s : Scene T). AllByRecursion (Told (text ++ done.told.lines)) s.monitors) (sym same) (keeps done does text all),
    ),
  )

  lines-keep : (background : Background) (lines : List (List ℕ)) (before after : Scene T) (old : List ℕ) (new : Option (List ℕ)) (text : List ℕ)
      → AsksLines hash accepted verified exchanged background lines before (Some old) new after → AllWritten text before → (more : List ℕ) × (new ≡ Some (old ++ more)) × AllWritten (text ++ more) after
  lines-keep background [] before after old new text (appends, same) all =
      ([], new-contents old [] new appends, subst (AllWritten (text ++ [])) (sym same) (subst (λ (t : List ℕ). AllWritten t before) (sym (append-nil text)) all))
  lines-keep background (line ∷ lines) before after old new text (middle, now, writes, rest) all =
      let (first, is, one) = written-keeps (AsksLine hash accepted verified exchanged background line) before middle old now text
      (λ done asks. does-keeps background asks.0 before done asks.2) writes (not-yet text before all) in
      let rest' = subst (λ (o : Option (List ℕ)). AsksLines hash accepted verified exchanged background lines middle o new after) is rest in
      let (second, then, two) = lines-keep background lines middle after (old ++ first) new (text ++ first) rest' one in
      (first ++ second, in-one old first second _ then, subst (λ (t : List ℕ). AllWritten t after) (append_assoc text first second) two)

  pub whole-keeps : (key token : List ℕ) (options : AskOptions) (HasNoState : Type 0) (stream stream' : T) (input : Option (List ℕ)) (status : ℕ) (old : List ℕ) (new : Option (List ℕ)) (lines : List (List ℕ))
      → lines_asked options.words input ≡ Some lines → (run : RunsWhole hash accepted verified exchanged key token options HasNoState stream stream' input status (Some old) new)
      → (text : List ℕ) × (new ≡ Some (old ++ text)) × AllByRecursion (TellsWatched hash accepted text) run.last.monitors
  whole-keeps key token options HasNoState stream stream' input status old new lines asked run =
      let none = subst (AllByRecursion (Told ([] ++ run.start.told.lines))) (sym run.begun.knows.2) tt in
      let (first, is, one) = written-keeps (Prepares hash accepted verified exchanged run.background HasNoState) run.start run.ready old run.now [] (λ done does. prepares-keeps hash accepted verified exchanged run.background (each-told hash accepted verified exchanged run.background.marks) HasNoState run.start done does) run.prepares none in
      let asks = subst (λ (found : Option (List (List ℕ))). IfSome found (λ ls. AsksLines hash accepted verified exchanged run.background ls run.ready run.now new run.last)) asked run.asks in
      let asks' = subst (λ (o : Option (List ℕ)). AsksLines hash accepted verified exchanged run.background lines run.ready o new run.last) is asks in
      let (second, then, two) = lines-keep run.background lines run.ready run.last (old ++ first) new first asks' one in
      (first ++ second, in-one old first second _ then, all-map (Told (first ++ second)) (TellsWatched hash accepted (first ++ second)) run.last.monitors (λ monitor is. is.tells) two.1)
  -- ---- a run that ends before all is asked
