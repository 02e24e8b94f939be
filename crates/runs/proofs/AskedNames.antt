-- Each name that a line of a whole run asks to be watched has a monitor at its end, or a mark of an earlier run.
use Rattle.std.proofs.Common.{◌≡◌, ◌∙◌, ◌⊎◌, ℕ, List, [], ◌∷◌, ◌++◌, length, Contains, Option, Some, ap, arith, inl, inr, refl, subst, sym}
use Rattle.std.specs.Prelude.{IfSome, ⊤}
use Rattle.std.specs.List.{AllZip}
use Rattle.std.proofs.lemmas.List.Elements.{Contains-append_left, Contains-push}
use Rattle.encoding.specs.declared.bound_key.BoundKey.{BoundKey}
use Rattle.client.specs.Clients.{Client}
use Rattle.memory.specs.declared.mark.Mark.{Mark}
use Rattle.monitor.specs.Monitors.{Monitor}
use Rattle.play.specs.Scripts.{line_of, ScriptLine, Pass, Ask, Watch, Piece, End}
use Rattle.rootchain.specs.declared.signed_promise.SignedPromise.{SignedPromise}
use Rattle.wire.specs.Frames.{Frame}
use Rattle.commands.specs.Operations.{Lookup}
use Rattle.wire.specs.Requests.{RequestContent, Query}
use Rattle.runs.specs.AskOptions.{AskOptions}
use Rattle.asking.specs.Following.{asks_roots, StopsFollowing}
use Rattle.asking.specs.Joining.{BeginsWatch, IsMarkedUpTo}
use Rattle.asking.specs.Reports.{told_after, Report}
use Rattle.runs.specs.Runs.{lines_asked, AsksLines, Background, BeginsAsking, DoesLine, RunsWhole}
use Rattle.runs.specs.Saves.{IsAsked}
use Rattle.asking.specs.Scenes.{Scene}
use Rattle.asking.specs.Visiting.{HasMonitor, IsMarked}
use Rattle.runs.proofs.EveryStep.{asks_directory-keeps, begins_watch-keeps, prepares-keeps, tests_named-keeps, through-keeps, EachKeeps}
use Rattle.runs.proofs.GoneOn.{hear-goes, step-goes, still-go, stop-goes, take-goes, Going}
use Rattle.runs.proofs.JoinedChanges.{all-more}
use Rattle.runs.proofs.OwnRoots.{some-same}
use Rattle.runs.proofs.OwnedRoots.{unwatched-there}
use Rattle.runs.proofs.PutMarks.{all-any, cons-cases, cons-front}
use Rattle.runs.proofs.Retraced.{of-started, of-updated, starts-not, IsOf}
use Rattle.runs.proofs.SameChain.{frame-chain, shown-chain, step-chain}

-- the same name
abbrev IsNamed : Monitor → Monitor → Type 0
IsNamed before after = after.name ≡ before.name

named-there : (name : List ℕ) (before after : List Monitor) → AllZip IsNamed before after → HasMonitor before name → HasMonitor after name
named-there name [] after zip (monitor, has, named) = absurd (omega (arith, has.1))
named-there name (first ∷ before) [] zip has = absurd zip
named-there name (first ∷ before) (first' ∷ after) zip (monitor, has, named) = elim (cons-cases first monitor before has) [
  | inl same ↦ (first', (0, omega arith, refl), zip.0 ∙ ap (λ (m : Monitor). m.name) same ∙ named)
  | inr more ↦
      let (other, there, also) = named-there name before after zip.1 (monitor, more, named) in
      (other, cons-front first' other after there, also)
]

marked-so : (name : List ℕ) (epoch : ℕ) (marks : List Mark) → IsMarkedUpTo name epoch marks → IsMarked marks name
marked-so name epoch [] marked = absurd marked
marked-so name epoch (mark ∷ marks) (inl (named, same)) = (mark, (0, omega arith, refl), named)
marked-so name epoch (mark ∷ marks) (inr (other, rest)) =
    let (one, has, named) = marked-so name epoch marks rest in
    (one, cons-front mark one marks has, named)

module _ (hash : List ℕ → List ℕ) (accepted verified : List ℕ → List ℕ → List ℕ → Type 0) {T : Type 0} (exchanged : T → RequestContent → Frame → T → Type 0) where
  keep-names : Going hash verified IsNamed (λ monitor. ⊤)
  keep-names = record {
    same = λ monitor. refl;
    updates = λ list before after is updates. ap (λ (m : Monitor). m.name) updates.1;
    changes = λ before signed. refl;
    watches = λ before epoch reply. refl;
  }

  -- the client's chain is one of the provider, and stays one in each step
  module _ (key : List ℕ) where
    abbrev IsOwn : Scene T → Type 0
    IsOwn now = IsOf hash verified key now.client.chain

    same-own : (before after : Client) → after.chain ≡ before.chain → IsOf hash verified key before.chain → IsOf hash verified key after.chain
    same-own before after same is = subst (IsOf hash verified key) (sym same) is

    stopped-own : (before after : Client) (monitors : List Monitor) (frame : Frame) (told : Report) (monitors' : List Monitor) (asked : RequestContent) → StopsFollowing hash verified asked before monitors frame told after monitors'
        → IsOf hash verified key before.chain → IsOf hash verified key after.chain
    stopped-own before after monitors frame told monitors' asked (inl (missed, same, others)) is = same-own before after (ap (λ (c : Client). c.chain) same) is
    stopped-own before after monitors frame told monitors' asked (inr (answers, inl (why, inl (refuses, same, others), tells))) is = same-own before after (ap (λ (c : Client). c.chain) same) is
    stopped-own before after monitors frame told monitors' asked (inr (answers, inl (why, inr (updates, refuses), tells))) is = of-updated hash verified key frame.body before after updates is
    stopped-own before after monitors frame told monitors' asked (inr (answers, inr ((some, (updates, others), none), tells))) is = of-updated hash verified key frame.body before after updates is

    each-own : (marks : List Mark) → EachKeeps hash accepted verified exchanged marks (λ noted. ⊤) (λ key promised other given. ⊤) ⊤ (λ before after. IsOwn before → IsOwn after)
    each-own marks = record {
      none = λ before is. is;
      both = λ before middle after one other is. other (one is);
      sends = λ before stream is. is;
      tells = λ before told is. is;
      takes = λ before after (frame, asks, (updates, monitors), same, above, finals) is. of-updated hash verified key frame.body before.client after.client updates is;
      stops = λ before after may (head, at, frame, exchange, told, stops, tells, finals) is. stopped-own before.client after.client before.monitors frame told after.monitors (asks_roots head) stops is;
      tests = λ before name kept after asks is. same-own before.client after.client (shown-chain hash accepted verified before.client name (Query (Lookup name asks.epoch)) asks.frame kept asks.told after.client asks.shows) is;
      steps = λ before place went after asks is. same-own before.client after.client (step-chain hash accepted verified before.client asks.monitor.name asks.epoch (Query (Lookup asks.monitor.name asks.epoch)) asks.frame asks.told asks.found after.client asks.client) is;
      joins = λ before key promised name given first monitor may unwatched joined is. is;
      hears = λ before after held asked frame heard told hears says monitors is. same-own before.client after.client (frame-chain hash accepted verified held before.client after.client asked frame heard hears) is;
      hands = λ before after held asked frame noted noted' hears notes may is. same-own before.client after.client (frame-chain hash accepted verified held before.client after.client asked frame hears.told hears.hears) is;
    }

    begins-own : (HasNoState : Type 0) (token : List ℕ) (stream after : T) (background : Background) (client : Client) → BeginsAsking hash accepted verified exchanged key token HasNoState stream background client after → IsOf hash verified key client.chain
    begins-own HasNoState token stream after background client (inl ((frame, exchange, answers, starts), same)) = of-started hash verified key frame.body client starts
    begins-own HasNoState token stream after background client (inr (some, same, (keyed, chain, is), keeps)) = record { keyed = keyed; is = chain; formed = is.roots }

  module _ (name : List ℕ) where
    abbrev Named : Scene T → Scene T → Type 0
    Named before after = HasMonitor before.monitors name → HasMonitor after.monitors name

    -- no step takes a monitor away
    each-named : (marks : List Mark) → EachKeeps hash accepted verified exchanged marks (λ noted. ⊤) (λ key promised other given. ⊤) ⊤ Named
    each-named marks = record {
      none = λ before has. has;
      both = λ before middle after one other has. other (one has);
      sends = λ before stream has. has;
      tells = λ before told has. has;
      takes = λ before after takes. named-there name before.monitors after.monitors (take-goes hash accepted verified keep-names exchanged before after takes (all-any before.monitors));
      stops = λ before after may stops. named-there name before.monitors after.monitors (stop-goes hash accepted verified keep-names exchanged before after stops (all-any before.monitors));
      tests = λ before other kept after asks. named-there name before.monitors after.monitors (still-go hash accepted verified keep-names before.monitors after.monitors asks.monitors);
      steps = λ before place went after asks. named-there name before.monitors after.monitors (step-goes hash accepted verified keep-names exchanged before after place went asks);
      joins = λ before key promised other given first monitor may is joined (one, has, named). (one, Contains-append_left before.monitors (monitor ∷ []) one has, named);
      hears = λ before after held asked frame heard told hears says monitors. named-there name before.monitors after.monitors (still-go hash accepted verified keep-names before.monitors after.monitors monitors);
      hands = λ before after held asked frame noted noted' hears notes may. named-there name before.monitors after.monitors (hear-goes hash accepted verified keep-names exchanged before after held asked frame hears);
    }

    module _ (background : Background) where
      abbrev Own : Scene T → Type 0
      Own = IsOwn background.key

      abbrev Goes : Scene T → Scene T → Type 0
      Goes before after = Named before after × (Own before → Own after)

      abbrev each : EachKeeps hash accepted verified exchanged background.marks (λ noted. ⊤) (λ key promised other given. ⊤) ⊤ Named
      each = each-named background.marks

      abbrev own : EachKeeps hash accepted verified exchanged background.marks (λ noted. ⊤) (λ key promised other given. ⊤) ⊤ (λ before after. Own before → Own after)
      own = each-own background.key background.marks

      does-goes : (said : ScriptLine) (before after : Scene T) → DoesLine hash accepted verified exchanged background said before after → Goes before after
      does-goes Pass before after same = subst (Goes before) (sym same) (each.none before, own.none before)
      does-goes (Ask asked) before after (noted, noted', asks) = (
        asks_directory-keeps hash accepted verified exchanged background.marks each background.token asked noted noted' before after tt asks,
        asks_directory-keeps hash accepted verified exchanged background.marks own background.token asked noted noted' before after tt asks,
      )
      does-goes (Watch other given) before after (noted, watches) = (
        begins_watch-keeps hash accepted verified exchanged background.marks each background.key _ other given tt background.known before after watches,
        begins_watch-keeps hash accepted verified exchanged background.marks own background.key _ other given tt background.known before after watches,
      )
      does-goes (Piece session piece) before after none = absurd none
      does-goes (End session) before after none = absurd none

      lines-go : (lines : List (List ℕ)) (before after : Scene T) (old new : Option (List ℕ)) → AsksLines hash accepted verified exchanged background lines before old new after → Named before after
      lines-go [] before after old new (appends, same) = subst (Named before) (sym same) (each.none before)
      lines-go (line ∷ lines) before after old new (middle, now, (done, (said, seen, does), appends, same), rest) =
          let later = subst (λ (s : Scene T). Named s after) same (lines-go lines middle after now new rest) in
          λ has. later ((does-goes said before done does).0 has)

      -- the name has a monitor, or a mark
      abbrev IsSeen : Scene T → Type 0
      IsSeen now = HasMonitor now.monitors name ⊎ IsMarked background.marks name

      seen-on : (before after : Scene T) → Named before after → IsSeen before → IsSeen after
      seen-on before after goes (inl has) = inl (goes has)
      seen-on before after goes (inr marked) = inr marked

      begins-seen : (promised : List SignedPromise) (given : Option BoundKey) (before after : Scene T) → Own before → BeginsWatch hash accepted verified exchanged background.known background.marks background.key promised name given before after → IsSeen after
      begins-seen promised given before after is-own (again, tells, inl (none, (epoch, marked, same))) = inr (marked-so name epoch background.marks marked)
      begins-seen promised given before after is-own (again, tells, inr (first, is, (middle, inl (monitor, joined, (count, steps)), tests))) =
          let now : Scene T = record before { told = told_after before.told again; monitors = before.monitors ++ monitor ∷ [] } in
          let more = all-more hash accepted verified promised _ monitor joined.hands in
          let here : HasMonitor now.monitors name = (monitor, Contains-push before.monitors monitor, more.name) in
          let through = through-keeps hash accepted verified exchanged background.marks each count now (length before.monitors) middle steps in
          let all = tests_named-keeps hash accepted verified exchanged background.marks each name middle after tests in
          inl (all (through here))
      begins-seen promised given before after is-own (again, tells, inr (first, is, (middle, inr (why, not, starts, same), tests))) =
          absurd (starts-not hash verified before.client.chain is-own.is is-own.formed background.key first why is-own.keyed (unwatched-there before.client.chain name background.marks first is) starts not)

      watch-seen : (given : Option BoundKey) (before after : Scene T) → Own before → DoesLine hash accepted verified exchanged background (Watch name given) before after → IsSeen after
      watch-seen given before after is-own (noted, begins) = begins-seen _ given before after is-own begins

      lines-seen : (lines : List (List ℕ)) (before after : Scene T) (old new : Option (List ℕ)) → Own before → AsksLines hash accepted verified exchanged background lines before old new after
          → (line : List ℕ) → Contains lines line → (given : Option BoundKey) → line_of line ≡ Some (Watch name given) → IsSeen after
      lines-seen [] before after old new is-own asks line has given is = absurd (omega (arith, has.1))
      lines-seen (first ∷ lines) before after old new is-own (middle, now, (done, (said, seen, does), appends, same), rest) line has given is = elim (cons-cases first line lines has) [
        | inl one ↦
            let this : said ≡ Watch name given = some-same said (Watch name given) (sym seen ∙ ap line_of one ∙ is) in
            let here = watch-seen given before done is-own (subst (λ (s : ScriptLine). DoesLine hash accepted verified exchanged background s before done) this does) in
            seen-on done after (subst (λ (s : Scene T). Named s after) same (lines-go lines middle after now new rest)) here
        | inr later ↦ lines-seen lines middle after now new (subst Own (sym same) ((does-goes said before done does).1 is-own)) rest line later given is
      ]

  pub asked-seen : (key token : List ℕ) (options : AskOptions) (HasNoState : Type 0) (stream stream' : T) (input : Option (List ℕ)) (status : ℕ) (old new : Option (List ℕ)) (lines : List (List ℕ)) → lines_asked options.words input ≡ Some lines
      → (run : RunsWhole hash accepted verified exchanged key token options HasNoState stream stream' input status old new) → (name : List ℕ) (given : Option BoundKey) → IsAsked (Some lines) name given
      → HasMonitor run.last.monitors name ⊎ IsMarked run.background.marks name
  asked-seen key token options HasNoState stream stream' input status old new lines asked run name given (line, has, is) =
      let asks = subst (λ (found : Option (List (List ℕ))). IfSome found (λ ls. AsksLines hash accepted verified exchanged run.background ls run.ready run.now new run.last)) asked run.asks in
      let (done, prepares, appends, same) = run.prepares in
      let begun = subst (λ (k : List ℕ). IsOwn k run.start) (sym run.begun.knows.0) (begins-own key HasNoState token stream run.start.stream run.background run.start.client run.begun.begins) in
      let ready = prepares-keeps hash accepted verified exchanged run.background (each-own run.background.key run.background.marks) HasNoState run.start done prepares begun in
      lines-seen name run.background lines run.ready run.last run.now new (subst (IsOwn run.background.key) (sym same) ready) asks line has given is
