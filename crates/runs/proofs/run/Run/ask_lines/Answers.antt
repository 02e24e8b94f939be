use Rattle.std.proofs.Common.{◌≡◌, ◌∙◌, Err, arith, refl, rules, subst}
use Rattle.asking.specs.Exchanges.{ExchangesFrames}
use Rattle.runs.specs.Runs.{AsksLine, Background, background_of, Writes}
use Rattle.asking.specs.Reports.{report_of}
use Rattle.asking.specs.Scenes.{scene}
use Rattle.runs.proofs.Ended.{leaves_same, leaves_with, line_known, part_here, part_line}
use Rattle.runs.proofs.Faulty.{asked_can, counts_first, counts_next, grows_not, grows_on, line_fault}
use Rattle.runs.proofs.Ran.{leads_first, leads_next, leads_out}
use Rattle.runs.proofs.Rising.{rises_on}
use Rattle.std.proofs.Common.{◌++◌, ℕ, List, ap}
use Rattle.std.specs.Prelude.{option_map}
use Rattle.textio.specs.Lines.{lines_of}
use Rattle.runs.specs.Saves.{Act}
use Rattle.runs.specs.Standing.{standing, StateIsKept}
use Rattle.runs.proofs.Late.{limit_trans}
use Rattle.runs.proofs.Ran.{leads_among}
use Rattle.runs.proofs.MarkedRuns.{marks-same, marks-then}
use Rattle.runs.proofs.RunSteps.{ok_have}
use Rattle.runs.proofs.Written.{state-kept}
use Rattle.textio.specs.declared.program_fault.ProgramFault.TheVariants.{CannotWrite}
use Rattle.runs.specs.declared.run_fault.RunFault.TheVariants.{Program}
use Rattle.runs.proofs.run.Run.ask_lines.Goals as goal

pub returns-then-not-branch-clause-asks : goal.returns-then-not-branch-clause-asks
returns-then-not-branch-clause-asks g c =
    leads_out g.H.NodeHash.digest_of g.V.VufCheck.accepted g.S.Verifier.verified (ExchangesFrames g.T.Write.contents g.T.Read.remaining) (background_of c.args.asker.now)
    (scene c.args.asker.now c.args.self.now.said c.args.stream.now) (scene c.loop-number.asker c.loop-number.self.said c.loop-number.stream)
    (g.R.Read.remaining c.args.reader.now) (g.W.Write.contents c.args.writer.now) (g.R.Read.remaining c.loop-number.reader) (g.R.Read.remaining c.next_line.new.reader) (g.W.Write.contents c.loop-number.writer)
    c.next_line.new.line.items c.loop-number.invariant.asks (rw c.if-not-branch.true at c.in_ok-next_line.ensures.ok)

pub loop-number-preserved : goal.loop-number-preserved
loop-number-preserved g c =
    let takes = rw (c.if-not-branch.false, ← c.deref.ensures.value) at c.in_ok-next_line.ensures.ok in
    let here = scene c.loop-number.asker c.loop-number.self.said c.loop-number.stream in
    let next = scene c.ask_line.new.asker c.ask_line.new.self.said c.ask_line.new.stream in
    let writes = subst (λ (background : Background). Writes (AsksLine g.H.NodeHash.digest_of g.V.VufCheck.accepted g.S.Verifier.verified (ExchangesFrames g.T.Write.contents g.T.Read.remaining) background c.deref.result.now)
    here (g.W.Write.contents c.loop-number.writer) (g.W.Write.contents c.ask_line.new.writer) next) c.loop-number.invariant.same c.in_ok-ask_line.ensures.asks in
    record {
      asks = leads_next g.H.NodeHash.digest_of g.V.VufCheck.accepted g.S.Verifier.verified (ExchangesFrames g.T.Write.contents g.T.Read.remaining) (background_of c.args.asker.now)
          (scene c.args.asker.now c.args.self.now.said c.args.stream.now) here next
          (g.R.Read.remaining c.args.reader.now) (g.W.Write.contents c.args.writer.now) (g.R.Read.remaining c.loop-number.reader) (g.R.Read.remaining c.next_line.new.reader)
          (g.W.Write.contents c.loop-number.writer) (g.W.Write.contents c.ask_line.new.writer) c.deref.result.now c.loop-number.invariant.asks takes writes;
      same = c.in_ok-ask_line.ensures.stays ∙ c.loop-number.invariant.same;
      counts = counts_next (g.R.Read.remaining c.args.reader.now) (g.R.Read.remaining c.loop-number.reader) (g.R.Read.remaining c.next_line.new.reader) c.loop-number.number c.deref.result.now c.loop-number.invariant.counts takes
          (asked_can g.H.NodeHash.digest_of g.V.VufCheck.accepted g.S.Verifier.verified (ExchangesFrames g.T.Write.contents g.T.Read.remaining) (background_of c.args.asker.now) here next (g.W.Write.contents c.loop-number.writer) (g.W.Write.contents c.ask_line.new.writer) c.deref.result.now writes);
      grows = grows_on (g.W.Write.contents c.args.writer.now) (g.W.Write.contents c.loop-number.writer) (g.W.Write.contents c.ask_line.new.writer) c.loop-number.invariant.grows c.in_ok-ask_line.ensures.grows;
      stands = λ start old acts stands.
          let among = leads_among g.H.NodeHash.digest_of g.V.VufCheck.accepted g.S.Verifier.verified (ExchangesFrames g.T.Write.contents g.T.Read.remaining) (background_of c.args.asker.now) (scene c.args.asker.now c.args.self.now.said c.args.stream.now) here
          (g.R.Read.remaining c.args.reader.now) (g.W.Write.contents c.args.writer.now) (g.R.Read.remaining c.loop-number.reader) (g.R.Read.remaining c.next_line.new.reader) (g.W.Write.contents c.loop-number.writer) c.deref.result.now c.loop-number.invariant.asks takes in
          ok_have c.ask_line.result (c.in_ok-ask_line.was) (c.ask_line.ensures.stands (option_map lines_of (g.R.Read.remaining c.args.reader.now)) start old acts among (c.loop-number.invariant.stands start old acts stands)).1;
      marks = λ start old acts stands.
          let among = leads_among g.H.NodeHash.digest_of g.V.VufCheck.accepted g.S.Verifier.verified (ExchangesFrames g.T.Write.contents g.T.Read.remaining) (background_of c.args.asker.now) (scene c.args.asker.now c.args.self.now.said c.args.stream.now) here
          (g.R.Read.remaining c.args.reader.now) (g.W.Write.contents c.args.writer.now) (g.R.Read.remaining c.loop-number.reader) (g.R.Read.remaining c.next_line.new.reader) (g.W.Write.contents c.loop-number.writer) c.deref.result.now c.loop-number.invariant.asks takes in
          marks-then c.args.self.now.state c.loop-number.self.state c.ask_line.new.self.state c.args.asker.now.monitors.items c.loop-number.asker.monitors.items c.ask_line.new.asker.monitors.items (c.loop-number.invariant.marks start old acts stands)
          (c.in_ok-ask_line.ensures.marks (option_map lines_of (g.R.Read.remaining c.args.reader.now)) start old acts among (c.loop-number.invariant.stands start old acts stands)).1;
      rises = rises_on c.args.self.now.said.status c.loop-number.self.said.status c.ask_line.new.self.said.status c.loop-number.invariant.rises c.in_ok-ask_line.ensures.rises;
      limit = limit_trans c.args.self.now.limit c.loop-number.self.limit c.ask_line.new.self.limit c.loop-number.invariant.limit c.ask_line.ensures.limit;
    }

pub loop-number-init : goal.loop-number-init
loop-number-init g c = record {
  asks = leads_first g.H.NodeHash.digest_of g.V.VufCheck.accepted g.S.Verifier.verified (ExchangesFrames g.T.Write.contents g.T.Read.remaining) (background_of c.args.asker.now)
      (scene c.args.asker.now c.args.self.now.said c.args.stream.now) (g.R.Read.remaining c.args.reader.now) (g.W.Write.contents c.args.writer.now);
  same = refl;
  counts = counts_first (g.R.Read.remaining c.args.reader.now);
  grows = grows_not (g.W.Write.contents c.args.writer.now);
  rises = omega arith;
  limit = (refl, refl);
  stands = λ start old acts stands. stands;
  marks = λ start old acts stands. marks-same c.args.self.now.state c.args.asker.now.monitors.items;
}

pub returns-in_err-ask_line-clause-faults : goal.returns-in_err-ask_line-clause-faults
returns-in_err-ask_line-clause-faults g c =
    let takes = rw (c.if-not-branch.false, ← c.deref.ensures.value) at c.in_ok-next_line.ensures.ok in
    let passed : c.from_residual-in_err-ask_line.result ≡ Err c.in_err-ask_line.field-0.0 = search rules in
    rw passed (line_fault (g.R.Read.remaining c.args.reader.now) (g.R.Read.remaining c.loop-number.reader) (g.R.Read.remaining c.next_line.new.reader) c.loop-number.number c.deref.result.now c.in_err-ask_line.field-0.0
    c.loop-number.invariant.counts takes c.in_err-ask_line.ensures.faults)

pub returns-in_err-ask_line-clause-grows : goal.returns-in_err-ask_line-clause-grows
returns-in_err-ask_line-clause-grows g c =
    grows_on (g.W.Write.contents c.args.writer.now) (g.W.Write.contents c.loop-number.writer) (g.W.Write.contents c.ask_line.new.writer) c.loop-number.invariant.grows c.ask_line.ensures.grows

pub returns-in_err-next_line-clause-part : goal.returns-in_err-next_line-clause-part
returns-in_err-next_line-clause-part g c =
    part_here g.H.NodeHash.digest_of g.V.VufCheck.accepted g.S.Verifier.verified (ExchangesFrames g.T.Write.contents g.T.Read.remaining) (background_of c.args.asker.now) _ (scene c.args.asker.now c.args.self.now.said c.args.stream.now) (scene c.loop-number.asker c.loop-number.self.said c.loop-number.stream) (g.R.Read.remaining c.args.reader.now) (g.W.Write.contents c.args.writer.now) (g.R.Read.remaining c.loop-number.reader) (g.W.Write.contents c.loop-number.writer) (g.W.Write.contents c.loop-number.writer) c.loop-number.self.said c.loop-number.invariant.asks
    (leaves_same _ (g.W.Write.contents c.loop-number.writer) c.loop-number.self.said (report_of c.loop-number.self.said) refl)

pub returns-clause-part : goal.returns-clause-part
returns-clause-part g c =
    part_here g.H.NodeHash.digest_of g.V.VufCheck.accepted g.S.Verifier.verified (ExchangesFrames g.T.Write.contents g.T.Read.remaining) (background_of c.args.asker.now) _ (scene c.args.asker.now c.args.self.now.said c.args.stream.now) (scene c.loop-number.asker c.loop-number.self.said c.loop-number.stream) (g.R.Read.remaining c.args.reader.now) (g.W.Write.contents c.args.writer.now) (g.R.Read.remaining c.loop-number.reader) (g.W.Write.contents c.loop-number.writer) (g.W.Write.contents c.loop-number.writer) c.loop-number.self.said c.loop-number.invariant.asks
    (leaves_same _ (g.W.Write.contents c.loop-number.writer) c.loop-number.self.said (report_of c.loop-number.self.said) refl)

pub returns-then-not-branch-clause-part : goal.returns-then-not-branch-clause-part
returns-then-not-branch-clause-part g c =
    part_here g.H.NodeHash.digest_of g.V.VufCheck.accepted g.S.Verifier.verified (ExchangesFrames g.T.Write.contents g.T.Read.remaining) (background_of c.args.asker.now) _ (scene c.args.asker.now c.args.self.now.said c.args.stream.now) (scene c.loop-number.asker c.loop-number.self.said c.loop-number.stream) (g.R.Read.remaining c.args.reader.now) (g.W.Write.contents c.args.writer.now) (g.R.Read.remaining c.loop-number.reader) (g.W.Write.contents c.loop-number.writer) (g.W.Write.contents c.loop-number.writer) c.loop-number.self.said c.loop-number.invariant.asks
    (leaves_same _ (g.W.Write.contents c.loop-number.writer) c.loop-number.self.said (report_of c.loop-number.self.said) refl)

pub returns-in_err-ask_line-clause-part : goal.returns-in_err-ask_line-clause-part
returns-in_err-ask_line-clause-part g c =
    let takes = rw (c.if-not-branch.false, ← c.deref.ensures.value) at c.in_ok-next_line.ensures.ok in
    let part = line_known g.H.NodeHash.digest_of g.V.VufCheck.accepted g.S.Verifier.verified (ExchangesFrames g.T.Write.contents g.T.Read.remaining) _ (background_of c.args.asker.now) (background_of c.loop-number.asker) c.deref.result.now (scene c.loop-number.asker c.loop-number.self.said c.loop-number.stream) (g.W.Write.contents c.loop-number.writer) (g.W.Write.contents c.ask_line.new.writer) c.ask_line.new.self.said
    c.loop-number.invariant.same c.in_err-ask_line.ensures.part in
    let passed : c.from_residual-in_err-ask_line.result ≡ Err c.in_err-ask_line.field-0.0 = search rules in
    let leaves = leaves_with _ (c.from_residual-in_err-ask_line.result ≡ Err (Program CannotWrite)) (g.W.Write.contents c.ask_line.new.writer) c.ask_line.new.self.said part.0.told (g.W.Write.contents c.loop-number.writer) (λ failed. passed ∙ failed) part.2 in
    part_line g.H.NodeHash.digest_of g.V.VufCheck.accepted g.S.Verifier.verified (ExchangesFrames g.T.Write.contents g.T.Read.remaining) (background_of c.args.asker.now) (c.from_residual-in_err-ask_line.result ≡ Err (Program CannotWrite)) (scene c.args.asker.now c.args.self.now.said c.args.stream.now) (scene c.loop-number.asker c.loop-number.self.said c.loop-number.stream) (g.R.Read.remaining c.args.reader.now) (g.W.Write.contents c.args.writer.now) (g.R.Read.remaining c.loop-number.reader) (g.R.Read.remaining c.next_line.new.reader) (g.W.Write.contents c.loop-number.writer) (g.W.Write.contents c.ask_line.new.writer) c.deref.result.now c.ask_line.new.self.said
    c.loop-number.invariant.asks takes (part.0, part.1, leaves)

pub returns-in_err-next_line-clause-stands : goal.returns-in_err-next_line-clause-stands
returns-in_err-next_line-clause-stands g c = λ start old acts stands.
    let key = ap (λ (b : Background). b.key) c.loop-number.invariant.same in
    let lines = option_map lines_of (g.R.Read.remaining c.args.reader.now) in
    subst (λ (k : List ℕ). StateIsKept g.H.NodeHash.digest_of g.V.VufCheck.accepted g.S.Verifier.verified lines k start old (λ (done : List Act). g.K.Keeper.has c.loop-number.keeper (done ++ acts)) c.loop-number.self.state (g.W.Write.contents c.loop-number.writer)) key (state-kept g.H.NodeHash.digest_of g.V.VufCheck.accepted g.S.Verifier.verified (option_map lines_of (g.R.Read.remaining c.args.reader.now)) c.loop-number.asker.key start old (λ (done : List Act). g.K.Keeper.has c.loop-number.keeper (done ++ acts)) c.loop-number.self.state (g.W.Write.contents c.loop-number.writer)
    c.loop-number.asker.changes.items (standing c.loop-number.asker.client c.loop-number.asker.monitors.items c.loop-number.self.said.text.items) (c.loop-number.invariant.stands start old acts stands).0)

pub returns-then-not-branch-clause-stands : goal.returns-then-not-branch-clause-stands
returns-then-not-branch-clause-stands g c = λ start old acts stands.
    let key = ap (λ (b : Background). b.key) c.loop-number.invariant.same in
    let lines = option_map lines_of (g.R.Read.remaining c.args.reader.now) in
    subst (λ (k : List ℕ). StateIsKept g.H.NodeHash.digest_of g.V.VufCheck.accepted g.S.Verifier.verified lines k start old (λ (done : List Act). g.K.Keeper.has c.loop-number.keeper (done ++ acts)) c.loop-number.self.state (g.W.Write.contents c.loop-number.writer)) key (state-kept g.H.NodeHash.digest_of g.V.VufCheck.accepted g.S.Verifier.verified (option_map lines_of (g.R.Read.remaining c.args.reader.now)) c.loop-number.asker.key start old (λ (done : List Act). g.K.Keeper.has c.loop-number.keeper (done ++ acts)) c.loop-number.self.state (g.W.Write.contents c.loop-number.writer)
    c.loop-number.asker.changes.items (standing c.loop-number.asker.client c.loop-number.asker.monitors.items c.loop-number.self.said.text.items) (c.loop-number.invariant.stands start old acts stands).0)

pub returns-clause-stands : goal.returns-clause-stands
returns-clause-stands g c = λ start old acts stands.
    let key = ap (λ (b : Background). b.key) c.loop-number.invariant.same in
    let lines = option_map lines_of (g.R.Read.remaining c.args.reader.now) in
    subst (λ (k : List ℕ). StateIsKept g.H.NodeHash.digest_of g.V.VufCheck.accepted g.S.Verifier.verified lines k start old (λ (done : List Act). g.K.Keeper.has c.loop-number.keeper (done ++ acts)) c.loop-number.self.state (g.W.Write.contents c.loop-number.writer)) key (state-kept g.H.NodeHash.digest_of g.V.VufCheck.accepted g.S.Verifier.verified (option_map lines_of (g.R.Read.remaining c.args.reader.now)) c.loop-number.asker.key start old (λ (done : List Act). g.K.Keeper.has c.loop-number.keeper (done ++ acts)) c.loop-number.self.state (g.W.Write.contents c.loop-number.writer)
    c.loop-number.asker.changes.items (standing c.loop-number.asker.client c.loop-number.asker.monitors.items c.loop-number.self.said.text.items) (c.loop-number.invariant.stands start old acts stands).0)

pub returns-in_err-ask_line-clause-stands : goal.returns-in_err-ask_line-clause-stands
returns-in_err-ask_line-clause-stands g c = λ start old acts stands.
    let key = ap (λ (b : Background). b.key) c.loop-number.invariant.same in
    let lines = option_map lines_of (g.R.Read.remaining c.args.reader.now) in
    let takes = rw (c.if-not-branch.false, ← c.deref.ensures.value) at c.in_ok-next_line.ensures.ok in
    let among = leads_among g.H.NodeHash.digest_of g.V.VufCheck.accepted g.S.Verifier.verified (ExchangesFrames g.T.Write.contents g.T.Read.remaining) (background_of c.args.asker.now) (scene c.args.asker.now c.args.self.now.said c.args.stream.now) (scene c.loop-number.asker c.loop-number.self.said c.loop-number.stream)
    (g.R.Read.remaining c.args.reader.now) (g.W.Write.contents c.args.writer.now) (g.R.Read.remaining c.loop-number.reader) (g.R.Read.remaining c.next_line.new.reader) (g.W.Write.contents c.loop-number.writer) c.deref.result.now c.loop-number.invariant.asks takes in
    subst (λ (k : List ℕ). StateIsKept g.H.NodeHash.digest_of g.V.VufCheck.accepted g.S.Verifier.verified lines k start old (λ (done : List Act). g.K.Keeper.has c.ask_line.new.keeper (done ++ acts)) c.ask_line.new.self.state (g.W.Write.contents c.ask_line.new.writer)) key
    (c.ask_line.ensures.stands lines start old acts among (c.loop-number.invariant.stands start old acts stands)).0

pub returns-then-not-branch-clause-marks : goal.returns-then-not-branch-clause-marks
returns-then-not-branch-clause-marks g c = λ start old acts stands.
    (c.loop-number.invariant.stands start old acts stands, ap (λ (b : Background). b.key) c.loop-number.invariant.same, c.loop-number.invariant.marks start old acts stands)

pub returns-in_err-ask_line-clause-limit : goal.returns-in_err-ask_line-clause-limit
returns-in_err-ask_line-clause-limit g c = limit_trans c.args.self.now.limit c.loop-number.self.limit c.ask_line.new.self.limit c.loop-number.invariant.limit c.ask_line.ensures.limit
