use Rattle.std.proofs.Common.{◌≡◌, ◌≢◌, ◌∙◌, ◌++◌, Bool, false, true, List, Result, Ok, Err, ap, arith, inl, refl, rules, subst, sym}
use Rattle.textio.specs.declared.program_fault.ProgramFault.TheVariants.{CannotWrite}
use Rattle.std.specs.Prelude.{IfOk}
use Rattle.asking.specs.Catching.{Advances}
use Rattle.asking.specs.declared.ask_fault.AskFault.{AskFault}
use Rattle.runs.specs.Ending.{AdvancesPart}
use Rattle.asking.specs.Exchanges.{ExchangesFrames}
use Rattle.asking.specs.Reports.{report_of}
use Rattle.runs.specs.Runs.{background_of, emptied, Background}
use Rattle.runs.specs.Saves.{Act}
use Rattle.asking.specs.Scenes.{scene}
use Rattle.runs.specs.Standing.{standing, StateStands}
use Rattle.asking.specs.declared.ask_fault.AskFault.TheVariants.{OutOfMemory as NoMemory, Stopped}
use Rattle.runs.specs.declared.run_fault.RunFault.TheVariants.{Ask, Program}
use Rattle.runs.proofs.Ended.{advanced_reaches, err_passed, err_so, leaves_with, reaches_whole}
use Rattle.asking.proofs.Joined.{scene_of}
use Rattle.asking.proofs.Outcomes.{ok_then}
use Rattle.runs.proofs.Rising.{advance_rises, rises_on}
use Rattle.runs.proofs.Keeping.{was_asked}
use Rattle.runs.proofs.RunParts.{advanced_noted}
use Rattle.runs.proofs.RunSteps.{advanced-marks, advanced-ready, advanced-stands, advanced-step, answered_enough, has_stopped, here-stands, keeps-none, ok_have, prepared-asked, same_background, settled-run, told-so, waiting-marks, waiting-step, went_on}
use Rattle.runs.proofs.Standing.{advanced_stands}
use Rattle.runs.proofs.Written.{state-kept, state-saved}
use Rattle.runs.proofs.run.Run.advance.Goals as goal

pub returns-clause-advances : goal.returns-clause-advances
returns-clause-advances g c =
    let goes : c.advance-advanced.result ≢ Ok false = search rules in
    let after = c.advance-advanced.new.self in
    let went = went_on (λ (goes : Bool). Advances g.H.NodeHash.digest_of g.V.VufCheck.accepted g.S.Verifier.verified (ExchangesFrames g.T.Write.contents g.T.Read.remaining) c.args.epoch
    (scene c.args.asker.now c.args.self.now.said c.args.stream.now) goes (scene after c.advance-advanced.new.said c.advance-advanced.new.stream))
    c.advance-advanced.result c.answered.result c.answered.ensures.err c.in_ok-settle.ensures.asked goes c.advance-advanced.ensures.advances in (
      scene after c.advance-advanced.new.said c.advance-advanced.new.stream,
      went,
      c.in_ok-settle.ensures.writes.0,
      scene_of after.client after.client after.monitors.items after.monitors.items after.finals after.finals (report_of c.settle.new.self.said) (emptied c.advance-advanced.new.said.status) c.advance-advanced.new.stream refl refl refl c.in_ok-settle.ensures.writes.1,
    )

pub returns-clause-keeps : goal.returns-clause-keeps
returns-clause-keeps g c = λ all. (c.advance-advanced.new.said.text.items, c.in_ok-settle.ensures.writes.0, c.in_ok-settle.ensures.keeps tt)

pub returns-in_err-settle-clause-part : goal.returns-in_err-settle-clause-part
returns-in_err-settle-clause-part g c =
    let goes : c.advance-advanced.result ≢ Ok false = search rules in
    let passed : c.from_residual.result ≡ Err c.in_err-settle.field-0.0 = search rules in
    let was : c.settle.result ≡ Err c.in_err-settle.field-0.0 = search rules in
    let reaches = advanced_reaches g.H.NodeHash.digest_of g.V.VufCheck.accepted g.S.Verifier.verified (ExchangesFrames g.T.Write.contents g.T.Read.remaining) (background_of c.args.asker.now) c.args.epoch c.advance-advanced.result
    (scene c.args.asker.now c.args.self.now.said c.args.stream.now) (scene c.advance-advanced.new.self c.advance-advanced.new.said c.advance-advanced.new.stream) c.advance-advanced.new.self c.advance-advanced.new.said refl goes
    c.advance-advanced.ensures.advances c.advance-advanced.ensures.stops c.advance-advanced.ensures.halts in
    err_so _ (reaches_whole (c.from_residual.result ≡ Err (Program CannotWrite)) (AdvancesPart g.H.NodeHash.digest_of g.V.VufCheck.accepted g.S.Verifier.verified (ExchangesFrames g.T.Write.contents g.T.Read.remaining) c.args.epoch (scene c.args.asker.now c.args.self.now.said c.args.stream.now))
    (report_of c.advance-advanced.new.said) (g.W.Write.contents c.args.writer.now) (g.W.Write.contents c.settle.new.writer) c.settle.new.self.said reaches
    (leaves_with (c.settle.result ≡ Err (Program CannotWrite)) (c.from_residual.result ≡ Err (Program CannotWrite)) (g.W.Write.contents c.settle.new.writer) c.settle.new.self.said (report_of c.advance-advanced.new.said) (g.W.Write.contents c.args.writer.now)
    (err_passed c.settle.result c.from_residual.result c.in_err-settle.field-0.0 (Program CannotWrite) was passed) c.settle.ensures.leaves))

pub returns-in_err-settle-clause-stops : goal.returns-in_err-settle-clause-stops
returns-in_err-settle-clause-stops g c = λ stopped.
    let passed : c.from_residual.result ≡ Err c.in_err-settle.field-0.0 = search rules in
    let was : c.settle.result ≡ Err c.in_err-settle.field-0.0 = search rules in
    let same : c.settle.result ≡ Err (Ask Stopped) = err_passed c.from_residual.result c.settle.result c.in_err-settle.field-0.0 (Ask Stopped) passed was stopped in
    let advanced = has_stopped c.advance-advanced.result c.answered.result c.answered.ensures.ok c.answered.ensures.err (c.settle.ensures.gives Stopped same) in
    let (low, stops) = c.advance-advanced.ensures.stops advanced in (
      scene c.advance-advanced.new.self c.advance-advanced.new.said c.advance-advanced.new.stream,
      low,
      stops,
      leaves_with (c.settle.result ≡ Err (Program CannotWrite)) ⊥ (g.W.Write.contents c.settle.new.writer) c.settle.new.self.said (report_of c.advance-advanced.new.said) (g.W.Write.contents c.args.writer.now) (λ failed. search (rules, sym same ∙ failed)) c.settle.ensures.leaves,
    )

pub returns-then-eq-clause-stands : goal.returns-then-eq-clause-stands
returns-then-eq-clause-stands g c = λ lines start old acts stands.
    let before = c.args.asker.now in
    let after = c.advance-advanced.new.self in
    let said = c.args.self.now.said in
    let said' = c.advance-advanced.new.said in
    let out = g.W.Write.contents c.args.writer.now in
    let happened : List Act → Type 0 = λ done. g.K.Keeper.has c.args.keeper.now (done ++ acts) in
    let state = c.args.self.now.state in
    let stays = same_background before after c.advance-advanced.ensures.stays.0 c.advance-advanced.ensures.stays.1 c.advance-advanced.ensures.stays.2 c.advance-advanced.ensures.stays.3 c.advance-advanced.ensures.stays.5 in
    let changes = c.advance-advanced.ensures.stays.4 in
    let reached = scene after said' c.advance-advanced.new.stream in
    let went : c.advance-advanced.result ≡ Ok false = search rules in
    let advances = subst (λ (r : Result Bool AskFault). IfOk r (λ goes. Advances g.H.NodeHash.digest_of g.V.VufCheck.accepted g.S.Verifier.verified (ExchangesFrames g.T.Write.contents g.T.Read.remaining) c.args.epoch (scene before said c.args.stream.now) goes reached)) went c.advance-advanced.ensures.advances in (
      state-kept g.H.NodeHash.digest_of g.V.VufCheck.accepted g.S.Verifier.verified lines before.key start old happened state out before.changes.items (standing before.client before.monitors.items said.text.items) stands.0,
      here-stands g.H.NodeHash.digest_of g.V.VufCheck.accepted g.S.Verifier.verified (ExchangesFrames g.T.Write.contents g.T.Read.remaining) lines start old happened before after said c.args.stream.now out reached said' refl refl refl state out stays stands.1
          (advanced-ready g.H.NodeHash.digest_of g.V.VufCheck.accepted g.S.Verifier.verified (ExchangesFrames g.T.Write.contents g.T.Read.remaining) lines start old happened before after said c.args.stream.now out reached said' refl refl refl c.args.epoch (inl (false, advances)) stays changes stands.2)
          (waiting-step g.H.NodeHash.digest_of g.V.VufCheck.accepted g.S.Verifier.verified (ExchangesFrames g.T.Write.contents g.T.Read.remaining) lines start old happened before after said c.args.stream.now out reached said' refl refl refl c.args.epoch false state stays changes advances stands)
          (advanced-stands g.H.NodeHash.digest_of g.V.VufCheck.accepted g.S.Verifier.verified (ExchangesFrames g.T.Write.contents g.T.Read.remaining) lines start old happened before after said c.args.stream.now out reached said' refl refl refl c.args.epoch state changes (inl (false, advances)) stands),
    )

pub returns-clause-stands : goal.returns-clause-stands
returns-clause-stands g c = λ lines start old acts stands.
    let before = c.args.asker.now in
    let after = c.advance-advanced.new.self in
    let said = c.args.self.now.said in
    let said' = c.advance-advanced.new.said in
    let out = g.W.Write.contents c.args.writer.now in
    let happened : List Act → Type 0 = λ done. g.K.Keeper.has c.args.keeper.now (done ++ acts) in
    let happened' : List Act → Type 0 = λ done. g.K.Keeper.has c.settle.new.keeper (done ++ acts) in
    let state = c.args.self.now.state in
    let stays = same_background before after c.advance-advanced.ensures.stays.0 c.advance-advanced.ensures.stays.1 c.advance-advanced.ensures.stays.2 c.advance-advanced.ensures.stays.3 c.advance-advanced.ensures.stays.5 in
    let changes = c.advance-advanced.ensures.stays.4 in
    let goes : c.advance-advanced.result ≢ Ok false = search rules in
    let asked = prepared-asked g.H.NodeHash.digest_of g.V.VufCheck.accepted g.S.Verifier.verified lines start old happened before after said.text.items state out changes stands in
    let kept = state-saved g.H.NodeHash.digest_of g.V.VufCheck.accepted g.S.Verifier.verified lines before.key start old happened state out before.changes.items (standing before.client before.monitors.items said.text.items) stands.0 in
    let stood = advanced_stands g.H.NodeHash.digest_of g.V.VufCheck.accepted g.S.Verifier.verified (ExchangesFrames g.T.Write.contents g.T.Read.remaining) (background_of before) c.args.epoch c.advance-advanced.result (scene before said c.args.stream.now)
    after said' c.advance-advanced.new.stream c.advance-advanced.ensures.advances c.advance-advanced.ensures.stops c.advance-advanced.ensures.halts in
    let enough : c.answered.result ≢ Err NoMemory → StateStands g.H.NodeHash.digest_of g.V.VufCheck.accepted g.S.Verifier.verified lines before.key start old happened state out after.changes.items (standing after.client after.monitors.items said'.text.items) = λ some.
    let (reached, advances, told, client, monitors) = stood (answered_enough c.advance-advanced.result c.answered.result c.answered.ensures.err some) in
    advanced-stands g.H.NodeHash.digest_of g.V.VufCheck.accepted g.S.Verifier.verified (ExchangesFrames g.T.Write.contents g.T.Read.remaining) lines start old happened before after said c.args.stream.now out reached said' told client monitors c.args.epoch state changes advances stands in
    let went = went_on (λ (goes : Bool). Advances g.H.NodeHash.digest_of g.V.VufCheck.accepted g.S.Verifier.verified (ExchangesFrames g.T.Write.contents g.T.Read.remaining) c.args.epoch
    (scene before said c.args.stream.now) goes (scene after said' c.advance-advanced.new.stream))
    c.advance-advanced.result c.answered.result c.answered.ensures.err c.in_ok-settle.ensures.asked goes c.advance-advanced.ensures.advances in
    let step = advanced-step g.H.NodeHash.digest_of g.V.VufCheck.accepted g.S.Verifier.verified (ExchangesFrames g.T.Write.contents g.T.Read.remaining) lines start old happened before after said c.args.stream.now out (scene after said' c.advance-advanced.new.stream) said' refl refl refl c.args.epoch true state c.settle.new.self.state said'.text.items
    stays went stands (c.in_ok-settle.ensures.keeps tt) in (
      c.settle.ensures.kept lines before.key start old acts asked kept enough,
      ok_have c.settle.result c.in_ok-settle.was (settled-run g.H.NodeHash.digest_of g.V.VufCheck.accepted g.S.Verifier.verified lines start old happened' before.key after (ap (λ (b : Background). b.key) stays) c.settle.new.self.said said'.status c.settle.result c.answered.result
          c.settle.new.self.state (g.W.Write.contents c.settle.new.writer) c.settle.ensures.asked (told-so c.settle.result out (g.W.Write.contents c.settle.new.writer) said'.text.items c.settle.new.self.said said'.status c.settle.ensures.writes) (stands.1 ∙ sym (ap (λ (b : Background). b.marks) stays))
          (λ some. let (reached, advances, told, client, monitors) = stood (answered_enough c.advance-advanced.result c.answered.result c.answered.ensures.err some) in
          advanced-ready g.H.NodeHash.digest_of g.V.VufCheck.accepted g.S.Verifier.verified (ExchangesFrames g.T.Write.contents g.T.Read.remaining) lines start old happened before after said c.args.stream.now out reached said' told client monitors c.args.epoch advances stays changes stands.2)
          (ok_then c.settle.result c.settle.ensures.asked (λ is. step))
          (ok_then c.settle.result c.settle.ensures.stands (λ goes some. goes lines before.key start old acts asked (enough some)))),
    )

pub returns-in_err-settle-clause-stands : goal.returns-in_err-settle-clause-stands
returns-in_err-settle-clause-stands g c = λ lines start old acts stands.
    let before = c.args.asker.now in
    let after = c.advance-advanced.new.self in
    let said = c.args.self.now.said in
    let said' = c.advance-advanced.new.said in
    let out = g.W.Write.contents c.args.writer.now in
    let happened : List Act → Type 0 = λ done. g.K.Keeper.has c.args.keeper.now (done ++ acts) in
    let state = c.args.self.now.state in
    let changes = c.advance-advanced.ensures.stays.4 in
    let asked = prepared-asked g.H.NodeHash.digest_of g.V.VufCheck.accepted g.S.Verifier.verified lines start old happened before after said.text.items state out changes stands in
    let kept = state-saved g.H.NodeHash.digest_of g.V.VufCheck.accepted g.S.Verifier.verified lines before.key start old happened state out before.changes.items (standing before.client before.monitors.items said.text.items) stands.0 in
    let enough : c.answered.result ≢ Err NoMemory → StateStands g.H.NodeHash.digest_of g.V.VufCheck.accepted g.S.Verifier.verified lines before.key start old happened state out after.changes.items (standing after.client after.monitors.items said'.text.items) = λ some.
    let (reached, advances, told, client, monitors) = advanced_stands g.H.NodeHash.digest_of g.V.VufCheck.accepted g.S.Verifier.verified (ExchangesFrames g.T.Write.contents g.T.Read.remaining) (background_of before) c.args.epoch c.advance-advanced.result (scene before said c.args.stream.now)
    after said' c.advance-advanced.new.stream c.advance-advanced.ensures.advances c.advance-advanced.ensures.stops c.advance-advanced.ensures.halts (answered_enough c.advance-advanced.result c.answered.result c.answered.ensures.err some) in
    advanced-stands g.H.NodeHash.digest_of g.V.VufCheck.accepted g.S.Verifier.verified (ExchangesFrames g.T.Write.contents g.T.Read.remaining) lines start old happened before after said c.args.stream.now out reached said' told client monitors c.args.epoch state changes advances stands in
    (c.settle.ensures.kept lines before.key start old acts asked kept enough, search rules)

pub returns-in_err-settle-clause-rises : goal.returns-in_err-settle-clause-rises
returns-in_err-settle-clause-rises g c =
    rises_on c.args.self.now.said.status c.advance-advanced.new.said.status c.settle.new.self.said.status
    (advance_rises g.H.NodeHash.digest_of g.V.VufCheck.accepted g.S.Verifier.verified (ExchangesFrames g.T.Write.contents g.T.Read.remaining) c.args.asker.now.marks.items c.args.epoch c.advance-advanced.result
    (scene c.args.asker.now c.args.self.now.said c.args.stream.now) (scene c.advance-advanced.new.self c.advance-advanced.new.said c.advance-advanced.new.stream) c.advance-advanced.new.self c.advance-advanced.new.said refl
    c.advance-advanced.ensures.advances c.advance-advanced.ensures.stops c.advance-advanced.ensures.halts) (omega (arith, c.settle.ensures.status))

pub returns-clause-rises : goal.returns-clause-rises
returns-clause-rises g c =
    rises_on c.args.self.now.said.status c.advance-advanced.new.said.status c.settle.new.self.said.status
    (advance_rises g.H.NodeHash.digest_of g.V.VufCheck.accepted g.S.Verifier.verified (ExchangesFrames g.T.Write.contents g.T.Read.remaining) c.args.asker.now.marks.items c.args.epoch c.advance-advanced.result
    (scene c.args.asker.now c.args.self.now.said c.args.stream.now) (scene c.advance-advanced.new.self c.advance-advanced.new.said c.advance-advanced.new.stream) c.advance-advanced.new.self c.advance-advanced.new.said refl
    c.advance-advanced.ensures.advances c.advance-advanced.ensures.stops c.advance-advanced.ensures.halts) (omega (arith, c.settle.ensures.status))

pub returns-then-eq-clause-rises : goal.returns-then-eq-clause-rises
returns-then-eq-clause-rises g c =
    advance_rises g.H.NodeHash.digest_of g.V.VufCheck.accepted g.S.Verifier.verified (ExchangesFrames g.T.Write.contents g.T.Read.remaining) c.args.asker.now.marks.items c.args.epoch c.advance-advanced.result
    (scene c.args.asker.now c.args.self.now.said c.args.stream.now) (scene c.advance-advanced.new.self c.advance-advanced.new.said c.advance-advanced.new.stream) c.advance-advanced.new.self c.advance-advanced.new.said refl
    c.advance-advanced.ensures.advances c.advance-advanced.ensures.stops c.advance-advanced.ensures.halts

pub returns-clause-marks : goal.returns-clause-marks
returns-clause-marks g c = λ lines start old acts stands.
    let before = c.args.asker.now in
    let after = c.advance-advanced.new.self in
    let happened : List Act → Type 0 = λ done. g.K.Keeper.has c.args.keeper.now (done ++ acts) in
    let some = was_asked c.answered.result tt c.in_ok-settle.ensures.asked in
    let (reached, advances, told, client, monitors) = advanced_stands g.H.NodeHash.digest_of g.V.VufCheck.accepted g.S.Verifier.verified (ExchangesFrames g.T.Write.contents g.T.Read.remaining) (background_of before) c.args.epoch c.advance-advanced.result (scene before c.args.self.now.said c.args.stream.now)
    after c.advance-advanced.new.said c.advance-advanced.new.stream c.advance-advanced.ensures.advances c.advance-advanced.ensures.stops c.advance-advanced.ensures.halts (answered_enough c.advance-advanced.result c.answered.result c.answered.ensures.err some) in
    advanced-marks g.H.NodeHash.digest_of g.V.VufCheck.accepted g.S.Verifier.verified (ExchangesFrames g.T.Write.contents g.T.Read.remaining) lines start old happened before after c.args.self.now.said c.args.stream.now (g.W.Write.contents c.args.writer.now) reached c.advance-advanced.new.said told client monitors
    c.args.epoch c.args.self.now.state c.settle.new.self.state c.advance-advanced.new.said.text.items advances stands (c.in_ok-settle.ensures.keeps tt)

pub returns-then-eq-clause-marks : goal.returns-then-eq-clause-marks
returns-then-eq-clause-marks g c = λ lines start old acts stands.
    let before = c.args.asker.now in
    let after = c.advance-advanced.new.self in
    let happened : List Act → Type 0 = λ done. g.K.Keeper.has c.args.keeper.now (done ++ acts) in
    let was : c.advance-advanced.result ≡ Ok false = search rules in
    waiting-marks g.H.NodeHash.digest_of g.V.VufCheck.accepted g.S.Verifier.verified (ExchangesFrames g.T.Write.contents g.T.Read.remaining) lines start old happened before after c.args.self.now.said c.args.stream.now (g.W.Write.contents c.args.writer.now)
    (scene after c.advance-advanced.new.said c.advance-advanced.new.stream) c.advance-advanced.new.said refl refl refl c.args.epoch c.args.self.now.state (rw was at c.advance-advanced.ensures.advances) stands

pub returns-clause-notes : goal.returns-clause-notes
returns-clause-notes g c = λ all. c.in_ok-settle.ensures.notes

pub returns-clause-noted : goal.returns-clause-noted
returns-clause-noted g c = λ had.
    let goes : c.advance-advanced.result ≢ Ok false = search rules in
    advanced_noted g.H.NodeHash.digest_of g.V.VufCheck.accepted g.S.Verifier.verified (ExchangesFrames g.T.Write.contents g.T.Read.remaining) (background_of c.args.asker.now) c.args.epoch c.args.asker.now c.advance-advanced.new.self c.args.self.now.said c.advance-advanced.new.said c.args.stream.now c.advance-advanced.new.stream
    c.advance-advanced.result c.answered.result _ c.args.self.now.limit c.settle.new.self.limit c.advance-advanced.ensures.stays.2 goes c.answered.ensures.err
    c.advance-advanced.ensures.advances c.advance-advanced.ensures.stops c.advance-advanced.ensures.halts had c.settle.ensures.noted

pub returns-in_err-settle-clause-noted : goal.returns-in_err-settle-clause-noted
returns-in_err-settle-clause-noted g c = λ had.
    let goes : c.advance-advanced.result ≢ Ok false = search rules in
    advanced_noted g.H.NodeHash.digest_of g.V.VufCheck.accepted g.S.Verifier.verified (ExchangesFrames g.T.Write.contents g.T.Read.remaining) (background_of c.args.asker.now) c.args.epoch c.args.asker.now c.advance-advanced.new.self c.args.self.now.said c.advance-advanced.new.said c.args.stream.now c.advance-advanced.new.stream
    c.advance-advanced.result c.answered.result _ c.args.self.now.limit c.settle.new.self.limit c.advance-advanced.ensures.stays.2 goes c.answered.ensures.err
    c.advance-advanced.ensures.advances c.advance-advanced.ensures.stops c.advance-advanced.ensures.halts had c.settle.ensures.noted

pub returns-then-eq-clause-noted : goal.returns-then-eq-clause-noted
returns-then-eq-clause-noted g c = λ had. (scene c.args.asker.now c.args.self.now.said c.args.stream.now, inl refl, had)

pub returns-clause-none : goal.returns-clause-none
returns-clause-none g c = λ had. keeps-none c.advance-advanced.new.self c.advance-advanced.new.said.text.items c.args.self.now.state c.settle.new.self.state had (c.in_ok-settle.ensures.keeps tt)
