use Rattle.std.proofs.Common.{◌≡◌, ◌≢◌, ◌⊎◌, ◌∙◌, ◌++◌, ℕ, None, List, Ok, Err, Option, ap, arith, inl, inr, refl, rules, subst, sym}
use Rattle.textio.specs.declared.program_fault.ProgramFault.TheVariants.{CannotWrite}
use Rattle.runs.specs.Ending.{HoldsBack, PreparesSome}
use Rattle.asking.specs.Exchanges.{ExchangesFrames}
use Rattle.runs.specs.Keeping.{KeepsUp}
use Rattle.runs.specs.Lateness.{HasNotedAs, IsLast, IsSameLimit}
use Rattle.asking.specs.Reports.{report_of, Report}
use Rattle.runs.specs.Runs.{background_of, Background, Prepares}
use Rattle.runs.specs.Saves.{Act}
use Rattle.asking.specs.Scenes.{scene, Scene}
use Rattle.runs.specs.Standing.{standing, AreNew, StateIsKept, StateIsSaved, StateStands}
use Rattle.asking.specs.declared.ask_fault.AskFault.TheVariants.{OutOfMemory as NoMemory}
use Rattle.runs.specs.declared.run_fault.RunFault.TheVariants.{Program}
use Rattle.runs.specs.declared.lateness.Limit.{Limit}
use Rattle.runs.specs.declared.state.State.{State}
use Rattle.runs.proofs.Between.{caught_up, first_told, held_then, written_behind}
use Rattle.runs.proofs.Ended.{err_so, leaves_with, reaches_whole}
use Rattle.runs.proofs.Faulty.{grows_on}
use Rattle.runs.proofs.Keeping.{was_asked}
use Rattle.runs.proofs.Late.{limit_trans, noted_still, settled_noted}
use Rattle.runs.proofs.MarkedRuns.{marks-then, ok_settled}
use Rattle.asking.proofs.Outcomes.{ok_then}
use Rattle.runs.proofs.Ran.{ok_before, written_so}
use Rattle.runs.proofs.Rising.{looked_rises, rises_on}
use Rattle.runs.proofs.RunParts.{prepares_all, prepares_below, prepares_seen, prepares_some}
use Rattle.runs.proofs.RunSteps.{here-marks, looked-marks, looked-ready, looked-stands, looked-step, ok_have, ok_step, prepared-asked, same-step, settled-run, told-so}
use Rattle.runs.proofs.Shifted.{shifted}
use Rattle.runs.proofs.Written.{state-saved}
use Rattle.runs.proofs.run.Run.prepare.Goals as goal

pub returns-then-is_none-clause-prepares : goal.returns-then-is_none-clause-prepares
returns-then-is_none-clause-prepares g c =
    let none : c.args.self.now.state ≡ None = search rules in
    written_so c.settle.result (Prepares g.H.NodeHash.digest_of g.V.VufCheck.accepted g.S.Verifier.verified (ExchangesFrames g.T.Write.contents g.T.Read.remaining) (background_of c.args.asker.now) (c.args.self.now.state ≡ None))
    (scene c.args.asker.now c.args.self.now.said c.args.stream.now) c.args.asker.now c.args.self.now.said c.settle.new.self.said c.args.stream.now
    (g.W.Write.contents c.args.writer.now) (g.W.Write.contents c.settle.new.writer) (ok_then c.settle.result c.settle.ensures.asked (λ same. inl (none, refl))) c.settle.ensures.writes

pub returns-clause-prepares : goal.returns-clause-prepares
returns-clause-prepares g c =
    rw c.note_stopped.ensures.same (let some : ¬ (c.args.self.now.state ≡ None) = search rules in
    let sends = c.in-Ok.ensures.sends in
    let ready = scene c.catch_up.new.asker c.catch_up.new.self.said c.catch_up.new.stream in
    let after = scene c.look_around-prepared.new.asker c.look_around-prepared.new.self.said c.look_around-prepared.new.stream in
    let caught = caught_up g.H.NodeHash.digest_of g.V.VufCheck.accepted g.S.Verifier.verified (ExchangesFrames g.T.Write.contents g.T.Read.remaining) (background_of c.args.asker.now) c.in-Ok.reply.epoch (scene c.args.asker.now c.args.self.now.said c.send.new.stream) ready
    (g.W.Write.contents c.args.writer.now) (g.W.Write.contents c.catch_up.new.writer) (rw c.epoch.ensures at c.in_ok-catch_up.ensures.catches) in
    let prepares = ok_then c.look_around-prepared.result (c.look_around-prepared.ensures.looks sends.3.0 sends.3.1) (λ looks.
    prepares_all g.H.NodeHash.digest_of g.V.VufCheck.accepted g.S.Verifier.verified (ExchangesFrames g.T.Write.contents g.T.Read.remaining) (background_of c.args.asker.now) c.args.asker.now c.args.self.now.said c.args.stream.now c.send.new.stream c.in-Ok.reply sends (c.args.self.now.state ≡ None) some
    caught.0 ready caught.2 c.catch_up.new.asker.marks.items looks.0 after (ap (λ (b : Background). b.marks) c.in_ok-catch_up.ensures.stays) looks.1 looks.2) in
    written_behind c.settle-settled.result (Prepares g.H.NodeHash.digest_of g.V.VufCheck.accepted g.S.Verifier.verified (ExchangesFrames g.T.Write.contents g.T.Read.remaining) (background_of c.args.asker.now) (c.args.self.now.state ≡ None))
    (scene c.args.asker.now c.args.self.now.said c.args.stream.now) c.look_around-prepared.new.asker c.look_around-prepared.new.self.said c.settle-settled.new.self.said c.look_around-prepared.new.stream
    (g.W.Write.contents c.args.writer.now) (g.W.Write.contents c.catch_up.new.writer) (g.W.Write.contents c.settle-settled.new.writer) caught.0 caught.1
    (ok_before _ c.settle-settled.result c.look_around-prepared.result tt c.settle-settled.ensures.asked prepares) c.settle-settled.ensures.writes)

pub returns-then-is_none-clause-part : goal.returns-then-is_none-clause-part
returns-then-is_none-clause-part g c =
    let none : c.args.self.now.state ≡ None = search rules in
    err_so _ (reaches_whole _ (PreparesSome g.H.NodeHash.digest_of g.V.VufCheck.accepted g.S.Verifier.verified (ExchangesFrames g.T.Write.contents g.T.Read.remaining) (background_of c.args.asker.now) (c.args.self.now.state ≡ None) (scene c.args.asker.now c.args.self.now.said c.args.stream.now))
    (report_of c.args.self.now.said) (g.W.Write.contents c.args.writer.now) (g.W.Write.contents c.settle.new.writer) c.settle.new.self.said (scene c.args.asker.now c.args.self.now.said c.args.stream.now, inl (inl (none, refl)), refl) c.settle.ensures.leaves)

pub returns-in-Err-clause-prepares : goal.returns-in-Err-clause-prepares
returns-in-Err-clause-prepares g c = ok_before _ c.settle-in-Err.result (Err c.in-Err.fault) tt c.settle-in-Err.ensures.asked tt

pub returns-in-Err-clause-part : goal.returns-in-Err-clause-part
returns-in-Err-clause-part g c =
    let some : ¬ (c.args.self.now.state ≡ None) = search rules in
    err_so _ (reaches_whole _ (PreparesSome g.H.NodeHash.digest_of g.V.VufCheck.accepted g.S.Verifier.verified (ExchangesFrames g.T.Write.contents g.T.Read.remaining) (background_of c.args.asker.now) (c.args.self.now.state ≡ None) (scene c.args.asker.now c.args.self.now.said c.args.stream.now))
    (report_of c.args.self.now.said) (g.W.Write.contents c.args.writer.now) (g.W.Write.contents c.settle-in-Err.new.writer) c.settle-in-Err.new.self.said (scene c.args.asker.now c.args.self.now.said c.args.stream.now, inr (some, inl (inl refl)), refl) c.settle-in-Err.ensures.leaves)

pub returns-in_err-catch_up-clause-part : goal.returns-in_err-catch_up-clause-part
returns-in_err-catch_up-clause-part g c =
    let some : ¬ (c.args.self.now.state ≡ None) = search rules in
    let passed : c.from_residual.result ≡ Err c.in_err-catch_up.field-0.0 = search rules in
    let (reached, below, holds) = rw c.epoch.ensures at c.in_err-catch_up.ensures.part in
    err_so _ (reaches_whole _ (PreparesSome g.H.NodeHash.digest_of g.V.VufCheck.accepted g.S.Verifier.verified (ExchangesFrames g.T.Write.contents g.T.Read.remaining) (background_of c.args.asker.now) (c.args.self.now.state ≡ None) (scene c.args.asker.now c.args.self.now.said c.args.stream.now))
    reached.told (g.W.Write.contents c.args.writer.now) (g.W.Write.contents c.catch_up.new.writer) c.catch_up.new.self.said (
      reached,
      prepares_below g.H.NodeHash.digest_of g.V.VufCheck.accepted g.S.Verifier.verified (ExchangesFrames g.T.Write.contents g.T.Read.remaining) (background_of c.args.asker.now) c.args.asker.now c.args.self.now.said c.args.stream.now c.send.new.stream c.in-Ok.reply c.in-Ok.ensures.sends (c.args.self.now.state ≡ None) some reached below,
      refl,
    ) (leaves_with _ (c.from_residual.result ≡ Err (Program CannotWrite)) (g.W.Write.contents c.catch_up.new.writer) c.catch_up.new.self.said reached.told (g.W.Write.contents c.args.writer.now) (λ failed. passed ∙ failed) holds))

pub returns-clause-part : goal.returns-clause-part
returns-clause-part g c =
    rw c.note_stopped.ensures.same (let some : ¬ (c.args.self.now.state ≡ None) = search rules in
    let sends = c.in-Ok.ensures.sends in
    let ready = scene c.catch_up.new.asker c.catch_up.new.self.said c.catch_up.new.stream in
    let caught = caught_up g.H.NodeHash.digest_of g.V.VufCheck.accepted g.S.Verifier.verified (ExchangesFrames g.T.Write.contents g.T.Read.remaining) (background_of c.args.asker.now) c.in-Ok.reply.epoch (scene c.args.asker.now c.args.self.now.said c.send.new.stream) ready
    (g.W.Write.contents c.args.writer.now) (g.W.Write.contents c.catch_up.new.writer) (rw c.epoch.ensures at c.in_ok-catch_up.ensures.catches) in
    let (reached, looks, told) = c.look_around-prepared.ensures.reaches sends.3.0 sends.3.1 in
    let holds = subst (λ (r : Report). HoldsBack (c.settle-settled.result ≡ Err (Program CannotWrite)) (g.W.Write.contents c.settle-settled.new.writer) c.settle-settled.new.self.said r (g.W.Write.contents c.catch_up.new.writer)) told c.settle-settled.ensures.leaves in
    err_so _ (reaches_whole _ (PreparesSome g.H.NodeHash.digest_of g.V.VufCheck.accepted g.S.Verifier.verified (ExchangesFrames g.T.Write.contents g.T.Read.remaining) (background_of c.args.asker.now) (c.args.self.now.state ≡ None) (scene c.args.asker.now c.args.self.now.said c.args.stream.now))
    (shifted (first_told caught.0) reached).told (g.W.Write.contents c.args.writer.now) (g.W.Write.contents c.settle-settled.new.writer) c.settle-settled.new.self.said (
      shifted (first_told caught.0) reached,
      prepares_some g.H.NodeHash.digest_of g.V.VufCheck.accepted g.S.Verifier.verified (ExchangesFrames g.T.Write.contents g.T.Read.remaining) (background_of c.args.asker.now) c.args.asker.now c.args.self.now.said c.args.stream.now c.send.new.stream c.in-Ok.reply sends (c.args.self.now.state ≡ None) some
          caught.0 ready caught.2 (background_of c.catch_up.new.asker) reached c.in_ok-catch_up.ensures.stays looks,
      refl,
    ) (held_then (c.settle-settled.result ≡ Err (Program CannotWrite)) (g.W.Write.contents c.args.writer.now) (g.W.Write.contents c.catch_up.new.writer) (g.W.Write.contents c.settle-settled.new.writer) c.settle-settled.new.self.said caught.0 reached.told caught.1 holds)))

pub returns-then-is_none-clause-stands : goal.returns-then-is_none-clause-stands
returns-then-is_none-clause-stands g c = λ lines start old acts stands.
    let before = c.args.asker.now in
    let said = c.args.self.now.said in
    let out = g.W.Write.contents c.args.writer.now in
    let state = c.args.self.now.state in
    let happened : List Act → Type 0 = λ done. g.K.Keeper.has c.args.keeper.now (done ++ acts) in
    let happened' : List Act → Type 0 = λ done. g.K.Keeper.has c.settle.new.keeper (done ++ acts) in
    let asked = prepared-asked g.H.NodeHash.digest_of g.V.VufCheck.accepted g.S.Verifier.verified lines start old happened before before said.text.items state out refl stands in
    let kept = state-saved g.H.NodeHash.digest_of g.V.VufCheck.accepted g.S.Verifier.verified lines before.key start old happened state out before.changes.items (standing before.client before.monitors.items said.text.items) stands.0 in
    let step = ok_step {P = Unit {0}} c.settle.result (Ok tt) c.settle.ensures.asked tt c.settle.ensures.keeps (λ whole keeps.
    same-step g.H.NodeHash.digest_of g.V.VufCheck.accepted g.S.Verifier.verified (ExchangesFrames g.T.Write.contents g.T.Read.remaining) lines start old happened before before said c.args.stream.now out (scene before said c.args.stream.now) said refl refl refl state c.settle.new.self.state said.text.items refl refl stands keeps) in (
      c.settle.ensures.kept lines before.key start old acts asked kept (λ some. stands.0),
      settled-run g.H.NodeHash.digest_of g.V.VufCheck.accepted g.S.Verifier.verified lines start old happened' before.key before refl c.settle.new.self.said said.status c.settle.result (Ok tt)
          c.settle.new.self.state (g.W.Write.contents c.settle.new.writer) c.settle.ensures.asked (told-so c.settle.result out (g.W.Write.contents c.settle.new.writer) said.text.items c.settle.new.self.said said.status c.settle.ensures.writes) stands.1
          (λ some. stands.2) step (ok_then c.settle.result c.settle.ensures.stands (λ goes some. goes lines before.key start old acts asked stands.0)),
    )

pub returns-in-Err-clause-stands : goal.returns-in-Err-clause-stands
returns-in-Err-clause-stands g c = λ lines start old acts stands.
    let before = c.args.asker.now in
    let said = c.args.self.now.said in
    let out = g.W.Write.contents c.args.writer.now in
    let state = c.args.self.now.state in
    let happened : List Act → Type 0 = λ done. g.K.Keeper.has c.args.keeper.now (done ++ acts) in
    let asked = prepared-asked g.H.NodeHash.digest_of g.V.VufCheck.accepted g.S.Verifier.verified lines start old happened before before said.text.items state out refl stands in
    let kept = state-saved g.H.NodeHash.digest_of g.V.VufCheck.accepted g.S.Verifier.verified lines before.key start old happened state out before.changes.items (standing before.client before.monitors.items said.text.items) stands.0 in (
      c.settle-in-Err.ensures.kept lines before.key start old acts asked kept (λ some. stands.0),
      ok_before _ c.settle-in-Err.result (Err c.in-Err.fault) tt c.settle-in-Err.ensures.asked tt,
    )

pub returns-in_err-catch_up-clause-stands : goal.returns-in_err-catch_up-clause-stands
returns-in_err-catch_up-clause-stands g c = λ lines start old acts stands. ((c.catch_up.ensures.stands lines start old acts stands).0, search rules)

pub returns-clause-stands : goal.returns-clause-stands
returns-clause-stands g c =
    rw c.note_stopped.ensures.same (λ lines start old acts first.
    let before = c.catch_up.new.asker in
    let after = c.look_around-prepared.new.asker in
    let said = c.catch_up.new.self.said in
    let said' = c.look_around-prepared.new.self.said in
    let out = g.W.Write.contents c.catch_up.new.writer in
    let happened : List Act → Type 0 = λ done. g.K.Keeper.has c.catch_up.new.keeper (done ++ acts) in
    let happened' : List Act → Type 0 = λ done. g.K.Keeper.has c.settle-settled.new.keeper (done ++ acts) in
    let state = c.catch_up.new.self.state in
    let stands = ok_have c.catch_up.result c.in_ok-catch_up.was (c.catch_up.ensures.stands lines start old acts first).1 in
    let sends = c.in-Ok.ensures.sends in
    let stays = c.look_around-prepared.ensures.stays in
    let still = c.look_around-prepared.ensures.still in
    let key = ap (λ (b : Background). b.key) c.in_ok-catch_up.ensures.stays in
    let changes = c.look_around-prepared.ensures.changes in
    let asked = subst (λ (s : Option State). AreNew lines start.known s after.changes.items) (sym still) (prepared-asked g.H.NodeHash.digest_of g.V.VufCheck.accepted g.S.Verifier.verified lines start old happened before after said.text.items state out changes stands) in
    let kept = subst (λ (s : Option State). StateIsSaved g.H.NodeHash.digest_of g.V.VufCheck.accepted g.S.Verifier.verified lines before.key start old happened s out) (sym still)
    (state-saved g.H.NodeHash.digest_of g.V.VufCheck.accepted g.S.Verifier.verified lines before.key start old happened state out before.changes.items (standing before.client before.monitors.items said.text.items) stands.0) in
    let enough : c.look_around-prepared.result ≢ Err NoMemory → StateStands g.H.NodeHash.digest_of g.V.VufCheck.accepted g.S.Verifier.verified lines before.key start old happened c.look_around-prepared.new.self.state out after.changes.items (standing after.client after.monitors.items said'.text.items) = λ some.
    let (reached, looks, told, client, monitors) = c.look_around-prepared.ensures.stands some sends.3.0 sends.3.1 in
    subst (λ (s : Option State). StateStands g.H.NodeHash.digest_of g.V.VufCheck.accepted g.S.Verifier.verified lines before.key start old happened s out after.changes.items (standing after.client after.monitors.items said'.text.items)) (sym still)
    (looked-stands g.H.NodeHash.digest_of g.V.VufCheck.accepted g.S.Verifier.verified (ExchangesFrames g.T.Write.contents g.T.Read.remaining) lines start old happened before after said c.catch_up.new.stream out reached said' told client monitors c.in-Ok.reply.held sends.3.0 state changes looks stands) in
    let step = ok_step c.settle-settled.result c.look_around-prepared.result c.settle-settled.ensures.asked (c.look_around-prepared.ensures.looks sends.3.0 sends.3.1) c.settle-settled.ensures.keeps (λ whole keeps.
    looked-step g.H.NodeHash.digest_of g.V.VufCheck.accepted g.S.Verifier.verified (ExchangesFrames g.T.Write.contents g.T.Read.remaining) lines start old happened before after said c.catch_up.new.stream out (scene after said' c.look_around-prepared.new.stream) said' refl refl refl c.in-Ok.reply.held sends.3.0 state c.settle-settled.new.self.state said'.text.items
    stays whole stands (subst (λ (s : Option State). KeepsUp after said'.text.items s c.settle-settled.new.self.state) still keeps)) in (
      subst (λ (k : List ℕ). StateIsKept g.H.NodeHash.digest_of g.V.VufCheck.accepted g.S.Verifier.verified lines k start old happened' c.settle-settled.new.self.state (g.W.Write.contents c.settle-settled.new.writer)) key (c.settle-settled.ensures.kept lines before.key start old acts asked kept enough),
      settled-run g.H.NodeHash.digest_of g.V.VufCheck.accepted g.S.Verifier.verified lines start old happened' before.key after (ap (λ (b : Background). b.key) stays) c.settle-settled.new.self.said said'.status c.settle-settled.result c.look_around-prepared.result
          c.settle-settled.new.self.state (g.W.Write.contents c.settle-settled.new.writer) c.settle-settled.ensures.asked (told-so c.settle-settled.result out (g.W.Write.contents c.settle-settled.new.writer) said'.text.items c.settle-settled.new.self.said said'.status c.settle-settled.ensures.writes) (stands.1 ∙ sym (ap (λ (b : Background). b.marks) stays))
          (λ some. let (reached, looks, told, client, monitors) = c.look_around-prepared.ensures.stands some sends.3.0 sends.3.1 in
          looked-ready g.H.NodeHash.digest_of g.V.VufCheck.accepted g.S.Verifier.verified (ExchangesFrames g.T.Write.contents g.T.Read.remaining) lines start old happened before after said c.catch_up.new.stream out reached said' told client monitors c.in-Ok.reply.held sends.3.0 looks stays changes stands.2)
          step
          (ok_then c.settle-settled.result c.settle-settled.ensures.stands (λ goes some. goes lines before.key start old acts asked (enough some))),
    ))

pub returns-clause-grows : goal.returns-clause-grows
returns-clause-grows g c = grows_on (g.W.Write.contents c.args.writer.now) (g.W.Write.contents c.catch_up.new.writer) (g.W.Write.contents c.settle-settled.new.writer) c.catch_up.ensures.grows c.settle-settled.ensures.grows

pub returns-clause-rises : goal.returns-clause-rises
returns-clause-rises g c =
    rises_on c.args.self.now.said.status c.look_around-prepared.new.self.said.status c.settle-settled.new.self.said.status
    (rises_on c.args.self.now.said.status c.catch_up.new.self.said.status c.look_around-prepared.new.self.said.status c.catch_up.ensures.rises
    (looked_rises g.H.NodeHash.digest_of g.V.VufCheck.accepted g.S.Verifier.verified (ExchangesFrames g.T.Write.contents g.T.Read.remaining) (background_of c.catch_up.new.asker) c.in-Ok.reply.held c.in-Ok.ensures.sends.3.0
    (scene c.catch_up.new.asker c.catch_up.new.self.said c.catch_up.new.stream) c.look_around-prepared.new.self.said (c.look_around-prepared.ensures.reaches c.in-Ok.ensures.sends.3.0 c.in-Ok.ensures.sends.3.1))) (omega (arith, c.settle-settled.ensures.status))

pub returns-then-is_none-clause-marks : goal.returns-then-is_none-clause-marks
returns-then-is_none-clause-marks g c =
    let before = c.args.asker.now in
    let said = c.args.self.now.said in
    ok_settled c.settle.result c.settle.ensures.asked c.settle.ensures.keeps (λ is keeps lines start old acts stands.
    let happened : List Act → Type 0 = λ done. g.K.Keeper.has c.args.keeper.now (done ++ acts) in
    here-marks g.H.NodeHash.digest_of g.V.VufCheck.accepted g.S.Verifier.verified (ExchangesFrames g.T.Write.contents g.T.Read.remaining) lines start old happened before before said c.args.stream.now (g.W.Write.contents c.args.writer.now) (scene before said c.args.stream.now) said refl refl refl
    c.args.self.now.state c.settle.new.self.state said.text.items refl stands keeps)

pub returns-clause-marks : goal.returns-clause-marks
returns-clause-marks g c =
    rw c.note_stopped.ensures.same (let before = c.catch_up.new.asker in
    let after = c.look_around-prepared.new.asker in
    let said = c.catch_up.new.self.said in
    let said' = c.look_around-prepared.new.self.said in
    let state = c.catch_up.new.self.state in
    let sends = c.in-Ok.ensures.sends in
    ok_settled c.settle-settled.result c.settle-settled.ensures.asked c.settle-settled.ensures.keeps (λ is keeps lines start old acts first.
    let happened : List Act → Type 0 = λ done. g.K.Keeper.has c.catch_up.new.keeper (done ++ acts) in
    let stands = ok_have c.catch_up.result c.in_ok-catch_up.was (c.catch_up.ensures.stands lines start old acts first).1 in
    let (reached, looks, told, client, monitors) = c.look_around-prepared.ensures.stands (was_asked c.look_around-prepared.result tt is) sends.3.0 sends.3.1 in
    let kept = subst (λ (s : Option State). KeepsUp after said'.text.items s c.settle-settled.new.self.state) c.look_around-prepared.ensures.still keeps in
    marks-then c.args.self.now.state state c.settle-settled.new.self.state c.args.asker.now.monitors.items before.monitors.items after.monitors.items
    (c.in_ok-catch_up.ensures.marks lines start old acts first)
    (looked-marks g.H.NodeHash.digest_of g.V.VufCheck.accepted g.S.Verifier.verified (ExchangesFrames g.T.Write.contents g.T.Read.remaining) lines start old happened before after said c.catch_up.new.stream (g.W.Write.contents c.catch_up.new.writer) reached said' told client monitors
    c.in-Ok.reply.held sends.3.0 state c.settle-settled.new.self.state said'.text.items looks stands kept)))

pub returns-clause-limit : goal.returns-clause-limit
returns-clause-limit g c =
    limit_trans c.args.self.now.limit c.catch_up.new.self.limit c.settle-settled.new.self.limit c.catch_up.ensures.limit
    (subst (λ (l : Limit). IsSameLimit l c.settle-settled.new.self.limit) c.look_around-prepared.ensures.limit c.settle-settled.ensures.limit)

pub returns-then-is_none-clause-noted : goal.returns-then-is_none-clause-noted
returns-then-is_none-clause-noted g c = λ had.
    let start = scene c.args.asker.now c.args.self.now.said c.args.stream.now in
    settled_noted (λ (seen : Scene g.row.T.Denot). (seen ≡ start) ⊎ PreparesSome g.H.NodeHash.digest_of g.V.VufCheck.accepted g.S.Verifier.verified (ExchangesFrames g.T.Write.contents g.T.Read.remaining) (background_of c.args.asker.now) (c.args.self.now.state ≡ None) start seen)
    c.args.asker.now.marks.items c.args.asker.now (Ok tt) _ c.args.self.now.limit c.settle.new.self.limit refl (λ some. (start, inl refl, refl, refl)) (start, inl refl, had) c.settle.ensures.noted

pub returns-in-Err-clause-marks : goal.returns-in-Err-clause-marks
returns-in-Err-clause-marks g c = ok_before _ c.settle-in-Err.result (Err c.in-Err.fault) tt c.settle-in-Err.ensures.asked tt

pub returns-in-Err-clause-noted : goal.returns-in-Err-clause-noted
returns-in-Err-clause-noted g c = λ had.
    let start = scene c.args.asker.now c.args.self.now.said c.args.stream.now in
    settled_noted {A = Unit {0}} (λ (seen : Scene g.row.T.Denot). (seen ≡ start) ⊎ PreparesSome g.H.NodeHash.digest_of g.V.VufCheck.accepted g.S.Verifier.verified (ExchangesFrames g.T.Write.contents g.T.Read.remaining) (background_of c.args.asker.now) (c.args.self.now.state ≡ None) start seen)
    c.args.asker.now.marks.items c.args.asker.now (Err c.in-Err.fault) _ c.args.self.now.limit c.settle-in-Err.new.self.limit refl (λ some. (start, inl refl, refl, refl)) (start, inl refl, had) c.settle-in-Err.ensures.noted

pub returns-in_err-catch_up-clause-noted : goal.returns-in_err-catch_up-clause-noted
returns-in_err-catch_up-clause-noted g c = λ had.
    let some : ¬ (c.args.self.now.state ≡ None) = search rules in
    let (seen, leads, noted) = prepares_seen g.H.NodeHash.digest_of g.V.VufCheck.accepted g.S.Verifier.verified (ExchangesFrames g.T.Write.contents g.T.Read.remaining) (background_of c.args.asker.now) c.args.asker.now c.args.self.now.said c.args.stream.now c.send.new.stream c.in-Ok.reply c.in-Ok.ensures.sends (c.args.self.now.state ≡ None) some
    (λ client monitors. HasNotedAs (IsLast c.args.asker.now.marks.items client monitors) c.catch_up.new.self.limit) (rw c.epoch.ensures at (c.catch_up.ensures.noted had)) in
    (seen, leads, noted)

pub returns-clause-noted : goal.returns-clause-noted
returns-clause-noted g c = λ had.
    let some : ¬ (c.args.self.now.state ≡ None) = search rules in
    let start = scene c.args.asker.now c.args.self.now.said c.args.stream.now in
    let ready = scene c.catch_up.new.asker c.catch_up.new.self.said c.catch_up.new.stream in
    let after = c.look_around-prepared.new.asker in
    let sends = c.in-Ok.ensures.sends in
    let caught = caught_up g.H.NodeHash.digest_of g.V.VufCheck.accepted g.S.Verifier.verified (ExchangesFrames g.T.Write.contents g.T.Read.remaining) (background_of c.args.asker.now) c.in-Ok.reply.epoch (scene c.args.asker.now c.args.self.now.said c.send.new.stream) ready
    (g.W.Write.contents c.args.writer.now) (g.W.Write.contents c.catch_up.new.writer) (rw c.epoch.ensures at c.in_ok-catch_up.ensures.catches) in
    let (seen, leads, noted) = prepares_seen g.H.NodeHash.digest_of g.V.VufCheck.accepted g.S.Verifier.verified (ExchangesFrames g.T.Write.contents g.T.Read.remaining) (background_of c.args.asker.now) c.args.asker.now c.args.self.now.said c.args.stream.now c.send.new.stream c.in-Ok.reply c.in-Ok.ensures.sends (c.args.self.now.state ≡ None) some
    (λ client monitors. HasNotedAs (IsLast c.args.asker.now.marks.items client monitors) c.catch_up.new.self.limit) (rw c.epoch.ensures at (c.catch_up.ensures.noted had)) in
    settled_noted (λ (there : Scene g.row.T.Denot). (there ≡ start) ⊎ PreparesSome g.H.NodeHash.digest_of g.V.VufCheck.accepted g.S.Verifier.verified (ExchangesFrames g.T.Write.contents g.T.Read.remaining) (background_of c.args.asker.now) (c.args.self.now.state ≡ None) start there)
    c.args.asker.now.marks.items after c.look_around-prepared.result _ c.look_around-prepared.new.self.limit c.settle-settled.new.self.limit
    (ap (λ (b : Background). b.marks) (c.look_around-prepared.ensures.stays ∙ c.in_ok-catch_up.ensures.stays))
    (λ enough. let (reached, looks, told, client, monitors) = c.look_around-prepared.ensures.stands enough sends.3.0 sends.3.1 in (
      shifted (first_told caught.0) reached,
      inr (prepares_some g.H.NodeHash.digest_of g.V.VufCheck.accepted g.S.Verifier.verified (ExchangesFrames g.T.Write.contents g.T.Read.remaining) (background_of c.args.asker.now) c.args.asker.now c.args.self.now.said c.args.stream.now c.send.new.stream c.in-Ok.reply sends (c.args.self.now.state ≡ None) some
          caught.0 ready caught.2 (background_of c.catch_up.new.asker) reached c.in_ok-catch_up.ensures.stays looks),
      client,
      monitors,
    ))
    (seen, leads, noted_still (IsLast c.args.asker.now.marks.items seen.client seen.monitors) c.catch_up.new.self.limit c.look_around-prepared.new.self.limit c.look_around-prepared.ensures.limit noted) c.settle-settled.ensures.noted
