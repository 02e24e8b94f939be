use Rattle.std.proofs.Common.{◌≡◌, ◌≢◌, ◌∙◌, ◌≤◌, ◌++◌, ℕ, List, Err, ap, arith, inl, refl, rules, subst, sym}
use Rattle.textio.specs.declared.program_fault.ProgramFault.TheVariants.{CannotWrite}
use Rattle.play.specs.Scripts.{ask_seen, Ask as Asked}
use Rattle.runs.specs.Ending.{DoesSome, HoldsBack}
use Rattle.asking.specs.Exchanges.{ExchangesFrames}
use Rattle.runs.specs.Lateness.{HasNotedAs, IsLast}
use Rattle.asking.specs.Reports.{report_of, Report}
use Rattle.runs.specs.Runs.{background_of, Background, DoesLine}
use Rattle.runs.specs.Saves.{Act}
use Rattle.asking.specs.Scenes.{scene, Scene}
use Rattle.runs.specs.Standing.{standing, IsUpTo, StateIsKept, StateStands}
use Rattle.asking.specs.declared.ask_fault.AskFault.TheVariants.{NoReply, OutOfMemory as NoMemory}
use Rattle.runs.specs.declared.run_fault.RunFault.TheVariants.{Program}
use Rattle.runs.proofs.Between.{caught_up, first_told, held_then, written_behind}
use Rattle.runs.proofs.Ended.{heard_reaches, leaves_same, leaves_with}
use Rattle.runs.proofs.Faulty.{grows_on}
use Rattle.runs.proofs.Keeping.{was_asked}
use Rattle.runs.proofs.Late.{limit_trans, settled_noted}
use Rattle.runs.proofs.MarkedRuns.{marks-then, ok_settled}
use Rattle.asking.proofs.Outcomes.{ok_then}
use Rattle.runs.proofs.Ran.{ok_before}
use Rattle.runs.proofs.Rising.{hear_rises, rises_on}
use Rattle.runs.proofs.RunParts.{asks_all, asks_below, asks_seen, asks_some}
use Rattle.runs.proofs.RunSteps.{below-as, caught-so, head-up, heard-late, heard-marks, heard-ready, heard-stands, heard-step, low-high, low_of, ok_have, ok_step, same_background, settled-run, told-so}
use Rattle.runs.proofs.Shifted.{shifted}
use Rattle.runs.proofs.Standing.{heard_stands}
use Rattle.runs.proofs.Written.{state-kept, state-saved}
use Rattle.runs.proofs.run.Run.ask_directory.Goals as goal

pub returns-clause-asks : goal.returns-clause-asks
returns-clause-asks g c =
    let sends = c.in_ok-reply.ensures.sends in
    let ready = scene c.catch_up.new.asker c.catch_up.new.self.said c.catch_up.new.stream in
    let after = scene c.hear-heard.new.self c.hear-heard.new.said c.hear-heard.new.stream in
    let caught = caught_up g.H.NodeHash.digest_of g.V.VufCheck.accepted g.S.Verifier.verified (ExchangesFrames g.T.Write.contents g.T.Read.remaining) (background_of c.args.asker.now) c.in_ok-reply.reply.epoch (scene c.args.asker.now c.args.self.now.said c.send.new.stream) ready
    (g.W.Write.contents c.args.writer.now) (g.W.Write.contents c.catch_up.new.writer) (rw c.epoch.ensures at c.in_ok-catch_up.ensures.catches) in
    let asks = ok_then c.hear-heard.result (c.hear-heard.ensures.hears sends.3.0 sends.3.1) (λ hears. (
      c.catch_up.new.asker.changes.items,
      c.hear-heard.new.self.changes.items,
      asks_all g.H.NodeHash.digest_of g.V.VufCheck.accepted g.S.Verifier.verified (ExchangesFrames g.T.Write.contents g.T.Read.remaining) (background_of c.args.asker.now) c.args.asker.now c.args.self.now.said c.args.stream.now c.send.new.stream c.in_ok-reply.reply (ask_seen c.args.ask.now) sends
          caught.0 ready caught.2 c.catch_up.new.asker.changes.items c.hear-heard.new.self.changes.items c.catch_up.new.asker.marks.items after (ap (λ (b : Background). b.marks) c.in_ok-catch_up.ensures.stays) hears,
    )) in
    written_behind c.settle.result (DoesLine g.H.NodeHash.digest_of g.V.VufCheck.accepted g.S.Verifier.verified (ExchangesFrames g.T.Write.contents g.T.Read.remaining) (background_of c.args.asker.now) (Asked (ask_seen c.args.ask.now)))
    (scene c.args.asker.now c.args.self.now.said c.args.stream.now) c.hear-heard.new.self c.hear-heard.new.said c.settle.new.self.said c.hear-heard.new.stream
    (g.W.Write.contents c.args.writer.now) (g.W.Write.contents c.catch_up.new.writer) (g.W.Write.contents c.settle.new.writer) caught.0 caught.1
    (ok_before _ c.settle.result c.hear-heard.result tt c.settle.ensures.asked asks) c.settle.ensures.writes

pub returns-in_err-reply-clause-part : goal.returns-in_err-reply-clause-part
returns-in_err-reply-clause-part g c =
    (scene c.args.asker.now c.args.self.now.said c.args.stream.now, inl refl, leaves_same _ (g.W.Write.contents c.args.writer.now) c.args.self.now.said (report_of c.args.self.now.said) refl)

pub returns-in_err-catch_up-clause-part : goal.returns-in_err-catch_up-clause-part
returns-in_err-catch_up-clause-part g c =
    let passed : c.from_residual-in_err-catch_up.result ≡ Err c.in_err-catch_up.field-0.0 = search rules in
    let (reached, below, holds) = rw c.epoch.ensures at c.in_err-catch_up.ensures.part in (
      reached,
      asks_below g.H.NodeHash.digest_of g.V.VufCheck.accepted g.S.Verifier.verified (ExchangesFrames g.T.Write.contents g.T.Read.remaining) (background_of c.args.asker.now) c.args.asker.now c.args.self.now.said c.args.stream.now c.send.new.stream c.in_ok-reply.reply (ask_seen c.args.ask.now) c.in_ok-reply.ensures.sends reached below,
      leaves_with _ (c.from_residual-in_err-catch_up.result ≡ Err (Program CannotWrite)) (g.W.Write.contents c.catch_up.new.writer) c.catch_up.new.self.said reached.told (g.W.Write.contents c.args.writer.now) (λ failed. passed ∙ failed) holds,
    )

pub returns-clause-part : goal.returns-clause-part
returns-clause-part g c =
    let sends = c.in_ok-reply.ensures.sends in
    let ready = scene c.catch_up.new.asker c.catch_up.new.self.said c.catch_up.new.stream in
    let caught = caught_up g.H.NodeHash.digest_of g.V.VufCheck.accepted g.S.Verifier.verified (ExchangesFrames g.T.Write.contents g.T.Read.remaining) (background_of c.args.asker.now) c.in_ok-reply.reply.epoch (scene c.args.asker.now c.args.self.now.said c.send.new.stream) ready
    (g.W.Write.contents c.args.writer.now) (g.W.Write.contents c.catch_up.new.writer) (rw c.epoch.ensures at c.in_ok-catch_up.ensures.catches) in
    let (why, reached, hears, told) = heard_reaches g.H.NodeHash.digest_of g.V.VufCheck.accepted g.S.Verifier.verified (ExchangesFrames g.T.Write.contents g.T.Read.remaining) (background_of c.catch_up.new.asker) c.in_ok-reply.reply.held (ask_seen c.args.ask.now) sends.3.0 c.catch_up.new.asker.changes.items c.hear-heard.new.self.changes.items c.hear-heard.result
    ready (scene c.hear-heard.new.self c.hear-heard.new.said c.hear-heard.new.stream) c.hear-heard.new.self c.hear-heard.new.said refl (c.hear-heard.ensures.hears sends.3.0 sends.3.1) (c.hear-heard.ensures.halts sends.3.0 sends.3.1) in
    let holds = subst (λ (r : Report). HoldsBack (c.settle.result ≡ Err (Program CannotWrite)) (g.W.Write.contents c.settle.new.writer) c.settle.new.self.said r (g.W.Write.contents c.catch_up.new.writer)) told c.settle.ensures.leaves in (
      shifted (first_told caught.0) reached,
      asks_some g.H.NodeHash.digest_of g.V.VufCheck.accepted g.S.Verifier.verified (ExchangesFrames g.T.Write.contents g.T.Read.remaining) (background_of c.args.asker.now) c.args.asker.now c.args.self.now.said c.args.stream.now c.send.new.stream c.in_ok-reply.reply (ask_seen c.args.ask.now) sends
          caught.0 ready caught.2 c.catch_up.new.asker.changes.items c.hear-heard.new.self.changes.items why (background_of c.catch_up.new.asker) reached c.in_ok-catch_up.ensures.stays hears,
      held_then (c.settle.result ≡ Err (Program CannotWrite)) (g.W.Write.contents c.args.writer.now) (g.W.Write.contents c.catch_up.new.writer) (g.W.Write.contents c.settle.new.writer) c.settle.new.self.said caught.0 reached.told caught.1 holds,
    )

pub returns-in_err-reply-clause-stands : goal.returns-in_err-reply-clause-stands
returns-in_err-reply-clause-stands g c = λ lines start old acts says stands. (
  state-kept g.H.NodeHash.digest_of g.V.VufCheck.accepted g.S.Verifier.verified lines c.args.asker.now.key start old (λ (done : List Act). g.K.Keeper.has c.args.keeper.now (done ++ acts)) c.args.self.now.state (g.W.Write.contents c.args.writer.now)
      c.args.asker.now.changes.items (standing c.args.asker.now.client c.args.asker.now.monitors.items c.args.self.now.said.text.items) stands.0,
  search rules,
)

pub returns-in_err-catch_up-clause-stands : goal.returns-in_err-catch_up-clause-stands
returns-in_err-catch_up-clause-stands g c = λ lines start old acts says stands. ((c.catch_up.ensures.stands lines start old acts stands).0, search rules)

pub returns-clause-stands : goal.returns-clause-stands
returns-clause-stands g c = λ lines start old acts says first.
    let before = c.catch_up.new.asker in
    let after = c.hear-heard.new.self in
    let said = c.catch_up.new.self.said in
    let said' = c.hear-heard.new.said in
    let out = g.W.Write.contents c.catch_up.new.writer in
    let held = c.in_ok-reply.reply.held in
    let asks = (ask_seen c.args.ask.now) in
    let happened : List Act → Type 0 = λ done. g.K.Keeper.has c.catch_up.new.keeper (done ++ acts) in
    let happened' : List Act → Type 0 = λ done. g.K.Keeper.has c.settle.new.keeper (done ++ acts) in
    let state = c.catch_up.new.self.state in
    let ready = scene c.catch_up.new.asker c.catch_up.new.self.said c.catch_up.new.stream in
    let stands = ok_have c.catch_up.result c.in_ok-catch_up.was (c.catch_up.ensures.stands lines start old acts first).1 in
    let sends = c.in_ok-reply.ensures.sends in
    let stays = same_background before after c.hear-heard.ensures.stays.0 c.hear-heard.ensures.stays.1 c.hear-heard.ensures.stays.2 c.hear-heard.ensures.stays.3 c.hear-heard.ensures.stays.4 in
    let key = ap (λ (b : Background). b.key) c.in_ok-catch_up.ensures.stays in
    let (why, ended, hears, same) = heard_reaches g.H.NodeHash.digest_of g.V.VufCheck.accepted g.S.Verifier.verified (ExchangesFrames g.T.Write.contents g.T.Read.remaining) (background_of c.catch_up.new.asker) c.in_ok-reply.reply.held (ask_seen c.args.ask.now) sends.3.0 c.catch_up.new.asker.changes.items c.hear-heard.new.self.changes.items c.hear-heard.result
    ready (scene c.hear-heard.new.self c.hear-heard.new.said c.hear-heard.new.stream) c.hear-heard.new.self c.hear-heard.new.said refl (c.hear-heard.ensures.hears sends.3.0 sends.3.1) (c.hear-heard.ensures.halts sends.3.0 sends.3.1) in
    let speaks = sends.3.3 in
    let epoch = c.in_ok-reply.reply.epoch in
    let low = low_of held epoch in
    let high = low-high held epoch asks sends.3.0 speaks in
    let caught = caught_up g.H.NodeHash.digest_of g.V.VufCheck.accepted g.S.Verifier.verified (ExchangesFrames g.T.Write.contents g.T.Read.remaining) (background_of c.args.asker.now) epoch (scene c.args.asker.now c.args.self.now.said c.send.new.stream) ready
    (g.W.Write.contents c.args.writer.now) out (rw c.epoch.ensures at c.in_ok-catch_up.ensures.catches) in
    let up : IsUpTo c.args.asker.now.client low = head-up c.args.asker.now.client.chain sends.0 held epoch sends.1 sends.2 in
    let near : epoch ≤ low = omega arith in
    let fits = (rw c.epoch.ensures at c.in_ok-catch_up.ensures.low) lines start old acts first low up near in
    let below = caught-so g.H.NodeHash.digest_of g.V.VufCheck.accepted g.S.Verifier.verified (ExchangesFrames g.T.Write.contents g.T.Read.remaining) lines start old (λ (done : List Act). g.K.Keeper.has c.args.keeper.now (done ++ acts)) c.args.asker.now before c.args.self.now.said c.send.new.stream (g.W.Write.contents c.args.writer.now) c.args.self.now.state state epoch low _ c.catch_up.new.stream
    up near c.in_ok-catch_up.ensures.changes c.in_ok-catch_up.ensures.none first caught.2 fits in
    let below-late = below-as g.H.NodeHash.digest_of g.V.VufCheck.accepted g.S.Verifier.verified (ExchangesFrames g.T.Write.contents g.T.Read.remaining) lines start old _ happened before before after c.args.self.now.said said c.send.new.stream c.catch_up.new.stream (g.W.Write.contents c.args.writer.now) out ended ended low state (below ended) in
    let asked = heard-late g.H.NodeHash.digest_of g.V.VufCheck.accepted g.S.Verifier.verified (ExchangesFrames g.T.Write.contents g.T.Read.remaining) lines start old happened before after said c.catch_up.new.stream out ended held asks sends.3.0 says low high why state hears below-late stands in
    let kept = state-saved g.H.NodeHash.digest_of g.V.VufCheck.accepted g.S.Verifier.verified lines before.key start old happened state out before.changes.items (standing before.client before.monitors.items said.text.items) stands.0 in
    let stood = heard_stands g.H.NodeHash.digest_of g.V.VufCheck.accepted g.S.Verifier.verified (ExchangesFrames g.T.Write.contents g.T.Read.remaining) (background_of before) held asks sends.3.0 before.changes.items after.changes.items c.hear-heard.result ready after said' c.hear-heard.new.stream
    (c.hear-heard.ensures.hears sends.3.0 sends.3.1) c.hear-heard.ensures.err (c.hear-heard.ensures.halts sends.3.0 sends.3.1) in
    let enough : c.hear-heard.result ≢ Err NoMemory → StateStands g.H.NodeHash.digest_of g.V.VufCheck.accepted g.S.Verifier.verified lines before.key start old happened state out after.changes.items (standing after.client after.monitors.items said'.text.items) = λ some.
    let (reached, hears, told, client, monitors) = stood some in
    heard-stands g.H.NodeHash.digest_of g.V.VufCheck.accepted g.S.Verifier.verified (ExchangesFrames g.T.Write.contents g.T.Read.remaining) lines start old happened before after said c.catch_up.new.stream out reached said' told client monitors held asks sends.3.0 low high state says hears
    (below-as g.H.NodeHash.digest_of g.V.VufCheck.accepted g.S.Verifier.verified (ExchangesFrames g.T.Write.contents g.T.Read.remaining) lines start old _ happened before before after c.args.self.now.said said c.send.new.stream c.catch_up.new.stream (g.W.Write.contents c.args.writer.now) out ended reached low state (below ended)) stands in
    let step = ok_step c.settle.result c.hear-heard.result c.settle.ensures.asked (c.hear-heard.ensures.hears sends.3.0 sends.3.1) c.settle.ensures.keeps (λ whole keeps.
    heard-step g.H.NodeHash.digest_of g.V.VufCheck.accepted g.S.Verifier.verified (ExchangesFrames g.T.Write.contents g.T.Read.remaining) lines start old happened before after said c.catch_up.new.stream out (scene after said' c.hear-heard.new.stream) said' refl refl refl held asks sends.3.0 state c.settle.new.self.state said'.text.items says stays whole stands keeps) in (
      subst (λ (k : List ℕ). StateIsKept g.H.NodeHash.digest_of g.V.VufCheck.accepted g.S.Verifier.verified lines k start old happened' c.settle.new.self.state (g.W.Write.contents c.settle.new.writer)) key (c.settle.ensures.kept lines before.key start old acts asked kept enough),
      settled-run g.H.NodeHash.digest_of g.V.VufCheck.accepted g.S.Verifier.verified lines start old happened' before.key after (ap (λ (b : Background). b.key) stays) c.settle.new.self.said said'.status c.settle.result c.hear-heard.result
          c.settle.new.self.state (g.W.Write.contents c.settle.new.writer) c.settle.ensures.asked (told-so c.settle.result out (g.W.Write.contents c.settle.new.writer) said'.text.items c.settle.new.self.said said'.status c.settle.ensures.writes) (stands.1 ∙ sym (ap (λ (b : Background). b.marks) stays))
          (λ some. let (reached, hears, told, client, monitors) = stood some in
          heard-ready g.H.NodeHash.digest_of g.V.VufCheck.accepted g.S.Verifier.verified (ExchangesFrames g.T.Write.contents g.T.Read.remaining) lines start old happened before after said c.catch_up.new.stream out reached said' told client monitors held asks sends.3.0 says hears stays stands.2)
          step
          (ok_then c.settle.result c.settle.ensures.stands (λ goes some. goes lines before.key start old acts asked (enough some))),
    )

pub returns-clause-grows : goal.returns-clause-grows
returns-clause-grows g c = grows_on (g.W.Write.contents c.args.writer.now) (g.W.Write.contents c.catch_up.new.writer) (g.W.Write.contents c.settle.new.writer) c.catch_up.ensures.grows c.settle.ensures.grows

pub returns-clause-rises : goal.returns-clause-rises
returns-clause-rises g c =
    rises_on c.args.self.now.said.status c.hear-heard.new.said.status c.settle.new.self.said.status
    (rises_on c.args.self.now.said.status c.catch_up.new.self.said.status c.hear-heard.new.said.status c.catch_up.ensures.rises
    (hear_rises g.H.NodeHash.digest_of g.V.VufCheck.accepted g.S.Verifier.verified (ExchangesFrames g.T.Write.contents g.T.Read.remaining) c.catch_up.new.asker.marks.items c.in_ok-reply.reply.held (ask_seen c.args.ask.now) c.in_ok-reply.ensures.sends.3.0 c.catch_up.new.asker.changes.items c.hear-heard.new.self.changes.items c.hear-heard.result
    (scene c.catch_up.new.asker c.catch_up.new.self.said c.catch_up.new.stream) (scene c.hear-heard.new.self c.hear-heard.new.said c.hear-heard.new.stream) c.hear-heard.new.self c.hear-heard.new.said refl
    (c.hear-heard.ensures.hears c.in_ok-reply.ensures.sends.3.0 c.in_ok-reply.ensures.sends.3.1) (c.hear-heard.ensures.halts c.in_ok-reply.ensures.sends.3.0 c.in_ok-reply.ensures.sends.3.1))) (omega (arith, c.settle.ensures.status))

pub returns-clause-marks : goal.returns-clause-marks
returns-clause-marks g c =
    let before = c.catch_up.new.asker in
    let after = c.hear-heard.new.self in
    let said = c.catch_up.new.self.said in
    let said' = c.hear-heard.new.said in
    let state = c.catch_up.new.self.state in
    let ready = scene before said c.catch_up.new.stream in
    let sends = c.in_ok-reply.ensures.sends in
    let stood = heard_stands g.H.NodeHash.digest_of g.V.VufCheck.accepted g.S.Verifier.verified (ExchangesFrames g.T.Write.contents g.T.Read.remaining) (background_of before) c.in_ok-reply.reply.held (ask_seen c.args.ask.now) sends.3.0 before.changes.items after.changes.items c.hear-heard.result
    ready after c.hear-heard.new.said c.hear-heard.new.stream (c.hear-heard.ensures.hears sends.3.0 sends.3.1) c.hear-heard.ensures.err (c.hear-heard.ensures.halts sends.3.0 sends.3.1) in
    ok_settled c.settle.result c.settle.ensures.asked c.settle.ensures.keeps (λ is keeps lines start old acts says first.
    let happened : List Act → Type 0 = λ done. g.K.Keeper.has c.catch_up.new.keeper (done ++ acts) in
    let stands = ok_have c.catch_up.result c.in_ok-catch_up.was (c.catch_up.ensures.stands lines start old acts first).1 in
    let (reached, hears, told, client, monitors) = stood (was_asked c.hear-heard.result tt is) in
    marks-then c.args.self.now.state state c.settle.new.self.state c.args.asker.now.monitors.items before.monitors.items after.monitors.items
    (c.in_ok-catch_up.ensures.marks lines start old acts first)
    (heard-marks g.H.NodeHash.digest_of g.V.VufCheck.accepted g.S.Verifier.verified (ExchangesFrames g.T.Write.contents g.T.Read.remaining) lines start old happened before after said c.catch_up.new.stream (g.W.Write.contents c.catch_up.new.writer) reached said' told client monitors
    c.in_ok-reply.reply.held (ask_seen c.args.ask.now) sends.3.0 state c.settle.new.self.state said'.text.items says hears stands keeps))

pub returns-clause-limit : goal.returns-clause-limit
returns-clause-limit g c = limit_trans c.args.self.now.limit c.catch_up.new.self.limit c.settle.new.self.limit c.catch_up.ensures.limit c.settle.ensures.limit

pub returns-in_err-reply-clause-noted : goal.returns-in_err-reply-clause-noted
returns-in_err-reply-clause-noted g c = λ had. (scene c.args.asker.now c.args.self.now.said c.args.stream.now, inl refl, had)

pub returns-in_err-catch_up-clause-noted : goal.returns-in_err-catch_up-clause-noted
returns-in_err-catch_up-clause-noted g c = λ had.
    let (seen, leads, noted) = asks_seen g.H.NodeHash.digest_of g.V.VufCheck.accepted g.S.Verifier.verified (ExchangesFrames g.T.Write.contents g.T.Read.remaining) (background_of c.args.asker.now) c.args.asker.now c.args.self.now.said c.args.stream.now c.send.new.stream c.in_ok-reply.reply (ask_seen c.args.ask.now) c.in_ok-reply.ensures.sends
    (λ client monitors. HasNotedAs (IsLast c.args.asker.now.marks.items client monitors) c.catch_up.new.self.limit) (rw c.epoch.ensures at (c.catch_up.ensures.noted had)) in
    (seen, leads, noted)

pub returns-clause-noted : goal.returns-clause-noted
returns-clause-noted g c = λ had.
    let start = scene c.args.asker.now c.args.self.now.said c.args.stream.now in
    let before = c.catch_up.new.asker in
    let after = c.hear-heard.new.self in
    let ready = scene before c.catch_up.new.self.said c.catch_up.new.stream in
    let sends = c.in_ok-reply.ensures.sends in
    let caught = caught_up g.H.NodeHash.digest_of g.V.VufCheck.accepted g.S.Verifier.verified (ExchangesFrames g.T.Write.contents g.T.Read.remaining) (background_of c.args.asker.now) c.in_ok-reply.reply.epoch (scene c.args.asker.now c.args.self.now.said c.send.new.stream) ready
    (g.W.Write.contents c.args.writer.now) (g.W.Write.contents c.catch_up.new.writer) (rw c.epoch.ensures at c.in_ok-catch_up.ensures.catches) in
    let stood = heard_stands g.H.NodeHash.digest_of g.V.VufCheck.accepted g.S.Verifier.verified (ExchangesFrames g.T.Write.contents g.T.Read.remaining) (background_of before) c.in_ok-reply.reply.held (ask_seen c.args.ask.now) sends.3.0 before.changes.items after.changes.items c.hear-heard.result
    ready after c.hear-heard.new.said c.hear-heard.new.stream (c.hear-heard.ensures.hears sends.3.0 sends.3.1) c.hear-heard.ensures.err (c.hear-heard.ensures.halts sends.3.0 sends.3.1) in
    let stays = same_background before after c.hear-heard.ensures.stays.0 c.hear-heard.ensures.stays.1 c.hear-heard.ensures.stays.2 c.hear-heard.ensures.stays.3 c.hear-heard.ensures.stays.4 in
    let (seen, leads, noted) = asks_seen g.H.NodeHash.digest_of g.V.VufCheck.accepted g.S.Verifier.verified (ExchangesFrames g.T.Write.contents g.T.Read.remaining) (background_of c.args.asker.now) c.args.asker.now c.args.self.now.said c.args.stream.now c.send.new.stream c.in_ok-reply.reply (ask_seen c.args.ask.now) c.in_ok-reply.ensures.sends
    (λ client monitors. HasNotedAs (IsLast c.args.asker.now.marks.items client monitors) c.catch_up.new.self.limit) (rw c.epoch.ensures at (c.catch_up.ensures.noted had)) in
    settled_noted (λ (there : Scene g.row.T.Denot). DoesSome g.H.NodeHash.digest_of g.V.VufCheck.accepted g.S.Verifier.verified (ExchangesFrames g.T.Write.contents g.T.Read.remaining) (background_of c.args.asker.now) (Asked (ask_seen c.args.ask.now)) start there)
    c.args.asker.now.marks.items after c.hear-heard.result _ c.catch_up.new.self.limit c.settle.new.self.limit (ap (λ (b : Background). b.marks) (stays ∙ c.in_ok-catch_up.ensures.stays))
    (λ enough. let (reached, hears, told, client, monitors) = stood enough in (
      shifted (first_told caught.0) reached,
      asks_some g.H.NodeHash.digest_of g.V.VufCheck.accepted g.S.Verifier.verified (ExchangesFrames g.T.Write.contents g.T.Read.remaining) (background_of c.args.asker.now) c.args.asker.now c.args.self.now.said c.args.stream.now c.send.new.stream c.in_ok-reply.reply (ask_seen c.args.ask.now) sends
          caught.0 ready caught.2 before.changes.items after.changes.items NoReply (background_of before) reached c.in_ok-catch_up.ensures.stays hears,
      client,
      monitors,
    ))
    (seen, leads, noted) c.settle.ensures.noted
