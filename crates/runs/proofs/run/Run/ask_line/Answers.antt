use Rattle.std.proofs.Common.{◌≡◌, ◌≢◌, ◌∙◌, ◌++◌, Some, Ok, List, Err, Global, Vec, ap, arith, inl, inr, refl, rules, sym}
use Rattle.std.specs.Prelude.{OnOk}
use Rattle.rootchain.specs.declared.signed_promise.SignedPromise.{SignedPromise}
use Rattle.memory.specs.declared.mark.Mark.{Mark}
use Rattle.textio.specs.declared.program_fault.ProgramFault.TheVariants.{CannotWrite}
use Rattle.play.specs.Scripts.{ask_seen, line_of, line_seen, Ask as Asked}
use Rattle.runs.specs.Ending.{AsksSomeLine, DoesSome, DoesSomeNoting}
use Rattle.asking.specs.Exchanges.{ExchangesFrames}
use Rattle.asking.specs.Joining.{own_for}
use Rattle.asking.specs.Reports.{report_of}
use Rattle.runs.specs.Runs.{AsksLine, background_of, Background, DoesLine, DoesLineNoting}
use Rattle.runs.specs.Saves.{Act}
use Rattle.asking.specs.Scenes.{scene, Scene}
use Rattle.runs.specs.Standing.{standing, StateStands}
use Rattle.asking.specs.declared.ask_fault.AskFault.TheVariants.{NoReply, OutOfMemory as NoMemory}
use Rattle.runs.specs.declared.run_fault.RunFault.TheVariants.{Program}
use Rattle.runs.proofs.Ended.{line_not, line_reaches, reaches_whole, watched_reaches}
use Rattle.runs.proofs.Keeping.{was_asked}
use Rattle.runs.proofs.Late.{does_noting, settled_noted}
use Rattle.runs.proofs.MarkedRuns.{ok_all}
use Rattle.asking.proofs.Outcomes.{ok_then}
use Rattle.runs.proofs.Ran.{ok_before, written_so}
use Rattle.runs.proofs.Rising.{rises_on, watch_rises}
use Rattle.runs.proofs.RunSteps.{here-marks, line-marks, line-ready, line-stands, line-step, ok_have, ok_known, ok_step, prepared-asked, same-step, same_background, settled-run, settled-stands, told-so}
use Rattle.runs.proofs.Standing.{watched_stands, StandsIn}
use Rattle.runs.proofs.Written.{state-kept, state-saved}
use Rattle.runs.proofs.run.Run.ask_line.Goals as goal

pub returns-in-Ask-clause-asks : goal.returns-in-Ask-clause-asks
returns-in-Ask-clause-asks g c =
    let seen : line_of c.args.line.now ≡ Some (line_seen c.in-Some.line) = sym (rw c.in-Some.is at c.in_ok-line.ensures) in
    let said : line_of c.args.line.now ≡ Some (Asked (ask_seen c.in-Ask.ask)) = rw c.in-Ask.is at seen in
    ok_then c.ask_directory.result c.ask_directory.ensures.asks (λ writes. (writes.0, (Asked (ask_seen c.in-Ask.ask), said, writes.1), writes.2, writes.3))

pub returns-in-Pass-clause-asks : goal.returns-in-Pass-clause-asks
returns-in-Pass-clause-asks g c =
    let seen : line_of c.args.line.now ≡ Some (line_seen c.in-Some.line) = sym (rw c.in-Some.is at c.in_ok-line.ensures) in
    let does : DoesLine g.H.NodeHash.digest_of g.V.VufCheck.accepted g.S.Verifier.verified (ExchangesFrames g.T.Write.contents g.T.Read.remaining) (background_of c.args.asker.now) (line_seen c.in-Some.line) (scene c.args.asker.now c.args.self.now.said c.args.stream.now) (scene c.args.asker.now c.args.self.now.said c.args.stream.now) = rw c.in-Pass.is refl in
    written_so c.settle.result (AsksLine g.H.NodeHash.digest_of g.V.VufCheck.accepted g.S.Verifier.verified (ExchangesFrames g.T.Write.contents g.T.Read.remaining) (background_of c.args.asker.now) c.args.line.now)
    (scene c.args.asker.now c.args.self.now.said c.args.stream.now) c.args.asker.now c.args.self.now.said c.settle.new.self.said c.args.stream.now
    (g.W.Write.contents c.args.writer.now) (g.W.Write.contents c.settle.new.writer) (ok_then c.settle.result c.settle.ensures.asked (λ same. (line_seen c.in-Some.line, seen, does))) c.settle.ensures.writes

pub returns-in-Watch-clause-asks : goal.returns-in-Watch-clause-asks
returns-in-Watch-clause-asks g c =
    let seen : line_of c.args.line.now ≡ Some (line_seen c.in-Some.line) = sym (rw c.in-Some.is at c.in_ok-line.ensures) in
    let begins = ok_then c.watch-watched.result c.watch-watched.ensures.begins (λ begins. (c.args.asker.now.changes.items, begins)) in
    let does : OnOk c.watch-watched.result (DoesLine g.H.NodeHash.digest_of g.V.VufCheck.accepted g.S.Verifier.verified (ExchangesFrames g.T.Write.contents g.T.Read.remaining) (background_of c.args.asker.now) (line_seen c.in-Some.line) (scene c.args.asker.now c.args.self.now.said c.args.stream.now) (scene c.watch-watched.new.self c.watch-watched.new.said c.watch-watched.new.stream)) = rw (c.in-Watch.is, ← c.as_ref.ensures.value) begins in
    written_so c.settle-in-Watch.result (AsksLine g.H.NodeHash.digest_of g.V.VufCheck.accepted g.S.Verifier.verified (ExchangesFrames g.T.Write.contents g.T.Read.remaining) (background_of c.args.asker.now) c.args.line.now)
    (scene c.args.asker.now c.args.self.now.said c.args.stream.now) c.watch-watched.new.self c.watch-watched.new.said c.settle-in-Watch.new.self.said c.watch-watched.new.stream
    (g.W.Write.contents c.args.writer.now) (g.W.Write.contents c.settle-in-Watch.new.writer) (ok_then c.settle-in-Watch.result (ok_before _ c.settle-in-Watch.result c.watch-watched.result tt c.settle-in-Watch.ensures.asked does) (λ done. (line_seen c.in-Some.line, seen, done))) c.settle-in-Watch.ensures.writes

pub returns-in-Ask-clause-part : goal.returns-in-Ask-clause-part
returns-in-Ask-clause-part g c =
    let seen : line_of c.args.line.now ≡ Some (line_seen c.in-Some.line) = sym (rw c.in-Some.is at c.in_ok-line.ensures) in
    let said : line_of c.args.line.now ≡ Some (Asked (ask_seen c.in-Ask.ask)) = rw c.in-Ask.is at seen in
    let (reached, does, holds) = c.ask_directory.ensures.part in
    (reached, inr (Asked (ask_seen c.in-Ask.ask), said, does), holds)

pub returns-in-Pass-clause-part : goal.returns-in-Pass-clause-part
returns-in-Pass-clause-part g c = ((scene c.args.asker.now c.args.self.now.said c.args.stream.now), inl refl, c.settle.ensures.leaves)

pub returns-in-Watch-clause-part : goal.returns-in-Watch-clause-part
returns-in-Watch-clause-part g c =
    let seen : line_of c.args.line.now ≡ Some (line_seen c.in-Some.line) = sym (rw c.in-Some.is at c.in_ok-line.ensures) in
    let reaches : (reached : Scene g.row.T.Denot) × DoesSome g.H.NodeHash.digest_of g.V.VufCheck.accepted g.S.Verifier.verified (ExchangesFrames g.T.Write.contents g.T.Read.remaining) (background_of c.args.asker.now) (line_seen c.in-Some.line) (scene c.args.asker.now c.args.self.now.said c.args.stream.now) reached × (report_of c.watch-watched.new.said ≡ reached.told) =
    rw c.in-Watch.is (watched_reaches g.H.NodeHash.digest_of g.V.VufCheck.accepted g.S.Verifier.verified (ExchangesFrames g.T.Write.contents g.T.Read.remaining) (background_of c.args.asker.now) c.in-Watch.name _ _ c.args.asker.now.changes.items c.watch-watched.result
    (scene c.args.asker.now c.args.self.now.said c.args.stream.now) (scene c.watch-watched.new.self c.watch-watched.new.said c.watch-watched.new.stream) c.watch-watched.new.self c.watch-watched.new.said c.as_ref.ensures.value refl c.watch-watched.ensures.begins c.watch-watched.ensures.halts) in
    reaches_whole (c.settle-in-Watch.result ≡ Err (Program CannotWrite)) (AsksSomeLine g.H.NodeHash.digest_of g.V.VufCheck.accepted g.S.Verifier.verified (ExchangesFrames g.T.Write.contents g.T.Read.remaining) (background_of c.args.asker.now) c.args.line.now (scene c.args.asker.now c.args.self.now.said c.args.stream.now))
    (report_of c.watch-watched.new.said) (g.W.Write.contents c.args.writer.now) (g.W.Write.contents c.settle-in-Watch.new.writer) c.settle-in-Watch.new.self.said
    (line_reaches g.H.NodeHash.digest_of g.V.VufCheck.accepted g.S.Verifier.verified (ExchangesFrames g.T.Write.contents g.T.Read.remaining) (background_of c.args.asker.now) c.args.line.now (line_seen c.in-Some.line) (report_of c.watch-watched.new.said) (scene c.args.asker.now c.args.self.now.said c.args.stream.now) seen reaches) c.settle-in-Watch.ensures.leaves

pub returns-in_err-line-clause-part : goal.returns-in_err-line-clause-part
returns-in_err-line-clause-part g c =
    line_not g.H.NodeHash.digest_of g.V.VufCheck.accepted g.S.Verifier.verified (ExchangesFrames g.T.Write.contents g.T.Read.remaining) (background_of c.args.asker.now) _ c.args.line.now
    (scene c.args.asker.now c.args.self.now.said c.args.stream.now) (g.W.Write.contents c.args.writer.now) c.args.self.now.said refl

pub returns-in_default-clause-part : goal.returns-in_default-clause-part
returns-in_default-clause-part g c =
    line_not g.H.NodeHash.digest_of g.V.VufCheck.accepted g.S.Verifier.verified (ExchangesFrames g.T.Write.contents g.T.Read.remaining) (background_of c.args.asker.now) _ c.args.line.now
    (scene c.args.asker.now c.args.self.now.said c.args.stream.now) (g.W.Write.contents c.args.writer.now) c.args.self.now.said refl

pub returns-in-Piece-clause-part : goal.returns-in-Piece-clause-part
returns-in-Piece-clause-part g c =
    line_not g.H.NodeHash.digest_of g.V.VufCheck.accepted g.S.Verifier.verified (ExchangesFrames g.T.Write.contents g.T.Read.remaining) (background_of c.args.asker.now) _ c.args.line.now
    (scene c.args.asker.now c.args.self.now.said c.args.stream.now) (g.W.Write.contents c.args.writer.now) c.args.self.now.said refl

pub returns-clause-part : goal.returns-clause-part
returns-clause-part g c =
    line_not g.H.NodeHash.digest_of g.V.VufCheck.accepted g.S.Verifier.verified (ExchangesFrames g.T.Write.contents g.T.Read.remaining) (background_of c.args.asker.now) _ c.args.line.now
    (scene c.args.asker.now c.args.self.now.said c.args.stream.now) (g.W.Write.contents c.args.writer.now) c.args.self.now.said refl

pub returns-in-Ask-clause-stands : goal.returns-in-Ask-clause-stands
returns-in-Ask-clause-stands g c = λ lines start old acts among stands.
    let seen : line_of c.args.line.now ≡ Some (line_seen c.in-Some.line) = sym (rw c.in-Some.is at c.in_ok-line.ensures) in
    let said : line_of c.args.line.now ≡ Some (Asked (ask_seen c.in-Ask.ask)) = rw c.in-Ask.is at seen in
    c.ask_directory.ensures.stands lines start old acts (among (Asked (ask_seen c.in-Ask.ask)) said) stands

pub returns-in-Pass-clause-stands : goal.returns-in-Pass-clause-stands
returns-in-Pass-clause-stands g c = λ lines start old acts among stands.
    let before = c.args.asker.now in
    let said = c.args.self.now.said in
    let out = (g.W.Write.contents c.args.writer.now) in
    let happened : List Act → Type 0 = λ done. g.K.Keeper.has c.args.keeper.now (done ++ acts) in
    let happened' : List Act → Type 0 = λ done. g.K.Keeper.has c.settle.new.keeper (done ++ acts) in
    let asked = prepared-asked g.H.NodeHash.digest_of g.V.VufCheck.accepted g.S.Verifier.verified lines start old happened before before said.text.items c.args.self.now.state out refl stands in
    let kept = state-saved g.H.NodeHash.digest_of g.V.VufCheck.accepted g.S.Verifier.verified lines before.key start old happened c.args.self.now.state out before.changes.items (standing before.client before.monitors.items said.text.items) stands.0 in
    let step = ok_step {P = Unit {0}} c.settle.result (Ok tt) c.settle.ensures.asked tt c.settle.ensures.keeps (λ whole keeps.
    same-step g.H.NodeHash.digest_of g.V.VufCheck.accepted g.S.Verifier.verified (ExchangesFrames g.T.Write.contents g.T.Read.remaining) lines start old happened before before said c.args.stream.now out (scene before said c.args.stream.now) said refl refl refl c.args.self.now.state c.settle.new.self.state said.text.items refl refl stands keeps) in (
      c.settle.ensures.kept lines before.key start old acts asked kept (λ some. stands.0),
      settled-run g.H.NodeHash.digest_of g.V.VufCheck.accepted g.S.Verifier.verified lines start old happened' before.key before refl c.settle.new.self.said said.status c.settle.result (Ok tt)
          c.settle.new.self.state (g.W.Write.contents c.settle.new.writer) c.settle.ensures.asked (told-so c.settle.result out (g.W.Write.contents c.settle.new.writer) said.text.items c.settle.new.self.said said.status c.settle.ensures.writes) stands.1
          (λ some. stands.2) step (ok_then c.settle.result c.settle.ensures.stands (λ goes some. goes lines before.key start old acts asked stands.0)),
    )

pub returns-in-Watch-clause-stands : goal.returns-in-Watch-clause-stands
returns-in-Watch-clause-stands g c = λ lines start old acts among stands.
    let before = c.args.asker.now in
    let after = c.watch-watched.new.self in
    let said = c.args.self.now.said in
    let said' = c.watch-watched.new.said in
    let out = (g.W.Write.contents c.args.writer.now) in
    let asked = c.watch-watched.result in
    let line = line_seen c.in-Some.line in
    let seen : line_of c.args.line.now ≡ Some (line_seen c.in-Some.line) = sym (rw c.in-Some.is at c.in_ok-line.ensures) in
    let happened : List Act → Type 0 = λ done. g.K.Keeper.has c.args.keeper.now (done ++ acts) in
    let happened' : List Act → Type 0 = λ done. g.K.Keeper.has c.settle-in-Watch.new.keeper (done ++ acts) in
    let state = c.args.self.now.state in
    let kept = state-saved g.H.NodeHash.digest_of g.V.VufCheck.accepted g.S.Verifier.verified lines before.key start old happened state out before.changes.items (standing before.client before.monitors.items said.text.items) stands.0 in
    let stays = same_background before after c.watch-watched.ensures.stays.0 c.watch-watched.ensures.stays.1 c.watch-watched.ensures.stays.2 c.watch-watched.ensures.stays.3 c.watch-watched.ensures.stays.5 in
    let same = c.watch-watched.ensures.stays.4 in
    let changes = prepared-asked g.H.NodeHash.digest_of g.V.VufCheck.accepted g.S.Verifier.verified lines start old happened before after said.text.items state out same stands in
    let stood : asked ≢ Err NoMemory → StandsIn (DoesSomeNoting g.H.NodeHash.digest_of g.V.VufCheck.accepted g.S.Verifier.verified (ExchangesFrames g.T.Write.contents g.T.Read.remaining) (background_of before) NoReply (line_seen c.in-Some.line) before.changes.items after.changes.items (scene c.args.asker.now c.args.self.now.said c.args.stream.now)) after said' =
    rw c.in-Watch.is (watched_stands g.H.NodeHash.digest_of g.V.VufCheck.accepted g.S.Verifier.verified (ExchangesFrames g.T.Write.contents g.T.Read.remaining) (background_of before) c.in-Watch.name _ _
    before.changes.items after.changes.items asked (scene c.args.asker.now c.args.self.now.said c.args.stream.now) after said' c.watch-watched.new.stream
    c.as_ref.ensures.value (ap (λ (changes : Vec SignedPromise Global). changes.items) same) c.watch-watched.ensures.begins c.watch-watched.ensures.err c.watch-watched.ensures.halts) in
    let enough : asked ≢ Err NoMemory → StateStands g.H.NodeHash.digest_of g.V.VufCheck.accepted g.S.Verifier.verified lines before.key start old happened state out after.changes.items (standing after.client after.monitors.items said'.text.items) = λ some.
    let (reached, does, told, client, monitors) = stood some in
    line-stands g.H.NodeHash.digest_of g.V.VufCheck.accepted g.S.Verifier.verified (ExchangesFrames g.T.Write.contents g.T.Read.remaining) lines start old happened before after said c.args.stream.now out reached said' told client monitors NoReply line state (among line seen) same does stands in
    let begins = ok_then asked c.watch-watched.ensures.begins (λ begins. (begins, ap (λ (changes : Vec SignedPromise Global). changes.items) same)) in
    let whole : OnOk asked (DoesLineNoting g.H.NodeHash.digest_of g.V.VufCheck.accepted g.S.Verifier.verified (ExchangesFrames g.T.Write.contents g.T.Read.remaining) (background_of before) (line_seen c.in-Some.line) before.changes.items after.changes.items (scene c.args.asker.now c.args.self.now.said c.args.stream.now) (scene after said' c.watch-watched.new.stream)) = rw (c.in-Watch.is, ← c.as_ref.ensures.value) begins in
    let step = ok_step c.settle-in-Watch.result asked c.settle-in-Watch.ensures.asked whole c.settle-in-Watch.ensures.keeps (λ does keeps.
    line-step g.H.NodeHash.digest_of g.V.VufCheck.accepted g.S.Verifier.verified (ExchangesFrames g.T.Write.contents g.T.Read.remaining) lines start old happened before after said c.args.stream.now out (scene after said' c.watch-watched.new.stream) said' refl refl refl line state c.settle-in-Watch.new.self.state said'.text.items (among line seen) stays same does stands keeps) in (
      c.settle-in-Watch.ensures.kept lines before.key start old acts changes kept enough,
      settled-run g.H.NodeHash.digest_of g.V.VufCheck.accepted g.S.Verifier.verified lines start old happened' before.key after (ap (λ (b : Background). b.key) stays) c.settle-in-Watch.new.self.said said'.status c.settle-in-Watch.result asked
          c.settle-in-Watch.new.self.state (g.W.Write.contents c.settle-in-Watch.new.writer) c.settle-in-Watch.ensures.asked (told-so c.settle-in-Watch.result out (g.W.Write.contents c.settle-in-Watch.new.writer) said'.text.items c.settle-in-Watch.new.self.said said'.status c.settle-in-Watch.ensures.writes)
          (stands.1 ∙ sym (ap (λ (b : Background). b.marks) stays))
          (λ some. let (reached, does, told, client, monitors) = stood some in
          line-ready g.H.NodeHash.digest_of g.V.VufCheck.accepted g.S.Verifier.verified (ExchangesFrames g.T.Write.contents g.T.Read.remaining) lines start old happened before after said c.args.stream.now out reached said' told client monitors NoReply line does stays same stands.2)
          step
          (ok_then c.settle-in-Watch.result c.settle-in-Watch.ensures.stands (λ goes some. goes lines before.key start old acts changes (enough some))),
    )

pub returns-in_err-line-clause-stands : goal.returns-in_err-line-clause-stands
returns-in_err-line-clause-stands g c = λ lines start old acts among stands. (
  state-kept g.H.NodeHash.digest_of g.V.VufCheck.accepted g.S.Verifier.verified lines c.args.asker.now.key start old (λ (done : List Act). g.K.Keeper.has c.args.keeper.now (done ++ acts)) c.args.self.now.state (g.W.Write.contents c.args.writer.now)
      c.args.asker.now.changes.items (standing c.args.asker.now.client c.args.asker.now.monitors.items c.args.self.now.said.text.items) stands.0,
  search rules,
)

pub returns-in_default-clause-stands : goal.returns-in_default-clause-stands
returns-in_default-clause-stands g c = λ lines start old acts among stands. (
  state-kept g.H.NodeHash.digest_of g.V.VufCheck.accepted g.S.Verifier.verified lines c.args.asker.now.key start old (λ (done : List Act). g.K.Keeper.has c.args.keeper.now (done ++ acts)) c.args.self.now.state (g.W.Write.contents c.args.writer.now)
      c.args.asker.now.changes.items (standing c.args.asker.now.client c.args.asker.now.monitors.items c.args.self.now.said.text.items) stands.0,
  tt,
)

pub returns-in-Piece-clause-stands : goal.returns-in-Piece-clause-stands
returns-in-Piece-clause-stands g c = λ lines start old acts among stands. (
  state-kept g.H.NodeHash.digest_of g.V.VufCheck.accepted g.S.Verifier.verified lines c.args.asker.now.key start old (λ (done : List Act). g.K.Keeper.has c.args.keeper.now (done ++ acts)) c.args.self.now.state (g.W.Write.contents c.args.writer.now)
      c.args.asker.now.changes.items (standing c.args.asker.now.client c.args.asker.now.monitors.items c.args.self.now.said.text.items) stands.0,
  tt,
)

pub returns-clause-stands : goal.returns-clause-stands
returns-clause-stands g c = λ lines start old acts among stands. (
  state-kept g.H.NodeHash.digest_of g.V.VufCheck.accepted g.S.Verifier.verified lines c.args.asker.now.key start old (λ (done : List Act). g.K.Keeper.has c.args.keeper.now (done ++ acts)) c.args.self.now.state (g.W.Write.contents c.args.writer.now)
      c.args.asker.now.changes.items (standing c.args.asker.now.client c.args.asker.now.monitors.items c.args.self.now.said.text.items) stands.0,
  tt,
)

pub returns-in-Watch-clause-rises : goal.returns-in-Watch-clause-rises
returns-in-Watch-clause-rises g c =
    rises_on c.args.self.now.said.status c.watch-watched.new.said.status c.settle-in-Watch.new.self.said.status
    (watch_rises g.H.NodeHash.digest_of g.V.VufCheck.accepted g.S.Verifier.verified (ExchangesFrames g.T.Write.contents g.T.Read.remaining) c.args.asker.now.known c.args.asker.now.marks.items c.args.asker.now.key
    (own_for c.args.asker.now.marks.items c.in-Watch.name c.args.asker.now.earlier.items c.args.asker.now.changes.items) _ _ c.watch-watched.result (scene c.args.asker.now c.args.self.now.said c.args.stream.now) (scene c.watch-watched.new.self c.watch-watched.new.said c.watch-watched.new.stream)
    c.watch-watched.new.self c.watch-watched.new.said refl c.watch-watched.ensures.begins c.watch-watched.ensures.halts) (omega (arith, c.settle-in-Watch.ensures.status))

pub returns-in-Ask-clause-marks : goal.returns-in-Ask-clause-marks
returns-in-Ask-clause-marks g c =
    let seen : line_of c.args.line.now ≡ Some (line_seen c.in-Some.line) = sym (rw c.in-Some.is at c.in_ok-line.ensures) in
    let said : line_of c.args.line.now ≡ Some (Asked (ask_seen c.in-Ask.ask)) = rw c.in-Ask.is at seen in
    ok_known c.ask_directory.result c.ask_directory.ensures.marks (λ done was marks lines start old acts among stands.
    let says = among (Asked (ask_seen c.in-Ask.ask)) said in
    (ok_have c.ask_directory.result was (c.ask_directory.ensures.stands lines start old acts says stands).1, marks lines start old acts says stands))

pub returns-in-Pass-clause-marks : goal.returns-in-Pass-clause-marks
returns-in-Pass-clause-marks g c =
    let before = c.args.asker.now in
    let said = c.args.self.now.said in
    let out = g.W.Write.contents c.args.writer.now in
    let out' = g.W.Write.contents c.settle.new.writer in
    let state = c.args.self.now.state in
    let written = told-so c.settle.result out out' said.text.items c.settle.new.self.said said.status c.settle.ensures.writes in
    ok_all c.settle.result c.settle.ensures.asked c.settle.ensures.stands written c.settle.ensures.keeps (λ is goes empty keeps lines start old acts among stands.
    let happened : List Act → Type 0 = λ done. g.K.Keeper.has c.args.keeper.now (done ++ acts) in
    let happened' : List Act → Type 0 = λ done. g.K.Keeper.has c.settle.new.keeper (done ++ acts) in
    let asked = prepared-asked g.H.NodeHash.digest_of g.V.VufCheck.accepted g.S.Verifier.verified lines start old happened before before said.text.items state out refl stands in
    let step = same-step g.H.NodeHash.digest_of g.V.VufCheck.accepted g.S.Verifier.verified (ExchangesFrames g.T.Write.contents g.T.Read.remaining) lines start old happened before before said c.args.stream.now out (scene before said c.args.stream.now) said refl refl refl state c.settle.new.self.state said.text.items refl refl stands keeps in (
      settled-stands g.H.NodeHash.digest_of g.V.VufCheck.accepted g.S.Verifier.verified lines start old happened' before.key before refl c.settle.new.self.said said.status c.settle.new.self.state out' empty stands.1 stands.2 step
          (goes lines before.key start old acts asked stands.0),
      here-marks g.H.NodeHash.digest_of g.V.VufCheck.accepted g.S.Verifier.verified (ExchangesFrames g.T.Write.contents g.T.Read.remaining) lines start old happened before before said c.args.stream.now out (scene before said c.args.stream.now) said refl refl refl
          state c.settle.new.self.state said.text.items refl stands keeps,
    ))

pub returns-in-Watch-clause-marks : goal.returns-in-Watch-clause-marks
returns-in-Watch-clause-marks g c =
    let before = c.args.asker.now in
    let after = c.watch-watched.new.self in
    let said = c.args.self.now.said in
    let said' = c.watch-watched.new.said in
    let out = g.W.Write.contents c.args.writer.now in
    let out' = g.W.Write.contents c.settle-in-Watch.new.writer in
    let asked = c.watch-watched.result in
    let line = line_seen c.in-Some.line in
    let state = c.args.self.now.state in
    let seen : line_of c.args.line.now ≡ Some (line_seen c.in-Some.line) = sym (rw c.in-Some.is at c.in_ok-line.ensures) in
    let stays = same_background before after c.watch-watched.ensures.stays.0 c.watch-watched.ensures.stays.1 c.watch-watched.ensures.stays.2 c.watch-watched.ensures.stays.3 c.watch-watched.ensures.stays.5 in
    let stood : asked ≢ Err NoMemory → StandsIn (DoesSomeNoting g.H.NodeHash.digest_of g.V.VufCheck.accepted g.S.Verifier.verified (ExchangesFrames g.T.Write.contents g.T.Read.remaining) (background_of before) NoReply (line_seen c.in-Some.line) before.changes.items after.changes.items (scene c.args.asker.now c.args.self.now.said c.args.stream.now)) after said' =
    rw c.in-Watch.is (watched_stands g.H.NodeHash.digest_of g.V.VufCheck.accepted g.S.Verifier.verified (ExchangesFrames g.T.Write.contents g.T.Read.remaining) (background_of before) c.in-Watch.name _ _
    before.changes.items after.changes.items asked (scene c.args.asker.now c.args.self.now.said c.args.stream.now) after said' c.watch-watched.new.stream
    c.as_ref.ensures.value (ap (λ (changes : Vec SignedPromise Global). changes.items) c.watch-watched.ensures.stays.4) c.watch-watched.ensures.begins c.watch-watched.ensures.err c.watch-watched.ensures.halts) in
    let same = c.watch-watched.ensures.stays.4 in
    let begins = ok_then asked c.watch-watched.ensures.begins (λ begins. (begins, ap (λ (changes : Vec SignedPromise Global). changes.items) same)) in
    let whole : OnOk asked (DoesLineNoting g.H.NodeHash.digest_of g.V.VufCheck.accepted g.S.Verifier.verified (ExchangesFrames g.T.Write.contents g.T.Read.remaining) (background_of before) (line_seen c.in-Some.line) before.changes.items after.changes.items (scene c.args.asker.now c.args.self.now.said c.args.stream.now) (scene after said' c.watch-watched.new.stream)) = rw (c.in-Watch.is, ← c.as_ref.ensures.value) begins in
    let written = told-so c.settle-in-Watch.result out out' said'.text.items c.settle-in-Watch.new.self.said said'.status c.settle-in-Watch.ensures.writes in
    ok_all c.settle-in-Watch.result c.settle-in-Watch.ensures.asked c.settle-in-Watch.ensures.stands written c.settle-in-Watch.ensures.keeps (λ is goes empty keeps lines start old acts among stands.
    let happened : List Act → Type 0 = λ done. g.K.Keeper.has c.args.keeper.now (done ++ acts) in
    let happened' : List Act → Type 0 = λ done. g.K.Keeper.has c.settle-in-Watch.new.keeper (done ++ acts) in
    let (reached, does, told, client, monitors) = stood (was_asked asked tt is) in
    let changes = prepared-asked g.H.NodeHash.digest_of g.V.VufCheck.accepted g.S.Verifier.verified lines start old happened before after said.text.items state out same stands in
    let here = line-stands g.H.NodeHash.digest_of g.V.VufCheck.accepted g.S.Verifier.verified (ExchangesFrames g.T.Write.contents g.T.Read.remaining) lines start old happened before after said c.args.stream.now out reached said' told client monitors NoReply line state (among line seen) same does stands in
    let ready = line-ready g.H.NodeHash.digest_of g.V.VufCheck.accepted g.S.Verifier.verified (ExchangesFrames g.T.Write.contents g.T.Read.remaining) lines start old happened before after said c.args.stream.now out reached said' told client monitors NoReply line does stays same stands.2 in
    let done = ok_have asked is whole in
    let step = line-step g.H.NodeHash.digest_of g.V.VufCheck.accepted g.S.Verifier.verified (ExchangesFrames g.T.Write.contents g.T.Read.remaining) lines start old happened before after said c.args.stream.now out (scene after said' c.watch-watched.new.stream) said' refl refl refl line state c.settle-in-Watch.new.self.state said'.text.items (among line seen) stays same done stands keeps in (
      settled-stands g.H.NodeHash.digest_of g.V.VufCheck.accepted g.S.Verifier.verified lines start old happened' before.key after (ap (λ (b : Background). b.key) stays) c.settle-in-Watch.new.self.said said'.status c.settle-in-Watch.new.self.state out' empty
          (stands.1 ∙ sym (ap (λ (b : Background). b.marks) stays)) ready step (goes lines before.key start old acts changes here),
      line-marks g.H.NodeHash.digest_of g.V.VufCheck.accepted g.S.Verifier.verified (ExchangesFrames g.T.Write.contents g.T.Read.remaining) lines start old happened before after said c.args.stream.now out reached said' told client monitors NoReply line state c.settle-in-Watch.new.self.state said'.text.items (among line seen) same does stands keeps,
    ))

pub returns-in-Ask-clause-noted : goal.returns-in-Ask-clause-noted
returns-in-Ask-clause-noted g c = λ had.
    let seen : line_of c.args.line.now ≡ Some (line_seen c.in-Some.line) = sym (rw c.in-Some.is at c.in_ok-line.ensures) in
    let said : line_of c.args.line.now ≡ Some (Asked (ask_seen c.in-Ask.ask)) = rw c.in-Ask.is at seen in
    let (there, does, noted) = c.ask_directory.ensures.noted had in
    (there, inr (Asked (ask_seen c.in-Ask.ask), said, does), noted)

pub returns-in-Pass-clause-noted : goal.returns-in-Pass-clause-noted
returns-in-Pass-clause-noted g c = λ had.
    let start = scene c.args.asker.now c.args.self.now.said c.args.stream.now in
    settled_noted (AsksSomeLine g.H.NodeHash.digest_of g.V.VufCheck.accepted g.S.Verifier.verified (ExchangesFrames g.T.Write.contents g.T.Read.remaining) (background_of c.args.asker.now) c.args.line.now start)
    c.args.asker.now.marks.items c.args.asker.now (Ok tt) _ c.args.self.now.limit c.settle.new.self.limit refl (λ some. (start, inl refl, refl, refl)) (start, inl refl, had) c.settle.ensures.noted

pub returns-in-Watch-clause-noted : goal.returns-in-Watch-clause-noted
returns-in-Watch-clause-noted g c = λ had.
    let before = c.args.asker.now in
    let after = c.watch-watched.new.self in
    let said' = c.watch-watched.new.said in
    let asked = c.watch-watched.result in
    let start = scene c.args.asker.now c.args.self.now.said c.args.stream.now in
    let seen : line_of c.args.line.now ≡ Some (line_seen c.in-Some.line) = sym (rw c.in-Some.is at c.in_ok-line.ensures) in
    let stood : asked ≢ Err NoMemory → StandsIn (DoesSomeNoting g.H.NodeHash.digest_of g.V.VufCheck.accepted g.S.Verifier.verified (ExchangesFrames g.T.Write.contents g.T.Read.remaining) (background_of before) NoReply (line_seen c.in-Some.line) before.changes.items after.changes.items (scene c.args.asker.now c.args.self.now.said c.args.stream.now)) after said' =
    rw c.in-Watch.is (watched_stands g.H.NodeHash.digest_of g.V.VufCheck.accepted g.S.Verifier.verified (ExchangesFrames g.T.Write.contents g.T.Read.remaining) (background_of before) c.in-Watch.name _ _
    before.changes.items after.changes.items asked (scene c.args.asker.now c.args.self.now.said c.args.stream.now) after said' c.watch-watched.new.stream
    c.as_ref.ensures.value (ap (λ (changes : Vec SignedPromise Global). changes.items) c.watch-watched.ensures.stays.4) c.watch-watched.ensures.begins c.watch-watched.ensures.err c.watch-watched.ensures.halts) in
    settled_noted (AsksSomeLine g.H.NodeHash.digest_of g.V.VufCheck.accepted g.S.Verifier.verified (ExchangesFrames g.T.Write.contents g.T.Read.remaining) (background_of c.args.asker.now) c.args.line.now start)
    before.marks.items after asked _ c.args.self.now.limit c.settle-in-Watch.new.self.limit (ap (λ (ms : Vec Mark Global). ms.items) c.watch-watched.ensures.stays.2)
    (λ some. let (reached, does, told, client, monitors) = stood some in (
      reached,
      inr (line_seen c.in-Some.line, seen, does_noting g.H.NodeHash.digest_of g.V.VufCheck.accepted g.S.Verifier.verified (ExchangesFrames g.T.Write.contents g.T.Read.remaining) (background_of before) NoReply (line_seen c.in-Some.line) before.changes.items after.changes.items start reached does),
      client,
      monitors,
    ))
    (start, inl refl, had) c.settle-in-Watch.ensures.noted

pub returns-in_err-line-clause-noted : goal.returns-in_err-line-clause-noted
returns-in_err-line-clause-noted g c = λ had. (scene c.args.asker.now c.args.self.now.said c.args.stream.now, inl refl, had)

pub returns-in_default-clause-noted : goal.returns-in_default-clause-noted
returns-in_default-clause-noted g c = λ had. (scene c.args.asker.now c.args.self.now.said c.args.stream.now, inl refl, had)

pub returns-in-Piece-clause-noted : goal.returns-in-Piece-clause-noted
returns-in-Piece-clause-noted g c = λ had. (scene c.args.asker.now c.args.self.now.said c.args.stream.now, inl refl, had)

pub returns-clause-noted : goal.returns-clause-noted
returns-clause-noted g c = λ had. (scene c.args.asker.now c.args.self.now.said c.args.stream.now, inl refl, had)
