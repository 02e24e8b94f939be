use Rattle.std.proofs.Common.{◌∙◌, ℕ, [], ◌++◌, List, ap, refl, rules}
use Rattle.textio.specs.Lines.{lines_of}
use Rattle.memory.specs.Texts.{items_text}
use Rattle.memory.specs.declared.kind.Kind.TheVariants.{Alarms}
use Rattle.memory.proofs.Learned.{text_grows}
use Rattle.runs.specs.Saves.{Act}
use Rattle.runs.specs.Standing.{standing}
use Rattle.runs.proofs.AskedOwn.{lines-promises, some-lines-promises}
use Rattle.runs.proofs.Earlier.{ok_so}
use Rattle.runs.proofs.Keeping.{learned_after}
use Rattle.runs.proofs.PutMarks.{lines-stay, same-marks, some-lines-marks}
use Rattle.runs.proofs.Saving.{may-among, stands-on, stands-saved, stands-so}
use Rattle.runs.proofs.Stood.{stands-same, unchanged-adds, unchanged-own}
use Rattle.runs.proofs.state.State.save.Goals as goal

pub returns-clause-learns : goal.returns-clause-learns
returns-clause-learns g c =
    let (alarms, tells, grown) = c.in_ok-learn_told.ensures.ok in
    let (some, marked, may, marks, longer) = c.in_ok-learn_marks.ensures.learns in
    ok_so c.hand_on.result (
      some,
      may,
      learned_after c.args.told.now c.args.asker.now.monitors.items some c.args.self.now.memory c.learn_told.new.self c.learn_marks.new.self.memory c.hand_on.new.self.memory alarms marked
          tells marks c.hand_on.ensures.same.0,
    )

pub returns-in_err-learn_told-clause-kept : goal.returns-in_err-learn_told-clause-kept
returns-in_err-learn_told-clause-kept g c = λ lines key start old acts up-to stands.
    let known = c.args.self.now.memory in
    let middle = c.learn_told.new.self in
    let monitors = c.args.asker.now.monitors.items in
    let out = g.W.Write.contents c.args.writer.now in
    let now = standing c.args.asker.now.client monitors [] in
    let before : List Act → Type 0 = λ done. g.K.Keeper.has c.args.keeper.now (done ++ acts) in
    let (alarms, taken) = c.in_err-learn_told.ensures.some in
    let same = some-lines-marks Alarms (lines_of c.args.told.now) known middle c.in_err-learn_told.ensures.err in (
      alarms,
      stands-same g.H.NodeHash.digest_of g.V.VufCheck.accepted g.S.Verifier.verified lines key start old before c.args.self.now.epoch known [] out c.args.asker.now.changes.items now stands middle alarms taken same (same-marks known middle same)
          (unchanged-own lines start.known known middle (some-lines-promises Alarms (lines_of c.args.told.now) known middle c.in_err-learn_told.ensures.err))
          (unchanged-adds c.args.asker.now.changes.items known middle (some-lines-promises Alarms (lines_of c.args.told.now) known middle c.in_err-learn_told.ensures.err)),
      search rules,
    )

pub returns-in_err-learn_marks-clause-kept : goal.returns-in_err-learn_marks-clause-kept
returns-in_err-learn_marks-clause-kept g c = λ lines key start old acts up-to stands.
    let known = c.args.self.now.memory in
    let middle = c.learn_told.new.self in
    let monitors = c.args.asker.now.monitors.items in
    let out = g.W.Write.contents c.args.writer.now in
    let now = standing c.args.asker.now.client monitors [] in
    let before : List Act → Type 0 = λ done. g.K.Keeper.has c.args.keeper.now (done ++ acts) in
    let (told, tells, grown) = c.in_ok-learn_told.ensures.ok in
    let (alarms, taken, first-lines) = c.in_ok-learn_told.ensures.takes in
    let same = lines-stay Alarms (lines_of c.args.told.now) known middle told tells in
    let promises = lines-promises Alarms (lines_of c.args.told.now) known middle told tells in
    let (done, news, among, each) = c.in_err-learn_marks.ensures.some in
    let (marks, moved) = c.in_err-learn_marks.ensures.taken in (
      alarms ++ marks,
      stands-so g.H.NodeHash.digest_of g.V.VufCheck.accepted g.S.Verifier.verified lines key start old before c.args.self.now.epoch c.learn_marks.new.self.epoch c.learn_marks.new.self.memory c.learn_marks.new.self.memory (alarms ++ marks) out c.args.asker.now.changes.items now c.learn_marks.ensures.same.0 refl
          (stands-saved g.H.NodeHash.digest_of g.V.VufCheck.accepted g.S.Verifier.verified lines key start old before c.args.self.now.epoch known middle c.learn_marks.new.self.memory out c.args.asker.now.changes.items c.args.asker.now.client monitors done news alarms marks stands up-to same promises among each taken moved),
      search rules,
    )

pub returns-clause-kept : goal.returns-clause-kept
returns-clause-kept g c = λ lines key start old acts up-to stands.
    let known = c.args.self.now.memory in
    let middle = c.learn_told.new.self in
    let monitors = c.args.asker.now.monitors.items in
    let out = g.W.Write.contents c.args.writer.now in
    let now = standing c.args.asker.now.client monitors [] in
    let before : List Act → Type 0 = λ done. g.K.Keeper.has c.args.keeper.now (done ++ acts) in
    let (told, tells, grown) = c.in_ok-learn_told.ensures.ok in
    let (alarms, taken, first-lines) = c.in_ok-learn_told.ensures.takes in
    let same = lines-stay Alarms (lines_of c.args.told.now) known middle told tells in
    let promises = lines-promises Alarms (lines_of c.args.told.now) known middle told tells in
    let (some, news, may, each, longer) = c.in_ok-learn_marks.ensures.learns in
    let (marks, moved, last-lines) = c.in_ok-learn_marks.ensures.takes in
    let among = may-among c.args.asker.now.client.chain c.args.self.now.head c.args.self.now.was_new c.args.self.now.monitors monitors some may in
    let stood = stands-saved g.H.NodeHash.digest_of g.V.VufCheck.accepted g.S.Verifier.verified lines key start old before c.args.self.now.epoch known middle c.learn_marks.new.self.memory out c.args.asker.now.changes.items c.args.asker.now.client monitors some news alarms marks stands up-to same promises among each taken moved in
    let whole = c.deref.ensures.value ∙ text_grows [] c.learn_told.new.lines.items c.learn_marks.new.lines.items alarms marks (first-lines ∙ ap (λ (t : List ℕ). t ++ items_text alarms) c.new-lines.ensures.items) last-lines in
    let handed = stands-on g.H.NodeHash.digest_of g.V.VufCheck.accepted g.S.Verifier.verified lines key start old before (λ (done : List Act). g.K.Keeper.has c.hand_on.new.keeper (done ++ acts)) c.args.self.now.epoch c.hand_on.new.self.epoch c.learn_marks.new.self.memory c.hand_on.new.self.memory (alarms ++ marks) c.deref.result.now out c.args.asker.now.changes.items now
    (c.hand_on.ensures.same.1 ∙ c.learn_marks.ensures.same.0) c.hand_on.ensures.same.0 whole (λ done has. c.hand_on.ensures.hands (done ++ acts) has) stood in
    ([], handed, search rules)
