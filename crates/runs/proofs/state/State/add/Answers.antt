use Rattle.std.proofs.Common.{◌∙◌, [], ◌++◌, ℕ, List, ap, drop, refl}
use Rattle.textio.specs.Lines.{lines_of}
use Rattle.memory.specs.Memories.{Memory}
use Rattle.memory.specs.Texts.{items_text}
use Rattle.memory.specs.declared.kind.Kind.TheVariants.{EvidenceLines}
use Rattle.memory.proofs.Learned.{text_grows}
use Rattle.monitor.specs.Monitors.{Monitor}
use Rattle.runs.specs.Saves.{Act}
use Rattle.runs.specs.Standing.{standing}
use Rattle.runs.proofs.Adding.{begun-among, kept-stay}
use Rattle.runs.proofs.AskedOwn.{asked-formed, begun-promises, changes-add, changes-asked, late-stays, lines-promises, some-begun-promises, some-lines-promises}
use Rattle.runs.proofs.Earlier.{ok_so}
use Rattle.runs.proofs.Keeping.{learned_before}
use Rattle.runs.proofs.PutMarks.{begun-marks, lines-marks, lines-stay, monitors-put, same-marks, some-lines-marks, some-monitors-marks}
use Rattle.runs.proofs.Saving.{kept-on, kept-so, stands-on, stands-so}
use Rattle.runs.proofs.Stood.{kept-known, kept-roots, stands-begun, stands-roots, stands-same, unchanged-adds, unchanged-own}
use Rattle.runs.proofs.state.State.add.Goals as goal

pub returns-clause-learns : goal.returns-clause-learns
returns-clause-learns g c =
    let (shown, shows, grown) = c.in_ok-learn_told.ensures.ok in
    let (promised, learns, longer) = c.in_ok-learn_kept.ensures.learns in
    let (marked, marks, longest) = c.in_ok-mark_begun.ensures.ok in
    let (memory, changes, head, known, was) = c.hand_roots.ensures.same in
    let (epoch', head', known', was') = c.learn_kept.ensures.same in
    let all = c.args.asker.now.monitors.items in
    let own = ap (λ (count : ℕ). drop count c.args.asker.now.changes.items) changes in
    let seen = ap (λ (count : ℕ). drop count c.args.asker.now.finals.seen) c.hand_roots.ensures.finals in
    let begun = c.behind-begun.ensures ∙ ap (λ (ms : List Monitor). drop c.learn_kept.new.self.monitors ms) c.deref.ensures.value ∙ ap (λ (count : ℕ). drop count all) (known' ∙ known) in
    ok_so c.hand_on.result (learned_before (drop c.args.self.now.changes c.args.asker.now.changes.items) (drop c.hand_roots.new.self.changes c.args.asker.now.changes.items)
    c.args.asker.now.client.promises (drop c.args.self.now.finals c.args.asker.now.finals.seen) (drop c.hand_roots.new.self.finals c.args.asker.now.finals.seen) c.args.told.now (drop c.args.self.now.monitors all) c.behind-begun.result.now
    c.args.self.now.memory c.learn_told.new.self c.hand_roots.new.self.memory c.learn_kept.new.self.memory c.mark_begun.new.self c.hand_on.new.self.memory shown promised marked
    shows memory own seen learns begun marks c.hand_on.ensures.same.0)

pub returns-clause-looked : goal.returns-clause-looked
returns-clause-looked g c =
    let (memory, changes, head, known, was) = c.hand_roots.ensures.same in
    let (epoch', head', known', was') = c.learn_kept.ensures.same in
    let (last, epoch'', changes'', head'', known'', was'') = c.hand_on.ensures.same in
    (head'' ∙ head' ∙ head, known'' ∙ known' ∙ known, was'' ∙ was' ∙ was)

pub returns-in_err-learn_told-clause-kept : goal.returns-in_err-learn_told-clause-kept
returns-in_err-learn_told-clause-kept g c = λ lines key start old acts (asked, late) kept.
    let known = c.args.self.now.memory in
    let out = g.W.Write.contents c.args.writer.now in
    let before : List Act → Type 0 = λ done. g.K.Keeper.has c.args.keeper.now (done ++ acts) in
    let (evidence, taken) = c.in_err-learn_told.ensures.some in
    let same = some-lines-marks EvidenceLines (lines_of c.args.told.now) known c.learn_told.new.self c.in_err-learn_told.ensures.err in (
      evidence,
      kept-known g.H.NodeHash.digest_of g.V.VufCheck.accepted g.S.Verifier.verified lines key start old before c.args.self.now.epoch known [] out kept c.learn_told.new.self evidence taken (same-marks known c.learn_told.new.self same)
          (unchanged-own lines start.known known c.learn_told.new.self (some-lines-promises EvidenceLines (lines_of c.args.told.now) known c.learn_told.new.self c.in_err-learn_told.ensures.err)),
    )

pub returns-in_err-hand_roots-clause-kept : goal.returns-in_err-hand_roots-clause-kept
returns-in_err-hand_roots-clause-kept g c = λ lines key start old acts (asked, late) kept.
    let known = c.args.self.now.memory in
    let out = g.W.Write.contents c.args.writer.now in
    let before : List Act → Type 0 = λ done. g.K.Keeper.has c.args.keeper.now (done ++ acts) in
    let (shown, shows, grown) = c.in_ok-learn_told.ensures.ok in
    let (evidence, taken, first-lines) = c.in_ok-learn_told.ensures.takes in
    let first = kept-known g.H.NodeHash.digest_of g.V.VufCheck.accepted g.S.Verifier.verified lines key start old before c.args.self.now.epoch known [] out kept c.learn_told.new.self evidence taken (lines-marks EvidenceLines (lines_of c.args.told.now) known c.learn_told.new.self shown shows)
    (unchanged-own lines start.known known c.learn_told.new.self (lines-promises EvidenceLines (lines_of c.args.told.now) known c.learn_told.new.self shown shows)) in
    let after : List Act → Type 0 = λ done. g.K.Keeper.has c.hand_roots.new.keeper (done ++ acts) in
    let rooted = kept-so g.H.NodeHash.digest_of g.V.VufCheck.accepted g.S.Verifier.verified lines key start old after c.hand_roots.new.self.epoch c.hand_roots.new.self.epoch c.learn_told.new.self c.hand_roots.new.self.memory evidence out refl c.hand_roots.ensures.same.0
    (kept-roots g.H.NodeHash.digest_of g.V.VufCheck.accepted g.S.Verifier.verified lines key start old before c.args.self.now.epoch c.learn_told.new.self evidence out first after c.hand_roots.new.self.epoch c.args.asker.now.client.chain.roots c.hand_roots.ensures.rises (λ done has. c.hand_roots.ensures.hands (done ++ acts) has)) in
    (evidence, rooted)

pub returns-in_err-learn_kept-clause-kept : goal.returns-in_err-learn_kept-clause-kept
returns-in_err-learn_kept-clause-kept g c = λ lines key start old acts (asked, late) kept.
    let known = c.args.self.now.memory in
    let out = g.W.Write.contents c.args.writer.now in
    let before : List Act → Type 0 = λ done. g.K.Keeper.has c.args.keeper.now (done ++ acts) in
    let (shown, shows, grown) = c.in_ok-learn_told.ensures.ok in
    let (evidence, taken, first-lines) = c.in_ok-learn_told.ensures.takes in
    let first = kept-known g.H.NodeHash.digest_of g.V.VufCheck.accepted g.S.Verifier.verified lines key start old before c.args.self.now.epoch known [] out kept c.learn_told.new.self evidence taken (lines-marks EvidenceLines (lines_of c.args.told.now) known c.learn_told.new.self shown shows)
    (unchanged-own lines start.known known c.learn_told.new.self (lines-promises EvidenceLines (lines_of c.args.told.now) known c.learn_told.new.self shown shows)) in
    let after : List Act → Type 0 = λ done. g.K.Keeper.has c.hand_roots.new.keeper (done ++ acts) in
    let rooted = kept-so g.H.NodeHash.digest_of g.V.VufCheck.accepted g.S.Verifier.verified lines key start old after c.hand_roots.new.self.epoch c.hand_roots.new.self.epoch c.learn_told.new.self c.hand_roots.new.self.memory evidence out refl c.hand_roots.ensures.same.0
    (kept-roots g.H.NodeHash.digest_of g.V.VufCheck.accepted g.S.Verifier.verified lines key start old before c.args.self.now.epoch c.learn_told.new.self evidence out first after c.hand_roots.new.self.epoch c.args.asker.now.client.chain.roots c.hand_roots.ensures.rises (λ done has. c.hand_roots.ensures.hands (done ++ acts) has)) in
    let formed = asked-formed lines start.known c.args.asker.now.changes.items asked in
    let new = late-stays known c.hand_roots.new.self.memory c.args.asker.now.changes.items c.args.self.now.changes c.hand_roots.new.self.changes
    (ap (λ (m : Memory). m.marks) c.hand_roots.ensures.same.0 ∙ lines-stay EvidenceLines (lines_of c.args.told.now) known c.learn_told.new.self shown shows) c.hand_roots.ensures.same.1 late in
    let (promises, taken') = c.in_err-learn_kept.ensures.taken formed in (
      evidence ++ promises,
      kept-so g.H.NodeHash.digest_of g.V.VufCheck.accepted g.S.Verifier.verified lines key start old after c.hand_roots.new.self.epoch c.learn_kept.new.self.epoch c.learn_kept.new.self.memory c.learn_kept.new.self.memory (evidence ++ promises) out c.learn_kept.ensures.same.0 refl
          (kept-known g.H.NodeHash.digest_of g.V.VufCheck.accepted g.S.Verifier.verified lines key start old after c.hand_roots.new.self.epoch c.hand_roots.new.self.memory evidence out rooted c.learn_kept.new.self.memory promises taken' c.in_err-learn_kept.ensures.some
          (changes-asked lines start.known c.args.asker.now.changes.items c.hand_roots.new.self.changes c.hand_roots.new.self.memory c.learn_kept.new.self.memory asked new c.learn_kept.ensures.own)),
    )

pub returns-in_err-mark_begun-clause-kept : goal.returns-in_err-mark_begun-clause-kept
returns-in_err-mark_begun-clause-kept g c = λ lines key start old acts (asked, late) kept.
    let known = c.args.self.now.memory in
    let out = g.W.Write.contents c.args.writer.now in
    let before : List Act → Type 0 = λ done. g.K.Keeper.has c.args.keeper.now (done ++ acts) in
    let (shown, shows, grown) = c.in_ok-learn_told.ensures.ok in
    let (evidence, taken, first-lines) = c.in_ok-learn_told.ensures.takes in
    let first = kept-known g.H.NodeHash.digest_of g.V.VufCheck.accepted g.S.Verifier.verified lines key start old before c.args.self.now.epoch known [] out kept c.learn_told.new.self evidence taken (lines-marks EvidenceLines (lines_of c.args.told.now) known c.learn_told.new.self shown shows)
    (unchanged-own lines start.known known c.learn_told.new.self (lines-promises EvidenceLines (lines_of c.args.told.now) known c.learn_told.new.self shown shows)) in
    let after : List Act → Type 0 = λ done. g.K.Keeper.has c.hand_roots.new.keeper (done ++ acts) in
    let rooted = kept-so g.H.NodeHash.digest_of g.V.VufCheck.accepted g.S.Verifier.verified lines key start old after c.hand_roots.new.self.epoch c.hand_roots.new.self.epoch c.learn_told.new.self c.hand_roots.new.self.memory evidence out refl c.hand_roots.ensures.same.0
    (kept-roots g.H.NodeHash.digest_of g.V.VufCheck.accepted g.S.Verifier.verified lines key start old before c.args.self.now.epoch c.learn_told.new.self evidence out first after c.hand_roots.new.self.epoch c.args.asker.now.client.chain.roots c.hand_roots.ensures.rises (λ done has. c.hand_roots.ensures.hands (done ++ acts) has)) in
    let formed = asked-formed lines start.known c.args.asker.now.changes.items asked in
    let new = late-stays known c.hand_roots.new.self.memory c.args.asker.now.changes.items c.args.self.now.changes c.hand_roots.new.self.changes
    (ap (λ (m : Memory). m.marks) c.hand_roots.ensures.same.0 ∙ lines-stay EvidenceLines (lines_of c.args.told.now) known c.learn_told.new.self shown shows) c.hand_roots.ensures.same.1 late in
    let (promised, learns, longer) = c.in_ok-learn_kept.ensures.learns in
    let (promises, taken', more-lines) = c.in_ok-learn_kept.ensures.takes formed in
    let stays = kept-stay (drop c.hand_roots.new.self.changes c.args.asker.now.changes.items) c.args.asker.now.client.promises (drop c.hand_roots.new.self.finals c.args.asker.now.finals.seen) c.hand_roots.new.self.memory c.learn_kept.new.self.memory promised learns in
    let told = kept-so g.H.NodeHash.digest_of g.V.VufCheck.accepted g.S.Verifier.verified lines key start old after c.hand_roots.new.self.epoch c.learn_kept.new.self.epoch c.learn_kept.new.self.memory c.learn_kept.new.self.memory (evidence ++ promises) out c.learn_kept.ensures.same.0 refl
    (kept-known g.H.NodeHash.digest_of g.V.VufCheck.accepted g.S.Verifier.verified lines key start old after c.hand_roots.new.self.epoch c.hand_roots.new.self.memory evidence out rooted c.learn_kept.new.self.memory promises taken' (same-marks c.hand_roots.new.self.memory c.learn_kept.new.self.memory stays)
    (changes-asked lines start.known c.args.asker.now.changes.items c.hand_roots.new.self.changes c.hand_roots.new.self.memory c.learn_kept.new.self.memory asked new c.learn_kept.ensures.own)) in
    let (begins, begun') = c.in_err-mark_begun.ensures.some in (
      evidence ++ promises ++ begins,
      kept-known g.H.NodeHash.digest_of g.V.VufCheck.accepted g.S.Verifier.verified lines key start old after c.learn_kept.new.self.epoch c.learn_kept.new.self.memory (evidence ++ promises) out told c.mark_begun.new.self begins begun' (some-monitors-marks c.behind-begun.result.now c.learn_kept.new.self.memory c.mark_begun.new.self c.in_err-mark_begun.ensures.err)
          (unchanged-own lines start.known c.learn_kept.new.self.memory c.mark_begun.new.self (some-begun-promises c.behind-begun.result.now c.learn_kept.new.self.memory c.mark_begun.new.self c.in_err-mark_begun.ensures.err)),
    )

pub returns-clause-kept : goal.returns-clause-kept
returns-clause-kept g c = λ lines key start old acts (asked, late) kept.
    let known = c.args.self.now.memory in
    let out = g.W.Write.contents c.args.writer.now in
    let before : List Act → Type 0 = λ done. g.K.Keeper.has c.args.keeper.now (done ++ acts) in
    let (shown, shows, grown) = c.in_ok-learn_told.ensures.ok in
    let (evidence, taken, first-lines) = c.in_ok-learn_told.ensures.takes in
    let first = kept-known g.H.NodeHash.digest_of g.V.VufCheck.accepted g.S.Verifier.verified lines key start old before c.args.self.now.epoch known [] out kept c.learn_told.new.self evidence taken (lines-marks EvidenceLines (lines_of c.args.told.now) known c.learn_told.new.self shown shows)
    (unchanged-own lines start.known known c.learn_told.new.self (lines-promises EvidenceLines (lines_of c.args.told.now) known c.learn_told.new.self shown shows)) in
    let after : List Act → Type 0 = λ done. g.K.Keeper.has c.hand_roots.new.keeper (done ++ acts) in
    let rooted = kept-so g.H.NodeHash.digest_of g.V.VufCheck.accepted g.S.Verifier.verified lines key start old after c.hand_roots.new.self.epoch c.hand_roots.new.self.epoch c.learn_told.new.self c.hand_roots.new.self.memory evidence out refl c.hand_roots.ensures.same.0
    (kept-roots g.H.NodeHash.digest_of g.V.VufCheck.accepted g.S.Verifier.verified lines key start old before c.args.self.now.epoch c.learn_told.new.self evidence out first after c.hand_roots.new.self.epoch c.args.asker.now.client.chain.roots c.hand_roots.ensures.rises (λ done has. c.hand_roots.ensures.hands (done ++ acts) has)) in
    let formed = asked-formed lines start.known c.args.asker.now.changes.items asked in
    let new = late-stays known c.hand_roots.new.self.memory c.args.asker.now.changes.items c.args.self.now.changes c.hand_roots.new.self.changes
    (ap (λ (m : Memory). m.marks) c.hand_roots.ensures.same.0 ∙ lines-stay EvidenceLines (lines_of c.args.told.now) known c.learn_told.new.self shown shows) c.hand_roots.ensures.same.1 late in
    let (promised, learns, longer) = c.in_ok-learn_kept.ensures.learns in
    let (promises, taken', more-lines) = c.in_ok-learn_kept.ensures.takes formed in
    let stays = kept-stay (drop c.hand_roots.new.self.changes c.args.asker.now.changes.items) c.args.asker.now.client.promises (drop c.hand_roots.new.self.finals c.args.asker.now.finals.seen) c.hand_roots.new.self.memory c.learn_kept.new.self.memory promised learns in
    let told = kept-so g.H.NodeHash.digest_of g.V.VufCheck.accepted g.S.Verifier.verified lines key start old after c.hand_roots.new.self.epoch c.learn_kept.new.self.epoch c.learn_kept.new.self.memory c.learn_kept.new.self.memory (evidence ++ promises) out c.learn_kept.ensures.same.0 refl
    (kept-known g.H.NodeHash.digest_of g.V.VufCheck.accepted g.S.Verifier.verified lines key start old after c.hand_roots.new.self.epoch c.hand_roots.new.self.memory evidence out rooted c.learn_kept.new.self.memory promises taken' (same-marks c.hand_roots.new.self.memory c.learn_kept.new.self.memory stays)
    (changes-asked lines start.known c.args.asker.now.changes.items c.hand_roots.new.self.changes c.hand_roots.new.self.memory c.learn_kept.new.self.memory asked new c.learn_kept.ensures.own)) in
    let (marked, marks, longest) = c.in_ok-mark_begun.ensures.ok in
    let (begins, begun', last-lines) = c.in_ok-mark_begun.ensures.takes in
    let begun = kept-known g.H.NodeHash.digest_of g.V.VufCheck.accepted g.S.Verifier.verified lines key start old after c.learn_kept.new.self.epoch c.learn_kept.new.self.memory (evidence ++ promises) out told c.mark_begun.new.self begins begun'
    (begun-marks c.behind-begun.result.now c.learn_kept.new.self.memory c.mark_begun.new.self (monitors-put c.behind-begun.result.now c.learn_kept.new.self.memory c.mark_begun.new.self marked marks))
    (unchanged-own lines start.known c.learn_kept.new.self.memory c.mark_begun.new.self (begun-promises c.behind-begun.result.now c.learn_kept.new.self.memory c.mark_begun.new.self marked marks)) in
    let whole = c.deref-2.ensures.value ∙ text_grows [] c.learn_kept.new.lines.items c.mark_begun.new.lines.items (evidence ++ promises) begins
    (text_grows [] c.learn_told.new.lines.items c.learn_kept.new.lines.items evidence promises (first-lines ∙ ap (λ (t : List ℕ). t ++ items_text evidence) c.new-lines.ensures.items) more-lines) last-lines in (
      [],
      kept-on g.H.NodeHash.digest_of g.V.VufCheck.accepted g.S.Verifier.verified lines key start old after (λ (done : List Act). g.K.Keeper.has c.hand_on.new.keeper (done ++ acts)) c.learn_kept.new.self.epoch c.hand_on.new.self.epoch c.mark_begun.new.self c.hand_on.new.self.memory (evidence ++ promises ++ begins) c.deref-2.result.now out
          c.hand_on.ensures.same.1 c.hand_on.ensures.same.0 whole (λ done has. c.hand_on.ensures.hands (done ++ acts) has) begun,
    )

pub returns-clause-stands : goal.returns-clause-stands
returns-clause-stands g c = ok_so c.hand_on.result (λ lines key start old acts said (asked, late) stands.
    let known = c.args.self.now.memory in
    let out = g.W.Write.contents c.args.writer.now in
    let before : List Act → Type 0 = λ done. g.K.Keeper.has c.args.keeper.now (done ++ acts) in
    let now = standing c.args.asker.now.client c.args.asker.now.monitors.items said in
    let (shown, shows, grown) = c.in_ok-learn_told.ensures.ok in
    let (evidence, taken, first-lines) = c.in_ok-learn_told.ensures.takes in
    let evident = lines-stay EvidenceLines (lines_of c.args.told.now) known c.learn_told.new.self shown shows in
    let first = stands-same g.H.NodeHash.digest_of g.V.VufCheck.accepted g.S.Verifier.verified lines key start old before c.args.self.now.epoch known [] out c.args.asker.now.changes.items now stands c.learn_told.new.self evidence taken evident (same-marks known c.learn_told.new.self evident)
    (unchanged-own lines start.known known c.learn_told.new.self (lines-promises EvidenceLines (lines_of c.args.told.now) known c.learn_told.new.self shown shows))
    (unchanged-adds c.args.asker.now.changes.items known c.learn_told.new.self (lines-promises EvidenceLines (lines_of c.args.told.now) known c.learn_told.new.self shown shows)) in
    let after : List Act → Type 0 = λ done. g.K.Keeper.has c.hand_roots.new.keeper (done ++ acts) in
    let rooted = stands-so g.H.NodeHash.digest_of g.V.VufCheck.accepted g.S.Verifier.verified lines key start old after c.hand_roots.new.self.epoch c.hand_roots.new.self.epoch c.learn_told.new.self c.hand_roots.new.self.memory evidence out c.args.asker.now.changes.items now refl c.hand_roots.ensures.same.0
    (stands-roots g.H.NodeHash.digest_of g.V.VufCheck.accepted g.S.Verifier.verified lines key start old before c.args.self.now.epoch c.learn_told.new.self evidence out c.args.asker.now.changes.items now first after c.hand_roots.new.self.epoch c.hand_roots.ensures.rises (λ done has. c.hand_roots.ensures.hands (done ++ acts) has)) in
    let formed = asked-formed lines start.known c.args.asker.now.changes.items asked in
    let new = late-stays known c.hand_roots.new.self.memory c.args.asker.now.changes.items c.args.self.now.changes c.hand_roots.new.self.changes
    (ap (λ (m : Memory). m.marks) c.hand_roots.ensures.same.0 ∙ lines-stay EvidenceLines (lines_of c.args.told.now) known c.learn_told.new.self shown shows) c.hand_roots.ensures.same.1 late in
    let (promised, learns, longer) = c.in_ok-learn_kept.ensures.learns in
    let (promises, taken', more-lines) = c.in_ok-learn_kept.ensures.takes formed in
    let stays = kept-stay (drop c.hand_roots.new.self.changes c.args.asker.now.changes.items) c.args.asker.now.client.promises (drop c.hand_roots.new.self.finals c.args.asker.now.finals.seen) c.hand_roots.new.self.memory c.learn_kept.new.self.memory promised learns in
    let told = stands-so g.H.NodeHash.digest_of g.V.VufCheck.accepted g.S.Verifier.verified lines key start old after c.hand_roots.new.self.epoch c.learn_kept.new.self.epoch c.learn_kept.new.self.memory c.learn_kept.new.self.memory (evidence ++ promises) out c.args.asker.now.changes.items now c.learn_kept.ensures.same.0 refl
    (stands-same g.H.NodeHash.digest_of g.V.VufCheck.accepted g.S.Verifier.verified lines key start old after c.hand_roots.new.self.epoch c.hand_roots.new.self.memory evidence out c.args.asker.now.changes.items now rooted c.learn_kept.new.self.memory promises taken' stays (same-marks c.hand_roots.new.self.memory c.learn_kept.new.self.memory stays)
    (changes-asked lines start.known c.args.asker.now.changes.items c.hand_roots.new.self.changes c.hand_roots.new.self.memory c.learn_kept.new.self.memory asked new c.learn_kept.ensures.own)
    (changes-add c.args.asker.now.changes.items c.hand_roots.new.self.changes c.hand_roots.new.self.memory c.learn_kept.new.self.memory c.learn_kept.ensures.own)) in
    let (marked, marks, longest) = c.in_ok-mark_begun.ensures.ok in
    let (begins, begun', last-lines) = c.in_ok-mark_begun.ensures.takes in
    let among = begun-among c.args.asker.now.monitors.items c.behind-begun.result.now c.learn_kept.new.self.monitors (c.behind-begun.ensures ∙ ap (drop c.learn_kept.new.self.monitors) c.deref.ensures.value) in
    let begun = stands-begun g.H.NodeHash.digest_of g.V.VufCheck.accepted g.S.Verifier.verified lines key start old after c.learn_kept.new.self.epoch c.learn_kept.new.self.memory (evidence ++ promises) out c.args.asker.now.changes.items now told c.behind-begun.result.now c.mark_begun.new.self begins begun' among
    (monitors-put c.behind-begun.result.now c.learn_kept.new.self.memory c.mark_begun.new.self marked marks) (begun-promises c.behind-begun.result.now c.learn_kept.new.self.memory c.mark_begun.new.self marked marks) in
    let whole = c.deref-2.ensures.value ∙ text_grows [] c.learn_kept.new.lines.items c.mark_begun.new.lines.items (evidence ++ promises) begins
    (text_grows [] c.learn_told.new.lines.items c.learn_kept.new.lines.items evidence promises (first-lines ∙ ap (λ (t : List ℕ). t ++ items_text evidence) c.new-lines.ensures.items) more-lines) last-lines in
    stands-on g.H.NodeHash.digest_of g.V.VufCheck.accepted g.S.Verifier.verified lines key start old after (λ (done : List Act). g.K.Keeper.has c.hand_on.new.keeper (done ++ acts)) c.learn_kept.new.self.epoch c.hand_on.new.self.epoch c.mark_begun.new.self c.hand_on.new.self.memory (evidence ++ promises ++ begins) c.deref-2.result.now out c.args.asker.now.changes.items now
    c.hand_on.ensures.same.1 c.hand_on.ensures.same.0 whole (λ done has. c.hand_on.ensures.hands (done ++ acts) has) begun)
