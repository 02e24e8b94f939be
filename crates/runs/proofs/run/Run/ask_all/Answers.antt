use Rattle.std.proofs.Common.{◌≡◌, ◌⊎◌, ◌∷◌, [], Err, None, inl, inr, refl, rules}
use Rattle.std.specs.Prelude.{List, ℕ, IfSome, Ok, Option, Some}
use Rattle.textio.specs.declared.program_fault.ProgramFault.TheVariants.{CannotWrite, OutOfMemory}
use Rattle.runs.specs.AskOptions.{ask_values}
use Rattle.runs.specs.Ending.{AsksPart, HoldsBack, LoadsNone}
use Rattle.asking.specs.Exchanges.{ExchangesFrames}
use Rattle.asking.specs.Reports.{report_of, Report}
use Rattle.runs.specs.RunFaults.{AsksInput, IsFaultOfSaving, IsFaultOfState, IsFaultWith, IsFirstUnasked}
use Rattle.runs.specs.Runs.{AsksLines, background_of, lines_asked, words_line}
use Rattle.asking.specs.Scenes.{scene}
use Rattle.runs.specs.declared.run_fault.RunFault.{RunFault}
use Rattle.runs.proofs.Ended.{early_asking, early_none, early_preparing, leaves_with, line_not, part_once, some_prepares_with, writes_with}
use Rattle.runs.proofs.Faulty.{beginning_with, grows_not, grows_on, input_fault, reads_input, saving_with, stops_more, words_fault}
use Rattle.runs.specs.Lateness.{IsLimitOf}
use Rattle.runs.proofs.Late.{err_again, late_asking, late_first, late_lines, late_none, late_preparing, late_words, limit_trans, same_limit}
use Rattle.asking.proofs.Outcomes.{ok_then}
use Rattle.runs.proofs.Ran.{asks_input, asks_words, begins_run, leads_once, whole}
use Rattle.std.proofs.Common.{◌∙◌, ◌++◌, ap, subst, sym}
use Rattle.runs.specs.Runs.{Background}
use Rattle.runs.specs.Saves.{Act}
use Rattle.runs.specs.Standing.{IsLeft, RunStands, StateIsKept}
use Rattle.runs.proofs.Ran.{input_asked, words_among, words_asked}
use Rattle.runs.proofs.MarkedRuns.{marks-first, marks-then, ok_both, run-saved, whole-marked}
use Rattle.runs.proofs.RunSteps.{ok_have}
use Rattle.runs.proofs.Written.{state-left}
use Rattle.runs.specs.declared.run_fault.RunFault.TheVariants.{Program}
use Rattle.runs.proofs.run.Run.ask_all.Goals as goal

pub returns-in-Some-clause-runs : goal.returns-in-Some-clause-runs
returns-in-Some-clause-runs g c =
    rw c.note_kept.ensures.same (let start = scene c.in_ok-asker.asker c.begin.new.self.said c.begin.new.stream in
    let ready = scene c.prepare.new.asker c.prepare.new.self.said c.prepare.new.stream in
    let last = scene c.ask_line-asked.new.asker c.ask_line-asked.new.self.said c.ask_line-asked.new.stream in
    let line = rw (c.deref.ensures.value, c.in_ok-line-in-Some.ensures) at c.ask_line-asked.ensures.asks in
    let once = leads_once g.H.NodeHash.digest_of g.V.VufCheck.accepted g.S.Verifier.verified (ExchangesFrames g.T.Write.contents g.T.Read.remaining) (background_of c.prepare.new.asker) ready last
    (g.W.Write.contents c.prepare.new.writer) (g.W.Write.contents c.ask_line-asked.new.writer) (words_line (ask_values c.args.order).words) in
    let asks = asks_words (λ lines. AsksLines g.H.NodeHash.digest_of g.V.VufCheck.accepted g.S.Verifier.verified (ExchangesFrames g.T.Write.contents g.T.Read.remaining) (background_of c.prepare.new.asker) lines ready
    (g.W.Write.contents c.prepare.new.writer) (g.W.Write.contents c.ask_line-asked.new.writer) last) c.ask_line-asked.result (g.R.Read.remaining c.args.reader.now) c.args.order c.in-Some.field-0 c.in-Some.is
    (ok_then {Q = AsksLines g.H.NodeHash.digest_of g.V.VufCheck.accepted g.S.Verifier.verified (ExchangesFrames g.T.Write.contents g.T.Read.remaining) (background_of c.prepare.new.asker) (words_line (ask_values c.args.order).words ∷ []) ready
    (g.W.Write.contents c.prepare.new.writer) (g.W.Write.contents c.ask_line-asked.new.writer) last} c.ask_line-asked.result line once) in
    whole g.H.NodeHash.digest_of g.V.VufCheck.accepted g.S.Verifier.verified (ExchangesFrames g.T.Write.contents g.T.Read.remaining) c.args.keys.now.signing_key c.args.keys.now.token (ask_values c.args.order) (c.args.self.now.state ≡ None)
    c.ask_line-asked.result (background_of c.in_ok-asker.asker) (background_of c.prepare.new.asker) c.args.stream.now start ready last (g.R.Read.remaining c.args.reader.now) (g.W.Write.contents c.args.writer.now)
    (g.W.Write.contents c.prepare.new.writer) (g.W.Write.contents c.ask_line-asked.new.writer) (report_of c.args.self.now.said) (IsLimitOf (ask_values c.args.order) c.args.self.now.limit) (λ after last. c.ask_line-asked.new.self.limit.last ≡ Some last)
    (begins_run g.H.NodeHash.digest_of g.V.VufCheck.accepted g.S.Verifier.verified (ExchangesFrames g.T.Write.contents g.T.Read.remaining) c.args.keys.now.signing_key c.args.keys.now.token (c.args.self.now.state ≡ None) (background_of c.in_ok-asker.asker) c.args.stream.now start (report_of c.args.self.now.said)
    c.in_ok-asker.ensures.said c.in_ok-asker.ensures.begins c.in_ok-asker.ensures.knows c.in_ok-asker.ensures.finals)
    (writes_with g.H.NodeHash.digest_of g.V.VufCheck.accepted g.S.Verifier.verified (ExchangesFrames g.T.Write.contents g.T.Read.remaining) c.args.keys.now.signing_key c.args.keys.now.token (ask_values c.args.order)
    (c.begin.new.self.state ≡ None) (c.args.self.now.state ≡ None) c.begin.ensures.still.1 c.begin.ensures.still.0 (background_of c.in_ok-asker.asker) (scene c.in_ok-asker.asker c.begin.new.self.said c.begin.new.stream)
    (g.W.Write.contents c.args.writer.now) (g.W.Write.contents c.prepare.new.writer) (scene c.prepare.new.asker c.prepare.new.self.said c.prepare.new.stream) c.in_ok-prepare.ensures.prepares) c.in_ok-prepare.ensures.stays asks
    (late_words g.H.NodeHash.digest_of g.V.VufCheck.accepted g.S.Verifier.verified (ExchangesFrames g.T.Write.contents g.T.Read.remaining) c.args.order (IsLimitOf (ask_values c.args.order) c.args.self.now.limit) c.ask_line-asked.result c.ask_line-asked.new.self.limit c.ask_line-asked.new.asker c.ask_line-asked.new.self.said c.ask_line-asked.new.stream (background_of c.in_ok-asker.asker).marks
    (ap (λ (b : Background). b.marks) (c.ask_line-asked.ensures.stays ∙ c.in_ok-prepare.ensures.stays))
    (λ is. same_limit (ask_values c.args.order) c.args.self.now.limit c.ask_line-asked.new.self.limit (limit_trans c.args.self.now.limit c.prepare.new.self.limit c.ask_line-asked.new.self.limit (limit_trans c.args.self.now.limit c.begin.new.self.limit c.prepare.new.self.limit c.begin.ensures.limit c.prepare.ensures.limit) c.ask_line-asked.ensures.limit) is)
    c.ask_line-asked.ensures.notes))

pub returns-clause-runs : goal.returns-clause-runs
returns-clause-runs g c =
    rw c.note_kept-in-None.ensures.same (let start = scene c.in_ok-asker.asker c.begin.new.self.said c.begin.new.stream in
    let ready = scene c.prepare.new.asker c.prepare.new.self.said c.prepare.new.stream in
    let last = scene c.ask_lines-asked.new.asker c.ask_lines-asked.new.self.said c.ask_lines-asked.new.stream in
    let asks = asks_input (λ lines. AsksLines g.H.NodeHash.digest_of g.V.VufCheck.accepted g.S.Verifier.verified (ExchangesFrames g.T.Write.contents g.T.Read.remaining) (background_of c.prepare.new.asker) lines ready
    (g.W.Write.contents c.prepare.new.writer) (g.W.Write.contents c.ask_lines-asked.new.writer) last) c.ask_lines-asked.result (g.R.Read.remaining c.args.reader.now) c.args.order c.in-None.is c.ask_lines-asked.ensures.asks in
    whole g.H.NodeHash.digest_of g.V.VufCheck.accepted g.S.Verifier.verified (ExchangesFrames g.T.Write.contents g.T.Read.remaining) c.args.keys.now.signing_key c.args.keys.now.token (ask_values c.args.order) (c.args.self.now.state ≡ None)
    c.ask_lines-asked.result (background_of c.in_ok-asker.asker) (background_of c.prepare.new.asker) c.args.stream.now start ready last (g.R.Read.remaining c.args.reader.now) (g.W.Write.contents c.args.writer.now)
    (g.W.Write.contents c.prepare.new.writer) (g.W.Write.contents c.ask_lines-asked.new.writer) (report_of c.args.self.now.said) (IsLimitOf (ask_values c.args.order) c.args.self.now.limit) (λ after last. c.ask_lines-asked.new.self.limit.last ≡ Some last)
    (begins_run g.H.NodeHash.digest_of g.V.VufCheck.accepted g.S.Verifier.verified (ExchangesFrames g.T.Write.contents g.T.Read.remaining) c.args.keys.now.signing_key c.args.keys.now.token (c.args.self.now.state ≡ None) (background_of c.in_ok-asker.asker) c.args.stream.now start (report_of c.args.self.now.said)
    c.in_ok-asker.ensures.said c.in_ok-asker.ensures.begins c.in_ok-asker.ensures.knows c.in_ok-asker.ensures.finals)
    (writes_with g.H.NodeHash.digest_of g.V.VufCheck.accepted g.S.Verifier.verified (ExchangesFrames g.T.Write.contents g.T.Read.remaining) c.args.keys.now.signing_key c.args.keys.now.token (ask_values c.args.order)
    (c.begin.new.self.state ≡ None) (c.args.self.now.state ≡ None) c.begin.ensures.still.1 c.begin.ensures.still.0 (background_of c.in_ok-asker.asker) (scene c.in_ok-asker.asker c.begin.new.self.said c.begin.new.stream)
    (g.W.Write.contents c.args.writer.now) (g.W.Write.contents c.prepare.new.writer) (scene c.prepare.new.asker c.prepare.new.self.said c.prepare.new.stream) c.in_ok-prepare.ensures.prepares) c.in_ok-prepare.ensures.stays asks
    (late_lines g.H.NodeHash.digest_of g.V.VufCheck.accepted g.S.Verifier.verified (ExchangesFrames g.T.Write.contents g.T.Read.remaining) c.args.order (IsLimitOf (ask_values c.args.order) c.args.self.now.limit) c.ask_lines-asked.result (background_of c.in_ok-asker.asker).marks last (λ after last'. c.ask_lines-asked.new.self.limit.last ≡ Some last') c.in-None.is))

pub returns-in_err-asker-clause-faults : goal.returns-in_err-asker-clause-faults
returns-in_err-asker-clause-faults g c =
    let passed : c.from_residual.result ≡ Err c.in_err-asker.field-0.0 = search rules in
    rw passed (stops_more {A = Unit {0}} (λ fault. ((¬ (c.args.self.now.state ≡ None)) × IsFaultOfState fault) ⊎ (fault ≡ OutOfMemory))
    (IsFaultWith (¬ (c.args.self.now.state ≡ None)) (AsksInput (ask_values c.args.order).words) (λ number. IfSome (lines_asked (ask_values c.args.order).words (g.R.Read.remaining c.args.reader.now)) (λ lines. IsFirstUnasked 1 lines number)))
    (Err c.in_err-asker.field-0.0) (beginning_with _ _ _) c.in_err-asker.ensures.faults)

pub returns-in_err-prepare-clause-faults : goal.returns-in_err-prepare-clause-faults
returns-in_err-prepare-clause-faults g c =
    let passed : c.from_residual-in_err-prepare.result ≡ Err c.in_err-prepare.field-0.0 = search rules in
    rw passed (stops_more {A = Unit {0}} IsFaultOfSaving
    (IsFaultWith (¬ (c.args.self.now.state ≡ None)) (AsksInput (ask_values c.args.order).words) (λ number. IfSome (lines_asked (ask_values c.args.order).words (g.R.Read.remaining c.args.reader.now)) (λ lines. IsFirstUnasked 1 lines number)))
    (Err c.in_err-prepare.field-0.0) (saving_with _ _ _) c.in_err-prepare.ensures.faults)

pub returns-in_err-line-in-Some-clause-faults : goal.returns-in_err-line-in-Some-clause-faults
returns-in_err-line-in-Some-clause-faults g c =
    let passed : c.from_residual-in_err-line-in-Some.result ≡ Err (Program OutOfMemory) = search rules in
    rw passed tt

pub returns-in-Some-clause-faults : goal.returns-in-Some-clause-faults
returns-in-Some-clause-faults g c =
    rw c.note_kept.ensures.same (words_fault (¬ (c.args.self.now.state ≡ None)) c.ask_line-asked.result (g.R.Read.remaining c.args.reader.now) c.args.order c.in-Some.field-0 c.in-Some.is
    (rw (c.deref.ensures.value, c.in_ok-line-in-Some.ensures) at c.ask_line-asked.ensures.faults))

pub returns-clause-faults : goal.returns-clause-faults
returns-clause-faults g c =
    rw c.note_kept-in-None.ensures.same (input_fault (¬ (c.args.self.now.state ≡ None)) c.ask_lines-asked.result (g.R.Read.remaining c.args.reader.now) c.args.order c.in-None.is c.ask_lines-asked.ensures.faults)

pub returns-clause-unread : goal.returns-clause-unread
returns-clause-unread g c = λ words. absurd (words (reads_input c.args.order c.in-None.is))

pub returns-in-Some-clause-grows : goal.returns-in-Some-clause-grows
returns-in-Some-clause-grows g c = grows_on (g.W.Write.contents c.args.writer.now) (g.W.Write.contents c.prepare.new.writer) (g.W.Write.contents c.ask_line-asked.new.writer) c.prepare.ensures.grows c.ask_line-asked.ensures.grows

pub returns-clause-grows : goal.returns-clause-grows
returns-clause-grows g c = grows_on (g.W.Write.contents c.args.writer.now) (g.W.Write.contents c.prepare.new.writer) (g.W.Write.contents c.ask_lines-asked.new.writer) c.prepare.ensures.grows c.ask_lines-asked.ensures.grows

pub returns-in_err-asker-clause-grows : goal.returns-in_err-asker-clause-grows
returns-in_err-asker-clause-grows g c = grows_not (g.W.Write.contents c.args.writer.now)

pub returns-in_err-asker-clause-part : goal.returns-in_err-asker-clause-part
returns-in_err-asker-clause-part g c = λ none limited.
    let passed : c.from_residual.result ≡ Err c.in_err-asker.field-0.0 = search rules in
    early_none g.H.NodeHash.digest_of g.V.VufCheck.accepted g.S.Verifier.verified (ExchangesFrames g.T.Write.contents g.T.Read.remaining) c.args.keys.now.signing_key c.args.keys.now.token (ask_values c.args.order) (c.args.self.now.state ≡ None) c.args.stream.now (g.R.Read.remaining c.args.reader.now) (g.W.Write.contents c.args.writer.now) _ (λ after last. c.begin.new.self.limit.last ≡ Some last) (LoadsNone (c.args.self.now.state ≡ None) c.from_residual.result c.args.self.now.limit c.begin.new.self.limit c.begin.new.self.said.status) (report_of c.args.self.now.said) c.begin.new.self.said c.in_err-asker.ensures.none
    (late_first g.H.NodeHash.digest_of g.V.VufCheck.accepted g.S.Verifier.verified c.args.keys.now.signing_key (ask_values c.args.order) (c.args.self.now.state ≡ None) c.begin.new.self.limit (same_limit (ask_values c.args.order) c.args.self.now.limit c.begin.new.self.limit c.begin.ensures.limit limited) (ExchangesFrames g.T.Write.contents g.T.Read.remaining) (Err c.in_err-asker.field-0.0) c.from_residual.result c.args.self.now.limit c.begin.new.self.said.status
    (λ fault was. passed ∙ err_again c.in_err-asker.field-0.0 (Program fault) was) (c.in_err-asker.ensures.first none)) none

pub returns-in_err-prepare-clause-part : goal.returns-in_err-prepare-clause-part
returns-in_err-prepare-clause-part g c = λ none limited.
    let passed : c.from_residual-in_err-prepare.result ≡ Err c.in_err-prepare.field-0.0 = search rules in
    let start = scene c.in_ok-asker.asker c.begin.new.self.said c.begin.new.stream in
    early_preparing g.H.NodeHash.digest_of g.V.VufCheck.accepted g.S.Verifier.verified (ExchangesFrames g.T.Write.contents g.T.Read.remaining) c.args.keys.now.signing_key c.args.keys.now.token (ask_values c.args.order) (c.args.self.now.state ≡ None) c.args.stream.now (g.R.Read.remaining c.args.reader.now) (g.W.Write.contents c.args.writer.now) (background_of c.in_ok-asker.asker) start (g.W.Write.contents c.prepare.new.writer) c.prepare.new.self.said
    (report_of c.args.self.now.said) (begins_run g.H.NodeHash.digest_of g.V.VufCheck.accepted g.S.Verifier.verified (ExchangesFrames g.T.Write.contents g.T.Read.remaining) c.args.keys.now.signing_key c.args.keys.now.token (c.args.self.now.state ≡ None) (background_of c.in_ok-asker.asker) c.args.stream.now start (report_of c.args.self.now.said)
    c.in_ok-asker.ensures.said c.in_ok-asker.ensures.begins c.in_ok-asker.ensures.knows c.in_ok-asker.ensures.finals) (c.from_residual-in_err-prepare.result ≡ Err (Program CannotWrite)) (λ after last. c.prepare.new.self.limit.last ≡ Some last) (LoadsNone (c.args.self.now.state ≡ None) c.from_residual-in_err-prepare.result c.args.self.now.limit c.prepare.new.self.limit c.prepare.new.self.said.status)
    (let (reached, some, leaves) = c.in_err-prepare.ensures.part in (
      reached,
      some_prepares_with g.H.NodeHash.digest_of g.V.VufCheck.accepted g.S.Verifier.verified (ExchangesFrames g.T.Write.contents g.T.Read.remaining) c.args.keys.now.signing_key c.args.keys.now.token (ask_values c.args.order)
          (c.begin.new.self.state ≡ None) (c.args.self.now.state ≡ None) c.begin.ensures.still.1 c.begin.ensures.still.0 (background_of c.in_ok-asker.asker) start reached some,
      leaves_with _ (c.from_residual-in_err-prepare.result ≡ Err (Program CannotWrite)) (g.W.Write.contents c.prepare.new.writer) c.prepare.new.self.said reached.told (g.W.Write.contents c.args.writer.now)
          (λ failed. passed ∙ failed) leaves,
    ))
    (late_preparing g.H.NodeHash.digest_of g.V.VufCheck.accepted g.S.Verifier.verified (ExchangesFrames g.T.Write.contents g.T.Read.remaining) (ask_values c.args.order) (c.args.self.now.state ≡ None) (background_of c.in_ok-asker.asker) start c.prepare.new.self.limit (same_limit (ask_values c.args.order) c.args.self.now.limit c.prepare.new.self.limit (limit_trans c.args.self.now.limit c.begin.new.self.limit c.prepare.new.self.limit c.begin.ensures.limit c.prepare.ensures.limit) limited)
    (let (seen, at, noted) = c.prepare.ensures.noted c.in_ok-asker.ensures.notes in (
      seen,
      elim at [
        | inl same ↦ inl same
        | inr some ↦ inr (some_prepares_with g.H.NodeHash.digest_of g.V.VufCheck.accepted g.S.Verifier.verified (ExchangesFrames g.T.Write.contents g.T.Read.remaining) c.args.keys.now.signing_key c.args.keys.now.token (ask_values c.args.order) (c.begin.new.self.state ≡ None) (c.args.self.now.state ≡ None) c.begin.ensures.still.1 c.begin.ensures.still.0 (background_of c.in_ok-asker.asker) start seen some)
      ],
      noted,
    ))) none

pub returns-in_err-line-in-Some-clause-part : goal.returns-in_err-line-in-Some-clause-part
returns-in_err-line-in-Some-clause-part g c = λ none limited.
    let start = scene c.in_ok-asker.asker c.begin.new.self.said c.begin.new.stream in
    let ready = scene c.prepare.new.asker c.prepare.new.self.said c.prepare.new.stream in
    early_asking g.H.NodeHash.digest_of g.V.VufCheck.accepted g.S.Verifier.verified (ExchangesFrames g.T.Write.contents g.T.Read.remaining) c.args.keys.now.signing_key c.args.keys.now.token (ask_values c.args.order) (c.args.self.now.state ≡ None) c.args.stream.now (g.R.Read.remaining c.args.reader.now) (g.W.Write.contents c.args.writer.now) (background_of c.in_ok-asker.asker) start (g.W.Write.contents c.prepare.new.writer) c.prepare.new.self.said
    (report_of c.args.self.now.said) (begins_run g.H.NodeHash.digest_of g.V.VufCheck.accepted g.S.Verifier.verified (ExchangesFrames g.T.Write.contents g.T.Read.remaining) c.args.keys.now.signing_key c.args.keys.now.token (c.args.self.now.state ≡ None) (background_of c.in_ok-asker.asker) c.args.stream.now start (report_of c.args.self.now.said)
    c.in_ok-asker.ensures.said c.in_ok-asker.ensures.begins c.in_ok-asker.ensures.knows c.in_ok-asker.ensures.finals) (c.from_residual-in_err-line-in-Some.result ≡ Err (Program CannotWrite)) (λ after last. c.prepare.new.self.limit.last ≡ Some last) (LoadsNone (c.args.self.now.state ≡ None) c.from_residual-in_err-line-in-Some.result c.args.self.now.limit c.prepare.new.self.limit c.prepare.new.self.said.status) (background_of c.prepare.new.asker) ready (g.W.Write.contents c.prepare.new.writer) (writes_with g.H.NodeHash.digest_of g.V.VufCheck.accepted g.S.Verifier.verified (ExchangesFrames g.T.Write.contents g.T.Read.remaining) c.args.keys.now.signing_key c.args.keys.now.token (ask_values c.args.order)
    (c.begin.new.self.state ≡ None) (c.args.self.now.state ≡ None) c.begin.ensures.still.1 c.begin.ensures.still.0 (background_of c.in_ok-asker.asker) (scene c.in_ok-asker.asker c.begin.new.self.said c.begin.new.stream)
    (g.W.Write.contents c.args.writer.now) (g.W.Write.contents c.prepare.new.writer) (scene c.prepare.new.asker c.prepare.new.self.said c.prepare.new.stream) c.in_ok-prepare.ensures.prepares) c.in_ok-prepare.ensures.stays
    (asks_words {E = RunFault} (λ lines. (told : Report) × (next : Option (List ℕ)) × AsksPart g.H.NodeHash.digest_of g.V.VufCheck.accepted g.S.Verifier.verified (ExchangesFrames g.T.Write.contents g.T.Read.remaining) (background_of c.prepare.new.asker) lines ready told (g.W.Write.contents c.prepare.new.writer) next
    × HoldsBack (c.from_residual-in_err-line-in-Some.result ≡ Err (Program CannotWrite)) (g.W.Write.contents c.prepare.new.writer) c.prepare.new.self.said told next) (Ok tt) (g.R.Read.remaining c.args.reader.now) c.args.order c.in-Some.field-0 c.in-Some.is
    (part_once g.H.NodeHash.digest_of g.V.VufCheck.accepted g.S.Verifier.verified (ExchangesFrames g.T.Write.contents g.T.Read.remaining) (background_of c.prepare.new.asker) (c.from_residual-in_err-line-in-Some.result ≡ Err (Program CannotWrite)) (words_line (ask_values c.args.order).words) ready (g.W.Write.contents c.prepare.new.writer) (g.W.Write.contents c.prepare.new.writer) c.prepare.new.self.said (line_not g.H.NodeHash.digest_of g.V.VufCheck.accepted g.S.Verifier.verified (ExchangesFrames g.T.Write.contents g.T.Read.remaining) (background_of c.prepare.new.asker) (c.from_residual-in_err-line-in-Some.result ≡ Err (Program CannotWrite)) (words_line (ask_values c.args.order).words) ready (g.W.Write.contents c.prepare.new.writer) c.prepare.new.self.said refl)))
    (late_asking g.H.NodeHash.digest_of g.V.VufCheck.accepted g.S.Verifier.verified (ExchangesFrames g.T.Write.contents g.T.Read.remaining) (ask_values c.args.order) (c.args.self.now.state ≡ None) (background_of c.in_ok-asker.asker) start c.prepare.new.self.limit (background_of c.prepare.new.asker) ready (g.W.Write.contents c.args.writer.now) (g.W.Write.contents c.prepare.new.writer)
    (same_limit (ask_values c.args.order) c.args.self.now.limit c.prepare.new.self.limit (limit_trans c.args.self.now.limit c.begin.new.self.limit c.prepare.new.self.limit c.begin.ensures.limit c.prepare.ensures.limit) limited) c.in_ok-prepare.ensures.stays (writes_with g.H.NodeHash.digest_of g.V.VufCheck.accepted g.S.Verifier.verified (ExchangesFrames g.T.Write.contents g.T.Read.remaining) c.args.keys.now.signing_key c.args.keys.now.token (ask_values c.args.order)
    (c.begin.new.self.state ≡ None) (c.args.self.now.state ≡ None) c.begin.ensures.still.1 c.begin.ensures.still.0 (background_of c.in_ok-asker.asker) (scene c.in_ok-asker.asker c.begin.new.self.said c.begin.new.stream)
    (g.W.Write.contents c.args.writer.now) (g.W.Write.contents c.prepare.new.writer) (scene c.prepare.new.asker c.prepare.new.self.said c.prepare.new.stream) c.in_ok-prepare.ensures.prepares)
    (ready, inl refl, c.in_ok-prepare.ensures.notes)) none

pub returns-in-Some-clause-part : goal.returns-in-Some-clause-part
returns-in-Some-clause-part g c =
    rw c.note_kept.ensures.same (λ none limited.
    let start = scene c.in_ok-asker.asker c.begin.new.self.said c.begin.new.stream in
    let ready = scene c.prepare.new.asker c.prepare.new.self.said c.prepare.new.stream in
    let found = rw (c.deref.ensures.value, c.in_ok-line-in-Some.ensures) at c.ask_line-asked.ensures.part in
    let noted = rw (c.deref.ensures.value, c.in_ok-line-in-Some.ensures) at c.ask_line-asked.ensures.noted c.in_ok-prepare.ensures.notes in
    early_asking g.H.NodeHash.digest_of g.V.VufCheck.accepted g.S.Verifier.verified (ExchangesFrames g.T.Write.contents g.T.Read.remaining) c.args.keys.now.signing_key c.args.keys.now.token (ask_values c.args.order) (c.args.self.now.state ≡ None) c.args.stream.now (g.R.Read.remaining c.args.reader.now) (g.W.Write.contents c.args.writer.now) (background_of c.in_ok-asker.asker) start (g.W.Write.contents c.ask_line-asked.new.writer) c.ask_line-asked.new.self.said
    (report_of c.args.self.now.said) (begins_run g.H.NodeHash.digest_of g.V.VufCheck.accepted g.S.Verifier.verified (ExchangesFrames g.T.Write.contents g.T.Read.remaining) c.args.keys.now.signing_key c.args.keys.now.token (c.args.self.now.state ≡ None) (background_of c.in_ok-asker.asker) c.args.stream.now start (report_of c.args.self.now.said)
    c.in_ok-asker.ensures.said c.in_ok-asker.ensures.begins c.in_ok-asker.ensures.knows c.in_ok-asker.ensures.finals) (c.ask_line-asked.result ≡ Err (Program CannotWrite)) (λ after last. c.ask_line-asked.new.self.limit.last ≡ Some last) (LoadsNone (c.args.self.now.state ≡ None) c.ask_line-asked.result c.args.self.now.limit c.ask_line-asked.new.self.limit c.ask_line-asked.new.self.said.status) (background_of c.prepare.new.asker) ready (g.W.Write.contents c.prepare.new.writer) (writes_with g.H.NodeHash.digest_of g.V.VufCheck.accepted g.S.Verifier.verified (ExchangesFrames g.T.Write.contents g.T.Read.remaining) c.args.keys.now.signing_key c.args.keys.now.token (ask_values c.args.order)
    (c.begin.new.self.state ≡ None) (c.args.self.now.state ≡ None) c.begin.ensures.still.1 c.begin.ensures.still.0 (background_of c.in_ok-asker.asker) (scene c.in_ok-asker.asker c.begin.new.self.said c.begin.new.stream)
    (g.W.Write.contents c.args.writer.now) (g.W.Write.contents c.prepare.new.writer) (scene c.prepare.new.asker c.prepare.new.self.said c.prepare.new.stream) c.in_ok-prepare.ensures.prepares) c.in_ok-prepare.ensures.stays
    (asks_words {E = RunFault} (λ lines. (told : Report) × (next : Option (List ℕ)) × AsksPart g.H.NodeHash.digest_of g.V.VufCheck.accepted g.S.Verifier.verified (ExchangesFrames g.T.Write.contents g.T.Read.remaining) (background_of c.prepare.new.asker) lines ready told (g.W.Write.contents c.prepare.new.writer) next
    × HoldsBack (c.ask_line-asked.result ≡ Err (Program CannotWrite)) (g.W.Write.contents c.ask_line-asked.new.writer) c.ask_line-asked.new.self.said told next) (Ok tt) (g.R.Read.remaining c.args.reader.now) c.args.order c.in-Some.field-0 c.in-Some.is
    (part_once g.H.NodeHash.digest_of g.V.VufCheck.accepted g.S.Verifier.verified (ExchangesFrames g.T.Write.contents g.T.Read.remaining) (background_of c.prepare.new.asker) (c.ask_line-asked.result ≡ Err (Program CannotWrite)) (words_line (ask_values c.args.order).words) ready (g.W.Write.contents c.prepare.new.writer) (g.W.Write.contents c.ask_line-asked.new.writer) c.ask_line-asked.new.self.said found))
    (late_asking g.H.NodeHash.digest_of g.V.VufCheck.accepted g.S.Verifier.verified (ExchangesFrames g.T.Write.contents g.T.Read.remaining) (ask_values c.args.order) (c.args.self.now.state ≡ None) (background_of c.in_ok-asker.asker) start c.ask_line-asked.new.self.limit (background_of c.prepare.new.asker) ready (g.W.Write.contents c.args.writer.now) (g.W.Write.contents c.prepare.new.writer)
    (same_limit (ask_values c.args.order) c.args.self.now.limit c.ask_line-asked.new.self.limit (limit_trans c.args.self.now.limit c.prepare.new.self.limit c.ask_line-asked.new.self.limit (limit_trans c.args.self.now.limit c.begin.new.self.limit c.prepare.new.self.limit c.begin.ensures.limit c.prepare.ensures.limit) c.ask_line-asked.ensures.limit) limited) c.in_ok-prepare.ensures.stays (writes_with g.H.NodeHash.digest_of g.V.VufCheck.accepted g.S.Verifier.verified (ExchangesFrames g.T.Write.contents g.T.Read.remaining) c.args.keys.now.signing_key c.args.keys.now.token (ask_values c.args.order)
    (c.begin.new.self.state ≡ None) (c.args.self.now.state ≡ None) c.begin.ensures.still.1 c.begin.ensures.still.0 (background_of c.in_ok-asker.asker) (scene c.in_ok-asker.asker c.begin.new.self.said c.begin.new.stream)
    (g.W.Write.contents c.args.writer.now) (g.W.Write.contents c.prepare.new.writer) (scene c.prepare.new.asker c.prepare.new.self.said c.prepare.new.stream) c.in_ok-prepare.ensures.prepares)
    noted) none)

pub returns-clause-part : goal.returns-clause-part
returns-clause-part g c =
    rw c.note_kept-in-None.ensures.same (λ none limited.
    let start = scene c.in_ok-asker.asker c.begin.new.self.said c.begin.new.stream in
    let ready = scene c.prepare.new.asker c.prepare.new.self.said c.prepare.new.stream in
    early_asking g.H.NodeHash.digest_of g.V.VufCheck.accepted g.S.Verifier.verified (ExchangesFrames g.T.Write.contents g.T.Read.remaining) c.args.keys.now.signing_key c.args.keys.now.token (ask_values c.args.order) (c.args.self.now.state ≡ None) c.args.stream.now (g.R.Read.remaining c.args.reader.now) (g.W.Write.contents c.args.writer.now) (background_of c.in_ok-asker.asker) start (g.W.Write.contents c.ask_lines-asked.new.writer) c.ask_lines-asked.new.self.said
    (report_of c.args.self.now.said) (begins_run g.H.NodeHash.digest_of g.V.VufCheck.accepted g.S.Verifier.verified (ExchangesFrames g.T.Write.contents g.T.Read.remaining) c.args.keys.now.signing_key c.args.keys.now.token (c.args.self.now.state ≡ None) (background_of c.in_ok-asker.asker) c.args.stream.now start (report_of c.args.self.now.said)
    c.in_ok-asker.ensures.said c.in_ok-asker.ensures.begins c.in_ok-asker.ensures.knows c.in_ok-asker.ensures.finals) (c.ask_lines-asked.result ≡ Err (Program CannotWrite)) (λ after last. c.ask_lines-asked.new.self.limit.last ≡ Some last) (LoadsNone (c.args.self.now.state ≡ None) c.ask_lines-asked.result c.args.self.now.limit c.ask_lines-asked.new.self.limit c.ask_lines-asked.new.self.said.status) (background_of c.prepare.new.asker) ready (g.W.Write.contents c.prepare.new.writer) (writes_with g.H.NodeHash.digest_of g.V.VufCheck.accepted g.S.Verifier.verified (ExchangesFrames g.T.Write.contents g.T.Read.remaining) c.args.keys.now.signing_key c.args.keys.now.token (ask_values c.args.order)
    (c.begin.new.self.state ≡ None) (c.args.self.now.state ≡ None) c.begin.ensures.still.1 c.begin.ensures.still.0 (background_of c.in_ok-asker.asker) (scene c.in_ok-asker.asker c.begin.new.self.said c.begin.new.stream)
    (g.W.Write.contents c.args.writer.now) (g.W.Write.contents c.prepare.new.writer) (scene c.prepare.new.asker c.prepare.new.self.said c.prepare.new.stream) c.in_ok-prepare.ensures.prepares) c.in_ok-prepare.ensures.stays
    (asks_input {E = RunFault} (λ lines. (told : Report) × (next : Option (List ℕ)) × AsksPart g.H.NodeHash.digest_of g.V.VufCheck.accepted g.S.Verifier.verified (ExchangesFrames g.T.Write.contents g.T.Read.remaining) (background_of c.prepare.new.asker) lines ready told (g.W.Write.contents c.prepare.new.writer) next
    × HoldsBack (c.ask_lines-asked.result ≡ Err (Program CannotWrite)) (g.W.Write.contents c.ask_lines-asked.new.writer) c.ask_lines-asked.new.self.said told next) (Ok tt) (g.R.Read.remaining c.args.reader.now) c.args.order c.in-None.is c.ask_lines-asked.ensures.part)
    (late_none g.H.NodeHash.digest_of g.V.VufCheck.accepted g.S.Verifier.verified (ExchangesFrames g.T.Write.contents g.T.Read.remaining) c.args.order (c.args.self.now.state ≡ None) (background_of c.in_ok-asker.asker) start (λ after last. c.ask_lines-asked.new.self.limit.last ≡ Some last) c.in-None.is) none)

pub returns-in_err-asker-clause-kept : goal.returns-in_err-asker-clause-kept
returns-in_err-asker-clause-kept g c = λ fresh old acts is has.
    let lines = lines_asked (ask_values c.args.order).words (g.R.Read.remaining c.args.reader.now) in
    subst (λ (o : Option (List ℕ)). IsLeft g.H.NodeHash.digest_of g.V.VufCheck.accepted g.S.Verifier.verified lines c.args.keys.now.signing_key old (λ (done : List Act). g.K.Keeper.has c.begin.new.keeper (done ++ acts)) c.begin.new.self.state o) (sym is) (c.in_err-asker.ensures.left fresh lines old acts has)

pub returns-in_err-prepare-clause-kept : goal.returns-in_err-prepare-clause-kept
returns-in_err-prepare-clause-kept g c = λ fresh old acts is has.
    let lines = lines_asked (ask_values c.args.order).words (g.R.Read.remaining c.args.reader.now) in
    let asker = c.in_ok-asker.asker in
    let (start, begun) = c.in_ok-asker.ensures.stands fresh lines old acts has in
    let happened : List Act → Type 0 = λ done. g.K.Keeper.has c.begin.new.keeper (done ++ acts) in
    let stands = subst (λ (o : Option (List ℕ)). RunStands g.H.NodeHash.digest_of g.V.VufCheck.accepted g.S.Verifier.verified lines start old happened asker c.begin.new.self.said.text.items c.begin.new.self.state o) (sym is) begun in
    let prepared = c.prepare.ensures.stands lines start old acts stands in
    let key = c.in_ok-asker.ensures.knows.0 in
    state-left g.H.NodeHash.digest_of g.V.VufCheck.accepted g.S.Verifier.verified lines c.args.keys.now.signing_key start old (λ (done : List Act). g.K.Keeper.has c.prepare.new.keeper (done ++ acts)) c.prepare.new.self.state (g.W.Write.contents c.prepare.new.writer)
    (subst (λ (k : List ℕ). StateIsKept g.H.NodeHash.digest_of g.V.VufCheck.accepted g.S.Verifier.verified lines k start old (λ (done : List Act). g.K.Keeper.has c.prepare.new.keeper (done ++ acts)) c.prepare.new.self.state (g.W.Write.contents c.prepare.new.writer)) (key) (prepared.0))

pub returns-in_err-line-in-Some-clause-kept : goal.returns-in_err-line-in-Some-clause-kept
returns-in_err-line-in-Some-clause-kept g c = λ fresh old acts is has.
    let lines = lines_asked (ask_values c.args.order).words (g.R.Read.remaining c.args.reader.now) in
    let asker = c.in_ok-asker.asker in
    let (start, begun) = c.in_ok-asker.ensures.stands fresh lines old acts has in
    let happened : List Act → Type 0 = λ done. g.K.Keeper.has c.begin.new.keeper (done ++ acts) in
    let stands = subst (λ (o : Option (List ℕ)). RunStands g.H.NodeHash.digest_of g.V.VufCheck.accepted g.S.Verifier.verified lines start old happened asker c.begin.new.self.said.text.items c.begin.new.self.state o) (sym is) begun in
    let prepared = c.prepare.ensures.stands lines start old acts stands in
    let key = c.in_ok-asker.ensures.knows.0 in
    state-left g.H.NodeHash.digest_of g.V.VufCheck.accepted g.S.Verifier.verified lines c.args.keys.now.signing_key start old (λ (done : List Act). g.K.Keeper.has c.prepare.new.keeper (done ++ acts)) c.prepare.new.self.state (g.W.Write.contents c.prepare.new.writer)
    (subst (λ (k : List ℕ). StateIsKept g.H.NodeHash.digest_of g.V.VufCheck.accepted g.S.Verifier.verified lines k start old (λ (done : List Act). g.K.Keeper.has c.prepare.new.keeper (done ++ acts)) c.prepare.new.self.state (g.W.Write.contents c.prepare.new.writer)) (key) (prepared.0))

pub returns-in-Some-clause-kept : goal.returns-in-Some-clause-kept
returns-in-Some-clause-kept g c = λ fresh old acts is has.
    let lines = lines_asked (ask_values c.args.order).words (g.R.Read.remaining c.args.reader.now) in
    let asker = c.in_ok-asker.asker in
    let (start, begun) = c.in_ok-asker.ensures.stands fresh lines old acts has in
    let happened : List Act → Type 0 = λ done. g.K.Keeper.has c.begin.new.keeper (done ++ acts) in
    let stands = subst (λ (o : Option (List ℕ)). RunStands g.H.NodeHash.digest_of g.V.VufCheck.accepted g.S.Verifier.verified lines start old happened asker c.begin.new.self.said.text.items c.begin.new.self.state o) (sym is) begun in
    let prepared = c.prepare.ensures.stands lines start old acts stands in
    let key = c.in_ok-asker.ensures.knows.0 in
    let ready = ok_have c.prepare.result c.in_ok-prepare.was prepared.1 in
    let key' = ap (λ (b : Background). b.key) c.in_ok-prepare.ensures.stays ∙ key in
    let among = words_among lines (words_line (ask_values c.args.order).words) c.deref.result.now (words_asked (g.R.Read.remaining c.args.reader.now) c.args.order c.in-Some.field-0 c.in-Some.is) (c.deref.ensures.value ∙ c.in_ok-line-in-Some.ensures) in
    state-left g.H.NodeHash.digest_of g.V.VufCheck.accepted g.S.Verifier.verified lines c.args.keys.now.signing_key start old (λ (done : List Act). g.K.Keeper.has c.ask_line-asked.new.keeper (done ++ acts)) c.ask_line-asked.new.self.state (g.W.Write.contents c.ask_line-asked.new.writer)
    (subst (λ (k : List ℕ). StateIsKept g.H.NodeHash.digest_of g.V.VufCheck.accepted g.S.Verifier.verified lines k start old (λ (done : List Act). g.K.Keeper.has c.ask_line-asked.new.keeper (done ++ acts)) c.ask_line-asked.new.self.state (g.W.Write.contents c.ask_line-asked.new.writer)) (key') ((c.ask_line-asked.ensures.stands lines start old acts among ready).0))

pub returns-clause-kept : goal.returns-clause-kept
returns-clause-kept g c = λ fresh old acts is has.
    let lines = lines_asked (ask_values c.args.order).words (g.R.Read.remaining c.args.reader.now) in
    let asker = c.in_ok-asker.asker in
    let (start, begun) = c.in_ok-asker.ensures.stands fresh lines old acts has in
    let happened : List Act → Type 0 = λ done. g.K.Keeper.has c.begin.new.keeper (done ++ acts) in
    let stands = subst (λ (o : Option (List ℕ)). RunStands g.H.NodeHash.digest_of g.V.VufCheck.accepted g.S.Verifier.verified lines start old happened asker c.begin.new.self.said.text.items c.begin.new.self.state o) (sym is) begun in
    let prepared = c.prepare.ensures.stands lines start old acts stands in
    let key = c.in_ok-asker.ensures.knows.0 in
    let ready = ok_have c.prepare.result c.in_ok-prepare.was prepared.1 in
    let key' = ap (λ (b : Background). b.key) c.in_ok-prepare.ensures.stays ∙ key in
    let same = input_asked (g.R.Read.remaining c.args.reader.now) c.args.order c.in-None.is in
    let here = subst (λ (ls : Option (List (List ℕ))). RunStands g.H.NodeHash.digest_of g.V.VufCheck.accepted g.S.Verifier.verified ls start old (λ (done : List Act). g.K.Keeper.has c.prepare.new.keeper (done ++ acts)) c.prepare.new.asker c.prepare.new.self.said.text.items c.prepare.new.self.state (g.W.Write.contents c.prepare.new.writer)) same ready in
    let kept = c.ask_lines-asked.ensures.stands start old acts here in
    let back = subst (λ (ls : Option (List (List ℕ))). StateIsKept g.H.NodeHash.digest_of g.V.VufCheck.accepted g.S.Verifier.verified ls c.prepare.new.asker.key start old (λ (done : List Act). g.K.Keeper.has c.ask_lines-asked.new.keeper (done ++ acts)) c.ask_lines-asked.new.self.state (g.W.Write.contents c.ask_lines-asked.new.writer)) (sym same) kept in
    state-left g.H.NodeHash.digest_of g.V.VufCheck.accepted g.S.Verifier.verified lines c.args.keys.now.signing_key start old (λ (done : List Act). g.K.Keeper.has c.ask_lines-asked.new.keeper (done ++ acts)) c.ask_lines-asked.new.self.state (g.W.Write.contents c.ask_lines-asked.new.writer)
    (subst (λ (k : List ℕ). StateIsKept g.H.NodeHash.digest_of g.V.VufCheck.accepted g.S.Verifier.verified lines k start old (λ (done : List Act). g.K.Keeper.has c.ask_lines-asked.new.keeper (done ++ acts)) c.ask_lines-asked.new.self.state (g.W.Write.contents c.ask_lines-asked.new.writer)) (key') (back))

pub returns-in-Some-clause-marks : goal.returns-in-Some-clause-marks
returns-in-Some-clause-marks g c =
    rw c.note_kept.ensures.same (let start = scene c.in_ok-asker.asker c.begin.new.self.said c.begin.new.stream in
    let ready = scene c.prepare.new.asker c.prepare.new.self.said c.prepare.new.stream in
    let last = scene c.ask_line-asked.new.asker c.ask_line-asked.new.self.said c.ask_line-asked.new.stream in
    let line = rw (c.deref.ensures.value, c.in_ok-line-in-Some.ensures) at c.ask_line-asked.ensures.asks in
    let once = leads_once g.H.NodeHash.digest_of g.V.VufCheck.accepted g.S.Verifier.verified (ExchangesFrames g.T.Write.contents g.T.Read.remaining) (background_of c.prepare.new.asker) ready last
    (g.W.Write.contents c.prepare.new.writer) (g.W.Write.contents c.ask_line-asked.new.writer) (words_line (ask_values c.args.order).words) in
    let asks = asks_words (λ lines. AsksLines g.H.NodeHash.digest_of g.V.VufCheck.accepted g.S.Verifier.verified (ExchangesFrames g.T.Write.contents g.T.Read.remaining) (background_of c.prepare.new.asker) lines ready
    (g.W.Write.contents c.prepare.new.writer) (g.W.Write.contents c.ask_line-asked.new.writer) last) c.ask_line-asked.result (g.R.Read.remaining c.args.reader.now) c.args.order c.in-Some.field-0 c.in-Some.is
    (ok_then {Q = AsksLines g.H.NodeHash.digest_of g.V.VufCheck.accepted g.S.Verifier.verified (ExchangesFrames g.T.Write.contents g.T.Read.remaining) (background_of c.prepare.new.asker) (words_line (ask_values c.args.order).words ∷ []) ready
    (g.W.Write.contents c.prepare.new.writer) (g.W.Write.contents c.ask_line-asked.new.writer) last} c.ask_line-asked.result line once) in
    ok_both c.ask_line-asked.result asks c.ask_line-asked.ensures.marks (λ all marks fresh unlooked none old acts is has.
    let lines = lines_asked (ask_values c.args.order).words (g.R.Read.remaining c.args.reader.now) in
    let asker = c.in_ok-asker.asker in
    let (found, begun) = c.in_ok-asker.ensures.stands fresh lines old acts has in
    let happened : List Act → Type 0 = λ done. g.K.Keeper.has c.begin.new.keeper (done ++ acts) in
    let happened' : List Act → Type 0 = λ done. g.K.Keeper.has c.ask_line-asked.new.keeper (done ++ acts) in
    let stands = subst (λ (o : Option (List ℕ)). RunStands g.H.NodeHash.digest_of g.V.VufCheck.accepted g.S.Verifier.verified lines found old happened asker c.begin.new.self.said.text.items c.begin.new.self.state o) (sym is) begun in
    let prepared = ok_have c.prepare.result c.in_ok-prepare.was (c.prepare.ensures.stands lines found old acts stands).1 in
    let one = c.in_ok-prepare.ensures.marks lines found old acts stands in
    let key = ap (λ (b : Background). b.key) c.in_ok-prepare.ensures.stays ∙ c.in_ok-asker.ensures.knows.0 in
    let among = words_among lines (words_line (ask_values c.args.order).words) c.deref.result.now (words_asked (g.R.Read.remaining c.args.reader.now) c.args.order c.in-Some.field-0 c.in-Some.is) (c.deref.ensures.value ∙ c.in_ok-line-in-Some.ensures) in
    let (stood, other) = marks lines found old acts among prepared in
    let saved = run-saved g.H.NodeHash.digest_of g.V.VufCheck.accepted g.S.Verifier.verified lines found old happened' c.ask_line-asked.new.asker c.ask_line-asked.new.self.said.text.items c.ask_line-asked.new.self.state (g.W.Write.contents c.ask_line-asked.new.writer) c.args.keys.now.signing_key
    (ap (λ (b : Background). b.key) c.ask_line-asked.ensures.stays ∙ key) stood in
    let both = marks-then c.begin.new.self.state c.prepare.new.self.state c.ask_line-asked.new.self.state asker.monitors.items c.prepare.new.asker.monitors.items c.ask_line-asked.new.asker.monitors.items one other in
    whole-marked g.H.NodeHash.digest_of g.V.VufCheck.accepted g.S.Verifier.verified (ExchangesFrames g.T.Write.contents g.T.Read.remaining) c.args.keys.now.signing_key c.args.keys.now.token (ask_values c.args.order) (c.args.self.now.state ≡ None)
    (background_of asker) (background_of c.prepare.new.asker) c.args.stream.now start ready last (g.R.Read.remaining c.args.reader.now) (g.W.Write.contents c.args.writer.now)
    (g.W.Write.contents c.prepare.new.writer) (g.W.Write.contents c.ask_line-asked.new.writer) old happened' c.ask_line-asked.new.self.state found
    (begins_run g.H.NodeHash.digest_of g.V.VufCheck.accepted g.S.Verifier.verified (ExchangesFrames g.T.Write.contents g.T.Read.remaining) c.args.keys.now.signing_key c.args.keys.now.token (c.args.self.now.state ≡ None) (background_of asker) c.args.stream.now start (report_of c.args.self.now.said)
    c.in_ok-asker.ensures.said c.in_ok-asker.ensures.begins c.in_ok-asker.ensures.knows c.in_ok-asker.ensures.finals none)
    (writes_with g.H.NodeHash.digest_of g.V.VufCheck.accepted g.S.Verifier.verified (ExchangesFrames g.T.Write.contents g.T.Read.remaining) c.args.keys.now.signing_key c.args.keys.now.token (ask_values c.args.order)
    (c.begin.new.self.state ≡ None) (c.args.self.now.state ≡ None) c.begin.ensures.still.1 c.begin.ensures.still.0 (background_of asker) start
    (g.W.Write.contents c.args.writer.now) (g.W.Write.contents c.prepare.new.writer) ready c.in_ok-prepare.ensures.prepares) c.in_ok-prepare.ensures.stays all
    (λ no. c.begin.ensures.still.0 (both.0 no)) begun.1 saved (both.1 (marks-first c.begin.new.self.state asker.monitors.items c.in_ok-asker.ensures.knows.2 (c.begin.ensures.looks unlooked)))))

pub returns-clause-marks : goal.returns-clause-marks
returns-clause-marks g c =
    rw c.note_kept-in-None.ensures.same (let start = scene c.in_ok-asker.asker c.begin.new.self.said c.begin.new.stream in
    let ready = scene c.prepare.new.asker c.prepare.new.self.said c.prepare.new.stream in
    let last = scene c.ask_lines-asked.new.asker c.ask_lines-asked.new.self.said c.ask_lines-asked.new.stream in
    let asks = asks_input (λ lines. AsksLines g.H.NodeHash.digest_of g.V.VufCheck.accepted g.S.Verifier.verified (ExchangesFrames g.T.Write.contents g.T.Read.remaining) (background_of c.prepare.new.asker) lines ready
    (g.W.Write.contents c.prepare.new.writer) (g.W.Write.contents c.ask_lines-asked.new.writer) last) c.ask_lines-asked.result (g.R.Read.remaining c.args.reader.now) c.args.order c.in-None.is c.ask_lines-asked.ensures.asks in
    ok_both c.ask_lines-asked.result asks c.ask_lines-asked.ensures.marks (λ all marks fresh unlooked none old acts is has.
    let lines = lines_asked (ask_values c.args.order).words (g.R.Read.remaining c.args.reader.now) in
    let asker = c.in_ok-asker.asker in
    let (found, begun) = c.in_ok-asker.ensures.stands fresh lines old acts has in
    let happened : List Act → Type 0 = λ done. g.K.Keeper.has c.begin.new.keeper (done ++ acts) in
    let happened' : List Act → Type 0 = λ done. g.K.Keeper.has c.ask_lines-asked.new.keeper (done ++ acts) in
    let stands = subst (λ (o : Option (List ℕ)). RunStands g.H.NodeHash.digest_of g.V.VufCheck.accepted g.S.Verifier.verified lines found old happened asker c.begin.new.self.said.text.items c.begin.new.self.state o) (sym is) begun in
    let prepared = ok_have c.prepare.result c.in_ok-prepare.was (c.prepare.ensures.stands lines found old acts stands).1 in
    let one = c.in_ok-prepare.ensures.marks lines found old acts stands in
    let key = ap (λ (b : Background). b.key) c.in_ok-prepare.ensures.stays ∙ c.in_ok-asker.ensures.knows.0 in
    let same = input_asked (g.R.Read.remaining c.args.reader.now) c.args.order c.in-None.is in
    let here = subst (λ (ls : Option (List (List ℕ))). RunStands g.H.NodeHash.digest_of g.V.VufCheck.accepted g.S.Verifier.verified ls found old (λ (done : List Act). g.K.Keeper.has c.prepare.new.keeper (done ++ acts)) c.prepare.new.asker c.prepare.new.self.said.text.items c.prepare.new.self.state (g.W.Write.contents c.prepare.new.writer)) same prepared in
    let (stood, kept, other) = marks found old acts here in
    let back = subst (λ (ls : Option (List (List ℕ))). RunStands g.H.NodeHash.digest_of g.V.VufCheck.accepted g.S.Verifier.verified ls found old happened' c.ask_lines-asked.new.asker c.ask_lines-asked.new.self.said.text.items c.ask_lines-asked.new.self.state (g.W.Write.contents c.ask_lines-asked.new.writer)) (sym same) stood in
    let saved = run-saved g.H.NodeHash.digest_of g.V.VufCheck.accepted g.S.Verifier.verified lines found old happened' c.ask_lines-asked.new.asker c.ask_lines-asked.new.self.said.text.items c.ask_lines-asked.new.self.state (g.W.Write.contents c.ask_lines-asked.new.writer) c.args.keys.now.signing_key (kept ∙ key) back in
    let both = marks-then c.begin.new.self.state c.prepare.new.self.state c.ask_lines-asked.new.self.state asker.monitors.items c.prepare.new.asker.monitors.items c.ask_lines-asked.new.asker.monitors.items one other in
    whole-marked g.H.NodeHash.digest_of g.V.VufCheck.accepted g.S.Verifier.verified (ExchangesFrames g.T.Write.contents g.T.Read.remaining) c.args.keys.now.signing_key c.args.keys.now.token (ask_values c.args.order) (c.args.self.now.state ≡ None)
    (background_of asker) (background_of c.prepare.new.asker) c.args.stream.now start ready last (g.R.Read.remaining c.args.reader.now) (g.W.Write.contents c.args.writer.now)
    (g.W.Write.contents c.prepare.new.writer) (g.W.Write.contents c.ask_lines-asked.new.writer) old happened' c.ask_lines-asked.new.self.state found
    (begins_run g.H.NodeHash.digest_of g.V.VufCheck.accepted g.S.Verifier.verified (ExchangesFrames g.T.Write.contents g.T.Read.remaining) c.args.keys.now.signing_key c.args.keys.now.token (c.args.self.now.state ≡ None) (background_of asker) c.args.stream.now start (report_of c.args.self.now.said)
    c.in_ok-asker.ensures.said c.in_ok-asker.ensures.begins c.in_ok-asker.ensures.knows c.in_ok-asker.ensures.finals none)
    (writes_with g.H.NodeHash.digest_of g.V.VufCheck.accepted g.S.Verifier.verified (ExchangesFrames g.T.Write.contents g.T.Read.remaining) c.args.keys.now.signing_key c.args.keys.now.token (ask_values c.args.order)
    (c.begin.new.self.state ≡ None) (c.args.self.now.state ≡ None) c.begin.ensures.still.1 c.begin.ensures.still.0 (background_of asker) start
    (g.W.Write.contents c.args.writer.now) (g.W.Write.contents c.prepare.new.writer) ready c.in_ok-prepare.ensures.prepares) c.in_ok-prepare.ensures.stays all
    (λ no. c.begin.ensures.still.0 (both.0 no)) begun.1 saved (both.1 (marks-first c.begin.new.self.state asker.monitors.items c.in_ok-asker.ensures.knows.2 (c.begin.ensures.looks unlooked)))))
