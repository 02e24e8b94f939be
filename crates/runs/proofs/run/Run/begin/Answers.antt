use Rattle.std.proofs.Common.{◌≡◌, ◌⊎◌, [], Err, None, ap, inl, inr, refl, rules, subst}
use Rattle.textio.specs.declared.program_fault.ProgramFault.TheVariants.{OutOfMemory}
use Rattle.std.specs.Prelude.{OnErr}
use Rattle.runs.specs.Ending.{BeginsNone}
use Rattle.asking.specs.Exchanges.{ExchangesFrames}
use Rattle.runs.specs.RunFaults.{IsFaultOfState}
use Rattle.asking.specs.Reports.{report_of, Report}
use Rattle.runs.proofs.Begun.{begun-left, begun_run, left_so, loaded-kept, loaded-stands}
use Rattle.runs.specs.Lateness.{IsLast}
use Rattle.runs.specs.declared.run_fault.RunFault.TheVariants.{Program}
use Rattle.runs.specs.declared.lateness.Limit.{Limit}
use Rattle.runs.proofs.Ended.{err_so}
use Rattle.runs.proofs.Late.{err_more, first_state, first_unread, noted_same, noted_still}
use Rattle.runs.proofs.Faulty.{stops_more}
use Rattle.runs.proofs.Ran.{begins_at_head}
use Rattle.runs.proofs.run.Run.begin.Goals as goal

pub returns-in_ok-tell_evidence-in-Ok-clause-begins : goal.returns-in_ok-tell_evidence-in-Ok-clause-begins
returns-in_ok-tell_evidence-in-Ok-clause-begins g c =
    inr ((λ none. search (rules, (rw c.in-Ok.is at (c.in_ok-asker.ensures.none none)))), refl, rw c.in-Ok.is at c.in_ok-asker.ensures.sound, rw c.in-Ok.is at c.in_ok-asker.ensures.kept)

pub returns-in-Err-clause-begins : goal.returns-in-Err-clause-begins
returns-in-Err-clause-begins g c =
    begins_at_head g.H.NodeHash.digest_of g.V.VufCheck.accepted g.S.Verifier.verified (ExchangesFrames g.T.Write.contents g.T.Read.remaining) c.args.keys.now.signing_key c.args.keys.now.token
    (c.args.self.now.state ≡ None) c.begin_at_head.result c.args.stream.now c.begin_at_head.new.stream c.begin_at_head.ensures.begins c.begin_at_head.ensures.knows

pub returns-in-Err-clause-faults : goal.returns-in-Err-clause-faults
returns-in-Err-clause-faults g c =
    stops_more (λ fault. fault ≡ OutOfMemory) (λ fault. ((¬ (c.args.self.now.state ≡ None)) × IsFaultOfState fault) ⊎ (fault ≡ OutOfMemory)) c.begin_at_head.result (λ fault is. inr is) c.begin_at_head.ensures.faults

pub returns-in_err-asker-clause-none : goal.returns-in_err-asker-clause-none
returns-in_err-asker-clause-none g c = err_so _ (inl c.load.ensures.said)

pub returns-in-Err-clause-none : goal.returns-in-Err-clause-none
returns-in-Err-clause-none g c =
    subst (λ (r : Report). OnErr c.begin_at_head.result (BeginsNone g.S.Verifier.verified (ExchangesFrames g.T.Write.contents g.T.Read.remaining) c.args.keys.now.signing_key c.args.stream.now r (report_of c.begin_at_head.new.self.said)))
    c.load.ensures.said c.begin_at_head.ensures.none

pub returns-in_err-tell_evidence-in-Ok-clause-left : goal.returns-in_err-tell_evidence-in-Ok-clause-left
returns-in_err-tell_evidence-in-Ok-clause-left g c = left_so g.H.NodeHash.digest_of g.V.VufCheck.accepted g.S.Verifier.verified c.args.keys.now.signing_key (g.K.Keeper.has c.args.keeper.now) (g.K.Keeper.has c.load.new.keeper) c.args.self.now.state c.tell_evidence.new.self.state _ (λ fresh lines old acts has.
    let loaded = rw c.in-Ok.is at c.in_ok-asker.ensures.loads in
    rw c.tell_evidence.ensures.still (loaded-kept g.H.NodeHash.digest_of g.V.VufCheck.accepted g.S.Verifier.verified lines c.args.keys.now.signing_key old c.in-Ok.asker (g.K.Keeper.has c.args.keeper.now) (g.K.Keeper.has c.load.new.keeper) acts has c.load.new.self.state loaded))

pub returns-in_ok-tell_evidence-in-Ok-clause-stands : goal.returns-in_ok-tell_evidence-in-Ok-clause-stands
returns-in_ok-tell_evidence-in-Ok-clause-stands g c = λ fresh lines old acts has.
    let loaded = rw c.in-Ok.is at c.in_ok-asker.ensures.loads in
    let knows = rw c.in-Ok.is at c.in_ok-asker.ensures.knows in
    rw c.tell_evidence.ensures.still (loaded-stands g.H.NodeHash.digest_of g.V.VufCheck.accepted g.S.Verifier.verified lines c.args.keys.now.signing_key old c.in-Ok.asker (g.K.Keeper.has c.args.keeper.now) (g.K.Keeper.has c.load.new.keeper) acts has c.load.new.self.state
    c.tell_evidence.new.self.said.text.items loaded (c.load.ensures.counts fresh) (rw c.in-Ok.is at c.in_ok-asker.ensures.sound) (rw c.in-Ok.is at c.in_ok-asker.ensures.kept) knows.0 knows.2)

pub returns-in-Err-clause-left : goal.returns-in-Err-clause-left
returns-in-Err-clause-left g c = left_so g.H.NodeHash.digest_of g.V.VufCheck.accepted g.S.Verifier.verified c.args.keys.now.signing_key (g.K.Keeper.has c.args.keeper.now) (g.K.Keeper.has c.load.new.keeper) c.args.self.now.state c.begin_at_head.new.self.state _ (λ fresh lines old acts has.
    let begun = rw c.in-Err.is at c.in_ok-asker.ensures.fresh in
    rw c.begin_at_head.ensures.still (begun-left g.H.NodeHash.digest_of g.V.VufCheck.accepted g.S.Verifier.verified lines c.args.keys.now.signing_key old (g.K.Keeper.has c.args.keeper.now) (g.K.Keeper.has c.load.new.keeper) acts has c.args.self.now.state c.load.new.self.state fresh begun))

pub returns-in-Err-clause-stands : goal.returns-in-Err-clause-stands
returns-in-Err-clause-stands g c =
    let begun = rw c.in-Err.is at c.in_ok-asker.ensures.fresh in
    rw c.begin_at_head.ensures.still (begun_run g.H.NodeHash.digest_of g.V.VufCheck.accepted g.S.Verifier.verified c.args.keys.now.signing_key (g.K.Keeper.has c.args.keeper.now) (g.K.Keeper.has c.load.new.keeper) c.args.self.now.state c.load.new.self.state c.begin_at_head.result (ExchangesFrames g.T.Write.contents g.T.Read.remaining) c.args.stream.now c.begin_at_head.new.stream
    c.begin_at_head.new.self.said.text.items c.args.keys.now.token c.begin_at_head.ensures.begins c.begin_at_head.ensures.knows c.begin_at_head.ensures.changes c.load.ensures.counts begun)

pub returns-in_err-asker-clause-first : goal.returns-in_err-asker-clause-first
returns-in_err-asker-clause-first g c =
    let passed : c.from_residual.result ≡ Err (Program c.in_err-asker.field-0.0) = search rules in
    first_unread g.H.NodeHash.digest_of g.V.VufCheck.accepted g.S.Verifier.verified c.args.keys.now.signing_key (c.args.self.now.state ≡ None) c.from_residual.result c.args.self.now.limit c.load.new.self.limit c.load.new.self.said (report_of c.args.self.now.said)
    c.in_err-asker.field-0.0 passed (λ none. search (rules, (c.in_err-asker.ensures.none none))) c.in_err-asker.ensures.err (ap (λ (l : Limit). l.last) c.load.ensures.limit) c.load.ensures.said

pub returns-in_err-tell_evidence-in-Ok-clause-first : goal.returns-in_err-tell_evidence-in-Ok-clause-first
returns-in_err-tell_evidence-in-Ok-clause-first g c =
    let knows = rw c.in-Ok.is at c.in_ok-asker.ensures.knows in
    first_state g.H.NodeHash.digest_of g.V.VufCheck.accepted g.S.Verifier.verified c.args.keys.now.signing_key (c.args.self.now.state ≡ None) _ c.args.self.now.limit c.tell_evidence.new.self.limit c.tell_evidence.new.self.said (report_of c.args.self.now.said)
    c.in-Ok.asker.marks.items c.in-Ok.asker.client (λ none. search (rules, (rw c.in-Ok.is at (c.in_ok-asker.ensures.none none)))) (rw c.in-Ok.is at c.in_ok-asker.ensures.sound)
    (noted_still (IsLast c.in-Ok.asker.marks.items c.in-Ok.asker.client []) c.note.new.self c.tell_evidence.new.self.limit c.tell_evidence.ensures.limit
    (noted_same c.in-Ok.asker.marks.items c.in-Ok.asker.marks.items c.in-Ok.asker.client c.in-Ok.asker.client c.in-Ok.asker.monitors.items [] c.note.new.self refl refl knows.2 c.note.ensures.notes))

pub returns-in-Err-clause-first : goal.returns-in-Err-clause-first
returns-in-Err-clause-first g c = err_more c.begin_at_head.result (λ noted empty. inl noted) c.begin_at_head.ensures.first
