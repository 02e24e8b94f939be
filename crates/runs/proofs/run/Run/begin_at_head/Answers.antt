use Rattle.std.proofs.Common.{◌∙◌, ap, inl}
use Rattle.asking.specs.Exchanges.{ExchangesFrames}
use Rattle.asking.specs.Reports.{report_of}
use Rattle.runs.proofs.Ended.{begins_none, err_so}
use Rattle.runs.proofs.Rising.{start_rises}
use Rattle.runs.proofs.run.Run.begin_at_head.Goals as goal

pub returns-in_err-asker-clause-rises : goal.returns-in_err-asker-clause-rises
returns-in_err-asker-clause-rises g c =
    start_rises g.S.Verifier.verified (ExchangesFrames g.T.Write.contents g.T.Read.remaining) c.args.keys.now.signing_key c.start_at_head.result c.args.self.now.said c.start_at_head.new.said
    c.args.stream.now c.start_at_head.new.stream c.start_at_head.ensures.said c.start_at_head.ensures.stops c.start_at_head.ensures.halts

pub returns-in_err-asker-clause-none : goal.returns-in_err-asker-clause-none
returns-in_err-asker-clause-none g c =
    err_so _ (begins_none g.S.Verifier.verified (ExchangesFrames g.T.Write.contents g.T.Read.remaining) c.args.keys.now.signing_key c.in_err-asker.field-0.0 c.args.self.now.said c.start_at_head.new.said
    c.args.stream.now c.start_at_head.new.stream c.in_err-asker.ensures.stops c.in_err-asker.ensures.halts)

pub returns-in_err-tell_epoch-clause-none : goal.returns-in_err-tell_epoch-clause-none
returns-in_err-tell_epoch-clause-none g c = err_so _ (inl (c.tell_epoch.ensures ∙ ap report_of c.in_ok-asker.ensures.said))
