use Rattle.std.proofs.Common.{rules, ◌≡◌, ◌<◌, ◌∙◌}
use Rattle.connections.specs.Telling.{line_text, Report}
use Rattle.connections.proofs.Wanting.{report_of}
use Rattle.connections.proofs.reports.Reports.tell.Goals as goal

pub returns-in-Ok-clause-lines : goal.returns-in-Ok-clause-lines
returns-in-Ok-clause-lines g c = λ told count start lines.
    let wanted : 0 < c.args.self.now.every = search rules in
    let text : c.deref.result.now ≡ line_text (Report c.in-Ok.ensures.0) = c.deref.ensures.value ∙ c.in-Ok.ensures.1 in
    report_of c.args.self.now.every count start _ _ c.write_text-told.result told c.in-Ok.ensures.0 c.deref.result.now text wanted lines c.write_text-told.ensures.ok c.write_text-told.ensures.err
