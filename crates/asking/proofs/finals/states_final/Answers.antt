use Rattle.std.proofs.Common.{◌∙◌, ap}
use Rattle.proofs.specs.BrokenFinals.{states_final}
use Rattle.asking.proofs.FinalsShown.{spells-final, unread-no-final}
use Rattle.asking.proofs.finals.states_final.Goals as goal

pub returns-in-Ok : goal.returns-in-Ok
returns-in-Ok c = spells-final c.args.bytes.now c.in-Ok.view c.in-Ok.ensures.exact c.is_final.result (c.is_final.ensures ∙ ap states_final c.statement.ensures)

pub returns-in-Err : goal.returns-in-Err
returns-in-Err c = (λ never. absurd cc, λ final. absurd (unread-no-final c.args.bytes.now c.in-Err.field-0 c.in-Err.ensures.exact final))
