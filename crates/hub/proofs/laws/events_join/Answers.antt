use Rattle.hub.proofs.Running.{answered_append}
use Rattle.hub.proofs.Steps.{exchanges_answer}
use Rattle.hub.proofs.laws.events_join.Goals as goal

pub returns-clause-event : goal.returns-clause-event
returns-clause-event g c before after held left exchanges session all = exchanges_answer g.D.Service.answers before held exchanges after left session all

pub returns-clause-join : goal.returns-clause-join
returns-clause-join g c before middle after earlier later one other = answered_append g.D.Service.answers before earlier middle later after one other
