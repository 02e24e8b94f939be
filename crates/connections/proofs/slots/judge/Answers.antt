use Rattle.connections.proofs.Closing.{judged}
use Rattle.connections.proofs.slots.judge.Goals as goal

pub returns-clause-due : goal.returns-clause-due
returns-clause-due c = λ acts place time order synced over told here. judged c.args.round.now c.args.round.idle c.args.round.stopped acts place c.args.talk.now c.patience.result time order synced over told here c.patience.ensures.judged
