use Rattle.play.proofs.Answering.{answers-told, lookups-shown}
use Rattle.play.proofs.laws.answers_are_told.Goals as goal

pub returns-clause-answers : goal.returns-clause-answers
returns-clause-answers g c provider = answers-told provider g.K.Keeper.kept g.K.Keeper.failed

pub returns-clause-lookups : goal.returns-clause-lookups
returns-clause-lookups g c provider = lookups-shown provider g.K.Keeper.kept g.K.Keeper.failed
