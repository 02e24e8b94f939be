use Rattle.play.proofs.Checking.{looks-told, steps-told}
use Rattle.std.proofs.Common.{refl}
use Rattle.play.proofs.laws.checks_are_told.Goals as goal

pub returns-clause-looks : goal.returns-clause-looks
returns-clause-looks g c provider key laws = λ book page root name text is holder later asked result chain at looks.
    looks-told provider g.V.VufCheck.accepted g.S.Verifier.verified key laws book is.sound page root is.rooted name is.named text is.shown holder later asked result chain at looks

pub returns-clause-steps : goal.returns-clause-steps
returns-clause-steps g c provider key laws = λ book page root text watcher is watching later result own same chain next steps.
    steps-told provider g.V.VufCheck.accepted g.S.Verifier.verified key laws book is.sound page root is.rooted watcher.name is.named text is.shown watching later watcher result own refl same chain next steps
