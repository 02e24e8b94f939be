use Rattle.play.proofs.Hearing.{away-asks, frame-asks, hears, of-pages, reached-asks}
use Rattle.play.proofs.laws.sessions_are_heard.Goals as goal

pub returns-clause-asks : goal.returns-clause-asks
returns-clause-asks g c message small = (λ asked reaches. reached-asks message asked small reaches, λ code away. away-asks message code small away)

pub returns-clause-told : goal.returns-clause-told
returns-clause-told g c provider key before after keeper later lines commands replies sound small granted shown run read honest =
    hears provider g.K.Keeper.kept g.K.Keeper.failed lines commands replies shown before after keeper later sound.ascend small run read
    (of-pages provider g.V.VufCheck.accepted g.S.Verifier.verified key before after commands replies honest) granted

pub returns-clause-frames : goal.returns-clause-frames
returns-clause-frames g c = frame-asks
