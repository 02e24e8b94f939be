use Rattle.nodehash.specs.Sha256.{sha256}
use Rattle.vrfiface.specs.StandIns.{keyed_value, KeyedAccepts}
use Rattle.sigiface.specs.StandIn.{keyed_signature, KeyedVerifies}
use Rattle.book.specs.Salts.{chacha_salts}
use Rattle.hub.specs.Desks.{DeskAnswers}
use Rattle.hub.proofs.DeskHonest.{lines_show_honest_run}
use Rattle.server.specs.Sessions.{is_unkept}
use Rattle.server.proofs.Crowds.{crowd_answered, hub_leads}
use Rattle.server.proofs.ReplySizes.{lines_short}
use Rattle.server.proofs.Waiting.{crowd_waits_within}
use Rattle.server.proofs.listening.answer_crowd.Goals as goal

pub returns-clause-shown : goal.returns-clause-shown
returns-clause-shown g c = λ has.
    let happened = c.answer_all.ensures.happens has in
    let answers = DeskAnswers sha256 keyed_value keyed_signature chacha_salts g.K.Keeper.kept g.K.Keeper.failed in
    let told = crowd_answered answers (λ sessions. sessions.hub) c.args.sessions.now happened.0 c.answer_all.new.sessions
    (hub_leads answers (λ sessions. sessions.hub) is_unkept (λ sessions. sessions.has_unkept) c.args.sessions.now happened.0 c.answer_all.new.sessions happened.1.1) in
    let shown = lines_show_honest_run sha256 keyed_value keyed_signature chacha_salts g.K.Keeper.kept g.K.Keeper.failed KeyedAccepts KeyedVerifies
    c.args.sessions.now.hub.service told.0 c.answer_all.new.sessions.hub.service c.head.ensures.well c.head-2.ensures.well told.2
    in (
      happened.0,
      happened.1.0,
      record { sound = happened.1.2; within = happened.2; ended = happened.3; fair = happened.4; whole = happened.5; inside = happened.6 },
      crowd_waits_within answers c.args.sessions.now.hub _ happened.0 c.answer_all.new.sessions.hub told.0 told.1 happened.1.2
          (lines_short c.args.sessions.now.hub.service.token told.0 shown.commands shown.replies shown.shown shown.read),
      (told.0, told.1, (told.2, shown)),
      happened.7,
    )
