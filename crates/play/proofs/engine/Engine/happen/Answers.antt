use Rattle.hub.specs.Events.{event_seen}
use Rattle.play.proofs.Sessions.{happened, HasMemory}
use Rattle.play.proofs.engine.Engine.happen.Goals as goal
use Rattle.play.proofs.engine.Engine.happen.Goals.{in-Ok, in-Err-TooManySessions, in-Err-SessionOpen, in-Err-NoSession, in-Err-Memory}

pub returns : goal.returns
returns g c =
    let done = λ (has : HasMemory c.event.result). happened g.H.NodeHash.digest_of g.V.Vuf.value_of g.S.Signer.signature_of g.R.Rng.stream g.V.VufCheck.accepted g.S.Verifier.verified
    _ c.args.self.now c.event.new.self (event_seen c.args.event.now) c.args.output.now.items c.event.new.output.items c.event.result c.self.view_is has c.event.ensures.happens in
    elim c.match-event.branch [
      | in-Ok w ↦ rw w.result-is (done (rw w.in-Ok.is tt))
      | in-Err-TooManySessions w ↦ rw w.result-is (done (rw (w.in-Err-TooManySessions.is, w.in-Err-TooManySessions.field-0-is) tt))
      | in-Err-SessionOpen w ↦ rw w.result-is (done (rw (w.in-Err-SessionOpen.is, w.in-Err-SessionOpen.field-0-is) tt))
      | in-Err-NoSession w ↦ rw w.result-is (done (rw (w.in-Err-NoSession.is, w.in-Err-NoSession.field-0-is) tt))
      | in-Err-Memory w ↦ rw w.result-is tt
    ]
