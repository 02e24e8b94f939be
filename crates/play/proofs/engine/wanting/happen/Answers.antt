use Rattle.play.proofs.Refused.{happens-well}
use Rattle.hub.specs.Events.{event_seen}
use Rattle.play.proofs.engine.wanting.happen.Goals as goal

pub hub_memory-requires : goal.hub_memory-requires
hub_memory-requires g c =
    happens-well g.D.Service.answers c.args.hub.now c.event.new.self (event_seen c.args.event.now) c.args.output.now.items c.event.new.output.items c.requires c.in-Err.why
    c.in-Err.ensures.happens
