use Rattle.std.proofs.Common.{map, take}
use Rattle.hub.specs.Events.{event_seen}
use Rattle.hub.proofs.Outputting.{RanSo}
use Rattle.hub.proofs.sessions.Hub.run_any.Given as goal

-- the events so far are run, and these are their outputs
abbrev pub invariant-loop-event : goal.invariant-loop-event
invariant-loop-event g l = RanSo g.D.Service.answers l.fn.self (map event_seen (take l.event-index l.events)) l.self l.outputs
