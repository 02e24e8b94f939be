use Rattle.std.specs.Prelude.{◌-◌, Ok, length}
use Rattle.connections.specs.Fitting.{HearsFrom}
use Rattle.connections.proofs.talk.hear_parts.Given as goal

-- so many bytes are heard
abbrev pub invariant-loop-heard : goal.invariant-loop-heard
invariant-loop-heard g l = HearsFrom g.S.Sessions.opens g.S.Sessions.refuses g.S.Sessions.hears g.S.Sessions.misses g.S.Sessions.ends l.place l.fn.sessions l.bytes l.fn.output.items (Ok l.heard) l.sessions l.output.items

abbrev pub decreases-loop-heard : goal.decreases-loop-heard
decreases-loop-heard g l = length l.bytes - l.heard
