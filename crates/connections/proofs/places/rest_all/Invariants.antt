use Rattle.connections.proofs.Touring.{RestedTo}
use Rattle.connections.proofs.places.rest_all.Given as goal

-- the places so far rested
abbrev pub invariant-loop-place : goal.invariant-loop-place
invariant-loop-place l = RestedTo l.now l.place l.fn.places l.places
