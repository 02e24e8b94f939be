use Rattle.std.proofs.Common.{◌≡◌, ◌≢◌, ◌++◌, List}
use Rattle.wire.specs.Streams.{Failed, held_size}
use Rattle.hub.specs.Exchanges.{Exchange, Exchanges, replies}
use Rattle.hub.proofs.drain.drain.Given as goal

abbrev pub invariant-loop-output : goal.invariant-loop-output
invariant-loop-output g l = (xs : List Exchange) × Exchanges g.S.Service.answers l.fn.service l.fn.feed xs l.service l.feed
    × (l.output.items ≡ l.fn.output.items ++ replies xs) × (l.feed ≢ Failed)

abbrev pub decreases-loop-output : goal.decreases-loop-output
decreases-loop-output g l = held_size l.feed
