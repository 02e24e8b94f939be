use Rattle.std.proofs.Common.{◌∷◌, refl}
use Rattle.connections.specs.Histories.{At}
use Rattle.connections.specs.Pauses.{IsPause}
use Rattle.connections.proofs.Touring.{begun}
use Rattle.connections.proofs.rounds.begin.Goals as goal

pub returns-clause-begins : goal.returns-clause-begins
returns-clause-begins g c = λ start acts known order fit rests.
    let waited : IsPause c.args.last.round.idle acts c.pause.result = rw c.pause.ensures rests in
    let a = c.stop_by-stopped.ensures c.args.last.round.idle start (At c.pause.result c.wait-now.result ∷ acts) (c.wait-now.ensures start acts known.1 known.0, known.1, (waited, known.2)) refl order in
    let b = begun acts c.pause.result c.wait-now.result a.0 c.rest_all.new.places a.1 (c.rest_all.ensures acts c.pause.result fit) in
    (a.0, a.2, b.0, b.1, a.3, a.4)
