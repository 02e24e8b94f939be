use Rattle.std.proofs.Common.{◌∙◌, ap}
use Rattle.epochs.specs.DirectoryStates.{book, provider}
use Rattle.play.specs.Parties.{Parties}
use Rattle.play.proofs.Calling.{rooted-epoch}
use Rattle.play.proofs.engine.Engine.latest.Goals as goal

pub returns-clause-epoch : goal.returns-clause-epoch
returns-clause-epoch g c =
    let kept = c.self.inside.hub.service.directory in
    rooted-epoch (provider g.H.NodeHash.digest_of g.V.Vuf.value_of g.S.Signer.signature_of kept) (book g.R.Rng.stream kept) kept.last c.head.result.now c.head.ensures.head
    ∙ ap (λ (p : Parties g.row.R.Denot). p.hub.service.directory.last.epoch) c.self.view_is
