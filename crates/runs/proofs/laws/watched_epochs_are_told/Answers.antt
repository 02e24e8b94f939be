use Rattle.std.proofs.Common.{◌≡◌, None}
use Rattle.asking.specs.Exchanges.{ExchangesFrames}
use Rattle.runs.proofs.ToldRuns.{whole-keeps}
use Rattle.runs.proofs.laws.watched_epochs_are_told.Goals as goal

pub returns : goal.returns
returns g c = λ key token options. whole-keeps g.H.NodeHash.digest_of g.V.VufCheck.accepted g.S.Verifier.verified (ExchangesFrames g.T.Write.contents g.T.Read.remaining) key token options (options.state ≡ None)
