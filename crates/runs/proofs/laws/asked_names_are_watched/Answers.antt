use Rattle.std.proofs.Common.{◌≡◌, None}
use Rattle.asking.specs.Exchanges.{ExchangesFrames}
use Rattle.runs.proofs.AskedNames.{asked-seen}
use Rattle.runs.proofs.laws.asked_names_are_watched.Goals as goal

pub returns : goal.returns
returns g c = λ key token options. asked-seen g.H.NodeHash.digest_of g.V.VufCheck.accepted g.S.Verifier.verified (ExchangesFrames g.T.Write.contents g.T.Read.remaining) key token options (options.state ≡ None)
