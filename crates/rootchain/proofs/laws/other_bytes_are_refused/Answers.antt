use Rattle.rootchain.proofs.TakingPieces.{behind-a-list, too-many}
use Rattle.rootchain.proofs.laws.other_bytes_are_refused.Goals as goal

pub returns-clause-behind : goal.returns-clause-behind
returns-clause-behind g c = behind-a-list g.H.NodeHash.digest_of g.S.Verifier.verified

pub returns-clause-number : goal.returns-clause-number
returns-clause-number g c = too-many g.H.NodeHash.digest_of g.S.Verifier.verified
