use Rattle.proofs.proofs.Passing.{refused-accepts}
use Rattle.proofs.proofs.laws.refused_is_not_accepted.Goals as goal

pub returns-clause-refused : goal.returns-clause-refused
returns-clause-refused g c body name bytes refusal refuses statement accepts =
    refused-accepts g.H.NodeHash.digest_of g.V.VufCheck.accepted body name bytes refusal statement refuses accepts

pub returns-clause-accepted : goal.returns-clause-accepted
returns-clause-accepted g c body name bytes statement accepts refusal refuses =
    refused-accepts g.H.NodeHash.digest_of g.V.VufCheck.accepted body name bytes refusal statement refuses accepts
