use Rattle.std.proofs.Common.{length, ap, arith}
use Rattle.proofs.proofs.Opposed.{found_on}
use Rattle.proofs.proofs.comparing.first_nodes.Goals as goal

pub returns-clause-found : goal.returns-clause-found
returns-clause-found g c =
    found_on g.H.NodeHash.digest_of g.V.VufCheck.accepted c.args.first.now c.args.second.now c.requires c.index.result c.hashes.result.now c.hashes-2.result.now
    c.end_text-first_end.result c.end_text-second_end.result c.first_to_differ.result c.index.ensures c.hashes.ensures.value c.hashes-2.ensures.value
    c.end_text-first_end.ensures.value c.end_text-second_end.ensures.value c.first_to_differ.ensures.found

pub returns-clause-counted : goal.returns-clause-counted
returns-clause-counted g c =
    omega (arith, c.end_text-first_end.ensures.counted, c.end_text-second_end.ensures.counted, c.first_to_differ.ensures.counted, ap length c.hashes.ensures.value, ap length c.hashes-2.ensures.value)
