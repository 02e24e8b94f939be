use Rattle.std.proofs.Common.{arith}
use Rattle.rootchain.proofs.Places.{names_another}
use Rattle.rootchain.proofs.chain.placing.place_above.Goals as goal

pub returns-else-names-clause-place : goal.returns-else-names-clause-place
returns-else-names-clause-place g c = (
  names_another g.H.NodeHash.digest_of c.args.head.now c.args.root.now c.names.result c.names.ensures.value c.if-names.false (omega (arith, c.if-root-head.false, c.if-head-root.false)),
  c.copied-else-names.ensures,
  c.copied-else-names-2.ensures,
)
