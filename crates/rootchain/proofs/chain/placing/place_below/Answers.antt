use Rattle.std.proofs.Common.{arith}
use Rattle.rootchain.proofs.Places.{names_another}
use Rattle.rootchain.proofs.chain.placing.place_below.Goals as goal

pub returns-clause-place : goal.returns-clause-place
returns-clause-place g c = (
  names_another g.H.NodeHash.digest_of c.args.root.now c.args.first.now c.names.result c.names.ensures.value c.if-names.false (omega (arith, c.if-first-root.false, c.if-root-first.false)),
  c.copied-2.ensures,
  c.copied-3.ensures,
)
