use Rattle.std.proofs.Common.{rules}
use Rattle.std.proofs.lemmas.List.Elements.{All-from_recursion}
use Rattle.rootchain.specs.SignedRoots.{IsSignedRoot}
use Rattle.rootchain.specs.declared.list_refusal.ListRefusal.TheVariants.{Evidence}
use Rattle.rootchain.proofs.TakingLists.{refusal-spelled}
use Rattle.rootchain.proofs.chain.Chain.take_other.Goals as goal

pub returns-in-Evidence-clause-spelled : goal.returns-in-Evidence-clause-spelled
returns-in-Evidence-clause-spelled g c own given =
    refusal-spelled g.H.NodeHash.digest_of g.S.Verifier.verified c.args.self.now c.args.root (Evidence c.in-Evidence.evidence) c.place_of.ensures.chain.first
    (All-from_recursion IsSignedRoot c.args.self.now.roots own) given (search rules)
