use Rattle.auditor.specs.Chains.{AreHeld}
use Rattle.std.proofs.Common.{subst}
use Rattle.auditor.proofs.Holding.{found-held}
use Rattle.auditor.proofs.auditor.Auditor.chain.Goals as goal

pub returns-clause-held : goal.returns-clause-held
returns-clause-held g c = found-held c.args.self.now c.args.provider_key.now (subst AreHeld c.self.view_is c.self.invariant)
