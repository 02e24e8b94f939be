use Rattle.rootchain.proofs.TakingBytes.{bytes-formed, bytes-grow, bytes-hold, bytes-spelled}
use Rattle.rootchain.proofs.chain.Chain.take_bytes.Goals as goal

pub returns-clause-takes : goal.returns-clause-takes
returns-clause-takes g c = rw c.answer_of.ensures c.take_spelled-outcome.ensures.takes

pub returns-clause-grows : goal.returns-clause-grows
returns-clause-grows g c = bytes-grow g.H.NodeHash.digest_of g.S.Verifier.verified {A = Unit} c.args.self.now c.args.bytes.now c.answer_of.result c.take_spelled-outcome.new.self (returns-clause-takes g c)

pub returns-clause-evidence : goal.returns-clause-evidence
returns-clause-evidence g c = bytes-hold g.H.NodeHash.digest_of g.S.Verifier.verified {A = Unit} c.args.self.now c.args.bytes.now c.answer_of.result c.take_spelled-outcome.new.self c.take_spelled-outcome.ensures.chain (returns-clause-takes g c)

pub returns-clause-spelled : goal.returns-clause-spelled
returns-clause-spelled g c = bytes-spelled g.H.NodeHash.digest_of g.S.Verifier.verified {A = Unit} c.args.self.now c.args.bytes.now c.answer_of.result c.take_spelled-outcome.new.self c.take_spelled-outcome.ensures.chain (returns-clause-takes g c)

pub returns-clause-form : goal.returns-clause-form
returns-clause-form g c = bytes-formed g.H.NodeHash.digest_of g.S.Verifier.verified {A = Unit} c.args.self.now c.args.bytes.now c.answer_of.result c.take_spelled-outcome.new.self (returns-clause-takes g c)
