use Rattle.std.proofs.Common.{refl}
use Rattle.auditor.proofs.Holding.{one-held, put-has, put-held}
use Rattle.auditor.proofs.auditor.Auditor.start.Goals as goal

pub invariant_of-self-2 : goal.invariant_of-self-2
invariant_of-self-2 g c =
    rw (c.in_ok-insert.ensures.entries, c.in_ok-chain.ensures.started)
    (put-held c.self.inside.chains.entries c.args.provider_key.now _ c.self.invariant (one-held c.args.provider_key.now c.args.root c.requires.form))

pub returns-clause-observes : goal.returns-clause-observes
returns-clause-observes g c = (
  c.in_ok-chain.ensures.verifies,
  rw c.requires.none refl,
  rw (c.in_ok-insert.ensures.entries, c.in_ok-chain.ensures.started, c.self.view_is) (put-has c.args.self.now c.args.provider_key.now _),
)
