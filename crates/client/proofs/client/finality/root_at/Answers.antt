use Rattle.std.proofs.Common.{◌≡◌, None, ap, option_copied, sym, subst}
use Rattle.rootchain.specs.Chains.{IsAt}
use Rattle.rootchain.specs.declared.signed_root.SignedRoot.{SignedRoot}
use Rattle.client.proofs.client.finality.root_at.Goals as goal

pub unreachable-requires : goal.unreachable-requires
unreachable-requires g c =
    let found = (c.at.ensures c.requires.0).1 c.requires.1 in
    let none : option_copied c.at.result ≡ None = ap option_copied c.in_default.is in
    cc

pub returns : goal.returns
returns g c =
    subst (λ (root : SignedRoot). IsAt c.args.chain.now c.args.epoch root) (sym c.copied.ensures) ((c.at.ensures c.in-Some.root.now).0 (ap option_copied c.in-Some.is))
