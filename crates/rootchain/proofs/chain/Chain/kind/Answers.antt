use Rattle.std.proofs.Common.{rules, ◌≡◌}
use Rattle.rootchain.proofs.Places.{names_another}
use Rattle.rootchain.proofs.Taking.{not_named_is_place}
use Rattle.rootchain.proofs.chain.Chain.kind.Goals as goal

pub returns-else-names-clause-kind : goal.returns-else-names-clause-kind
returns-else-names-clause-kind g c =
    let epochs : c.args.root.now.body.previous_epoch ≡ c.head-head.result.now.body.epoch = search rules in
    let link = names_another g.H.NodeHash.digest_of c.head-head.result.now c.args.root.now c.names.result c.names.ensures.value c.if-names.false epochs in
    (search rules, not_named_is_place g.H.NodeHash.digest_of c.args.self.now c.first-first.result.now c.head-head.result.now c.args.root.now c.first-first.ensures c.head-head.ensures.head (search rules) (search rules) link)
