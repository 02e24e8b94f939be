use Rattle.std.proofs.Common.{rules, tests, leb}
use Rattle.std.proofs.lemmas.List.Sorted.{IsPartitionPoint-from_clause}
use Rattle.rootchain.specs.declared.signed_root.SignedRoot.{SignedRoot}
use Rattle.rootchain.proofs.NextRoots.{epochs-parted-after, parts-after-from}
use Rattle.rootchain.proofs.chain.next_root.not_after.Goals as goal

pub returns-clause-point : goal.returns-clause-point
returns-clause-point c =
    parts-after-from c.args.roots.now c.args.epoch c.partition_point.result
    (IsPartitionPoint-from_clause (λ (root : SignedRoot). leb root.body.epoch c.args.epoch) c.args.roots.now c.partition_point.result c.partition_point.ensures.partitioned (epochs-parted-after c.args.roots.now c.args.epoch c.requires) (λ a r q k. search (rules, tests)))
