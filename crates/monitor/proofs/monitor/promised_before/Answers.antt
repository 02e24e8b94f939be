use Rattle.std.proofs.Common.{ℕ, rules, tests, ltb}
use Rattle.std.proofs.lemmas.List.Sorted.{IsPartitionPoint-from_clause}
use Rattle.encoding.specs.declared.bound_key.BoundKey.{BoundKey}
use Rattle.monitor.proofs.Expected.{changes-parted, parts-from}
use Rattle.monitor.proofs.monitor.promised_before.Goals as goal

pub returns-clause-point : goal.returns-clause-point
returns-clause-point c =
    parts-from c.args.changes.now c.args.epoch c.partition_point.result
    (IsPartitionPoint-from_clause (λ (change : ℕ × BoundKey). ltb change.0 c.args.epoch) c.args.changes.now c.partition_point.result c.partition_point.ensures.partitioned (changes-parted c.args.changes.now c.args.epoch c.requires) (λ a r q k. search (rules, tests)))
