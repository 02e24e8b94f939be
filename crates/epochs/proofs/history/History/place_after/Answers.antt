use Rattle.std.proofs.Common.{rules, tests, nat_le}
use Rattle.std.proofs.lemmas.List.Sorted.{IsPartitionedBy-leb, IsPartitionPoint-from_clause}
use Rattle.epochs.specs.Histories.{Version}
use Rattle.epochs.proofs.Searched.{ends-from, non_decreasing}
use Rattle.epochs.proofs.history.History.place_after.Goals as goal

pub returns-clause-place : goal.returns-clause-place
returns-clause-place c =
    let up = IsPartitionedBy-leb (λ (version : Version). version.number) c.self.inside.versions.items c.args.page (non_decreasing c.self.inside.versions.items c.self.invariant.1) in
    rw (← c.self.view_is, ← c.deref.ensures.value)
    (ends-from c.args.page c.deref.result.now c.partition_point.result
    (IsPartitionPoint-from_clause (λ version. nat_le version.number c.args.page) c.deref.result.now c.partition_point.result c.partition_point.ensures.partitioned (rw c.deref.ensures.value up) (λ a r q k. search (rules, tests))))
