use Rattle.std.proofs.Common.{arith, rules, tests, ltb}
use Rattle.std.proofs.lemmas.List.Sorted.{IsPartitionPoint-from_clause}
use Rattle.rootchain.specs.declared.signed_root.SignedRoot.{SignedRoot}
use Rattle.epochs.proofs.Reading.{history_reads, roots_parted}
use Rattle.epochs.proofs.directory.Directory.history.Goals as goal

pub returns : goal.returns
returns g c =
    let point = IsPartitionPoint-from_clause (λ (root : SignedRoot). ltb root.body.epoch c.args.from) c.deref.result.now c.partition_point-start.result c.partition_point-start.ensures.partitioned
    (rw c.deref.ensures.value (roots_parted _ _ _ _ c.self.invariant.0 c.args.from)) (λ a r q k. search (rules, tests)) in
    record {
      reads = rw (← c.self.view_is) (history_reads _ _ _ _ c.self.invariant.0 c.args.from c.args.count c.partition_point-start.result c.min-end.result c.split_at.result.1.now c.split_at-2.result.0.now
          c.if-count-eq0.false (omega (arith, c.if-count-gt-MAX_ROOTS.false)) (rw c.deref.ensures.value at point) (rw c.deref-2.ensures.value at c.split_at.ensures.back) c.min-end.ensures c.split_at-2.ensures.front);
    }
