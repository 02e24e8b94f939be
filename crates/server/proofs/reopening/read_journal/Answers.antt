use Rattle.std.proofs.Common.{rules}
use Rattle.server.proofs.Reopened.{has_read, unopened}
use Rattle.server.proofs.reopening.read_journal.Goals as goal

pub returns-in-Ok-clause-opens : goal.returns-in-Ok-clause-opens
returns-in-Ok-clause-opens g c =
    has_read c.args.keys.now (g.F.Write.contents c.args.file.now) c.in_ok-bytes.bytes.items _ _ c.in-Ok.opened c.records-records.result _ c.in_ok-bytes.ensures.bytes (search rules)
    c.deref.ensures.value c.records-records.ensures c.deref-2.ensures.value c.in-Ok.ensures

pub returns-clause-opens : goal.returns-clause-opens
returns-clause-opens g c =
    unopened c.args.keys.now (g.F.Write.contents c.args.file.now) c.in_ok-bytes.bytes.items _ _ c.records-records.result c.in-Err.refusal _ c.fault_of.ensures c.in_ok-bytes.ensures.bytes
    c.deref.ensures.value c.records-records.ensures c.deref-2.ensures.value c.in-Err.ensures
