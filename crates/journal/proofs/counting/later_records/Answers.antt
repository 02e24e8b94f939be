use Rattle.std.proofs.Common.{arith, ap, sym, ◌∙◌, Ok, Err}
use Rattle.journal.proofs.Counted.{counted_all, counted_out, counting_on, later_is}
use Rattle.journal.specs.Records.{later_seen, read_later}
use Rattle.journal.proofs.counting.later_records.Goals as goal

pub loop-preserved : goal.loop-preserved
loop-preserved c = counting_on c.loop.invariant (later_seen c.in-Ok.field-0) c.read_later.new.cursor
    (later_is c.loop.cursor (Ok c.in-Ok.field-0) c.read_later.new.cursor c.copied-ahead.ensures.bytes (ap read_later (sym c.copied-ahead.ensures.value) ∙ c.in-Ok.ensures))

pub returns-after-loop-clause-counts : goal.returns-after-loop-clause-counts
returns-after-loop-clause-counts c = counted_out c.loop.invariant (omega (arith, c.loop-test.false))

pub returns-in_default-clause-counts : goal.returns-in_default-clause-counts
returns-in_default-clause-counts c = counted_all c.loop.invariant
    (later_is c.loop.cursor (Err c.in_default.field-0) c.read_later.new.cursor c.copied-ahead.ensures.bytes (ap read_later (sym c.copied-ahead.ensures.value) ∙ c.in_default.ensures))
