use Rattle.std.proofs.Common.{rules, arith, ap, inl, inr, refl, Ok, Err, length}
use Rattle.journal.proofs.Counted.{longer, start_is}
use Rattle.journal.specs.Records.{start_of}
use Rattle.journal.proofs.counting.records.Goals as goal

pub returns-in_default : goal.returns-in_default
returns-in_default c = inl (start_is c.args.bytes.now (Err c.in_default.field-0) c.read_start.new.cursor (search rules) (search rules), refl)

pub overflow_sub-bytes : goal.overflow_sub-bytes
overflow_sub-bytes c =
    let read = start_is c.args.bytes.now (Ok c.in-Ok.field-0) c.read_start.new.cursor (search rules) (search rules) in
    omega (arith, longer (start_of c.in-Ok.field-0) c.read_start.new.cursor, ap length read.0)

pub later_records-requires : goal.later_records-requires
later_records-requires c =
    let read = start_is c.args.bytes.now (Ok c.in-Ok.field-0) c.read_start.new.cursor (search rules) (search rules) in
    omega (arith, longer (start_of c.in-Ok.field-0) c.read_start.new.cursor, ap length read.0)

pub returns : goal.returns
returns c =
    let read = start_is c.args.bytes.now (Ok c.in-Ok.field-0) c.read_start.new.cursor (search rules) (search rules) in
    inr (c.in-Ok.field-0, c.read_start.new.cursor, c.later_records.result, read.0, read.1, c.later_records.ensures.counts, omega arith)
