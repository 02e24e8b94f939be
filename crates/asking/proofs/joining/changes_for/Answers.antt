use Rattle.std.proofs.Common.{◌≡◌, length, rules}
use Rattle.asking.specs.Visiting.{IsMarked}
use Rattle.asking.proofs.Joined.{noted_empty, noted_marked, noted_unmarked}
use Rattle.asking.proofs.joining.changes_for.Goals as goal

pub returns-then-is_empty : goal.returns-then-is_empty
returns-then-is_empty c =
    let none : length c.args.changes.now ≡ 0 = search rules in
    noted_empty c.args.marks.now c.args.name.now c.args.changes.now none

pub returns-then-is_marked : goal.returns-then-is_marked
returns-then-is_marked c =
    let marked : IsMarked c.args.marks.now c.args.name.now = search rules in
    noted_marked c.args.marks.now c.args.name.now c.args.changes.now marked

pub returns-else-is_marked : goal.returns-else-is_marked
returns-else-is_marked c =
    let unmarked : ¬ IsMarked c.args.marks.now c.args.name.now = search rules in
    noted_unmarked c.args.marks.now c.args.name.now c.args.changes.now unmarked
