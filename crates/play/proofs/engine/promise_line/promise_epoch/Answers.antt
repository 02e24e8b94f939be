use Rattle.std.proofs.Common.{ap, sym, ◌∙◌}
use Rattle.play.proofs.Promised.{epoch_read, front, same_epoch}
use Rattle.play.proofs.engine.promise_line.promise_epoch.Goals as goal

pub unreachable-requires : goal.unreachable-requires
unreachable-requires c =
    let (signed, spells) = c.requires in
    let e = sym c.in-Err.ensures ∙ ap front c.new-cursor.ensures ∙ epoch_read c.args.promise.now signed spells in
    absurd cc

pub returns : goal.returns
returns c = λ signed spells.
    same_epoch c.args.promise.now signed (c.in-Ok.field-0-0, c.in-Ok.epoch) _ spells (sym (ap front c.new-cursor.ensures) ∙ c.in-Ok.ensures)
