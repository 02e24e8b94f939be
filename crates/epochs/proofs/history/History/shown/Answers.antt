use Rattle.std.proofs.Common.{sym, arith, ◌-◌}
use Rattle.epochs.proofs.Searched.{shown-at, shown-none}
use Rattle.epochs.proofs.history.History.shown.Goals as goal

pub returns-then-place-eq0 : goal.returns-then-place-eq0
returns-then-place-eq0 c = sym (shown-none c.args.page c.args.self.now.versions c.place_after-place.result c.place_after-place.ensures.place (omega arith))

pub returns : goal.returns
returns c =
    sym (shown-at c.args.page c.args.self.now.versions c.place_after-place.result (c.place_after-place.result - 1) c.index.result.now
    c.place_after-place.ensures.place (omega arith) c.place_after-place.ensures.bound (rw (← c.self.view_is) c.index.ensures))
