use Rattle.std.proofs.Common.{◌≡◌, rules, sym}
use Rattle.asking.proofs.FinalsNoted.{kept-at, kept-none}
use Rattle.asking.proofs.finals.kept_for.Goals as goal

pub returns-then-eq : goal.returns-then-eq
returns-then-eq c =
    let named : c.kept-item.result.name ≡ c.args.name.now = search rules in
    kept-at c.args.name.now c.args.seen.now c.loop-kept.kept-index c.kept-item.result c.loop-kept-test.true (sym c.kept-item.is) named c.loop-kept.invariant

pub returns : goal.returns
returns c = kept-none c.args.name.now c.args.seen.now c.loop-kept.kept-index c.loop-kept-test.false c.loop-kept.invariant
