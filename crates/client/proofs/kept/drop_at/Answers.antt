use Rattle.std.proofs.Common.{◌≡◌, ◌∙◌, ap, drop, rules}
use Rattle.client.proofs.Passed.{drop-next, drop-remove}
use Rattle.client.proofs.kept.drop_at.Goals as goal

pub returns-then-place-gt0-clause-drops : goal.returns-then-place-gt0-clause-drops
returns-then-place-gt0-clause-drops c = ap (drop c.args.gone) c.remove.ensures.items ∙ drop-remove c.args.list.now.items c.args.gone c.args.place

pub returns-then-gone-len-clause-drops : goal.returns-then-gone-len-clause-drops
returns-then-gone-len-clause-drops c =
    let first : c.args.place ≡ 0 = search rules in
    rw first (drop-next c.args.list.now.items c.args.gone)

pub returns-clause-drops : goal.returns-clause-drops
returns-clause-drops c =
    let first : c.args.place ≡ 0 = search rules in
    rw first (c.cut.ensures ∙ drop-next c.args.list.now.items c.args.gone)
