use Rattle.std.proofs.Common.{◌≡◌, ◌≢◌, ℕ, ◌<◌, ap, sym, ◌∙◌, get_or, length, rules, arith, take, take_all, ◌++◌, ◌-◌}
use Rattle.textio.proofs.InLine.{IsInLine-take, take-through}
use Rattle.textio.proofs.line.keep_line.Goals as goal

pub returns-in-Some-clause-piece : goal.returns-in-Some-clause-piece
returns-in-Some-clause-piece g c =
    let shown = c.args.shown.now in
    let place = c.in-Some.place in
    let before : (j : ℕ) → j < place → get_or shown j 0 ≢ 10 = search rules in
    let at : get_or shown place 0 ≡ 10 = search rules in
    let within : place < length shown = search rules in (
      take place shown,
      IsInLine-take shown place (omega arith) before,
      take-through shown place within at,
      c.keep.ensures ∙ ap (λ bytes. c.args.line.now ++ take (g.row.MOST - length c.args.line.now) bytes) c.split_at.ensures.front,
    )

pub returns-in-None-clause-piece : goal.returns-in-None-clause-piece
returns-in-None-clause-piece g c =
    let shown = c.args.shown.now in
    let before : (j : ℕ) → j < length shown → get_or shown j 0 ≢ 10 = search rules in
    let same : shown ≡ take (length shown) shown = sym (take_all (length shown) shown (omega arith)) in (
      IsInLine-take shown (length shown) (omega arith) before,
      c.keep-in-None.ensures ∙ ap (λ bytes. c.args.line.now ++ take (g.row.MOST - length c.args.line.now) bytes) same,
    )
