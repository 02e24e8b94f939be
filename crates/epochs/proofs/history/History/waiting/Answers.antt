use Rattle.std.proofs.Common.{refl, sym, ◌∙◌, arith, ◌-◌}
use Rattle.std.proofs.lemmas.Bool.{eq-eqb, ne_eqb}
use Rattle.epochs.proofs.Searched.{waiting-at, waiting-none}
use Rattle.epochs.proofs.history.History.waiting.Goals as goal

pub returns-then-place-eq0 : goal.returns-then-place-eq0
returns-then-place-eq0 c = sym (waiting-none c.args.page c.args.self.now.versions c.place_after-place.result c.place_after-place.ensures.place (omega arith))

pub returns-then-first_page-page : goal.returns-then-first_page-page
returns-then-first_page-page c =
    let version = c.index-version.result.now in
    sym (waiting-at c.args.page c.args.self.now.versions c.place_after-place.result (c.place_after-place.result - 1) version
    (rw (← c.self.view_is) c.self.invariant.1) c.place_after-place.ensures.place (omega arith) c.place_after-place.ensures.bound (rw (← c.self.view_is) c.index-version.ensures)
    ∙ rw (ne_eqb version.number c.args.page (omega (arith, c.first_page.ensures, c.if-first_page-page.true))) refl)

pub returns : goal.returns
returns c =
    let version = c.index-version.result.now in
    sym (waiting-at c.args.page c.args.self.now.versions c.place_after-place.result (c.place_after-place.result - 1) version
    (rw (← c.self.view_is) c.self.invariant.1) c.place_after-place.ensures.place (omega arith) c.place_after-place.ensures.bound (rw (← c.self.view_is) c.index-version.ensures)
    ∙ rw (eq-eqb version.number c.args.page (omega (arith, c.first_page.ensures, c.if-first_page-page.false))) refl)
