use Rattle.std.proofs.Common.{◌≡◌, ◌∙◌, subst, sym, Some}
use Rattle.std.specs.Io.BufRead.{FillKeeps}
use Rattle.std.proofs.BufReadLemmas.{Consumes_shown}
use Rattle.items.specs.NextLine.{item_in_front}
use Rattle.items.proofs.InPlace.{TakesNext-shown, front-long}
use Rattle.items.proofs.listing.take_shown.Goals as goal

pub returns-clause-ok : goal.returns-clause-ok
returns-clause-ok g c =
    let shown = c.in-Ok.shown.now in
    let front : item_in_front shown ≡ Some c.in-Some.item = sym c.front_item.ensures ∙ c.in-Some.is in
    let rested = c.fill_buf.follows.lender-at-none in
    let filled = subst (FillKeeps _ (g.R.Read.remaining rested) (g.R.BufRead.consumable_len rested)) c.in-Ok.is c.fill_buf.follows.holds-at-none in
    let moved = Consumes_shown _ _ _ _ shown 130 (front-long shown c.in-Some.item front) c.in-Ok.ensures.front c.in-Ok.ensures.end filled.0 filled.1 c.consume.ensures.bytes in
    TakesNext-shown _ _ shown c.in-Some.item front moved.0
