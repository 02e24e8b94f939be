use Rattle.std.proofs.Common.{subst, take}
use Rattle.std.specs.Io.BufRead.{FillKeeps}
use Rattle.std.proofs.BufReadLemmas.{Consumes_shown}
use Rattle.textio.proofs.Steps.{IsAtEnd-shown, LosesPiece-none}
use Rattle.textio.proofs.line.take_step.Goals as goal

pub returns-in-Err-clause-ok : goal.returns-in-Err-clause-ok
returns-in-Err-clause-ok g c = LosesPiece-none _ _ _ _ c.fill_buf.follows.holds-at-none.0

pub returns-clause-ok : goal.returns-clause-ok
returns-clause-ok g c =
    let shown = c.in-Ok.shown.now in
    let kept = c.keep_line-count in
    let rested = c.fill_buf.follows.lender-at-none in
    let filled = subst (FillKeeps _ (g.R.Read.remaining rested) (g.R.BufRead.consumable_len rested)) c.in-Ok.is c.fill_buf.follows.holds-at-none in
    let moved = Consumes_shown _ _ _ _ shown kept.result.0 kept.ensures.within c.in-Ok.ensures.front c.in-Ok.ensures.end filled.0 filled.1 c.consume.ensures.bytes in
    (take kept.result.0 shown, kept.ensures.piece, moved.0, λ end. IsAtEnd-shown _ shown c.in-Ok.ensures.end (kept.ensures.end.0 end))
