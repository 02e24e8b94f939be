use Rattle.std.proofs.Common.{◌≡◌, inl, inr, true, refl}
use Rattle.coniks.specs.Exports.{IsNext}
use Rattle.coniks.proofs.exports.coniks_test_promise.Goals as goal

pub returns-then-not-is_next : goal.returns-then-not-is_next
returns-then-not-is_next c =
    let other : ¬ IsNext c.in-Ok.signed.promise c.in-Ok-read.root = λ is. let holds : c.is_next.result ≡ true = c.is_next.ensures.1 is in let never = c.if-not-is_next.true in cc in
    inr (c.in-Ok.signed, c.in-Ok.ensures.exact, inr (c.in-Ok-read.root, c.in-Ok-read.ensures.exact, inl (other, refl)))

pub returns-in-Ok-accept_told : goal.returns-in-Ok-accept_told
returns-in-Ok-accept_told c =
    let (holds, fits) = c.in-Ok-accept_told.ensures.accepted in
    inr (
      c.in-Ok.signed,
      c.in-Ok.ensures.exact,
      inr (
        c.in-Ok-read.root,
        c.in-Ok-read.ensures.exact,
        inr (inr (c.is_next.ensures.0 c.if-not-is_next.false, (c.in-Ok-accept_told.accepted.reply, holds, fits, c.verdict.ensures))),
      ),
    )

pub returns-in-Err : goal.returns-in-Err
returns-in-Err c =
    inr (
      c.in-Ok.signed,
      c.in-Ok.ensures.exact,
      inr (
        c.in-Ok-read.root,
        c.in-Ok-read.ensures.exact,
        inr (inl (c.is_next.ensures.0 c.if-not-is_next.false, (c.in-Err.why, c.in-Err.ensures.refused, c.number.ensures))),
      ),
    )
