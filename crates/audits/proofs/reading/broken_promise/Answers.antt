use Rattle.std.proofs.Common.{◌≡◌, Err, rules}
use Rattle.audits.proofs.Found.{refused}
use Rattle.audits.proofs.reading.broken_promise.Goals as goal

pub returns-in_err-root : goal.returns-in_err-root
returns-in_err-root c =
    let passed : c.from_residual.result ≡ Err c.in_err-root.field-0.0 = search rules in
    rw passed (refused _ _ c.in_err-root.field-0.0 (λ broken is. ((broken.root, broken.proof), is.1)) c.in_err-root.ensures)
