use Rattle.std.proofs.Common.{◌≡◌, Err, rules}
use Rattle.audits.proofs.Found.{refused}
use Rattle.audits.proofs.reading.broken_final.Goals as goal

pub returns-in_err-name : goal.returns-in_err-name
returns-in_err-name c =
    let passed : c.from_residual.result ≡ Err c.in_err-name.field-0.0 = search rules in
    rw passed (refused _ _ c.in_err-name.field-0.0 (λ broken is. ((broken.name, (broken.root, broken.proof)), is.0)) c.in_err-name.ensures)

pub returns-in_err-later_root : goal.returns-in_err-later_root
returns-in_err-later_root c =
    let passed : c.from_residual-in_err-later_root.result ≡ Err c.in_err-later_root.field-0.0 = search rules in
    rw passed (refused _ _ c.in_err-later_root.field-0.0 (λ broken is. ((broken.later_root, broken.later_proof), is.1)) c.in_err-later_root.ensures)
