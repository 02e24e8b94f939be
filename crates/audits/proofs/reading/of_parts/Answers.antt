use Rattle.std.proofs.Common.{◌≡◌, Err, codes, rules}
use Rattle.audits.proofs.Parts.{roots_of}
use Rattle.audits.proofs.Found.{refused}
use Rattle.audits.proofs.reading.of_parts.Goals as goal

pub returns-in_err-one-in-fork : goal.returns-in_err-one-in-fork
returns-in_err-one-in-fork c =
    let passed : c.from_residual.result ≡ Err c.in_err-one-in-fork.field-0.0 = search rules in
    let kind : c.args.kind.now ≡ codes "fork" = c.in-fork.is in
    rw passed (refused _ _ c.in_err-one-in-fork.field-0.0
    (λ evidence. roots_of c.args.first.now c.args.kind.now c.args.second.now evidence (λ (promise : c.args.kind.now ≡ codes "broken-promise"). cc) (λ (final : c.args.kind.now ≡ codes "broken-final"). cc)) c.in_err-one-in-fork.ensures)

pub returns-in_err-one-in-link : goal.returns-in_err-one-in-link
returns-in_err-one-in-link c =
    let passed : c.from_residual-in_err-one-in-link.result ≡ Err c.in_err-one-in-link.field-0.0 = search rules in
    let kind : c.args.kind.now ≡ codes "link" = c.in-link.is in
    rw passed (refused _ _ c.in_err-one-in-link.field-0.0
    (λ evidence. roots_of c.args.first.now c.args.kind.now c.args.second.now evidence (λ (promise : c.args.kind.now ≡ codes "broken-promise"). cc) (λ (final : c.args.kind.now ≡ codes "broken-final"). cc)) c.in_err-one-in-link.ensures)

pub returns-in_err-one-in-skip : goal.returns-in_err-one-in-skip
returns-in_err-one-in-skip c =
    let passed : c.from_residual-in_err-one-in-skip.result ≡ Err c.in_err-one-in-skip.field-0.0 = search rules in
    let kind : c.args.kind.now ≡ codes "skip" = c.in-skip.is in
    rw passed (refused _ _ c.in_err-one-in-skip.field-0.0
    (λ evidence. roots_of c.args.first.now c.args.kind.now c.args.second.now evidence (λ (promise : c.args.kind.now ≡ codes "broken-promise"). cc) (λ (final : c.args.kind.now ≡ codes "broken-final"). cc)) c.in_err-one-in-skip.ensures)
