use Rattle.std.proofs.Common.{◌≡◌, subst, Err, rules}
use Rattle.audits.specs.Files.{IsEvidenceOf}
use Rattle.audits.proofs.Found.{found, refused}
use Rattle.audits.proofs.Files.{read_again, same_value}
use Rattle.audits.proofs.reading.read_evidence.Goals as goal

pub returns-in_err-value : goal.returns-in_err-value
returns-in_err-value c =
    let passed : c.from_residual.result ≡ Err c.in_err-value.field-0.0 = search rules in
    let exact = refused _ _ c.in_err-value.field-0.0 (λ evidence file. (file.0, file.1)) c.in_err-value.ensures in
    rw passed (record { exact = exact; again = read_again c.args.bytes.now (Err c.in_err-value.field-0.0) exact })

pub returns : goal.returns
returns c =
    let is = c.in_ok-value.ensures in
    let exact = found _ _ _ (λ evidence of. (_, is, of))
    (λ evidence file. subst (λ value. IsEvidenceOf value evidence) (same_value _ _ _ file.1.1 is.1) file.2) c.of_value.result c.of_value.ensures in
    record { exact = exact; again = read_again c.args.bytes.now c.of_value.result exact }
