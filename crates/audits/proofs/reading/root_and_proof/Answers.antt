use Rattle.std.proofs.Common.{◌≡◌, ◌++◌, List, ℕ, Err, length, sym, ap, ◌∙◌, rules, drop, subst}
use Rattle.std.proofs.lemmas.List.{drop_at}
use Rattle.rootchain.specs.SignedRoots.{signed_root_bytes}
use Rattle.audits.specs.Steps.{IsProof}
use Rattle.audits.proofs.Parts.{proof_after}
use Rattle.audits.proofs.Found.{refused}
use Rattle.audits.proofs.reading.root_and_proof.Goals as goal

pub returns-in_default : goal.returns-in_default
returns-in_default c = λ y is. c.in_default.ensures.form (y.0, y.1, c.new-cursor.ensures ∙ is.0, is.1)

pub returns-in_err-proof : goal.returns-in_err-proof
returns-in_err-proof c =
    let passed : c.from_residual.result ≡ Err c.in_err-proof.field-0.0 = search rules in
    let whole : c.args.bytes.now ≡ signed_root_bytes c.in-Ok.root ++ c.read_from.new.cursor = sym c.new-cursor.ensures ∙ c.in-Ok.ensures.form.0 in
    let spelled : c.bytes.result.now ≡ signed_root_bytes c.in-Ok.root = c.bytes.ensures.value ∙ c.write.ensures.value in
    let rest : c.split_at.result.1.now ≡ c.read_from.new.cursor =
    c.split_at.ensures.back ∙ ap (λ (t : List ℕ). drop (length c.bytes.result.now) t) whole ∙ drop_at (signed_root_bytes c.in-Ok.root) c.read_from.new.cursor _ (sym (ap length spelled)) in
    rw passed (refused _ _ c.in_err-proof.field-0.0
    (λ pair is.
    let after = proof_after c.args.bytes.now c.in-Ok.root c.read_from.new.cursor whole c.in-Ok.ensures.form.1 pair is in
    (after.0, subst (λ (t : List ℕ). IsProof t after.0) (sym rest) after.1)) c.in_err-proof.ensures)
