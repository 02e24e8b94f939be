use Rattle.std.proofs.Common.{◌≡◌, ◌+◌, ◌++◌, List, ℕ, Err, length, sym, ap, ◌∙◌, rules, drop, subst, lit≤}
use Rattle.std.proofs.lemmas.List.{drop_at}
use Rattle.encoding.specs.Forms.{counted_bytes}
use Rattle.rootchain.specs.SignedRoots.{signed_root_bytes}
use Rattle.audits.specs.Steps.{IsRootWithProof}
use Rattle.audits.proofs.Parts.{after_name, counted_len, name_before}
use Rattle.audits.proofs.Found.{refused}
use Rattle.audits.proofs.reading.name_root_and_proof.Goals as goal

pub returns-in_default : goal.returns-in_default
returns-in_default c = λ y is. c.in_default.ensures.form (lit≤ tt) (y.0, signed_root_bytes y.1.0 ++ y.1.1, c.new-cursor.ensures ∙ is.0, is.1)

pub returns-in_err-pair : goal.returns-in_err-pair
returns-in_err-pair c =
    let passed : c.from_residual.result ≡ Err c.in_err-pair.field-0.0 = search rules in
    let form = c.in-Ok.ensures.form (lit≤ tt) in
    let whole : c.args.bytes.now ≡ counted_bytes c.in-Ok.name ++ c.bounded.new.self = sym c.new-cursor.ensures ∙ form.0 in
    let rest : c.split_at.result.1.now ≡ c.bounded.new.self =
    c.split_at.ensures.back ∙ ap (λ (t : List ℕ). drop (2 + length c.bytes.result.now) t) whole
    ∙ drop_at (counted_bytes c.in-Ok.name) c.bounded.new.self _ (counted_len c.in-Ok.name ∙ ap (λ (t : List ℕ). 2 + length t) (sym c.bytes.ensures.value)) in
    rw passed (refused _ _ c.in_err-pair.field-0.0
    (λ parts is.
    let after = after_name c.args.bytes.now c.in-Ok.name c.bounded.new.self whole form.1 parts is in
    (after.0, subst (λ (t : List ℕ). IsRootWithProof t after.0) (sym rest) after.1)) c.in_err-pair.ensures)

pub returns : goal.returns
returns c =
    let form = c.in-Ok.ensures.form (lit≤ tt) in
    let whole : c.args.bytes.now ≡ counted_bytes c.in-Ok.name ++ c.bounded.new.self = sym c.new-cursor.ensures ∙ form.0 in
    let rest : c.split_at.result.1.now ≡ c.bounded.new.self =
    c.split_at.ensures.back ∙ ap (λ (t : List ℕ). drop (2 + length c.bytes.result.now) t) whole
    ∙ drop_at (counted_bytes c.in-Ok.name) c.bounded.new.self _ (counted_len c.in-Ok.name ∙ ap (λ (t : List ℕ). 2 + length t) (sym c.bytes.ensures.value)) in
    name_before c.args.bytes.now c.in-Ok.name c.bounded.new.self whole form.1 c.in_ok-pair.pair (subst (λ (t : List ℕ). IsRootWithProof t c.in_ok-pair.pair) rest c.in_ok-pair.ensures)
