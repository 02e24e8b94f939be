use Rattle.std.proofs.Common.{◌≡◌, Err, rules, ap, sym, ◌∙◌}
use Rattle.encoding.proofs.Fields.{whole-left, whole_of-left}
use Rattle.encoding.proofs.form.Form.read_whole.Goals as goal

pub returns-in_err-end-clause-read : goal.returns-in_err-end-clause-read
returns-in_err-end-clause-read g c =
    let form = g.Self.Form in
    let passed : c.from_residual-in_err-end.result ≡ Err c.in_err-end.field-0.0 = search rules in
    passed ∙ ap Err c.in_err-end.ensures.refusal
    ∙ sym (whole_of-left (form.reader c.args.bytes.now) c.in_ok-value.value c.read_from.new.cursor
    (ap form.reader (sym c.new-cursor.ensures) ∙ c.in_ok-value.ensures.read) (λ none. let over = c.in_err-end.ensures.over.1 none in absurd cc))

pub returns-in_err-end-clause-form : goal.returns-in_err-end-clause-form
returns-in_err-end-clause-form g c =
    let form = g.Self.Form in
    let passed : c.from_residual-in_err-end.result ≡ Err c.in_err-end.field-0.0 = search rules in
    rw passed
    (whole-left form.reader form.spelling form.Allowed g.met.Self.Form.is_field c.args.bytes.now c.in_ok-value.value c.read_from.new.cursor
    (ap form.reader (sym c.new-cursor.ensures) ∙ c.in_ok-value.ensures.read) (λ none. let over = c.in_err-end.ensures.over.1 none in absurd cc))
