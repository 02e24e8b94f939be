use Rattle.std.proofs.Common.{Ok, ap, sym, ◌∙◌}
use Rattle.encoding.proofs.Fields.{gives-reads}
use Rattle.encoding.proofs.form.Form.read_from.Goals as goal

pub returns-clause-form : goal.returns-clause-form
returns-clause-form g c =
    let form = g.Self.Form in
    gives-reads (λ value. value) form.reader form.spelling form.Allowed g.met.Self.Form.is_field c.args.cursor.now (Ok c.in_ok-value.value) c.read_parts.new.cursor c.copied-ahead.ensures.bytes
    (ap form.reader (sym c.copied-ahead.ensures.value) ∙ c.in_ok-value.ensures)
