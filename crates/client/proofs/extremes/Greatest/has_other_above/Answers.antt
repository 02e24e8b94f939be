use Rattle.std.proofs.Common.{◌≡◌, ◌≢◌, inl, inr, rules, sym, ◌∙◌}
use Rattle.proofs.specs.Views.{key_stated}
use Rattle.client.proofs.Greatest.{lt-tells, one-statement}
use Rattle.client.proofs.extremes.Greatest.has_other_above.Goals as goal

pub returns-then-eq : goal.returns-then-eq
returns-then-eq c = λ own states.
    let known : key_stated c.statement.result ≡ own = one-statement _ _ own c.statement.ensures states in
    let same : key_stated c.args.stated ≡ key_stated c.statement.result = search rules in
    inl (same ∙ known, lt-tells c.args.number c.args.self.now.other)

pub returns-else-eq : goal.returns-else-eq
returns-else-eq c =
    let apart : key_stated c.args.stated ≢ key_stated c.statement.result = search rules in λ own states.
    let known : key_stated c.statement.result ≡ own = one-statement _ _ own c.statement.ensures states in
    inr (λ same. apart (same ∙ sym known), lt-tells c.args.number c.args.self.now.number)
