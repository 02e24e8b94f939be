use Rattle.std.proofs.Common.{◌-◌, ◌∙◌, Bor, sym}
use Rattle.epochs.specs.Histories.{binding_at, waiting, Version}
use Rattle.epochs.proofs.KeyChanges.{has_final, has_pending, lacks_name, may_open}
use Rattle.epochs.proofs.key_change.may_change.Goals as goal

pub returns-in_default : goal.returns-in_default
returns-in_default c =
    let vs = c.args.history.now.versions in
    lacks_name (λ (version : Bor Version). version.now.binding) (binding_at (c.args.page - 1) vs) (waiting c.args.page vs) c.in_default.ensures

pub returns-then-is_final : goal.returns-then-is_final
returns-then-is_final c =
    let vs = c.args.history.now.versions in
    has_final (λ (version : Bor Version). version.now.binding) (binding_at (c.args.page - 1) vs) (waiting c.args.page vs) c.in-Some.shown c.in-Some.ensures (sym c.is_final.ensures ∙ c.if-is_final.true)

pub returns-then-is_some : goal.returns-then-is_some
returns-then-is_some c =
    let vs = c.args.history.now.versions in
    has_pending (λ (version : Bor Version). version.now.binding) (binding_at (c.args.page - 1) vs) (waiting c.args.page vs) c.in-Some.shown c.in-Some.ensures (sym c.is_final.ensures ∙ c.if-is_final.false)
    c.waiting.result c.is_some.result c.is_some.ensures c.waiting.ensures c.if-is_some.true

pub returns : goal.returns
returns c =
    let vs = c.args.history.now.versions in
    may_open (λ (version : Bor Version). version.now.binding) (binding_at (c.args.page - 1) vs) (waiting c.args.page vs) c.in-Some.shown c.in-Some.ensures (sym c.is_final.ensures ∙ c.if-is_final.false)
    c.waiting.result c.is_some.result c.is_some.ensures c.waiting.ensures c.if-is_some.false
