use Rattle.std.proofs.Common.{rules, arith, ap, sym, ◌∙◌}
use Rattle.proofs.specs.Reading.{read_reply}
use Rattle.proofs.specs.Views.{reply_seen}
use Rattle.proofs.proofs.Replies.{is_malformed, is_spelled, is_trailing}
use Rattle.proofs.proofs.view.ReplyView.read.Goals as goal

pub returns-in_default : goal.returns-in_default
returns-in_default c = record { exact = is_malformed c.args.bytes.now _ (ap read_reply (sym c.new-cursor.ensures) ∙ c.in_default.ensures) }

pub returns-then-is_err : goal.returns-then-is_err
returns-then-is_err c =
    record {
      exact = is_trailing c.args.bytes.now (reply_seen c.in-Ok.parts) _ (λ k. omega (arith, c.type_inv.bytes k)) (ap read_reply (sym c.new-cursor.ensures) ∙ c.in-Ok.ensures) (λ empty. search rules);
    }

pub invariant_of-result : goal.invariant_of-result
invariant_of-result c =
    (is_spelled c.args.bytes.now (reply_seen c.in-Ok.parts) (λ k. omega (arith, c.type_inv.bytes k)) (ap read_reply (sym c.new-cursor.ensures) ∙ rw (← c.end.ensures.over.0 (search rules)) c.in-Ok.ensures)).1

pub returns : goal.returns
returns c =
    record {
      exact = is_spelled c.args.bytes.now (reply_seen c.in-Ok.parts) (λ k. omega (arith, c.type_inv.bytes k)) (ap read_reply (sym c.new-cursor.ensures) ∙ rw (← c.end.ensures.over.0 (search rules)) c.in-Ok.ensures);
    }
