use Rattle.std.proofs.Common.{ℕ, codes, subst}
use Rattle.std.specs.Prelude.{OnOk}
use Rattle.asking.specs.Refused.{refuses_text}
use Rattle.asking.specs.Reports.{refused, Tells}
use Rattle.asking.proofs.answering.tell_unread.Goals as goal

pub returns : goal.returns
returns c =
    subst (λ (number : ℕ). OnOk c.refuse.result (Tells c.args.said.now (refused (refuses_text (codes "client refuses reply") number)) c.refuse.new.self)) c.number.ensures c.refuse.ensures
