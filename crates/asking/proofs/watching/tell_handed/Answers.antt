use Rattle.std.proofs.Common.{ℕ, Global, Option, Vec, ap, codes, subst, sym}
use Rattle.std.specs.Prelude.{OnOk}
use Rattle.monitor.specs.declared.monitor_refusal.Refusal.{Refusal}
use Rattle.asking.specs.Asking.{handed_told}
use Rattle.asking.specs.Refused.{refuses_text}
use Rattle.asking.specs.Reports.{refused, Tells}
use Rattle.asking.proofs.Telling.{told_behind}
use Rattle.asking.proofs.watching.tell_handed.Goals as goal

pub returns : goal.returns
returns c =
    let told = told_behind c.refuse.result (refused (refuses_text (codes "client refuses promise") c.number.result)) c.args.said.now c.refuse.new.self c.begin.new.self.text.items
    c.begin.new.self.status (ap (λ (v : Vec ℕ Global). v.items) c.in_ok-begin.ensures.text) c.in_ok-begin.ensures.status c.refuse.ensures in
    let numbered = subst (λ (n : ℕ). OnOk c.refuse.result (Tells c.args.said.now (refused (refuses_text (codes "client refuses promise") n)) c.refuse.new.self)) c.number.ensures told in
    subst (λ (r : Option Refusal). OnOk c.refuse.result (Tells c.args.said.now (handed_told r) c.refuse.new.self)) (sym c.in-Some.is) numbered
