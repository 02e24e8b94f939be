use Rattle.std.proofs.Common.{rules, ◌≡◌, ◌∙◌, None, ap, inr}
use Rattle.runs.specs.AskOptions.{ask_values}
use Rattle.directoryd.specs.Orders.{texts_of}
use Rattle.directoryd.specs.Programs.{wrong_line}
use Rattle.directoryd.specs.TextNames.{texted, with_digits}
use Rattle.directoryd.proofs.keyed.ask_keyed.Goals as goal

pub returns-in-Ok : goal.returns-in-Ok
returns-in-Ok g c =
    let asked = ask_values c.args.order in
    let no : wrong_line asked (texts_of c.args.texts) ≡ None
    = search rules in
    let is : ask_values c.with_digits-order.result ≡ texted c.args.texts.is_text asked
    = c.with_digits-order.ensures ∙ ap (λ digits. record asked { words = with_digits digits asked.words }) c.in-Ok.ensures in
    rw no (inr (rw (← is) c.ask_from.ensures))
