use Rattle.std.proofs.Common.{Some, ap, sym, ◌∙◌, option_map}
use Rattle.commands.specs.Operations as asked
use Rattle.wire.specs.Requests as asks
use Rattle.play.specs.Scripts as script
use Rattle.play.specs.Scripts.{words_behind}
use Rattle.play.proofs.Words.{with_none_some}
use Rattle.play.proofs.ask.read_head.Goals as goal

pub returns-in-Some : goal.returns-in-Some
returns-in-Some c =
    let said = Some (script.Ask (asks.Query asked.Head)) in
    sym (with_none_some said c.in-Some.field-0.now) ∙ ap (λ behind. script.with_no_word said (words_behind (option_map (λ text. text.now) behind))) (sym c.in-Some.is)
