use Rattle.std.proofs.Common.{◌≡◌, Some, ap, option_map, sym, ◌∙◌}
use Rattle.play.specs.Scripts.{asked_line, line_of}
use Rattle.play.proofs.Fitting.{line_fits}
use Rattle.play.proofs.playing.play_text.Goals as goal

pub answer-requires-clause-fits : goal.answer-requires-clause-fits
answer-requires-clause-fits g c =
    let said : line_of c.args.line.now ≡ Some (asked_line c.in-Some-asked.ask) = sym (rw c.in-Some.is at c.in_ok-asked.ensures) ∙ ap (option_map asked_line) c.in-Some-asked.is in
    line_fits c.args.line.now (asked_line c.in-Some-asked.ask) said

pub returns : goal.returns
returns g c stand are =
    let said : line_of c.args.line.now ≡ Some (asked_line c.in-Some-asked.ask) = sym (rw c.in-Some.is at c.in_ok-asked.ensures) ∙ ap (option_map asked_line) c.in-Some-asked.is in
    (asked_line c.in-Some-asked.ask, said, c.in_ok-answer.ensures.done stand are, c.in_ok-answer.ensures.keys)
