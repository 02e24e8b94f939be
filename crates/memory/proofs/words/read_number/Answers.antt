use Rattle.std.proofs.Common.{◌≡◌, ◌≢◌, ap, sym, ◌∙◌, rules}
use Rattle.std.specs.Fmt.{decimal}
use Rattle.memory.proofs.OneWord.{decimal_is_utf8, is_parsed, the_number}
use Rattle.memory.proofs.words.read_number.Goals as goal

pub returns-in_default : goal.returns-in_default
returns-in_default c = λ n is. c.in_default.ensures.cases.0 (decimal_is_utf8 n c.args.word.now is.0 is.1)

pub returns-in_default-parse : goal.returns-in_default-parse
returns-in_default-parse c = λ n is.
    c.in_default-parse.not-Ok n (is_parsed n c.in-Ok.text.now c.parse.result is.0 (c.in-Ok.ensures.cases.0 ∙ is.1) c.parse.ensures.value.0)

pub returns-else-eq : goal.returns-else-eq
returns-else-eq c = λ n is.
    let same : c.in-Ok-parse.number ≡ n = the_number (sym c.in-Ok-parse.is ∙ is_parsed n c.in-Ok.text.now c.parse.result is.0 (c.in-Ok.ensures.cases.0 ∙ is.1) c.parse.ensures.value.0) in
    let other : c.args.word.now ≢ decimal c.in-Ok-parse.number = search rules in
    other (is.1 ∙ ap decimal (sym same))
