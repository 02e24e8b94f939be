use Rattle.std.proofs.Common.{◌≡◌, ◌∷◌, ap, sym, ◌∙◌, option_map}
use Rattle.play.specs.Scripts.{words, one_of, words_behind}
use Rattle.play.proofs.Words.{none_alone}
use Rattle.play.proofs.word.one_word.Goals as goal

pub returns-in_default-Some : goal.returns-in_default-Some
returns-in_default-Some c =
    let more = c.in_default-Some.field-0-1.now in
    let is : words c.in_ok-behind.field-0.now ≡ c.first_word.result.0.now ∷ words more =
    c.first_word.ensures ∙ ap (λ left. c.first_word.result.0.now ∷ words_behind (option_map (λ text. text.now) left)) c.in_default-Some.is-1 in
    sym (none_alone c.first_word.result.0.now more) ∙ ap one_of (sym is) ∙ ap (λ left. one_of (words_behind (option_map (λ text. text.now) left))) (sym c.in_ok-behind.was)
