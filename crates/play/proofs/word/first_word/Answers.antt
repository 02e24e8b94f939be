use Rattle.std.proofs.Common.{◌≡◌, ◌≢◌, ℕ, ◌<◌, ◌∷◌, ap, sym, ◌∙◌, get_or, length, rules, drop}
use Rattle.play.specs.Scripts.{words}
use Rattle.play.proofs.Words.{words_at, words_none}
use Rattle.play.proofs.word.first_word.Goals as goal

pub returns-in-Some : goal.returns-in-Some
returns-in-Some c =
    let text = c.args.text.now in
    let place = c.in-Some.place in
    let before : (j : ℕ) → j < place → get_or text j 0 ≢ 32 = search rules in
    let at : get_or text place 0 ≡ 32 = search rules in
    let within : place < length text = search rules in
    let front = ap (λ word. word ∷ words (drop 1 (drop place text))) (sym c.split_at.ensures.front) in
    let back = ap (λ rest. c.split_at.result.0.now ∷ words rest) (sym (c.split_at-in-Some.ensures.back ∙ ap (drop 1) c.split_at.ensures.back)) in
    words_at text place within before at ∙ front ∙ back

pub returns-in-None : goal.returns-in-None
returns-in-None c =
    let none : (j : ℕ) → j < length c.args.text.now → get_or c.args.text.now j 0 ≢ 32 = search rules in
    words_none c.args.text.now none
