use Rattle.std.proofs.Common.{◌≡◌, ◌∙◌, ◌<◌, ◌++◌, ◌∷◌, [], ℕ, ap, get_or, inr, length, rules, take}
use Rattle.std.proofs.lemmas.List.{take_more}
use Rattle.runs.proofs.state_files.whole_lines.Goals as goal

pub returns-in-Some-clause-whole : goal.returns-in-Some-clause-whole
returns-in-Some-clause-whole c =
    let bytes = c.args.bytes.now in
    let place = c.in-Some.place in
    let at : get_or bytes place 0 ≡ 10 = search rules in
    let within : place < length bytes = search rules in
    inr (take place bytes, c.split_at.ensures.front ∙ take_more bytes place 0 within ∙ ap (λ (byte : ℕ). take place bytes ++ byte ∷ []) at)
