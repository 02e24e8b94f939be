use Rattle.std.proofs.Common.{◌≡◌, ◌≢◌, ℕ, ◌≤◌, Ok, ap, sym, ◌∙◌, rules, arith}
use Rattle.std.specs.Fmt.{decimal}
use Rattle.std.specs.Str.{IsUtf8}
use Rattle.play.proofs.Numbers.{decimal_is_utf8, is_number, is_parsed, no_number, the_number}
use Rattle.play.proofs.word.read_number.Goals as goal
use Rattle.play.proofs.word.read_number.Goals.{else-number-most-via-then-number-most+else-eq, else-number-most-via-else-number-most}

pub returns-in_err-ok : goal.returns-in_err-ok
returns-in_err-ok c =
    let bad : ¬ (IsUtf8 c.args.word.now) = search rules in
    c.from_residual.ensures ∙ sym (no_number c.args.most c.args.word.now (λ number within is. bad (decimal_is_utf8 number c.args.word.now (omega (arith, within, c.ranges.most.fits)) is)))

pub returns-in_err-number : goal.returns-in_err-number
returns-in_err-number c =
    let text : c.in_ok-ok.field-0.now ≡ c.args.word.now = search rules in
    let no : (number : ℕ) → c.parse.result ≢ Ok number = search rules in
    c.from_residual-in_err-number.ensures
    ∙ sym (no_number c.args.most c.args.word.now (λ number within is. no number (is_parsed number c.in_ok-ok.field-0.now c.parse.result (omega (arith, within, c.ranges.most.fits)) (text ∙ is) c.parse.ensures.value.0)))

pub returns-then-eq : goal.returns-then-eq
returns-then-eq c =
    let is : c.args.word.now ≡ decimal c.in_ok-number.number = search rules in
    let within : c.in_ok-number.number ≤ c.args.most = search rules in
    sym (is_number c.args.most c.in_ok-number.number c.args.word.now within (omega (arith, c.ranges.most.fits)) is)

pub returns-else-number-most : goal.returns-else-number-most
returns-else-number-most c =
    let text : c.in_ok-ok.field-0.now ≡ c.args.word.now = search rules in
    let was : c.parse.result ≡ Ok c.in_ok-number.number = search rules in
    let same : (number : ℕ) → number ≤ c.args.most → c.args.word.now ≡ decimal number → c.in_ok-number.number ≡ number =
    λ number within is. the_number (sym was ∙ is_parsed number c.in_ok-ok.field-0.now c.parse.result (omega (arith, within, c.ranges.most.fits)) (text ∙ is) c.parse.ensures.value.0) in
    sym (no_number c.args.most c.args.word.now (λ number within is. elim c.else-number-most.branch [
      | else-number-most-via-then-number-most+else-eq w ↦
          let other : c.args.word.now ≢ decimal c.in_ok-number.number = search rules in
          other (is ∙ ap decimal (sym (same number within is)))
      | else-number-most-via-else-number-most w ↦
          let above : ¬ (c.in_ok-number.number ≤ c.args.most) = search rules in
          above (omega (arith, within, same number within is))
    ]))
