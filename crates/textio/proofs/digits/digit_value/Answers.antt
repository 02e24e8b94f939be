use Rattle.std.proofs.Common.{◌≡◌, ◌+◌, ◌∙◌, ap, refl, arith}
use Rattle.hex.specs.Hex.{hex_digit_value}
use Rattle.textio.specs.declared.digit_values.TheConstants.{DIGIT_VALUES}
use Rattle.textio.proofs.DigitValues.{table-at}
use Rattle.textio.proofs.digits.digit_value.Goals as goal

pub returns : goal.returns
returns c =
    let from : 0 + c.args.digit ≡ c.args.digit = omega arith in
    table-at DIGIT_VALUES 0 c.args.digit refl (omega arith) ∙ ap hex_digit_value from
