use Rattle.textio.proofs.DigitValues.{no-high, no-low, pair-read}
use Rattle.textio.proofs.digits.pair.Goals as goal

pub returns-then-high-gt15 : goal.returns-then-high-gt15
returns-then-high-gt15 c place = no-high c.args.high c.args.low c.digit_value-high.result place c.if-high-gt15.true c.digit_value-high.ensures

pub returns-then-low-gt15 : goal.returns-then-low-gt15
returns-then-low-gt15 c place =
    no-low c.args.high c.args.low c.digit_value-high.result c.digit_value-low.result place c.if-high-gt15.false c.if-low-gt15.true c.digit_value-high.ensures c.digit_value-low.ensures

pub returns : goal.returns
returns c place =
    pair-read c.args.high c.args.low c.digit_value-high.result c.digit_value-low.result place c.if-high-gt15.false c.if-low-gt15.false c.digit_value-high.ensures c.digit_value-low.ensures
