use Rattle.std.proofs.Common.{◌≡◌, ◌*◌, ◌+◌, ◌/◌, ◌%◌, ◌∙◌, length, replicate, slice_index, ap, refl, sym, arith}
use Rattle.std.proofs.lemmas.List.{length-set}
use Rattle.std.specs.Result.{result_ok}
use Rattle.hex.specs.Hex.{pair_value}
use Rattle.hex.proofs.Pairs.{decode_start, decode_step, decode_done, decode_err, decode_sized-pairs}
use Rattle.textio.proofs.DigitValues.{err-none, ok-some, wrong-size}
use Rattle.textio.proofs.digits.hex32.Goals as goal

pub returns-then-text-ne-HASH_DIGITS : goal.returns-then-text-ne-HASH_DIGITS
returns-then-text-ne-HASH_DIGITS c = wrong-size c.args.text.now 32 c.if-text-ne-HASH_DIGITS.true

pub bytes-init : goal.bytes-init
bytes-init c = (refl, decode_start c.args.text.now (replicate 32 0))

pub bytes-preserved : goal.bytes-preserved
bytes-preserved c =
    let text = c.args.text.now in
    let i = c.bytes.i in
    let read = ok-some (pair_value (slice_index text (2 * i)) (slice_index text (2 * i + 1)) (2 * i)) c.in-Some.byte (sym c.in-Some.is ∙ c.pair.ensures (2 * i)) in (
      length-set c.bytes.bytes i c.in-Some.byte ∙ c.bytes.invariant.0,
      decode_step text c.bytes.bytes i c.in-Some.byte (omega (arith, c.if-text-ne-HASH_DIGITS.false, c.bytes-test.true)) (omega (arith, c.bytes.invariant.0, c.bytes-test.true)) read c.bytes.invariant.1,
    )

pub returns-in_default : goal.returns-in_default
returns-in_default c =
    let text = c.args.text.now in
    let i = c.bytes.i in
    let bad = err-none (pair_value (slice_index text (2 * i)) (slice_index text (2 * i + 1)) (2 * i)) (sym c.in_default.is ∙ c.pair.ensures (2 * i)) in
    let even : length text % 2 ≡ 0 = omega (arith, c.if-text-ne-HASH_DIGITS.false) in
    let half : length text / 2 ≡ 32 = omega (arith, c.if-text-ne-HASH_DIGITS.false) in
    let refused = decode_sized-pairs text 32 even half ∙ decode_err text c.bytes.bytes i bad.0 (omega (arith, c.if-text-ne-HASH_DIGITS.false, c.bytes-test.true)) bad.1 c.bytes.invariant.1 in
    sym (ap result_ok refused)

pub returns : goal.returns
returns c =
    let text = c.args.text.now in
    let even : length text % 2 ≡ 0 = omega (arith, c.if-text-ne-HASH_DIGITS.false) in
    let half : length text / 2 ≡ 32 = omega (arith, c.if-text-ne-HASH_DIGITS.false) in
    let read = decode_sized-pairs text 32 even half
    ∙ decode_done text c.bytes.bytes c.bytes.i (omega (arith, c.bytes.invariant.0, c.bytes-test.false)) (omega (arith, c.if-text-ne-HASH_DIGITS.false, c.bytes-test.false)) c.bytes.invariant.1 in
    sym (ap result_ok read)
