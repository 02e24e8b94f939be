use Rattle.std.proofs.Common.{sym, ap, ◌∙◌, ◌≡◌, ◌+◌, ◌≤◌, length, arith, lit≤}
use Rattle.audits.proofs.Found.{no_reply, some_reply}
use Rattle.proofs.proofs.Sizes.{reply_few}
use Rattle.audits.proofs.reading.proof.Goals as goal
use Rattle.encoding.specs.declared.fixed_text.TheConstants.{PROOF_TEXT_ROOM}

pub returns-then-is_err : goal.returns-then-is_err
returns-then-is_err c = λ y is. no_reply c.args.bytes.now c.read.result c.read.ensures.exact (sym c.is_err.ensures.value ∙ c.if-is_err.true) is.1.0 is.1.1

pub push_slice-requires : goal.push_slice-requires
push_slice-requires c =
    let spelled = some_reply c.args.bytes.now c.read.result c.read.ensures.exact (sym c.is_err.ensures.value ∙ c.if-is_err.false) in
    let few = (reply_few spelled.0 spelled.1.1).few in
    let same = ap length spelled.1.0 in
    let empty : length c.new-text.result ≡ 0 = ap length c.new-text.ensures in
    let fits : length c.new-text.result + length c.args.bytes.now ≤ PROOF_TEXT_ROOM = omega (arith, few, same, empty) in
    (lit≤ tt, fits)
