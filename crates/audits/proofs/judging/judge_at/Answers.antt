use Rattle.std.proofs.Common.{rules, ◌≡◌, Some}
use Rattle.textio.specs.Digits.{hex32}
use Rattle.audits.proofs.Opened.{judged_at, nothing_told, told_of}
use Rattle.audits.proofs.judging.judge_at.Goals as goal

pub returns-in-Ok : goal.returns-in-Ok
returns-in-Ok g c =
    let key : hex32 c.args.order.signing_key.now ≡ Some c.new-key.result = search rules in
    record {
      judges = judged_at c.args.order.signing_key.now c.new-key.result c.deref.result.now _ _ c.judge_keyed.result key c.judge_keyed.ensures;
      tells = nothing_told c.args.order.file.now c.judge_keyed.result _;
    }

pub returns-in-Err-clause-tells : goal.returns-in-Err-clause-tells
returns-in-Err-clause-tells g c = told_of c.args.order.file.now c.in-Err.why.fault _ _ c.in-Err.ensures c.tell_error.ensures
