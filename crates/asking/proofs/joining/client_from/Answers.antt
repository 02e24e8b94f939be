use Rattle.std.proofs.Common.{◌≡◌, Ok, Err, inr, rules}
use Rattle.rootchain.specs.SignedRoots.{signed_root_bytes}
use Rattle.client.specs.Starting.{Starts}
use Rattle.asking.proofs.joining.client_from.Goals as goal

pub returns-in_err-retrace-clause-err : goal.returns-in_err-retrace-clause-err
returns-in_err-retrace-clause-err g c =
    let passed : c.from_residual-in_err-retrace.result ≡ Err c.in_err-retrace.field-0.0 = search rules in
    let starts : Starts g.S.Verifier.verified c.args.key (signed_root_bytes c.args.first.now) (Ok c.in_ok-own.own) = search rules in
    rw passed (λ known. inr (c.in_ok-own.own, starts, c.in_err-retrace.ensures.err known))
