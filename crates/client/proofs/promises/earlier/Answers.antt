use Rattle.std.proofs.Common.{rules, ◌≡◌, ◌≢◌, arith}
use Rattle.client.specs.Dues.{HasNone, IsTested}
use Rattle.client.proofs.Tested.{begun, not-earlier, now-first, skipped-among}
use Rattle.client.proofs.promises.earlier.Goals as goal

pub returns-then-ne : goal.returns-then-ne
returns-then-ne c = λ promises len among.
    let other : c.args.signed.now.promise.name ≢ c.args.name.now = search rules in
    skipped-among promises c.args.signed.now c.args.name.now other c.args.least among

pub returns-in_default : goal.returns-in_default
returns-in_default c = λ promises len among.
    let own : c.args.signed.now.promise.name ≡ c.args.name.now = search rules in
    let none : HasNone promises c.args.name.now = rw c.in_default.is at among in
    rw (← len) (begun promises c.args.signed.now c.args.name.now none own)

pub returns-then-other-signed : goal.returns-then-other-signed
returns-then-other-signed c = λ promises len among.
    let found : IsTested promises c.args.name.now c.in-Some.field-0-0 c.in-Some.other.now = rw c.in-Some.is at among in
    rw c.in-Some.is (not-earlier promises c.args.signed.now c.args.name.now c.in-Some.field-0-0 c.in-Some.other.now found (omega (arith, c.if-other-signed.true)))

pub returns : goal.returns
returns c = λ promises len among.
    let own : c.args.signed.now.promise.name ≡ c.args.name.now = search rules in
    let found : IsTested promises c.args.name.now c.in-Some.field-0-0 c.in-Some.other.now = rw c.in-Some.is at among in
    rw (← len) (now-first promises c.args.signed.now c.args.name.now c.in-Some.field-0-0 c.in-Some.other.now found (omega (arith, c.if-other-signed.false)) own)
