use Rattle.std.proofs.Common.{rules, arith, ◌≡◌, ℕ, ◌+◌, ◌-◌, Err, subst}
use Rattle.rootchain.proofs.RootLists.{Leads, roots_begin, roots_end, roots_fault, roots_step}
use Rattle.rootchain.proofs.root_list.pass_roots.Goals as goal

pub loop-init : goal.loop-init
loop-init c =
    let L : ℕ → Type 0 = λ n. Leads c.args.count c.args.cursor.now n c.args.cursor.now in
    (omega arith, subst L (omega arith) (roots_begin c.args.count c.args.cursor.now))

pub returns-in_err-read_from : goal.returns-in_err-read_from
returns-in_err-read_from c =
    let passed : c.from_residual.result ≡ Err c.in_err-read_from.field-0.0 = search rules in
    rw passed (roots_fault c.args.count c.args.cursor.now (c.args.count - c.loop.counter) (c.args.count - (c.loop.counter + 1)) c.loop.cursor _
    (omega (arith, c.loop-test.true)) c.in_err-read_from.ensures.read c.loop.invariant.1)

pub loop-preserved : goal.loop-preserved
loop-preserved c = (
  omega (arith, c.loop-test.true),
  roots_step c.args.count c.args.cursor.now (c.args.count - c.loop.counter) (c.args.count - (c.loop.counter + 1)) c.loop.cursor _ _
      (omega (arith, c.loop-test.true)) c.in_ok-read_from.ensures.read c.loop.invariant.1,
)

pub returns : goal.returns
returns c = roots_end c.args.count c.args.cursor.now (c.args.count - c.loop.counter) c.loop.cursor (omega (arith, c.loop-test.false, c.loop.invariant.0)) c.loop.invariant.1
