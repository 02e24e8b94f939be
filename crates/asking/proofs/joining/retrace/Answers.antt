use Rattle.std.proofs.Common.{None, Some, Ok, Err, rules, suc}
use Rattle.asking.specs.Joining.{RetracesOne}
use Rattle.asking.proofs.joining.retrace.Goals as goal

pub returns-in-Ok-None-clause-ok : goal.returns-in-Ok-None-clause-ok
returns-in-Ok-None-clause-ok g c =
    let none : RetracesOne g.H.NodeHash.digest_of g.S.Verifier.verified c.args.other.now.chain c.loop.epoch c.loop.own None c.retrace_one.new.own = search rules in
    c.loop.invariant 0 (Ok c.retrace_one.new.own) none

pub returns-in-Err-clause-err : goal.returns-in-Err-clause-err
returns-in-Err-clause-err g c = λ known. c.loop.invariant 0 (Err c.in-Err.why) (c.in-Err.ensures.err known)

pub loop-preserved : goal.loop-preserved
loop-preserved g c =
    let one : RetracesOne g.H.NodeHash.digest_of g.S.Verifier.verified c.args.other.now.chain c.loop.epoch c.loop.own (Some c.in-Ok-Some.next) c.retrace_one.new.own = search rules in
    λ count result rest. c.loop.invariant (suc count) result (c.in-Ok-Some.next, c.retrace_one.new.own, one, rest)
