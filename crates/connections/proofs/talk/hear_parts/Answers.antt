use Rattle.std.proofs.Common.{◌≡◌, List, ℕ, drop, Ok, Err, rules, subst}
use Rattle.connections.specs.Fitting.{HearsFrom}
use Rattle.connections.proofs.Hearing.{hears_more, hears_stop}
use Rattle.connections.proofs.talk.hear_parts.Goals as goal

pub returns-in_err-count-clause-hears : goal.returns-in_err-count-clause-hears
returns-in_err-count-clause-hears g c =
    let passed : c.from_residual-in_err-count.result ≡ Err c.in_err-count.field-0.0 = search rules in
    let rest : c.split_at.result.1.now ≡ drop c.loop-heard.heard c.args.bytes.now = search rules in
    rw passed (hears_stop g.S.Sessions.opens g.S.Sessions.refuses g.S.Sessions.hears g.S.Sessions.misses g.S.Sessions.ends c.args.place c.args.sessions.now c.args.bytes.now c.args.output.now.items c.loop-heard.heard
    c.loop-heard.sessions c.loop-heard.output.items c.in_err-count.field-0.0 c.hear_part-in-loop-heard.new.sessions c.hear_part-in-loop-heard.new.output.items c.hear_part-in-loop-heard.new.output.items
    c.loop-heard.invariant
    (subst (λ (t : List ℕ). HearsFrom g.S.Sessions.opens g.S.Sessions.refuses g.S.Sessions.hears g.S.Sessions.misses g.S.Sessions.ends c.args.place c.loop-heard.sessions t c.loop-heard.output.items (Err c.in_err-count.field-0.0)
    c.hear_part-in-loop-heard.new.sessions c.hear_part-in-loop-heard.new.output.items) rest c.in_err-count.ensures))

pub loop-heard-preserved : goal.loop-heard-preserved
loop-heard-preserved g c =
    let rest : c.split_at.result.1.now ≡ drop c.loop-heard.heard c.args.bytes.now = search rules in
    hears_more g.S.Sessions.opens g.S.Sessions.refuses g.S.Sessions.hears g.S.Sessions.misses g.S.Sessions.ends c.args.place c.args.sessions.now c.args.bytes.now c.args.output.now.items c.loop-heard.heard
    c.loop-heard.sessions c.loop-heard.output.items c.in_ok-count.count c.hear_part-in-loop-heard.new.sessions c.hear_part-in-loop-heard.new.output.items
    c.loop-heard.invariant
    (subst (λ (t : List ℕ). HearsFrom g.S.Sessions.opens g.S.Sessions.refuses g.S.Sessions.hears g.S.Sessions.misses g.S.Sessions.ends c.args.place c.loop-heard.sessions t c.loop-heard.output.items (Ok c.in_ok-count.count)
    c.hear_part-in-loop-heard.new.sessions c.hear_part-in-loop-heard.new.output.items) rest c.in_ok-count.ensures)
