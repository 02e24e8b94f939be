use Rattle.std.proofs.Common.{◌≡◌, ◌≢◌, rules}
use Rattle.memory.proofs.Least.{least-both, least-first, least-other}
use Rattle.memory.proofs.watching.with_monitor.Goals as goal

pub returns-then-ne : goal.returns-then-ne
returns-then-ne g c =
    let other : c.args.monitor.now.name ≢ c.args.name.now = search rules in
    λ before. least-other before c.args.name.now c.args.monitor.now c.args.least other

pub returns-in-Some : goal.returns-in-Some
returns-in-Some g c =
    let same : c.args.monitor.now.name ≡ c.args.name.now = search rules in
    λ before watched. least-both before c.args.name.now c.args.monitor.now c.in-Some.epoch c.watched_by-own.result c.min.result c.min.ensures same c.watched_by-own.ensures (rw c.in-Some.is at watched)

pub returns-in-None : goal.returns-in-None
returns-in-None g c =
    let same : c.args.monitor.now.name ≡ c.args.name.now = search rules in
    λ before watched. least-first before c.args.name.now c.args.monitor.now c.watched_by-own.result same c.watched_by-own.ensures (rw c.in-None.is at watched)
