use Rattle.std.proofs.Common.{rules, ◌≡◌, [], ◌∷◌, ◌++◌}
use Rattle.client.specs.Clients.{with_promise}
use Rattle.monitor.specs.Expecting.{MayExpect}
use Rattle.monitor.specs.Views.{monitor_of}
use Rattle.monitor.proofs.Expected.{expects-above}
use Rattle.monitor.proofs.Watching.{change-watching}
use Rattle.monitor.proofs.monitor.Monitor.expect.Goals as goal

pub invariant_of-self-2 : goal.invariant_of-self-2
invariant_of-self-2 g c =
    let may : MayExpect (monitor_of c.self.inside) c.args.key.now c.in_ok-signed.signed.promise = rw (← c.self.view_is) at c.in_ok-signed.ensures.reads.1 in
    let kept : c.keep_read.new.self ≡ with_promise c.self.inside.client c.in_ok-signed.signed = search rules in
    let items : c.push.new.self.items ≡ c.self.inside.changes.items ++ (c.in_ok-signed.signed.promise.epoch, c.in_ok-signed.signed.promise.key) ∷ [] = search (rules, may.keyed) in
    rw (kept, items) (change-watching (monitor_of c.self.inside) c.self.invariant c.in_ok-signed.signed may.later)

pub returns-clause-above : goal.returns-clause-above
returns-clause-above g c =
    let items : c.push.new.self.items ≡ c.self.inside.changes.items ++ (c.in_ok-signed.signed.promise.epoch, c.args.key.now) ∷ [] = search rules in
    rw (← c.self.view_is) (
      c.in_ok-signed.signed,
      rw (← c.self.view_is) at c.in_ok-signed.ensures.reads.0,
      rw items (expects-above (monitor_of c.self.inside).watch c.in_ok-signed.signed.promise.epoch c.args.key.now),
    )
