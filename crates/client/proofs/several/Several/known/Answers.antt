use Rattle.std.proofs.Common.{rules, ◌≡◌, ◌≢◌}
use Rattle.client.proofs.ByIndex.{found-extremes, own-known}
use Rattle.client.proofs.several.Several.known.Goals as goal

pub returns-then-eq : goal.returns-then-eq
returns-then-eq c =
    let same : c.args.reply.now.index ≡ c.self.inside.index = search rules in
    rw (← c.self.view_is) (own-known c.self.inside.list.items c.self.inside.index c.self.inside.own c.self.inside.others.entries c.self.inside.is_changed c.self.invariant c.args.reply.now same)

pub returns : goal.returns
returns c =
    let apart : c.args.reply.now.index ≢ c.self.inside.index = search rules in
    rw (← c.self.view_is) (found-extremes c.self.inside.list.items c.self.inside.index c.self.inside.own c.self.inside.others.entries c.self.inside.is_changed c.self.invariant c.args.reply.now apart (λ r. r.now) c.get.result (search rules))
