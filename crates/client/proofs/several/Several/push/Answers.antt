use Rattle.std.proofs.Common.{rules, ◌≡◌, ◌≢◌}
use Rattle.client.proofs.ByIndex.{other-more, own-more}
use Rattle.client.proofs.several.Several.push.Goals as goal

pub invariant_of-self-then-eq : goal.invariant_of-self-then-eq
invariant_of-self-then-eq c =
    let same : c.args.reply.index ≡ c.self.inside.index = search rules in
    let (extremes, exact) = rw (← c.self.view_is) at c.in_ok-extremes.ensures in
    rw c.in_ok-push.ensures.items (own-more c.self.inside.list.items c.self.inside.index c.self.inside.own c.self.inside.others.entries c.self.inside.is_changed c.self.invariant c.args.reply (c.requires.0, c.requires.1) c.in_ok-extremes.extremes extremes c.in_ok-extremes.is_changed exact same)

pub invariant_of-self-2 : goal.invariant_of-self-2
invariant_of-self-2 c =
    let apart : c.args.reply.index ≢ c.self.inside.index = search rules in
    let (extremes, exact) = rw (← c.self.view_is) at c.in_ok-extremes.ensures in
    rw (c.push_reserved.ensures.items, c.in_ok-reserve.ensures.items, c.in_ok-insert.ensures.entries, c.index-2.ensures)
    (other-more c.self.inside.list.items c.self.inside.index c.self.inside.own c.self.inside.others.entries c.self.inside.is_changed c.self.invariant c.args.reply (c.requires.0, c.requires.1) c.in_ok-extremes.extremes extremes c.in_ok-extremes.is_changed exact apart)
