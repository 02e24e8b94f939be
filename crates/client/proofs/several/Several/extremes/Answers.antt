use Rattle.std.proofs.Common.{rules, ◌≡◌, Some, None}
use Rattle.encoding.specs.Maps.{at}
use Rattle.client.proofs.ByIndex.{own-there}
use Rattle.client.proofs.several.Several.extremes.Goals as goal

pub returns-in-Some : goal.returns-in-Some
returns-in-Some c =
    let found : at c.self.inside.others.entries c.args.reply.now.index ≡ Some c.in-Some.extremes.now = search rules in
    rw (← c.self.view_is) (c.self.invariant.rest _ _ found)

pub returns-in-None : goal.returns-in-None
returns-in-None c =
    let none : at c.self.inside.others.entries c.args.reply.now.index ≡ None = search rules in
    rw (← c.self.view_is) (own-there c.self.inside.list.items c.self.inside.index c.self.inside.own c.self.inside.others.entries c.self.inside.is_changed c.self.invariant c.requires.0 c.args.reply.now (rw (← c.self.view_is) at c.requires.1) none)
