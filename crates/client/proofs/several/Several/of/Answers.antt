use Rattle.std.proofs.Common.{◌≡◌, [], rules}
use Rattle.client.proofs.ByIndex.{one-alone}
use Rattle.client.proofs.several.Several.of.Goals as goal

pub invariant_of-result : goal.invariant_of-result
invariant_of-result c =
    let none : c.new.result.entries ≡ [] = search rules in
    rw (c.push_reserved.ensures.items, c.in_ok-list.ensures.items, c.index-index.ensures, none) (one-alone c.args.reply (c.requires.0, c.requires.1) c.in_ok-own.own (c.in_ok-own.ensures [] tt))
