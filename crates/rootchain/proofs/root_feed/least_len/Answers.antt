use Rattle.std.proofs.Common.{rules, arith, ◌≡◌, ◌≤◌, Ok}
use Rattle.rootchain.specs.RootFeeds.{front, read_signature_len, MayBeHeld, Part}
use Rattle.rootchain.specs.FeedViews.{held_of}
use Rattle.rootchain.proofs.RootFeeds.{len-few}
use Rattle.rootchain.proofs.root_feed.least_len.Goals as goal

pub overflow_add-result : goal.overflow_add-result
overflow_add-result c =
    let told : read_signature_len c.args.held.now ≡ Ok (c.in-Ok.signature_len, c.read_signature_len.new.cursor) = search rules in
    let is : MayBeHeld (held_of c.args.stage c.args.held.now) = c.requires in
    let part : front c.args.held.now ≡ Part = (rw c.in-Roots.is at is).1 in
    let few : c.in-Ok.signature_len ≤ 256 = len-few c.args.held.now c.in-Ok.signature_len c.read_signature_len.new.cursor told part in
    omega (arith, few)
