use Rattle.std.proofs.Common.{rules, ◌≡◌, ◌<◌, ◌-◌, ◌++◌, length, drop, [], ap}
use Rattle.std.proofs.lemmas.List.{nil_from_length}
use Rattle.rootchain.specs.declared.root_feed.Next.TheVariants as next
use Rattle.rootchain.specs.FeedViews.{IsFront}
use Rattle.rootchain.specs.RootFeeds.{Owes}
use Rattle.rootchain.proofs.RootFeeds.{front-held, front-tells, in-place}
use Rattle.rootchain.proofs.root_feed.next_of.Goals as goal

-- a root that is whole in the piece is the front
whole : (c : goal.After-rest-1) → IsFront c.args.left (c.args.held.now ++ c.args.piece.now) (next.Root c.in-Ok.root c.split_at.result.1) (Owes (c.args.left - 1) c.args.held.now)
whole c =
    let few : length c.args.held.now ≡ 0 = search rules in
    let none : c.args.held.now ≡ [] = nil_from_length _ few in
    let rest : c.split_at.result.1.now ≡ drop c.written_len.result c.args.piece.now = search rules in
    (rw rest (in-place c.args.held.now c.args.piece.now c.in-Ok.root c.read_from.new.cursor c.written_len.result none (search rules) (search rules) (search rules)), ap (Owes (c.args.left - 1)) none)

pub returns-in-Ok-clause-tells : goal.returns-in-Ok-clause-tells
returns-in-Ok-clause-tells c =
    let some : 0 < c.args.left = search rules in
    front-tells c.args.left c.args.held.now c.args.piece.now (next.Root c.in-Ok.root c.split_at.result.1) (Owes (c.args.left - 1) c.args.held.now) some (whole c)

pub returns-in-Ok-clause-held : goal.returns-in-Ok-clause-held
returns-in-Ok-clause-held c =
    let some : 0 < c.args.left = search rules in
    front-held c.args.left (c.args.held.now ++ c.args.piece.now) (next.Root c.in-Ok.root c.split_at.result.1) (Owes (c.args.left - 1) c.args.held.now) some c.requires.0 (whole c)

pub returns-clause-tells : goal.returns-clause-tells
returns-clause-tells c =
    let some : 0 < c.args.left = search rules in
    front-tells c.args.left c.args.held.now c.args.piece.now c.first_held.result _ some c.first_held.ensures.front

pub returns-clause-held : goal.returns-clause-held
returns-clause-held c =
    let some : 0 < c.args.left = search rules in
    front-held c.args.left _ c.first_held.result _ some c.requires.0 c.first_held.ensures.front
