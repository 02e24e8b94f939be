use Rattle.std.proofs.Common.{rules, ◌≡◌, ◌≢◌, ◌<◌, Ok, Err, [], refl, length}
use Rattle.encoding.specs.declared.fault.Fault.TheVariants.{Short}
use Rattle.rootchain.specs.RootLists.{read_root_count}
use Rattle.rootchain.specs.FeedViews.{TellsNext}
use Rattle.rootchain.specs.RootFeeds.{Counts, Owes}
use Rattle.rootchain.proofs.RootFeeds.{count-fails, count-waits, count_more, counted-as, front-none, passed-held, passed-tells, tells-same, Fills}
use Rattle.rootchain.proofs.root_feed.advance.Goals as goal

pub next_of-requires-in-Ok : goal.next_of-requires-in-Ok
next_of-requires-in-Ok c =
    let told : read_root_count c.fill-rest.new.held ≡ Ok (c.in-Ok.count, c.read_count.new.cursor) = search rules in
    ((count_more _ _ _ told).1, rw c.new-in-Ok.ensures front-none, λ _. c.new-in-Ok.ensures)

pub returns-in-Ok-clause-tells : goal.returns-in-Ok-clause-tells
returns-in-Ok-clause-tells c =
    let told : read_root_count c.fill-rest.new.held ≡ Ok (c.in-Ok.count, c.read_count.new.cursor) = search rules in
    let short : length c.args.held.now < 2 = rw c.in-Count.is at c.requires in
    let fills : Fills c.args.held.now c.args.piece.now 2 c.fill-rest.new.held c.fill-rest.result.now = record { joined = c.fill-rest.ensures.joined; full = c.fill-rest.ensures.full; most = c.fill-rest.ensures.most; stays = c.fill-rest.ensures.stays } in
    let tells : TellsNext (Owes c.in-Ok.count []) c.fill-rest.result.now c.next_of-in-Ok.result _ = rw c.new-in-Ok.ensures at c.next_of-in-Ok.ensures.tells in
    rw c.in-Count.is (tells-same (Counts c.args.held.now) (Owes c.in-Ok.count []) _ _ c.next_of-in-Ok.result _ (counted-as _ _ _ _ fills short c.in-Ok.count c.read_count.new.cursor told) tells)

pub returns-in-Err-Short-clause-tells : goal.returns-in-Err-Short-clause-tells
returns-in-Err-Short-clause-tells c =
    let none : read_root_count c.fill-rest.new.held ≡ Err Short = search rules in
    let short : length c.args.held.now < 2 = rw c.in-Count.is at c.requires in
    let fills : Fills c.args.held.now c.args.piece.now 2 c.fill-rest.new.held c.fill-rest.result.now = record { joined = c.fill-rest.ensures.joined; full = c.fill-rest.ensures.full; most = c.fill-rest.ensures.most; stays = c.fill-rest.ensures.stays } in
    rw c.in-Count.is ((count-waits _ _ _ _ fills short none).0, λ e. cc)

pub returns-in-Err-Short-clause-held : goal.returns-in-Err-Short-clause-held
returns-in-Err-Short-clause-held c =
    let none : read_root_count c.fill-rest.new.held ≡ Err Short = search rules in
    let short : length c.args.held.now < 2 = rw c.in-Count.is at c.requires in
    let fills : Fills c.args.held.now c.args.piece.now 2 c.fill-rest.new.held c.fill-rest.result.now = record { joined = c.fill-rest.ensures.joined; full = c.fill-rest.ensures.full; most = c.fill-rest.ensures.most; stays = c.fill-rest.ensures.stays } in
    rw c.in-Count.is (count-waits _ _ _ _ fills short none).1

pub returns-in-Err : goal.returns-in-Err
returns-in-Err c =
    let none : read_root_count c.fill-rest.new.held ≡ Err c.in-Err.field-0 = search rules in
    let other : c.in-Err.field-0 ≢ Short = search rules in
    let short : length c.args.held.now < 2 = rw c.in-Count.is at c.requires in
    let fills : Fills c.args.held.now c.args.piece.now 2 c.fill-rest.new.held c.fill-rest.result.now = record { joined = c.fill-rest.ensures.joined; full = c.fill-rest.ensures.full; most = c.fill-rest.ensures.most; stays = c.fill-rest.ensures.stays } in
    record { tells = rw c.in-Count.is (count-fails _ _ _ _ fills short c.in-Err.field-0 other none, refl); held = tt; form = tt }

pub returns-in-Overlong-clause-tells : goal.returns-in-Overlong-clause-tells
returns-in-Overlong-clause-tells c =
    rw c.in-Overlong.is (passed-tells c.in-Overlong.left c.in-Overlong.missing c.args.piece.now c.pass.result c.pass.new.stage c.args.held.now c.pass.ensures.tells)

pub returns-in-Overlong-clause-held : goal.returns-in-Overlong-clause-held
returns-in-Overlong-clause-held c =
    passed-held c.in-Overlong.left c.in-Overlong.missing c.args.piece.now c.pass.result c.pass.new.stage c.args.held.now (rw c.in-Overlong.is at c.requires).0 c.pass.ensures.tells
