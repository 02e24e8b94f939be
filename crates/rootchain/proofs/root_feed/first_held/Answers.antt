use Rattle.std.proofs.Common.{rules, ◌≡◌, ◌+◌, ◌-◌, Ok, Err, ap, refl, inl}
use Rattle.encoding.specs.Reading.{whole_of}
use Rattle.rootchain.specs.RootFeeds.{read_signature_len, Owes}
use Rattle.rootchain.specs.SignedRoots.{read_signed_root}
use Rattle.rootchain.proofs.RootFeeds.{ends, passed-front, waits, waits-again, Fills}
use Rattle.rootchain.proofs.root_feed.first_held.Goals as goal

pub returns-in_default-clause-front : goal.returns-in_default-clause-front
returns-in_default-clause-front c =
    let fills : Fills c.args.held.now c.args.piece.now 148 c.fill-rest.new.held c.fill-rest.result.now = record { joined = c.fill-rest.ensures.joined; full = c.fill-rest.ensures.full; most = c.fill-rest.ensures.most; stays = c.fill-rest.ensures.stays } in
    let none : read_signature_len c.fill-rest.new.held ≡ Err c.in_default.field-0 = search rules in
    let part = waits _ _ _ _ fills c.in_default.field-0 none in
    inl (part.0, ap (Owes c.args.left) part.1)

pub returns-then-signature_len-gt-MAX_SMALL_LEN-clause-front : goal.returns-then-signature_len-gt-MAX_SMALL_LEN-clause-front
returns-then-signature_len-gt-MAX_SMALL_LEN-clause-front c =
    let fills : Fills c.args.held.now c.args.piece.now 148 c.fill-rest.new.held c.fill-rest.result.now = record { joined = c.fill-rest.ensures.joined; full = c.fill-rest.ensures.full; most = c.fill-rest.ensures.most; stays = c.fill-rest.ensures.stays } in
    let told : read_signature_len c.fill-rest.new.held ≡ Ok (c.in-Ok.signature_len, c.read_signature_len.new.cursor) = search rules in
    passed-front _ _ _ _ fills c.in-Ok.signature_len c.read_signature_len.new.cursor told (search rules) c.requires.held c.args.left c.pass.result c.pass.new.stage _ c.pass.ensures.tells

pub returns-then-bytes-len-clause-front : goal.returns-then-bytes-len-clause-front
returns-then-bytes-len-clause-front c =
    let fills : Fills c.args.held.now c.args.piece.now 148 c.fill-rest.new.held c.fill-rest.result.now = record { joined = c.fill-rest.ensures.joined; full = c.fill-rest.ensures.full; most = c.fill-rest.ensures.most; stays = c.fill-rest.ensures.stays } in
    let told : read_signature_len c.fill-rest.new.held ≡ Ok (c.in-Ok.signature_len, c.read_signature_len.new.cursor) = search rules in
    let again : Fills c.fill-rest.new.held c.fill-rest.result.now (148 + c.in-Ok.signature_len) c.fill-rest-2.new.held c.fill-rest-2.result.now =
    record { joined = c.fill-rest-2.ensures.joined; full = c.fill-rest-2.ensures.full; most = c.fill-rest-2.ensures.most; stays = c.fill-rest-2.ensures.stays } in
    let part = waits-again _ _ _ _ fills c.in-Ok.signature_len c.read_signature_len.new.cursor told (search rules) c.requires.held c.fill-rest-2.new.held c.fill-rest-2.result.now again (search rules) in
    inl (part.0, ap (Owes c.args.left) part.1)

pub returns-in-Ok-read_whole-clause-front : goal.returns-in-Ok-read_whole-clause-front
returns-in-Ok-read_whole-clause-front c =
    let fills : Fills c.args.held.now c.args.piece.now 148 c.fill-rest.new.held c.fill-rest.result.now = record { joined = c.fill-rest.ensures.joined; full = c.fill-rest.ensures.full; most = c.fill-rest.ensures.most; stays = c.fill-rest.ensures.stays } in
    let told : read_signature_len c.fill-rest.new.held ≡ Ok (c.in-Ok.signature_len, c.read_signature_len.new.cursor) = search rules in
    let again : Fills c.fill-rest.new.held c.fill-rest.result.now (148 + c.in-Ok.signature_len) c.fill-rest-2.new.held c.fill-rest-2.result.now =
    record { joined = c.fill-rest-2.ensures.joined; full = c.fill-rest-2.ensures.full; most = c.fill-rest-2.ensures.most; stays = c.fill-rest-2.ensures.stays } in
    let read : whole_of (read_signed_root c.fill-rest-2.new.held) ≡ Ok c.in-Ok-read_whole.root = search rules in
    (ends _ _ _ _ fills c.in-Ok.signature_len c.read_signature_len.new.cursor told (search rules) c.requires.held c.fill-rest-2.new.held c.fill-rest-2.result.now again (search rules) (Ok c.in-Ok-read_whole.root) read, ap (Owes (c.args.left - 1)) c.new-in-Ok-read_whole.ensures)

pub returns-in-Err-clause-front : goal.returns-in-Err-clause-front
returns-in-Err-clause-front c =
    let fills : Fills c.args.held.now c.args.piece.now 148 c.fill-rest.new.held c.fill-rest.result.now = record { joined = c.fill-rest.ensures.joined; full = c.fill-rest.ensures.full; most = c.fill-rest.ensures.most; stays = c.fill-rest.ensures.stays } in
    let told : read_signature_len c.fill-rest.new.held ≡ Ok (c.in-Ok.signature_len, c.read_signature_len.new.cursor) = search rules in
    let again : Fills c.fill-rest.new.held c.fill-rest.result.now (148 + c.in-Ok.signature_len) c.fill-rest-2.new.held c.fill-rest-2.result.now =
    record { joined = c.fill-rest-2.ensures.joined; full = c.fill-rest-2.ensures.full; most = c.fill-rest-2.ensures.most; stays = c.fill-rest-2.ensures.stays } in
    let read : whole_of (read_signed_root c.fill-rest-2.new.held) ≡ Err c.in-Err.field-0 = search rules in
    (ends _ _ _ _ fills c.in-Ok.signature_len c.read_signature_len.new.cursor told (search rules) c.requires.held c.fill-rest-2.new.held c.fill-rest-2.result.now again (search rules) (Err c.in-Err.field-0) read, refl)
