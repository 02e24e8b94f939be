use Rattle.std.proofs.Common.{◌≡◌, length, ap, arith}
use Rattle.proofs.proofs.Sizes.{reply_few}
use Rattle.proofs.proofs.Sound.{not_spelled}
use Rattle.rootchain.specs.declared.body.Body.{Body}
use Rattle.memory.specs.declared.final_seen.FinalSeen.{FinalSeen}
use Rattle.asking.proofs.FinalsNoted.{noted-nothing, noted-reply, noted-unread}
use Rattle.asking.proofs.finals.Finals.note.Goals as goal

pub copy_of-requires : goal.copy_of-requires
copy_of-requires g c =
    let few = (reply_few c.in-Ok.view c.in-Ok.ensures.exact.1).few in
    let same = ap length c.in-Ok.ensures.exact.0 in
    omega (arith, few, same)

pub returns-then-shows_nothing-clause-notes : goal.returns-then-shows_nothing-clause-notes
returns-then-shows_nothing-clause-notes g c =
    noted-nothing g.H.NodeHash.digest_of g.V.VufCheck.accepted c.args.chain.now c.args.name.now c.args.reply.now c.in-Ok.view c.body.result.now.epoch c.args.self.now c.args.said.now
    c.in-Ok.ensures.exact (ap (λ (body : Body). body.epoch) c.body.ensures) (c.shows_nothing.ensures c.if-shows_nothing.true)

pub returns-in_default-clause-notes : goal.returns-in_default-clause-notes
returns-in_default-clause-notes g c =
    noted-unread g.H.NodeHash.digest_of g.V.VufCheck.accepted c.args.chain.now c.args.name.now c.args.reply.now c.args.self.now c.args.said.now
    (not_spelled c.args.reply.now c.in_default.field-0 c.in_default.ensures.exact)

pub returns-clause-notes : goal.returns-clause-notes
returns-clause-notes g c =
    let named = c.copied-name.ensures in
    let body = c.body.ensures in
    let text = c.in_ok-reply.ensures in
    let is : (let seen : FinalSeen = record { name = c.copied-name.result; epoch = c.body.result.now.epoch; reply = c.in_ok-reply.reply } in seen)
    ≡ record { name = c.args.name.now; epoch = c.in-Ok.view.body.epoch; reply = c.args.reply.now } = cc in
    noted-reply g.H.NodeHash.digest_of g.V.VufCheck.accepted c.args.chain.now c.note_seen.result c.args.name.now c.args.reply.now c.in-Ok.view _ c.args.self.now c.note_seen.new.self c.args.said.now c.note_seen.new.said
    c.in-Ok.ensures.exact is c.note_seen.ensures.notes
