use Rattle.std.proofs.Common.{arith, inr, refl, rules}
use Rattle.encoding.specs.Limits.{IsKeyData, IsName}
use Rattle.wire.specs.Requests.{Put}
use Rattle.coniks.specs.Asking.{verb_asked}
use Rattle.coniks.proofs.Framing.{put-so}
use Rattle.coniks.proofs.exports.coniks_write_put.Goals as goal

pub returns : goal.returns
returns c =
    let room = c.if-frame-lt-BUFFER_LEN.false in
    let name : IsName c.args.name.now = search rules in
    let key : IsKeyData c.args.key.now = search rules in
    let (asked, is) = c.asks_policy.ensures.0 c.if-not-asks_policy.false in
    let body = rw (c.in-Ok.ensures.value, c.in-Ok-new.ensures.value) at (c.put_body-body.ensures.value c.args.is_change asked is) in
    inr (omega (arith, room), inr (name, inr (key, inr (asked, is, (refl, put-so (Put (verb_asked c.args.is_change) c.args.name.now (c.args.key.now, asked)) _ _ (c.put_kind.ensures c.args.name.now c.args.key.now asked is) body _ _ _ c.put_frame.ensures)))))
