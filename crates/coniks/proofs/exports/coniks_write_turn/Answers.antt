use Rattle.std.proofs.Common.{arith, inr, refl}
use Rattle.wire.specs.Requests.{Turn}
use Rattle.coniks.proofs.Framing.{put-so}
use Rattle.coniks.proofs.exports.coniks_write_turn.Goals as goal

pub turn_body-body-requires-clause-nonce : goal.turn_body-body-requires-clause-nonce
turn_body-body-requires-clause-nonce c = c.asks_nonce.ensures.0 c.if-not-asks_nonce.false

pub returns : goal.returns
returns c =
    let room = c.if-frame-lt-BUFFER_LEN.false in
    let token = c.if-token-ne32.false in
    let (asked, is) = c.asks_nonce.ensures.0 c.if-not-asks_nonce.false in
    inr (omega (arith, room), inr (token, inr (asked, is, (refl, put-so (Turn c.args.token.now c.args.epoch asked) _ _ (c.turn_kind.ensures c.args.token.now c.args.epoch asked is) (c.turn_body-body.ensures.value asked is) _ _ _ c.put_frame.ensures))))
