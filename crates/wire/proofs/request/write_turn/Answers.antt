use Rattle.std.proofs.Common.{arith}
use Rattle.wire.specs.Requests.{Turn}
use Rattle.wire.proofs.Requests.{is_formed}
use Rattle.wire.proofs.request.write_turn.Goals as goal

pub returns-in-None-clause-form : goal.returns-in-None-clause-form
returns-in-None-clause-form c = is_formed (Turn c.args.token.now c.args.epoch c.args.nonce.now) (rw c.in-None.is (c.bytes-token.ensures.size, omega arith)) c.requires

pub returns-in-Some-clause-form : goal.returns-in-Some-clause-form
returns-in-Some-clause-form c = is_formed (Turn c.args.token.now c.args.epoch c.args.nonce.now) (rw c.in-Some.is (c.bytes-token.ensures.size, (omega arith, c.bytes-in-Some-2.ensures.size))) c.requires
