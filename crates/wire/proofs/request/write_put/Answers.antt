use Rattle.std.proofs.Common.{arith}
use Rattle.wire.specs.Requests.{Put}
use Rattle.wire.proofs.Requests.{is_formed}
use Rattle.wire.proofs.request.write_put.Goals as goal

pub returns-in-None-clause-form : goal.returns-in-None-clause-form
returns-in-None-clause-form c =
    is_formed (Put c.args.put.now.verb c.args.put.now.name.now (c.args.put.now.key.now, c.args.put.now.policy))
    (rw c.in-None.is (c.length_bytes.ensures.bytes, c.length_bytes-in-None.ensures.bytes)) c.requires

pub returns-in-Some-clause-form : goal.returns-in-Some-clause-form
returns-in-Some-clause-form c =
    is_formed (Put c.args.put.now.verb c.args.put.now.name.now (c.args.put.now.key.now, c.args.put.now.policy))
    (rw c.in-Some.is (omega arith, (c.length_bytes-in-Some.ensures.bytes, c.length_bytes-in-Some-2.ensures.bytes))) c.requires
