use Rattle.std.proofs.Common.{◌≡◌, ℕ, ◌≤◌, List, length, ap, arith, lit≤}
use Rattle.encoding.specs.declared.fixed_text.TheConstants.{PROOF_TEXT_ROOM}
use Rattle.proofs.proofs.Sizes.{reply_few}
use Rattle.client.specs.Agreements.{SpellsOne}
use Rattle.client.proofs.client.finality.broken_final.Goals as goal

fits : {own bytes : List ℕ} → own ≡ bytes → SpellsOne bytes → length own ≤ PROOF_TEXT_ROOM
fits same spelled =
    let few = (reply_few spelled.0 spelled.1.1).few in
    let read = ap length spelled.1.0 in
    let own = ap length same in
    omega (arith, few, read, own)

pub of-requires : goal.of-requires
of-requires g c = (lit≤ tt, fits c.bytes.ensures c.requires.spelled)

pub of-requires-2 : goal.of-requires-2
of-requires-2 g c = (lit≤ tt, fits c.bytes-2.ensures c.requires.later_spelled)
