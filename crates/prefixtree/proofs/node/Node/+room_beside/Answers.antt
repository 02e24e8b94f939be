use Rattle.std.proofs.Common.{◌≡◌, rules, arith}
use Rattle.prefixtree.proofs.Counts.{some-node}
use Rattle.prefixtree.proofs.node.Node.+room_beside.Goals as goal

pub returns-then-room-eq0 : goal.returns-then-room-eq0
returns-then-room-eq0 t c =
    let none : c.args.room ≡ 0 = search rules in
    omega (arith, none, some-node c.args.self.now)
