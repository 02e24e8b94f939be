use Rattle.prefixtree.proofs.node.Node.+room_beside.Given as goal

abbrev pub decreases-room_beside : goal.decreases-room_beside
decreases-room_beside l = l.room
