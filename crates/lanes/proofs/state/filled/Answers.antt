use Rattle.lanes.proofs.Places.{eight-written}
use Rattle.lanes.proofs.state.filled.Goals as goal

pub returns : goal.returns
returns g c = eight-written c.args.room.now c.args.a c.args.b c.args.c c.args.d c.args.e c.args.f c.args.g c.args.h c.told-room
