use Rattle.memory.specs.Memories.{signed_of}
use Rattle.memory.proofs.Indexed.{any-from_place}
use Rattle.memory.proofs.promises.Promises.has.Goals as goal

pub returns : goal.returns
returns c = rw c.is_some.ensures (any-from_place signed_of c.args.signed.now c.args.self.now c.place_of.result c.place_of.ensures)
