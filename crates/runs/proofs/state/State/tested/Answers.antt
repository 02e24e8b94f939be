use Rattle.std.proofs.Common.{◌≡◌, map, rules}
use Rattle.memory.specs.Memories.{signed_of}
use Rattle.runs.proofs.Staying.{none-gone}
use Rattle.runs.proofs.state.State.tested.Goals as goal

pub returns-then-are_remembered : goal.returns-then-are_remembered
returns-then-are_remembered c =
    let same : map signed_of c.args.self.now.memory.promises ≡ c.in-Some.kept.items = search rules in
    rw (c.in-Some.is, c.new-then-are_remembered.ensures.items) (none-gone c.args.self.now.memory c.in-Some.kept.items same)
