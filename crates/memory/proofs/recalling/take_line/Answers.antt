use Rattle.std.proofs.Common.{◌≡◌, [], refl, ap, length, rules}
use Rattle.memory.specs.Lines.{IsLineOf}
use Rattle.memory.specs.declared.item.Item.{Item}
use Rattle.memory.proofs.Recalled.{nonempty}
use Rattle.memory.proofs.recalling.take_line.Goals as goal

pub returns-in_default : goal.returns-in_default
returns-in_default c =
    let none : (item : Item) → ¬ IsLineOf c.args.line.now item = search rules in
    let some : c.args.line.now ≡ [] → ⊥ = λ is. let zero_length = ap length is in search rules in
    (refl, none, nonempty c.args.line.now some)
