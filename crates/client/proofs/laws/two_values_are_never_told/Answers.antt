use Rattle.std.proofs.Common.{inl, inr}
use Rattle.client.proofs.laws.two_values_are_never_told.Goals as goal

pub returns : goal.returns
returns g c one other told = elim told [
  | inl never ↦ never
  | inr by_looks ↦
      let two = by_looks.1.3.4.3 in
      two.differ (g.met.V.UniqueVuf.one_value _ _ _ _ two.one two.two)
]
