use Rattle.std.proofs.Common.{inl, inr}
use Rattle.client.proofs.extremes.Extremes.has_change_with.Goals as goal

pub returns-then-has_change_of : goal.returns-then-has_change_of
returns-then-has_change_of c = λ replies spelled are. (λ yes. inl ((c.has_change_of.ensures replies spelled are).0 c.if-has_change_of.true), λ is. c.if-has_change_of.true)

pub returns-else-has_change_of : goal.returns-else-has_change_of
returns-else-has_change_of c = λ replies spelled are.
    let exact = c.are_changed_by.ensures replies spelled are in
    let first = c.has_change_of.ensures replies spelled are in (
      λ holds. inr (exact.0 holds),
      λ is. elim is [
        | inl changed ↦ let holds = first.1 changed in let never = c.if-has_change_of.false in absurd cc
        | inr changes ↦ exact.1 changes
      ],
    )
