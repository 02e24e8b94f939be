use Rattle.std.proofs.Common.{rules, ◌≡◌, ◌∷◌, ℕ, Option, Some, None, true, false, refl, ap, inl, inr, ◌∙◌}
use Rattle.connections.specs.Histories.{GoesOn, Ordered, clock, or_now}
use Rattle.connections.proofs.rounds.stop_by.Goals as goal

pub returns-then-is_stopped : goal.returns-then-is_stopped
returns-then-is_stopped g c = λ idle start acts known time order.
    let none : c.args.known ≡ None = search rules in
    let yes : c.is_stopped.result ≡ true = search rules in (
      Ordered ∷ acts,
      inr (inl refl),
      (c.is_stopped.ensures.yes yes start acts known.1 known.0, known.1, known.2),
      ap (λ (known : Option ℕ). or_now known (clock acts)) (order ∙ none) ∙ ap (λ (at : ℕ). Some at) time,
      inl (clock acts, ap (λ (known : Option ℕ). or_now known (clock acts)) (order ∙ none)),
    )

pub returns : goal.returns
returns g c = λ idle start acts known time order.
    let none : c.args.known ≡ None = search rules in
    let no : c.is_stopped.result ≡ false = search rules in
    (GoesOn ∷ acts, inr (inr refl), (c.is_stopped.ensures.no no start acts known.1 known.0, known.1, (order ∙ none, known.2)), order ∙ none, inr tt)
