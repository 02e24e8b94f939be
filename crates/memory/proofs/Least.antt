-- The least of monitors, with one more.
use Rattle.std.proofs.Common.{◌≡◌, ◌≢◌, ℕ, ◌<◌, ◌≤◌, List, [], ◌∷◌, ◌++◌, length, min, Any, Option, None, Some, subst, ◌∙◌, inl, inr, arith}
use Rattle.std.proofs.lemmas.Bool.{cases_lt}
use Rattle.std.proofs.lemmas.List.{get_or_append_left, length_push}
use Rattle.std.proofs.lemmas.List.Elements.{All-push, All-weaker}
use Rattle.std.proofs.lemmas.List.Quantifiers.{Any-push}
use Rattle.monitor.specs.Monitors.{Monitor}
use Rattle.memory.specs.Watching.{IsWatchedUpTo, WatchedUpTo}

any-before : {X : Type 0} (P : X → Type 0) (xs : List X) (y : X) → Any P xs → Any P (xs ++ y ∷ [])
any-before P xs y (k, x, within, at, holds) =
    let more : k < length (xs ++ y ∷ []) = omega (arith, within, length_push xs y) in
    (k, x, more, get_or_append_left xs (y ∷ []) x k within ∙ at, holds)

module _ (before : List Monitor) (name : List ℕ) (monitor : Monitor) where
  abbrev Above : ℕ → Monitor → Type 0
  Above epoch other = other.name ≡ name → (own : ℕ) × IsWatchedUpTo other own × (epoch ≤ own)

  pub least-other : (least : Option ℕ) → monitor.name ≢ name → WatchedUpTo before name least → WatchedUpTo (before ++ monitor ∷ []) name least
  least-other None other watched = All-push (λ (m : Monitor). m.name ≢ name) before monitor watched other
  least-other (Some epoch) other (there, above) =
      (any-before (λ (m : Monitor). (m.name ≡ name) × IsWatchedUpTo m epoch) before monitor there, All-push (Above epoch) before monitor above (λ is. absurd (other is)))

  pub least-first : (own : ℕ) → monitor.name ≡ name → IsWatchedUpTo monitor own → WatchedUpTo before name None → WatchedUpTo (before ++ monitor ∷ []) name (Some own)
  least-first own is watched none = (
    Any-push (λ (m : Monitor). (m.name ≡ name) × IsWatchedUpTo m own) before monitor (is, watched),
    All-push (Above own) before monitor (All-weaker (λ (m : Monitor). m.name ≢ name) (Above own) (λ m other is. absurd (other is)) before none) (λ _. (own, watched, omega arith)),
  )

  lower : (low high : ℕ) → low ≤ high → (m : Monitor) → Above high m → Above low m
  lower low high below m above is = let (own, watched, up) = above is in (own, watched, omega (arith, below, up))

  pub least-both : (epoch own least : ℕ) → least ≡ min epoch own → monitor.name ≡ name → IsWatchedUpTo monitor own → WatchedUpTo before name (Some epoch)
      → WatchedUpTo (before ++ monitor ∷ []) name (Some least)
  least-both epoch own least e is watched (there, above) = elim (cases_lt epoch own) [
    | inl less ↦
        let same : epoch ≡ least = omega (arith, e, less) in
        subst (λ (n : ℕ). WatchedUpTo (before ++ monitor ∷ []) name (Some n)) same
        (any-before (λ (m : Monitor). (m.name ≡ name) × IsWatchedUpTo m epoch) before monitor there, All-push (Above epoch) before monitor above (λ _. (own, watched, omega (arith, less))))
    | inr more ↦
        let same : own ≡ least = omega (arith, e, more) in
        subst (λ (n : ℕ). WatchedUpTo (before ++ monitor ∷ []) name (Some n)) same (
          Any-push (λ (m : Monitor). (m.name ≡ name) × IsWatchedUpTo m own) before monitor (is, watched),
          All-push (Above own) before monitor (All-weaker (Above epoch) (Above own) (lower own epoch more) before above) (λ _. (own, watched, omega arith)),
        )
  ]
