use Rattle.std.proofs.Common.{rules, ◌≡◌, None, Some, Err, ap, inr, refl}
use Rattle.std.proofs.KnownBytes.{Keeps-refl}
use Rattle.runs.specs.AskOptions.{ask_values}
use Rattle.directoryd.specs.KeyFiles.{unusable_ask}
use Rattle.directoryd.proofs.KeyTexts.{ask_used, no_ask_keys, provided_used}
use Rattle.directoryd.proofs.keyed.ask_from.Goals as goal

pub returns-in-Some : goal.returns-in-Some
returns-in-Some g c =
    let order = ask_values c.ask_with-order.result in
    let line : unusable_ask order ≡ Some c.in-Some.line.now = search rules in
    let public = provided_used _ c.as_str.result.now (ask_values c.args.order) (rw c.as_str.ensures.value c.in-Ok.ensures.ok) in
    let used = ask_used _ c.as_str-in-Ok-keys_at.result.now (ask_values c.provided-order.result) (rw c.as_str-in-Ok-keys_at.ensures.value c.in-Ok-keys_at.ensures.ok) in
    inr (inr (
      ask_values c.provided-order.result,
      order,
      rw c.provided-order.ensures public,
      rw c.ask_with-order.ensures used,
      (λ _. no_ask_keys order c.in-Some.line.now line, λ _. ap Err c.refuse_key.ensures.0),
      rw line (_, refl, rw (← c.in-Ok.ensures.still, ← c.in-Ok-keys_at.ensures.still) c.refuse_key.ensures, Keeps-refl _),
    ))

pub returns-in-Ok-keys_at : goal.returns-in-Ok-keys_at
returns-in-Ok-keys_at g c =
    let order = ask_values c.ask_with-order.result in
    let none : unusable_ask order ≡ None = search rules in
    let public = provided_used _ c.as_str.result.now (ask_values c.args.order) (rw c.as_str.ensures.value c.in-Ok.ensures.ok) in
    let used = ask_used _ c.as_str-in-Ok-keys_at.result.now (ask_values c.provided-order.result) (rw c.as_str-in-Ok-keys_at.ensures.value c.in-Ok-keys_at.ensures.ok) in
    inr (inr (
      ask_values c.provided-order.result,
      order,
      rw c.provided-order.ensures public,
      rw c.ask_with-order.ensures used,
      c.ask.ensures.bad_hex,
      rw none (rw (← c.in-Ok.ensures.still, ← c.in-Ok-keys_at.ensures.still) c.ask.ensures.silent, c.ask.ensures.faults, c.ask.ensures.grows, c.ask.ensures.runs, c.ask.ensures.fails),
    ))
