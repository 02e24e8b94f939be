use Rattle.std.proofs.Common.{rules, ◌≡◌, None, Some, Err, ap, inr, refl}
use Rattle.server.specs.DirectoryOptions.{directory_values}
use Rattle.directoryd.specs.KeyFiles.{unusable_line}
use Rattle.directoryd.proofs.KeyTexts.{directory_used, no_keys}
use Rattle.directoryd.proofs.keyed.listen_keyed.Goals as goal

pub returns-in-Some : goal.returns-in-Some
returns-in-Some g c =
    let order = directory_values c.listen_with-order.result.directory in
    let line : unusable_line order ≡ Some c.in-Some.line.now = search rules in
    let used = directory_used _ c.as_str.result.now (directory_values c.args.order.directory) (rw c.as_str.ensures.value c.in-Ok.ensures.ok) in
    inr (
      order,
      rw c.listen_with-order.ensures.directory used,
      (λ _. no_keys order c.in-Some.line.now line, λ _. ap Err c.refuse_key.ensures.0),
      rw line (_, refl, rw (← c.in-Ok.ensures.still) c.refuse_key.ensures),
    )

pub returns-in-Ok : goal.returns-in-Ok
returns-in-Ok g c =
    let order = directory_values c.listen_with-order.result.directory in
    let none : unusable_line order ≡ None = search rules in
    let used = directory_used _ c.as_str.result.now (directory_values c.args.order.directory) (rw c.as_str.ensures.value c.in-Ok.ensures.ok) in
    inr (
      order,
      rw c.listen_with-order.ensures.directory used,
      c.listen.ensures.bad_hex,
      rw none (rw (← c.listen_with-order.ensures.connections, ← c.in-Ok.ensures.still) c.listen.ensures.tells),
    )
