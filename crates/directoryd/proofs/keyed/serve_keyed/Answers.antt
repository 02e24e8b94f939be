use Rattle.std.proofs.Common.{rules, ◌≡◌, None, Some, inr, refl}
use Rattle.std.proofs.KnownBytes.{Keeps-refl}
use Rattle.server.specs.DirectoryOptions.{directory_values}
use Rattle.directoryd.specs.KeyFiles.{unusable_line}
use Rattle.directoryd.proofs.KeyTexts.{directory_used}
use Rattle.directoryd.proofs.keyed.serve_keyed.Goals as goal

pub returns-in-Some : goal.returns-in-Some
returns-in-Some g c =
    let order = directory_values c.directory_with-order.result in
    let line : unusable_line order ≡ Some c.in-Some.line.now = search rules in
    let used = directory_used _ c.as_str.result.now (directory_values c.args.order) (rw c.as_str.ensures.value c.in-Ok.ensures.ok) in
    inr (order, g.R.Read.remaining c.args.reader.now, rw c.directory_with-order.ensures used, rw line (_, refl, rw (← c.in-Ok.ensures.still) c.refuse_key.ensures, Keeps-refl _))

pub returns-in-Ok : goal.returns-in-Ok
returns-in-Ok g c =
    let order = directory_values c.directory_with-order.result in
    let none : unusable_line order ≡ None = search rules in
    let used = directory_used _ c.as_str.result.now (directory_values c.args.order) (rw c.as_str.ensures.value c.in-Ok.ensures.ok) in
    inr (order, g.R.Read.remaining c.serve_directory.new.reader, rw c.directory_with-order.ensures used, rw none (rw (← c.in-Ok.ensures.still) c.serve_directory.ensures.serves))
