use Rattle.std.proofs.Common.{◌≡◌, ◌∙◌, codes, option_map}
use Rattle.clap.specs.Words.{first_of, found_of, rows_of}
use Rattle.clap.proofs.WalkLemmas.{first_value-rows}
use Rattle.directoryd.specs.Orders.{the_connections}
use Rattle.directoryd.proofs.order.listen_order.Goals as goal

pub returns : goal.returns
returns c =
    let found = found_of c.args.found.now in
    let keys : option_map (λ s. s.now) c.get_str.result ≡ first_of (codes "keys") (rows_of found) = c.get_str.ensures ∙ first_value-rows found (codes "keys") in
    λ i. the_connections (c.directory_order.ensures i)
    (record { count = c.number.ensures.is i; sessions = c.number-2.ensures.is i; idle = c.number-3.ensures.is i; report = c.number-4.ensures.is i; until_eof = c.flag.ensures i; address = c.text.ensures i })
    (keys i)
