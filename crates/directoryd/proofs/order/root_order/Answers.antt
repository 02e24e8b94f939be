use Rattle.std.proofs.Common.{ap, ap₂, ◌≡◌, ◌∙◌, codes, Option, option_map}
use Rattle.clap.specs.Words.{Text, first_of, found_of, rows_of}
use Rattle.clap.proofs.WalkLemmas.{first_value-rows}
use Rattle.directoryd.specs.Orders.{hash_named}
use Rattle.directoryd.proofs.order.root_order.Goals as goal

pub returns : goal.returns
returns c =
    let found = found_of c.args.found.now in
    let hash : option_map (λ s. s.now) c.get_str.result ≡ first_of (codes "hash") (rows_of found) = c.get_str.ensures ∙ first_value-rows found (codes "hash") in
    let nonce : option_map (λ s. s.now) c.get_str-2.result ≡ first_of (codes "nonce") (rows_of found) = c.get_str-2.ensures ∙ first_value-rows found (codes "nonce") in
    ap₂ (λ h (n : Option Text). record { hash = h; nonce = n }) (c.hash_choice.ensures ∙ ap hash_named hash) nonce
