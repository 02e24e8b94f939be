use Rattle.std.proofs.Common.{◌≡◌, ◌∙◌, codes, option_map}
use Rattle.clap.specs.Words.{first_of, found_of, rows_of}
use Rattle.clap.proofs.WalkLemmas.{first_value-rows}
use Rattle.directoryd.proofs.order.ask_texts.Goals as goal

pub returns : goal.returns
returns c =
    let found = found_of c.args.found.now in
    let provider : option_map (λ s. s.now) c.get_str.result ≡ first_of (codes "provider") (rows_of found) = c.get_str.ensures ∙ first_value-rows found (codes "provider") in
    let keys : option_map (λ s. s.now) c.get_str-2.result ≡ first_of (codes "keys") (rows_of found) = c.get_str-2.ensures ∙ first_value-rows found (codes "keys") in
    λ i. record { provider = provider i; keys = keys i; is_text = c.flag.ensures i }
