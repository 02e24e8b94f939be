use Rattle.std.proofs.Common.{◌≡◌, ◌∙◌, codes, option_map}
use Rattle.clap.specs.Words.{first_of, found_of, rows_of}
use Rattle.clap.proofs.WalkLemmas.{first_value-rows}
use Rattle.directoryd.proofs.order.directory_order.Goals as goal

pub returns : goal.returns
returns c =
    let found = found_of c.args.found.now in
    let given : option_map (λ s. s.now) c.get_str.result ≡ first_of (codes "nonce") (rows_of found) = c.get_str.ensures ∙ first_value-rows found (codes "nonce") in
    let journal : option_map (λ s. s.now) c.get_str-2.result ≡ first_of (codes "journal") (rows_of found) = c.get_str-2.ensures ∙ first_value-rows found (codes "journal") in
    λ i. record {
      signing_key = c.text.ensures i;
      vuf_key = c.text-2.ensures i;
      salt_key = c.text-3.ensures i;
      token = c.text-4.ensures i;
      epoch = c.first_epoch.ensures i;
      nonce = given i;
      journal = journal i;
    }
