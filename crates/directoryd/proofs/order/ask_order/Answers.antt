use Rattle.std.proofs.Common.{◌≡◌, ◌∙◌, ◌∷◌, [], codes, option_map}
use Rattle.clap.specs.Words.{first_of, found_of, rows_of}
use Rattle.clap.proofs.WalkLemmas.{first_value-rows}
use Rattle.directoryd.proofs.order.ask_order.Goals as goal

pub returns : goal.returns
returns c =
    let found = found_of c.args.found.now in
    let token : option_map (λ s. s.now) c.get_str.result ≡ first_of (codes "token") (rows_of found) = c.get_str.ensures ∙ first_value-rows found (codes "token") in
    let state : option_map (λ s. s.now) c.get_str-2.result ≡ first_of (codes "state") (rows_of found) = c.get_str-2.ensures ∙ first_value-rows found (codes "state") in
    let command : option_map (λ s. s.now) c.get_str-3.result ≡ first_of (codes "command") (rows_of found) = c.get_str-3.ensures ∙ first_value-rows found (codes "command") in
    let first : option_map (λ s. s.now) c.get_str-4.result ≡ first_of (codes "first") (rows_of found) = c.get_str-4.ensures ∙ first_value-rows found (codes "first") in
    let second : option_map (λ s. s.now) c.get_str-5.result ≡ first_of (codes "second") (rows_of found) = c.get_str-5.ensures ∙ first_value-rows found (codes "second") in
    let third : option_map (λ s. s.now) c.get_str-6.result ≡ first_of (codes "third") (rows_of found) = c.get_str-6.ensures ∙ first_value-rows found (codes "third") in
    λ i. record {
      signing_key = [];
      token = token i;
      state = state i;
      address = c.text.ensures i;
      words = command i ∷ first i ∷ second i ∷ third i ∷ [];
      after = c.after.ensures i;
    }
