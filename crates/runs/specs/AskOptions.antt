-- What is asked of a directory, by the texts of a command line.
use Rattle.std.specs.Prelude.{ℕ, List, [], ◌∷◌, Option, option_and_then, option_map}
use Rattle.textio.specs.Digits.{hex32, hex32_or_zeros}
use Rattle.runs.specs.declared.order.AskOrder.{AskOrder}

pub record AskOptions : Type 0 where
  pub signing_key : List ℕ
  pub token : Option (List ℕ)
  pub state : Option (List ℕ)
  pub address : List ℕ
  pub words : List (Option (List ℕ))
  pub after : Option ℕ

abbrev pub ask_values : AskOrder → AskOptions
ask_values order = record {
  signing_key = order.signing_key.now;
  token = option_map (λ text. text.now) order.token;
  state = option_map (λ text. text.now) order.state;
  address = order.address.now;
  words = option_map (λ text. text.now) order.command ∷ option_map (λ text. text.now) order.first ∷ option_map (λ text. text.now) order.second ∷ option_map (λ text. text.now) order.third ∷ [];
  after = order.after;
}

-- the key and the token, zeros if none is given; none if a text is not 64 hexadecimal digits
abbrev pub ask_keys_of : AskOptions → Option (List ℕ × List ℕ)
ask_keys_of asked = option_and_then (λ key. option_map (λ token. (key, token)) (hex32_or_zeros asked.token)) (hex32 asked.signing_key)
