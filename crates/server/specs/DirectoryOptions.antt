-- What a server is asked.
use Rattle.std.specs.Prelude.{ℕ, List, Option, option_map}
use Rattle.std.specs.NonZero.{non_zero_u64_get}
use Rattle.server.specs.declared.order.DirectoryOrder.{DirectoryOrder}

-- the values of an order: the texts of the keys and of the token, the epoch of the first page, and, where
-- they are given, the nonce's text and the path of the journal
pub record DirectoryOptions : Type 0 where
  pub signing_key : List ℕ
  pub vuf_key : List ℕ
  pub salt_key : List ℕ
  pub token : List ℕ
  pub epoch : ℕ
  pub nonce : Option (List ℕ)
  pub journal : Option (List ℕ)

abbrev pub directory_values : DirectoryOrder → DirectoryOptions
directory_values order = record {
  signing_key = order.signing_key.now;
  vuf_key = order.vuf_key.now;
  salt_key = order.salt_key.now;
  token = order.token.now;
  epoch = non_zero_u64_get order.epoch;
  nonce = option_map (λ text. text.now) order.nonce;
  journal = option_map (λ path. path.now) order.journal;
}
