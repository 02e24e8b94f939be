-- What `root` and `prove` are asked.
use Rattle.std.specs.Prelude.{ℕ, List, Option, option_map}
use Rattle.items.specs.declared.orders.HashChoice.{HashChoice}
use Rattle.items.specs.declared.orders.RootOrder.{RootOrder}

-- the values of an order: the hash function, and the nonce's text where one is given
pub record TreeOptions : Type 0 where
  pub hash : HashChoice
  pub nonce : Option (List ℕ)

abbrev pub tree_values : RootOrder → TreeOptions
tree_values order = record { hash = order.hash; nonce = option_map (λ text. text.now) order.nonce }
