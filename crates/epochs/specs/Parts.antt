-- How a directory keeps its book: the histories of the names, and for each page its root and its tree.
use Rattle.std.specs.Prelude.{◌≡◌, ℕ, suc, ◌<◌, ◌-◌, List, [], ◌∷◌, length, map}
use Rattle.prefixtree.specs.Contents.{Contents}
use Rattle.prefixtree.specs.Placement.{Items}
use Rattle.rootchain.specs.Bodies.{body_bytes}
use Rattle.rootchain.specs.declared.signed_root.SignedRoot.{SignedRoot}
use Rattle.book.specs.Books.{Binding, Book, Page, pages}
use Rattle.encoding.specs.Maps.{Map}
use Rattle.book.specs.Shows.{Provider, index_of, placement, roots}
use Rattle.book.specs.Sound.{IsSound}
use Rattle.epochs.specs.Ends.{all_but_last, final}
use Rattle.epochs.specs.Histories.{Version, chosen, binding_at, waiting}
use Rattle.epochs.specs.Versions.{AreHistories, NamesWithin}

pub record Parts : Type 0 where
  pub names : Map (List Version)
  -- of each page, from the first on
  pub roots : List SignedRoot
  pub trees : List Contents
  -- an index and a commitment for each operation that waits
  pub waiting : Items
  -- the hash of the last root's body
  pub body_hash : List ℕ

-- what stands for the last root of no roots
abbrev pub no_root : SignedRoot
no_root = record {
  body = record { epoch = 0; previous_epoch = 0; root = []; previous_hash = []; nonce = []; vuf_key = [] };
  signature = [];
}

-- the page of this number and root
abbrev pub page_of : Map (List Version) → ℕ → SignedRoot → Page
page_of names number root = record { epoch = root.body.epoch; nonce = root.body.nonce; bindings = chosen (binding_at number) names }

-- the pages of these roots, numbered from this one on
abbrev pub pages_from : Map (List Version) → ℕ → List SignedRoot → List Page
pages_from names number [] = []
pages_from names number (root ∷ roots) = page_of names number root ∷ pages_from names (suc number) roots

module _ (parts : Parts) where
  abbrev pub last_root : SignedRoot
  last_root = final no_root parts.roots

  abbrev pub earlier_of : List Page
  earlier_of = pages_from parts.names 0 (all_but_last parts.roots)

  abbrev pub last_of : Page
  last_of = page_of parts.names (length parts.roots - 1) last_root

  abbrev pub pending_of : Map Binding
  pending_of = chosen (waiting (length parts.roots)) parts.names

-- a page's tree
abbrev pub tree_of : Provider → Page → Contents
tree_of provider page = record { nonce = page.nonce; items = placement provider page.bindings }

-- the parts are those of the book
pub record Keeps (provider : Provider) (parts : Parts) (book : Book) : Type 0 where
  pub begun : 0 < length parts.roots
  pub roots : parts.roots ≡ roots provider book
  pub trees : parts.trees ≡ map (tree_of provider) (pages book)
  pub waiting : parts.waiting ≡ placement provider book.pending
  pub body_hash : parts.body_hash ≡ provider.hash (body_bytes (last_root parts).body)
  pub histories : AreHistories parts.names
  pub numbers : NamesWithin (length parts.roots) parts.names
  pub sound : IsSound (index_of provider) book
