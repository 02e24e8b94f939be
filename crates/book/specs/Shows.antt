-- What of a book a reply shows: signed roots, signed promises and proofs (CONIKS, sections 3 and 4).
use Rattle.std.specs.Prelude.{◌≡◌, ℕ, List, [], ◌∷◌, Option, Some, None, Contains, map, replicate}
use Rattle.commit.specs.Commitments.{commitment_bytes}
use Rattle.prefixtree.specs.Node.{root_of}
use Rattle.prefixtree.specs.Paths.{IsPath}
use Rattle.prefixtree.specs.Placement.{Items, put_all}
use Rattle.prefixtree.specs.declared.path.End.{End as PathEnd}
use Rattle.prefixtree.specs.declared.path.End.TheVariants as path
use Rattle.rootchain.specs.Bodies.{body_bytes}
use Rattle.rootchain.specs.Promises.{promise_bytes}
use Rattle.rootchain.specs.declared.body.Body.{Body}
use Rattle.rootchain.specs.declared.promise.Promise.{Promise}
use Rattle.rootchain.specs.declared.signed_promise.SignedPromise.{SignedPromise}
use Rattle.rootchain.specs.declared.signed_root.SignedRoot.{SignedRoot}
use Rattle.proofs.specs.Replies.{End, Present, Empty, Other, reply_bytes}
use Rattle.book.specs.Books.{Binding, Book, Page, pages}
use Rattle.encoding.specs.Maps.{Map}

-- a page and its signed root
pub record SignedPage : Type 0 where
  pub page : Page
  pub root : SignedRoot

-- the functions of a provider: its hash function, the value of a name and the public key that accepts it,
-- and the signature of a message
pub record Provider : Type 0 where
  pub hash : List ℕ → List ℕ
  pub value : List ℕ → List ℕ
  pub vuf_key : List ℕ
  pub sign : List ℕ → List ℕ

-- the provider of these functions, under its two public keys
abbrev pub keyed_provider : (List ℕ → List ℕ) → (List ℕ → List ℕ → List ℕ) → List ℕ → (List ℕ → List ℕ → List ℕ) → List ℕ → Provider
keyed_provider digest_of value_of vuf_key signature_of key = record { hash = digest_of; value = value_of vuf_key; vuf_key = vuf_key; sign = signature_of key }

-- the end of a path, opened where the page has the name. A leaf of the name's index that is another
-- name's is told as that very leaf. (In a sound book no page has two names of one index, so that the leaf
-- of a name that the page has is its own.)
abbrev pub reply_end : List ℕ → Option Binding → PathEnd → End
reply_end index (Some binding) (path.Present commitment) = Present binding.salt binding.key
reply_end index None (path.Present commitment) = Other index commitment
reply_end index found path.Empty = Empty
reply_end index found (path.Other other commitment) = Other other commitment

module _ (provider : Provider) where
  -- the hash of the name's value (CONIKS, section 3: private index)
  abbrev pub index_of : List ℕ → List ℕ
  index_of name = provider.hash (provider.value name)

  -- each name's index, and the commitment to its salt and key, with its policy if it has one (CONIKS, section 3: leaf
  -- nodes of the Merkle prefix tree)
  abbrev pub placement : Map Binding → Items
  placement bindings =
      put_all [] (map (λ entry. (index_of entry.0, provider.hash (commitment_bytes entry.1.salt entry.0 entry.1.key))) bindings)

  -- the body of a page, behind that of this epoch and hash (CONIKS, section 3: what a signed tree root signs)
  abbrev pub body_behind : ℕ → List ℕ → Page → Body
  body_behind previous_epoch previous_hash page = record {
    epoch = page.epoch;
    previous_epoch = previous_epoch;
    root = root_of provider.hash page.nonce (placement page.bindings);
    previous_hash = previous_hash;
    nonce = page.nonce;
    vuf_key = provider.vuf_key;
  }

  -- the body with its signature (CONIKS, section 3: signed tree root, STR)
  abbrev pub signed : Body → SignedRoot
  signed body = record { body = body; signature = provider.sign (body_bytes body) }

  -- pages with their signed roots, each behind the one before; before the first is one of this epoch
  -- and hash
  abbrev pub sealed_behind : ℕ → List ℕ → List Page → List SignedPage
  sealed_behind previous_epoch previous_hash [] = []
  sealed_behind previous_epoch previous_hash (page ∷ more) =
      record { page = page; root = signed (body_behind previous_epoch previous_hash page) }
      ∷ sealed_behind page.epoch (provider.hash (body_bytes (body_behind previous_epoch previous_hash page))) more

  -- the pages of a book with their signed roots; before the first is none (CONIKS, section 3: snapshots and their
  -- signed tree roots)
  abbrev pub sealed_pages : Book → List SignedPage
  sealed_pages book = sealed_behind 0 (replicate 32 0) (pages book)

  -- the signed roots of a book (CONIKS, section 3: STR history)
  abbrev pub roots : Book → List SignedRoot
  roots book = map (λ (each : SignedPage). each.root) (sealed_pages book)

  -- the root is that of this page of the book
  abbrev pub IsRootOf : Book → Page → SignedRoot → Type 0
  IsRootOf book page root = Contains (sealed_pages book) (record { page = page; root = root })

  -- the promise, over this body, to bind the key to the name, with its policy if it has one (CONIKS, section 4: what
  -- a temporary binding signs)
  abbrev pub promise : Body → List ℕ → Binding → Promise
  promise body name binding = record {
    epoch = body.epoch;
    body_hash = provider.hash (body_bytes body);
    index = index_of name;
    name = name;
    key = binding.key;
  }

  -- the promise with its signature (CONIKS, section 4: temporary binding)
  abbrev pub signed_promise : Promise → SignedPromise
  signed_promise made = record { promise = made; signature = provider.sign (promise_bytes made) }

  -- the text is the reply under this body, with the page's path of the name, to what was found (CONIKS, section 3:
  -- proof of inclusion or of absence)
  pub record IsReplyOf (page : Page) (body : Body) (name : List ℕ) (found : Option Binding) (text : List ℕ) : Type 0 where
    pub siblings : List (List ℕ)
    pub end : PathEnd
    pub path : IsPath provider.hash page.nonce (placement page.bindings) (index_of name) siblings end
    pub spelled : text ≡ reply_bytes (record { body = body; value = provider.value name; end = reply_end (index_of name) found end; siblings = siblings })
