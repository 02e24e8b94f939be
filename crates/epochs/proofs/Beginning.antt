-- The parts of a directory that begins keep its book.
use Rattle.std.proofs.Common.{◌≡◌, ℕ, List, [], ◌∷◌, ◌++◌, replicate, ap, subst, sym, ◌∙◌}
use Rattle.rand_core.specs.Stream.{Stream}
use Rattle.encoding.specs.Bytes.{Is32Bytes}
use Rattle.prefixtree.specs.Contents.{Contents}
use Rattle.prefixtree.specs.Node.{root_of}
use Rattle.rootchain.specs.Bodies.{body_bytes}
use Rattle.rootchain.specs.Promises.{IsEpoch}
use Rattle.rootchain.specs.declared.body.Body.{Body}
use Rattle.book.specs.Shows.{Provider, signed}
use Rattle.epochs.specs.Parts.{Keeps, Parts}
use Rattle.epochs.proofs.Keeping.{first_body, first_parts, keeps_fresh}
use Rattle.epochs.proofs.Parts.{book_of}

module _ (provider : Provider) (epoch : ℕ) (nonce salt : List ℕ) (left : Stream) where
  -- the tree of the first page, and what its body is made of
  pub record IsFirst (tree : Contents) (root previous_hash vuf_key : List ℕ) : Type 0 where
    pub tree_is : tree ≡ record { nonce = nonce; items = [] }
    pub root_is : root ≡ root_of provider.hash tree.nonce tree.items
    pub hash_is : previous_hash ≡ replicate 32 0
    pub key_is : vuf_key ≡ provider.vuf_key

  abbrev pub body_made : List ℕ → List ℕ → List ℕ → Body
  body_made root previous_hash vuf_key = record { epoch = epoch; previous_epoch = 0; root = root; previous_hash = previous_hash; nonce = nonce; vuf_key = vuf_key }

  -- the parts that are made of them
  pub record IsMade (tree : Contents) (body : Body) (parts : Parts) : Type 0 where
    pub names : parts.names ≡ []
    pub roots : parts.roots ≡ signed provider body ∷ []
    pub trees : parts.trees ≡ tree ∷ []
    pub waiting : parts.waiting ≡ []
    pub body_hash : parts.body_hash ≡ provider.hash (body_bytes body)

  pub keeps_begun : (tree : Contents) (root previous_hash vuf_key : List ℕ) (parts : Parts) → IsFirst tree root previous_hash vuf_key → IsMade tree (body_made root previous_hash vuf_key) parts
      → IsEpoch epoch → Is32Bytes nonce → Is32Bytes salt → Keeps provider parts (book_of parts salt left)
  keeps_begun tree root previous_hash vuf_key parts first made epoch_is size salt_size =
      subst (λ (p : Parts). Keeps provider p (book_of p salt left)) (sym same) (keeps_fresh provider epoch nonce salt left epoch_is size salt_size)
    where
      is : body_made root previous_hash vuf_key ≡ first_body provider epoch nonce salt left
      is = λ i. body_made ((first.root_is ∙ ap (λ (t : Contents). root_of provider.hash t.nonce t.items) first.tree_is) i) (first.hash_is i) (first.key_is i)

      same : parts ≡ first_parts provider epoch nonce salt left
      same = λ i. record {
        names = made.names i;
        roots = (made.roots ∙ ap (λ (b : Body). signed provider b ∷ []) is) i;
        trees = (made.trees ∙ ap (λ (t : Contents). t ∷ []) first.tree_is) i;
        waiting = made.waiting i;
        body_hash = (made.body_hash ∙ ap (λ (b : Body). provider.hash (body_bytes b)) is) i;
      }

-- a list that begins with nothing
pub begun_with : {X : Type 0} (none all : List X) (x made : X) → none ≡ [] → all ≡ none ++ x ∷ [] → x ≡ made → all ≡ made ∷ []
begun_with none all x made empty pushed is = pushed ∙ (λ i. empty i ++ is i ∷ [])
