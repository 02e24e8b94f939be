-- What the closing of an epoch rests on.
use Rattle.std.proofs.Common.{◌≡◌, ℕ, ◌<◌, ◌^◌, ◌-◌, List, [], ◌∷◌, ◌++◌, length, Result, Ok, Err, IfOk, refl, sym, ap, subst, ◌∙◌}
use Rattle.std.specs.Prelude.{slice_index_or, unwrap_or, Option, IfSome}
use Rattle.encoding.specs.Bytes.{Is32Bytes}
use Rattle.prefixtree.specs.Contents.{Contents}
use Rattle.prefixtree.specs.Node.{root_of}
use Rattle.prefixtree.specs.Placement.{Items, put_all}
use Rattle.rand_core.specs.Stream.{Stream}
use Rattle.rootchain.specs.Bodies.{body_bytes}
use Rattle.rootchain.specs.declared.body.Body.{Body}
use Rattle.rootchain.specs.declared.signed_root.SignedRoot.{SignedRoot}
use Rattle.book.specs.declared.reply.Reply.TheVariants as reply
use Rattle.book.specs.Steps.{next_page, with_page, Last}
use Rattle.book.specs.Books.{Book, Page}
use Rattle.encoding.specs.Maps.{overwritten}
use Rattle.book.specs.Shows.{Provider, placement, IsRootOf}
use Rattle.book.specs.Turns.{Shows}
use Rattle.epochs.specs.Parts.{Keeps, Parts, last_of, last_root, pending_of}
use Rattle.epochs.proofs.Changing.{last_is, last_tree_is}
use Rattle.epochs.proofs.Keeping.{body_after, book_with_page, items_of_page, items_with, keeps_page, root_of_page, with_root}
use Rattle.epochs.proofs.Parts.{book_of}

module _ (provider : Provider) (parts : Parts) (salt : List ℕ) (left : Stream) (keeps : Keeps provider parts (book_of parts salt left)) where
  -- the last tree with what waits put in is that of the next page
  pub next_tree_is : (nonce : Option (List ℕ)) (tree made : Contents) (len : ℕ) (changes : Items) → len ≡ length parts.trees → tree ≡ slice_index_or parts.trees (len - 1) tree → changes ≡ parts.waiting
      → made ≡ record { nonce = unwrap_or nonce tree.nonce; items = put_all tree.items changes }
      → made ≡ record { nonce = unwrap_or nonce (last_of parts).nonce; items = placement provider (overwritten (last_of parts).bindings (pending_of parts)) }
  next_tree_is nonce tree made len changes long is same made-is =
      let last = last_tree_is provider parts salt left keeps tree len long is in
      made-is ∙ (λ i. record { nonce = unwrap_or nonce (last i).nonce; items = put_all (last i).items (same i) })
      ∙ ap (λ (items : Items). record { nonce = unwrap_or nonce (last_of parts).nonce; items = items }) (items_of_page provider parts salt left keeps 0 nonce)

  pub next_tree_ok : {E : Type 0} (nonce : Option (List ℕ)) (tree : Contents) (len : ℕ) (changes : Items) → len ≡ length parts.trees → tree ≡ slice_index_or parts.trees (len - 1) tree → changes ≡ parts.waiting
      → (made : Result Contents E) → IfOk made (λ t. t ≡ record { nonce = unwrap_or nonce tree.nonce; items = put_all tree.items changes })
      → IfOk made (λ t. t ≡ record { nonce = unwrap_or nonce (last_of parts).nonce; items = placement provider (overwritten (last_of parts).bindings (pending_of parts)) })
  next_tree_ok nonce tree len changes long is same (Ok made) made-is = next_tree_is nonce tree made len changes long is same made-is
  next_tree_ok _ tree len changes long is same (Err e) made-is = tt

  module _ (epoch : ℕ) (nonce : Option (List ℕ)) (tree : Contents) (tree-is : tree ≡ record { nonce = unwrap_or nonce (last_of parts).nonce; items = placement provider (overwritten (last_of parts).bindings (pending_of parts)) })
      (len : ℕ) (long : len ≡ length parts.roots) (last : SignedRoot) (is : last ≡ slice_index_or parts.roots (len - 1) last) (above : (last_of parts).epoch < epoch) (fits : epoch < 2 ^ 64) (sized : IfSome nonce Is32Bytes)
      (body : Body)
      (body-is : body ≡ record { epoch = epoch; previous_epoch = last.body.epoch; root = root_of provider.hash tree.nonce tree.items; previous_hash = parts.body_hash; nonce = unwrap_or nonce last.body.nonce; vuf_key = provider.vuf_key })
      (root : SignedRoot) (root-is : root ≡ record { body = body; signature = provider.sign (body_bytes body) })
      (hash : List ℕ) (hash-is : hash ≡ provider.hash (body_bytes body)) (copy : SignedRoot) (copied : copy ≡ root) (roots : List SignedRoot) (roots-are : roots ≡ parts.roots ++ copy ∷ [])
      (trees : List Contents) (trees-are : trees ≡ parts.trees ++ tree ∷ []) (waiting : Items) (none : waiting ≡ []) where
    abbrev pub parts_closed : Parts
    parts_closed = record { names = parts.names; roots = roots; trees = trees; waiting = waiting; body_hash = hash }

    last-at : last ≡ last_root parts
    last-at = last_is provider parts salt left keeps len long last is

    tree-with : tree ≡ record { nonce = unwrap_or nonce (last_root parts).body.nonce; items = items_with provider parts salt left keeps epoch nonce }
    tree-with = tree-is ∙ ap (λ (items : Items). record { nonce = unwrap_or nonce (last_root parts).body.nonce; items = items }) (sym (items_of_page provider parts salt left keeps epoch nonce))

    body-with : body ≡ body_after provider parts salt left keeps epoch nonce
    body-with = body-is ∙ (λ i. record {
      epoch = epoch;
      previous_epoch = (last-at i).body.epoch;
      root = root_of provider.hash (tree-with i).nonce (tree-with i).items;
      previous_hash = parts.body_hash;
      nonce = unwrap_or nonce (last-at i).body.nonce;
      vuf_key = provider.vuf_key;
    })

    abbrev signed-with : Body → SignedRoot
    signed-with b = record { body = b; signature = provider.sign (body_bytes b) }

    root-with : root ≡ signed-with (body_after provider parts salt left keeps epoch nonce)
    root-with = root-is ∙ ap signed-with body-with

    parts-with : parts_closed ≡ with_root provider parts salt left keeps epoch nonce
    parts-with = λ i. record { names = parts.names; roots = all-roots i; trees = all-trees i; waiting = none i; body_hash = all-hash i }
      where
        all-roots : roots ≡ parts.roots ++ signed-with (body_after provider parts salt left keeps epoch nonce) ∷ []
        all-roots = roots-are ∙ ap (λ (r : SignedRoot). parts.roots ++ r ∷ []) (copied ∙ root-with)

        all-trees : trees ≡ parts.trees ++ record { nonce = unwrap_or nonce (last_root parts).body.nonce; items = items_with provider parts salt left keeps epoch nonce } ∷ []
        all-trees = trees-are ∙ ap (λ (t : Contents). parts.trees ++ t ∷ []) tree-with

        all-hash : hash ≡ provider.hash (body_bytes (body_after provider parts salt left keeps epoch nonce))
        all-hash = hash-is ∙ ap (λ (b : Body). provider.hash (body_bytes b)) body-with

    keeps_closed : Keeps provider parts_closed (book_of parts_closed salt left)
    keeps_closed = subst (λ (p : Parts). Keeps provider p (book_of p salt left)) (sym parts-with) (keeps_page provider parts salt left keeps epoch nonce above fits sized)

    pub book_closed : book_of parts_closed salt left ≡ with_page (book_of parts salt left) (next_page (book_of parts salt left) epoch nonce)
    book_closed = ap (λ (p : Parts). book_of p salt left) parts-with ∙ book_with_page provider parts salt left keeps epoch nonce

    pub root_closed : Shows provider (book_of parts_closed salt left) (Last (next_page (book_of parts salt left) epoch nonce)) (reply.Last root)
    root_closed = (next_page (book_of parts salt left) epoch nonce, refl, shown)
      where
        last-page : last_of parts_closed ≡ next_page (book_of parts salt left) epoch nonce
        last-page = ap (λ (b : Book). b.last) book_closed

        kept-root : IsRootOf provider (book_of parts_closed salt left) (last_of parts_closed) (signed-with (body_after provider parts salt left keeps epoch nonce))
        kept-root =
            subst (λ (p : Parts). IsRootOf provider (book_of p salt left) (last_of p) (signed-with (body_after provider parts salt left keeps epoch nonce))) (sym parts-with)
            (root_of_page provider parts salt left keeps epoch nonce above fits sized)

        shown : IsRootOf provider (book_of parts_closed salt left) (next_page (book_of parts salt left) epoch nonce) root
        shown =
            subst (λ (page : Page). IsRootOf provider (book_of parts_closed salt left) page root) last-page
            (subst (IsRootOf provider (book_of parts_closed salt left) (last_of parts_closed)) (sym root-with) kept-root)

    -- the book has the page more, in words of the provider and the book that a call was handed, and it is kept
    pub closed : (by : Provider) (before : Book) → provider ≡ by → book_of parts salt left ≡ before
        → ((book_of parts_closed salt left ≡ with_page before (next_page before epoch nonce)) × Shows by (book_of parts_closed salt left) (Last (next_page before epoch nonce)) (reply.Last root))
        × Keeps provider parts_closed (book_of parts_closed salt left)
    closed by before same_by same = (
      subst (λ (b : Book). (book_of parts_closed salt left ≡ with_page b (next_page b epoch nonce)) × Shows by (book_of parts_closed salt left) (Last (next_page b epoch nonce)) (reply.Last root)) same
          (book_closed, subst (λ (p : Provider). Shows p (book_of parts_closed salt left) (Last (next_page (book_of parts salt left) epoch nonce)) (reply.Last root)) same_by root_closed),
      keeps_closed,
    )

  -- ---- a page that is not added

  module _ (roots : List SignedRoot) (trees : List Contents) (roots-are : roots ≡ parts.roots) (trees-are : trees ≡ parts.trees) where
    abbrev pub parts_same : Parts
    parts_same = record { names = parts.names; roots = roots; trees = trees; waiting = parts.waiting; body_hash = parts.body_hash }

    same-parts : parts_same ≡ parts
    same-parts = λ i. record { names = parts.names; roots = roots-are i; trees = trees-are i; waiting = parts.waiting; body_hash = parts.body_hash }

    pub keeps_same : Keeps provider parts_same (book_of parts_same salt left)
    keeps_same = subst (λ (p : Parts). Keeps provider p (book_of p salt left)) (sym same-parts) keeps

    pub book_same : book_of parts_same salt left ≡ book_of parts salt left
    book_same = ap (λ (p : Parts). book_of p salt left) same-parts
