use Rattle.std.proofs.Common.{◌≡◌, ℕ, List, Option, ap, rules, subst, sym, ◌<◌, ◌∙◌}
use Rattle.std.specs.Prelude.{unwrap_or}
use Rattle.prefixtree.specs.Contents.{Contents}
use Rattle.rootchain.specs.declared.body.Body.{Body}
use Rattle.book.specs.declared.reply.Reply.TheVariants as reply
use Rattle.book.specs.Books.{Book}
use Rattle.encoding.specs.Maps.{overwritten}
use Rattle.book.specs.Shows.{Provider, placement}
use Rattle.book.specs.Steps.{Last, next_page, with_page}
use Rattle.book.specs.Turns.{Shows}
use Rattle.epochs.specs.Directories.{parts_of, state_of}
use Rattle.epochs.specs.DirectoryStates.{book, provider, DirectoryState}
use Rattle.epochs.specs.Parts.{Keeps, Parts}
use Rattle.epochs.proofs.Closing.{book_same, closed, keeps_same}
use Rattle.epochs.proofs.Parts.{book_of}
use Rattle.epochs.proofs.directory.Directory.turn_page.Given.{Over}
use Rattle.epochs.proofs.directory.Directory.turn_page.Goals.{After-clear}
use Rattle.epochs.proofs.directory.Directory.turn_page.Goals as goal

abbrev by : (g : Over) → DirectoryState g.row.R.Denot → Provider
by g = provider {R = g.row.R.Denot} g.H.NodeHash.digest_of g.V.Vuf.value_of g.S.Signer.signature_of

abbrev the_book : (g : Over) → DirectoryState g.row.R.Denot → Book
the_book g = book {R = g.row.R.Denot} g.R.Rng.stream

-- the tree of the page to come
abbrev tree_to_come : (g : Over) → Option (List ℕ) → DirectoryState g.row.R.Denot → Contents
tree_to_come g nonce kept = record { nonce = unwrap_or nonce kept.last.nonce; items = placement (by g kept) (overwritten kept.last.bindings kept.pending) }

-- the parts with the new page
abbrev with_new : (g : Over) (c : After-clear g) → Parts
with_new g c = record { names = c.self.inside.names.versions; roots = c.add_page.new.roots.items; trees = c.add_page.new.trees.items; waiting = c.clear.new.self; body_hash = c.hash_of-self-inside.result }

made : (g : Over) (c : After-clear g)
    → (let now = book_of (with_new g c) c.self.inside.salt (g.R.Rng.stream c.self.inside.salts) in
    let next = next_page (the_book g c.args.self.now) c.args.epoch c.args.nonce.now in
    ((now ≡ with_page (the_book g c.args.self.now) next) × Shows (by g c.args.self.now) now (Last next) (reply.Last c.signed_root-root.result))
    × Keeps (by g (state_of g.V.Vuf.public_key g.S.Signer.public_key g.H.NodeHash.digests c.self.inside)) (with_new g c) now)
made g c =
    let stands = c.self.view_is ∙ c.next_tree.ensures.stays in
    let the_body : Body = record {
      epoch = c.args.epoch;
      previous_epoch = c.index.result.now.body.epoch;
      root = c.root.result;
      previous_hash = c.self.inside.body_hash;
      nonce = c.nonce_or.result;
      vuf_key = c.public.result;
    } in
    closed _ (parts_of c.self.inside) _ _ c.self.invariant.0 c.args.epoch c.args.nonce.now c.in_ok-tree.tree (c.in_ok-tree.ensures.tree ∙ ap (tree_to_come g c.args.nonce.now) (sym stands)) c.len.result (search rules) c.index.result.now c.index.ensures
    (subst (λ (kept : DirectoryState g.row.R.Denot). kept.last.epoch < c.args.epoch) (sym stands) c.requires) c.ranges.epoch.fits c.nonce_or.ensures.size
    the_body (λ i. record { epoch = c.args.epoch; previous_epoch = c.index.result.now.body.epoch; root = c.root.ensures i; previous_hash = c.self.inside.body_hash; nonce = c.nonce_or.ensures.value i; vuf_key = c.public.ensures i })
    c.signed_root-root.result c.signed_root-root.ensures c.hash_of-self-inside.result (c.hash_of-self-inside.ensures.value ∙ ap g.H.NodeHash.digest_of c.write-text.ensures.value) c.copied.result c.copied.ensures
    c.add_page.new.roots.items c.in-Ok.ensures.1 c.add_page.new.trees.items c.in-Ok.ensures.2 c.clear.new.self c.clear.ensures
    (by g c.args.self.now) (the_book g c.args.self.now) (ap (by g) stands) (ap (the_book g) stands)

pub invariant_of-self : goal.invariant_of-self
invariant_of-self g c = ((made g (goal.at.invariant_of-self g c).After-clear).1, c.self.invariant.1)

pub invariant_of-self-in-Err : goal.invariant_of-self-in-Err
invariant_of-self-in-Err g c = (keeps_same _ (parts_of c.self.inside) _ _ c.self.invariant.0 c.add_page.new.roots.items c.add_page.new.trees.items c.in-Err.ensures.0 c.in-Err.ensures.1, c.self.invariant.1)

pub returns-in-Ok-clause-made : goal.returns-in-Ok-clause-made
returns-in-Ok-clause-made g c =
    let (now, kept) = made g (goal.at.returns-in-Ok-clause-made g c).After-clear in
    (rw (c.copied.ensures, c.signed_root-root.ensures) at c.in-Ok.ensures.0, now.0, now.1)

pub returns-in-Err-clause-made : goal.returns-in-Err-clause-made
returns-in-Err-clause-made g c = (
  book_same _ (parts_of c.self.inside) _ _ c.self.invariant.0 c.add_page.new.roots.items c.add_page.new.trees.items c.in-Err.ensures.0 c.in-Err.ensures.1 ∙ ap (the_book g) (c.self.view_is ∙ c.next_tree.ensures.stays),
  rw (c.copied.ensures, c.signed_root-root.ensures) at c.in-Err.ensures.2,
)
