use Rattle.std.proofs.Common.{◌∙◌, rules}
use Rattle.epochs.specs.Directories.{parts_of}
use Rattle.epochs.proofs.Closing.{next_tree_ok}
use Rattle.epochs.proofs.Parts.{waiting_is_placement}
use Rattle.epochs.proofs.directory.Directory.next_tree.Goals as goal

pub changed_tree-requires : goal.changed_tree-requires
changed_tree-requires g c = rw (c.deref.ensures.value, c.in_ok-changes.ensures) (waiting_is_placement _ (parts_of c.self.inside) _ _ c.self.invariant.0 g.met.H.NodeHash.digest_size)

pub returns-clause-tree : goal.returns-clause-tree
returns-clause-tree g c =
    rw (← c.self.view_is)
    (next_tree_ok _ (parts_of c.self.inside) _ _ c.self.invariant.0 c.args.nonce.now c.index-last.result.now c.len.result _ (search rules) c.index-last.ensures (c.deref.ensures.value ∙ c.in_ok-changes.ensures) c.changed_tree.result c.changed_tree.ensures.tree)
