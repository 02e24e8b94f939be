use Rattle.nodehash.proofs.TextSizes.{empty_size, leaf_size, interior_size, empty_no_leaf, leaf_no_interior, interior_no_empty}
use Rattle.nodehash.proofs.laws.kinds_of_nodes_differ.Goals as goal

pub returns-clause-empty : goal.returns-clause-empty
returns-clause-empty c text is = (empty_size text is, empty_no_leaf text is)

pub returns-clause-leaf : goal.returns-clause-leaf
returns-clause-leaf c text is = (leaf_size text is, leaf_no_interior text is)

pub returns-clause-interior : goal.returns-clause-interior
returns-clause-interior c text is = (interior_size text is, interior_no_empty text is)
