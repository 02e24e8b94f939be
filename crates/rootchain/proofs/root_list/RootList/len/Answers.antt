use Rattle.std.proofs.Common.{List, length, sym, ap, ◌∙◌}
use Rattle.rootchain.specs.declared.signed_root.SignedRoot.{SignedRoot}
use Rattle.rootchain.proofs.RootLists.{listed_many}
use Rattle.rootchain.proofs.root_list.RootList.len.Goals as goal

pub returns : goal.returns
returns c = sym (listed_many c.self.inside.left c.self.inside.cursor c.self.invariant) ∙ ap (λ (roots : List SignedRoot). length roots) c.self.view_is
