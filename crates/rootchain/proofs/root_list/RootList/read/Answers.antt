use Rattle.std.proofs.Common.{rules, arith, ap, sym, ◌∙◌}
use Rattle.rootchain.specs.RootLists.{read_root_count}
use Rattle.rootchain.proofs.RootLists.{is_listed, is_spelled, no_count, none_spelled}
use Rattle.rootchain.proofs.root_list.RootList.read.Goals as goal

pub returns-in_default-clause-exact : goal.returns-in_default-clause-exact
returns-in_default-clause-exact c = no_count c.args.bytes.now _ (ap read_root_count (sym c.new-cursor.ensures) ∙ c.in_default.ensures)

pub returns-then-not-has_roots-clause-exact : goal.returns-then-not-has_roots-clause-exact
returns-then-not-has_roots-clause-exact c =
    none_spelled c.args.bytes.now _ _ (ap read_root_count (sym c.new-cursor.ensures) ∙ c.in-Ok.ensures) (λ has. search rules)

pub invariant_of-result : goal.invariant_of-result
invariant_of-result c =
    is_listed c.args.bytes.now _ _ (λ k. omega (arith, c.type_inv.bytes k)) (ap read_root_count (sym c.new-cursor.ensures) ∙ c.in-Ok.ensures) (search rules)

pub returns-clause-exact : goal.returns-clause-exact
returns-clause-exact c =
    is_spelled c.args.bytes.now _ _ (λ k. omega (arith, c.type_inv.bytes k)) (ap read_root_count (sym c.new-cursor.ensures) ∙ c.in-Ok.ensures) (search rules)
