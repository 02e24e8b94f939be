use Rattle.std.proofs.Common.{arith, ◌≡◌, ℕ, ◌∷◌, List, [], ◌-◌, sym, ap, subst, ◌∙◌}
use Rattle.encoding.proofs.Fields.{ok_is, refused_read}
use Rattle.rootchain.specs.declared.signed_root.SignedRoot.{SignedRoot}
use Rattle.rootchain.specs.RootLists.{roots_in, IsListed}
use Rattle.rootchain.proofs.RootLists.{listed_none, listed_some}
use Rattle.rootchain.proofs.root_list.RootList.next.Goals as goal

pub returns-then-self-eq0 : goal.returns-then-self-eq0
returns-then-self-eq0 c =
    let N : ℕ → Type 0 = λ n. roots_in n c.self.inside.cursor ≡ [] in
    let none : c.args.self.now ≡ [] = sym c.self.view_is ∙ subst N (sym c.if-self-eq0.true) (listed_none c.self.inside.cursor) in
    (none, none)

pub unreachable-requires : goal.unreachable-requires
unreachable-requires c =
    let some = listed_some c.self.inside.left (c.self.inside.left - 1) c.self.inside.cursor (omega (arith, c.if-self-eq0.false)) c.self.invariant in
    refused_read _ _ (sym c.in_default.ensures.read ∙ some.2)

pub invariant_of-self : goal.invariant_of-self
invariant_of-self c =
    let some = listed_some c.self.inside.left (c.self.inside.left - 1) c.self.inside.cursor (omega (arith, c.if-self-eq0.false)) c.self.invariant in
    let same = ok_is _ _ (sym some.2 ∙ c.in-Ok.ensures.read) in
    let R : List ℕ → Type 0 = λ rest. IsListed (c.self.inside.left - 1) rest in
    subst R (ap (λ (z : SignedRoot × List ℕ). z.1) same) some.3

pub returns : goal.returns
returns c =
    let some = listed_some c.self.inside.left (c.self.inside.left - 1) c.self.inside.cursor (omega (arith, c.if-self-eq0.false)) c.self.invariant in
    let same = ok_is _ _ (sym some.2 ∙ c.in-Ok.ensures.read) in
    sym c.self.view_is ∙ some.4 ∙ ap (λ (z : SignedRoot × List ℕ). z.0 ∷ roots_in (c.self.inside.left - 1) z.1) same
