use Rattle.std.proofs.Common.{rules, arith, ◌≡◌, ◌+◌, ◌≤◌, List, [], length, vec_capacity, vec_len, sym, ap, subst, ◌∙◌}
use Rattle.std.specs.List.{AllByRecursion}
use Rattle.rootchain.specs.declared.signed_root.SignedRoot.{SignedRoot}
use Rattle.rootchain.specs.Chains.{IsChain, KeyedRoots}
use Rattle.rootchain.specs.SignedRoots.{IsSignedRoot}
use Rattle.rootchain.specs.TakingLists.{StopsAt, Takes}
use Rattle.rootchain.proofs.TakingLists.{grows-nothing, memory-refused, stop-holds, stop-spelled, taken-off, takes-grows, takes-spelled}
use Rattle.rootchain.proofs.chain.Chain.take_list.Given as given
use Rattle.rootchain.proofs.chain.Chain.take_list.Goals as goal

-- ---- room for the list

-- the chain is the same once it has room
same-at-Ok : (g : given.Over) (c : goal.In-Ok g) → record { key = c.self.inside.key; roots = c.make_room.new.roots.items } ≡ c.args.self.now
same-at-Ok g c = ap (λ (rs : List SignedRoot). record { key = c.self.inside.key; roots = rs }) c.make_room.ensures.items ∙ c.self.view_is

same-at-Err : (g : given.Over) (c : goal.After-truncate g) → record { key = c.self.inside.key; roots = c.make_room.new.roots.items } ≡ c.args.self.now
same-at-Err g c = ap (λ (rs : List SignedRoot). record { key = c.self.inside.key; roots = rs }) c.make_room.ensures.items ∙ c.self.view_is

pub returns-then-not-make_room-clause-refused : goal.returns-then-not-make_room-clause-refused
returns-then-not-make_room-clause-refused g c =
    let full : ¬ (vec_len c.make_room.new.roots + length c.args.list ≤ vec_capacity c.make_room.new.roots) = search rules in
    memory-refused g.H.NodeHash.digest_of g.S.Verifier.verified c.args.self.now c.args.list (omega (arith, full, c.make_room.new.roots.ok))

-- ---- the list is taken

taken : (g : given.Over) (c : goal.In-Ok g) → Takes g.H.NodeHash.digest_of g.S.Verifier.verified c.args.self.now c.args.list c.take_each.new.self
taken g c = subst (λ (chain : KeyedRoots). Takes g.H.NodeHash.digest_of g.S.Verifier.verified chain c.args.list c.take_each.new.self) (same-at-Ok g c) c.in-Ok.ensures.each

pub returns-in-Ok-clause-grows : goal.returns-in-Ok-clause-grows
returns-in-Ok-clause-grows g c = takes-grows g.H.NodeHash.digest_of g.S.Verifier.verified c.args.list c.args.self.now c.take_each.new.self (taken g c)

pub returns-in-Ok-clause-form : goal.returns-in-Ok-clause-form
returns-in-Ok-clause-form g c own all = takes-spelled g.H.NodeHash.digest_of g.S.Verifier.verified c.args.list c.args.self.now c.take_each.new.self own all (taken g c)

-- ---- the list is refused

is : (g : given.Over) (c : goal.After-truncate g) → IsChain g.H.NodeHash.digest_of g.S.Verifier.verified c.args.self.now
is g c = rw (← c.self.view_is) c.self.invariant

stopped : (g : given.Over) (c : goal.After-truncate g) → StopsAt g.H.NodeHash.digest_of g.S.Verifier.verified c.args.self.now c.args.list c.in-Err.why c.take_each.new.self
stopped g c = subst (λ (chain : KeyedRoots). StopsAt g.H.NodeHash.digest_of g.S.Verifier.verified chain c.args.list c.in-Err.why c.take_each.new.self) (same-at-Err g c) c.in-Err.ensures.each

pub returns-in-Err-clause-stays : goal.returns-in-Err-clause-stays
returns-in-Err-clause-stays g c =
    let grown = takes-grows g.H.NodeHash.digest_of g.S.Verifier.verified (stopped g c).0 c.args.self.now c.take_each.new.self (stopped g c).4 in
    let had : c.len-before.result ≡ length c.args.self.now.roots =
    omega (arith, c.len-before.ensures, c.make_room.new.roots.ok.0, ap (λ (chain : KeyedRoots). length chain.roots) (same-at-Err g c)) in
    rw (c.truncate.ensures.items) (taken-off c.args.self.now c.take_each.new.self c.self-2.inside.key c.self-2.inside.roots.items grown.0 c.len-before.result c.self-2.view_is grown.1 had)

pub returns-in-Err-clause-grows : goal.returns-in-Err-clause-grows
returns-in-Err-clause-grows g c = ([], returns-in-Err-clause-stays g c ∙ grows-nothing c.args.self.now)

pub returns-in-Err-clause-evidence : goal.returns-in-Err-clause-evidence
returns-in-Err-clause-evidence g c = stop-holds g.H.NodeHash.digest_of g.S.Verifier.verified c.args.self.now c.args.list c.in-Err.why c.take_each.new.self (is g c) (stopped g c)

pub returns-in-Err-clause-spelled : goal.returns-in-Err-clause-spelled
returns-in-Err-clause-spelled g c own all = stop-spelled g.H.NodeHash.digest_of g.S.Verifier.verified c.args.self.now c.args.list c.in-Err.why c.take_each.new.self (is g c) own all (stopped g c)

pub returns-in-Err-clause-form : goal.returns-in-Err-clause-form
returns-in-Err-clause-form g c own all = subst (λ (chain : KeyedRoots). AllByRecursion IsSignedRoot chain.roots) (sym (returns-in-Err-clause-stays g c)) own
