use Rattle.std.proofs.Common.{rules, arith, ◌≡◌, ◌+◌, ◌<◌, ◌≤◌, List, vec_capacity, vec_len, length, sym, ap, subst, ◌∙◌}
use Rattle.rootchain.specs.declared.signed_root.SignedRoot.{SignedRoot}
use Rattle.rootchain.specs.declared.chain.taking_pieces.Outcome.TheVariants.{Refused, Malformed, Taken}
use Rattle.rootchain.specs.Chains.{KeyedRoots}
use Rattle.rootchain.specs.RootLists.{read_root_count}
use Rattle.rootchain.specs.TakingBytes.{TakesRead}
use Rattle.rootchain.proofs.TakingBytes.{bytes-crowded, bytes-malformed, bytes-refused, bytes-taken, bytes-uncounted, read-grows}
use Rattle.rootchain.proofs.TakingLists.{taken-off}
use Rattle.rootchain.proofs.chain.Chain.take_spelled.Given as given
use Rattle.rootchain.proofs.chain.Chain.take_spelled.Goals as goal

-- ---- no root was taken

pub returns-in_default-clause-takes : goal.returns-in_default-clause-takes
returns-in_default-clause-takes g c =
    bytes-uncounted g.H.NodeHash.digest_of g.S.Verifier.verified c.args.self.now c.args.bytes.now _ (ap read_root_count (sym c.new-cursor.ensures) ∙ c.in_default.ensures)

pub returns-then-not-make_room-clause-takes : goal.returns-then-not-make_room-clause-takes
returns-then-not-make_room-clause-takes g c =
    let stays : record { key = c.self.inside.key; roots = c.make_room.new.roots.items } ≡ c.args.self.now =
    ap (λ (rs : List SignedRoot). record { key = c.self.inside.key; roots = rs }) c.make_room.ensures.items ∙ c.self.view_is in
    let full : ¬ (vec_len c.make_room.new.roots + c.in-Ok.count ≤ vec_capacity c.make_room.new.roots) = search rules in
    let some : 0 < c.in-Ok.count = omega (arith, full, c.make_room.new.roots.ok) in
    rw c.refused_if.ensures (bytes-crowded g.H.NodeHash.digest_of g.S.Verifier.verified c.args.self.now c.args.bytes.now c.in-Ok.count c.read_count.new.cursor (λ k. omega (arith, c.type_inv.bytes k))
    (ap read_root_count (sym c.new-cursor.ensures) ∙ c.in-Ok.ensures) some c.has_roots.result c.has_roots.ensures _ stays)

-- ---- the roots are taken

-- the chain is the same once it has room
same-Taken : (g : given.Over) (c : goal.In-Taken g) → record { key = c.self.inside.key; roots = c.make_room.new.roots.items } ≡ c.args.self.now
same-Taken g c = ap (λ (rs : List SignedRoot). record { key = c.self.inside.key; roots = rs }) c.make_room.ensures.items ∙ c.self.view_is

pub returns-in-Taken-clause-takes : goal.returns-in-Taken-clause-takes
returns-in-Taken-clause-takes g c =
    bytes-taken g.H.NodeHash.digest_of g.S.Verifier.verified c.args.self.now c.args.bytes.now c.in-Ok.count c.read_count.new.cursor (λ k. omega (arith, c.type_inv.bytes k))
    (ap read_root_count (sym c.new-cursor.ensures) ∙ c.in-Ok.ensures) c.take_read.new.why c.take_read.new.self
    (subst (λ (chain : KeyedRoots). TakesRead g.H.NodeHash.digest_of g.S.Verifier.verified chain c.in-Ok.count c.read_count.new.cursor Taken c.take_read.new.why c.take_read.new.self) (same-Taken g c) c.in-Taken.ensures.read)

-- ---- those that were taken are taken off again

same-Malformed : (g : given.Over) (c : goal.After-truncate g) → record { key = c.self.inside.key; roots = c.make_room.new.roots.items } ≡ c.args.self.now
same-Malformed g c = ap (λ (rs : List SignedRoot). record { key = c.self.inside.key; roots = rs }) c.make_room.ensures.items ∙ c.self.view_is

pub returns-in-Malformed-clause-takes : goal.returns-in-Malformed-clause-takes
returns-in-Malformed-clause-takes g c =
    let read : TakesRead g.H.NodeHash.digest_of g.S.Verifier.verified c.args.self.now c.in-Ok.count c.read_count.new.cursor Malformed c.take_read.new.why c.take_read.new.self =
    subst (λ (chain : KeyedRoots). TakesRead g.H.NodeHash.digest_of g.S.Verifier.verified chain c.in-Ok.count c.read_count.new.cursor Malformed c.take_read.new.why c.take_read.new.self) (same-Malformed g c) c.in-Malformed.ensures.read in
    let grown = read-grows g.H.NodeHash.digest_of g.S.Verifier.verified c.args.self.now c.in-Ok.count c.read_count.new.cursor Malformed c.take_read.new.why c.take_read.new.self read in
    let had : c.len-before.result ≡ length c.args.self.now.roots = omega (arith, c.len-before.ensures, c.self.inside.roots.ok.0, ap (λ (chain : KeyedRoots). length chain.roots) c.self.view_is) in
    bytes-malformed g.H.NodeHash.digest_of g.S.Verifier.verified c.args.self.now c.args.bytes.now c.in-Ok.count c.read_count.new.cursor (λ k. omega (arith, c.type_inv.bytes k))
    (ap read_root_count (sym c.new-cursor.ensures) ∙ c.in-Ok.ensures) c.take_read.new.why c.take_read.new.self _ read
    (rw (c.truncate.ensures.items) (taken-off c.args.self.now c.take_read.new.self c.self-2.inside.key c.self-2.inside.roots.items grown.0 c.len-before.result c.self-2.view_is grown.1 had))

same-Refused : (g : given.Over) (c : goal.After-truncate-in-Refused g) → record { key = c.self.inside.key; roots = c.make_room.new.roots.items } ≡ c.args.self.now
same-Refused g c = ap (λ (rs : List SignedRoot). record { key = c.self.inside.key; roots = rs }) c.make_room.ensures.items ∙ c.self.view_is

pub returns-in-Refused-clause-takes : goal.returns-in-Refused-clause-takes
returns-in-Refused-clause-takes g c =
    let read : TakesRead g.H.NodeHash.digest_of g.S.Verifier.verified c.args.self.now c.in-Ok.count c.read_count.new.cursor Refused c.take_read.new.why c.take_read.new.self =
    subst (λ (chain : KeyedRoots). TakesRead g.H.NodeHash.digest_of g.S.Verifier.verified chain c.in-Ok.count c.read_count.new.cursor Refused c.take_read.new.why c.take_read.new.self) (same-Refused g c) c.in-Refused.ensures.read in
    let grown = read-grows g.H.NodeHash.digest_of g.S.Verifier.verified c.args.self.now c.in-Ok.count c.read_count.new.cursor Refused c.take_read.new.why c.take_read.new.self read in
    let had : c.len-before.result ≡ length c.args.self.now.roots = omega (arith, c.len-before.ensures, c.self.inside.roots.ok.0, ap (λ (chain : KeyedRoots). length chain.roots) c.self.view_is) in
    bytes-refused g.H.NodeHash.digest_of g.S.Verifier.verified c.args.self.now c.args.bytes.now c.in-Ok.count c.read_count.new.cursor (λ k. omega (arith, c.type_inv.bytes k))
    (ap read_root_count (sym c.new-cursor.ensures) ∙ c.in-Ok.ensures) c.take_read.new.why c.take_read.new.self _ read
    (rw (c.truncate-in-Refused.ensures.items) (taken-off c.args.self.now c.take_read.new.self c.self-2.inside.key c.self-2.inside.roots.items grown.0 c.len-before.result c.self-2.view_is grown.1 had))
