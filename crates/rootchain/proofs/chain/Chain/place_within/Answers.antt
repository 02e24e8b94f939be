use Rattle.std.proofs.Common.{rules}
use Rattle.rootchain.proofs.Places.{own-facts}
use Rattle.rootchain.proofs.chain.Chain.place_within.Goals as goal

pub returns-then-own-root : goal.returns-then-own-root
returns-then-own-root g c =
    let own = own-facts g.H.NodeHash.digest_of g.S.Verifier.verified c.args.self.now _ c.args.root.now.body.epoch c.not_before.result c.index-roots-not_before.result
    c.roots-roots.ensures.value c.roots-roots.ensures.chain c.not_before.ensures.point c.requires c.index-roots-not_before.is in
    let next = own.1 c.if-own-root.true in
    (next.0, c.copied.ensures, rw c.copied-then-own-root.ensures next.1)

pub returns-then-eq : goal.returns-then-eq
returns-then-eq g c =
    let own = own-facts g.H.NodeHash.digest_of g.S.Verifier.verified c.args.self.now _ c.args.root.now.body.epoch c.not_before.result c.index-roots-not_before.result
    c.roots-roots.ensures.value c.roots-roots.ensures.chain c.not_before.ensures.point c.requires c.index-roots-not_before.is in
    (c.index-roots-not_before.result, (own.0, search rules), search rules)

pub returns-else-eq : goal.returns-else-eq
returns-else-eq g c =
    let own = own-facts g.H.NodeHash.digest_of g.S.Verifier.verified c.args.self.now _ c.args.root.now.body.epoch c.not_before.result c.index-roots-not_before.result
    c.roots-roots.ensures.value c.roots-roots.ensures.chain c.not_before.ensures.point c.requires c.index-roots-not_before.is in
    rw c.copied-else-eq.ensures ((own.0, search rules), search rules, c.copied-else-eq-2.ensures)
