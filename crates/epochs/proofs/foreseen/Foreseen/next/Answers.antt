use Rattle.std.proofs.Common.{rules, ◌≡◌, ◌<◌, ◌∙◌, length, ap, arith}
use Rattle.commit.specs.Commitments.{commitment_bytes}
use Rattle.epochs.proofs.Digested.{digest_at}
use Rattle.epochs.proofs.foreseen.Foreseen.next.Goals as goal

pub returns-then-eq : goal.returns-then-eq
returns-then-eq g c =
    let some : c.self.inside.used < 4 = omega (arith, c.if-self-ge-AT_ONCE.false) in
    let within : c.self.inside.used < length c.self.inside.texts = search rules in
    let same : c.index-self-self.result ≡ commitment_bytes c.args.salt.now c.args.name.now c.args.key.now = search rules in
    digest_at g.H.NodeHash.digest_of c.self.inside.texts c.self.inside.digests c.self.inside.used c.index-self-self.result _ (c.self.invariant some) within c.index-self-self.is
    ∙ ap g.H.NodeHash.digest_of same
