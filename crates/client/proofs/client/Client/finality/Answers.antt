use Rattle.std.proofs.Common.{rules, ◌≡◌, List, None, ap, subst}
use Rattle.client.specs.Clients.{Client, Look}
use Rattle.client.specs.Finality.{look_of, looks_for, IsChangedBy, IsFirstChange, NoneStandSo}
use Rattle.proofs.specs.BrokenFinals.{IsBrokenFinal}
use Rattle.client.proofs.Changed.{first-changed, is-broken, none-changed, root-there}
use Rattle.client.proofs.client.Client.finality.Goals as goal

pub returns-in_err-reply-clause-found : goal.returns-in_err-reply-clause-found
returns-in_err-reply-clause-found g c =
    let passed : c.from_residual-in_err-reply.result ≡ None = search rules in
    let looks-same : c.self.inside.looks ≡ c.args.self.now.looks = ap (λ (client : Client). client.looks) c.self.view_is in
    rw passed
    (subst (λ (looks : List Look). NoneStandSo (IsChangedBy g.H.NodeHash.digest_of) (looks_for c.args.name.now looks)) looks-same
    (none-changed g.H.NodeHash.digest_of c.args.name.now c.in_ok-replies.replies.now c.in_ok-replies.ensures.indexed c.self.inside.looks c.in_ok-replies.ensures.looks c.in_err-reply.ensures))

pub broken_final-requires-clause-rooted : goal.broken_final-requires-clause-rooted
broken_final-requires-clause-rooted g c =
    let first = c.in_ok-reply.ensures in
    root-there g.H.NodeHash.digest_of c.args.name.now c.in_ok-replies.replies.now c.in_ok-replies.ensures.indexed c.self.inside.looks c.in_ok-replies.ensures.looks g.V.VufCheck.accepted g.S.Verifier.verified c.self.inside.chain c.self.invariant.looks first.i c.in_ok-reply.reply.now first.at-one

pub broken_final-requires-clause-later_rooted : goal.broken_final-requires-clause-later_rooted
broken_final-requires-clause-later_rooted g c =
    let first = c.in_ok-reply.ensures in
    root-there g.H.NodeHash.digest_of c.args.name.now c.in_ok-replies.replies.now c.in_ok-replies.ensures.indexed c.self.inside.looks c.in_ok-replies.ensures.looks g.V.VufCheck.accepted g.S.Verifier.verified c.self.inside.chain c.self.invariant.looks first.j c.in_ok-reply.later.now first.at-other

pub returns-clause-found : goal.returns-clause-found
returns-clause-found g c =
    let first = c.in_ok-reply.ensures in
    subst (λ (client : Client). IsFirstChange g.H.NodeHash.digest_of client c.args.name.now c.broken_final.result) c.self.view_is
    (record {
      look = look_of c.args.name.now c.in_ok-reply.reply.now;
      later = look_of c.args.name.now c.in_ok-reply.later.now;
      first = first-changed g.H.NodeHash.digest_of c.args.name.now c.in_ok-replies.replies.now c.in_ok-replies.ensures.indexed c.self.inside.looks c.in_ok-replies.ensures.looks c.in_ok-reply.reply.now c.in_ok-reply.later.now first;
      named = c.broken_final.ensures.named;
      rooted = c.broken_final.ensures.rooted;
      proof = c.broken_final.ensures.proof;
      later_rooted = c.broken_final.ensures.later_rooted;
      later_proof = c.broken_final.ensures.later_proof;
    })

pub returns-clause-evidence : goal.returns-clause-evidence
returns-clause-evidence g c =
    let first = c.in_ok-reply.ensures in
    subst (λ (client : Client). IsBrokenFinal g.H.NodeHash.digest_of g.V.VufCheck.accepted g.S.Verifier.verified client.chain.key c.broken_final.result) c.self.view_is
    (is-broken g.H.NodeHash.digest_of c.args.name.now c.in_ok-replies.replies.now c.in_ok-replies.ensures.indexed c.self.inside.looks c.in_ok-replies.ensures.looks g.V.VufCheck.accepted g.S.Verifier.verified c.self.inside.chain c.self.invariant.looks c.head.ensures.chain c.in_ok-reply.reply.now c.in_ok-reply.later.now first c.broken_final.result c.broken_final.ensures.named c.broken_final.ensures.rooted c.broken_final.ensures.proof c.broken_final.ensures.later_rooted c.broken_final.ensures.later_proof)
