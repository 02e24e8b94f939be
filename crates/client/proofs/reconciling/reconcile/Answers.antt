use Rattle.std.proofs.Common.{refl}
use Rattle.std.proofs.lemmas.List.Elements.{All-from_recursion}
use Rattle.rootchain.specs.SignedRoots.{IsSignedRoot}
use Rattle.rootchain.proofs.Chains.{ascend-linked}
use Rattle.client.proofs.Telling.{agrees, looks-hold, looks-seen, one-body}
use Rattle.client.proofs.reconciling.reconcile.Goals as goal

pub reconcile_looks-requires : goal.reconcile_looks-requires
reconcile_looks-requires g c =
    let chain = rw c.chain-2.ensures.value at c.in-Equal.ensures.also_chain in
    let agree = rw (c.chain.ensures.value, c.chain-2.ensures.value) at c.in-Equal.ensures.equal.0 refl in
    one-body g.H.NodeHash.digest_of c.args.one.now.chain c.args.other.now.chain (ascend-linked g.H.NodeHash.digest_of c.args.other.now.chain.roots chain.linked) agree

pub returns-in-Equal-clause-agree : goal.returns-in-Equal-clause-agree
returns-in-Equal-clause-agree g c =
    let agree = rw (c.chain.ensures.value, c.chain-2.ensures.value) at c.in-Equal.ensures.equal.0 refl in
    let told = agrees g.H.NodeHash.digest_of g.V.VufCheck.accepted c.args.one.now.looks c.args.other.now.looks c.reconcile_looks.result c.reconcile_looks.ensures.reconciled in
    (λ same. record { chains = agree; looks = told.0 same }, λ both. told.1 both.looks)

pub returns-in-Equal-clause-holds : goal.returns-in-Equal-clause-holds
returns-in-Equal-clause-holds g c =
    looks-hold g.H.NodeHash.digest_of g.V.VufCheck.accepted c.args.one.now.looks c.args.other.now.looks g.S.Verifier.verified c.args.one.now.chain.key c.reconcile_looks.result c.reconcile_looks.ensures.reconciled

pub returns-in-Evidence-clause-spelled : goal.returns-in-Evidence-clause-spelled
returns-in-Evidence-clause-spelled g c =
    let form = rw (c.chain.ensures.value, c.chain-2.ensures.value) at c.in-Evidence.ensures.form in
    form (All-from_recursion IsSignedRoot c.args.one.now.chain.roots c.chain.ensures.sound.roots) (All-from_recursion IsSignedRoot c.args.other.now.chain.roots c.chain-2.ensures.sound.roots)

pub returns-in-Equal-clause-seen : goal.returns-in-Equal-clause-seen
returns-in-Equal-clause-seen g c =
    looks-seen g.H.NodeHash.digest_of g.V.VufCheck.accepted c.args.one.now.looks c.args.other.now.looks c.reconcile_looks.result c.reconcile_looks.ensures.reconciled
