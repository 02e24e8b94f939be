use Rattle.std.proofs.Common.{rules, ◌≡◌, Some}
use Rattle.auditor.specs.Chains.{IsHeld, chain_of}
use Rattle.auditor.proofs.Holding.{compared-holds, place-holds}
use Rattle.auditor.proofs.auditor.Auditor.compare_root.Goals as goal

pub returns-in_ok-place-in-Some-clause-evidence : goal.returns-in_ok-place-in-Some-clause-evidence
returns-in_ok-place-in-Some-clause-evidence g c =
    let found : chain_of c.args.self.now c.args.provider_key.now ≡ Some c.in-Some.chain.now = search rules in
    let held : IsHeld c.args.provider_key.now c.in-Some.chain.now = rw found at c.chain.ensures.held in
    let place = c.in_ok-place-in-Some.place in
    rw c.tell_compared.ensures (compared-holds g.H.NodeHash.digest_of g.S.Verifier.verified c.in-Some.chain.now c.in-Some.chain.now c.args.root.now c.args.provider_key.now place
    (place-holds g.H.NodeHash.digest_of g.S.Verifier.verified c.in-Some.chain.now c.in-Some.chain.now c.args.root.now c.args.provider_key.now c.place.ensures.chain held c.requires.form place
    c.in_ok-place-in-Some.ensures.place c.in_ok-place-in-Some.ensures.evidence))
