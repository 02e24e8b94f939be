use Rattle.std.proofs.Common.{rules, ◌≡◌, Some}
use Rattle.std.specs.BTreeMap.{is_at}
use Rattle.std.specs.Map.{set_value}
use Rattle.auditor.specs.Chains.{IsHeld, chain_of}
use Rattle.auditor.proofs.Holding.{found-held, result-holds, set-held, taken-held, takes}
use Rattle.auditor.proofs.auditor.Auditor.take.Goals as goal
use Rattle.encoding.specs.Bytes.{bytes_cmp}

pub invariant_of-self : goal.invariant_of-self
invariant_of-self g c =
    let set : (c.get_mut.follows.lender c.take.new.self).entries ≡ set_value (is_at (bytes_cmp c.args.provider_key.now)) c.self.inside.chains.entries c.take.new.self = search rules in
    let found : chain_of c.self.inside.chains.entries c.args.provider_key.now ≡ Some c.in-Some.chain.now = search rules in
    let held : IsHeld c.args.provider_key.now c.in-Some.chain.now = rw found at (found-held c.self.inside.chains.entries c.args.provider_key.now c.self.invariant) in
    rw set (set-held c.self.inside.chains.entries c.args.provider_key.now c.take.new.self c.self.invariant
    (taken-held c.args.provider_key.now c.in-Some.chain.now c.take.new.self c.args.root held c.requires.form c.take.result c.take.ensures.taken c.take.ensures.stays))

pub returns-clause-takes : goal.returns-clause-takes
returns-clause-takes g c =
    let set : (c.get_mut.follows.lender c.take.new.self).entries ≡ set_value (is_at (bytes_cmp c.args.provider_key.now)) c.self.inside.chains.entries c.take.new.self = search rules in
    let found : chain_of c.self.inside.chains.entries c.args.provider_key.now ≡ Some c.in-Some.chain.now = search rules in (
      c.in-Some.chain.now,
      c.take.new.self,
      rw c.self.view_is at found,
      rw c.self.view_is at set,
      takes g.H.NodeHash.digest_of g.S.Verifier.verified c.in-Some.chain.now c.take.new.self c.args.root c.take.result c.take.ensures.verifies c.take.ensures.place c.take.ensures.taken c.take.ensures.refused c.take.ensures.stays,
    )

pub returns-clause-evidence : goal.returns-clause-evidence
returns-clause-evidence g c =
    let found : chain_of c.self.inside.chains.entries c.args.provider_key.now ≡ Some c.in-Some.chain.now = search rules in
    let held : IsHeld c.args.provider_key.now c.in-Some.chain.now = rw found at (found-held c.self.inside.chains.entries c.args.provider_key.now c.self.invariant) in
    result-holds g.H.NodeHash.digest_of g.S.Verifier.verified c.in-Some.chain.now c.take.new.self c.args.root c.args.provider_key.now c.take.ensures.chain held c.requires.form c.take.result c.take.ensures.place c.take.ensures.evidence
