use Rattle.std.proofs.Common.{◌∙◌, ap, option_copied}
use Rattle.rootchain.proofs.Chains.{same-hashes}
use Rattle.client.proofs.Rooted.{no-root-of, root-of}
use Rattle.runs.proofs.lines.has_root_of.Goals as goal

pub returns-in-Some : goal.returns-in-Some
returns-in-Some g c =
    root-of g.H.NodeHash.digest_of c.args.chain.now c.args.promise.now (option_copied c.at.result) c.at.ensures c.in-Some.root.now (ap option_copied c.in-Some.is) c.eq.result
    (same-hashes c.eq.result c.args.promise.now.body_hash c.digest.result _ c.eq.ensures (c.digest.ensures.value ∙ ap g.H.NodeHash.digest_of (c.bytes.ensures.value ∙ c.write.ensures.value)))

pub returns-in-None : goal.returns-in-None
returns-in-None g c = no-root-of g.H.NodeHash.digest_of c.args.chain.now c.args.promise.now (option_copied c.at.result) c.at.ensures (ap option_copied c.in-None.is)
