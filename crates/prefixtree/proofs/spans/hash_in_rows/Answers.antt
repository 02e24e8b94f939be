use Rattle.std.proofs.Common.{ℕ, ◌-◌, ◌∙◌, length, slice_index_or, add-zero, ap, arith}
use Rattle.std.proofs.lemmas.List.{take_all}
use Rattle.nodehash.specs.Digests.{after_digests}
use Rattle.prefixtree.specs.Node.{node, node_count}
use Rattle.prefixtree.proofs.spans.hash_in_rows.Goals as goal

pub index-requires : goal.index-requires
index-requires g c = omega (arith, ap length c.in_ok-hashes.ensures.hashes)

pub returns-clause-node : goal.returns-clause-node
returns-clause-node g c =
    let at = node g.H.NodeHash.digest_of c.args.nonce.now in
    c.index.ensures ∙ ap (λ l. slice_index_or l 0 c.index.result.now) c.in_ok-hashes.ensures.hashes
    ∙ ap (λ site. at site.0 (256 - c.args.level) site.1) c.span_of-span.ensures.site
    ∙ ap (at c.args.prefix.now (256 - c.args.level)) (take_all (length c.args.items.now) c.args.items.now (omega arith))

pub returns-in_err-hashes-clause-work : goal.returns-in_err-hashes-clause-work
returns-in_err-hashes-clause-work g c =
    let whole = ap (λ site. node_count (256 - c.args.level) site.1) c.span_of-span.ensures.site
    ∙ ap (node_count (256 - c.args.level)) (take_all (length c.args.items.now) c.args.items.now (omega arith)) in
    omega (arith, c.hash_row.ensures.work, whole)

pub returns-clause-work : goal.returns-clause-work
returns-clause-work g c =
    let whole = ap (λ site. node_count (256 - c.args.level) site.1) c.span_of-span.ensures.site
    ∙ ap (node_count (256 - c.args.level)) (take_all (length c.args.items.now) c.args.items.now (omega arith)) in
    omega (arith, c.hash_row.ensures.work, whole)

pub returns-clause-exact : goal.returns-clause-exact
returns-clause-exact g c =
    let whole = ap (λ site. node_count (256 - c.args.level) site.1) c.span_of-span.ensures.site
    ∙ ap (node_count (256 - c.args.level)) (take_all (length c.args.items.now) c.args.items.now (omega arith)) in
    c.in_ok-hashes.ensures.exact ∙ ap (λ (n : ℕ). after_digests n (g.H.NodeHash.digests c.args.hash.now)) (add-zero _ ∙ whole)
