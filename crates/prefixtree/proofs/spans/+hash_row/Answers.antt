use Rattle.std.proofs.Common.{rules, ◌≡◌, List, [], ◌+◌, ◌<◌, ◌≤◌, ◌∙◌, length, map, sym, ap, arith}
use Rattle.std.proofs.lemmas.List.{length-map, nil_from_length}
use Rattle.std.proofs.lemmas.Result.{IfOk-weaker, on_ok_weaker}
use Rattle.nodehash.specs.Digests.{after_digests}
use Rattle.prefixtree.specs.Spans.{many_sites, sides_of, site_count, site_hashes, site_of, Site}
use Rattle.prefixtree.proofs.SpanRows.{after-row, below-256, row-count, row-few, row-hashes, row-many}
use Rattle.prefixtree.proofs.spans.+hash_row.Goals as goal

pub join_row-requires : goal.join_row-requires
join_row-requires g t c =
    let none : length c.in_ok-few.many.items ≡ 0 = search rules in
    record {
      few = ap length c.deref.ensures.value
          ∙ row-few g.H.NodeHash.digest_of c.args.nonce.now c.args.level c.args.items.now c.args.spans.now c.in_ok-few.few.items c.requires.spans c.in_ok-few.ensures.few;
      many = sym none ∙ row-many c.args.level c.args.items.now c.args.spans.now c.in_ok-few.many.items c.requires.spans c.in_ok-few.ensures.many;
    }

pub returns-then-is_empty-clause-hashes : goal.returns-then-is_empty-clause-hashes
returns-then-is_empty-clause-hashes g t c =
    let of = g.H.NodeHash.digest_of in
    let all = c.args.items.now in
    let none : length c.in_ok-few.many.items ≡ 0 = search rules in
    let nil = nil_from_length c.in_ok-few.many.items none in
    let no_site : [] ≡ many_sites (sides_of c.args.level all c.args.spans.now) = sym (ap (map (site_of all)) nil) ∙ c.in_ok-few.ensures.many in
    IfOk-weaker c.join_row.result _ _ (λ hashes made.
    row-hashes of c.args.nonce.now c.args.level all c.args.spans.now c.in_ok-few.few.items [] hashes.items c.requires.level c.requires.spans
    c.in_ok-few.ensures.few (ap (site_hashes of c.args.nonce.now (c.args.level + 1)) no_site) (rw c.deref.ensures.value at made))
    c.join_row.ensures.hashes

pub hash_row-requires : goal.hash_row-requires
hash_row-requires g t c κs within =
    let some : 0 < length c.in_ok-few.many.items = search rules in
    let deeper : c.args.level + 1 ≤ 256 = omega (arith, c.requires.level) in
    let less = below-256 (c.args.level + 1) c.args.items.now c.in_ok-few.many.items deeper c.in_ok-few.ensures.spans some in
    (omega (arith, c.requires.level), (within, (less, rw c.deref-2.ensures.value c.in_ok-few.ensures.spans)))

pub join_row-requires-2 : goal.join_row-requires-2
join_row-requires-2 g t c =
    let all = c.args.items.now in
    let sites : List Site = map (site_of all) c.in_ok-few.many.items in
    record {
      few = ap length c.deref-3.ensures.value
          ∙ row-few g.H.NodeHash.digest_of c.args.nonce.now c.args.level all c.args.spans.now c.in_ok-few.few.items c.requires.spans c.in_ok-few.ensures.few;
      many = ap length (c.deref-4.ensures.value ∙ (rw c.deref-2.ensures.value at c.in_ok-below.ensures.hashes)) ∙ length-map sites _ ∙ length-map c.in_ok-few.many.items (site_of all)
          ∙ row-many c.args.level all c.args.spans.now c.in_ok-few.many.items c.requires.spans c.in_ok-few.ensures.many;
    }

pub returns-clause-hashes : goal.returns-clause-hashes
returns-clause-hashes g t c =
    let of = g.H.NodeHash.digest_of in
    let below : c.in_ok-below.below.items ≡ site_hashes of c.args.nonce.now (c.args.level + 1) (map (site_of c.args.items.now) c.in_ok-few.many.items) =
    rw c.deref-2.ensures.value at c.in_ok-below.ensures.hashes in
    IfOk-weaker c.join_row-2.result _ _ (λ hashes made.
    row-hashes of c.args.nonce.now c.args.level c.args.items.now c.args.spans.now c.in_ok-few.few.items c.in_ok-below.below.items hashes.items c.requires.level c.requires.spans
    c.in_ok-few.ensures.few (below ∙ ap (site_hashes of c.args.nonce.now (c.args.level + 1)) c.in_ok-few.ensures.many)
    (rw (c.deref-3.ensures.value, c.deref-4.ensures.value) at made))
    c.join_row-2.ensures.hashes

pub returns-in_err-few-clause-work : goal.returns-in_err-few-clause-work
returns-in_err-few-clause-work g t c =
    omega (arith, c.hash_few.ensures.work, row-count c.args.nonce.now c.args.level c.args.items.now c.args.spans.now c.requires.level c.requires.spans)

pub returns-then-is_empty-clause-work : goal.returns-then-is_empty-clause-work
returns-then-is_empty-clause-work g t c =
    omega (arith, c.hash_few.ensures.work, c.join_row.ensures.work, row-count c.args.nonce.now c.args.level c.args.items.now c.args.spans.now c.requires.level c.requires.spans)

pub returns-then-is_empty-clause-exact : goal.returns-then-is_empty-clause-exact
returns-then-is_empty-clause-exact g t c =
    let count = g.H.NodeHash.digests in
    let all = c.args.items.now in
    let none : length c.in_ok-few.many.items ≡ 0 = search rules in
    let nil = nil_from_length c.in_ok-few.many.items none in
    let no_site : [] ≡ many_sites (sides_of c.args.level all c.args.spans.now) = sym (ap (map (site_of all)) nil) ∙ c.in_ok-few.ensures.many in
    let low : count c.hash_few.new.hash ≡ after_digests (site_count (c.args.level + 1) (many_sites (sides_of c.args.level all c.args.spans.now))) (count c.hash_few.new.hash) =
    ap (λ (l : List Site). after_digests (site_count (c.args.level + 1) l) (count c.hash_few.new.hash)) no_site in
    on_ok_weaker c.join_row.result (λ (made : count c.join_row.new.hash ≡ after_digests (length c.args.spans.now) (count c.hash_few.new.hash)).
    after-row _ _ _ _ _ _ _ _ (row-count c.args.nonce.now c.args.level all c.args.spans.now c.requires.level c.requires.spans) c.in_ok-few.ensures.exact low made)
    c.join_row.ensures.exact

pub returns-in_err-below-clause-work : goal.returns-in_err-below-clause-work
returns-in_err-below-clause-work g t c =
    omega (
      arith,
      c.hash_few.ensures.work,
      rw c.deref-2.ensures.value at c.hash_row.ensures.work,
      ap (site_count (c.args.level + 1)) c.in_ok-few.ensures.many,
      row-count c.args.nonce.now c.args.level c.args.items.now c.args.spans.now c.requires.level c.requires.spans,
    )

pub returns-clause-work : goal.returns-clause-work
returns-clause-work g t c =
    omega (
      arith,
      c.hash_few.ensures.work,
      rw c.deref-2.ensures.value at c.hash_row.ensures.work,
      c.join_row-2.ensures.work,
      ap (site_count (c.args.level + 1)) c.in_ok-few.ensures.many,
      row-count c.args.nonce.now c.args.level c.args.items.now c.args.spans.now c.requires.level c.requires.spans,
    )

pub returns-clause-exact : goal.returns-clause-exact
returns-clause-exact g t c =
    let count = g.H.NodeHash.digests in
    let low = (rw c.deref-2.ensures.value at c.in_ok-below.ensures.exact)
    ∙ ap (λ (l : List Site). after_digests (site_count (c.args.level + 1) l) (count c.hash_few.new.hash)) c.in_ok-few.ensures.many in
    on_ok_weaker c.join_row-2.result (λ (made : count c.join_row-2.new.hash ≡ after_digests (length c.args.spans.now) (count c.hash_row.new.hash)).
    after-row _ _ _ _ _ _ _ _ (row-count c.args.nonce.now c.args.level c.args.items.now c.args.spans.now c.requires.level c.requires.spans) c.in_ok-few.ensures.exact low made)
    c.join_row-2.ensures.exact
