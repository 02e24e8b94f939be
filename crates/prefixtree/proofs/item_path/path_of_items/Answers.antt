use borrow.Author.Count.{below_more}
use Rattle.std.proofs.Common.{rules, ◌≡◌, ◌+◌, ◌-◌, ◌<◌, ◌≤◌, ◌∙◌, ℕ, List, [], ◌∷◌, length, length-append, replicate, refl, sym, ap, arith}
use Rattle.encoding.specs.Bits.{cut}
use Rattle.encoding.specs.Bytes.{Is32Bytes}
use Rattle.prefixtree.specs.Node.{node, node_count}
use Rattle.prefixtree.specs.Paths.{agreeing, sibling, EndsAt}
use Rattle.prefixtree.proofs.Built.{cut-root}
use Rattle.prefixtree.proofs.Counts.{node_count-few}
use Rattle.prefixtree.proofs.Halves.{begin-IsUnder, under-root}
use Rattle.prefixtree.proofs.ItemPaths.{below-is, beside-is, beside-under, count-sides, few-at-last}
use Rattle.prefixtree.proofs.Levels.{under-agreeing}
use Rattle.prefixtree.proofs.Siblings.{hashes-push}
use Rattle.prefixtree.proofs.Splits.{agreeing-all}
use Rattle.prefixtree.proofs.item_path.path_of_items.Goals.{else-levels-test, then-levels-test+then-left-le1}
use Rattle.prefixtree.proofs.item_path.path_of_items.Goals as goal

pub levels-init : goal.levels-init
levels-init g c =
    let size : Is32Bytes c.args.index.now = search rules in
    let all = agreeing-all (replicate 32 0) 0 c.args.index.now c.args.items.now (cut-root c.args.index.now size) (begin-IsUnder (replicate 32 0) 0 c.args.items.now (under-root c.args.items.now c.requires)) in
    record {
      left = sym all;
      level = ap length c.new-siblings.ensures;
      beside = λ k p. absurd (omega (arith, ap length c.new-siblings.ensures, p));
      more = λ n p. absurd (omega (arith, p));
      work = omega arith;
    }

pub halves_by_way-requires-clause-under : goal.halves_by_way-requires-clause-under
halves_by_way-requires-clause-under g c =
    let size : Is32Bytes c.args.index.now = search rules in
    (cut c.args.index.now c.levels.level, rw c.levels.invariant.left (under-agreeing c.args.index.now c.levels.level c.args.items.now size.0 c.requires))

pub hash_at-requires-clause-under : goal.hash_at-requires-clause-under
hash_at-requires-clause-under g c =
    let size : Is32Bytes c.args.index.now = search rules in
    let index = c.args.index.now in
    let level = c.levels.level in
    let items = c.args.items.now in
    let less : level < 256 = omega (arith, c.levels-test.true) in
    let beside = beside-is index level items less size.0 c.requires c.levels.left.now c.halves_by_way.result.1.now c.levels.invariant.left c.halves_by_way.ensures.beside in
    rw (c.other_side-prefix.ensures, beside) (beside-under index level items less size.0 c.requires)

pub returns-in_err-hash_at-clause-work : goal.returns-in_err-hash_at-clause-work
returns-in_err-hash_at-clause-work g c =
    let size : Is32Bytes c.args.index.now = search rules in
    let index = c.args.index.now in
    let level = c.levels.level in
    let items = c.args.items.now in
    let less : level < 256 = omega (arith, c.levels-test.true) in
    let beside = beside-is index level items less size.0 c.requires c.levels.left.now c.halves_by_way.result.1.now c.levels.invariant.left c.halves_by_way.ensures.beside in
    let two : 1 < length (agreeing index level items) = omega (arith, c.if-left-le1.false, ap length c.levels.invariant.left) in
    omega (
      arith,
      c.hash_at.ensures.work,
      ap (node_count (256 - (level + 1))) beside,
      c.levels.invariant.work,
      ap (node_count (256 - level)) c.levels.invariant.left,
      count-sides index level items less size.0 c.requires two,
    )

pub levels-preserved : goal.levels-preserved
levels-preserved g c =
    let size : Is32Bytes c.args.index.now = search rules in
    let of = g.H.NodeHash.digest_of in
    let index = c.args.index.now in
    let level = c.levels.level in
    let items = c.args.items.now in
    let inv = c.levels.invariant in
    let less : level < 256 = omega (arith, c.levels-test.true) in
    let below = below-is index level items less size.0 c.requires c.levels.left.now c.halves_by_way.result.0.now inv.left c.halves_by_way.ensures.below in
    let beside = beside-is index level items less size.0 c.requires c.levels.left.now c.halves_by_way.result.1.now inv.left c.halves_by_way.ensures.beside in
    let two : 1 < length (agreeing index level items) = omega (arith, c.if-left-le1.false, ap length inv.left) in
    let hash : List ℕ = c.in_ok-hash_at.field-0 in
    let is : hash ≡ sibling of c.args.nonce.now items index level =
    c.in_ok-hash_at.ensures.node ∙ (λ i. node of c.args.nonce.now (c.other_side-prefix.ensures i) (256 - (level + 1)) (beside i)) in
    record {
      left = below;
      level = rw c.push.ensures.items (length-append c.levels.siblings.items (hash ∷ []) ∙ ap (λ (n : ℕ). n + 1) inv.level);
      beside = rw c.push.ensures.items (hashes-push (sibling of c.args.nonce.now items index) c.levels.siblings.items hash inv.beside (rw inv.level is));
      more = below_more (λ n. 1 < length (agreeing index n items)) level inv.more two;
      work = omega (
        arith,
        c.hash_at.ensures.work,
        ap (node_count (256 - (level + 1))) beside,
        ap (node_count (256 - (level + 1))) below,
        inv.work,
        ap (node_count (256 - level)) inv.left,
        count-sides index level items less size.0 c.requires two,
      );
    }

pub returns-clause-path : goal.returns-clause-path
returns-clause-path g c =
    let size : Is32Bytes c.args.index.now = search rules in
    let few : length (agreeing c.args.index.now c.levels.level c.args.items.now) ≤ 1 = elim c.levels-test.branch [
      | else-levels-test w ↦ few-at-last c.args.index.now c.levels.level c.args.items.now size.0 c.requires (search rules) (search rules)
      | then-levels-test+then-left-le1 w ↦ omega (arith, w.if-left-le1, ap length c.levels.invariant.left)
    ] in
    let ends : EndsAt c.args.index.now c.args.items.now c.levels.level = record { few = few; least = c.levels.invariant.more } in
    record {
      level = rw c.levels.invariant.level ends;
      beside = c.levels.invariant.beside;
      last = c.end_among.ensures ∙ rw (c.levels.invariant.left, c.levels.invariant.level) refl;
    }

pub returns-clause-beside : goal.returns-clause-beside
returns-clause-beside g c =
    let size : Is32Bytes c.args.index.now = search rules in
    let left = agreeing c.args.index.now c.levels.level c.args.items.now in
    let few : length left ≤ 1 = elim c.levels-test.branch [
      | else-levels-test w ↦ few-at-last c.args.index.now c.levels.level c.args.items.now size.0 c.requires (search rules) (search rules)
      | then-levels-test+then-left-le1 w ↦ omega (arith, w.if-left-le1, ap length c.levels.invariant.left)
    ] in
    omega (
      arith,
      c.levels.invariant.work,
      c.levels.invariant.level,
      ap (node_count (256 - c.levels.level)) c.levels.invariant.left,
      node_count-few (256 - c.levels.level) left few,
    )
