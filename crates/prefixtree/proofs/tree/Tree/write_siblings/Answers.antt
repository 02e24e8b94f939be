use Rattle.std.proofs.Common.{rules, ◌≡◌, ◌+◌, ◌++◌, ◌∷◌, ℕ, List, [], length, length-append, ap, arith}
use Rattle.std.proofs.lemmas.List.{flat_map_more}
use Rattle.std.specs.Prelude.{vec_len}
use Rattle.prefixtree.specs.Paths.{sibling}
use Rattle.prefixtree.specs.Walks.{Waypoint}
use Rattle.prefixtree.proofs.Siblings.{hashes-push}
use Rattle.prefixtree.proofs.tree.Tree.write_siblings.Goals as goal

pub loop-sibling-preserved : goal.loop-sibling-preserved
loop-sibling-preserved g c =
    let inv = c.loop-sibling.invariant in
    let hash : List ℕ = c.in-Some.sibling in
    let siblings : List (List ℕ) = inv.siblings in
    let step = rw (c.in-Some.is, inv.walk) at c.step.ensures in
    let level : c.loop-sibling.walk.level ≡ length siblings = ap (λ (w : Waypoint). w.level) inv.walk in
    let further : c.step.new.self.level ≡ length siblings + 1 = ap (λ (w : Waypoint). w.level) step.2 in
    let grown : c.extend_from_slice.new.self.items ≡ c.loop-sibling.output.items ++ hash = search rules in
    let long : vec_len c.extend_from_slice.new.self ≡ vec_len c.loop-sibling.output + 32 = search rules in
    record {
      siblings = siblings ++ hash ∷ [];
      walk = rw (length-append siblings (hash ∷ [])) step.2;
      beside = hashes-push (sibling g.H.NodeHash.digest_of c.args.self.now.nonce c.args.self.now.items c.args.index.now) siblings hash inv.beside step.1;
      written = rw (grown, inv.written) (flat_map_more (λ sibling. sibling) c.args.output.now.items siblings hash);
      room = omega (arith, long, inv.room, step.0, level, further, c.extend_from_slice.ensures.capacity);
      keeps = omega (arith, inv.keeps, c.extend_from_slice.ensures.capacity);
      grown = omega (arith, long, inv.grown, level, further);
    }
