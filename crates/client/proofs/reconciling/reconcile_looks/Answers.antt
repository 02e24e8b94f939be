use Rattle.std.proofs.Common.{inl, inr, subst, ◌∙◌, arith}
use Rattle.proofs.specs.Comparisons.{Answers}
use Rattle.proofs.specs.declared.comparing.SameOr.{SameOr}
use Rattle.proofs.specs.declared.comparing.SameOr.TheVariants.{Collision, TwoValues}
use Rattle.client.proofs.Telling.{compared, first-named, first-once, not-same, second-once, spelled-looks, told}
use Rattle.client.proofs.reconciling.reconcile_looks.Goals as goal

pub first_unlike-requires-clause-ones : goal.first_unlike-requires-clause-ones
first_unlike-requires-clause-ones g c = rw c.looks.ensures.value (spelled-looks g.H.NodeHash.digest_of g.V.VufCheck.accepted c.args.one.now.chain c.args.one.now.looks c.looks.ensures.sound.looks)

pub first_unlike-requires-clause-others : goal.first_unlike-requires-clause-others
first_unlike-requires-clause-others g c = rw c.looks-2.ensures.value (spelled-looks g.H.NodeHash.digest_of g.V.VufCheck.accepted c.args.other.now.chain c.args.other.now.looks c.looks-2.ensures.sound.looks)

pub again-first-requires : goal.again-first-requires
again-first-requires g c =
    let u = rw (c.looks.ensures.value, c.looks-2.ensures.value) at c.in-Some.ensures in
    first-once g.H.NodeHash.digest_of g.V.VufCheck.accepted c.args.one.now.chain c.args.other.now.chain c.args.one.now.looks c.args.other.now.looks c.looks.ensures.sound.looks c.looks-2.ensures.sound.looks u.0 u.1 u.2 c.in-Ok.name c.in-Some.unlike.one.now (c.in-Ok.ensures.value ∙ u.3) u.4

pub again-second-requires : goal.again-second-requires
again-second-requires g c =
    let u = rw (c.looks.ensures.value, c.looks-2.ensures.value) at c.in-Some.ensures in
    second-once g.H.NodeHash.digest_of g.V.VufCheck.accepted c.args.one.now.chain c.args.other.now.chain c.args.one.now.looks c.args.other.now.looks c.looks.ensures.sound.looks c.looks-2.ensures.sound.looks u.0 u.1 u.2 c.in-Ok.name c.in-Some.unlike.other.now (c.in-Ok.ensures.value ∙ u.3) u.5

pub unreachable-requires : goal.unreachable-requires
unreachable-requires g c =
    let u = rw (c.looks.ensures.value, c.looks-2.ensures.value) at c.in-Some.ensures in
    let named = first-named g.H.NodeHash.digest_of g.V.VufCheck.accepted c.args.one.now.chain c.args.other.now.chain c.args.one.now.looks c.args.other.now.looks c.looks.ensures.sound.looks c.looks-2.ensures.sound.looks u.0 u.1 u.2 c.in-Some.unlike.name.now u.3 in
    let never = c.in_default-new.ensures.limits.1 named in
    absurd cc

pub unreachable-requires-in-Same : goal.unreachable-requires-in-Same
unreachable-requires-in-Same g c =
    let u = rw (c.looks.ensures.value, c.looks-2.ensures.value) at c.in-Some.ensures in
    let answers : SameOr → Type 0 = Answers g.H.NodeHash.digest_of g.V.VufCheck.accepted c.again-first.result c.again-second.result in
    elim c.in-Same.is [
      | inl same ↦ not-same g.H.NodeHash.digest_of g.V.VufCheck.accepted c.args.one.now.chain c.args.other.now.chain c.args.one.now.looks c.args.other.now.looks c.looks.ensures.sound.looks c.looks-2.ensures.sound.looks u.0 u.1 u.2 c.in-Ok.name c.in-Some.unlike.one.now c.in-Some.unlike.other.now (c.in-Ok.ensures.value ∙ u.3) u.4 u.5 c.again-first.result c.again-second.result c.again-first.ensures.named c.again-second.ensures.named c.again-first.ensures.spelled c.again-second.ensures.spelled (subst answers same c.same_or_collision.ensures.answers)
      | inr apart ↦ compared g.H.NodeHash.digest_of g.V.VufCheck.accepted c.args.one.now.chain c.args.other.now.chain c.args.one.now.looks c.args.other.now.looks c.looks.ensures.sound.looks c.looks-2.ensures.sound.looks u.0 u.1 u.2 c.in-Ok.name c.in-Some.unlike.one.now c.in-Some.unlike.other.now (c.in-Ok.ensures.value ∙ u.3) u.4 u.5 c.again-first.result c.again-second.result c.again-first.ensures.named c.again-second.ensures.named c.again-first.ensures.spelled c.again-second.ensures.spelled c.requires (subst answers apart c.same_or_collision.ensures.answers)
    ]

pub returns-in-Collision-clause-reconciled : goal.returns-in-Collision-clause-reconciled
returns-in-Collision-clause-reconciled g c =
    let u = rw (c.looks.ensures.value, c.looks-2.ensures.value) at c.in-Some.ensures in
    told g.H.NodeHash.digest_of g.V.VufCheck.accepted c.args.one.now.chain c.args.other.now.chain c.args.one.now.looks c.args.other.now.looks c.looks.ensures.sound.looks c.looks-2.ensures.sound.looks u.0 u.1 u.2 c.in-Ok.name c.in-Some.unlike.one.now c.in-Some.unlike.other.now (c.in-Ok.ensures.value ∙ u.3) u.4 u.5 c.again-first.result c.again-second.result c.again-first.ensures.named c.again-second.ensures.named c.again-first.ensures.spelled c.again-second.ensures.spelled (Collision c.in-Collision.x c.in-Collision.y) c.in-Collision.ensures.answers

pub returns-in-TwoValues-clause-reconciled : goal.returns-in-TwoValues-clause-reconciled
returns-in-TwoValues-clause-reconciled g c =
    let u = rw (c.looks.ensures.value, c.looks-2.ensures.value) at c.in-Some.ensures in
    told g.H.NodeHash.digest_of g.V.VufCheck.accepted c.args.one.now.chain c.args.other.now.chain c.args.one.now.looks c.args.other.now.looks c.looks.ensures.sound.looks c.looks-2.ensures.sound.looks u.0 u.1 u.2 c.in-Ok.name c.in-Some.unlike.one.now c.in-Some.unlike.other.now (c.in-Ok.ensures.value ∙ u.3) u.4 u.5 c.again-first.result c.again-second.result c.again-first.ensures.named c.again-second.ensures.named c.again-first.ensures.spelled c.again-second.ensures.spelled TwoValues c.in-TwoValues.ensures.answers

pub returns-in_default-clause-reconciled : goal.returns-in_default-clause-reconciled
returns-in_default-clause-reconciled g c = rw (c.looks.ensures.value, c.looks-2.ensures.value) at c.in_default.ensures

pub returns-in-Collision-clause-counted : goal.returns-in-Collision-clause-counted
returns-in-Collision-clause-counted g c =
    omega (arith, c.again-first.ensures.counted, c.again-second.ensures.counted, c.in-Collision.ensures.counted, c.again-first.ensures.spelled.1.3.0, c.again-second.ensures.spelled.1.3.0)

pub returns-in-TwoValues-clause-counted : goal.returns-in-TwoValues-clause-counted
returns-in-TwoValues-clause-counted g c =
    omega (arith, c.again-first.ensures.counted, c.again-second.ensures.counted, c.in-TwoValues.ensures.counted, c.again-first.ensures.spelled.1.3.0, c.again-second.ensures.spelled.1.3.0)
