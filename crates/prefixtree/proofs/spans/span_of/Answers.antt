use Rattle.std.proofs.Common.{◌<◌, length, arith, refl}
use Rattle.prefixtree.specs.Spans.{part}
use Rattle.prefixtree.proofs.Halves.{level-below}
use Rattle.prefixtree.proofs.SpanRows.{length-part, span-halves, span-site}
use Rattle.prefixtree.proofs.spans.span_of.Goals as goal

pub halves-requires-clause-level : goal.halves-requires-clause-level
halves-requires-clause-level c =
    let here = part c.args.items.now c.args.start c.args.count in
    let many : 1 < length here = omega (arith, c.requires.many, length-part c.args.items.now c.args.start c.args.count c.requires.within) in
    level-below c.args.prefix.now c.args.level here c.requires.level many c.requires.under

pub returns-clause-span : goal.returns-clause-span
returns-clause-span c =
    span-halves c.args.items.now c.args.level c.args.start c.args.count c.args.prefix.now c.part.result.now c.halves.result.0.now c.halves.result.1.now _
    c.requires.within c.requires.many c.requires.under c.part.ensures c.halves.ensures.zeros c.halves.ensures.ones c.halves.ensures.whole refl refl refl refl

pub returns-clause-site : goal.returns-clause-site
returns-clause-site c =
    span-site c.args.items.now c.args.level c.args.start c.args.count c.args.prefix.now c.part.result.now c.halves.result.0.now c.halves.result.1.now _
    c.requires.within c.part.ensures c.halves.ensures.whole refl refl refl refl
