use Rattle.std.proofs.Common.{rules, ◌∙◌, ap, refl, sym, Some}
use Rattle.std.proofs.lemmas.Iterator.Splits.{YieldsList-from_lines}
use Rattle.directoryd.specs.KeyFiles.{key_among}
use Rattle.directoryd.proofs.KeyLines.{ended, key_later, key_next, next}
use Rattle.directoryd.proofs.keys.key_in.Goals as goal

pub loop-line-init : goal.loop-line-init
loop-line-init c = (tt, tt, (_, YieldsList-from_lines c.args.file.now (search rules), refl))

pub returns-in-Some-value_of : goal.returns-in-Some-value_of
returns-in-Some-value_of c =
    let kept = c.loop-line.invariant.2 in
    let step = next _ c.next.new.self c.in-Some.line _ kept.1 c.in-Some.ensures.steps in
    ap Some c.in-Some-value_of.ensures.1 ∙ key_next c.args.option.now c.in-Some.line.now _ _ step.2 c.in-Some-value_of.ensures.0 ∙ sym kept.2

pub loop-line-preserved : goal.loop-line-preserved
loop-line-preserved c =
    let kept = c.loop-line.invariant.2 in
    let step = next _ c.next.new.self c.in-Some.line _ kept.1 c.in-Some.ensures.steps in
    (tt, tt, (step.0, step.1, kept.2 ∙ key_later c.args.option.now c.in-Some.line.now _ _ step.2 c.in_default.ensures))

pub returns : goal.returns
returns c =
    let kept = c.loop-line.invariant.2 in
    let none = ended _ c.next.new.self _ kept.1 c.in-None.ensures.steps in
    sym (kept.2 ∙ ap (key_among c.args.option.now) none)
