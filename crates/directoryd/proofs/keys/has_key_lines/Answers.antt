use Rattle.std.proofs.Common.{rules, ◌≡◌, refl, false, true}
use Rattle.std.proofs.lemmas.Iterator.Splits.{YieldsList-from_lines}
use Rattle.directoryd.specs.KeyFiles.{is_key_line}
use Rattle.directoryd.proofs.KeyLines.{all_later, all_next, all_none, ended, next}
use Rattle.directoryd.proofs.keys.has_key_lines.Goals as goal

pub loop-line-init : goal.loop-line-init
loop-line-init c = (tt, tt, (_, YieldsList-from_lines c.args.text.now (search rules), (λ keys. keys), λ keys. keys))

pub returns-then-is_none : goal.returns-then-is_none
returns-then-is_none c =
    let kept = c.loop-line.invariant.2 in
    let step = next _ c.next.new.self c.in-Some.line _ kept.1 c.in-Some.ensures.steps in
    let other : is_key_line c.in-Some.line.now ≡ false = search rules in
    ((λ never. absurd cc), λ keys. let key = (all_later c.in-Some.line.now _ _ step.2 (kept.3 keys)).0 in absurd cc)

pub loop-line-preserved : goal.loop-line-preserved
loop-line-preserved c =
    let kept = c.loop-line.invariant.2 in
    let step = next _ c.next.new.self c.in-Some.line _ kept.1 c.in-Some.ensures.steps in
    let key : is_key_line c.in-Some.line.now ≡ true = search rules in
    (tt, tt, (step.0, step.1, (λ keys. kept.2 (all_next c.in-Some.line.now _ _ step.2 key keys)), λ keys. (all_later c.in-Some.line.now _ _ step.2 (kept.3 keys)).1))

pub returns : goal.returns
returns c =
    let kept = c.loop-line.invariant.2 in
    let none = ended _ c.next.new.self _ kept.1 c.in-None.ensures.steps in
    ((λ _. kept.2 (all_none _ none)), λ _. refl)
