use Rattle.std.proofs.Common.{rules, ◌≡◌, Some}
use Rattle.directoryd.specs.KeyFiles.{complaint}
use Rattle.directoryd.proofs.KeyTexts.{refused}
use Rattle.directoryd.proofs.keys.text_of_kind.Goals as goal

pub returns-in-Some-clause-err : goal.returns-in-Some-clause-err
returns-in-Some-clause-err g c =
    let bad : complaint c.args.kind c.as_str.result.now ≡ Some c.in-Some.what.now = search rules in
    rw (← c.in_ok-text.ensures.still) (refused c.args.kind c.args.path.now c.as_str.result.now c.in-Some.what.now c.complain.result _ _ (rw c.as_str.ensures.value c.in_ok-text.ensures.ok) bad c.complain.ensures)
