use Rattle.std.proofs.Common.{◌≡◌, ◌∙◌, inr, refl, subst}
use Rattle.textio.specs.Output.{WritesBeginning}
use Rattle.directoryd.specs.KeyFiles.{complaint_line}
use Rattle.directoryd.proofs.keys.complain.Goals as goal

pub returns-in-Ok : goal.returns-in-Ok
returns-in-Ok g c =
    let line : c.deref.result.now ≡ complaint_line c.args.kind c.args.path.now c.args.what.now = c.deref.ensures.value ∙ c.in-Ok.ensures in
    inr (inr (refl, subst (WritesBeginning _ _) line c.in-Err-write_text.ensures.err.1))
