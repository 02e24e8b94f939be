use Rattle.std.proofs.Common.{List, ℕ, inr, subst}
use Rattle.files.specs.Telling.{TellsError}
use Rattle.directoryd.proofs.KeyTexts.{not_taken}
use Rattle.directoryd.proofs.keys.text_at.Goals as goal

pub returns-in-Ok-clause-err : goal.returns-in-Ok-clause-err
returns-in-Ok-clause-err g c = not_taken c.args.kind c.args.path.now _ _ c.keys_text.result (g.E.Write.contents c.args.errors.now) c.keys_text.ensures

pub returns-in-Err-clause-err : goal.returns-in-Err-clause-err
returns-in-Err-clause-err g c =
    inr (c.in-Err.ensures, subst (λ (begins : List ℕ). TellsError begins c.args.path.now (g.E.Write.contents c.args.errors.now) (g.E.Write.contents c.tell_error.new.errors)) c.option.ensures c.tell_error.ensures)
