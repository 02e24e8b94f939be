use Rattle.std.proofs.Common.{subst, rules}
use Rattle.std.specs.Prelude.{◌≡◌, false}
use Rattle.connections.specs.Telling.{TellsLines}
use Rattle.connections.proofs.Wanting.{unkept_more}
use Rattle.connections.proofs.rounds.tell_unkept.Goals as goal

pub returns-clause-lines : goal.returns-clause-lines
returns-clause-lines g c = λ every count start lines.
    let before : c.args.was_told ≡ false = search rules in
    unkept_more every count start _ _ c.write_text-told.result (subst (λ told. TellsLines every told count start (g.E.Write.contents c.args.errors.now)) before lines) (c.write_text-told.ensures.ok, c.write_text-told.ensures.err)
