use Rattle.std.proofs.Common.{rules, ◌≡◌, false, None, Err, ap, refl}
use Rattle.server.specs.Programs.{KeptDesk}
use Rattle.server.proofs.Behind.{reopened, untold}
use Rattle.server.proofs.opening.open_journal.Goals as goal

pub returns-in_err-tell_journal-clause-err : goal.returns-in_err-tell_journal-clause-err
returns-in_err-tell_journal-clause-err g c =
    let passed : c.from_residual-in_err-tell_journal.result ≡ Err c.in_err-tell_journal.field-0.0 = search rules in
    let desk : KeptDesk = record { directory = c.in_ok-directory.field-0.directory; keeper = record { writer = c.reopen_told.new.file; is_broken = false }; token = c.args.keys.now.token } in
    rw passed (untold c.args.keys.now c.args.path.now desk _ _ c.in_ok-directory.field-0.records c.in_ok-directory.field-0.cut _
    (reopened c.args.keys.now c.in_ok-directory.field-0.directory desk.keeper None None _ _ _ desk c.in_ok-directory.ensures.opens refl refl refl) (rw (← c.in_ok-directory.ensures.still) c.in_err-tell_journal.ensures.err))

pub returns-clause-ok : goal.returns-clause-ok
returns-clause-ok g c = (
  ap (λ h. h.sessions) c.new-2.ensures,
  c.in_ok-directory.field-0.records,
  c.in_ok-directory.field-0.cut,
  reopened c.args.keys.now c.in_ok-directory.field-0.directory c.new.result None None _ _ c.token.result c.new-2.result.service c.in_ok-directory.ensures.opens
      (ap (λ j. j.is_broken) c.new.ensures) (ap (λ h. h.service) c.new-2.ensures) c.token.ensures,
  rw (← c.in_ok-directory.ensures.still) c.in_ok-tell_journal.ensures.ok,
)
