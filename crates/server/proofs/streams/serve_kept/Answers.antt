use Rattle.std.proofs.Common.{Ok, Err, ap, refl, inr}
use Rattle.std.proofs.KnownBytes.{Keeps-refl}
use Rattle.server.proofs.Behind.{told, undone, unopened}
use Rattle.server.proofs.streams.serve_kept.Goals as goal

pub returns-in-Err-clause-serves : goal.returns-in-Err-clause-serves
returns-in-Err-clause-serves g c =
    inr (c.in_ok-keys.keys, c.in_ok-keys.ensures, unopened c.in_ok-keys.keys c.args.path.now _ _ c.in-Err.fault _ _ c.in-Err.ensures.err (Keeps-refl _, Keeps-refl _))

pub returns-in-Err-open_journal-clause-serves : goal.returns-in-Err-open_journal-clause-serves
returns-in-Err-open_journal-clause-serves g c =
    rw (← c.in-Ok.ensures.still) (inr (c.in_ok-keys.keys, c.in_ok-keys.ensures, undone c.in_ok-keys.keys c.args.path.now _ _ c.in-Err-open_journal.fault _ _ c.in-Err-open_journal.ensures.err (Keeps-refl _, Keeps-refl _)))

pub returns-clause-serves : goal.returns-clause-serves
returns-clause-serves g c =
    rw (← c.in-Ok.ensures.still) (inr (
      c.in_ok-keys.keys,
      c.in_ok-keys.ensures,
      told c.in_ok-keys.keys c.args.path.now c.in-Ok-open_journal.hub.service _ _ _ _ _ _ (c.in-Ok-open_journal.ensures.ok.1, c.in-Ok-open_journal.ensures.ok.2, c.in-Ok-open_journal.ensures.ok.3, c.in-Ok-open_journal.ensures.ok.4)
          (c.tell_why.ensures, Err c.in-Err-serve_on.why, _, ap Err c.from-fault.ensures, c.in-Err-serve_on.ensures.serves),
    ))

pub returns-in-Ok-serve_on-clause-serves : goal.returns-in-Ok-serve_on-clause-serves
returns-in-Ok-serve_on-clause-serves g c =
    rw (← c.in-Ok.ensures.still) (inr (
      c.in_ok-keys.keys,
      c.in_ok-keys.ensures,
      told c.in_ok-keys.keys c.args.path.now c.in-Ok-open_journal.hub.service _ _ _ _ _ _ (c.in-Ok-open_journal.ensures.ok.1, c.in-Ok-open_journal.ensures.ok.2, c.in-Ok-open_journal.ensures.ok.3, c.in-Ok-open_journal.ensures.ok.4) (Keeps-refl _, Ok tt, _, refl, c.in-Ok-serve_on.ensures.serves),
    ))
