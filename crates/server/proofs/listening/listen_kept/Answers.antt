use Rattle.std.proofs.Common.{inr}
use Rattle.server.proofs.Behind.{told, undone, unopened}
use Rattle.server.proofs.listening.listen_kept.Goals as goal

pub returns-in-Err-clause-tells : goal.returns-in-Err-clause-tells
returns-in-Err-clause-tells g c = inr (c.in_ok-keys.keys, c.in_ok-keys.ensures, unopened c.in_ok-keys.keys c.args.path.now _ _ c.in-Err.fault _ _ c.in-Err.ensures.err tt)

pub returns-in-Err-open_journal-clause-tells : goal.returns-in-Err-open_journal-clause-tells
returns-in-Err-open_journal-clause-tells g c =
    rw (← c.in-Ok.ensures.still) (inr (c.in_ok-keys.keys, c.in_ok-keys.ensures, undone c.in_ok-keys.keys c.args.path.now _ _ c.in-Err-open_journal.fault _ _ c.in-Err-open_journal.ensures.err tt))

pub returns-clause-tells : goal.returns-clause-tells
returns-clause-tells g c =
    rw (← c.in-Ok.ensures.still) (inr (
      c.in_ok-keys.keys,
      c.in_ok-keys.ensures,
      told c.in_ok-keys.keys c.args.path.now c.in-Ok-open_journal.hub.service _ _ _ _ _ _ (c.in-Ok-open_journal.ensures.ok.1, c.in-Ok-open_journal.ensures.ok.2, c.in-Ok-open_journal.ensures.ok.3, c.in-Ok-open_journal.ensures.ok.4)
          c.listen_from.ensures.tells,
    ))
