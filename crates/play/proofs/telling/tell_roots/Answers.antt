use Rattle.std.proofs.Transfers.{starts_with_trans}
use Rattle.play.proofs.telling.tell_roots.Goals as goal

pub returns-in_err-push_numbered-clause-grows : goal.returns-in_err-push_numbered-clause-grows
returns-in_err-push_numbered-clause-grows c = starts_with_trans _ _ _ c.in_err-push_numbered.ensures.grows c.loop.invariant.2
