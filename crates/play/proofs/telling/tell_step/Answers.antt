use Rattle.std.proofs.Transfers.{starts_with_of_append, starts_with_trans}
use Rattle.play.proofs.telling.tell_step.Goals as goal

pub returns-in_ok-push-in-Alarm-clause-grows : goal.returns-in_ok-push-in-Alarm-clause-grows
returns-in_ok-push-in-Alarm-clause-grows c =
    starts_with_trans _ _ _ c.tell_found.ensures.grows
    (starts_with_trans _ _ _ (starts_with_of_append _ _ _ c.in_ok-push-in-Alarm.ensures.items) c.in_ok-tell_place-in-Alarm.ensures.grows)
