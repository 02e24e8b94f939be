use Rattle.asking.proofs.Caught.{caught-known, caught-told, refused-only, stays-caught}
use Rattle.runs.proofs.laws.statuses_tell_who_is_caught.Goals as goal

pub returns-clause-known : goal.returns-clause-known
returns-clause-known c = caught-known

pub returns-clause-alarms : goal.returns-clause-alarms
returns-clause-alarms c = caught-told

pub returns-clause-refuses : goal.returns-clause-refuses
returns-clause-refuses c = refused-only

pub returns-clause-stays : goal.returns-clause-stays
returns-clause-stays c = stays-caught
