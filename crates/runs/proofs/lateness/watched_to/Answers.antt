use Rattle.std.proofs.Common.{inl}
use Rattle.runs.proofs.lateness.watched_to.Goals as goal

pub returns-in-Some : goal.returns-in-Some
returns-in-Some g c = inl c.in-Some.ensures
