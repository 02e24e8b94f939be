use Rattle.runs.proofs.lateness.last_of.Goals as goal

pub returns-in-Name : goal.returns-in-Name
returns-in-Name g c = rw c.in-Name.is (
  c.began_behind-since.result,
  c.watched_to.result,
  rw (c.deref.ensures.value, c.deref-in-Name.ensures.value) at c.began_behind-since.ensures,
  rw (c.deref-in-Name-2.ensures.value, c.deref-in-Name-3.ensures.value) at c.watched_to.ensures,
  c.last_above.ensures,
)
