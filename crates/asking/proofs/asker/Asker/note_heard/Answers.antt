use Rattle.std.proofs.Common.{refl}
use Rattle.asking.specs.Reports.{silent}
use Rattle.asking.proofs.Handed.{tells_silent}
use Rattle.asking.proofs.asker.Asker.note_heard.Goals as goal

pub returns-in-Lookup-clause-notes : goal.returns-in-Lookup-clause-notes
returns-in-Lookup-clause-notes g c = rw c.in-Lookup.is (rw c.deref.ensures.value at c.note_looked.ensures.notes)

pub returns-in-Put-clause-notes : goal.returns-in-Put-clause-notes
returns-in-Put-clause-notes g c = rw c.in-Put.is (silent, (refl, refl), tells_silent c.args.said.now)

pub returns-in-Promise-clause-notes : goal.returns-in-Promise-clause-notes
returns-in-Promise-clause-notes g c = rw c.in-Promise.is (silent, (refl, refl), tells_silent c.args.said.now)

pub returns-in-History-clause-notes : goal.returns-in-History-clause-notes
returns-in-History-clause-notes g c = rw c.in-History.is (silent, (refl, refl), tells_silent c.args.said.now)

pub returns-in-Head-clause-notes : goal.returns-in-Head-clause-notes
returns-in-Head-clause-notes g c = rw c.in-Head.is (silent, (refl, refl), tells_silent c.args.said.now)

pub returns-in-Turn-clause-notes : goal.returns-in-Turn-clause-notes
returns-in-Turn-clause-notes g c = rw c.in-Turn.is (silent, (refl, refl), tells_silent c.args.said.now)
