use Rattle.asking.proofs.asker.Asker.note.Goals as goal

pub returns-clause-notes : goal.returns-clause-notes
returns-clause-notes g c = rw c.chain.ensures.value at c.note.ensures.notes
