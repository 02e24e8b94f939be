use Rattle.audits.proofs.writing.roots.Goals as goal

pub returns : goal.returns
returns c = simp (c.bytes.ensures.value, c.bytes-2.ensures.value, c.write.ensures.value, c.write-2.ensures.value) at c.parts.ensures
