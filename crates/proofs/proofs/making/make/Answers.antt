use Rattle.proofs.proofs.making.make.Goals as goal

pub returns-clause-form : goal.returns-clause-form
returns-clause-form c = λ after. (c.write.ensures.form after, c.bytes-2.ensures.limits, c.push_end.ensures.form, rw (← c.as_slice.ensures.value) c.push_siblings.ensures.form)
