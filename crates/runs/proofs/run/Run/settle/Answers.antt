use Rattle.std.proofs.Common.{◌≡◌, ◌∙◌, ℕ, List, Err, Ok, ap, rules, subst, sym}
use Rattle.runs.specs.Keeping.{SavesTo}
use Rattle.asking.specs.Reports.{report_of}
use Rattle.runs.specs.declared.run_fault.RunFault.TheVariants.{Ask, Program}
use Rattle.runs.proofs.Ended.{leaves_cut, leaves_same, leaves_written}
use Rattle.runs.proofs.Keeping.{kept_up, not_settled, program_not, was_asked}
use Rattle.std.proofs.Common.{◌++◌, [], Option, inl, inr, refl}
use Rattle.std.specs.Prelude.{IfSome}
use Rattle.std.specs.Io.KnownBytes.{Appends}
use Rattle.asking.specs.Reports.{Report}
use Rattle.runs.specs.Saves.{Act}
use Rattle.runs.specs.Standing.{standing, IsUpTo, StateIsKept, StateStands}
use Rattle.runs.specs.declared.state.State.{State}
use Rattle.runs.proofs.RunSteps.{ok_have}
use Rattle.runs.proofs.Written.{memory-cases, saved-kept, state-stands-written, state-written}
use Rattle.textio.specs.declared.program_fault.ProgramFault.{ProgramFault}
use Rattle.textio.specs.declared.program_fault.ProgramFault.TheVariants.{CannotWrite, OutOfMemory}
use Rattle.runs.proofs.run.Run.settle.Goals as goal

pub returns-in_err-explain_stop-clause-leaves : goal.returns-in_err-explain_stop-clause-leaves
returns-in_err-explain_stop-clause-leaves g c =
    leaves_same _ (g.W.Write.contents c.args.writer.now) c.explain_stop.new.self.said (report_of c.args.self.now.said) (c.explain_stop.ensures.said ∙ ap report_of c.add.ensures.said)

pub returns-in_err-write-clause-leaves : goal.returns-in_err-write-clause-leaves
returns-in_err-write-clause-leaves g c =
    let passed : c.from_residual-in_err-write.result ≡ Err (Program c.in_err-write.field-0.0) = search rules in
    let failed : c.from_residual-in_err-write.result ≡ Err (Program CannotWrite) = passed ∙ ap (λ (f : ProgramFault). Err (Program f)) c.in_err-write.ensures.err in
    leaves_cut (c.from_residual-in_err-write.result ≡ Err (Program CannotWrite)) (g.W.Write.contents c.args.writer.now) (g.W.Write.contents c.write.new.writer) c.explain_stop.new.self.said c.write.new.self.said (report_of c.args.self.now.said) failed
    (c.explain_stop.ensures.said ∙ ap report_of c.add.ensures.said) c.write.ensures.some c.write.ensures.emptied c.write.ensures.status

pub returns-in_err-save-clause-leaves : goal.returns-in_err-save-clause-leaves
returns-in_err-save-clause-leaves g c =
    rw c.save.ensures.said (leaves_written _ (g.W.Write.contents c.args.writer.now) (g.W.Write.contents c.write.new.writer) c.explain_stop.new.self.said c.write.new.self.said (report_of c.args.self.now.said)
    (c.explain_stop.ensures.said ∙ ap report_of c.add.ensures.said) c.in_ok-write.ensures.writes.0 c.write.ensures.emptied c.write.ensures.status)

pub returns-in_err-asked-clause-leaves : goal.returns-in_err-asked-clause-leaves
returns-in_err-asked-clause-leaves g c =
    rw c.save.ensures.said (leaves_written _ (g.W.Write.contents c.args.writer.now) (g.W.Write.contents c.write.new.writer) c.explain_stop.new.self.said c.write.new.self.said (report_of c.args.self.now.said)
    (c.explain_stop.ensures.said ∙ ap report_of c.add.ensures.said) c.in_ok-write.ensures.writes.0 c.write.ensures.emptied c.write.ensures.status)

pub returns-clause-leaves : goal.returns-clause-leaves
returns-clause-leaves g c =
    rw c.save.ensures.said (leaves_written _ (g.W.Write.contents c.args.writer.now) (g.W.Write.contents c.write.new.writer) c.explain_stop.new.self.said c.write.new.self.said (report_of c.args.self.now.said)
    (c.explain_stop.ensures.said ∙ ap report_of c.add.ensures.said) c.in_ok-write.ensures.writes.0 c.write.ensures.emptied c.write.ensures.status)

pub returns-in_err-asked-clause-keeps : goal.returns-in_err-asked-clause-keeps
returns-in_err-asked-clause-keeps g c = λ settled.
    let fault = c.in_err-asked.field-0.0 in
    let is : c.args.asked ≡ Err fault = search rules in
    let gives : c.from_residual-in_err-asked.result ≡ Err (Ask fault) = search rules in
    let enough = not_settled c.args.asked c.from_residual-in_err-asked.result fault is gives settled in
    let told = c.deref-2.ensures.value ∙ c.in_ok-told.ensures.items ∙ c.deref.ensures.value in
    let again = c.deref-3.ensures.value ∙ sym c.deref-2.ensures.value in
    let saves = subst (λ (t : List ℕ). SavesTo c.args.asker.now t c.write.new.self.state c.save.new.self.state) again (c.in_ok-save.ensures.saves enough) in
    kept_up c.args.asker.now c.args.self.now.said.text.items c.deref-2.result.now c.args.self.now.state c.add.new.self.state c.write.new.self.state c.save.new.self.state
    told c.in_ok-add.ensures.adds (c.write.ensures.still ∙ c.explain_stop.ensures.still) saves

pub returns-clause-keeps : goal.returns-clause-keeps
returns-clause-keeps g c = λ settled.
    let is : c.args.asked ≡ Ok tt = search rules in
    let told = c.deref-2.ensures.value ∙ c.in_ok-told.ensures.items ∙ c.deref.ensures.value in
    let again = c.deref-3.ensures.value ∙ sym c.deref-2.ensures.value in
    let saves = subst (λ (t : List ℕ). SavesTo c.args.asker.now t c.write.new.self.state c.save.new.self.state) again (c.in_ok-save.ensures.saves (was_asked c.args.asked tt is)) in
    kept_up c.args.asker.now c.args.self.now.said.text.items c.deref-2.result.now c.args.self.now.state c.add.new.self.state c.write.new.self.state c.save.new.self.state
    told c.in_ok-add.ensures.adds (c.write.ensures.still ∙ c.explain_stop.ensures.still) saves

pub returns-in_err-write-clause-kept : goal.returns-in_err-write-clause-kept
returns-in_err-write-clause-kept g c = λ lines key start old acts changes kept enough.
    let client = c.args.asker.now.client in
    let monitors = c.args.asker.now.monitors.items in
    let out = g.W.Write.contents c.args.writer.now in
    let out' = g.W.Write.contents c.write.new.writer in
    let said = c.args.self.now.said.text.items in
    let after : List Act → Type 0 = λ done. g.K.Keeper.has c.add.new.keeper (done ++ acts) in
    let still : c.write.new.self.state ≡ c.add.new.self.state = c.write.ensures.still ∙ c.explain_stop.ensures.still in
    let same : c.explain_stop.new.self.said.text.items ≡ said = ap (λ (r : Report). r.lines) (c.explain_stop.ensures.said ∙ ap report_of c.add.ensures.said) in
    let written = subst (λ (state : Option State). StateIsKept g.H.NodeHash.digest_of g.V.VufCheck.accepted g.S.Verifier.verified lines key start old after state out') (sym still)
    (state-written g.H.NodeHash.digest_of g.V.VufCheck.accepted g.S.Verifier.verified lines key start old after c.add.new.self.state out out' c.explain_stop.new.self.said.text.items c.write.ensures.some (c.add.ensures.kept lines key start old acts changes kept)) in
    written

pub returns-in_err-save-clause-kept : goal.returns-in_err-save-clause-kept
returns-in_err-save-clause-kept g c = λ lines key start old acts changes kept enough.
    let client = c.args.asker.now.client in
    let monitors = c.args.asker.now.monitors.items in
    let out = g.W.Write.contents c.args.writer.now in
    let out' = g.W.Write.contents c.write.new.writer in
    let said = c.args.self.now.said.text.items in
    let after : List Act → Type 0 = λ done. g.K.Keeper.has c.add.new.keeper (done ++ acts) in
    let still : c.write.new.self.state ≡ c.add.new.self.state = c.write.ensures.still ∙ c.explain_stop.ensures.still in
    let same : c.explain_stop.new.self.said.text.items ≡ said = ap (λ (r : Report). r.lines) (c.explain_stop.ensures.said ∙ ap report_of c.add.ensures.said) in
    let written = subst (λ (state : Option State). StateIsKept g.H.NodeHash.digest_of g.V.VufCheck.accepted g.S.Verifier.verified lines key start old after state out') (sym still)
    (state-written g.H.NodeHash.digest_of g.V.VufCheck.accepted g.S.Verifier.verified lines key start old after c.add.new.self.state out out' c.explain_stop.new.self.said.text.items c.write.ensures.some (c.add.ensures.kept lines key start old acts changes kept)) in
    elim (memory-cases c.args.asked) [
      | inl none ↦ let (state, keeper, same) = c.save.ensures.none none in rw (state, keeper) written
      | inr some ↦
          let stood = subst (λ (state : Option State). StateStands g.H.NodeHash.digest_of g.V.VufCheck.accepted g.S.Verifier.verified lines key start old after state out' c.args.asker.now.changes.items (standing client monitors [])) (sym still)
          (state-stands-written g.H.NodeHash.digest_of g.V.VufCheck.accepted g.S.Verifier.verified lines key start old after c.add.new.self.state out out' c.args.asker.now.changes.items client monitors said (subst (λ (t : List ℕ). Appends out out' t) same (c.in_ok-write.ensures.writes.0)) (c.in_ok-add.ensures.stands lines key start old acts said changes (enough some))) in
          let up-to = subst (λ (state : Option State). IfSome state (λ s. IsUpTo client s.epoch)) (sym still) c.in_ok-add.ensures.up_to in
          let saved = c.save.ensures.kept lines key start old acts up-to stood in
          saved.0
    ]

pub returns-in_err-asked-clause-kept : goal.returns-in_err-asked-clause-kept
returns-in_err-asked-clause-kept g c = λ lines key start old acts changes kept enough.
    let client = c.args.asker.now.client in
    let monitors = c.args.asker.now.monitors.items in
    let out = g.W.Write.contents c.args.writer.now in
    let out' = g.W.Write.contents c.write.new.writer in
    let said = c.args.self.now.said.text.items in
    let after : List Act → Type 0 = λ done. g.K.Keeper.has c.add.new.keeper (done ++ acts) in
    let still : c.write.new.self.state ≡ c.add.new.self.state = c.write.ensures.still ∙ c.explain_stop.ensures.still in
    let same : c.explain_stop.new.self.said.text.items ≡ said = ap (λ (r : Report). r.lines) (c.explain_stop.ensures.said ∙ ap report_of c.add.ensures.said) in
    let written = subst (λ (state : Option State). StateIsKept g.H.NodeHash.digest_of g.V.VufCheck.accepted g.S.Verifier.verified lines key start old after state out') (sym still)
    (state-written g.H.NodeHash.digest_of g.V.VufCheck.accepted g.S.Verifier.verified lines key start old after c.add.new.self.state out out' c.explain_stop.new.self.said.text.items c.write.ensures.some (c.add.ensures.kept lines key start old acts changes kept)) in
    elim (memory-cases c.args.asked) [
      | inl none ↦ let (state, keeper, same) = c.save.ensures.none none in rw (state, keeper) written
      | inr some ↦
          let stood = subst (λ (state : Option State). StateStands g.H.NodeHash.digest_of g.V.VufCheck.accepted g.S.Verifier.verified lines key start old after state out' c.args.asker.now.changes.items (standing client monitors [])) (sym still)
          (state-stands-written g.H.NodeHash.digest_of g.V.VufCheck.accepted g.S.Verifier.verified lines key start old after c.add.new.self.state out out' c.args.asker.now.changes.items client monitors said (subst (λ (t : List ℕ). Appends out out' t) same (c.in_ok-write.ensures.writes.0)) (c.in_ok-add.ensures.stands lines key start old acts said changes (enough some))) in
          let up-to = subst (λ (state : Option State). IfSome state (λ s. IsUpTo client s.epoch)) (sym still) c.in_ok-add.ensures.up_to in
          let saved = c.save.ensures.kept lines key start old acts up-to stood in
          saved.0
    ]

pub returns-clause-kept : goal.returns-clause-kept
returns-clause-kept g c = λ lines key start old acts changes kept enough.
    let client = c.args.asker.now.client in
    let monitors = c.args.asker.now.monitors.items in
    let out = g.W.Write.contents c.args.writer.now in
    let out' = g.W.Write.contents c.write.new.writer in
    let said = c.args.self.now.said.text.items in
    let after : List Act → Type 0 = λ done. g.K.Keeper.has c.add.new.keeper (done ++ acts) in
    let still : c.write.new.self.state ≡ c.add.new.self.state = c.write.ensures.still ∙ c.explain_stop.ensures.still in
    let same : c.explain_stop.new.self.said.text.items ≡ said = ap (λ (r : Report). r.lines) (c.explain_stop.ensures.said ∙ ap report_of c.add.ensures.said) in
    let written = subst (λ (state : Option State). StateIsKept g.H.NodeHash.digest_of g.V.VufCheck.accepted g.S.Verifier.verified lines key start old after state out') (sym still)
    (state-written g.H.NodeHash.digest_of g.V.VufCheck.accepted g.S.Verifier.verified lines key start old after c.add.new.self.state out out' c.explain_stop.new.self.said.text.items c.write.ensures.some (c.add.ensures.kept lines key start old acts changes kept)) in
    elim (memory-cases c.args.asked) [
      | inl none ↦ let (state, keeper, same) = c.save.ensures.none none in rw (state, keeper) written
      | inr some ↦
          let stood = subst (λ (state : Option State). StateStands g.H.NodeHash.digest_of g.V.VufCheck.accepted g.S.Verifier.verified lines key start old after state out' c.args.asker.now.changes.items (standing client monitors [])) (sym still)
          (state-stands-written g.H.NodeHash.digest_of g.V.VufCheck.accepted g.S.Verifier.verified lines key start old after c.add.new.self.state out out' c.args.asker.now.changes.items client monitors said (subst (λ (t : List ℕ). Appends out out' t) same (c.in_ok-write.ensures.writes.0)) (c.in_ok-add.ensures.stands lines key start old acts said changes (enough some))) in
          let up-to = subst (λ (state : Option State). IfSome state (λ s. IsUpTo client s.epoch)) (sym still) c.in_ok-add.ensures.up_to in
          let saved = c.save.ensures.kept lines key start old acts up-to stood in
          saved.0
    ]

pub returns-clause-stands : goal.returns-clause-stands
returns-clause-stands g c = λ lines key start old acts changes stands.
    let client = c.args.asker.now.client in
    let monitors = c.args.asker.now.monitors.items in
    let out = g.W.Write.contents c.args.writer.now in
    let out' = g.W.Write.contents c.write.new.writer in
    let said = c.args.self.now.said.text.items in
    let after : List Act → Type 0 = λ done. g.K.Keeper.has c.add.new.keeper (done ++ acts) in
    let still : c.write.new.self.state ≡ c.add.new.self.state = c.write.ensures.still ∙ c.explain_stop.ensures.still in
    let same : c.explain_stop.new.self.said.text.items ≡ said = ap (λ (r : Report). r.lines) (c.explain_stop.ensures.said ∙ ap report_of c.add.ensures.said) in
    let stood = subst (λ (state : Option State). StateStands g.H.NodeHash.digest_of g.V.VufCheck.accepted g.S.Verifier.verified lines key start old after state out' c.args.asker.now.changes.items (standing client monitors [])) (sym still)
    (state-stands-written g.H.NodeHash.digest_of g.V.VufCheck.accepted g.S.Verifier.verified lines key start old after c.add.new.self.state out out' c.args.asker.now.changes.items client monitors said (subst (λ (t : List ℕ). Appends out out' t) same (c.in_ok-write.ensures.writes.0)) (c.in_ok-add.ensures.stands lines key start old acts said changes stands)) in
    let up-to = subst (λ (state : Option State). IfSome state (λ s. IsUpTo client s.epoch)) (sym still) c.in_ok-add.ensures.up_to in
    let saved = c.save.ensures.kept lines key start old acts up-to stood in
    ok_have c.save.result c.in_ok-save.was saved.1

pub returns-in_err-told-clause-kept : goal.returns-in_err-told-clause-kept
returns-in_err-told-clause-kept g c = λ lines key start old acts changes kept enough.
    saved-kept g.H.NodeHash.digest_of g.V.VufCheck.accepted g.S.Verifier.verified lines key start old (λ (done : List Act). g.K.Keeper.has c.args.keeper.now (done ++ acts)) c.args.self.now.state (g.W.Write.contents c.args.writer.now) kept

pub returns-clause-notes : goal.returns-clause-notes
returns-clause-notes g c =
    let is : c.args.asked ≡ Ok tt = search rules in
    c.save.ensures.notes (was_asked c.args.asked tt is)

pub returns-in_err-told-clause-noted : goal.returns-in_err-told-clause-noted
returns-in_err-told-clause-noted g c =
    let passed : c.from_residual.result ≡ Err (Program OutOfMemory) = search rules in
    inr (program_not c.from_residual.result OutOfMemory passed, refl)

pub returns-in_err-add-clause-noted : goal.returns-in_err-add-clause-noted
returns-in_err-add-clause-noted g c =
    let passed : c.from_residual-in_err-add.result ≡ Err (Program c.in_err-add.field-0.0) = search rules in
    inr (program_not c.from_residual-in_err-add.result c.in_err-add.field-0.0 passed, c.add.ensures.limit)

pub returns-in_err-explain_stop-clause-noted : goal.returns-in_err-explain_stop-clause-noted
returns-in_err-explain_stop-clause-noted g c =
    let passed : c.from_residual-in_err-explain_stop.result ≡ Err (Program OutOfMemory) = search rules in
    inr (program_not c.from_residual-in_err-explain_stop.result OutOfMemory passed, c.explain_stop.ensures.limit ∙ c.add.ensures.limit)

pub returns-in_err-write-clause-noted : goal.returns-in_err-write-clause-noted
returns-in_err-write-clause-noted g c =
    let passed : c.from_residual-in_err-write.result ≡ Err (Program c.in_err-write.field-0.0) = search rules in
    inr (program_not c.from_residual-in_err-write.result c.in_err-write.field-0.0 passed, c.write.ensures.limit ∙ c.explain_stop.ensures.limit ∙ c.add.ensures.limit)

pub returns-in_err-save-clause-noted : goal.returns-in_err-save-clause-noted
returns-in_err-save-clause-noted g c =
    let passed : c.from_residual-in_err-save.result ≡ Err (Program c.in_err-save.field-0.0) = search rules in
    elim (memory-cases c.args.asked) [
      | inl none ↦ inr (program_not c.from_residual-in_err-save.result c.in_err-save.field-0.0 passed, (c.save.ensures.none none).2 ∙ c.write.ensures.limit ∙ c.explain_stop.ensures.limit ∙ c.add.ensures.limit)
      | inr some ↦ inl (some, c.save.ensures.notes some)
    ]

pub returns-in_err-asked-clause-noted : goal.returns-in_err-asked-clause-noted
returns-in_err-asked-clause-noted g c =
    let fault = c.in_err-asked.field-0.0 in
    let is : c.args.asked ≡ Err fault = search rules in
    let gives : c.from_residual-in_err-asked.result ≡ Err (Ask fault) = search rules in
    elim (memory-cases c.args.asked) [
      | inl none ↦ inr ((λ settled. not_settled c.args.asked c.from_residual-in_err-asked.result fault is gives settled none), (c.save.ensures.none none).2 ∙ c.write.ensures.limit ∙ c.explain_stop.ensures.limit ∙ c.add.ensures.limit)
      | inr some ↦ inl (some, c.save.ensures.notes some)
    ]

pub returns-clause-noted : goal.returns-clause-noted
returns-clause-noted g c =
    let is : c.args.asked ≡ Ok tt = search rules in
    let some = was_asked c.args.asked tt is in
    inl (some, c.save.ensures.notes some)
