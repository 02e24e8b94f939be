use Rattle.std.proofs.Common.{◌≡◌, [], ap, inr, length, refl, rules}
use Rattle.memory.specs.Lines.{IsLineOf}
use Rattle.memory.specs.declared.item.Item.{Item}
use Rattle.runs.specs.Loading.{IsAccepted, KeepsLine, RefusesItem, RefusesNext}
use Rattle.runs.proofs.Marks.{within_taken}
use Rattle.runs.proofs.Named.{next_refused, next_taken, passed_here, refuses_line, refuses_none}
use Rattle.runs.proofs.lines.remember_line.Goals as goal

pub returns-clause-within : goal.returns-clause-within
returns-clause-within g c = within_taken c.args.asker.now.client.chain c.in-Some.item c.args.memory.now c.take.new.self c.in_ok-accept.ensures.marks c.in_ok-_new.ensures.takes.0

pub returns-clause-keeps : goal.returns-clause-keeps
returns-clause-keeps g c =
    let line = c.args.line.now in
    let some : line ≡ [] → ⊥ = λ is. let zero_length = ap length is in search rules in
    let is : IsLineOf line c.in-Some.item = search rules in
    next_taken (KeepsLine g.H.NodeHash.digest_of g.V.VufCheck.accepted g.S.Verifier.verified) line c.args.asker.now.client c.accept.new.asker.client some (c.in-Some.item, is, c.in_ok-accept.ensures.keeps is.0)

pub returns-in_default-clause-names : goal.returns-in_default-clause-names
returns-in_default-clause-names g c =
    let line = c.args.line.now in
    let some : line ≡ [] → ⊥ = λ is. let zero_length = ap length is in search rules in
    let none : (item : Item) → ¬ IsLineOf line item = search rules in
    let refuses = refuses_none g.H.NodeHash.digest_of g.V.VufCheck.accepted g.S.Verifier.verified c.args.asker.now.client line none in
    inr (c.args.number, refl, (refl, next_refused (RefusesItem g.H.NodeHash.digest_of g.V.VufCheck.accepted g.S.Verifier.verified) line c.args.asker.now.client some refuses))

pub returns-in_err-accept-clause-names : goal.returns-in_err-accept-clause-names
returns-in_err-accept-clause-names g c =
    let hash = g.H.NodeHash.digest_of in
    let accepted = g.V.VufCheck.accepted in
    let verified = g.S.Verifier.verified in
    let line = c.args.line.now in
    let client = c.args.asker.now.client in
    let some : line ≡ [] → ⊥ = λ is. let zero_length = ap length is in search rules in
    let is : IsLineOf line c.in-Some.item = search rules in
    passed_here c.from_residual-in_err-accept.result c.in_err-accept.field-0.0 c.args.number (¬ IsAccepted hash accepted verified client.chain c.in-Some.item) (RefusesNext (RefusesItem hash accepted verified) line client)
    c.from_residual-in_err-accept.ensures.1 (λ not_accepted. next_refused (RefusesItem hash accepted verified) line client some (refuses_line hash accepted verified client line c.in-Some.item is not_accepted)) c.in_err-accept.ensures.names
