use Rattle.std.proofs.Common.{◌≡◌, [], ap, inr, length, refl, rules}
use Rattle.runs.specs.Loading.{list_of_one, RefusesNext, RefusesRoot}
use Rattle.runs.proofs.Named.{next_refused, refused_at, refused_so}
use Rattle.runs.proofs.Ran.{updated_key}
use Rattle.runs.proofs.lines.take_line.Goals as goal

pub returns-in-Ok-clause-same : goal.returns-in-Ok-clause-same
returns-in-Ok-clause-same g c =
    (refl, refl, refl, updated_key g.H.NodeHash.digest_of g.S.Verifier.verified c.args.asker.now.client c.update.new.self _ (rw c.in-Ok.is at c.update.ensures.updates))

pub returns-clause-names : goal.returns-clause-names
returns-clause-names g c =
    let hash = g.H.NodeHash.digest_of in
    let verified = g.S.Verifier.verified in
    let line = c.args.line.now in
    let client = c.args.asker.now.client in
    let some : line ≡ [] → ⊥ = λ is. let zero_length = ap length is in search rules in
    let list : c.deref-2.result.now ≡ list_of_one c.in_ok-root.root.items = search rules in
    refused_at c.args.number c.in-Err.why c.fault_of.result (RefusesNext (RefusesRoot hash verified) line client) c.fault_of.ensures.fault (λ other. next_refused (RefusesRoot hash verified) line client some
    (inr (c.in_ok-root.root.items, c.in_ok-root.ensures.bytes, (c.in-Err.why, other, refused_so hash verified client c.update.new.self c.deref-2.result.now (list_of_one c.in_ok-root.root.items) c.in-Err.why list c.in-Err.ensures.updates))))
