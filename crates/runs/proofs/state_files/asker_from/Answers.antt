use Rattle.std.proofs.Common.{◌≡◌, Ok, Err, inr}
use Rattle.textio.specs.Lines.{lines_of}
use Rattle.client.specs.Starting.{Starts}
use Rattle.runs.specs.Loading.{IsRefused, StartsFrom, TakesRoots}
use Rattle.runs.proofs.Named.{fault_on, passed_on, refused_at, starts_not, starts_on, starts_so}
use Rattle.runs.proofs.state_files.asker_from.Goals as goal

pub returns-in-Err-clause-names : goal.returns-in-Err-clause-names
returns-in-Err-clause-names g c =
    let hash = g.H.NodeHash.digest_of in
    let verified = g.S.Verifier.verified in
    let all = lines_of c.args.lines.now in
    let line = c.first_line.result.0.now in
    let Refused = IsRefused (λ root why. Starts verified c.args.key root (Err why)) line in
    fault_on c.fault_of.result (λ bad. (bad ≡ 1) × Refused) (λ bad. StartsFrom hash verified c.args.key all (Err bad))
    (starts_not hash verified c.args.key all line (lines_of c.first_line.result.1.now) c.first_line.ensures.lines)
    (refused_at 1 c.in-Err.why c.fault_of.result Refused c.fault_of.ensures.fault
    (λ other. inr (c.in_ok-first.first.items, c.in_ok-first.ensures.bytes, (c.in-Err.why, other, starts_so verified c.args.key c.deref.result.now c.in_ok-first.first.items (Err c.in-Err.why) c.deref.ensures.value c.in-Err.ensures.err))))

pub returns-in_err-take_lines-clause-names : goal.returns-in_err-take_lines-clause-names
returns-in_err-take_lines-clause-names g c =
    let hash = g.H.NodeHash.digest_of in
    let verified = g.S.Verifier.verified in
    let all = lines_of c.args.lines.now in
    let behind = lines_of c.first_line.result.1.now in
    passed_on c.from_residual-in_err-take_lines.result c.in_err-take_lines.field-0.0 (λ bad. TakesRoots hash verified 2 behind c.in-Ok.asker.client (Err bad))
    (λ bad. StartsFrom hash verified c.args.key all (Err bad)) c.from_residual-in_err-take_lines.ensures.1
    (λ bad takes. starts_on hash verified c.args.key all c.first_line.result.0.now behind c.first_line.ensures.lines c.in-Ok.asker.client (Err bad)
    (c.in_ok-first.first.items, c.in_ok-first.ensures.bytes, starts_so verified c.args.key c.deref.result.now c.in_ok-first.first.items (Ok c.in-Ok.asker.client) c.deref.ensures.value c.in-Ok.ensures.ok) takes) c.in_err-take_lines.ensures.names
