use Rattle.std.proofs.Common.{◌≡◌, ◌+◌, ◌∙◌, Ok, Err, arith, length, rules}
use Rattle.textio.specs.Lines.{lines_of}
use Rattle.memory.proofs.Recalled.{recalls-taken}
use Rattle.runs.specs.Loading.{KeepsLine, RefusesItem, RefusesNext, TakesLines}
use Rattle.runs.proofs.Marks.{within_on}
use Rattle.runs.proofs.Named.{none_left, one_refused, one_taken, passed_on}
use Rattle.runs.proofs.Remembered.{own_on, same_on}
use Rattle.runs.proofs.lines.remember_lines.Goals as goal

pub loop-rest-preserved : goal.loop-rest-preserved
loop-rest-preserved g c =
    let line = c.first_line.result.0.now in
    let behind = lines_of c.first_line.result.1.now in
    let (one, is, grown) = c.in_ok-remember_line.ensures.earlier in
    record {
      same = same_on c.args.asker.now c.loop-rest.asker c.remember_line.new.asker c.loop-rest.invariant.same c.remember_line.ensures.same;
      kept = λ keeps. c.in_ok-remember_line.ensures.kept (c.loop-rest.invariant.kept keeps);
      keeps = λ result rest. c.loop-rest.invariant.keeps result
          (one_taken (KeepsLine g.H.NodeHash.digest_of g.V.VufCheck.accepted g.S.Verifier.verified) (RefusesItem g.H.NodeHash.digest_of g.V.VufCheck.accepted g.S.Verifier.verified) (c.loop-rest.number + 1) (lines_of c.loop-rest.rest.now) line behind
          c.loop-rest.asker.client c.remember_line.new.asker.client result c.first_line.ensures.lines c.in_ok-remember_line.ensures.keeps rest);
      spells = λ result recalls. c.loop-rest.invariant.spells result (rw c.first_line.ensures.lines
          (recalls-taken (c.loop-rest.number + 1) line behind c.loop-rest.memory c.remember_line.new.memory result c.in_ok-remember_line.ensures.takes recalls));
      few = omega (arith, c.first_line.ensures.less, c.loop-rest.invariant.few);
      own = own_on (lines_of c.args.text.now) (lines_of c.loop-rest.rest.now) line behind c.args.asker.now.earlier.items c.loop-rest.asker.earlier.items c.remember_line.new.asker.earlier.items one
          c.first_line.ensures.lines is grown c.loop-rest.invariant.own;
      chain = c.remember_line.ensures.chain ∙ c.loop-rest.invariant.chain;
      changes = c.remember_line.ensures.changes ∙ c.loop-rest.invariant.changes;
      within = within_on c.args.asker.now.client.chain c.loop-rest.asker.client.chain c.loop-rest.memory c.remember_line.new.memory c.loop-rest.invariant.chain
          c.in_ok-remember_line.ensures.within c.loop-rest.invariant.within;
    }

pub returns-in_err-remember_line-clause-names : goal.returns-in_err-remember_line-clause-names
returns-in_err-remember_line-clause-names g c =
    let Keeps = KeepsLine g.H.NodeHash.digest_of g.V.VufCheck.accepted g.S.Verifier.verified in
    let Refuses = RefusesItem g.H.NodeHash.digest_of g.V.VufCheck.accepted g.S.Verifier.verified in
    passed_on c.from_residual.result c.in_err-remember_line.field-0.0 (λ bad. (bad ≡ c.loop-rest.number + 1) × RefusesNext Refuses c.first_line.result.0.now c.loop-rest.asker.client)
    (λ bad. TakesLines Keeps Refuses 1 (lines_of c.args.text.now) c.args.asker.now.client (Err bad)) c.from_residual.ensures.1
    (λ bad here. c.loop-rest.invariant.keeps (Err bad) (one_refused Keeps Refuses (c.loop-rest.number + 1) (lines_of c.loop-rest.rest.now) c.first_line.result.0.now (lines_of c.first_line.result.1.now)
    c.loop-rest.asker.client c.first_line.ensures.lines bad here)) c.in_err-remember_line.ensures.names

pub returns-clause-keeps : goal.returns-clause-keeps
returns-clause-keeps g c =
    let none : length c.loop-rest.rest.now ≡ 0 = search rules in
    c.loop-rest.invariant.keeps (Ok c.loop-rest.asker.client)
    (none_left (KeepsLine g.H.NodeHash.digest_of g.V.VufCheck.accepted g.S.Verifier.verified) (RefusesItem g.H.NodeHash.digest_of g.V.VufCheck.accepted g.S.Verifier.verified) (c.loop-rest.number + 1) c.loop-rest.rest.now c.loop-rest.asker.client none)
