use Rattle.std.proofs.Common.{◌≡◌, ◌+◌, ◌∙◌, Ok, Err, arith, length, rules}
use Rattle.textio.specs.Lines.{lines_of}
use Rattle.runs.specs.Loading.{RefusesNext, RefusesRoot, TakesLines, TakesRoot}
use Rattle.runs.proofs.Named.{none_left, one_refused, one_taken, passed_on}
use Rattle.runs.proofs.Remembered.{same_on}
use Rattle.runs.proofs.lines.take_lines.Goals as goal

pub loop-rest-preserved : goal.loop-rest-preserved
loop-rest-preserved g c = record {
  same = same_on c.args.asker.now c.loop-rest.asker c.take_line.new.asker c.loop-rest.invariant.same c.take_line.ensures.same;
  takes = λ result rest. c.loop-rest.invariant.takes result
      (one_taken (TakesRoot g.H.NodeHash.digest_of g.S.Verifier.verified) (RefusesRoot g.H.NodeHash.digest_of g.S.Verifier.verified) (c.loop-rest.number + 1) (lines_of c.loop-rest.rest.now)
      c.first_line.result.0.now (lines_of c.first_line.result.1.now) c.loop-rest.asker.client c.take_line.new.asker.client result c.first_line.ensures.lines c.in_ok-take_line.ensures.takes rest);
  few = omega (arith, c.first_line.ensures.less, c.loop-rest.invariant.few);
  earlier = c.take_line.ensures.earlier ∙ c.loop-rest.invariant.earlier;
  known = (c.take_line.ensures.known.0 ∙ c.loop-rest.invariant.known.0, c.take_line.ensures.known.1 ∙ c.loop-rest.invariant.known.1, c.take_line.ensures.known.2 ∙ c.loop-rest.invariant.known.2);
  finals = c.take_line.ensures.finals ∙ c.loop-rest.invariant.finals;
}

pub returns-in_err-take_line-clause-names : goal.returns-in_err-take_line-clause-names
returns-in_err-take_line-clause-names g c =
    let Takes = TakesRoot g.H.NodeHash.digest_of g.S.Verifier.verified in
    let Refuses = RefusesRoot g.H.NodeHash.digest_of g.S.Verifier.verified in
    passed_on c.from_residual.result c.in_err-take_line.field-0.0 (λ bad. (bad ≡ c.loop-rest.number + 1) × RefusesNext Refuses c.first_line.result.0.now c.loop-rest.asker.client)
    (λ bad. TakesLines Takes Refuses 2 (lines_of c.args.behind.now) c.args.asker.now.client (Err bad)) c.from_residual.ensures.1
    (λ bad here. c.loop-rest.invariant.takes (Err bad) (one_refused Takes Refuses (c.loop-rest.number + 1) (lines_of c.loop-rest.rest.now) c.first_line.result.0.now (lines_of c.first_line.result.1.now)
    c.loop-rest.asker.client c.first_line.ensures.lines bad here)) c.in_err-take_line.ensures.names

pub returns-clause-takes : goal.returns-clause-takes
returns-clause-takes g c =
    let none : length c.loop-rest.rest.now ≡ 0 = search rules in
    c.loop-rest.invariant.takes (Ok c.loop-rest.asker.client)
    (none_left (TakesRoot g.H.NodeHash.digest_of g.S.Verifier.verified) (RefusesRoot g.H.NodeHash.digest_of g.S.Verifier.verified) (c.loop-rest.number + 1) c.loop-rest.rest.now c.loop-rest.asker.client none)
