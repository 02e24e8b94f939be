use Rattle.std.proofs.Common.{◌≡◌, ◌∙◌, ◌++◌, ◌∷◌, [], ℕ, List, ap, append_assoc, sym}
use Rattle.std.proofs.Transfers.{starts_with_trans}
use Rattle.textio.specs.Lines.{lines_of}
use Rattle.memory.specs.Learning.{LearnsLine}
use Rattle.memory.proofs.Learned.{err_so, one_more, some_before}
use Rattle.memory.proofs.Taken.{lines-taken, taken_some}
use Rattle.memory.proofs.memory.Memory.learn_told.Goals as goal

pub loop-rest-preserved : goal.loop-rest-preserved
loop-rest-preserved c =
    let (done, parts, sofar) = c.loop-rest.invariant.0 in
    let line = c.first_line.result.0.now in
    let behind = lines_of c.first_line.result.1.now in
    let more : lines_of c.args.told.now ≡ done ++ line ∷ [] ++ behind = parts ∙ ap (λ (ls : List (List ℕ)). done ++ ls) c.first_line.ensures.lines ∙ sym (append_assoc done (line ∷ []) behind) in (
      (done ++ line ∷ [], more, one_more (LearnsLine c.args.kind) done line c.args.self.now c.loop-rest.self c.learn_line.new.self c.args.lines.now.items c.loop-rest.lines.items c.learn_line.new.lines.items sofar c.in_ok-learn_line.ensures.ok),
      starts_with_trans _ _ _ c.in_ok-learn_line.ensures.grows c.loop-rest.invariant.1,
    )

pub returns-in_err-learn_line-clause-err : goal.returns-in_err-learn_line-clause-err
returns-in_err-learn_line-clause-err c =
    let (done, parts, sofar) = c.loop-rest.invariant.0 in
    err_so c.from_residual.result
    (some_before (LearnsLine c.args.kind) (lines_of c.args.told.now) done (lines_of c.loop-rest.rest.now) c.args.self.now c.loop-rest.self c.learn_line.new.self c.args.lines.now.items c.loop-rest.lines.items parts sofar c.in_err-learn_line.ensures.err)

pub returns-clause-takes : goal.returns-clause-takes
returns-clause-takes c =
    let (done, parts, sofar) = c.loop-rest.invariant.0 in
    lines-taken c.args.kind done c.args.self.now c.loop-rest.self c.args.lines.now.items c.loop-rest.lines.items sofar

pub returns-in_err-learn_line-clause-some : goal.returns-in_err-learn_line-clause-some
returns-in_err-learn_line-clause-some c =
    let (done, parts, sofar) = c.loop-rest.invariant.0 in
    let taken = lines-taken c.args.kind done c.args.self.now c.loop-rest.self c.args.lines.now.items c.loop-rest.lines.items sofar in
    err_so c.from_residual.result (taken_some c.args.self.now c.loop-rest.self c.learn_line.new.self c.args.lines.now.items c.loop-rest.lines.items taken c.in_err-learn_line.ensures.err)
