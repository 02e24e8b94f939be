use Rattle.std.proofs.Common.{◌≡◌, ◌∙◌, Some, rules}
use Rattle.runs.proofs.Begun.{state_begun, state_failed}
use Rattle.runs.proofs.run.Run.load.Goals as goal

pub returns-in-Some-clause-fresh : goal.returns-in-Some-clause-fresh
returns-in-Some-clause-fresh g c =
    let was : c.args.self.now.state ≡ Some c.in-Some.state.now = search rules in
    rw was (state_begun c.load.result (g.K.Keeper.has c.args.keeper.now) (g.K.Keeper.has c.load.new.keeper) c.in-Some.state.now c.load.new.self c.load.ensures.fresh c.load.ensures.none)

pub returns-in-Some-clause-fails : goal.returns-in-Some-clause-fails
returns-in-Some-clause-fails g c =
    let was : c.args.self.now.state ≡ Some c.in-Some.state.now = search rules in
    rw was (state_failed c.load.result (g.K.Keeper.has c.args.keeper.now) (g.K.Keeper.has c.load.new.keeper) c.in-Some.state.now c.load.new.self c.load.ensures.fails)

pub returns-in-Some-clause-counts : goal.returns-in-Some-clause-counts
returns-in-Some-clause-counts g c =
    let was : c.args.self.now.state ≡ Some c.in-Some.state.now = search rules in
    rw was (λ fresh. c.load.ensures.looked.0 ∙ fresh.3)
