use Rattle.std.proofs.Common.{◌≡◌, Some, rules}
use Rattle.runs.proofs.Keeping.{added}
use Rattle.runs.proofs.run.Run.add.Goals as goal

pub returns-in-Some-clause-adds : goal.returns-in-Some-clause-adds
returns-in-Some-clause-adds g c =
    let was : c.args.self.now.state ≡ Some c.in-Some.state.now = search rules in
    rw was (added c.add.result c.args.asker.now c.args.told.now c.in-Some.state.now c.add.new.self c.add.ensures.learns c.add.ensures.looked c.add.ensures.changes c.add.ensures.finals)

pub returns-in-Some-clause-kept : goal.returns-in-Some-clause-kept
returns-in-Some-clause-kept g c =
    let was : c.args.self.now.state ≡ Some c.in-Some.state.now = search rules in
    rw was c.add.ensures.kept

pub returns-in-Some-clause-stands : goal.returns-in-Some-clause-stands
returns-in-Some-clause-stands g c =
    let was : c.args.self.now.state ≡ Some c.in-Some.state.now = search rules in
    rw was c.add.ensures.stands
