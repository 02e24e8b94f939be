use Rattle.client.proofs.ByIndex.{greatest-spelled, some-alone, some-kept, some-more}
use Rattle.client.proofs.several.Several.with.Goals as goal
use Rattle.client.proofs.several.Several.with.Goals.{then-self, else-self}

pub has_change_with-is_changed-requires-clause-latest : goal.has_change_with-is_changed-requires-clause-latest
has_change_with-is_changed-requires-clause-latest c = greatest-spelled c.in-Some.ensures.0

pub has_change_with-is_changed-requires-clause-earliest : goal.has_change_with-is_changed-requires-clause-earliest
has_change_with-is_changed-requires-clause-earliest c = greatest-spelled c.in-Some.ensures.1

pub with-requires-clause-latest : goal.with-requires-clause-latest
with-requires-clause-latest c = greatest-spelled c.in-Some.ensures.0

pub with-requires-clause-earliest : goal.with-requires-clause-earliest
with-requires-clause-earliest c = greatest-spelled c.in-Some.ensures.1

pub returns-in_ok-with-in-Some : goal.returns-in_ok-with-in-Some
returns-in_ok-with-in-Some c =
    let spelled = rw c.self.view_is at c.self.invariant.spelled in
    let exact = rw c.self.view_is at c.self.invariant.changed in (
      c.in_ok-with-in-Some.ensures c.args.self.now c.in-Some.ensures,
      elim c.if-self.branch [
        | then-self w ↦ rw (w.is_changed-is) (some-kept c.args.self.now c.args.reply.now c.self.inside.is_changed exact w.if-self.true)
        | else-self w ↦ rw (w.is_changed-is) (some-more c.args.self.now c.args.reply.now c.self.inside.is_changed w.has_change_with-is_changed.result exact w.if-self.false (w.has_change_with-is_changed.ensures c.args.self.now spelled c.in-Some.ensures))
      ],
    )

pub returns-in_ok-of-in-None : goal.returns-in_ok-of-in-None
returns-in_ok-of-in-None c =
    let exact = rw c.self.view_is at c.self.invariant.changed in
    (c.in_ok-of-in-None.ensures c.args.self.now c.in-None.ensures, some-alone c.args.self.now c.args.reply.now c.self.inside.is_changed exact c.in-None.ensures)
