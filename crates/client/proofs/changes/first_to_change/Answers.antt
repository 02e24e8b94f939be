use Rattle.std.proofs.Common.{length, refl, arith}
use Rattle.std.proofs.lemmas.Option.{slice_get_read}
use Rattle.client.specs.Finality.{IsChangedByReply}
use Rattle.client.proofs.Changed.{all-apart, more-apart}
use Rattle.client.proofs.changes.first_to_change.Goals as goal

pub returns-then-is_changed : goal.returns-then-is_changed
returns-then-is_changed c = record {
  j = c.loop-later.later-index;
  at-other = slice_get_read c.args.replies.now (length c.args.replies.now) c.loop-later.later-index c.later-item.result refl c.loop-later-test.true c.later-item.is;
  so = c.is_changed.ensures.0 c.if-is_changed.true;
  before = λ l w at low. c.loop-later.invariant l w low at;
}

pub loop-later-preserved : goal.loop-later-preserved
loop-later-preserved c =
    let at = slice_get_read c.args.replies.now (length c.args.replies.now) c.loop-later.later-index c.later-item.result refl c.loop-later-test.true c.later-item.is in
    more-apart (IsChangedByReply c.args.reply.now) c.args.replies.now c.loop-later.later-index c.later-item.result c.loop-later.invariant at
    (λ is. let yes = c.is_changed.ensures.1 is in let no = c.if-is_changed.false in cc)

pub returns : goal.returns
returns c = all-apart (IsChangedByReply c.args.reply.now) c.args.replies.now c.loop-later.later-index (omega (arith, c.loop-later-test.false)) c.loop-later.invariant
