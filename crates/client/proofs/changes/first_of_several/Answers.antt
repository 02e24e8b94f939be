use Rattle.std.proofs.Common.{◌≡◌, Some, List, length, slice_get, refl, sym, subst, arith}
use Rattle.std.proofs.lemmas.Option.{slice_get_read}
use Rattle.client.specs.Finality.{AreFirst, IndexedReply, IsChangedByReply, NoneStandSo}
use Rattle.client.specs.Agreements.{SpellsOne}
use Rattle.client.proofs.Breaking.{all-at}
use Rattle.client.proofs.ByIndex.{greatest-spelled}
use Rattle.client.proofs.Changed.{all-none, is-first, more-none}
use Rattle.client.proofs.changes.first_of_several.Goals as goal

pub unreachable-requires : goal.unreachable-requires
unreachable-requires c =
    let tells = c.has_change_of.ensures c.args.replies.now c.all-all.ensures.spelled c.extremes.ensures in
    let is = tells.0 c.if-has_change_of.true in
    c.in_default.ensures is.0 is.1 (subst (λ (replies : List IndexedReply). slice_get replies is.0 ≡ Some is.1) (sym c.all-all.ensures.all) is.2) is.3

pub returns-then-has_change_of : goal.returns-then-has_change_of
returns-then-has_change_of c =
    let all : List IndexedReply = c.all-all.result.now in
    let at = slice_get_read all (length all) c.loop-reply.reply-index c.reply-item.result refl c.loop-reply-test.true c.reply-item.is in
    let first = c.in-Some.ensures in
    subst (λ (replies : List IndexedReply). AreFirst IsChangedByReply replies c.reply-item.result c.in-Some.later.now) c.all-all.ensures.all
    (is-first IsChangedByReply all c.loop-reply.reply-index first.j c.reply-item.result c.in-Some.later.now c.loop-reply.invariant at first.at-other first.so first.before)

pub loop-reply-preserved : goal.loop-reply-preserved
loop-reply-preserved c =
    let all : List IndexedReply = c.all-all.result.now in
    let at = slice_get_read all (length all) c.loop-reply.reply-index c.reply-item.result refl c.loop-reply-test.true c.reply-item.is in
    let tells = c.has_change_of.ensures c.args.replies.now c.all-all.ensures.spelled c.extremes.ensures in
    more-none IsChangedByReply all c.loop-reply.reply-index c.reply-item.result c.loop-reply.invariant at
    (λ k later there is. let yes = tells.1 (k, later, subst (λ (replies : List IndexedReply). slice_get replies k ≡ Some later) c.all-all.ensures.all there, is) in let no = c.if-has_change_of.false in cc)

pub returns : goal.returns
returns c =
    let all : List IndexedReply = c.all-all.result.now in
    subst (NoneStandSo IsChangedByReply) c.all-all.ensures.all (all-none IsChangedByReply all c.loop-reply.reply-index (omega (arith, c.loop-reply-test.false)) c.loop-reply.invariant)

pub returns-then-not-is_changed : goal.returns-then-not-is_changed
returns-then-not-is_changed c = λ k l v w here there is. let holds = c.is_changed.ensures.1 (k, l, v, w, here, there, is) in let never = c.if-not-is_changed.true in cc

pub extremes-requires : goal.extremes-requires
extremes-requires c =
    let all : List IndexedReply = c.all-all.result.now in
    let at = slice_get_read all (length all) c.loop-reply.reply-index c.reply-item.result refl c.loop-reply-test.true c.reply-item.is in
    (c.loop-reply.reply-index, subst (λ (replies : List IndexedReply). slice_get replies c.loop-reply.reply-index ≡ Some c.reply-item.result) c.all-all.ensures.all at)

pub has_change_of-requires-clause-latest : goal.has_change_of-requires-clause-latest
has_change_of-requires-clause-latest c = greatest-spelled c.extremes.ensures.0

pub statement-requires : goal.statement-requires
statement-requires c =
    let all : List IndexedReply = c.all-all.result.now in
    let at = slice_get_read all (length all) c.loop-reply.reply-index c.reply-item.result refl c.loop-reply-test.true c.reply-item.is in
    all-at (λ (reply : IndexedReply). SpellsOne reply.bytes) all c.loop-reply.reply-index c.reply-item.result (rw (← c.all-all.ensures.all) at c.all-all.ensures.spelled) at

pub first_to_change-requires-clause-reply : goal.first_to_change-requires-clause-reply
first_to_change-requires-clause-reply c =
    let all : List IndexedReply = c.all-all.result.now in
    let at = slice_get_read all (length all) c.loop-reply.reply-index c.reply-item.result refl c.loop-reply-test.true c.reply-item.is in
    all-at (λ (reply : IndexedReply). SpellsOne reply.bytes) all c.loop-reply.reply-index c.reply-item.result (rw (← c.all-all.ensures.all) at c.all-all.ensures.spelled) at
