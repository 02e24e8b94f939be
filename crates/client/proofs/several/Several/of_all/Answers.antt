use Rattle.std.proofs.Common.{length, refl, subst, sym}
use Rattle.std.proofs.lemmas.Option.{slice_get_read}
use Rattle.proofs.specs.Views.{key_stated}
use Rattle.client.specs.Agreements.{SpellsOne}
use Rattle.client.specs.Extremes.{BytesState}
use Rattle.client.specs.Finality.{IndexedReply}
use Rattle.client.proofs.Breaking.{all-at}
use Rattle.client.proofs.several.Several.of_all.Goals as goal

pub statement-requires-in-loop-n : goal.statement-requires-in-loop-n
statement-requires-in-loop-n c =
    let at = slice_get_read c.args.list.now (length c.args.list.now) c.loop-n.n c.index-list-n.result refl c.loop-n-test.true c.index-list-n.is in
    all-at (λ (reply : IndexedReply). SpellsOne reply.bytes) c.args.list.now c.loop-n.n c.index-list-n.result c.requires.spelled at

pub push-requires : goal.push-requires
push-requires c = subst (λ (reply : IndexedReply). BytesState reply.bytes (key_stated c.statement-in-loop-n.result)) (sym c.in_ok-copied-2.ensures) c.statement-in-loop-n.ensures
