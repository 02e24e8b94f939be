use Rattle.std.proofs.Common.{◌∙◌, sym}
use Rattle.std.proofs.lemmas.Bool.{false≢true}
use Rattle.memory.specs.PromiseIndex.{IsIndexed}
use Rattle.memory.proofs.Indexed.{has-text, unindexed}
use Rattle.memory.proofs.promises.Promises.place_of.Goals as goal

pub returns-else-contains : goal.returns-else-contains
returns-else-contains c =
    let index = c.self.inside.index in
    let lacks : ¬ IsIndexed index c.args.signed.now = λ has.
    false≢true (sym c.if-contains.false ∙ c.contains.ensures ∙ has-text index _ _ (c.bytes.ensures.value ∙ c.write.ensures.value) ∙ has) in
    rw (← c.self.view_is) (unindexed index c.self.inside.list.items c.args.signed.now c.self.invariant lacks)
