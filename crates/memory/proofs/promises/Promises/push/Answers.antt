use Rattle.std.proofs.Common.{◌∙◌, sym}
use Rattle.memory.specs.Memories.{signed_of}
use Rattle.memory.specs.PromiseIndex.{AreIndexed, IsIndexed}
use Rattle.memory.proofs.Indexed.{has-text, indexed-insert, indexed-same}
use Rattle.memory.proofs.Joined.{all-push}
use Rattle.memory.proofs.promises.Promises.push.Goals as goal

pub invariant_of-self : goal.invariant_of-self
invariant_of-self c = indexed-same c.self.inside.index c.insert.new.self c.self.inside.list.items c.in_err-insert.ensures.err c.self.invariant

pub invariant_of-self-in_err-push : goal.invariant_of-self-in_err-push
invariant_of-self-in_err-push c =
    rw c.in_err-push.ensures.items (indexed-insert _ c.self.inside.index c.insert.new.self _ c.self.inside.list.items c.in_ok-insert.ensures.keys c.self.invariant)

pub invariant_of-self-2 : goal.invariant_of-self-2
invariant_of-self-2 c =
    let index = c.insert.new.self in
    let before : AreIndexed index c.self.inside.list.items = indexed-insert _ c.self.inside.index index _ c.self.inside.list.items c.in_ok-insert.ensures.keys c.self.invariant in
    let here : IsIndexed index c.args.new.signed = sym (has-text index _ _ (c.in_ok-text.ensures.items ∙ c.bytes.ensures.value ∙ c.write.ensures.value)) ∙ c.in_ok-insert.ensures.updates.1 in
    rw c.in_ok-push.ensures.items (all-push signed_of (IsIndexed index) c.self.inside.list.items c.args.new before here)
