use Rattle.std.proofs.Common.{◌≡◌, ◌∙◌, List, ap, inl, inr, length, refl, subst, sym}
use Rattle.std.proofs.lemmas.List.{with_items_is}
use Rattle.monitor.specs.Monitors.{Monitor}
use Rattle.asking.specs.Following.{OneRefuses}
use Rattle.asking.proofs.Stopped.{refuses_list}
use Rattle.asking.proofs.asker.Asker.take.Goals as goal

pub returns-in_ok-tell_client-in-Err-clause-refused : goal.returns-in_ok-tell_client-in-Err-clause-refused
returns-in_ok-tell_client-in-Err-clause-refused g c =
    let refuses = refuses_list g.H.NodeHash.digest_of g.S.Verifier.verified c.args.list.now c.args.self.now.client c.update.new.self c.update.result c.in-Err.why c.in-Err.is c.update.ensures.updates
    c.in_ok-tell_client-in-Err.ensures.known in
    λ stopped. (c.in-Err.why, inl (refuses.0, refuses.1, refl), c.in_ok-tell_client-in-Err.ensures.told)

pub returns-in-Ok-clause-refused : goal.returns-in-Ok-clause-refused
returns-in-Ok-clause-refused g c =
    let old : c.deref_mut.result.now ≡ c.args.self.now.monitors.items = c.deref_mut.ensures.value in
    let long : length c.update_all.new.monitors ≡ c.args.self.now.monitors.len =
    c.update_all.auto.monitors ∙ ap (λ (all : List Monitor). length all) old ∙ sym c.args.self.now.monitors.ok.0 in
    let back = sym (with_items_is c.args.self.now.monitors c.update_all.new.monitors long) in
    let updates = rw c.in-Ok.is at c.update.ensures.updates in
    λ stopped.
    let told = c.update_all.ensures.refused stopped in
    let from = subst (λ (all : List Monitor). OneRefuses g.H.NodeHash.digest_of g.S.Verifier.verified c.args.list.now all told.0 c.update_all.new.monitors) old told.1 in
    let refuses = subst (λ (all : List Monitor). OneRefuses g.H.NodeHash.digest_of g.S.Verifier.verified c.args.list.now c.args.self.now.monitors.items told.0 all) back from in
    (told.0, inr (updates, refuses), told.2)
