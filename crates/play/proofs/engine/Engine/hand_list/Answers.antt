use Rattle.std.proofs.Common.{◌≡◌, ◌∙◌, List, length, refl, sym, ap, subst}
use Rattle.std.specs.List.{AllByRecursion, AllZip}
use Rattle.std.specs.Prelude.{IsOk, is_ok}
use Rattle.std.proofs.lemmas.List.{with_items_is}
use Rattle.std.proofs.lemmas.Slice.Zip.{AllZip-long}
use Rattle.monitor.specs.Monitors.{Monitor}
use Rattle.play.specs.Taking.{MonitorTakes}
use Rattle.play.specs.Wanting.{MayTake}
use Rattle.play.proofs.Taken.{client-takes}
use Rattle.play.proofs.engine.Engine.hand_list.Goals.{in-Ok, in-Err}
use Rattle.play.proofs.engine.Engine.hand_list.Goals as goal

pub observe_all-requires : goal.observe_all-requires
observe_all-requires g c = let o = rw (← c.self.view_is) at c.requires.offered in record { offered = (o.roots, o.spelled, o.signed) }

pub update_all-requires : goal.update_all-requires
update_all-requires g c =
    let o = rw (← c.self.view_is) at c.requires.offered in
    let old : c.deref_mut.result.now ≡ c.self.inside.monitors.items = c.deref_mut.ensures.value in
    record { offered = subst (AllByRecursion (λ (monitor : Monitor). MayTake g.H.NodeHash.digest_of g.S.Verifier.verified c.args.list.now monitor.client.chain)) (sym old) o.monitors }

pub client_memory-requires : goal.client_memory-requires
client_memory-requires g c =
    let o = rw (← c.self.view_is) at c.requires.offered in
    o.client c.self.inside.client c.update.new.self c.update.result c.in-Err.why refl c.in-Err.is c.update.ensures.updates

pub returns : goal.returns
returns g c roots spelled = elim c.match-update.branch [
  | in-Ok w ↦
      let ok : IsOk c.update.result = ap is_ok w.in-Ok.is in
      let old : c.deref_mut.result.now ≡ c.self.inside.monitors.items = c.deref_mut.ensures.value in
      let long : length c.update_all.new.monitors ≡ c.self.inside.monitors.len =
      AllZip-long (MonitorTakes g.H.NodeHash.digest_of g.S.Verifier.verified roots) c.deref_mut.result.now c.update_all.new.monitors (c.in_ok-update_all.ensures roots spelled)
      ∙ ap (λ (ms : List Monitor). length ms) old ∙ sym c.self.inside.monitors.ok.0 in
      let all : AllZip (MonitorTakes g.H.NodeHash.digest_of g.S.Verifier.verified roots) c.self.inside.monitors.items c.update_all.new.monitors =
      subst (λ (ms : List Monitor). AllZip (MonitorTakes g.H.NodeHash.digest_of g.S.Verifier.verified roots) ms c.update_all.new.monitors) old (c.in_ok-update_all.ensures roots spelled) in
      rw (w.result-is, ← c.self.view_is) (record {
        client = client-takes g.H.NodeHash.digest_of g.S.Verifier.verified c.self.inside.client c.update.new.self c.args.list.now roots spelled c.update.result ok c.update.ensures.updates;
        auditor = c.in_ok-observe_all.ensures roots spelled;
        monitors = subst (AllZip (MonitorTakes g.H.NodeHash.digest_of g.S.Verifier.verified roots) c.self.inside.monitors.items) (sym (with_items_is c.self.inside.monitors c.update_all.new.monitors long)) all;
        hub = refl;
        key = refl;
      })
  | in-Err w ↦ rw w.result-is tt
]
