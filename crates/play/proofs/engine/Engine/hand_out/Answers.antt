use Rattle.std.proofs.Common.{ap, sym, subst, ◌≡◌, ◌∙◌, length, List}
use Rattle.std.specs.List.{AllByRecursion, AllZip}
use Rattle.std.proofs.lemmas.List.{with_items_is}
use Rattle.std.proofs.lemmas.Slice.Zip.{AllZip-long}
use Rattle.std.proofs.lemmas.Result.{on_ok_weaker}
use Rattle.commands.specs.Operations.{bound_key}
use Rattle.encoding.specs.declared.bound_key.BoundKey.{BoundKey}
use Rattle.hub.specs.Desks.{reply_frame}
use Rattle.monitor.specs.Monitors.{Monitor}
use Rattle.play.specs.Handed.{IsHanded, MayBeHanded}
use Rattle.play.specs.Parties.{Parties}
use Rattle.play.specs.declared.engine.Engine.TheInside.{Inside}
use Rattle.play.proofs.Handing.{key-fits, may-be-handed, no-promise, nothing-handed, promise-handed, spells-promise, was-promise}
use Rattle.play.proofs.engine.Engine.hand_out.Given.{Over}
use Rattle.play.proofs.engine.Engine.hand_out.Goals as goal

replaced : (g : Over) (inside : Inside g.row.H.Denot g.row.V.Denot g.row.S.Denot g.row.R.Denot) (parties : Parties g.row.R.Denot) (after : List Monitor)
    → record { hub = inside.hub; key = inside.key; client = inside.client; auditor = inside.auditor; monitors = inside.monitors.items } ≡ parties
    → ◌≡◌ {A = Parties g.row.R.Denot} (record { hub = inside.hub; key = inside.key; client = inside.client; auditor = inside.auditor; monitors = after }) (record parties { monitors = after })
replaced g inside parties after is = ap (λ (p : Parties g.row.R.Denot). let q : Parties g.row.R.Denot = record p { monitors = after } in q) is

pub returns-then-promise-eq1 : goal.returns-then-promise-eq1
returns-then-promise-eq1 g c = λ before asked verb watchers may.
    let body = c.body_of-promise.ensures (reply_frame may.was.said) may.was.read.0 may.was.frame in
    nothing-handed g.H.NodeHash.digest_of g.V.Vuf.value_of g.S.Signer.signature_of g.R.Rng.stream g.V.VufCheck.accepted g.S.Verifier.verified before asked c.args.self.now verb c.args.name.now (c.args.key.now, c.args.policy) c.args.reply.now watchers may (no-promise g.H.NodeHash.digest_of g.V.Vuf.value_of g.S.Signer.signature_of g.R.Rng.stream g.V.VufCheck.accepted g.S.Verifier.verified before asked c.args.self.now verb c.args.name.now (c.args.key.now, c.args.policy) c.args.reply.now watchers may c.body_of-promise.result.now body c.if-promise-eq1.true)

pub hand_all-requires : goal.hand_all-requires
hand_all-requires g c =
    let (before, asked, verb, watchers, may) = c.requires.asked in
    let (promised, said) = was-promise g.H.NodeHash.digest_of g.V.Vuf.value_of g.S.Signer.signature_of g.R.Rng.stream g.V.VufCheck.accepted g.S.Verifier.verified before asked c.args.self.now verb c.args.name.now (c.args.key.now, c.args.policy) c.args.reply.now watchers may c.body_of-promise.result.now (c.body_of-promise.ensures (reply_frame may.was.said) may.was.read.0 may.was.frame) c.if-promise-eq1.false in
    let spells = spells-promise g.H.NodeHash.digest_of g.V.Vuf.value_of g.S.Signer.signature_of g.R.Rng.stream g.V.VufCheck.accepted g.S.Verifier.verified before asked c.args.self.now verb c.args.name.now (c.args.key.now, c.args.policy) c.args.reply.now watchers may promised said c.body_of-promise.result.now c.body_of-promise.ensures in
    let were : c.deref_mut.result.now ≡ c.args.self.now.monitors = c.deref_mut.ensures.value ∙ ap (λ (p : Parties g.row.R.Denot). p.monitors) c.self.view_is in
    let may_all = may-be-handed g.H.NodeHash.digest_of g.V.Vuf.value_of g.S.Signer.signature_of g.R.Rng.stream g.V.VufCheck.accepted g.S.Verifier.verified before asked c.args.self.now verb c.args.name.now (c.args.key.now, c.args.policy) c.args.reply.now watchers may promised said c.body_of-promise.result.now spells in
    record {
      may = subst (λ (k : BoundKey). AllByRecursion (MayBeHanded g.H.NodeHash.digest_of g.S.Verifier.verified c.args.name.now k c.body_of-promise.result.now) c.deref_mut.result.now) (sym c.accepted_key-key.ensures)
          (subst (AllByRecursion (MayBeHanded g.H.NodeHash.digest_of g.S.Verifier.verified c.args.name.now (bound_key (c.args.key.now, c.args.policy)) c.body_of-promise.result.now)) (sym were) may_all);
    }

pub accepted_key-key-requires : goal.accepted_key-key-requires
accepted_key-key-requires g c =
    let (before, asked, verb, watchers, may) = c.requires.asked in
    let (promised, said) = was-promise g.H.NodeHash.digest_of g.V.Vuf.value_of g.S.Signer.signature_of g.R.Rng.stream g.V.VufCheck.accepted g.S.Verifier.verified before asked c.args.self.now verb c.args.name.now (c.args.key.now, c.args.policy) c.args.reply.now watchers may c.body_of-promise.result.now (c.body_of-promise.ensures (reply_frame may.was.said) may.was.read.0 may.was.frame) c.if-promise-eq1.false in
    key-fits g.H.NodeHash.digest_of g.V.Vuf.value_of g.S.Signer.signature_of g.R.Rng.stream g.V.VufCheck.accepted g.S.Verifier.verified before asked c.args.self.now verb c.args.name.now (c.args.key.now, c.args.policy) c.args.reply.now watchers may promised said

pub returns : goal.returns
returns g c = λ before asked verb watchers may.
    let (promised, said) = was-promise g.H.NodeHash.digest_of g.V.Vuf.value_of g.S.Signer.signature_of g.R.Rng.stream g.V.VufCheck.accepted g.S.Verifier.verified before asked c.args.self.now verb c.args.name.now (c.args.key.now, c.args.policy) c.args.reply.now watchers may c.body_of-promise.result.now (c.body_of-promise.ensures (reply_frame may.was.said) may.was.read.0 may.was.frame) c.if-promise-eq1.false in
    let spells = spells-promise g.H.NodeHash.digest_of g.V.Vuf.value_of g.S.Signer.signature_of g.R.Rng.stream g.V.VufCheck.accepted g.S.Verifier.verified before asked c.args.self.now verb c.args.name.now (c.args.key.now, c.args.policy) c.args.reply.now watchers may promised said c.body_of-promise.result.now c.body_of-promise.ensures in
    let old : c.deref_mut.result.now ≡ c.self.inside.monitors.items = c.deref_mut.ensures.value in
    let were : c.deref_mut.result.now ≡ c.args.self.now.monitors = old ∙ ap (λ (p : Parties g.row.R.Denot). p.monitors) c.self.view_is in
    on_ok_weaker c.hand_all.result
    (λ all.
    let long : length c.hand_all.new.monitors ≡ c.self.inside.monitors.len
    = AllZip-long (IsHanded c.args.name.now promised) c.deref_mut.result.now c.hand_all.new.monitors all ∙ ap (λ (ms : List Monitor). length ms) old ∙ sym c.self.inside.monitors.ok.0 in
    promise-handed g.H.NodeHash.digest_of g.V.Vuf.value_of g.S.Signer.signature_of g.R.Rng.stream g.V.VufCheck.accepted g.S.Verifier.verified before asked c.args.self.now verb c.args.name.now (c.args.key.now, c.args.policy) c.args.reply.now watchers may promised said _ (replaced g c.self.inside c.args.self.now _ c.self.view_is)
    (subst (λ (ms : List Monitor). AllZip (IsHanded c.args.name.now promised) c.args.self.now.monitors ms) (sym (with_items_is c.self.inside.monitors c.hand_all.new.monitors long))
    (subst (λ (ms : List Monitor). AllZip (IsHanded c.args.name.now promised) ms c.hand_all.new.monitors) were all)))
    (c.hand_all.ensures promised spells)
