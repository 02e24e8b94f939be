use Rattle.std.proofs.Common.{rules, ap, subst, sym, ◌≡◌, ◌∙◌, ◌++◌, ◌∷◌, [], ℕ, List, Ok, option_map}
use Rattle.rootchain.specs.Chains.{Verifies}
use Rattle.client.specs.Starting.{Starts}
use Rattle.monitor.specs.Monitors.{Monitor, new_monitor}
use Rattle.play.specs.Parties.{Parties}
use Rattle.play.specs.declared.engine.Engine.TheInside.{Inside}
use Rattle.play.proofs.Added.{added, head-shown}
use Rattle.play.proofs.engine.Engine.add_monitor.Given.{Over}
use Rattle.play.proofs.engine.Engine.add_monitor.Goals.{in-Some, in-None}
use Rattle.play.proofs.engine.Engine.add_monitor.Goals as goal

grown : (g : Over) (inside : Inside g.row.H.Denot g.row.V.Denot g.row.S.Denot g.row.R.Denot) (parties : Parties g.row.R.Denot) (after : List Monitor) (one : Monitor)
    → record { hub = inside.hub; key = inside.key; client = inside.client; auditor = inside.auditor; monitors = inside.monitors.items } ≡ parties → after ≡ inside.monitors.items ++ one ∷ []
    → ◌≡◌ {A = Parties g.row.R.Denot} (record { hub = inside.hub; key = inside.key; client = inside.client; auditor = inside.auditor; monitors = after }) (record parties { monitors = parties.monitors ++ one ∷ [] })
grown g inside parties after one is more =
    ap (λ (items : List Monitor). let p : Parties g.row.R.Denot = record { hub = inside.hub; key = inside.key; client = inside.client; auditor = inside.auditor; monitors = items } in p) more
    ∙ ap (λ (p : Parties g.row.R.Denot). let q : Parties g.row.R.Denot = record p { monitors = p.monitors ++ one ∷ [] } in q) is

pub start-requires : goal.start-requires
start-requires g c =
    let (root, spells, verifies) = head-shown g.H.NodeHash.digest_of g.V.Vuf.value_of g.S.Signer.signature_of g.R.Rng.stream g.V.VufCheck.accepted g.S.Verifier.verified c.args.self.now c.ask.new.self c.requires.at.0
    c.in_ok-reply.reply.items c.requires.at.1 c.in_ok-reply.ensures c.body_of.result.now (λ whole form is. c.body_of.ensures whole form (c.deref.ensures.value ∙ is)) in
    let key : c.self.inside.key ≡ c.args.self.now.key = ap (λ (p : Parties g.row.R.Denot). p.key) c.self.view_is ∙ ap (λ (p : Parties g.row.R.Denot). p.key) c.in_ok-reply.ensures.others in
    (root, spells, subst (λ (k : List ℕ). Verifies g.S.Verifier.verified k root) (sym key) verifies)

pub returns-clause-added : goal.returns-clause-added
returns-clause-added g c = λ stand all.
    let key : c.match-key.key ≡ option_map (λ k. k.now) c.args.key = elim c.match-key.branch [ in-Some w ↦ search rules | in-None w ↦ search rules ] in
    let name : c.copied-2.result ≡ c.args.name.now = c.copied-2.ensures in
    let one : c.from_start.result ≡ new_monitor c.in_ok-client.client c.args.name.now (option_map (λ k. k.now) c.args.key)
    = c.from_start.ensures ∙ ap (λ (n : List ℕ). new_monitor c.in_ok-client.client n c.match-key.key) name ∙ ap (new_monitor c.in_ok-client.client c.args.name.now) key in
    let items : c.push.new.self.items ≡ c.self.inside.monitors.items ++ new_monitor c.in_ok-client.client c.args.name.now (option_map (λ k. k.now) c.args.key) ∷ []
    = c.in_ok-push.ensures.items ∙ ap (λ (m : Monitor). c.self.inside.monitors.items ++ m ∷ []) one in
    let starts : Starts g.S.Verifier.verified c.args.self.now.key c.body_of.result.now (Ok c.in_ok-client.client)
    = subst (λ (k : List ℕ). Starts g.S.Verifier.verified k c.body_of.result.now (Ok c.in_ok-client.client))
    (ap (λ (p : Parties g.row.R.Denot). p.key) c.self.view_is ∙ ap (λ (p : Parties g.row.R.Denot). p.key) c.in_ok-reply.ensures.others) c.in_ok-client.ensures in
    added g.H.NodeHash.digest_of g.V.Vuf.value_of g.S.Signer.signature_of g.R.Rng.stream g.V.VufCheck.accepted g.S.Verifier.verified c.args.self.now c.ask.new.self _ stand c.in_ok-reply.reply.items c.body_of.result.now c.args.name.now (option_map (λ k. k.now) c.args.key) c.in_ok-client.client all c.in_ok-reply.ensures
    (λ whole form is. c.body_of.ensures whole form (c.deref.ensures.value ∙ is)) starts
    (grown g c.self.inside c.ask.new.self c.push.new.self.items (new_monitor c.in_ok-client.client c.args.name.now (option_map (λ k. k.now) c.args.key)) c.self.view_is items)
