use Rattle.std.proofs.Common.{◌≡◌, ◌∙◌, ◌++◌, ◌∷◌, [], Err, Global, List, Vec, ap, inl, length, option_map, refl, rules}
use Rattle.monitor.specs.Monitors.{Monitor}
use Rattle.asking.specs.Exchanges.{ExchangesFrames}
use Rattle.asking.specs.Joining.{own_for, BeginsSomeAt}
use Rattle.asking.specs.Scenes.{scene}
use Rattle.asking.specs.declared.ask_fault.AskFault.TheVariants.{OutOfMemory}
use Rattle.asking.proofs.Halted.{halts_stepping, halts_untold}
use Rattle.asking.proofs.Joined.{joins_not}
use Rattle.asking.proofs.asker.Asker.begin_watch.Goals as goal

pub returns-in_ok-tell_client-in-Err-clause-begins : goal.returns-in_ok-tell_client-in-Err-clause-begins
returns-in_ok-tell_client-in-Err-clause-begins g c =
    joins_not g.H.NodeHash.digest_of g.V.VufCheck.accepted g.S.Verifier.verified (ExchangesFrames g.T.Write.contents g.T.Read.remaining) c.args.self.now.key (own_for c.args.self.now.marks.items c.args.name.now c.args.self.now.earlier.items c.args.self.now.changes.items) c.args.name.now
    (option_map (λ key. key.now) c.args.key) c.args.self.now c.args.said.now c.args.stream.now c.args.first.now c.args.self.now.marks.items c.monitor_from.new.self c.tell_client.new.said c.in-Err.why
    c.monitor_from.ensures.same.0 (ap (λ (all : Vec Monitor Global). all.items) c.monitor_from.ensures.same.1) c.monitor_from.ensures.finals c.in_ok-tell_client-in-Err.ensures.known (c.in-Err.ensures.refused c.in_ok-tell_client-in-Err.ensures.known) c.in_ok-tell_client-in-Err.ensures.told

pub returns-in_err-push-in-Ok-clause-halts : goal.returns-in_err-push-in-Ok-clause-halts
returns-in_err-push-in-Ok-clause-halts g c =
    let passed : c.from_residual.result ≡ Err OutOfMemory = search rules in
    rw passed (halts_untold c.args.self.now (record c.monitor_from.new.self { monitors = c.push.new.self }) c.args.said.now c.args.said.now c.args.stream.now
    (BeginsSomeAt g.H.NodeHash.digest_of g.V.VufCheck.accepted g.S.Verifier.verified (ExchangesFrames g.T.Write.contents g.T.Read.remaining) c.args.self.now.marks.items c.args.self.now.key (own_for c.args.self.now.marks.items c.args.name.now c.args.self.now.earlier.items c.args.self.now.changes.items) c.args.name.now
    (option_map (λ key. key.now) c.args.key) c.args.first.now (scene c.args.self.now c.args.said.now c.args.stream.now)) (inl refl) refl)

pub returns-in_err-tell_client-in-Err-clause-halts : goal.returns-in_err-tell_client-in-Err-clause-halts
returns-in_err-tell_client-in-Err-clause-halts g c =
    let passed : c.from_residual-in_err-tell_client-in-Err.result ≡ Err OutOfMemory = search rules in
    rw passed (halts_untold c.args.self.now c.monitor_from.new.self c.args.said.now c.tell_client.new.said c.args.stream.now
    (BeginsSomeAt g.H.NodeHash.digest_of g.V.VufCheck.accepted g.S.Verifier.verified (ExchangesFrames g.T.Write.contents g.T.Read.remaining) c.args.self.now.marks.items c.args.self.now.key (own_for c.args.self.now.marks.items c.args.name.now c.args.self.now.earlier.items c.args.self.now.changes.items) c.args.name.now
    (option_map (λ key. key.now) c.args.key) c.args.first.now (scene c.args.self.now c.args.said.now c.args.stream.now)) (inl refl) c.in_err-tell_client-in-Err.ensures.untold)

pub returns-in_ok-push-in-Ok-clause-halts : goal.returns-in_ok-push-in-Ok-clause-halts
returns-in_ok-push-in-Ok-clause-halts g c =
    let same : c.monitor_from.new.self.monitors.items ≡ c.args.self.now.monitors.items = ap (λ (all : Vec Monitor Global). all.items) c.monitor_from.ensures.same.1 in
    let added : c.push.new.self.items ≡ c.args.self.now.monitors.items ++ c.in-Ok.monitor ∷ [] =
    c.in_ok-push-in-Ok.ensures.items ∙ ap (λ (all : List Monitor). all ++ c.in-Ok.monitor ∷ []) same in
    let at : c.len-place.result ≡ length c.args.self.now.monitors.items = search rules in
    halts_stepping g.H.NodeHash.digest_of g.V.VufCheck.accepted g.S.Verifier.verified (ExchangesFrames g.T.Write.contents g.T.Read.remaining) c.args.self.now.key (own_for c.args.self.now.marks.items c.args.name.now c.args.self.now.earlier.items c.args.self.now.changes.items) c.args.name.now
    (option_map (λ key. key.now) c.args.key) c.args.self.now c.args.said.now c.args.stream.now c.args.first.now c.args.self.now.marks.items c.step_through.result
    (record c.monitor_from.new.self { monitors = c.push.new.self }) c.step_through.new.self c.step_through.new.said c.in-Ok.monitor c.len-place.result c.monitor_from.ensures.same.0 c.monitor_from.ensures.finals added at
    c.in-Ok.ensures.begun c.step_through.ensures.halts
