use Rattle.std.proofs.Common.{◌≡◌, Err, option_map, rules}
use Rattle.asking.specs.Exchanges.{ExchangesFrames}
use Rattle.asking.specs.Joining.{own_for}
use Rattle.asking.specs.declared.ask_fault.AskFault.TheVariants.{OutOfMemory}
use Rattle.asking.proofs.Recalling.{begins_recalled, halts_recalled, halts_unrecalled}
use Rattle.asking.proofs.asker.Asker.watch.Goals as goal

pub returns-clause-begins : goal.returns-clause-begins
returns-clause-begins g c =
    begins_recalled g.H.NodeHash.digest_of g.V.VufCheck.accepted g.S.Verifier.verified (ExchangesFrames g.T.Write.contents g.T.Read.remaining) c.args.self.now.known c.args.self.now.marks.items c.args.self.now.key (own_for c.args.self.now.marks.items c.args.name.now c.args.self.now.earlier.items c.args.self.now.changes.items) c.args.name.now (option_map (λ key. key.now) c.args.key)
    c.watch_new.result c.args.self.now c.watch_new.new.self c.args.said.now c.tell_alarms.new.said c.watch_new.new.said c.args.stream.now c.watch_new.new.stream c.in_ok-tell_alarms.ensures.tells c.watch_new.ensures.begins

pub returns-clause-halts : goal.returns-clause-halts
returns-clause-halts g c =
    halts_recalled g.H.NodeHash.digest_of g.V.VufCheck.accepted g.S.Verifier.verified (ExchangesFrames g.T.Write.contents g.T.Read.remaining) c.args.self.now.known c.args.self.now.marks.items c.args.self.now.key (own_for c.args.self.now.marks.items c.args.name.now c.args.self.now.earlier.items c.args.self.now.changes.items) c.args.name.now (option_map (λ key. key.now) c.args.key)
    c.watch_new.result c.args.self.now c.watch_new.new.self c.args.said.now c.tell_alarms.new.said c.watch_new.new.said c.args.stream.now c.in_ok-tell_alarms.ensures.tells c.watch_new.ensures.halts

pub returns-in_err-tell_alarms-clause-halts : goal.returns-in_err-tell_alarms-clause-halts
returns-in_err-tell_alarms-clause-halts g c =
    let passed : c.from_residual.result ≡ Err OutOfMemory = search rules in
    rw passed (halts_unrecalled g.H.NodeHash.digest_of g.V.VufCheck.accepted g.S.Verifier.verified (ExchangesFrames g.T.Write.contents g.T.Read.remaining) c.args.self.now.known c.args.self.now.marks.items c.args.self.now.key (own_for c.args.self.now.marks.items c.args.name.now c.args.self.now.earlier.items c.args.self.now.changes.items) c.args.name.now (option_map (λ key. key.now) c.args.key)
    c.args.self.now c.args.said.now c.tell_alarms.new.said c.args.stream.now c.in_err-tell_alarms.ensures.untold)
