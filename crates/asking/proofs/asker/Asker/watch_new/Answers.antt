use Rattle.std.proofs.Common.{◌≡◌, Err, Some, inl, inr, option_map, refl, rules}
use Rattle.asking.specs.Exchanges.{ExchangesFrames}
use Rattle.asking.specs.Joining.{own_for, IsUnwatched, WatchesSome}
use Rattle.asking.specs.Scenes.{scene}
use Rattle.asking.specs.declared.ask_fault.AskFault.TheVariants.{OutOfMemory}
use Rattle.asking.proofs.Joined.{begins}
use Rattle.asking.proofs.Halted.{halts_begun, halts_untold}
use Rattle.asking.proofs.asker.Asker.watch_new.Goals as goal

pub returns-in_ok-begin_watch-in-FromRoot-clause-begins : goal.returns-in_ok-begin_watch-in-FromRoot-clause-begins
returns-in_ok-begin_watch-in-FromRoot-clause-begins g c =
    let unwatched : IsUnwatched c.args.self.now.client.chain c.args.name.now c.args.self.now.marks.items (Some c.in-FromRoot.first) = search rules in
    begins g.H.NodeHash.digest_of g.V.VufCheck.accepted g.S.Verifier.verified (ExchangesFrames g.T.Write.contents g.T.Read.remaining) c.args.self.now.key (own_for c.args.self.now.marks.items c.args.name.now c.args.self.now.earlier.items c.args.self.now.changes.items) c.args.name.now
    (option_map (λ key. key.now) c.args.key) c.args.self.now c.args.said.now c.args.stream.now c.in-FromRoot.first c.test_named.result c.args.self.now.marks c.begin_watch.new.self.marks
    (scene c.begin_watch.new.self c.begin_watch.new.said c.begin_watch.new.stream) (scene c.test_named.new.self c.test_named.new.said c.test_named.new.stream) unwatched c.in_ok-begin_watch-in-FromRoot.ensures.stays.2
    c.in_ok-begin_watch-in-FromRoot.ensures.begins c.test_named.ensures.tests

pub returns-in_ok-begin_watch-in-FromRoot-clause-halts : goal.returns-in_ok-begin_watch-in-FromRoot-clause-halts
returns-in_ok-begin_watch-in-FromRoot-clause-halts g c =
    let unwatched : IsUnwatched c.args.self.now.client.chain c.args.name.now c.args.self.now.marks.items (Some c.in-FromRoot.first) = search rules in
    halts_begun g.H.NodeHash.digest_of g.V.VufCheck.accepted g.S.Verifier.verified (ExchangesFrames g.T.Write.contents g.T.Read.remaining) c.args.self.now.key (own_for c.args.self.now.marks.items c.args.name.now c.args.self.now.earlier.items c.args.self.now.changes.items) c.args.name.now
    (option_map (λ key. key.now) c.args.key) c.args.self.now c.args.said.now c.args.stream.now c.in-FromRoot.first c.test_named.result c.args.self.now.marks c.begin_watch.new.self.marks
    (scene c.begin_watch.new.self c.begin_watch.new.said c.begin_watch.new.stream) c.test_named.new.self c.test_named.new.said unwatched c.in_ok-begin_watch-in-FromRoot.ensures.stays.2
    c.in_ok-begin_watch-in-FromRoot.ensures.begins c.test_named.ensures.halts

pub returns-in_err-begin_watch-in-FromRoot-clause-halts : goal.returns-in_err-begin_watch-in-FromRoot-clause-halts
returns-in_err-begin_watch-in-FromRoot-clause-halts g c =
    let unwatched : IsUnwatched c.args.self.now.client.chain c.args.name.now c.args.self.now.marks.items (Some c.in-FromRoot.first) = search rules in
    let passed : c.from_residual.result ≡ Err c.in_err-begin_watch-in-FromRoot.field-0.0 = search rules in
    let halts = c.in_err-begin_watch-in-FromRoot.ensures.halts in
    rw passed (halts.0, inr (c.in-FromRoot.first, unwatched, inl halts.1), halts.2)

pub returns-in_err-tell_watched-in-Nothing-clause-halts : goal.returns-in_err-tell_watched-in-Nothing-clause-halts
returns-in_err-tell_watched-in-Nothing-clause-halts g c =
    let passed : c.from_residual-in_err-tell_watched-in-Nothing.result ≡ Err OutOfMemory = search rules in
    rw passed (halts_untold c.args.self.now c.args.self.now c.args.said.now c.tell_watched.new.said c.args.stream.now
    (WatchesSome g.H.NodeHash.digest_of g.V.VufCheck.accepted g.S.Verifier.verified (ExchangesFrames g.T.Write.contents g.T.Read.remaining) c.args.self.now.marks.items c.args.self.now.key (own_for c.args.self.now.marks.items c.args.name.now c.args.self.now.earlier.items c.args.self.now.changes.items) c.args.name.now
    (option_map (λ key. key.now) c.args.key) (scene c.args.self.now c.args.said.now c.args.stream.now)) (inl refl) c.in_err-tell_watched-in-Nothing.ensures.untold)
