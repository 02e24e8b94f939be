use Rattle.std.proofs.Common.{◌≡◌, ◌≢◌, [], ◌++◌, List, Err, Some, rules}
use Rattle.asking.specs.declared.ask_fault.AskFault.TheVariants.{OutOfMemory as NoMemory}
use Rattle.runs.specs.Saves.{Act}
use Rattle.runs.specs.Standing.{standing}
use Rattle.runs.proofs.Keeping.{saved}
use Rattle.runs.proofs.Written.{some-saved}
use Rattle.runs.proofs.run.Run.save.Goals as goal

pub returns-in-Some-clause-saves : goal.returns-in-Some-clause-saves
returns-in-Some-clause-saves g c =
    let was : c.args.self.now.state ≡ Some c.in-Some.state.now = search rules in
    rw was (saved (c.args.asked.now ≢ Err NoMemory) c.save.result c.args.asker.now c.args.told.now c.in-Some.state.now c.save.new.self c.save.ensures.learns c.save.ensures.looked c.save.ensures.changes c.save.ensures.finals)

pub returns-in-Some-clause-kept : goal.returns-in-Some-clause-kept
returns-in-Some-clause-kept g c =
    let was : c.args.self.now.state ≡ Some c.in-Some.state.now = search rules in
    rw was (λ lines key start old acts up-to stands.
    some-saved g.H.NodeHash.digest_of g.V.VufCheck.accepted g.S.Verifier.verified lines key start old (λ (done : List Act). g.K.Keeper.has c.save.new.keeper (done ++ acts)) c.save.result c.save.new.self (g.W.Write.contents c.args.writer.now)
    c.args.asker.now.changes.items (standing c.args.asker.now.client c.args.asker.now.monitors.items []) (c.save.ensures.kept lines key start old acts up-to stands))
