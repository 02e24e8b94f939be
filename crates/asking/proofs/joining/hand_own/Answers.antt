use Rattle.std.proofs.Common.{List, subst}
use Rattle.std.specs.Prelude.{OnOk}
use Rattle.rootchain.specs.declared.signed_promise.SignedPromise.{SignedPromise}
use Rattle.asking.specs.Joining.{noted_for, AllHand}
use Rattle.asking.proofs.Joined.{hands_behind}
use Rattle.asking.proofs.Outcomes.{ok_then}
use Rattle.asking.proofs.joining.hand_own.Goals as goal

pub returns : goal.returns
returns g c =
    let behind = subst (λ (noted : List SignedPromise). OnOk c.hand_all-2.result (AllHand g.H.NodeHash.digest_of g.V.VufCheck.accepted g.S.Verifier.verified noted c.hand_all.new.monitor c.hand_all-2.new.monitor))
    c.changes_for.ensures c.hand_all-2.ensures in
    ok_then c.hand_all-2.result behind (λ hands. hands_behind g.H.NodeHash.digest_of g.V.VufCheck.accepted g.S.Verifier.verified c.args.earlier.now (noted_for c.args.marks.now c.args.name.now c.args.changes.now)
    c.args.monitor.now c.hand_all.new.monitor c.hand_all-2.new.monitor c.in_ok-hand_all.ensures hands)
