use Rattle.std.proofs.Common.{◌∙◌, ◌++◌, ℕ, List, Option, Some, ap, subst, sym}
use Rattle.asking.specs.Reports.{report_of, Report}
use Rattle.runs.specs.Standing.{IsLeft}
use Rattle.runs.specs.Settling.{settled_line}
use Rattle.asking.specs.declared.said.Said.{Said}
use Rattle.runs.proofs.Left.{leaves_same, settles_told}
use Rattle.runs.proofs.Settled.{part_of_all, part_of_evidence, part_of_none, told_of}
use Rattle.runs.proofs.run.Run.settle_alarms.Goals as goal

pub returns-clause-settles : goal.returns-clause-settles
returns-clause-settles g c = λ empty.
    let (known, told) = c.in_ok-recall.ensures.tells empty in (
      known,
      c.in_ok-count.count,
      c.in_ok-tell_settled.ensures.tells.0 ∙ ap (λ (xs : List ℕ). xs ++ settled_line c.args.name.now c.in_ok-count.count) (ap (λ (s : Said). s.text.items) c.drop_alarms.ensures.said ∙ ap (λ (r : Report). r.lines) told),
      c.in_ok-tell_settled.ensures.tells.1 ∙ ap (λ (s : Said). s.status) c.drop_alarms.ensures.said ∙ ap (λ (r : Report). r.status) told,
    )

pub returns-clause-part : goal.returns-clause-part
returns-clause-part g c = λ empty.
    let (known, told) = c.in_ok-recall.ensures.tells empty in
    part_of_all c.args.name.now known c.in_ok-count.count c.tell_settled.new.said
    (c.in_ok-tell_settled.ensures.tells.0 ∙ ap (λ (xs : List ℕ). xs ++ settled_line c.args.name.now c.in_ok-count.count) (ap (λ (s : Said). s.text.items) c.drop_alarms.ensures.said ∙ ap (λ (r : Report). r.lines) told))
    (c.in_ok-tell_settled.ensures.tells.1 ∙ ap (λ (s : Said). s.status) c.drop_alarms.ensures.said ∙ ap (λ (r : Report). r.status) told)

pub returns-in_err-recall-clause-part : goal.returns-in_err-recall-clause-part
returns-in_err-recall-clause-part g c = λ empty. part_of_none c.args.name.now c.recall.new.self.said (c.in_err-recall.ensures.untold ∙ empty)

pub returns-in_err-count-clause-part : goal.returns-in_err-count-clause-part
returns-in_err-count-clause-part g c = λ empty.
    let (known, told) = c.in_ok-recall.ensures.tells empty in
    part_of_evidence c.args.name.now known c.drop_alarms.new.self.said (ap report_of c.drop_alarms.ensures.said ∙ told)

pub returns-in_err-tell_settled-clause-part : goal.returns-in_err-tell_settled-clause-part
returns-in_err-tell_settled-clause-part g c = λ empty.
    let (known, told) = c.in_ok-recall.ensures.tells empty in
    part_of_evidence c.args.name.now known c.tell_settled.new.said (c.in_err-tell_settled.ensures.untold ∙ ap report_of c.drop_alarms.ensures.said ∙ told)

pub returns-clause-kept : goal.returns-clause-kept
returns-clause-kept g c = λ fresh lines old acts is has.
    let left = subst (λ (out : Option (List ℕ)). IsLeft g.H.NodeHash.digest_of g.V.VufCheck.accepted g.S.Verifier.verified lines c.args.keys.now.signing_key old (λ done. g.K.Keeper.has c.recall.new.keeper (done ++ acts)) c.recall.new.self.state out) (sym is) (c.recall.ensures.left fresh lines old acts has) in
    settles_told g.H.NodeHash.digest_of g.V.VufCheck.accepted g.S.Verifier.verified lines c.args.keys.now.signing_key old (g.K.Keeper.has c.recall.new.keeper) (g.K.Keeper.has c.drop_alarms.new.keeper) acts
    (g.W.Write.contents c.args.writer.now) c.args.name.now c.recall.new.self.state left c.drop_alarms.ensures.hands

pub returns-in_err-count-clause-kept : goal.returns-in_err-count-clause-kept
returns-in_err-count-clause-kept g c = λ fresh lines old acts is has.
    let left = subst (λ (out : Option (List ℕ)). IsLeft g.H.NodeHash.digest_of g.V.VufCheck.accepted g.S.Verifier.verified lines c.args.keys.now.signing_key old (λ done. g.K.Keeper.has c.recall.new.keeper (done ++ acts)) c.recall.new.self.state out) (sym is) (c.recall.ensures.left fresh lines old acts has) in
    settles_told g.H.NodeHash.digest_of g.V.VufCheck.accepted g.S.Verifier.verified lines c.args.keys.now.signing_key old (g.K.Keeper.has c.recall.new.keeper) (g.K.Keeper.has c.drop_alarms.new.keeper) acts
    (g.W.Write.contents c.args.writer.now) c.args.name.now c.recall.new.self.state left c.drop_alarms.ensures.hands

pub returns-in_err-tell_settled-clause-kept : goal.returns-in_err-tell_settled-clause-kept
returns-in_err-tell_settled-clause-kept g c = λ fresh lines old acts is has.
    let left = subst (λ (out : Option (List ℕ)). IsLeft g.H.NodeHash.digest_of g.V.VufCheck.accepted g.S.Verifier.verified lines c.args.keys.now.signing_key old (λ done. g.K.Keeper.has c.recall.new.keeper (done ++ acts)) c.recall.new.self.state out) (sym is) (c.recall.ensures.left fresh lines old acts has) in
    settles_told g.H.NodeHash.digest_of g.V.VufCheck.accepted g.S.Verifier.verified lines c.args.keys.now.signing_key old (g.K.Keeper.has c.recall.new.keeper) (g.K.Keeper.has c.drop_alarms.new.keeper) acts
    (g.W.Write.contents c.args.writer.now) c.args.name.now c.recall.new.self.state left c.drop_alarms.ensures.hands

pub returns-in_err-recall-clause-kept : goal.returns-in_err-recall-clause-kept
returns-in_err-recall-clause-kept g c = λ fresh lines old acts is has.
    leaves_same g.H.NodeHash.digest_of g.V.VufCheck.accepted g.S.Verifier.verified lines (Some c.args.name.now) c.args.keys.now.signing_key old (g.K.Keeper.has c.recall.new.keeper) acts (Some old) c.recall.new.self.state (c.recall.ensures.left fresh lines old acts has)

pub returns-clause-drops : goal.returns-clause-drops
returns-clause-drops g c = λ fresh empty.
    told_of c.args.name.now (g.K.Keeper.has c.recall.new.keeper) (g.K.Keeper.has c.drop_alarms.new.keeper) c.in_ok-count.count c.recall.new.self.state c.drop_alarms.new.self.state (g.W.Write.contents c.args.writer.now)
    c.recall.new.self.said c.tell_settled.new.said (c.in_ok-recall.ensures.knows fresh empty) c.in_ok-count.ensures.drops
    (c.in_ok-tell_settled.ensures.tells.0 ∙ ap (λ (s : Said). s.text.items ++ settled_line c.args.name.now c.in_ok-count.count) c.drop_alarms.ensures.said) (c.in_ok-tell_settled.ensures.tells.1 ∙ ap (λ (s : Said). s.status) c.drop_alarms.ensures.said)
