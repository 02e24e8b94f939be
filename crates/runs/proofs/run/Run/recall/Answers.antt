use Rattle.std.proofs.Common.{◌∙◌}
use Rattle.memory.specs.Memories.{nothing}
use Rattle.runs.proofs.Begun.{begun-left, loaded-kept}
use Rattle.runs.proofs.Settled.{recalled, recalled_in}
use Rattle.runs.proofs.run.Run.recall.Goals as goal

pub returns-clause-tells : goal.returns-clause-tells
returns-clause-tells g c =
    λ empty. (c.in-Ok.asker.known, recalled c.in-Ok.asker.known c.args.self.now.said c.load.new.self.said c.tell_evidence.new.self.said empty c.load.ensures.said c.in_ok-tell_evidence.ensures.tells)

pub returns-in_default-clause-tells : goal.returns-in_default-clause-tells
returns-in_default-clause-tells g c = λ empty. (nothing, c.load.ensures.said ∙ empty)

pub returns-clause-knows : goal.returns-clause-knows
returns-clause-knows g c = λ fresh empty.
    let loaded = rw c.in-Ok.is at c.in_ok-asker.ensures.loads in
    recalled_in (g.K.Keeper.has c.args.keeper.now) (g.K.Keeper.has c.load.new.keeper) c.in-Ok.asker c.load.new.self.state c.tell_evidence.new.self.state c.tell_evidence.new.self.said loaded c.tell_evidence.ensures.still
    (recalled c.in-Ok.asker.known c.args.self.now.said c.load.new.self.said c.tell_evidence.new.self.said empty c.load.ensures.said c.in_ok-tell_evidence.ensures.tells)

pub returns-clause-left : goal.returns-clause-left
returns-clause-left g c = λ fresh lines old acts has.
    let loaded = rw c.in-Ok.is at c.in_ok-asker.ensures.loads in
    rw c.tell_evidence.ensures.still (loaded-kept g.H.NodeHash.digest_of g.V.VufCheck.accepted g.S.Verifier.verified lines c.args.keys.now.signing_key old c.in-Ok.asker (g.K.Keeper.has c.args.keeper.now) (g.K.Keeper.has c.load.new.keeper) acts has c.load.new.self.state loaded)

pub returns-in_err-tell_evidence-clause-left : goal.returns-in_err-tell_evidence-clause-left
returns-in_err-tell_evidence-clause-left g c = λ fresh lines old acts has.
    let loaded = rw c.in-Ok.is at c.in_ok-asker.ensures.loads in
    rw c.tell_evidence.ensures.still (loaded-kept g.H.NodeHash.digest_of g.V.VufCheck.accepted g.S.Verifier.verified lines c.args.keys.now.signing_key old c.in-Ok.asker (g.K.Keeper.has c.args.keeper.now) (g.K.Keeper.has c.load.new.keeper) acts has c.load.new.self.state loaded)

pub returns-in_default-clause-left : goal.returns-in_default-clause-left
returns-in_default-clause-left g c = λ fresh lines old acts has.
    let begun = rw c.in_default.is at c.in_ok-asker.ensures.fresh in
    begun-left g.H.NodeHash.digest_of g.V.VufCheck.accepted g.S.Verifier.verified lines c.args.keys.now.signing_key old (g.K.Keeper.has c.args.keeper.now) (g.K.Keeper.has c.load.new.keeper) acts has c.args.self.now.state c.load.new.self.state fresh begun
