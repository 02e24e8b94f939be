use Rattle.asking.proofs.Tested.{shown_kept}
use Rattle.asking.proofs.asker.Asker.drop_shown.Goals as goal

pub returns-clause-tests : goal.returns-clause-tests
returns-clause-tests g c = λ yes.
    shown_kept g.H.NodeHash.digest_of g.V.VufCheck.accepted c.args.self.now.client c.args.name.now c.args.epoch c.args.reply.now c.drop_kept.new.self (c.requires c.if-not-is_accepted.false) (c.drop_kept.ensures.kept yes)
