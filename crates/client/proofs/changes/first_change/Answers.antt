use Rattle.std.proofs.Common.{List, MatchOption, subst}
use Rattle.client.specs.Finality.{AreFirst, IndexedReply, IsChangedByReply, NoneStandSo}
use Rattle.client.proofs.changes.first_change.Goals as goal

pub returns : goal.returns
returns c =
    subst (λ (replies : List IndexedReply). MatchOption c.first_of_several.result (NoneStandSo IsChangedByReply replies) (λ pair. AreFirst IsChangedByReply replies pair.0.now pair.1.now)) c.in_ok-several.ensures
    c.first_of_several.ensures
