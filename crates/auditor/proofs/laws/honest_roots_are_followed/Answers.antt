use Rattle.std.proofs.Common.{[]}
use Rattle.auditor.proofs.Following.{extends, is_known}
use Rattle.auditor.proofs.InOrder.{followed}
use Rattle.auditor.proofs.laws.honest_roots_are_followed.Goals as goal

pub returns-clause-all : goal.returns-clause-all
returns-clause-all g c key roots observed answers before after is none come all =
    followed g.H.NodeHash.digest_of g.S.Verifier.verified key observed [] roots answers before after is none come all

pub returns-clause-next : goal.returns-clause-next
returns-clause-next g c chain head root told is at-head link =
    extends g.H.NodeHash.digest_of g.S.Verifier.verified chain is head root at-head link told

pub returns-clause-known : goal.returns-clause-known
returns-clause-known g c chain root told is held =
    is_known g.H.NodeHash.digest_of g.S.Verifier.verified chain is root held told
