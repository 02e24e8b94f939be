use Rattle.audits.proofs.Midway.{Midway}
use Rattle.audits.proofs.auditing.audit_under.Given as goal

abbrev pub invariant-loop : goal.invariant-loop
invariant-loop g l =
    Midway g.H.NodeHash.digest_of g.S.Verifier.verified l.key (g.R.Read.remaining l.fn.reader) (g.W.Write.contents l.fn.writer) l.auditor (g.R.Read.remaining l.reader) (g.W.Write.contents l.writer)
