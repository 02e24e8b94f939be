use Rattle.server.proofs.Conversing.{Midway}
use Rattle.server.proofs.serving.converse.Given as goal

abbrev pub invariant-loop : goal.invariant-loop
invariant-loop g l = Midway g.S.Service.answers l.fn.hub.sessions l.session l.fn.hub.service (g.R.Read.remaining l.fn.reader) (g.W.Write.contents l.fn.writer) l.hub (g.R.Read.remaining l.reader) (g.W.Write.contents l.writer)
