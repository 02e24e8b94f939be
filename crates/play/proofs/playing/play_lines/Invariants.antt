use Rattle.play.specs.Parties.{AreAt}
use Rattle.play.specs.Played.{Stand}
use Rattle.play.proofs.Scripted.{GoesOn}
use Rattle.play.proofs.playing.play_lines.Given as goal

abbrev pub invariant-loop-number : goal.invariant-loop-number
invariant-loop-number g l = (stand : Stand)
    → AreAt g.H.NodeHash.digest_of g.V.Vuf.value_of g.S.Signer.signature_of g.R.Rng.stream g.V.VufCheck.accepted g.S.Verifier.verified l.initial.engine stand
    → GoesOn g.H.NodeHash.digest_of g.V.Vuf.value_of g.S.Signer.signature_of g.R.Rng.stream g.V.VufCheck.accepted g.S.Verifier.verified
    l.initial.engine stand (g.I.Read.remaining l.initial.reader) (g.W.Write.contents l.initial.writer) l.number l.engine (g.I.Read.remaining l.reader) (g.W.Write.contents l.writer) l.text.items
