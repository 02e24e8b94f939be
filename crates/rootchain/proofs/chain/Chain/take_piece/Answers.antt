use Rattle.std.proofs.Common.{rules, Ok, Err}
use Rattle.rootchain.specs.declared.piece_refusal.PieceRefusal.TheVariants.{Malformed}
use Rattle.rootchain.proofs.TakingPieces.{piece-grows, piece-holds}
use Rattle.rootchain.proofs.chain.Chain.take_piece.Goals as goal

pub returns-in-Taken-clause-takes : goal.returns-in-Taken-clause-takes
returns-in-Taken-clause-takes g c = search rules

pub returns-in-Taken-clause-grows : goal.returns-in-Taken-clause-grows
returns-in-Taken-clause-grows g c =
    piece-grows g.H.NodeHash.digest_of g.S.Verifier.verified {A = Unit} c.args.self.now c.args.feed.now c.args.piece.now (Ok tt) c.take_whole.new.self c.take_whole.new.feed (returns-in-Taken-clause-takes g c)

pub returns-in-Malformed-clause-takes : goal.returns-in-Malformed-clause-takes
returns-in-Malformed-clause-takes g c = search rules

pub returns-in-Malformed-clause-grows : goal.returns-in-Malformed-clause-grows
returns-in-Malformed-clause-grows g c =
    piece-grows g.H.NodeHash.digest_of g.S.Verifier.verified {A = Unit} c.args.self.now c.args.feed.now c.args.piece.now (Err Malformed) c.take_whole.new.self c.take_whole.new.feed (returns-in-Malformed-clause-takes g c)

pub returns-in-Refused-clause-takes : goal.returns-in-Refused-clause-takes
returns-in-Refused-clause-takes g c = search rules

pub returns-in-Refused-clause-grows : goal.returns-in-Refused-clause-grows
returns-in-Refused-clause-grows g c =
    piece-grows g.H.NodeHash.digest_of g.S.Verifier.verified {A = Unit} c.args.self.now c.args.feed.now c.args.piece.now (Err c.of_piece.result) c.take_whole.new.self c.take_whole.new.feed (returns-in-Refused-clause-takes g c)

pub returns-in-Refused-clause-evidence : goal.returns-in-Refused-clause-evidence
returns-in-Refused-clause-evidence g c =
    piece-holds g.H.NodeHash.digest_of g.S.Verifier.verified {A = Unit} c.args.self.now c.args.feed.now c.args.piece.now (Err c.of_piece.result) c.take_whole.new.self c.take_whole.new.feed
    (rw (← c.self.view_is) c.self.invariant) (returns-in-Refused-clause-takes g c)
