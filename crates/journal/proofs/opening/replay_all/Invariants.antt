use Rattle.book.specs.Shows.{index_of}
use Rattle.epochs.specs.DirectoryStates.{book, provider, HasKeysOf}
use Rattle.journal.proofs.Replaying.{Replaying}
use Rattle.journal.proofs.opening.replay_all.Given as goal

abbrev pub invariant-loop : goal.invariant-loop
invariant-loop g l = Replaying (index_of (provider g.H.NodeHash.digest_of g.V.Vuf.value_of g.S.Signer.signature_of l.fn.directory))
    l.fn.cursor (book g.R.Rng.stream l.fn.directory) l.most l.counter l.taken l.cursor (book g.R.Rng.stream l.directory)
    × HasKeysOf l.fn.directory l.directory
