use Rattle.std.proofs.Common.{refl}
use Rattle.epochs.specs.DirectoryStates.{DirectoryState, book, provider}
use Rattle.epochs.proofs.Reading.{promise_reads}
use Rattle.epochs.proofs.directory.Directory.promise.Goals as goal

pub returns-clause-reads : goal.returns-clause-reads
returns-clause-reads g c =
    let by = λ (kept : DirectoryState _). provider g.H.NodeHash.digest_of g.V.Vuf.value_of g.S.Signer.signature_of kept in
    rw (← c.in-Ok.ensures.value)
    (promise_reads (by c.args.self.now) (book g.R.Rng.stream c.args.self.now) c.in-Ok.name _ c.promised.result (rw (← c.in-Ok.ensures.value) at (c.in-Ok.ensures.limits.0 refl)) c.in-Some.ensures.key c.promised.ensures)
