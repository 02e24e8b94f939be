use Rattle.book.specs.Shows.{index_of}
use Rattle.commands.specs.declared.edit.Verb.TheVariants.{Change}
use Rattle.epochs.specs.DirectoryStates.{book, provider}
use Rattle.epochs.proofs.Replaying.{replays-it, unchanged-again}
use Rattle.epochs.proofs.directory.Directory.change_again.Goals as goal

pub returns-in-Ok-clause-replays : goal.returns-in-Ok-clause-replays
returns-in-Ok-clause-replays g c =
    let by = provider {R = g.row.R.Denot} g.H.NodeHash.digest_of g.V.Vuf.value_of g.S.Signer.signature_of in
    let the_book = book {R = g.row.R.Denot} g.R.Rng.stream in
    replays-it (index_of (by c.args.self.now)) (the_book c.args.self.now) Change c.args.salt c.args.name.now c.args.key.now c.bytes.ensures.limits c.bytes-2.ensures.limits
    c.in-Ok.ensures.made.0 (the_book c.rebind.new.self) c.in-Ok.ensures.made.3

pub returns-in-Err-clause-replays : goal.returns-in-Err-clause-replays
returns-in-Err-clause-replays g c =
    let by = provider {R = g.row.R.Denot} g.H.NodeHash.digest_of g.V.Vuf.value_of g.S.Signer.signature_of in
    unchanged-again g.R.Rng.stream (index_of (by c.args.self.now)) c.args.self.now c.rebind.new.self Change c.args.salt c.args.name.now c.args.key.now c.bytes.ensures.limits c.bytes-2.ensures.limits
    _ c.rebind.new.keeper c.args.what.now c.in-Err.why c.in-Err.ensures.made.0 c.in-Err.ensures.made.1
