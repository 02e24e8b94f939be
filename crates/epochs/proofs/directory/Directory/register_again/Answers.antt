use Rattle.std.proofs.Common.{ap}
use Rattle.book.specs.Shows.{index_of}
use Rattle.commands.specs.declared.edit.Verb.TheVariants.{Register}
use Rattle.epochs.specs.DirectoryStates.{book, provider}
use Rattle.epochs.proofs.Replaying.{kept-again, refused-again}
use Rattle.epochs.proofs.directory.Directory.register_again.Goals as goal

pub returns-in-Ok-clause-replays : goal.returns-in-Ok-clause-replays
returns-in-Ok-clause-replays g c =
    let by = provider {R = g.row.R.Denot} g.H.NodeHash.digest_of g.V.Vuf.value_of g.S.Signer.signature_of in
    let the_book = book {R = g.row.R.Denot} g.R.Rng.stream in
    kept-again g.R.Rng.stream (index_of (by c.args.self.now)) c.args.self.now c.bind.new.self Register c.args.salt c.args.name.now c.args.key.now c.bytes.ensures.limits c.bytes-2.ensures.limits
    _ c.bind.new.keeper c.args.what.now c.bind.result (the_book c.free_address.new.self) (ap the_book c.free_address.ensures.stays) c.in-Ok.ensures.opens.0 c.bind.ensures.made

pub returns-in-Err-clause-replays : goal.returns-in-Err-clause-replays
returns-in-Err-clause-replays g c =
    let by = provider {R = g.row.R.Denot} g.H.NodeHash.digest_of g.V.Vuf.value_of g.S.Signer.signature_of in
    let the_book = book {R = g.row.R.Denot} g.R.Rng.stream in
    refused-again g.R.Rng.stream (index_of (by c.args.self.now)) c.args.self.now c.free_address.new.self Register c.args.salt c.args.name.now c.args.key.now c.bytes.ensures.limits c.bytes-2.ensures.limits
    c.in-Err.why c.in-Err.ensures.opens (ap the_book c.free_address.ensures.stays)
