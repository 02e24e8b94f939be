use Rattle.std.proofs.Common.{refl, rules}
use Rattle.book.specs.declared.record.Record.TheVariants as kept_as
use Rattle.book.specs.Steps.{next_page, with_page, Last}
use Rattle.commands.specs.Operations.{Edit, Turn}
use Rattle.epochs.specs.DirectoryStates.{book, provider}
use Rattle.epochs.proofs.Turned.{last_turn}
use Rattle.epochs.proofs.directory.Directory.turn.Goals as goal

pub returns-clause-turn : goal.returns-clause-turn
returns-clause-turn g c =
    let by = provider {R = g.row.R.Denot} g.H.NodeHash.digest_of g.V.Vuf.value_of g.S.Signer.signature_of in
    let the_book = book {R = g.row.R.Denot} g.R.Rng.stream in
    last_turn (by c.args.self.now) g.K.Keeper.kept g.K.Keeper.failed (the_book c.args.self.now) (with_page (the_book c.args.self.now) (next_page (the_book c.args.self.now) c.args.epoch c.args.nonce))
    c.args.keeper.now (Edit (Turn c.args.epoch c.args.nonce)) (Last (next_page (the_book c.args.self.now) c.args.epoch c.args.nonce)) (kept_as.Turned c.args.epoch c.args.nonce) (search rules) (refl, refl) refl
    c.turn_page.result (the_book c.turn_page.new.self) c.turn_page.new.keeper c.turn_page.ensures.made
