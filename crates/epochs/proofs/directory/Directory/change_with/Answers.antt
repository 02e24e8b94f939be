use Rattle.std.proofs.Common.{◌≡◌, ap, refl}
use Rattle.book.specs.Steps.{put_tests, refusal}
use Rattle.book.specs.Replays.{put_refusal}
use Rattle.book.specs.Shows.{index_of}
use Rattle.book.proofs.Calls.{refuses}
use Rattle.commands.specs.declared.edit.Verb.TheVariants.{Change}
use Rattle.commands.specs.Operations.{Edit, Put}
use Rattle.epochs.specs.DirectoryStates.{book, provider, DirectoryState}
use Rattle.epochs.proofs.KeyChangeTurns.{change_turn}
use Rattle.epochs.proofs.Reading.{name-passes}
use Rattle.epochs.proofs.Turned.{key_refused, put_within}
use Rattle.epochs.proofs.directory.Directory.change_with.Goals as goal

pub returns-in-Err-clause-turn : goal.returns-in-Err-clause-turn
returns-in-Err-clause-turn g c =
    let by = provider {R = g.row.R.Denot} g.H.NodeHash.digest_of g.V.Vuf.value_of g.S.Signer.signature_of in
    let the_book = book {R = g.row.R.Denot} g.R.Rng.stream in
    refuses (by c.args.self.now) g.K.Keeper.kept g.K.Keeper.failed (the_book c.args.self.now) c.args.keeper.now (Edit (Put Change c.args.name.now (c.args.key.now, c.args.policy))) c.in-Err.why
    (key_refused (index_of (by c.args.self.now)) (the_book c.args.self.now) Change c.args.name.now (c.args.key.now, c.args.policy) c.in-Err.why
    (name-passes c.args.name.now (c.in-Ok.ensures.limits.0 refl)) (c.in-Err.ensures (put_tests (index_of (by c.args.self.now)) (the_book c.args.self.now) Change c.args.name.now)))

pub returns-clause-turn : goal.returns-clause-turn
returns-clause-turn g c =
    let by = provider {R = g.row.R.Denot} g.H.NodeHash.digest_of g.V.Vuf.value_of g.S.Signer.signature_of in
    let the_book = book {R = g.row.R.Denot} g.R.Rng.stream in
    let within : refusal (index_of (by c.args.self.now)) (the_book c.args.self.now) (Edit (Put Change c.args.name.now (c.args.key.now, c.args.policy))) ≡ put_refusal (index_of (by c.args.self.now)) (the_book c.args.self.now) Change c.args.name.now
    = put_within (index_of (by c.args.self.now)) (the_book c.args.self.now) Change c.args.name.now (c.args.key.now, c.args.policy)
    (name-passes c.args.name.now (c.in-Ok.ensures.limits.0 refl)) (c.in-Ok-allowed_key.ensures.2 (put_tests (index_of (by c.args.self.now)) (the_book c.args.self.now) Change c.args.name.now)) in
    change_turn (by c.args.self.now) g.K.Keeper.kept g.K.Keeper.failed (the_book c.args.self.now) c.args.keeper.now c.args.name.now (c.args.key.now, c.args.policy) c.in-Ok.name c.in-Ok-allowed_key.key c.self.inside.salt
    c.in-Ok.ensures.value c.in-Ok-allowed_key.ensures.1 (ap (λ (kept : DirectoryState g.row.R.Denot). kept.salt) c.self.view_is)
    c.accept_held.result (the_book c.accept_held.new.self) c.accept_held.new.keeper within (rw (c.copied.ensures, c.copied-2.ensures) at c.accept_held.ensures.made)
