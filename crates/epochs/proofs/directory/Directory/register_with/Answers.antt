use Rattle.std.proofs.Common.{ap, refl, ◌∙◌}
use Rattle.book.specs.Steps.{put_tests}
use Rattle.book.specs.Shows.{index_of}
use Rattle.book.proofs.Calls.{refuses}
use Rattle.commands.specs.declared.edit.Verb.TheVariants.{Register}
use Rattle.commands.specs.Operations.{Edit, Put}
use Rattle.epochs.specs.DirectoryStates.{book, provider, DirectoryState}
use Rattle.epochs.proofs.Reading.{name-passes}
use Rattle.epochs.proofs.Turned.{key_refused, put_turn, put_within}
use Rattle.epochs.proofs.directory.Directory.register_with.Goals as goal

pub returns-in-Err-clause-turn : goal.returns-in-Err-clause-turn
returns-in-Err-clause-turn g c =
    let by = provider {R = g.row.R.Denot} g.H.NodeHash.digest_of g.V.Vuf.value_of g.S.Signer.signature_of in
    let the_book = book {R = g.row.R.Denot} g.R.Rng.stream in
    refuses (by c.args.self.now) g.K.Keeper.kept g.K.Keeper.failed (the_book c.args.self.now) c.args.keeper.now (Edit (Put Register c.args.name.now (c.args.key.now, c.args.policy))) c.in-Err.why
    (key_refused (index_of (by c.args.self.now)) (the_book c.args.self.now) Register c.args.name.now (c.args.key.now, c.args.policy) c.in-Err.why
    (name-passes c.args.name.now (c.in-Ok.ensures.limits.0 refl)) (c.in-Err.ensures (put_tests (index_of (by c.args.self.now)) (the_book c.args.self.now) Register c.args.name.now)))

pub returns-in-Err-free_address-clause-turn : goal.returns-in-Err-free_address-clause-turn
returns-in-Err-free_address-clause-turn g c =
    let by = provider {R = g.row.R.Denot} g.H.NodeHash.digest_of g.V.Vuf.value_of g.S.Signer.signature_of in
    let the_book = book {R = g.row.R.Denot} g.R.Rng.stream in
    let declined = refuses (by c.args.self.now) g.K.Keeper.kept g.K.Keeper.failed (the_book c.args.self.now) c.args.keeper.now (Edit (Put Register c.args.name.now (c.args.key.now, c.args.policy))) c.in-Err-free_address.why
    (put_within (index_of (by c.args.self.now)) (the_book c.args.self.now) Register c.args.name.now (c.args.key.now, c.args.policy)
    (name-passes c.args.name.now (c.in-Ok.ensures.limits.0 refl)) (c.in-Ok-allowed_key.ensures.2 (put_tests (index_of (by c.args.self.now)) (the_book c.args.self.now) Register c.args.name.now))
    ∙ rw c.in-Ok.ensures.value at c.in-Err-free_address.ensures.opens) in
    (ap the_book c.free_address.ensures.stays, declined.1)

pub returns-clause-turn : goal.returns-clause-turn
returns-clause-turn g c =
    let by = provider {R = g.row.R.Denot} g.H.NodeHash.digest_of g.V.Vuf.value_of g.S.Signer.signature_of in
    let the_book = book {R = g.row.R.Denot} g.R.Rng.stream in
    put_turn (by c.args.self.now) g.K.Keeper.kept g.K.Keeper.failed (the_book c.args.self.now) c.args.keeper.now c.args.name.now (c.args.key.now, c.args.policy)
    (by c.free_address.new.self) (the_book c.free_address.new.self) c.in-Ok.name c.in-Ok-allowed_key.key c.self.inside.salt
    (ap by c.free_address.ensures.stays) (ap the_book c.free_address.ensures.stays) c.in-Ok.ensures.value c.in-Ok-allowed_key.ensures.1
    (ap (λ (kept : DirectoryState g.row.R.Denot). kept.salt) (c.self.view_is ∙ c.free_address.ensures.stays))
    c.accept.result (the_book c.accept.new.self) c.accept.new.keeper Register
    (put_within (index_of (by c.args.self.now)) (the_book c.args.self.now) Register c.args.name.now (c.args.key.now, c.args.policy)
    (name-passes c.args.name.now (c.in-Ok.ensures.limits.0 refl)) (c.in-Ok-allowed_key.ensures.2 (put_tests (index_of (by c.args.self.now)) (the_book c.args.self.now) Register c.args.name.now))
    ∙ rw c.in-Ok.ensures.value at c.in-Ok-free_address.ensures.opens.0)
    (rw (c.copied.ensures, c.copied-2.ensures) at c.accept.ensures.made)
