use Rattle.std.proofs.Common.{Ok, ap, subst, ◌∙◌}
use Rattle.book.specs.Steps.{Promised}
use Rattle.book.specs.Shows.{Provider}
use Rattle.book.specs.Turns.{Shows}
use Rattle.epochs.specs.Directories.{state_of}
use Rattle.epochs.specs.DirectoryStates.{book, HasKeysOf}
use Rattle.epochs.specs.Replied.{promised}
use Rattle.epochs.proofs.Binding.{drawn_after, same_provider}
use Rattle.epochs.proofs.directory.Directory.accepted.Goals as goal

pub returns-clause-made : goal.returns-clause-made
returns-clause-made g c before keys is =
    let the_book = book {R = g.row.R.Denot} g.R.Rng.stream in
    let middle = state_of g.V.Vuf.public_key g.S.Signer.public_key g.H.NodeHash.digests c.self.inside in
    let keys_of : HasKeysOf before middle = rw (← c.self.view_is) at keys in (
      drawn_after (the_book before) (the_book middle) c.args.name c.args.key c.next_salt-self-inside.result (g.R.Rng.stream c.next_salt-self-inside.new.salts)
          (ap the_book c.self.view_is ∙ is) c.next_salt-self-inside.ensures.drawn,
      subst (λ (p : Provider). Shows p (record (the_book middle) { salt = c.next_salt-self-inside.result; left = g.R.Rng.stream c.next_salt-self-inside.new.salts }) (Promised c.args.name (record { key = c.args.key; salt = before.salt })) (promised (Ok c.promised.result)))
          (same_provider g.H.NodeHash.digest_of g.V.Vuf.value_of g.S.Signer.signature_of before middle keys_of) (c.promised.ensures before.salt),
    )
