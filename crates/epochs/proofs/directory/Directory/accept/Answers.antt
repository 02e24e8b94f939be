use Rattle.std.proofs.Common.{List, ℕ, ap, ◌∙◌}
use Rattle.book.specs.Replays.{with_bound}
use Rattle.epochs.specs.DirectoryStates.{book, DirectoryState}
use Rattle.epochs.proofs.directory.Directory.accept.Goals as goal

pub returns-clause-made : goal.returns-clause-made
returns-clause-made g c =
    let bound = λ (salt : List ℕ). with_bound (book {R = g.row.R.Denot} g.R.Rng.stream c.args.self.now) c.args.name (record { key = c.args.key; salt = salt }) in
    let made = c.accepted.ensures.made c.args.self.now c.in-Ok.ensures.keys (c.in-Ok.ensures.made.1 ∙ ap (λ (kept : DirectoryState g.row.R.Denot). bound kept.salt) c.self.view_is) in
    (c.in-Ok.ensures.made.0, made.0, made.1)
