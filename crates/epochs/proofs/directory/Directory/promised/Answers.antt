use Rattle.std.proofs.Common.{refl, rules}
use Rattle.epochs.specs.Directories.{parts_of}
use Rattle.epochs.proofs.Changing.{promise_shown}
use Rattle.epochs.proofs.directory.Directory.promised.Goals as goal

pub returns : goal.returns
returns g c salt = rw (← c.self.view_is, c.signed_promise.ensures) (promise_shown _ (parts_of c.self.inside) _ _ c.self.invariant.0 c.len.result (search rules) c.index.result.now c.index.ensures c.args.name c.args.index (record { key = c.args.key; salt = salt }) _ (rw (← c.self.view_is) at c.requires) refl)
