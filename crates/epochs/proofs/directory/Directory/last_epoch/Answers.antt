use Rattle.std.proofs.Common.{ap, rules}
use Rattle.rootchain.specs.declared.signed_root.SignedRoot.{SignedRoot}
use Rattle.epochs.specs.Directories.{parts_of}
use Rattle.epochs.proofs.Changing.{last_is}
use Rattle.epochs.proofs.directory.Directory.last_epoch.Goals as goal

pub returns : goal.returns
returns g c =
    rw (← c.self.view_is) (ap (λ (root : SignedRoot). root.body.epoch) (last_is _ (parts_of c.self.inside) _ _ c.self.invariant.0 c.len.result (search rules) c.index.result.now c.index.ensures))
