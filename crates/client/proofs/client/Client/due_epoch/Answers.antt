use Rattle.std.proofs.Common.{refl}
use Rattle.client.specs.Dues.{IsTested}
use Rattle.client.proofs.client.Client.due_epoch.Goals as goal

pub returns : goal.returns
returns g c =
    let found : IsTested c.self.inside.promises c.args.name.now c.in_ok-signed.field-0-0 c.in_ok-signed.signed.now = rw c.all.ensures at c.in_ok-signed.ensures in
    rw (← c.self.view_is) (c.in_ok-signed.field-0-0, c.in_ok-signed.signed.now, c.in_ok-root.root.now, found, (c.in_ok-root.ensures.next c.in_ok-root.root.now).0 refl, refl)
