use Rattle.std.proofs.Common.{rules, ◌≡◌, None, refl}
use Rattle.std.specs.Prelude.{option_copied}
use Rattle.monitor.specs.Views.{monitor_of}
use Rattle.monitor.proofs.Stepped.{no-next}
use Rattle.monitor.proofs.monitor.Monitor.next_epoch.Goals as goal

pub returns-in_err-root : goal.returns-in_err-root
returns-in_err-root g c =
    let none : c.from_residual.result ≡ None = search rules in
    let missing : option_copied c.after.result ≡ None = search rules in
    rw none (rw (← c.self.view_is) (no-next (monitor_of c.self.inside) (option_copied c.after.result) (rw c.chain.ensures.value at c.after.ensures.next) missing))

pub returns : goal.returns
returns g c = rw (← c.self.view_is) (c.in_ok-root.root.now, (rw c.chain.ensures.value at (c.after.ensures.next c.in_ok-root.root.now)).0 (search rules), refl)
