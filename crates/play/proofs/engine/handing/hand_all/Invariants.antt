use Rattle.std.specs.Prelude.{⊤}
use Rattle.rootchain.specs.Promises.{SpellsPromise}
use Rattle.rootchain.specs.declared.signed_promise.SignedPromise.{SignedPromise}
use Rattle.monitor.specs.Monitors.{Monitor}
use Rattle.play.specs.Handed.{IsHanded}
use Rattle.play.proofs.Moved.{AreMoved}
use Rattle.play.proofs.engine.handing.hand_all.Given as goal

-- the monitors before this place have the promise, and the others are as they were
abbrev pub invariant-loop-monitor : goal.invariant-loop-monitor
invariant-loop-monitor g l = AreMoved (λ (before after : Monitor). ⊤) l.fn.monitors l.monitor-index l.monitors
    × ((promised : SignedPromise) → SpellsPromise l.promise promised → AreMoved (IsHanded l.name promised) l.fn.monitors l.monitor-index l.monitors)
