use Rattle.std.proofs.Common.{◌≡◌, ◌+◌, ◌<◌, ◌++◌, ◌∷◌, [], List, get_or, length, sym, subst, take, ap, ◌∙◌}
use Rattle.std.proofs.lemmas.List.{take_more}
use Rattle.monitor.specs.Monitors.{Monitor}
use Rattle.memory.specs.Watching.{WatchedUpTo}
use Rattle.memory.proofs.watching.watched_up_to.Goals as goal

pub loop-monitor-preserved : goal.loop-monitor-preserved
loop-monitor-preserved g c =
    let monitors = c.args.monitors.now in
    let place = c.loop-monitor.monitor-index in
    let monitor = c.monitor-item.result in
    let within : place < length monitors = c.loop-monitor-test.true in
    let more : take (place + 1) monitors ≡ take place monitors ++ get_or monitors place monitor ∷ [] = take_more monitors place monitor within in
    let is : monitor ≡ get_or monitors place monitor = c.monitor-item.is in
    let front = take place monitors in
    let whole = more ∙ ap (λ (m : Monitor). front ++ m ∷ []) (sym is) in
    subst (λ (ms : List Monitor). WatchedUpTo ms c.args.name.now c.with_monitor-least.result) (sym whole) (c.with_monitor-least.ensures front c.loop-monitor.invariant)
